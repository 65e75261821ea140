-- Reading, writing and reading again, as what the operations give and leave in the lent buffers: the contracts of `read` and `write` equate them with
-- `read_result`, `read_leaves` and `write_result`, `write_leaves`. `proofs/Theorems.antt` proves `Theorems`.
use Rattle.std.specs.Prelude.{ℕ, ◌≤◌, List, ◌++◌, ◌↔◌, ◌≡◌, length, take, drop, Ok, Err}
use Rattle.problem.specs.declared.fault.Fault.{Fault}
use Rattle.problem.specs.Problem.{Problem, Fits}
use Rattle.problem.specs.Layout.{layout}
use Rattle.problem.specs.Print.{text_of, TextOfProblem}
use Rattle.problem.specs.declared.fault.Refusal.{Refusal}
use Rattle.reading.specs.Read.{read_result, read_leaves}
use Rattle.writing.specs.Write.{write_result, write_leaves}

-- a text that was read, written out into this buffer: the same text, and nothing else of the buffer changes
pub record WrittenBack (x tb out : List ℕ) : Type 0 where
  pub size : write_result tb out ≡ Ok (length x)
  pub bytes : write_leaves tb out ≡ x ++ drop (length x) out

-- a text read into this table: accepted, it leaves these 4,096 bytes
pub record ReadAgain (x own tb : List ℕ) : Type 0 where
  pub accepted : read_result x tb ≡ Ok tt
  pub bytes : read_leaves x tb ≡ own ++ drop 4096 tb

pub record Theorems : Type 0 where
  -- exactly the texts of well-formed problems are read
  pub accepted : (x tb : List ℕ) → (read_result x tb ≡ Ok tt) ↔ ((4096 ≤ length tb) × TextOfProblem x)
  -- and leave the problem's table; a refusal leaves what was there
  pub read_table : (q : Problem) (tb : List ℕ) → Fits q → 4096 ≤ length tb → read_leaves (text_of q) tb ≡ layout q ++ drop 4096 tb
  pub unread_kept : (x tb : List ℕ) (e : Refusal) → read_result x tb ≡ Err e → read_leaves x tb ≡ tb
  pub unwritten_kept : (tb out : List ℕ) (e : Fault) → write_result tb out ≡ Err e → write_leaves tb out ≡ out
  -- what was read is written out as it was
  pub read_written : (x tb out : List ℕ) → read_result x tb ≡ Ok tt → 7168 ≤ length out → WrittenBack x (read_leaves x tb) out
  -- what was written out reads to the table that was written
  pub written_read : (tb out into : List ℕ) (n : ℕ) → write_result tb out ≡ Ok n → 4096 ≤ length into → ReadAgain (take n (write_leaves tb out)) (take 4096 tb) into
  -- no two accepted texts leave the same table
  pub read_apart : (x y tb into : List ℕ) → read_result x tb ≡ Ok tt → read_result y into ≡ Ok tt
      → take 4096 (read_leaves x tb) ≡ take 4096 (read_leaves y into) → x ≡ y
