-- What is claimed of reading and writing, whatever the code. `proofs/Theorems.antt` proves `Theorems`.
use Rattle.std.specs.Prelude.{ℕ, ◌≤◌, ◌<◌, List, ◌∷◌, ◌++◌, ◌↔◌, ◌≡◌, T, length, take, get_or, Ok, Err}
use Rattle.problem.specs.declared.fault.Fault.{Fault}
use Rattle.problem.specs.declared.fault.Fault.TheVariants.{BadKind, BadLength, BadCount}
use Rattle.problem.specs.Faults.{fault_number}
use Rattle.lists.specs.Member.{All}
use Rattle.problem.specs.Problem.{Clause, Problem, Fits}
use Rattle.problem.specs.Parse.{refused, parsed, parse}
use Rattle.problem.specs.Layout.{layout, problem_in}
use Rattle.problem.specs.Print.{clause_frame, text_of}
use Rattle.problem.specs.Table.{Valid, Lawful, is_valid}
use Rattle.problem.specs.Judge.{clause_at}
use Rattle.problem.specs.Extended.{with_clause, judge_next, past_line, text_with, next_read}
use Rattle.problem.specs.Cases.{RefusalsHold}

-- the clause of a frame that is taken as the next clause line: its line is the frame's, which is no longer than a line, and the longer problem is well formed
pub record NextClause (q : Problem) (f : List ℕ) (k : Clause) : Type 0 where
  pub said : clause_frame k ≡ f
  pub short : length f ≤ 35
  pub fits : Fits (with_clause q k)

pub record Theorems : Type 0 where
  -- exactly the texts of well-formed problems are accepted, and each reads to the problem whose text it is
  pub accepted : (x : List ℕ) (q : Problem) → (parse x ≡ parsed q) ↔ (Fits q × (text_of q ≡ x))
  -- any other is refused by one of the numbers 1 to 10, at a line from 1 to 99
  pub refusals : (x : List ℕ) (e : Fault) (line : ℕ) → parse x ≡ refused e line → (1 ≤ fault_number e) × (fault_number e ≤ 10) × (1 ≤ line) × (line ≤ 99)
  -- which number and which line, text by text
  pub refusals_hold : RefusalsHold
  -- a table is 4,096 bytes, and the problem laid out in it is found in it
  pub table_length : (q : Problem) → Fits q → length (layout q) ≡ 4096
  pub problem_back : (q : Problem) → Fits q → problem_in (layout q) ≡ q
  -- a table is valid exactly if it survives writing and reading
  pub valid : (tb : List ℕ) → T (is_valid tb) ↔ Valid tb
  -- and what is found in it then keeps every bound
  pub lawful : (tb : List ℕ) → Valid tb → Lawful tb
  -- a frame's bytes as the next clause line: the refusal is the one that reading the longer text gives, and what is taken is the longer problem
  pub next_line : (q : Problem) (f : List ℕ) → Fits q → All (λ b. b < 256) f → length f ≤ 35 → get_or f 0 0 ≡ 3 → parse (text_with q f) ≡ next_read q f (judge_next q f)
  pub next_clause : (q : Problem) (f : List ℕ) (v : ℕ) → Fits q → judge_next q f ≡ Ok v → NextClause q f (clause_at q.arities f v)
  -- "no bytes, or a first byte other than 03, is 2", and 5 after 64 clauses
  pub next_kind : (q : Problem) (f : List ℕ) → (get_or f 0 0 ≡ 3 → ⊥) → judge_next q f ≡ Err BadKind
  pub next_full : (q : Problem) (f : List ℕ) → get_or f 0 0 ≡ 3 → length q.clauses ≡ 64 → judge_next q f ≡ Err BadCount
  -- a frame longer than a line is judged by the bytes that a line would hold
  pub next_longer : (q : Problem) (f : List ℕ) → Fits q → get_or f 0 0 ≡ 3 → 35 < length f → length q.clauses < 64 → judge_next q f ≡ past_line (judge_next q (take 35 f))
  -- whatever stands after a clause is left over
  pub left_over : (q : Problem) (f bs : List ℕ) (b v : ℕ) → judge_next q f ≡ Ok v → judge_next q (f ++ (b ∷ bs)) ≡ Err BadLength
  -- the text with a clause's line more is that of the problem with this clause
  pub text_longer : (q : Problem) (k : Clause) → text_with q (clause_frame k) ≡ text_of (with_clause q k)
