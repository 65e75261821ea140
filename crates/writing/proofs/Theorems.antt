-- The claims of `specs/Claims.antt`, proved.
use Prim.Native.Nat.{ℕ, ◌≤◌, ◌<◌}
use mathlib.Core.Bool.{Bool, true, false, not, cond}
use mathlib.Core.List.{List, ◌++◌}
use mathlib.Core.Logic.{◌⊎◌, inl, inr}
use mathlib.Core.Path.{◌≡◌, refl, sym, ap, ◌∙◌}
use native.Mathlib.Omega.{arith}
use borrow.Author.Tests.{le-ltb}
use lib.Dec.{T, ltb, ltb→lt, nltb→le}
use lib.ListN.{length, take, drop}
use lib.Seq.{take_at}
use Rattle.lists.proofs.Test.{decided, T-true}
use Rattle.problem.specs.Problem.{Problem, Fits}
use Rattle.problem.specs.Parse.{Parsed, refused, parsed, parse}
use Rattle.problem.specs.Layout.{layout, problem_in}
use Rattle.problem.specs.Print.{text_of, print, TextOfProblem}
use Rattle.problem.specs.Table.{is_valid}
use Rattle.problem.proofs.Theorems.{print_back, read_apart, valid_table, theorems as problems}
use Rattle.problem.specs.declared.fault.Fault.TheVariants.{ShortBuffer}
use Rattle.problem.specs.declared.fault.Refusal.{Refusal}
use Rattle.reading.specs.Read.{Reading, reading_of, table_of, read_result, read_leaves}
use Rattle.reading.proofs.TextRead.{read_as, text_read, table_is, table_long, table_valid}
use Rattle.std.specs.Prelude.{Result, Ok, Err}
use Rattle.problem.specs.declared.fault.Fault.{Fault}
use Rattle.writing.specs.Write.{write_result, write_leaves}
use Rattle.writing.specs.terms.Lent.{taken_of}
use Rattle.writing.specs.Claims.{WrittenBack, ReadAgain, Theorems}
use Rattle.writing.proofs.LentLaws.{says_taken, taken_by, ok_says, Taken}
use Rattle.writing.proofs.WriteLaws.{write_refused}

-- ---- reading

-- the text of a well-formed problem
text_taken : (q : Problem) (tb : List ℕ) → Fits q → 4096 ≤ length tb → (read_result (text_of q) tb ≡ Ok tt) × (read_leaves (text_of q) tb ≡ layout q ++ drop 4096 tb)
text_taken q tb fits long = read_as (text_of q) tb q ((problems.accepted (text_of q) q).1 (fits, refl)) long

unread_kept : (x tb : List ℕ) (e : Refusal) → read_result x tb ≡ Err e → read_leaves x tb ≡ tb
unfolding read_result read_leaves
unread_kept x tb e = go (ltb (length tb) 4096) (parse x)
  where
    go : (b : Bool) (o : Parsed) → ◌≡◌ {A = Reading} (cond b (Err (record { fault = ShortBuffer; line = 0 })) (reading_of o)) (Err e) → cond b tb (table_of o tb) ≡ tb
    go true o q = refl
    go false (refused i l) q = refl
    go false (parsed p) q = let z : ◌≡◌ {A = ℕ} 0 1 = cc in absurd (omega arith)

-- ---- writing

module _ (tb out : List ℕ) where
  abbrev short : Bool
  short = ltb (length out) 7168

  abbrev text : List ℕ
  text = print (take 4096 tb)

  written : Taken tb short → (Ok (length text) ≡ write_result tb out) × (text ++ drop (length text) out ≡ write_leaves tb out)
  unfolding write_result write_leaves
  written t =
      let says = says_taken tb short t in
      (ok_says tb short Err (Ok (length text)) says, ok_says tb short (λ e. out) (text ++ drop (length text) out) says)

  written_taken : (n : ℕ) → write_result tb out ≡ Ok n → Taken tb short
  written_taken n e = go (taken_of tb short) refl
    where
      go : (o : Result (Unit {0}) Fault) → taken_of tb short ≡ o → Taken tb short
      go (Err i) q = let z = (write_refused tb out q).0 in cc
      go (Ok u) q = taken_by tb short q

  unwritten_kept : (e : Fault) → write_result tb out ≡ Err e → write_leaves tb out ≡ out
  unwritten_kept e w = go (taken_of tb short) refl
    where
      go : (o : Result (Unit {0}) Fault) → taken_of tb short ≡ o → write_leaves tb out ≡ out
      go (Err i) q = sym (write_refused tb out q).1
      go (Ok u) q = let z = (written (taken_by tb short q)).0 in cc

-- ---- reading, writing, and reading again

accepted_text : (x tb : List ℕ) → read_result x tb ≡ Ok tt → (4096 ≤ length tb) × TextOfProblem x
accepted_text x tb e =
    let r = text_read x tb e in
    let f = (problems.accepted x r.problem).0 r.accepted in
    (r.long, record { problem = r.problem; fits = f.0; text = f.1 })

text_accepted : (x tb : List ℕ) → (4096 ≤ length tb) × TextOfProblem x → read_result x tb ≡ Ok tt
text_accepted x tb h =
    rw (← h.1.text) (text_taken h.1.problem tb h.1.fits h.0).0

read_written : (x tb out : List ℕ) → read_result x tb ≡ Ok tt → 7168 ≤ length out → WrittenBack x (read_leaves x tb) out
read_written x tb out e room =
    let r = text_read x tb e in
    let left = read_leaves x tb in
    let same : print (take 4096 left) ≡ x = ap print (table_is x tb r) ∙ print_back x r.problem r.accepted in
    let valid : is_valid (take 4096 left) ≡ true = T-true (is_valid (take 4096 left)) ((problems.valid (take 4096 left)).1 (table_valid x tb r)) in
    let says = written left out (record { long = table_long x tb r; room = le-ltb (length out) 7168 room; valid = valid }) in
    record { size = sym says.0 ∙ rw same; bytes = sym says.1 ∙ rw same }

written_read : (tb out into : List ℕ) (n : ℕ) → write_result tb out ≡ Ok n → 4096 ≤ length into → ReadAgain (take n (write_leaves tb out)) (take 4096 tb) into
unfolding print
written_read tb out into n e long =
    let t = written_taken tb out n e in
    let says = written tb out t in
    let own = take 4096 tb in
    let q = problem_in own in
    let lawful = valid_table own t.valid in
    let size : length (print own) ≡ n = cc in
    let same : take n (write_leaves tb out) ≡ text_of q = rw (← says.1) (take_at (print own) (drop (length (print own)) out) n size) in
    let r = text_taken q into lawful.fits long in
    record {
      accepted = rw same r.0;
      bytes = rw same (r.1 ∙ ap (λ (bs : List ℕ). bs ++ drop 4096 into) lawful.laid);
    }

tables_apart : (x y tb into : List ℕ) → read_result x tb ≡ Ok tt → read_result y into ≡ Ok tt → take 4096 (read_leaves x tb) ≡ take 4096 (read_leaves y into) → x ≡ y
tables_apart x y tb into e f same =
    let r = text_read x tb e in
    let s = text_read y into f in
    read_apart x y r.problem s.problem r.accepted s.accepted (sym (table_is x tb r) ∙ same ∙ table_is y into s)

pub theorems : Theorems
theorems =
    record {
      accepted = λ x tb. (accepted_text x tb, text_accepted x tb);
      read_table = λ q tb fits long. (text_taken q tb fits long).1;
      unread_kept = unread_kept;
      unwritten_kept = unwritten_kept;
      read_written = read_written;
      written_read = written_read;
      read_apart = tables_apart;
    }
