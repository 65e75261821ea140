-- What is told of a verdict and an answer, case by case; where they are a walk's outcome, it is what is printed of that outcome.
use Prim.Native.Nat.{ℕ}
use mathlib.Core.Bool.{Bool, false}
use mathlib.Core.List.{List, ◌++◌, map, append-nil}
use mathlib.Core.Path.{◌≡◌, refl, sym, ap}
use lib.ListN.{length, drop}
use Rattle.lists.proofs.Bytes.{tabulate_of}
use Rattle.search.specs.Machine.{Outcome, Satisfied, Refuted, Exhausted}
use Rattle.lists.specs.Bytes.{is_set, bit}
use Rattle.problem.specs.Problem.{Problem, atom_count}
use Rattle.ground.specs.Report.{head_line, report}
use Rattle.ground.specs.declared.verdict.Verdict.TheVariants.{Refused, Satisfied as IsSatisfied, Refuted as IsRefuted, Exhausted as IsExhausted}
use Rattle.ground.specs.Verdict.{verdict_of, answer_of, verdict_numbers}
use Rattle.ground.proofs.AnswerLaws.{given_set}
use Rattle.report.specs.terms.Told.{answer_bits, model_lines, told}

module _ (q : Problem) (answer : List ℕ) where
  pub told-Refused : (e : ℕ) → head_line (verdict_numbers (Refused e)) ≡ told q (Refused e) answer
  unfolding told
  told-Refused e = refl

  pub told_satisfied : (n : ℕ) → head_line (verdict_numbers (IsSatisfied n)) ++ model_lines q answer ≡ told q (IsSatisfied n) answer
  unfolding told report
  told_satisfied n = refl

  pub told_refuted : (n : ℕ) → head_line (verdict_numbers (IsRefuted n)) ≡ told q (IsRefuted n) answer
  unfolding told report
  told_refuted n = sym (append-nil (head_line (verdict_numbers (IsRefuted n))))

  pub told_exhausted : (n : ℕ) → head_line (verdict_numbers (IsExhausted n)) ≡ told q (IsExhausted n) answer
  unfolding told report
  told_exhausted n = sym (append-nil (head_line (verdict_numbers (IsExhausted n))))

-- ---- the bits in an answer

bits_back : (q : Problem) (bits : List Bool) (answer : List ℕ) → length bits ≡ atom_count q.constants q.arities
    → answer_bits q (map bit bits ++ drop (length bits) answer) ≡ bits
bits_back q bits answer e =
    tabulate_of (is_set (map bit bits ++ drop (length bits) answer)) false bits (atom_count q.constants q.arities) (sym e) (given_set bits answer)

-- a model's bits are as many as the atoms
pub told-Outcome : (q : Problem) (o : Outcome) (answer : List ℕ) → ((n : ℕ) (bits : List Bool) → o ≡ Satisfied n bits → length bits ≡ atom_count q.constants q.arities)
    → told q (verdict_of o) (answer_of o answer) ≡ report q o
unfolding told
told-Outcome q (Satisfied n bits) answer all = ap (λ (bs : List Bool). report q (Satisfied n bs)) (bits_back q bits answer (all n bits refl))
told-Outcome q (Refuted n) answer all = refl
told-Outcome q (Exhausted n) answer all = refl
