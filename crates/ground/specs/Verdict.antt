-- An engine's verdict by the outcome of its walk, and the answer that it leaves.
use Rattle.std.specs.Prelude.{ℕ, List, ◌++◌, map, length, drop}
use Rattle.search.specs.Machine.{Outcome, Satisfied, Refuted, Exhausted}
use Rattle.lists.specs.Bytes.{bit}
use Rattle.problem.specs.Numbers.{Numbers, refused_as, answered}
use Rattle.ground.specs.declared.verdict.Verdict.{Verdict}
use Rattle.ground.specs.declared.verdict.Verdict.TheVariants.{Refused, Satisfied as IsSatisfied, Refuted as IsRefuted, Exhausted as IsExhausted}

abbrev pub verdict_of : Outcome → Verdict
verdict_of (Satisfied n bits) = IsSatisfied n
verdict_of (Refuted n) = IsRefuted n
verdict_of (Exhausted n) = IsExhausted n

-- "verdict (00 none, 01 fits, 02 spent)", with the count
abbrev pub verdict_numbers : Verdict → Numbers
verdict_numbers (Refused e) = refused_as e
verdict_numbers (IsRefuted n) = answered 0 n
verdict_numbers (IsSatisfied n) = answered 1 n
verdict_numbers (IsExhausted n) = answered 2 n

-- "An engine that answers fits puts 1 or 0 in the first A answer bytes; none and spent leave the answer untouched."
abbrev pub answer_of : Outcome → List ℕ → List ℕ
answer_of (Satisfied n bits) answer = map bit bits ++ drop (length bits) answer
answer_of (Refuted n) answer = answer
answer_of (Exhausted n) answer = answer
