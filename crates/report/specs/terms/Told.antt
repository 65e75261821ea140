-- What a program prints of an engine's verdict, with the model's bits in the answer. Where verdict and answer are those of a walk's outcome, it is what is
-- printed of that outcome.
use Rattle.std.specs.Prelude.{ℕ, Bool, cond, get_or}
use mathlib.Core.List.{List, [], ◌∷◌, flat_map}
use Rattle.lists.specs.Tabulate.{tabulate}
use Rattle.search.specs.Machine.{Satisfied, Refuted, Exhausted}
use Rattle.lists.specs.Bytes.{is_set}
use Rattle.problem.specs.Digit.{hex_line}
use Rattle.problem.specs.Problem.{Problem, atom_count}
use Rattle.ground.specs.Report.{atoms_in_order, chosen, head_line, report}
use Rattle.ground.specs.Verdict.{verdict_numbers}
use Rattle.ground.specs.declared.verdict.Verdict.{Verdict}
use Rattle.ground.specs.declared.verdict.Verdict.TheVariants.{Refused, Satisfied as IsSatisfied, Refuted as IsRefuted, Exhausted as IsExhausted}

-- the answer's first A bytes as bits
abbrev pub answer_bits : Problem → List ℕ → List Bool
answer_bits q answer = tabulate (is_set answer) (atom_count q.constants q.arities)

-- the line of atom a, if its bit is set
abbrev pub atom_line : Problem → List ℕ → ℕ → List ℕ
atom_line q answer a = cond (is_set answer a) (hex_line (130 ∷ get_or (atoms_in_order q) a [])) []

-- a line for each atom whose bit is set
abbrev pub model_lines : Problem → List ℕ → List ℕ
model_lines q answer = flat_map (λ a. hex_line (130 ∷ a)) (chosen (answer_bits q answer) (atoms_in_order q))

unfoldable pub told : Problem → Verdict → List ℕ → List ℕ
told q (Refused e) answer = head_line (verdict_numbers (Refused e))
told q (IsSatisfied n) answer = report q (Satisfied n (answer_bits q answer))
told q (IsRefuted n) answer = report q (Refuted n)
told q (IsExhausted n) answer = report q (Exhausted n)
