-- What the programs print: "81, verdict (00 none, 01 fits, 02 spent), count (4 bytes); after fits, one line per atom in the fitting, in number
-- order: 82, predicate, arguments. A refusal prints 8F, number, line (2 bytes, high byte first, as the count is)."
use Rattle.std.specs.Prelude.{ℕ, Bool, true, false, cond, eqb, length, get_or}
use mathlib.Core.List.{List, [], ◌∷◌, ◌++◌, map, flat_map}
use Rattle.lists.specs.Digits.{bytes_of, tuples}
use Rattle.lists.specs.Tabulate.{tabulate}
use Rattle.search.specs.Machine.{Outcome, Satisfied, Refuted, Exhausted}
use Rattle.problem.specs.Digit.{hex_line}
use Rattle.problem.specs.Problem.{Problem}
use Rattle.problem.specs.Numbers.{Numbers}
use Rattle.ground.specs.Verdict.{verdict_of, verdict_numbers}

-- the ground atoms in number order, each as its predicate and arguments
abbrev pub atoms_in_order : Problem → List (List ℕ)
atoms_in_order q =
    flat_map (λ p. map (λ args. p ∷ args) (tuples q.constants (get_or q.arities p 0))) (tabulate (λ p. p) (length q.arities))

-- those whose bit is true
abbrev pub chosen : List Bool → List (List ℕ) → List (List ℕ)
chosen [] atoms = []
chosen (b ∷ bits) [] = []
chosen (true ∷ bits) (a ∷ atoms) = a ∷ chosen bits atoms
chosen (false ∷ bits) (a ∷ atoms) = chosen bits atoms

-- the first line: of a refusal 8F, its number and its line; else 81, the verdict and the count
abbrev pub head_line : Numbers → List ℕ
head_line a = cond (eqb a.refusal 0) (hex_line (129 ∷ a.number ∷ bytes_of 4 a.value)) (hex_line (143 ∷ a.refusal ∷ bytes_of 2 a.value))

-- a line for each atom of a model
abbrev pub model_lines : Problem → Outcome → List ℕ
model_lines q (Satisfied n bits) = flat_map (λ a. hex_line (130 ∷ a)) (chosen bits (atoms_in_order q))
model_lines q (Refuted n) = []
model_lines q (Exhausted n) = []

unfoldable pub report : Problem → Outcome → List ℕ
report q o = head_line (verdict_numbers (verdict_of o)) ++ model_lines q o
