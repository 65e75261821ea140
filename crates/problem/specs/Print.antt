-- Writing: the text of a problem, and of any table.
use Rattle.std.specs.Prelude.{ℕ, ◌≡◌, length}
use mathlib.Core.List.{List, [], ◌∷◌, ◌++◌, flat_map}
use Rattle.problem.specs.Digit.{hex_line}
use Rattle.problem.specs.Problem.{Atom, Clause, Problem, Fits}
use Rattle.problem.specs.Layout.{problem_in}

abbrev pub atom_bytes : Atom → List ℕ
atom_bytes a = a.pred ∷ a.args

abbrev pub heading_frame : Problem → List ℕ
heading_frame q = 1 ∷ 1 ∷ q.constants ∷ length q.arities ∷ q.limit

abbrev pub arity_frame : ℕ → List ℕ
arity_frame a = 2 ∷ a ∷ []

abbrev pub clause_frame : Clause → List ℕ
clause_frame k = 3 ∷ length k.conds ∷ length k.alts ∷ flat_map atom_bytes k.conds ++ flat_map atom_bytes k.alts

abbrev pub closing_frame : Problem → List ℕ
closing_frame q = 255 ∷ length q.clauses ∷ []

-- the lines of a problem up to its last clause, and then these bytes
abbrev pub lines_of : Problem → List ℕ → List ℕ
lines_of q last =
    hex_line (heading_frame q)
    ++ flat_map (λ a. hex_line (arity_frame a)) q.arities
    ++ flat_map (λ k. hex_line (clause_frame k)) q.clauses
    ++ last

unfoldable pub text_of : Problem → List ℕ
text_of q = lines_of q (hex_line (closing_frame q))

unfoldable pub print : List ℕ → List ℕ
print tb = text_of (problem_in tb)

-- x is the text of a well-formed problem
pub record TextOfProblem (x : List ℕ) : Type 0 where
  pub problem : Problem
  pub fits : Fits problem
  pub text : text_of problem ≡ x
