-- The ground problem that a problem stands for: its instances and the numbers of its atoms.
use Rattle.std.specs.Prelude.{ℕ, ◌+◌, ◌-◌, ◌<◌, cond, ◌≡◌, ltb, length, get_or}
use mathlib.Core.List.{List, [], map, flat_map}
use Rattle.lists.specs.Digits.{horner, tuples}
use Rattle.lists.specs.Member.{All}
use Rattle.lists.specs.Tabulate.{tabulate}
use Rattle.search.specs.Ground.{Ground}
use Rattle.problem.specs.Layout.{problem_in}
use Rattle.problem.specs.Problem.{Atom, Clause, Problem, atom_count, first_atom}

-- "An instance puts a constant for each variable": a clause's number, and the values of its variables 80, 81, 82, 83 in that order
pub record Instance : Type 0 where
  pub clause : ℕ
  pub values : List ℕ

-- an argument: a constant, or a variable's value
abbrev pub value_of : List ℕ → ℕ → ℕ
value_of values b = cond (ltb b 128) b (get_or values (b - 128) 0)

-- "Atoms are numbered by predicate, then by arguments with the first one slowest."
abbrev pub ground_number : ℕ → List ℕ → ℕ → List ℕ → ℕ
ground_number c arities p args = first_atom c arities p + horner c args

-- the number of an atom once its variables have values
abbrev pub number : ℕ → List ℕ → List ℕ → Atom → ℕ
number c arities values a = ground_number c arities a.pred (map (value_of values) a.args)

-- a ground atom: a predicate, and as many constants as it takes
pub record GroundAtom (c : ℕ) (arities : List ℕ) (p : ℕ) (args : List ℕ) : Type 0 where
  pub known : p < length arities
  pub arity : length args ≡ get_or arities p 0
  pub below : All (λ d. d < c) args

-- the ground atom that has a number
pub record AtomOf (c : ℕ) (arities : List ℕ) (n : ℕ) : Type 0 where
  pub pred : ℕ
  pub args : List ℕ
  pub atom : GroundAtom c arities pred args
  pub numbered : ground_number c arities pred args ≡ n

abbrev pub no_clause : Clause
no_clause = record { vars = 0; conds = []; alts = [] }

abbrev pub clause_of : Problem → ℕ → Clause
clause_of q k = get_or q.clauses k no_clause

-- an instance: a clause, and a constant for each of its variables
pub record InstanceOf (q : Problem) (i : Instance) : Type 0 where
  pub known : i.clause < length q.clauses
  pub each_variable : length i.values ≡ (clause_of q i.clause).vars
  pub constants : All (λ d. d < q.constants) i.values

-- the instances of a clause: "order is by clause, then by the values of 80, 81, 82, 83 with 80 slowest"
abbrev pub instances_of : Problem → ℕ → List Instance
instances_of q k = map (λ values. record { clause = k; values = values }) (tuples q.constants (clause_of q k).vars)

abbrev pub ground_atoms : Problem → List ℕ → List Atom → List ℕ
ground_atoms q values atoms = map (number q.constants q.arities values) atoms

unfoldable pub ground_of : Problem → Ground Instance
ground_of q =
    record {
      atoms = atom_count q.constants q.arities;
      instances = flat_map (instances_of q) (tabulate (λ k. k) (length q.clauses));
      conds = λ i. ground_atoms q i.values (clause_of q i.clause).conds;
      alts = λ i. ground_atoms q i.values (clause_of q i.clause).alts;
    }

-- the ground problem of a table
abbrev pub ground_in : List ℕ → Ground Instance
ground_in tb = ground_of (problem_in tb)
