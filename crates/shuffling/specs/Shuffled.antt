-- U13, sheets shuffled by hand: the same clauses in another order of lines, with the constants renumbered one to one throughout.
use Rattle.std.specs.Prelude.{ℕ, ◌<◌, cond, List, [], ◌∷◌, map, ◌≡◌, eqb, ltb}
use Rattle.problem.specs.Problem.{Atom, Clause, Problem}

-- the same elements, each as often, in any order
pub data Permuted {A : Type 0} : List A → List A → Type 0 where
  none_left : Permuted [] []
  same_first : (x : A) (xs ys : List A) → Permuted xs ys → Permuted (x ∷ xs) (x ∷ ys)
  swapped : (x y : A) (xs : List A) → Permuted (x ∷ y ∷ xs) (y ∷ x ∷ xs)
  one_by_one : (xs ys zs : List A) → Permuted xs ys → Permuted ys zs → Permuted xs zs

-- an argument: a constant goes by σ, a variable stays
abbrev pub argument_by : (ℕ → ℕ) → ℕ → ℕ
argument_by σ b = cond (ltb b 128) (σ b) b

abbrev pub atom_by : (ℕ → ℕ) → Atom → Atom
atom_by σ a = record { pred = a.pred; args = map (argument_by σ) a.args }

abbrev pub clause_by : (ℕ → ℕ) → Clause → Clause
clause_by σ k = record { vars = k.vars; conds = map (atom_by σ) k.conds; alts = map (atom_by σ) k.alts }

-- σ renumbers the constants below c one to one
pub record OneToOne (c : ℕ) (σ : ℕ → ℕ) : Type 0 where
  pub below : (d : ℕ) → d < c → σ d < c
  pub apart : (d e : ℕ) → d < c → e < c → σ d ≡ σ e → d ≡ e

-- two constants exchanged
abbrev pub swap : ℕ → ℕ → ℕ → ℕ
swap a b d = cond (eqb d a) b (cond (eqb d b) a d)

-- r is q shuffled: one renumbering for the whole problem, then another order of its clauses. Their limits may differ
pub record Shuffled (q r : Problem) : Type 0 where
  pub constants_same : r.constants ≡ q.constants
  pub arities_same : r.arities ≡ q.arities
  pub renumbering : ℕ → ℕ
  pub one_to_one : OneToOne q.constants renumbering
  pub clauses_permuted : Permuted (map (clause_by renumbering) q.clauses) r.clauses
