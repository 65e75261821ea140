-- A model, clause by clause; what holds at every place of a list, and at every place that is tabulated.
use Prim.Native.Nat.{ℕ, suc, ◌<◌}
use mathlib.Core.List.{List, [], ◌∷◌, map}
use mathlib.Core.Path.{subst}
use native.Mathlib.Omega.{arith}
use lib.ListN.{length, get_or}
use Rattle.lists.specs.Digits.{tuples}
use Rattle.lists.specs.Member.{All, Any}
use Rattle.lists.specs.Tabulate.{tabulate}
use Rattle.lists.proofs.Bytes.{all_at}
use Rattle.lists.proofs.Member.{all_mapped, mapped_all, all_flat, flat_all}
use Rattle.lists.proofs.Tabulate.{All-tabulate, tabulate-length, tabulate_at}
use Rattle.search.specs.Ground.{Model}
use Rattle.problem.specs.Problem.{Clause, Problem}
use Rattle.ground.specs.Instance.{Instance, number, no_clause, clause_of, instances_of, ground_atoms, ground_of}

-- what holds at every place holds of all
pub all_places {ℓ} : {A : Type 0} (P : A → Type ℓ) (d : A) (xs : List A) → ((i : ℕ) → i < length xs → P (get_or xs i d)) → All P xs
all_places P d [] f = tt
all_places P d (x ∷ xs) f = (f 0 (omega arith), all_places P d xs (λ i h. f (suc i) (omega arith)))

-- what holds of all of a table's places holds of each
pub tabulate-All {ℓ} : {A : Type 0} (P : A → Type ℓ) (f : ℕ → A) (n : ℕ) → All P (tabulate f n) → (i : ℕ) → i < n → P (f i)
tabulate-All P f n a i h = subst P (tabulate_at f (f i) n i h) (all_at P (tabulate f n) (f i) i (omega (arith, tabulate-length f n)) a)

module _ (c : ℕ) (arities : List ℕ) (M : ℕ → Type 0) where
  -- the instance of a clause with these values is kept
  abbrev pub Kept : Clause → List ℕ → Type 0
  Kept k values = All M (map (number c arities values) k.conds) → ∥ Any M (map (number c arities values) k.alts) ∥₁

  abbrev pub ClauseKept : Clause → Type 0
  ClauseKept k = All (Kept k) (tuples c k.vars)

module _ (q : Problem) (M : ℕ → Type 0) where
  abbrev Each : Clause → Type 0
  Each = ClauseKept q.constants q.arities M

  abbrev Here : Instance → Type 0
  Here i = All M (ground_atoms q i.values (clause_of q i.clause).conds) → ∥ Any M (ground_atoms q i.values (clause_of q i.clause).alts) ∥₁

  abbrev at : ℕ → List ℕ → Instance
  at k values = record { clause = k; values = values }

  abbrev count : ℕ
  count = length q.clauses

  pub Model-clauses : Model (ground_of q) M → All (ClauseKept q.constants q.arities M) q.clauses
  unfolding ground_of
  Model-clauses m =
      all_places Each no_clause q.clauses
      (λ i h.
      mapped_all (at i) Here (tuples q.constants (clause_of q i).vars)
      (tabulate-All (λ k. All Here (instances_of q k)) (λ k. k) count (flat_all (instances_of q) Here (tabulate (λ k. k) count) m) i h))

  pub clauses-Model : All (ClauseKept q.constants q.arities M) q.clauses → Model (ground_of q) M
  unfolding ground_of
  clauses-Model a =
      all_flat (instances_of q) Here (tabulate (λ k. k) count)
      (All-tabulate (λ k. All Here (instances_of q k)) (λ k. k) count
      (λ i h. all_mapped (at i) Here (tuples q.constants (clause_of q i).vars) (all_at Each q.clauses no_clause i h a)))
