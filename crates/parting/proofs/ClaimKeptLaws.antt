-- Two sets that agree on the atoms of a clause keep it alike.
use Prim.Native.Nat.{ℕ}
use mathlib.Core.List.{List, map}
use mathlib.Core.Logic.{∥∥₁_map}
use Rattle.lists.specs.Digits.{tuples}
use Rattle.lists.specs.Member.{All, Any}
use Rattle.lists.proofs.Digits.{Tuple, tuples_each}
use Rattle.lists.proofs.Member.{all_zip, any_zip}
use Rattle.problem.specs.Problem.{Atom, Clause}
use Rattle.ground.specs.Instance.{number}
use Rattle.ground.proofs.ClauseLaws.{Kept, ClauseKept}

abbrev pub Agree : (ℕ → Type 0) → (ℕ → Type 0) → ℕ → Type 0
Agree M N n = (M n → N n) × (N n → M n)

agreed : (M N : ℕ → Type 0) (cs ds : List ℕ) → All (Agree M N) cs → All (Agree M N) ds → (All M cs → ∥ Any M ds ∥₁) → All N cs → ∥ Any N ds ∥₁
agreed M N cs ds a b m h =
    ∥∥₁_map (m (all_zip N (Agree M N) M (λ n x s. s.1 x) cs h a)) (λ w. any_zip M (Agree M N) N (λ n x s. s.0 x) ds w b)

module _ (c : ℕ) (arities : List ℕ) (M N : ℕ → Type 0) (k : Clause) where
  -- for all values of its variables
  abbrev pub Agreed : List Atom → Type 0
  Agreed atoms = (values : List ℕ) → Tuple c k.vars values → All (Agree M N) (map (number c arities values) atoms)

  pub kept_same : Agreed k.conds → Agreed k.alts → ClauseKept c arities M k → ClauseKept c arities N k
  kept_same a b h =
      all_zip (Kept c arities M k) (Tuple c k.vars) (Kept c arities N k)
      (λ values m t. agreed M N (map (number c arities values) k.conds) (map (number c arities values) k.alts) (a values t) (b values t) m)
      (tuples c k.vars) h (tuples_each c k.vars)
