-- Laws of a ground problem: which clauses are disjunctive, and models that agree on its atoms.
use Prim.Native.Nat.{ℕ, ◌≤◌, ◌<◌}
use mathlib.Core.Bool.{true, false}
use mathlib.Core.List.{List, [], ◌∷◌}
use mathlib.Core.Logic.{∥∥₁_map}
use mathlib.Core.Path.{◌≡◌, refl}
use native.Mathlib.Omega.{arith}
use lib.Dec.{T}
use lib.ListN.{length}
use Rattle.lists.specs.Member.{All, Any}
use Rattle.lists.proofs.Member.{all_zip, any_zip}
use Rattle.search.specs.Ground.{Ground, Proper, Model, disjunctive}

pub disjunctive_two : (ds : List ℕ) → 1 < length ds → disjunctive ds ≡ true
disjunctive_two [] h = absurd (omega arith)
disjunctive_two (a ∷ []) h = absurd (omega arith)
disjunctive_two (a ∷ b ∷ ds) h = refl

pub disjunctive_many : (ds : List ℕ) → T (disjunctive ds) → 2 ≤ length ds
disjunctive_many [] t = absurd t
disjunctive_many (a ∷ []) t = absurd t
disjunctive_many (a ∷ b ∷ ds) t = omega arith

pub disjunctive_few : (ds : List ℕ) → length ds < 2 → disjunctive ds ≡ false
disjunctive_few [] h = refl
disjunctive_few (a ∷ []) h = refl
disjunctive_few (a ∷ b ∷ ds) h = absurd (omega arith)

-- two sets that agree below A are both models, or neither
pub model_same : {I : Type 0} (p : Ground I) (M N : ℕ → Type 0) → Proper p → ((a : ℕ) → a < p.atoms → M a → N a) → ((a : ℕ) → a < p.atoms → N a → M a) → Model p M → Model p N
model_same p M N proper to from =
    all_zip
    (λ i. All (λ a. a < p.atoms) (p.conds i) × All (λ a. a < p.atoms) (p.alts i))
    (λ i. All M (p.conds i) → ∥ Any M (p.alts i) ∥₁)
    (λ i. All N (p.conds i) → ∥ Any N (p.alts i) ∥₁)
    (λ i b m c.
    ∥∥₁_map (m (all_zip N (λ a. a < p.atoms) M (λ a x h. from a h x) (p.conds i) c b.0))
    (λ w. any_zip M (λ a. a < p.atoms) N (λ a x h. to a h x) (p.alts i) w b.1))
    p.instances
    proper
