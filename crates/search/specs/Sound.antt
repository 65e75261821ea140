-- What a way of finding a node owes to the logic, on every path of alternatives of its own splits. The walk of any engine that keeps it is right: `SoundWalk` in `Claims`.
use Rattle.std.specs.Prelude.{ℕ, ◌<◌, Bool, List, ◌≡◌, length}
use Rattle.lists.specs.Key.{nat_key}
use Rattle.lists.specs.Member.{All, Any, In}
use Rattle.search.specs.Ground.{Ground, Model, Marked, Found, closed, opened, split}
use Rattle.search.specs.Machine.{Branch, entered, Genuine}

-- a set of atoms is a model that holds the entered atoms of a path
pub record Extends {I : Type 0} (p : Ground I) (bs : List (Branch I)) (M : ℕ → Type 0) : Type 0 where
  pub model : Model p M
  pub holds : All M (entered bs)

pub record SoundFind {I : Type 0} (p : Ground I) (find : List ℕ → Found I) : Type 1 where
  -- no model holds the entered atoms where a node is found closed
  pub closed_refutes : (bs : List (Branch I)) → Genuine find bs → find (entered bs) ≡ closed → (M : ℕ → Type 0) → Extends p bs M → ⊥
  -- where it is split, each model that holds them holds one of the alternatives to enter
  pub split_covers : (bs : List (Branch I)) → Genuine find bs → (i : I) (ds : List ℕ) → find (entered bs) ≡ split i ds
      → (M : ℕ → Type 0) → Extends p bs M → ∥ Any M ds ∥₁
  -- and these are atoms that the path has not entered
  pub split_fresh : (bs : List (Branch I)) → Genuine find bs → (i : I) (ds : List ℕ) → find (entered bs) ≡ split i ds
      → All (λ a. (a < p.atoms) × (In nat_key (entered bs) a → ⊥)) ds
  -- where it is open, the bits are those of a model, one for each atom
  pub opened_model : (bs : List (Branch I)) → Genuine find bs → (bits : List Bool) → find (entered bs) ≡ opened bits
      → (length bits ≡ p.atoms) × Model p (Marked bits)
