-- A type with a Boolean equality test, and what the test means.
use Rattle.std.specs.Prelude.{ℕ, Bool, ◌≡◌, T, eqb}
use Rattle.std.proofs.Common.{eqb→eq}
use Rattle.std.proofs.Math.Dec.{eqb_refl}

pub record Key (K : Type 0) : Type 0 where
  pub same : K → K → Bool
  pub same_eq : (x y : K) → T (same x y) → x ≡ y
  pub same_refl : (x : K) → T (same x x)

abbrev pub nat_key : Key ℕ
nat_key = record { same = eqb; same_eq = eqb→eq; same_refl = eqb_refl }
