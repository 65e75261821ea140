-- The steps of the byte loops, over lists.
use Prim.Native.Nat.{ℕ, ◌+◌, ◌<◌}
use mathlib.Core.Bool.{Bool, false, ◌&&◌, and-false}
use mathlib.Core.List.{List}
use mathlib.Core.Path.{◌≡◌}
use native.Mathlib.Numerals.{add-one}
use lib.ListN.{length, drop, get_or}
use lib.Seq.{drop-cons}
use borrow.Author.Tests.{eq-eqb, ne_eqb}
use Rattle.lists.specs.Bytes.{same_list}

-- a turn keeps what the bytes passed and the rest decide together
module _ (a b : List ℕ) (i : ℕ) (ha : i < length a) (hb : i < length b) (all now : Bool) where
  pub same_more : get_or a i 0 ≡ get_or b i 0 → now ≡ all → (all && same_list (drop i a) (drop i b)) ≡ (now && same_list (drop (i + 1) a) (drop (i + 1) b))
  same_more e s = rw (s, drop-cons a i 0, drop-cons b i 0, eq-eqb (get_or a i 0) (get_or b i 0) e, add-one)

  pub same_differs : (get_or a i 0 ≡ get_or b i 0 → ⊥) → now ≡ false → (all && same_list (drop i a) (drop i b)) ≡ (now && same_list (drop (i + 1) a) (drop (i + 1) b))
  same_differs n s = rw (s, drop-cons a i 0, drop-cons b i 0, ne_eqb (get_or a i 0) (get_or b i 0) n) (and-false all)
