-- A loop that fills a buffer from the front: the bytes passed are by a rule, the rest is as it was.
use Prim.Native.Nat.{ℕ, zero, suc, ◌+◌, ◌≤◌, ◌<◌}
use mathlib.Core.List.{List, [], ◌∷◌, ◌++◌, map, append_assoc, append-nil}
use mathlib.Core.Path.{◌≡◌, refl, sym, ap, subst, ◌∙◌}
use native.Mathlib.Omega.{arith}
use lib.ListN.{length, drop, get_or, set, length-append, length-drop, drop_of_length-le}
use lib.Seq.{drop-cons, get_or_at, set_at, get_or-append-add}
use Rattle.lists.specs.Tabulate.{tabulate}
use Rattle.lists.proofs.Bytes.{tabulate_of}
use Rattle.lists.proofs.Tabulate.{tabulate-length}
use Rattle.parting.proofs.LabelLaws.{map_at}

module _ (f : ℕ → ℕ) (d : List ℕ) where
  abbrev pub filled : ℕ → List ℕ
  filled i = tabulate f i ++ drop i d

  pub filled_read : (i : ℕ) → i < length d → get_or (filled i) i 0 ≡ get_or d i 0
  filled_read i h =
      ap (λ (l : List ℕ). get_or (tabulate f i ++ l) i 0) (drop-cons d i 0 h) ∙ get_or_at (tabulate f i) (get_or d i 0) (drop (suc i) d) 0 i (tabulate-length f i)

  pub filled_more : (i : ℕ) → i < length d → set (filled i) i (f i) ≡ filled (i + 1)
  filled_more i h =
      let next : i + 1 ≡ suc i = omega arith in
      ap (λ (l : List ℕ). set (tabulate f i ++ l) i (f i)) (drop-cons d i 0 h)
      ∙ set_at (tabulate f i) (get_or d i 0) (drop (suc i) d) (f i) i (tabulate-length f i)
      ∙ sym (append_assoc (tabulate f i) (f i ∷ []) (drop (suc i) d))
      ∙ ap filled (sym next)

  pub filled_size : (i : ℕ) → i ≤ length d → length (filled i) ≡ length d
  filled_size i h = omega (arith, length-append (tabulate f i) (drop i d), tabulate-length f i, length-drop i d)

  pub filled_all : (i : ℕ) → i ≡ length d → filled i ≡ tabulate f (length d)
  filled_all i e =
      ap filled e ∙ ap (λ (l : List ℕ). tabulate f (length d) ++ l) (drop_of_length-le d {i = length d} (omega arith)) ∙ append-nil (tabulate f (length d))

-- a list by its elements, each changed
pub tabulate_mapped : (f : ℕ → ℕ) (d : List ℕ) → tabulate (λ a. f (get_or d a 0)) (length d) ≡ map f d
tabulate_mapped f d =
    tabulate_of (λ a. f (get_or d a 0)) 0 (map f d) (length d) (sym (length_mapped f d)) (λ i h. sym (map_at f d i (omega (arith, length_mapped f d))))
  where
    length_mapped : (f : ℕ → ℕ) (d : List ℕ) → length (map f d) ≡ length d
    length_mapped f [] = refl
    length_mapped f (x ∷ d) = omega (arith, length_mapped f d)
