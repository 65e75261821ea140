-- The steps by which labels are merged.
use Prim.Native.Nat.{ℕ, zero, suc, ◌+◌, ◌*◌, ◌≤◌, ◌<◌, min, max}
use mathlib.Core.List.{List, map}
use mathlib.Core.Path.{◌≡◌, refl, sym, ap, subst, ◌∙◌}
use native.Mathlib.Omega.{arith}
use lib.ListN.{length, get_or, length-map}
use Rattle.lists.specs.Tabulate.{tabulate}
use Rattle.parting.specs.terms.Labels.{renamed, merged, merged_slots, merged_clause, labels_upto}

module _ (p r : ℕ) (ls : List ℕ) where
  pub merged_size : length (merged p r ls) ≡ length ls
  merged_size = length-map ls (renamed (max (get_or ls p 0) (get_or ls r 0)) (min (get_or ls p 0) (get_or ls r 0)))

pub slots_none : (tb : List ℕ) (at p : ℕ) (ls : List ℕ) → ls ≡ merged_slots tb at p 0 ls
unfolding merged_slots
slots_none tb at p ls = refl

pub slots_more : (tb : List ℕ) (at p n : ℕ) (ls : List ℕ) → merged p (get_or tb (at + 6 * n) 0) (merged_slots tb at p n ls) ≡ merged_slots tb at p (n + 1) ls
unfolding merged_slots
slots_more tb at p n ls = let next : suc n ≡ n + 1 = omega arith in ap (λ (m : ℕ). merged_slots tb at p m ls) next

pub slots_size : (tb : List ℕ) (at p n : ℕ) (ls : List ℕ) → length (merged_slots tb at p n ls) ≡ length ls
unfolding merged_slots
slots_size tb at p zero ls = refl
slots_size tb at p (suc n) ls = merged_size p (get_or tb (at + 6 * n) 0) (merged_slots tb at p n ls) ∙ slots_size tb at p n ls

pub clauses_more : (tb : List ℕ) (k : ℕ) → merged_clause tb k (labels_upto tb k) ≡ labels_upto tb (k + 1)
unfolding labels_upto
clauses_more tb k = let next : suc k ≡ k + 1 = omega arith in ap (labels_upto tb) next

pub labels_start : (tb : List ℕ) → tabulate (λ p. p) 33 ≡ labels_upto tb 0
unfolding labels_upto
labels_start tb = refl
