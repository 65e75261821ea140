-- Laws of the machine that hold for any way of finding a node: running on, the walk without a limit, and the count under one.
use Prim.Native.Nat.{ℕ, zero, suc, ◌+◌, ◌≤◌}
use mathlib.Core.Bool.{Bool, cond}
use mathlib.Core.List.{List, [], ◌∷◌, ◌++◌}
use mathlib.Core.Option.{Option, none, some, none-ne-some}
use mathlib.Core.Path.{◌≡◌, refl, sym, ap, subst, ◌∙◌}
use native.Mathlib.Nat.{add-zero, add-suc, zero-add, suc-add, add_assoc}
use native.Mathlib.Omega.{arith}
use lib.Dec.{ltb, leb-suc-suc}
use lib.ListN.{length, length-append}
use borrow.Author.Tests.{lt-ltb, le-ltb}
use Rattle.lists.specs.Member.{All}
use Rattle.search.specs.Ground.{Found, closed, opened, split}
use Rattle.search.specs.Machine.{Branch, Place, enter, back, after, next_path, Satisfied, Exhausted, stopped, answer_at, answer, last, place, placed, advance, entries, proceed, Whole}

pub last-All {ℓ} : {I : Type 0} (P : Place I → Type ℓ) (s : Place I) (es : List (Place I)) → P s → All P es → P (last s es)
last-All P s [] h a = h
last-All P s (t ∷ ts) h a = last-All P t ts a.0 a.1

-- an answer that is Satisfied stands at an open place
pub answer-Satisfied : {I : Type 0} (s : Place I) (n m : ℕ) (bits : List Bool) → answer s n ≡ Satisfied m bits → s.found ≡ opened bits
answer-Satisfied {I} s n m bits e = go s.found (next_path s) e
  where
    fails : (o : Option (List (Branch I))) → stopped o n ≡ Satisfied m bits → ⊥
    fails none q = let z : ◌≡◌ {A = ℕ} 0 1 = cc in omega arith
    fails (some bs) q = let z : ◌≡◌ {A = ℕ} 0 1 = cc in omega arith

    go : (f : Found I) (o : Option (List (Branch I))) → answer_at f o n ≡ Satisfied m bits → f ≡ opened bits
    go closed o q = absurd (fails o q)
    go (opened b) o q = let same : b ≡ bits = cc in ap opened same
    go (split i ds) o q = absurd (fails o q)

module _ {I : Type 0} (find : List ℕ → Found I) where
  pub entries-some : (n : ℕ) (s t : Place I) → advance find s ≡ some t → entries find (suc n) s ≡ t ∷ entries find n t
  unfolding entries
  entries-some n s t e = ap {B = List (Place I)} (λ o. elim o [ none ↦ [] | some u ↦ u ∷ entries find n u ]) e

  pub entries-none : (n : ℕ) (s : Place I) → advance find s ≡ none → entries find n s ≡ []
  unfolding entries
  entries-none zero s e = refl
  entries-none (suc n) s e = ap {B = List (Place I)} (λ o. elim o [ none ↦ [] | some u ↦ u ∷ entries find n u ]) e

  pub entries-zero : (s : Place I) → entries find zero s ≡ []
  unfolding entries
  entries-zero s = refl

  -- m + n entries are m, and then n from where those end
  pub entries_on : (m n : ℕ) (s : Place I) → entries find (m + n) s ≡ entries find m s ++ entries find n (last s (entries find m s))
  entries_on zero n s = rw (zero-add, entries-zero)
  entries_on (suc m) n s = go (advance find s) refl (λ t. entries_on m n t)
    where
      go : (o : Option (Place I)) → advance find s ≡ o → ((t : Place I) → entries find (m + n) t ≡ entries find m t ++ entries find n (last t (entries find m t)))
          → entries find (suc m + n) s ≡ entries find (suc m) s ++ entries find n (last s (entries find (suc m) s))
      go none e f = rw (entries-none (suc m + n) s e, entries-none (suc m) s e, entries-none n s e)
      go (some t) e f = rw (suc-add m n, entries-some (m + n) s t e, entries-some m s t e, f t)

  pub proceed_zero : (c : ℕ) (s : Place I) → proceed find 0 c s ≡ answer s c
  unfolding proceed entries
  proceed_zero c s = rw add-zero

  pub proceed-none : (n c : ℕ) (s : Place I) → advance find s ≡ none → proceed find n c s ≡ answer s c
  unfolding proceed
  proceed-none n c s e = rw (entries-none n s e, add-zero)

  pub proceed-some : (n c : ℕ) (s t : Place I) → advance find s ≡ some t → proceed find (suc n) c s ≡ proceed find n (suc c) t
  unfolding proceed
  proceed-some n c s t e = rw (entries-some n s t e, add-suc, suc-add)

  pub last-append : (s : Place I) (es fs : List (Place I)) → last s (es ++ fs) ≡ last (last s es) fs
  last-append s [] fs = refl
  last-append s (t ∷ ts) fs = last-append t ts fs

  pub proceed_on : (m n c : ℕ) (s : Place I) → proceed find (m + n) c s ≡ proceed find n (c + length (entries find m s)) (last s (entries find m s))
  unfolding proceed
  proceed_on m n c s = rw (entries_on m n s, last-append, length-append, add_assoc)

  -- the walk without a limit is one
  pub whole_unique : (s : Place I) (es fs : List (Place I)) → Whole find s es → Whole find s fs → es ≡ fs
  whole_unique s [] [] w v = refl
  whole_unique s [] (t ∷ ts) w v = absurd (none-ne-some t (sym w ∙ v.0))
  whole_unique s (t ∷ ts) [] w v = absurd (none-ne-some t (sym v ∙ w.0))
  whole_unique s (t ∷ ts) (u ∷ us) w v =
      let same : t ≡ u = cc (w.0, v.0) in
      rw (same, whole_unique u ts us (subst (λ (x : Place I). Whole find x ts) same w.1) v.1)

  -- a further entry can be made, and none has been allowed
  pub answer-some : (s t : Place I) (c : ℕ) → advance find s ≡ some t → answer s c ≡ Exhausted c
  answer-some s t c e = go s.found s.path e
    where
      stays : (o : Option (List (Branch I))) → placed find o ≡ some t → stopped o c ≡ Exhausted c
      stays none q = absurd (none-ne-some t q)
      stays (some bs) q = refl

      go : (f : Found I) (bs : List (Branch I)) → placed find (after f bs) ≡ some t → answer_at f (after f bs) c ≡ Exhausted c
      go closed bs q = stays (back bs) q
      go (opened b) bs q = absurd (none-ne-some t q)
      go (split i ds) bs q = stays (enter i ds bs (back bs)) q

  -- where no further entry can be made the answer is not Exhausted
  pub answer-none : (s : Place I) (c n : ℕ) → advance find s ≡ none → answer s c ≡ Exhausted n → ⊥
  answer-none s c n e q = go s.found s.path e q
    where
      stays : (o : Option (List (Branch I))) → placed find o ≡ none → stopped o c ≡ Exhausted n → ⊥
      stays none u w = let z : ◌≡◌ {A = ℕ} 0 1 = cc in omega arith
      stays (some bs) u w = none-ne-some (place find bs) (sym u)

      go : (f : Found I) (bs : List (Branch I)) → placed find (after f bs) ≡ none → answer_at f (after f bs) c ≡ Exhausted n → ⊥
      go closed bs u w = stays (back bs) u w
      go (opened b) bs u w = let z : ◌≡◌ {A = ℕ} 0 1 = cc in omega arith
      go (split i ds) bs u w = stays (enter i ds bs (back bs)) u w

  pub whole_over : (s : Place I) (es : List (Place I)) → Whole find s es → advance find (last s es) ≡ none
  whole_over s [] w = w
  whole_over s (t ∷ ts) w = whole_over t ts w.1

  -- under a limit: spent exactly where the walk without one makes more entries
  pub proceed_limit : (s : Place I) (es : List (Place I)) → Whole find s es → (n c : ℕ)
      → proceed find n c s ≡ cond (ltb n (length es)) (Exhausted (c + n)) (answer (last s es) (c + length es))
  proceed_limit s [] w n c = rw (proceed-none n c s w, le-ltb n 0 (omega arith), add-zero)
  proceed_limit s (t ∷ ts) w zero c = rw (proceed_zero c s, answer-some s t c w.0, lt-ltb 0 (suc (length ts)) (omega arith), add-zero)
  proceed_limit s (t ∷ ts) w (suc n) c =
      rw (proceed-some n c s t w.0, proceed_limit t ts w.1 n (suc c), leb-suc-suc (suc n) (length ts), suc-add c n, suc-add c (length ts), add-suc c n, add-suc c (length ts))

  -- at most as many entries as allowed
  entries_most : (n : ℕ) (s : Place I) → length (entries find n s) ≤ n
  unfolding entries
  entries_most zero s = omega arith
  entries_most (suc n) s = go (advance find s) (entries_most n)
    where
      go : (o : Option (Place I)) → ((t : Place I) → length (entries find n t) ≤ n) → length {A = Place I} (elim o [ none ↦ [] | some t ↦ t ∷ entries find n t ]) ≤ suc n
      go none h = omega arith
      go (some t) h = let few : length (entries find n t) ≤ n = h t in omega arith
