-- What each way in which a node is found says of what it is found from.
use Prim.Native.Nat.{ℕ}
use mathlib.Core.Bool.{Bool, true, false, not}
use mathlib.Core.List.{List}
use mathlib.Core.Option.{Option, none, some, none-ne-some}
use mathlib.Core.Path.{◌≡◌, refl, sym, ap, subst, ◌∙◌}
use native.Mathlib.Omega.{arith}
use lib.Dec.{T}
use Rattle.lists.specs.Key.{Key}
use Rattle.lists.specs.Member.{first}
use Rattle.search.specs.Ground.{Ground, closed, opened, split}
use Rattle.search.specs.Relevancy.{is_true, is_relevant, splittable, branches, model_bits, found_as, with_alts, find_r}
use Rattle.search.specs.Magic.{tru, MagicRule, heads_of, holds, ready, with_heads, find_m}

module _ {I : Type 0} where
  pub found_as-closed : (b : Bool) (o : Option (I × List ℕ)) (bits : List Bool) → found_as b o bits ≡ closed → T b
  found_as-closed true o bits e = tt
  found_as-closed false none bits e = let z : ◌≡◌ {A = ℕ} 0 1 = cc in omega arith
  found_as-closed false (some s) bits e = let z : ◌≡◌ {A = ℕ} 0 1 = cc in omega arith

  pub found_as_closes : (b : Bool) (o : Option (I × List ℕ)) (bits : List Bool) → T b → found_as b o bits ≡ closed
  found_as_closes true o bits t = refl
  found_as_closes false o bits t = absurd t

  pub found_as-opened : (b : Bool) (o : Option (I × List ℕ)) (bits m : List Bool) → found_as b o bits ≡ opened m → T (not b) × (o ≡ none) × (bits ≡ m)
  found_as-opened true o bits m e = let z : ◌≡◌ {A = ℕ} 0 1 = cc in absurd (omega arith)
  found_as-opened false none bits m e = (tt, refl, (cc))
  found_as-opened false (some s) bits m e = let z : ◌≡◌ {A = ℕ} 0 1 = cc in absurd (omega arith)

  pub found_as-split : (b : Bool) (o : Option (I × List ℕ)) (bits : List Bool) (i : I) (ds : List ℕ) → found_as b o bits ≡ split i ds
      → T (not b) × ((s : I × List ℕ) × (o ≡ some s) × (s.0 ≡ i) × (branches s.1 ≡ ds))
  found_as-split true o bits i ds e = let z : ◌≡◌ {A = ℕ} 0 1 = cc in absurd (omega arith)
  found_as-split false none bits i ds e = let z : ◌≡◌ {A = ℕ} 0 1 = cc in absurd (omega arith)
  found_as-split false (some s) bits i ds e = (tt, (s, refl, (cc), (cc)))

  pub with_alts-none : (p : Ground I) (o : Option I) → with_alts p o ≡ none → o ≡ none
  with_alts-none p none e = refl
  with_alts-none p (some i) e = absurd (none-ne-some (i, p.alts i) (sym e))

  pub with_alts-some : (p : Ground I) (o : Option I) (s : I × List ℕ) → with_alts p o ≡ some s → (o ≡ some s.0) × (p.alts s.0 ≡ s.1)
  with_alts-some p none s e = absurd (none-ne-some s e)
  with_alts-some p (some i) s e = let q : (i, p.alts i) ≡ s = cc in (ap (λ x. some x.0) q, subst (λ (x : I × List ℕ). p.alts x.0 ≡ x.1) q refl)

  with_heads-none : (k : Key I) (o : Option (MagicRule I)) → with_heads k o ≡ none → o ≡ none
  with_heads-none k none e = refl
  with_heads-none k (some r) e = absurd (none-ne-some (r.site, heads_of r.gives) (sym e))

  with_heads-some : (k : Key I) (o : Option (MagicRule I)) (s : I × List ℕ) → with_heads k o ≡ some s → (r : MagicRule I) × (o ≡ some r) × (r.site ≡ s.0) × (heads_of r.gives ≡ s.1)
  with_heads-some k none s e = absurd (none-ne-some s e)
  with_heads-some k (some r) s e = (r, refl, (cc), (cc))

module _ {I : Type 0} (p : Ground I) (l : List ℕ) where
  pub find_r-closed : find_r p l ≡ closed → T (is_true p l p.atoms)
  unfolding find_r
  find_r-closed e = found_as-closed (is_true p l p.atoms) _ _ e

  pub find_r_closes : T (is_true p l p.atoms) → find_r p l ≡ closed
  unfolding find_r
  find_r_closes t = found_as_closes (is_true p l p.atoms) _ _ t

  pub find_r-opened : (bits : List Bool) → find_r p l ≡ opened bits
      → T (not (is_true p l p.atoms)) × (first (splittable p (is_true p l) (is_relevant p l)) p.instances ≡ none) × (model_bits p.atoms (is_true p l) (is_relevant p l) ≡ bits)
  unfolding find_r
  find_r-opened bits e =
      let f = found_as-opened (is_true p l p.atoms) _ _ bits e in
      (f.0, with_alts-none p (first (splittable p (is_true p l) (is_relevant p l)) p.instances) f.1, f.2)

  pub find_r-split : (i : I) (ds : List ℕ) → find_r p l ≡ split i ds → (first (splittable p (is_true p l) (is_relevant p l)) p.instances ≡ some i) × (ds ≡ branches (p.alts i))
  unfolding find_r
  find_r-split i ds e =
      let f = (found_as-split (is_true p l p.atoms) _ _ i ds e).1 in
      let w = with_alts-some p (first (splittable p (is_true p l) (is_relevant p l)) p.instances) f.0 f.1 in
      (w.0 ∙ ap some f.2, sym f.3 ∙ ap branches (sym w.1 ∙ ap p.alts f.2))

module _ {I : Type 0} (k : Key I) (n : ℕ) (rs : List (MagicRule I)) (l : List ℕ) where
  pub find_m-closed : find_m k n rs l ≡ closed → T (holds k n rs l (tru n))
  unfolding find_m
  find_m-closed e = found_as-closed (holds k n rs l (tru n)) _ _ e

  pub find_m_closes : T (holds k n rs l (tru n)) → find_m k n rs l ≡ closed
  unfolding find_m
  find_m_closes t = found_as_closes (holds k n rs l (tru n)) _ _ t

  pub find_m-opened : (bits : List Bool) → find_m k n rs l ≡ opened bits → first (ready k (holds k n rs l)) rs ≡ none
  unfolding find_m
  find_m-opened bits e = with_heads-none k (first (ready k (holds k n rs l)) rs) (found_as-opened (holds k n rs l (tru n)) _ _ bits e).1

  pub find_m-split : (i : I) (ds : List ℕ) → find_m k n rs l ≡ split i ds
      → (r : MagicRule I) × (first (ready k (holds k n rs l)) rs ≡ some r) × (r.site ≡ i) × (ds ≡ branches (heads_of r.gives))
  unfolding find_m
  find_m-split i ds e =
      let f = (found_as-split (holds k n rs l (tru n)) _ _ i ds e).1 in
      let w = with_heads-some k (first (ready k (holds k n rs l)) rs) f.0 f.1 in
      (w.0, w.1, w.2 ∙ f.2, sym f.3 ∙ ap branches (sym w.3))
