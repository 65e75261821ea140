-- A refuted walk leaves no set of atoms that no closed place bars and every split continues, for any way of finding a node.
use Prim.Native.Nat.{ℕ, zero, suc}
use mathlib.Core.Bool.{Bool}
use mathlib.Core.HLevel.{⊥_prop}
use mathlib.Core.List.{List, [], ◌∷◌}
use mathlib.Core.Logic.{◌⊎◌, inl, inr, ∥∥₁_prop, ∥∥₁_elim}
use mathlib.Core.Option.{Option, none, some, none-ne-some}
use mathlib.Core.Path.{◌≡◌, refl, sym, ap, subst, ◌∙◌}
use native.Mathlib.Omega.{arith}
use Rattle.lists.specs.Member.{All, Any}
use Rattle.search.specs.Ground.{Found, closed, opened, split}
use Rattle.search.specs.Machine.{Branch, entered, enter, back, after, next_path, Refuted, stopped, answer_at, answer, place, placed, proceed, outcome, Genuine}
use Rattle.search.proofs.Machine.{proceed_zero, proceed-none, proceed-some}
use Rattle.search.proofs.Path.{place-Reached, next_genuine}

module _ {I : Type 0} (find : List ℕ → Found I) (M : ℕ → Type 0) where
  -- the set holds a node of the path and one of the alternatives left there
  Pending : List (Branch I) → Type 0
  Pending [] = ⊥
  Pending (b ∷ bs) = (All M (entered bs) × Any M b.rest) ⊎ Pending bs

  -- the set holds the path, or the walk will come to a path that it holds
  Ahead : List (Branch I) → Type 0
  Ahead bs = All M (entered bs) ⊎ Pending bs

  AheadAt : Option (List (Branch I)) → Type 0
  AheadAt none = ⊥
  AheadAt (some bs) = ∥ Ahead bs ∥₁

  at_prop : (o : Option (List (Branch I))) → IsProp (AheadAt o)
  unfolding AheadAt
  at_prop none = ⊥_prop
  at_prop (some bs) = ∥∥₁_prop

  enter_ahead : (i : I) (ds : List ℕ) (bs : List (Branch I)) (o : Option (List (Branch I))) → (Pending bs → AheadAt o) → (All M (entered bs) × Any M ds) ⊎ Pending bs → AheadAt (enter i ds bs o)
  unfolding AheadAt Ahead Pending
  enter_ahead i [] bs o f (inl a) = absurd a.1
  enter_ahead i [] bs o f (inr p) = f p
  enter_ahead i (d ∷ ds) bs o f (inl a) = ∣ elim a.1 [ inl h ↦ inl (h, a.0) | inr h ↦ inr (inl (a.0, h)) ] ∣₁
  enter_ahead i (d ∷ ds) bs o f (inr p) = ∣ inr (inr p) ∣₁

  back_ahead : (bs : List (Branch I)) → Pending bs → AheadAt (back bs)
  unfolding Pending
  back_ahead [] p = absurd p
  back_ahead (b ∷ bs) p = enter_ahead b.site b.rest bs (back bs) (back_ahead bs) p

  module _
      (bars : (bs : List (Branch I)) → Genuine find bs → find (entered bs) ≡ closed → All M (entered bs) → ⊥)
      (continues : (bs : List (Branch I)) → Genuine find bs → (i : I) (ds : List ℕ) → find (entered bs) ≡ split i ds → All M (entered bs) → ∥ Any M ds ∥₁) where
    Open : Found I → Type 0
    Open f = (bits : List Bool) × (f ≡ opened bits)

    next_ahead : (bs : List (Branch I)) → Genuine find bs → (Open (find (entered bs)) → ⊥) → Ahead bs → AheadAt (next_path (place find bs))
    unfolding Ahead Open
    next_ahead bs g n h = go (find (entered bs)) refl h
      where
        go : (f : Found I) → find (entered bs) ≡ f → All M (entered bs) ⊎ Pending bs → AheadAt (after f bs)
        go closed e (inl a) = absurd (bars bs g e a)
        go closed e (inr p) = back_ahead bs p
        go (opened b) e q = absurd (n (b, e))
        go (split i ds) e (inl a) =
            ∥∥₁_elim (continues bs g i ds e a) (at_prop (enter i ds bs (back bs))) (λ w. enter_ahead i ds bs (back bs) (back_ahead bs) (inl (a, w)))
        go (split i ds) e (inr p) = enter_ahead i ds bs (back bs) (back_ahead bs) (inr p)

    over : (o : Option (List (Branch I))) (c n : ℕ) → stopped o c ≡ Refuted n → o ≡ none
    over none c n e = refl
    over (some bs) c n e = let z : ◌≡◌ {A = ℕ} 0 1 = cc in absurd (omega arith)

    -- a refuted answer stands at a place that is not open and has no further entry
    at_refuted : (f : Found I) (o : Option (List (Branch I))) (c n : ℕ) → answer_at f o c ≡ Refuted n → (Open f → ⊥) × (o ≡ none)
    unfolding Open
    at_refuted closed o c n q = (λ u. let z : ◌≡◌ {A = ℕ} 0 1 = cc u.1 in omega arith, over o c n q)
    at_refuted (opened b) o c n q = let z : ◌≡◌ {A = ℕ} 0 1 = cc in absurd (omega arith)
    at_refuted (split i ds) o c n q = (λ u. let z : ◌≡◌ {A = ℕ} 0 1 = cc u.1 in omega arith, over o c n q)

    answer-Refuted : (bs : List (Branch I)) → Genuine find bs → ∥ Ahead bs ∥₁ → (c n : ℕ) → answer (place find bs) c ≡ Refuted n → ⊥
    unfolding AheadAt
    answer-Refuted bs g h c n q =
        let r = at_refuted (find (entered bs)) (next_path (place find bs)) c n q in
        ∥∥₁_elim h ⊥_prop (λ a. subst AheadAt r.1 (next_ahead bs g r.0 a))

    next_open : (bs cs : List (Branch I)) → next_path (place find bs) ≡ some cs → Open (find (entered bs)) → ⊥
    unfolding Open
    next_open bs cs e u = none-ne-some cs (subst (λ (f : Found I). after f bs ≡ some cs) u.1 e)

    refuted_from : (n c m : ℕ) (bs : List (Branch I)) → Genuine find bs → ∥ Ahead bs ∥₁ → proceed find n c (place find bs) ≡ Refuted m → ⊥
    unfolding AheadAt
    refuted_from zero c m bs g h q = answer-Refuted bs g h c m (sym (proceed_zero find c (place find bs)) ∙ q)
    refuted_from (suc n) c m bs g h q = go (next_path (place find bs)) refl (refuted_from n (suc c) m)
      where
        go : (o : Option (List (Branch I))) → next_path (place find bs) ≡ o
            → ((cs : List (Branch I)) → Genuine find cs → ∥ Ahead cs ∥₁ → proceed find n (suc c) (place find cs) ≡ Refuted m → ⊥) → ⊥
        go none e f = answer-Refuted bs g h c m (sym (proceed-none find (suc n) c (place find bs) (ap (placed find) e)) ∙ q)
        go (some cs) e f =
            f
            cs
            (next_genuine find (place find bs) cs (place-Reached find bs g) e)
            (∥∥₁_elim h ∥∥₁_prop (λ a. subst AheadAt e (next_ahead bs g (next_open bs cs e) a)))
            (sym (proceed-some find n c (place find bs) (place find cs) (ap (placed find) e)) ∙ q)

    pub never_refuted : (limit n : ℕ) → outcome find limit ≡ Refuted n → ⊥
    unfolding Ahead
    never_refuted limit n q = refuted_from limit 0 n [] tt ∣ inl tt ∣₁ q
