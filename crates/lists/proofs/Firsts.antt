-- Laws of `firsts`: what holds of its members, its length, one member more at the end, and that it has each member once in order of first appearance.
use Prim.Native.Nat.{ℕ, zero, suc, ◌+◌, ◌≤◌, ◌<◌}
use mathlib.Core.Bool.{Bool, true, false, cond, ◌||◌}
use mathlib.Core.List.{List, [], ◌∷◌, ◌++◌, append-nil}
use mathlib.Core.Logic.{◌⊎◌, inl, inr, ◌↔◌}
use mathlib.Core.Path.{◌≡◌, refl, sym, ap, subst, ◌∙◌}
use native.Mathlib.Nat.{add-zero, add-suc}
use native.Mathlib.Omega.{arith}
use lib.Dec.{T}
use lib.ListN.{length, get_or, length-append, get_or-append}
use Rattle.lists.specs.Key.{Key}
use Rattle.lists.specs.Member.{All, Any, has, In, Distinct, others, firsts, StandsAfter, EachOnce}
use Rattle.lists.specs.Tabulate.{tabulate}
use Rattle.lists.proofs.Member.{has_here, has_there, has_cases}

module _ {K : Type 0} (k : Key K) where
  others-All {ℓ} : (P : K → Type ℓ) (x : K) (ds : List K) → All P ds → All P (others k x ds)
  others-All P x [] a = tt
  others-All P x (y ∷ ds) a = go (k.same x y) (others-All P x ds a.1)
    where
      go : (b : Bool) → All P (others k x ds) → All P (cond b (others k x ds) (y ∷ others k x ds))
      go true h = h
      go false h = (a.0, h)

  -- what holds of every member
  pub firsts-All {ℓ} : (P : K → Type ℓ) (xs : List K) → All P xs → All P (firsts k xs)
  firsts-All P [] a = tt
  firsts-All P (x ∷ xs) a = (a.0, others-All P x (firsts k xs) (firsts-All P xs a.1))

  others-Any : (P : K → Type 0) (x : K) (ds : List K) → Any P ds → P x ⊎ Any P (others k x ds)
  others-Any P x [] a = elim a [ ]
  others-Any P x (y ∷ ds) a = go (k.same x y) (k.same_eq x y) (others-Any P x ds) a
    where
      go : (b : Bool) → (T b → x ≡ y) → (Any P ds → P x ⊎ Any P (others k x ds)) → P y ⊎ Any P ds → P x ⊎ Any P (cond b (others k x ds) (y ∷ others k x ds))
      go true e f (inl p) = inl (subst P (sym (e tt)) p)
      go true e f (inr q) = f q
      go false e f (inl p) = inr (inl p)
      go false e f (inr q) = later (f q)
        where
          later : P x ⊎ Any P (others k x ds) → P x ⊎ (P y ⊎ Any P (others k x ds))
          later (inl p) = inl p
          later (inr r) = inr (inr r)

  -- what holds of some member
  pub firsts-Any : (P : K → Type 0) (xs : List K) → Any P xs → Any P (firsts k xs)
  firsts-Any P [] x' = elim x' [ ]
  firsts-Any P (x ∷ xs) (inl p) = inl p
  firsts-Any P (x ∷ xs) (inr q) = others-Any P x (firsts k xs) (firsts-Any P xs q)

  others-length : (x : K) (ds : List K) → length (others k x ds) ≤ length ds
  others-length x [] = omega arith
  others-length x (y ∷ ds) = go (k.same x y) (others-length x ds)
    where
      go : (b : Bool) → length (others k x ds) ≤ length ds → length (cond b (others k x ds) (y ∷ others k x ds)) ≤ suc (length ds)
      go true h = omega arith
      go false h = omega arith

  pub firsts-length : (xs : List K) → length (firsts k xs) ≤ length xs
  firsts-length [] = omega arith
  firsts-length (x ∷ xs) = omega (arith, others-length x (firsts k xs), firsts-length xs)

  -- ---- one member more at the end

  others_snoc : (x : K) (ds : List K) (a : K) → others k x (ds ++ (a ∷ [])) ≡ others k x ds ++ cond (k.same x a) [] (a ∷ [])
  others_snoc x [] a = refl
  others_snoc x (y ∷ ds) a = go (k.same x y) (others_snoc x ds a)
    where
      go : (b : Bool) → others k x (ds ++ (a ∷ [])) ≡ others k x ds ++ cond (k.same x a) [] (a ∷ [])
          → cond b (others k x (ds ++ (a ∷ []))) (y ∷ others k x (ds ++ (a ∷ []))) ≡ cond b (others k x ds) (y ∷ others k x ds) ++ cond (k.same x a) [] (a ∷ [])
      go true e = e
      go false e = ap (λ (l : List K). y ∷ l) e

  -- another one than x is still there
  others-has : (x a : K) → k.same x a ≡ false → (ds : List K) → has k (others k x ds) a ≡ has k ds a
  others-has x a ne [] = refl
  others-has x a ne (y ∷ ds) = go (k.same x y) (k.same_eq x y) (others-has x a ne ds)
    where
      go : (b : Bool) → (T b → x ≡ y) → has k (others k x ds) a ≡ has k ds a → has k (cond b (others k x ds) (y ∷ others k x ds)) a ≡ (k.same y a || has k ds a)
      go true e h = h ∙ ap (λ (c : Bool). c || has k ds a) (sym ne ∙ ap (λ (z : K). k.same z a) (e tt))
      go false e h = ap (λ (c : Bool). k.same y a || c) h

  pub firsts_snoc : (xs : List K) (a : K) → firsts k (xs ++ (a ∷ [])) ≡ cond (has k (firsts k xs) a) (firsts k xs) (firsts k xs ++ (a ∷ []))
  firsts_snoc [] a = refl
  firsts_snoc (x ∷ xs) a = ap (λ (l : List K). x ∷ others k x l) (firsts_snoc xs a) ∙ go (k.same x a) refl (has k fs a) refl
    where
      fs : List K
      fs = firsts k xs

      go : (s : Bool) → k.same x a ≡ s → (h : Bool) → has k fs a ≡ h
          → x ∷ others k x (cond (has k fs a) fs (fs ++ (a ∷ []))) ≡ cond (k.same x a || has k (others k x fs) a) (x ∷ others k x fs) (x ∷ others k x fs ++ (a ∷ []))
      go true e true d = rw (e, d)
      go true e false d = rw (d, others_snoc x fs a, e, append-nil)
      go false e true d = rw (e, others-has x a e fs, d)
      go false e false d = rw (e, others-has x a e fs, d, others_snoc x fs a, e)

-- ---- each member once, in order of first appearance

module _ {K : Type 0} (k : Key K) where
  others_less : (x : K) (ds : List K) (z : K) → In k (others k x ds) z → In k ds z × (x ≡ z → ⊥)
  others_less x [] z h = absurd h
  others_less x (y ∷ ds) z h = go (k.same x y) refl (others_less x ds z) h
    where
      go : (b : Bool) → k.same x y ≡ b → (In k (others k x ds) z → In k ds z × (x ≡ z → ⊥)) → In k (cond b (others k x ds) (y ∷ others k x ds)) z → In k (y ∷ ds) z × (x ≡ z → ⊥)
      go true e f u = let g = f u in (has_there k y ds z g.0, g.1)
      go false e f u = pick (has_cases k y (others k x ds) z u)
        where
          pick : (y ≡ z) ⊎ In k (others k x ds) z → In k (y ∷ ds) z × (x ≡ z → ⊥)
          pick (inl q) = (subst (In k (y ∷ ds)) q (has_here k y ds), λ p. subst T (ap (k.same x) (p ∙ sym q) ∙ e) (k.same_refl x))
          pick (inr t) = let g = f t in (has_there k y ds z g.0, g.1)

  others_more : (x : K) (ds : List K) (z : K) → In k ds z → In k (x ∷ others k x ds) z
  others_more x ds z h = go (k.same x z) refl
    where
      go : (b : Bool) → k.same x z ≡ b → T (k.same x z || has k (others k x ds) z)
      go true e = rw e tt
      go false e = rw e (subst T (sym (others-has k x z e ds)) h)

  firsts_in : (xs : List K) (z : K) → In k (firsts k xs) z → In k xs z
  firsts_in [] z h = h
  firsts_in (x ∷ xs) z h = go (firsts_in xs z) (has_cases k x (others k x (firsts k xs)) z h)
    where
      go : (In k (firsts k xs) z → In k xs z) → (x ≡ z) ⊎ In k (others k x (firsts k xs)) z → In k (x ∷ xs) z
      go f (inl e) = subst (In k (x ∷ xs)) e (has_here k x xs)
      go f (inr t) = has_there k x xs z (f (others_less x (firsts k xs) z t).0)

  in_firsts : (xs : List K) (z : K) → In k xs z → In k (firsts k xs) z
  in_firsts [] z h = h
  in_firsts (x ∷ xs) z h = go (in_firsts xs z) (has_cases k x xs z h)
    where
      go : (In k xs z → In k (firsts k xs) z) → (x ≡ z) ⊎ In k xs z → In k (firsts k (x ∷ xs)) z
      go f (inl e) = subst (In k (firsts k (x ∷ xs))) e (has_here k x (others k x (firsts k xs)))
      go f (inr t) = others_more x (firsts k xs) z (f t)

  others-Distinct : (x : K) (ds : List K) → Distinct k ds → Distinct k (others k x ds)
  others-Distinct x [] d = tt
  others-Distinct x (y ∷ ds) d = go (k.same x y) (others-Distinct x ds d.1)
    where
      go : (b : Bool) → Distinct k (others k x ds) → Distinct k (cond b (others k x ds) (y ∷ others k x ds))
      go true h = h
      go false h = (λ u. d.0 (others_less x ds y u).0, h)

  firsts-Distinct : (xs : List K) → Distinct k (firsts k xs)
  firsts-Distinct [] = tt
  firsts-Distinct (x ∷ xs) = (λ u. (others_less x (firsts k xs) x u).1 refl, others-Distinct x (firsts k xs) (firsts-Distinct xs))

  -- where one of the others stands, it stood before, with those before it
  record Stood (x : K) (ds us : List K) (y : K) : Type 0 where
    front : List K
    back : List K
    place : ds ≡ front ++ (y ∷ back)
    same : others k x front ≡ us

  others-Stood : (x : K) (ds us : List K) (y : K) (vs : List K) → others k x ds ≡ us ++ (y ∷ vs) → Stood x ds us y
  others-Stood x [] [] y vs e = let z : ◌≡◌ {A = ℕ} 0 1 = cc in absurd (omega arith)
  others-Stood x [] (u ∷ us) y vs e = let z : ◌≡◌ {A = ℕ} 0 1 = cc in absurd (omega arith)
  others-Stood x (d ∷ ds) us y vs e = go (k.same x d) refl (λ ws. others-Stood x ds ws y vs) us e
    where
      go : (b : Bool) → k.same x d ≡ b → ((ws : List K) → others k x ds ≡ ws ++ (y ∷ vs) → Stood x ds ws y) → (ws : List K)
          → cond b (others k x ds) (d ∷ others k x ds) ≡ ws ++ (y ∷ vs) → Stood x (d ∷ ds) ws y
      go true b f ws q =
          let s = f ws q in
          record { front = d ∷ s.front; back = s.back; place = ap (λ (l : List K). d ∷ l) s.place; same = rw b s.same }
      go false b f [] q =
          let same : d ≡ y = cc in
          record { front = []; back = ds; place = rw same; same = refl }
      go false b f (w ∷ ws) q =
          let here : d ≡ w = cc in
          let rest : others k x ds ≡ ws ++ (y ∷ vs) = cc in
          let s = f ws rest in
          record { front = d ∷ s.front; back = s.back; place = ap (λ (l : List K). d ∷ l) s.place; same = rw (b, s.same, here) }

  firsts_order : (xs us : List K) (y : K) (vs : List K) → firsts k xs ≡ us ++ (y ∷ vs) → StandsAfter k us y xs
  firsts_order [] [] y vs e = let z : ◌≡◌ {A = ℕ} 0 1 = cc in absurd (omega arith)
  firsts_order [] (u ∷ us) y vs e = let z : ◌≡◌ {A = ℕ} 0 1 = cc in absurd (omega arith)
  firsts_order (x ∷ xs) [] y vs e =
      let same : x ≡ y = cc in
      record { before = []; after = xs; place = rw same; members = λ z. (λ h. h, λ h. h) }
  firsts_order (x ∷ xs) (u ∷ us) y vs e =
      let here : x ≡ u = cc in
      let rest : others k x (firsts k xs) ≡ us ++ (y ∷ vs) = cc in
      let s = others-Stood x (firsts k xs) us y vs rest in
      let o = firsts_order xs s.front y s.back s.place in
      record {
        before = x ∷ o.before;
        after = o.after;
        place = ap (λ (l : List K). x ∷ l) o.place;
        members = λ z.
            subst (λ (l : List K). In k (x ∷ o.before) z ↔ In k l z) (ap (λ (l : List K). x ∷ l) s.same ∙ ap (λ (w : K). w ∷ us) here)
            (members_on x o.before s.front z (o.members z).0 (o.members z).1);
      }
    where
      members_on : (w : K) (bs fs : List K) (z : K) → (In k bs z → In k fs z) → (In k fs z → In k bs z) → In k (w ∷ bs) z ↔ In k (w ∷ others k w fs) z
      members_on w bs fs z to from = (λ h. into (has_cases k w bs z h), λ h. out (has_cases k w (others k w fs) z h))
        where
          into : (w ≡ z) ⊎ In k bs z → In k (w ∷ others k w fs) z
          into (inl q) = subst (In k (w ∷ others k w fs)) q (has_here k w (others k w fs))
          into (inr t) = others_more w fs z (to t)

          out : (w ≡ z) ⊎ In k (others k w fs) z → In k (w ∷ bs) z
          out (inl q) = subst (In k (w ∷ bs)) q (has_here k w bs)
          out (inr t) = has_there k w bs z (from (others_less w fs z t).0)

  pub each_once : (xs : List K) → EachOnce k xs (firsts k xs)
  each_once xs = record { members = λ z. (in_firsts xs z, firsts_in xs z); once = firsts-Distinct xs; order = firsts_order xs }

-- ---- a member found among the first ones of a list stays where it is

module _ {K : Type 0} (k : Key K) (f : ℕ → K) (x : K) (i j : ℕ) where
  pub firsts_stay : (d : ℕ) → j < length (firsts k (tabulate f i))
      → (j < length (firsts k (tabulate f (i + d)))) × (get_or (firsts k (tabulate f (i + d))) j x ≡ get_or (firsts k (tabulate f i)) j x)
  firsts_stay zero l = rw add-zero (l, refl)
  firsts_stay (suc d) l =
      let h = firsts_stay d l in
      rw (add-suc, firsts_snoc k (tabulate f (i + d)) (f (i + d))) (go (has k (firsts k (tabulate f (i + d))) (f (i + d))) h.0 h.1)
    where
      go : (b : Bool) → j < length (firsts k (tabulate f (i + d))) → get_or (firsts k (tabulate f (i + d))) j x ≡ get_or (firsts k (tabulate f i)) j x
          → (j < length (cond b (firsts k (tabulate f (i + d))) (firsts k (tabulate f (i + d)) ++ (f (i + d) ∷ []))))
          × (get_or (cond b (firsts k (tabulate f (i + d))) (firsts k (tabulate f (i + d)) ++ (f (i + d) ∷ []))) j x ≡ get_or (firsts k (tabulate f i)) j x)
      go true m e = (m, e)
      go false m e = (
        omega (arith, length-append (firsts k (tabulate f (i + d))) (f (i + d) ∷ [])),
        get_or-append (firsts k (tabulate f (i + d))) (f (i + d) ∷ []) x j m ∙ e,
      )
