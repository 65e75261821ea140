-- Laws of `flat_map`, `All`, `Any`, `every`, `first`, `has` and `lead`.
use Prim.Native.Nat.{ℕ, suc, ◌≤◌, ◌<◌}
use mathlib.Core.Bool.{Bool, true, false, not, cond, ◌&&◌}
use mathlib.Core.List.{List, [], ◌∷◌, ◌++◌, map, flat_map, append_assoc, append-nil}
use mathlib.Core.Logic.{◌⊎◌, inl, inr}
use mathlib.Core.Option.{none, some, none-ne-some}
use mathlib.Core.Path.{◌≡◌, refl, sym, ap, subst, ◌∙◌}
use native.Mathlib.Omega.{arith}
use lib.Dec.{T, eqb, eqb-zero-suc, eqb-suc-suc}
use lib.ListN.{length, take, get_or}
use Rattle.lists.specs.Key.{Key}
use Rattle.lists.specs.Member.{All, Any, every, first, FirstOf, has, In, lead}
use Rattle.lists.proofs.Test.{T-true, T-false, or_left, or_right, T-or}
use Rattle.lists.specs.Test.{and-T, T_left, T_right}

pub flat_append : {A B : Type 0} (f : A → List B) (xs ys : List A) → flat_map f (xs ++ ys) ≡ flat_map f xs ++ flat_map f ys
unfolding flat_map
flat_append f [] ys = refl
flat_append f (x ∷ xs) ys = rw (flat_append f xs ys, append_assoc)

pub flat_snoc : {A B : Type 0} (f : A → List B) (xs : List A) (x : A) → flat_map f (xs ++ (x ∷ [])) ≡ flat_map f xs ++ f x
unfolding flat_map
flat_snoc f xs x = flat_append f xs (x ∷ []) ∙ rw append-nil

pub flat_flat : {A B C : Type 0} (f : B → List C) (g : A → List B) (xs : List A) → flat_map f (flat_map g xs) ≡ flat_map (λ x. flat_map f (g x)) xs
unfolding flat_map
flat_flat f g [] = refl
flat_flat f g (x ∷ xs) = flat_append f (g x) (flat_map g xs) ∙ rw (flat_flat f g xs)

module _ {ℓ} {A : Type 0} where
  pub all_map {κ} : (P : A → Type ℓ) (Q : A → Type κ) → ((x : A) → P x → Q x) → (xs : List A) → All P xs → All Q xs
  all_map P Q f [] a = tt
  all_map P Q f (x ∷ xs) a = (f x a.0, all_map P Q f xs a.1)

  pub all_zip {κ μ} : (P : A → Type ℓ) (Q : A → Type κ) (R : A → Type μ) → ((x : A) → P x → Q x → R x) → (xs : List A) → All P xs → All Q xs → All R xs
  all_zip P Q R f [] a b = tt
  all_zip P Q R f (x ∷ xs) a b = (f x a.0 b.0, all_zip P Q R f xs a.1 b.1)

  pub All-append : (P : A → Type ℓ) (xs ys : List A) → All P xs → All P ys → All P (xs ++ ys)
  All-append P [] ys a b = b
  All-append P (x ∷ xs) ys a b = (a.0, All-append P xs ys a.1 b)

  pub append_left : (P : A → Type ℓ) (xs ys : List A) → All P (xs ++ ys) → All P xs
  append_left P [] ys a = tt
  append_left P (x ∷ xs) ys a = (a.0, append_left P xs ys a.1)

  pub append_right : (P : A → Type ℓ) (xs ys : List A) → All P (xs ++ ys) → All P ys
  append_right P [] ys a = a
  append_right P (x ∷ xs) ys a = append_right P xs ys a.1

  pub all_of : (P : A → Type ℓ) → ((x : A) → P x) → (xs : List A) → All P xs
  all_of P f [] = tt
  all_of P f (x ∷ xs) = (f x, all_of P f xs)

module _ {ℓ} {A B : Type 0} where
  pub all_mapped : (f : A → B) (P : B → Type ℓ) (xs : List A) → All (λ x. P (f x)) xs → All P (map f xs)
  all_mapped f P [] a = tt
  all_mapped f P (x ∷ xs) a = (a.0, all_mapped f P xs a.1)

  pub mapped_all : (f : A → B) (P : B → Type ℓ) (xs : List A) → All P (map f xs) → All (λ x. P (f x)) xs
  mapped_all f P [] a = tt
  mapped_all f P (x ∷ xs) a = (a.0, mapped_all f P xs a.1)

  pub all_flat : (f : A → List B) (P : B → Type ℓ) (xs : List A) → All (λ x. All P (f x)) xs → All P (flat_map f xs)
  unfolding flat_map
  all_flat f P [] a = tt
  all_flat f P (x ∷ xs) a = All-append P (f x) (flat_map f xs) a.0 (all_flat f P xs a.1)

  pub flat_all : (f : A → List B) (P : B → Type ℓ) (xs : List A) → All P (flat_map f xs) → All (λ x. All P (f x)) xs
  unfolding flat_map
  flat_all f P [] a = tt
  flat_all f P (x ∷ xs) a = (append_left P (f x) (flat_map f xs) a, flat_all f P xs (append_right P (f x) (flat_map f xs) a))

module _ {A : Type 0} where
  pub any_left : (P : A → Type 0) (xs ys : List A) → Any P xs → Any P (xs ++ ys)
  any_left P [] ys x' = elim x' [ ]
  any_left P (x ∷ xs) ys (inl p) = inl p
  any_left P (x ∷ xs) ys (inr p) = inr (any_left P xs ys p)

  pub any_right : (P : A → Type 0) (xs ys : List A) → Any P ys → Any P (xs ++ ys)
  any_right P [] ys p = p
  any_right P (x ∷ xs) ys p = inr (any_right P xs ys p)

pub any_flat : {A B : Type 0} (f : A → List B) (P : B → Type 0) (xs : List A) → Any (λ x. Any P (f x)) xs → Any P (flat_map f xs)
unfolding flat_map
any_flat {A = A} {B = B} f P [] x' = elim x' [ ]
any_flat f P (x ∷ xs) (inl p) = any_left P (f x) (flat_map f xs) p
any_flat f P (x ∷ xs) (inr p) = any_right P (f x) (flat_map f xs) (any_flat f P xs p)

module _ {A : Type 0} where
  -- a member with a property, where every member has another
  pub any_zip {ℓ} : (P : A → Type 0) (Q : A → Type ℓ) (R : A → Type 0) → ((x : A) → P x → Q x → R x) → (xs : List A) → Any P xs → All Q xs → Any R xs
  any_zip P Q R f [] x'' a = elim x'' [ ]
  any_zip P Q R f (x ∷ xs) (inl p) a = inl (f x p a.0)
  any_zip P Q R f (x ∷ xs) (inr p) a = inr (any_zip P Q R f xs p a.1)

  pub every-All : (p : A → Bool) (xs : List A) → T (every p xs) → All (λ x. T (p x)) xs
  every-All p [] t = tt
  every-All p (x ∷ xs) t = (T_left (p x) (every p xs) t, every-All p xs (T_right (p x) (every p xs) t))

  pub All-every : (p : A → Bool) (xs : List A) → All (λ x. T (p x)) xs → T (every p xs)
  All-every p [] a = tt
  All-every p (x ∷ xs) a = and-T (p x) (every p xs) a.0 (All-every p xs a.1)

  -- where a test fails on the whole, it fails at some member
  pub some_fails : (p : A → Bool) (xs : List A) → T (not (every p xs)) → Any (λ x. T (not (p x))) xs
  some_fails p [] t = elim t [ ]
  some_fails p (x ∷ xs) t = go (p x) (λ u. some_fails p xs u) t
    where
      go : (b : Bool) → (T (not (every p xs)) → Any (λ y. T (not (p y))) xs) → T (not (b && every p xs)) → T (not b) ⊎ Any (λ y. T (not (p y))) xs
      go true f u = inr (f u)
      go false f u = inl tt

  pub first-none : (p : A → Bool) (xs : List A) → first p xs ≡ none → All (λ x. T (not (p x))) xs
  first-none p [] e = tt
  first-none p (x ∷ xs) e = go (p x) (first-none p xs) e
    where
      go : (b : Bool) → (first p xs ≡ none → All (λ y. T (not (p y))) xs) → cond b (some x) (first p xs) ≡ none → T (not b) × All (λ y. T (not (p y))) xs
      go true f u = absurd (none-ne-some x (sym u))
      go false f u = (tt, f u)

  pub none_first : (p : A → Bool) (xs : List A) → All (λ x. T (not (p x))) xs → first p xs ≡ none
  none_first p [] a = refl
  none_first p (x ∷ xs) a = rw (T-false (p x) a.0) (none_first p xs a.1)

  -- what is left out at the front passes nothing, or all is decided there
  pub first_past : (p : A → Bool) (xs ys : List A) → first p xs ≡ none → first p (xs ++ ys) ≡ first p ys
  first_past p [] ys e = refl
  first_past p (x ∷ xs) ys e = go (p x) (first_past p xs ys) e
    where
      go : (b : Bool) → (first p xs ≡ none → first p (xs ++ ys) ≡ first p ys) → cond b (some x) (first p xs) ≡ none
          → cond b (some x) (first p (xs ++ ys)) ≡ first p ys
      go true f u = absurd (none-ne-some x (sym u))
      go false f u = f u

  pub first_front : (p : A → Bool) (xs ys : List A) (y : A) → first p xs ≡ some y → first p (xs ++ ys) ≡ some y
  first_front p [] ys y e = absurd (none-ne-some y e)
  first_front p (x ∷ xs) ys y e = go (p x) (first_front p xs ys y) e
    where
      go : (b : Bool) → (first p xs ≡ some y → first p (xs ++ ys) ≡ some y) → cond b (some x) (first p xs) ≡ some y
          → cond b (some x) (first p (xs ++ ys)) ≡ some y
      go true f u = u
      go false f u = f u

  -- what holds of every member and is tested holds of the first that passes
  pub first-some {ℓ} : (p : A → Bool) (P : A → Type ℓ) (xs : List A) → All (λ x. T (p x) → P x) xs → (x : A) → first p xs ≡ some x → P x
  first-some p P [] a y e = absurd (none-ne-some y e)
  first-some p P (x ∷ xs) a y e = go (p x) a.0 (first-some p P xs a.1 y) e
    where
      go : (b : Bool) → (T b → P x) → (first p xs ≡ some y → P y) → cond b (some x) (first p xs) ≡ some y → P y
      go true h f u = let q : x ≡ y = cc in subst P q (h tt)
      go false h f u = f u

  -- where the first that passes stands, of a test that tells P
  pub first_of_lem : (p : A → Bool) (P : A → Type 0) → ((x : A) → T (p x) → P x) → ((x : A) → P x → T (p x)) → (xs : List A) (y : A) → first p xs ≡ some y → FirstOf P xs y
  first_of_lem p P f g [] y e = absurd (none-ne-some y e)
  first_of_lem p P f g (x ∷ xs) y e = go (p x) (f x) (g x) (first_of_lem p P f g xs y) e
    where
      go : (b : Bool) → (T b → P x) → (P x → T b) → (first p xs ≡ some y → FirstOf P xs y) → cond b (some x) (first p xs) ≡ some y → FirstOf P (x ∷ xs) y
      go true to from rest u =
          let same : x ≡ y = cc in
          record { before = []; after = xs; order = rw same; none_before = tt; here = subst P same (to tt) }
      go false to from rest u =
          let s = rest u in
          record { before = x ∷ s.before; after = s.after; order = ap (λ (l : List A). x ∷ l) s.order; none_before = (from, s.none_before); here = s.here }

  -- two tests that agree on every member find the same first one
  pub first_same : (p q : A → Bool) (xs : List A) → All (λ x. p x ≡ q x) xs → first p xs ≡ first q xs
  first_same p q [] a = refl
  first_same p q (x ∷ xs) a = rw (a.0, first_same p q xs a.1)

  pub every_same : (p q : A → Bool) (xs : List A) → All (λ x. p x ≡ q x) xs → every p xs ≡ every q xs
  every_same p q [] a = refl
  every_same p q (x ∷ xs) a = rw (a.0, every_same p q xs a.1)

pub any_mapped : {A B : Type 0} (f : A → B) (P : B → Type 0) (xs : List A) → Any (λ x. P (f x)) xs → Any P (map f xs)
any_mapped {A = A} {B = B} f P [] x' = elim x' [ ]
any_mapped f P (x ∷ xs) (inl p) = inl p
any_mapped f P (x ∷ xs) (inr p) = inr (any_mapped f P xs p)

-- what holds of every member holds of a member
pub member_has {ℓ} : {A : Type 0} (P : A → Type ℓ) (xs : List A) (y : A) → All P xs → Any (λ x. x ≡ y) xs → P y
member_has {A = A} P [] y a x'' = elim x'' [ ]
member_has P (x ∷ xs) y a (inl e) = subst P e a.0
member_has P (x ∷ xs) y a (inr m) = member_has P xs y a.1 m

module _ {K : Type 0} (k : Key K) where
  pub has_here : (x : K) (s : List K) → In k (x ∷ s) x
  has_here x s = or_left (k.same x x) (has k s x) (k.same_refl x)

  pub has_there : (y : K) (s : List K) (x : K) → In k s x → In k (y ∷ s) x
  has_there y s x h = or_right (k.same y x) (has k s x) h

  pub has_cases : (y : K) (s : List K) (x : K) → In k (y ∷ s) x → (y ≡ x) ⊎ In k s x
  has_cases y s x h = go (T-or (k.same y x) (has k s x) h)
    where
      go : T (k.same y x) ⊎ In k s x → (y ≡ x) ⊎ In k s x
      go (inl t) = inl (k.same_eq y x t)
      go (inr t) = inr t

  -- what holds of every member holds of each fact that the test finds
  pub has_all {ℓ} : (P : K → Type ℓ) (s : List K) → All P s → (x : K) → In k s x → P x
  has_all P [] a x h = absurd h
  has_all P (y ∷ s) a x h = go (has_cases y s x h) (has_all P s a.1 x)
    where
      go : (y ≡ x) ⊎ In k s x → (In k s x → P x) → P x
      go (inl e) f = subst P e a.0
      go (inr t) f = f t

  pub all_has {ℓ} : (P : K → Type ℓ) (s : List K) → ((x : K) → In k s x → P x) → All P s
  all_has P [] f = tt
  all_has P (y ∷ s) f = (f y (has_here y s), all_has P s (λ x h. f x (has_there y s x h)))

  pub all_in : (s : List K) → All (In k s) s
  all_in s = all_has (In k s) s (λ x h. h)

  pub all_grow : (y : K) (s xs : List K) → All (In k s) xs → All (In k (y ∷ s)) xs
  all_grow y s xs a = all_map (In k s) (In k (y ∷ s)) (has_there y s) xs a

-- ---- how many hold from the left

module _ (t : ℕ → Bool) where
  pub lead-le : (atoms : List ℕ) → lead t atoms ≤ length atoms
  lead-le [] = omega arith
  lead-le (a ∷ atoms) = go (t a) (lead-le atoms)
    where
      go : (b : Bool) → lead t atoms ≤ length atoms → cond b (suc (lead t atoms)) 0 ≤ suc (length atoms)
      go true h = omega arith
      go false h = omega arith

  pub lead-All : (atoms : List ℕ) → lead t atoms ≡ length atoms → All (λ a. T (t a)) atoms
  lead-All [] e = tt
  lead-All (a ∷ atoms) e = go (t a) (lead-All atoms) e
    where
      go : (b : Bool) → (lead t atoms ≡ length atoms → All (λ x. T (t x)) atoms) → cond b (suc (lead t atoms)) 0 ≡ suc (length atoms)
          → T b × All (λ x. T (t x)) atoms
      go true f e = (tt, f (omega arith))
      go false f e = absurd (omega arith)

  pub All-lead : (atoms : List ℕ) → All (λ a. T (t a)) atoms → lead t atoms ≡ length atoms
  All-lead [] a = refl
  All-lead (x ∷ atoms) a = rw (T-true (t x) a.0) (ap suc (All-lead atoms a.1))

  pub lead_holds : (atoms : List ℕ) → All (λ a. T (t a)) (take (lead t atoms) atoms)
  lead_holds [] = tt
  lead_holds (a ∷ atoms) = go (t a) (lead_holds atoms) (λ p. p)
    where
      go : (b : Bool) → All (λ x. T (t x)) (take (lead t atoms) atoms) → (T b → T (t a)) → All (λ x. T (t x)) (take (cond b (suc (lead t atoms)) 0) (a ∷ atoms))
      go true h f = (f tt, h)
      go false h f = tt

  pub lead_stops : (atoms : List ℕ) → lead t atoms < length atoms → T (not (t (get_or atoms (lead t atoms) 0)))
  lead_stops [] l = absurd (omega arith)
  lead_stops (a ∷ atoms) l = go (t a) l (lead_stops atoms) (λ p. p)
    where
      go : (b : Bool) → cond b (suc (lead t atoms)) 0 < suc (length atoms) → (lead t atoms < length atoms → T (not (t (get_or atoms (lead t atoms) 0))))
          → (T (not b) → T (not (t a))) → T (not (t (get_or (a ∷ atoms) (cond b (suc (lead t atoms)) 0) 0)))
      go true l f h = f (omega arith)
      go false l f h = h tt

  pub all_hold : (atoms : List ℕ) → every t atoms ≡ eqb (lead t atoms) (length atoms)
  all_hold [] = refl
  all_hold (a ∷ atoms) = go (t a) (all_hold atoms)
    where
      go : (b : Bool) → every t atoms ≡ eqb (lead t atoms) (length atoms) → (b && every t atoms) ≡ eqb (cond b (suc (lead t atoms)) 0) (suc (length atoms))
      go true e = e ∙ sym (eqb-suc-suc (lead t atoms) (length atoms))
      go false e = sym (eqb-zero-suc (length atoms))
