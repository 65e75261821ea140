-- Laws of permuted lists: how many they are, what clauses weigh, what holds of all; a list itself, backwards, mapped, and with two members exchanged.
use Prim.Native.Nat.{ℕ, suc, ◌+◌}
use mathlib.Core.List.{List, [], ◌∷◌, ◌++◌, map}
use mathlib.Core.Path.{◌≡◌, refl, ap, ◌∙◌}
use native.Mathlib.Omega.{arith}
use lib.ListN.{length}
use Rattle.lists.specs.Member.{All}
use Rattle.problem.specs.Problem.{Clause, weight, weights}
use Rattle.shuffling.specs.Shuffled.{Permuted, none_left, same_first, swapped, one_by_one}

pub Permuted-length : {A : Type 0} (xs ys : List A) → Permuted xs ys → length xs ≡ length ys
Permuted-length xs ys none_left = refl
Permuted-length xs ys (same_first x us vs p) = ap suc (Permuted-length us vs p)
Permuted-length xs ys (swapped x y us) = refl
Permuted-length xs ys (one_by_one us vs ws p q) = Permuted-length us vs p ∙ Permuted-length vs ws q

pub Permuted-weights : (c : ℕ) (ks ls : List Clause) → Permuted ks ls → weights c ks ≡ weights c ls
Permuted-weights c ks ls none_left = refl
Permuted-weights c ks ls (same_first k us vs p) = ap (λ (n : ℕ). weight c k + n) (Permuted-weights c us vs p)
Permuted-weights c ks ls (swapped k l us) = omega arith
Permuted-weights c ks ls (one_by_one us vs ws p q) = Permuted-weights c us vs p ∙ Permuted-weights c vs ws q

pub Permuted-All {ℓ} : {A : Type 0} (P : A → Type ℓ) (xs ys : List A) → Permuted xs ys → All P xs → All P ys
Permuted-All P xs ys none_left a = tt
Permuted-All P xs ys (same_first x us vs p) a = (a.0, Permuted-All P us vs p a.1)
Permuted-All P xs ys (swapped x y us) a = (a.1.0, (a.0, a.1.1))
Permuted-All P xs ys (one_by_one us vs ws p q) a = Permuted-All P vs ws q (Permuted-All P us vs p a)

pub permuted_self : {A : Type 0} (xs : List A) → Permuted xs xs
permuted_self [] = none_left
permuted_self (x ∷ xs) = same_first x xs xs (permuted_self xs)

pub permuted_back : {A : Type 0} (xs ys : List A) → Permuted xs ys → Permuted ys xs
permuted_back xs ys none_left = none_left
permuted_back xs ys (same_first x us vs p) = same_first x vs us (permuted_back us vs p)
permuted_back xs ys (swapped x y us) = swapped y x us
permuted_back xs ys (one_by_one us vs ws p q) = one_by_one ws vs us (permuted_back vs ws q) (permuted_back us vs p)

pub Permuted-map : {A B : Type 0} (f : A → B) (xs ys : List A) → Permuted xs ys → Permuted (map f xs) (map f ys)
Permuted-map f xs ys none_left = none_left
Permuted-map f xs ys (same_first x us vs p) = same_first (f x) (map f us) (map f vs) (Permuted-map f us vs p)
Permuted-map f xs ys (swapped x y us) = swapped (f x) (f y) (map f us)
Permuted-map f xs ys (one_by_one us vs ws p q) = one_by_one (map f us) (map f vs) (map f ws) (Permuted-map f us vs p) (Permuted-map f vs ws q)

-- ---- two members exchanged

module _ {A : Type 0} where
  permuted_behind : (front xs ys : List A) → Permuted xs ys → Permuted (front ++ xs) (front ++ ys)
  permuted_behind [] xs ys p = p
  permuted_behind (x ∷ front) xs ys p = same_first x (front ++ xs) (front ++ ys) (permuted_behind front xs ys p)

  -- the first goes behind others
  permuted_past : (x : A) (mid back : List A) → Permuted (x ∷ mid ++ back) (mid ++ (x ∷ back))
  permuted_past x [] back = permuted_self (x ∷ back)
  permuted_past x (m ∷ mid) back =
      one_by_one (x ∷ m ∷ mid ++ back) (m ∷ x ∷ mid ++ back) (m ∷ mid ++ (x ∷ back)) (swapped x m (mid ++ back))
      (same_first m (x ∷ mid ++ back) (mid ++ (x ∷ back)) (permuted_past x mid back))

  pub permuted_exchange : (front mid back : List A) (x y : A) → Permuted (front ++ (x ∷ mid ++ (y ∷ back))) (front ++ (y ∷ mid ++ (x ∷ back)))
  permuted_exchange front mid back x y =
      permuted_behind front (x ∷ mid ++ (y ∷ back)) (y ∷ mid ++ (x ∷ back))
      (one_by_one (x ∷ mid ++ (y ∷ back)) (y ∷ x ∷ mid ++ back) (y ∷ mid ++ (x ∷ back))
      (one_by_one (x ∷ mid ++ (y ∷ back)) (x ∷ y ∷ mid ++ back) (y ∷ x ∷ mid ++ back)
      (same_first x (mid ++ (y ∷ back)) (y ∷ mid ++ back) (permuted_back (y ∷ mid ++ back) (mid ++ (y ∷ back)) (permuted_past y mid back))) (swapped x y (mid ++ back)))
      (same_first y (x ∷ mid ++ back) (mid ++ (x ∷ back)) (permuted_past x mid back)))
