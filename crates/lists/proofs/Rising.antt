-- Lists in which each member stands in a relation to every later one.
use Prim.Native.Nat.{ℕ, zero, suc, ◌<◌}
use mathlib.Core.List.{List, [], ◌∷◌, ◌++◌, map, flat_map}
use mathlib.Core.Path.{sym, subst}
use native.Mathlib.Omega.{arith}
use Rattle.lists.specs.Member.{All}
use Rattle.lists.specs.Tabulate.{tabulate}
use Rattle.lists.proofs.Member.{flat_snoc, All-append, append_right, all_mapped, all_flat}
use Rattle.lists.proofs.Tabulate.{All-tabulate}

abbrev pub Rising : {A : Type 0} → (A → A → Type 0) → List A → Type 0
Rising R [] = Unit
Rising R (x ∷ xs) = All (R x) xs × Rising R xs

module _ {A : Type 0} (R : A → A → Type 0) where
  Rising-append : (xs ys : List A) → Rising R xs → Rising R ys → All (λ x. All (R x) ys) xs → Rising R (xs ++ ys)
  Rising-append [] ys a b c = b
  Rising-append (x ∷ xs) ys a b c = (All-append (R x) xs ys a.0 c.0, Rising-append xs ys a.1 b c.1)

  pub Rising-tabulate : (f : ℕ → A) (n : ℕ) → ((i j : ℕ) → i < j → j < n → R (f i) (f j)) → Rising R (tabulate f n)
  Rising-tabulate f zero h = tt
  Rising-tabulate f (suc n) h =
      Rising-append (tabulate f n) (f n ∷ []) (Rising-tabulate f n (λ i j l m. h i j l (omega arith))) (tt, tt)
      (All-tabulate (λ x. All (R x) (f n ∷ [])) f n (λ i l. (h i n l (omega arith), tt)))

  pub rising_mapped : {B : Type 0} (f : B → A) (xs : List B) → Rising (λ x y. R (f x) (f y)) xs → Rising R (map f xs)
  rising_mapped f [] a = tt
  rising_mapped f (x ∷ xs) a = (all_mapped f (R (f x)) xs a.0, rising_mapped f xs a.1)

  pub rising_flat : (f : ℕ → List A) (n : ℕ) → ((i : ℕ) → i < n → Rising R (f i)) → ((i j : ℕ) → i < j → j < n → All (λ x. All (R x) (f j)) (f i))
      → Rising R (flat_map f (tabulate (λ i. i) n))
  unfolding flat_map
  rising_flat f zero each across = tt
  rising_flat f (suc n) each across =
      let upto : List ℕ = tabulate (λ i. i) n in
      subst (Rising R) (sym (flat_snoc f upto n))
      (Rising-append (flat_map f upto) (f n) (rising_flat f n (λ i l. each i (omega arith)) (λ i j l m. across i j l (omega arith))) (each n (omega arith))
      (all_flat f (λ x. All (R x) (f n)) upto (All-tabulate (λ i. All (λ x. All (R x) (f n)) (f i)) (λ i. i) n (λ i l. across i n l (omega arith)))))

  pub rising_apart : (front mid back : List A) (x y : A) → Rising R (front ++ (x ∷ mid ++ (y ∷ back))) → R x y
  rising_apart [] mid back x y a = (append_right (R x) mid (y ∷ back) a.0).0
  rising_apart (z ∷ front) mid back x y a = rising_apart front mid back x y a.1
