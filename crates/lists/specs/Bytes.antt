-- Lists of bytes: padding, equality and flags.
use Rattle.std.specs.Prelude.{ℕ, ◌-◌, Bool, true, false, ◌&&◌, List, [], ◌∷◌, ◌++◌, ◌≡◌, refl, T, eqb, length, get_or, replicate}
use Rattle.std.proofs.Common.{eqb→eq}
use Rattle.std.proofs.Math.Dec.{eqb_refl}
use Rattle.lists.specs.Test.{and-T, T_left, T_right}

-- xs, and zeros after it to the length n
abbrev pub pad : ℕ → List ℕ → List ℕ
pad n xs = xs ++ replicate (n - length xs) 0

abbrev pub same_list : List ℕ → List ℕ → Bool
same_list [] [] = true
same_list [] (y ∷ ys) = false
same_list (x ∷ xs) [] = false
same_list (x ∷ xs) (y ∷ ys) = eqb x y && same_list xs ys

-- the test is right
pub same_equal : (xs ys : List ℕ) → T (same_list xs ys) → xs ≡ ys
same_equal [] [] t = refl
same_equal [] (y ∷ ys) t = absurd t
same_equal (x ∷ xs) [] t = absurd t
same_equal (x ∷ xs) (y ∷ ys) t = rw (eqb→eq x y (T_left (eqb x y) (same_list xs ys) t), same_equal xs ys (T_right (eqb x y) (same_list xs ys) t))

pub same_refl : (xs : List ℕ) → T (same_list xs xs)
same_refl [] = tt
same_refl (x ∷ xs) = and-T (eqb x x) (same_list xs xs) (eqb_refl x) (same_refl xs)

-- the set that flags stand for, and a flag's byte
abbrev pub is_set : List ℕ → ℕ → Bool
is_set flags a = eqb (get_or flags a 0) 1

abbrev pub bit : Bool → ℕ
bit true = 1
bit false = 0
