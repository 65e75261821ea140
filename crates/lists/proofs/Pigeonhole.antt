-- A list of distinct numbers below n is at most n long.
use Prim.Native.Nat.{ℕ, zero, suc, ◌≤◌, ◌<◌}
use mathlib.Core.Bool.{Bool, true, false, cond}
use mathlib.Core.List.{List, [], ◌∷◌}
use mathlib.Core.Logic.{◌⊎◌, inl, inr}
use mathlib.Core.Path.{◌≡◌, subst}
use native.Mathlib.Omega.{arith}
use lib.Dec.{T, eqb, eqb→eq, eqb_refl}
use lib.ListN.{length}
use Rattle.lists.specs.Key.{nat_key}
use Rattle.lists.specs.Member.{All, In, Distinct}
use Rattle.lists.proofs.Member.{has_cases, has_there, has_here, has_all, all_has}

-- the list without n
abbrev without : ℕ → List ℕ → List ℕ
without n [] = []
without n (x ∷ xs) = cond (eqb x n) xs (x ∷ without n xs)

without-length : (n : ℕ) (s : List ℕ) → length s ≤ suc (length (without n s))
without-length n [] = omega arith
without-length n (x ∷ s) = go (eqb x n) (without-length n s)
  where
    go : (b : Bool) → length s ≤ suc (length (without n s)) → suc (length s) ≤ suc (length (cond b s (x ∷ without n s)))
    go true h = omega arith
    go false h = omega arith

without_in : (n : ℕ) (s : List ℕ) (x : ℕ) → In nat_key (without n s) x → In nat_key s x
without_in n [] x h = h
without_in n (y ∷ s) x h = go (eqb y n) (without_in n s x) h
  where
    go : (b : Bool) → (In nat_key (without n s) x → In nat_key s x) → In nat_key (cond b s (y ∷ without n s)) x → In nat_key (y ∷ s) x
    go true f u = has_there nat_key y s x u
    go false f u = pick (has_cases nat_key y (without n s) x u)
      where
        pick : (y ≡ x) ⊎ In nat_key (without n s) x → In nat_key (y ∷ s) x
        pick (inl e) = subst (In nat_key (y ∷ s)) e (has_here nat_key y s)
        pick (inr t) = has_there nat_key y s x (f t)

without-Distinct : (n : ℕ) (s : List ℕ) → Distinct nat_key s → Distinct nat_key (without n s)
without-Distinct n [] d = tt
without-Distinct n (x ∷ s) d = go (eqb x n) (without-Distinct n s d.1)
  where
    go : (b : Bool) → Distinct nat_key (without n s) → Distinct nat_key (cond b s (x ∷ without n s))
    go true h = d.1
    go false h = (λ u. d.0 (without_in n s x u), h)

without_below : (n : ℕ) (s : List ℕ) → Distinct nat_key s → All (λ x. x < suc n) s → All (λ x. x < n) (without n s)
without_below n [] d a = tt
without_below n (x ∷ s) d a = go (eqb x n) (λ t. eqb→eq x n t) (λ e. subst (λ (m : ℕ). T (eqb x m)) e (eqb_refl x)) (without_below n s d.1 a.1)
  where
    rest : x ≡ n → (y : ℕ) → In nat_key s y → y < suc n → y < n
    rest e y h l = let ne : (y ≡ n → ⊥) = λ q. d.0 (subst (In nat_key s) (rw (e, q)) h) in omega arith

    go : (b : Bool) → (T b → x ≡ n) → (x ≡ n → T b) → All (λ y. y < n) (without n s) → All (λ y. y < n) (cond b s (x ∷ without n s))
    go true f g h =
        all_has nat_key (λ y. y < n) s (λ y m. rest (f tt) y m (has_all nat_key (λ z. z < suc n) s a.1 y m))
    go false f g h = (let ne : (x ≡ n → ⊥) = g in let l : x < suc n = a.0 in omega arith, h)

pub pigeonhole : (n : ℕ) (s : List ℕ) → Distinct nat_key s → All (λ x. x < n) s → length s ≤ n
pigeonhole zero [] d a = omega arith
pigeonhole zero (x ∷ s) d a = omega (arith, a.0)
pigeonhole (suc n) s d a =
    let h : length (without n s) ≤ n = pigeonhole n (without n s) (without-Distinct n s d) (without_below n s d a) in
    omega (arith, without-length n s)
