-- Laws of the order in which the variables of a clause first appear, over its arguments.
use Prim.Native.Nat.{ℕ, suc, ◌+◌, ◌≤◌, ◌<◌}
use mathlib.Core.Bool.{not}
use mathlib.Core.List.{List, [], ◌∷◌, ◌++◌}
use mathlib.Core.Logic.{◌⊎◌, inl, inr}
use mathlib.Core.Path.{◌≡◌, refl, ap}
use native.Mathlib.Omega.{arith}
use lib.Dec.{T, ltb, ltb→lt, nltb→le}
use lib.ListN.{length, length-append}
use Rattle.lists.specs.Member.{All, Any}
use Rattle.lists.proofs.Test.{decided}
use Rattle.lists.proofs.Member.{all_map, All-append, any_left, any_right}

-- the variable x stands among arguments
abbrev pub Stands : ℕ → List ℕ → Type 0
Stands x bs = Any (λ b. b ≡ 128 + x) bs

-- where z stands in xs ++ ys: in xs, or behind it
data Falls (xs ys front : List ℕ) (z : ℕ) (back : List ℕ) : Type 0 where
  within : (rest : List ℕ) → xs ≡ front ++ (z ∷ rest) → Falls xs ys front z back
  behind : (more : List ℕ) → front ≡ xs ++ more → ys ≡ more ++ (z ∷ back) → Falls xs ys front z back

falls : (xs ys front : List ℕ) (z : ℕ) (back : List ℕ) → xs ++ ys ≡ front ++ (z ∷ back) → Falls xs ys front z back
falls [] ys front z back e = behind front refl e
falls (x ∷ xs) ys [] z back e =
    let same : x ≡ z = cc in
    within xs (rw same)
falls (x ∷ xs) ys (a ∷ front) z back e =
    let same : x ≡ a = cc in
    let rest : xs ++ ys ≡ front ++ (z ∷ back) = cc in
    go same (falls xs ys front z back rest)
  where
    go : x ≡ a → Falls xs ys front z back → Falls (x ∷ xs) ys (a ∷ front) z back
    go same (within r e) = within r (rw (same, e))
    go same (behind m e q) = behind m (rw (same, e)) q

-- with v variables so far: before each variable stand those of all lower numbers from v on
abbrev pub InOrderFrom : ℕ → List ℕ → Type 0
InOrderFrom v bs = (front back : List ℕ) (x : ℕ) → bs ≡ front ++ ((128 + x) ∷ back) → (y : ℕ) → v ≤ y → y < x → Stands y front

pub order_none : (v : ℕ) → InOrderFrom v []
order_none v front back x e = absurd (omega (arith, simp length-append at (ap length e)))

-- arguments after others that name the variables from v to u
pub order_append : (v u : ℕ) (xs ys : List ℕ) → InOrderFrom v xs → ((y : ℕ) → v ≤ y → y < u → Stands y xs) → InOrderFrom u ys → InOrderFrom v (xs ++ ys)
order_append v u xs ys p named q front back x e y l h = go (falls xs ys front (128 + x) back e) (decided (ltb y u))
  where
    go : Falls xs ys front (128 + x) back → T (ltb y u) ⊎ T (not (ltb y u)) → Stands y front
    go (within rest s) d = p front rest x s y l h
    go (behind more s t) (inl d) = rw s (any_left (λ b. b ≡ 128 + y) xs more (named y l (ltb→lt y u d)))
    go (behind more s t) (inr d) = rw s (any_right (λ b. b ≡ 128 + y) xs more (q more back x t y (nltb→le y u d) h))

-- v is the number of variables among arguments: those below v stand there, and no other
pub record Seen (bs : List ℕ) (v : ℕ) : Type 0 where
  pub named : (x : ℕ) → x < v → Stands x bs
  pub below : All (λ b. b < 128 + v) bs

not_below : (v : ℕ) (bs : List ℕ) → All (λ b. b < 128 + v) bs → Stands v bs → ⊥
not_below v [] a x'' = elim x'' [ ]
not_below v (b ∷ bs) a (inl e) = omega (arith, a.0)
not_below v (b ∷ bs) a (inr s) = not_below v bs a.1 s

pub seen_none : Seen [] 0
seen_none = record { named = λ x l. omega arith; below = tt }

module _ (bs : List ℕ) (v : ℕ) (s : Seen bs v) where
  pub seen_not : Stands v bs → ⊥
  seen_not t = not_below v bs s.below t

  -- an argument that is no new variable, and the next variable
  pub seen_old : (b : ℕ) → b < 128 + v → Seen (bs ++ (b ∷ [])) v
  seen_old b l =
      record {
        named = λ x h. any_left (λ d. d ≡ 128 + x) bs (b ∷ []) (s.named x h);
        below = All-append (λ d. d < 128 + v) bs (b ∷ []) s.below (l, tt);
      }

  pub seen_new : (b : ℕ) → b ≡ 128 + v → Seen (bs ++ (b ∷ [])) (suc v)
  seen_new b e =
      record {
        named = λ x h. go x (decided (ltb x v)) h;
        below = All-append (λ d. d < 128 + suc v) bs (b ∷ []) (all_map (λ d. d < 128 + v) (λ d. d < 128 + suc v) (λ d l. omega arith) bs s.below) (omega arith, tt);
      }
    where
      go : (x : ℕ) → T (ltb x v) ⊎ T (not (ltb x v)) → x < suc v → Stands x (bs ++ (b ∷ []))
      go x (inl t) h = any_left (λ d. d ≡ 128 + x) bs (b ∷ []) (s.named x (ltb→lt x v t))
      go x (inr t) h = any_right (λ d. d ≡ 128 + x) bs (b ∷ []) (inl (omega (arith, nltb→le x v t)))

pub seen_same : (bs : List ℕ) (v w : ℕ) → Seen bs v → Seen bs w → v ≡ w
seen_same bs v w s t = go (decided (ltb v w)) (decided (ltb w v))
  where
    go : T (ltb v w) ⊎ T (not (ltb v w)) → T (ltb w v) ⊎ T (not (ltb w v)) → v ≡ w
    go (inl l) d = absurd (seen_not bs v s (t.named v (ltb→lt v w l)))
    go (inr l) (inl m) = absurd (seen_not bs w t (s.named w (ltb→lt w v m)))
    go (inr l) (inr m) = omega (arith, nltb→le v w l, nltb→le w v m)
