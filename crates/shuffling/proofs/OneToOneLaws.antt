-- A renumbering that is one to one has one that takes it back; every constant as it is; one renumbering after the other; two constants exchanged.
use Prim.Native.Nat.{ℕ, zero, suc, ◌≤◌, ◌<◌}
use mathlib.Core.Bool.{Bool, true, false, not}
use mathlib.Core.List.{List, [], ◌∷◌}
use mathlib.Core.Logic.{◌⊎◌, inl, inr}
use mathlib.Core.Path.{◌≡◌, refl, sym, ap, ◌∙◌}
use native.Mathlib.Omega.{arith}
use lib.Dec.{T, T_not, eqb}
use lib.ListN.{length}
use borrow.Author.Tests.{eqb-true, eqb-false}
use Rattle.lists.specs.Key.{nat_key}
use Rattle.lists.specs.Member.{All, In, Distinct, has}
use Rattle.lists.proofs.Member.{has_cases}
use Rattle.lists.proofs.Pigeonhole.{pigeonhole}
use Rattle.lists.proofs.Test.{decided, lt_or_le}
use Rattle.shuffling.specs.Shuffled.{OneToOne, swap}

module _ (c : ℕ) (σ : ℕ → ℕ) (o : OneToOne c σ) where
  -- the numbers of the first n constants, the last one first
  abbrev numbers : ℕ → List ℕ
  numbers zero = []
  numbers (suc n) = σ n ∷ numbers n

  numbers-length : (n : ℕ) → length (numbers n) ≡ n
  numbers-length zero = refl
  numbers-length (suc n) = ap suc (numbers-length n)

  numbers_below : (n : ℕ) → n ≤ c → All (λ d. d < c) (numbers n)
  numbers_below zero h = tt
  numbers_below (suc n) h = (o.below n h, numbers_below n (omega arith))

  -- d is the number of one of the first n
  abbrev pub Among : ℕ → ℕ → Type 0
  Among n d = (e : ℕ) × (e < n) × (σ e ≡ d)

  among : (n d : ℕ) → In nat_key (numbers n) d → Among n d
  among zero d m = absurd m
  among (suc n) d m = go (has_cases nat_key (σ n) (numbers n) d m) (among n d)
    where
      go : (σ n ≡ d) ⊎ In nat_key (numbers n) d → (In nat_key (numbers n) d → Among n d) → Among (suc n) d
      go (inl e) on = (n, omega arith, e)
      go (inr m) on = let r = on m in (r.0, omega (arith, r.1), r.2)

  numbers-Distinct : (n : ℕ) → n ≤ c → Distinct nat_key (numbers n)
  numbers-Distinct zero h = tt
  numbers-Distinct (suc n) h = (twice, numbers-Distinct n (omega arith))
    where
      twice : In nat_key (numbers n) (σ n) → ⊥
      twice m =
          let r = among n (σ n) m in
          let small : r.0 < n = r.1 in
          let same : r.0 ≡ n = o.apart r.0 n (omega arith) h r.2 in
          omega arith

  -- every constant is the number of one
  pub onto : (d : ℕ) → d < c → Among c d
  onto d h = go (decided (has nat_key (numbers c) d))
    where
      go : In nat_key (numbers c) d ⊎ T (not (has nat_key (numbers c) d)) → Among c d
      go (inl m) = among c d m
      go (inr f) =
          let distinct : Distinct nat_key (d ∷ numbers c) = (T_not (has nat_key (numbers c) d) f, numbers-Distinct c (omega arith)) in
          absurd (omega (arith, numbers-length c, pigeonhole c (d ∷ numbers c) distinct (h, numbers_below c (omega arith))))

  abbrev pub before : (d : ℕ) → (d < c) ⊎ (c ≤ d) → ℕ
  before d (inl h) = (onto d h).0
  before d (inr h) = d

  before_is : (d : ℕ) (s : (d < c) ⊎ (c ≤ d)) → d < c → (before d s < c) × (σ (before d s) ≡ d)
  before_is d (inl h) l = ((onto d h).1, (onto d h).2)
  before_is d (inr h) l = absurd (omega arith)

  -- the constant that has a number
  unfoldable pub back : ℕ → ℕ
  back d = before d (lt_or_le d c)

  pub back_below : (d : ℕ) → d < c → back d < c
  unfolding back
  back_below d h = (before_is d (lt_or_le d c) h).0

  pub forth : (d : ℕ) → d < c → σ (back d) ≡ d
  unfolding back
  forth d h = (before_is d (lt_or_le d c) h).1

  pub there_back : (d : ℕ) → d < c → back (σ d) ≡ d
  there_back d h = let l = o.below d h in o.apart (back (σ d)) d (back_below (σ d) l) h (forth (σ d) l)

  pub back_one : OneToOne c back
  back_one = record { below = back_below; apart = λ d e h l s. sym (forth d h) ∙ ap σ s ∙ forth e l }

-- ---- every constant keeps its number, and one renumbering after the other

pub same_one : (c : ℕ) → OneToOne c (λ d. d)
same_one c = record { below = λ d h. h; apart = λ d e h l s. s }

pub one_after : (c : ℕ) (σ τ : ℕ → ℕ) → OneToOne c σ → OneToOne c τ → OneToOne c (λ d. τ (σ d))
one_after c σ τ o p =
    record {
      below = λ d h. p.below (σ d) (o.below d h);
      apart = λ d e h l s. o.apart d e h l (p.apart (σ d) (σ e) (o.below d h) (o.below e l) s);
    }

-- ---- two constants exchanged

-- x is what d becomes
abbrev Swapped : ℕ → ℕ → ℕ → ℕ → Type 0
Swapped a b d x = ((d ≡ a) × (x ≡ b)) ⊎ ((d ≡ b) × (x ≡ a)) ⊎ ((d ≡ a → ⊥) × (d ≡ b → ⊥) × (x ≡ d))

swapped : (a b d : ℕ) → Swapped a b d (swap a b d)
swapped a b d = go (eqb d a) refl (eqb d b) refl
  where
    go : (u : Bool) → eqb d a ≡ u → (v : Bool) → eqb d b ≡ v → Swapped a b d (swap a b d)
    go true e v f = inl (eqb-true d a e, rw e)
    go false e true f = inr (inl (eqb-true d b f, rw (e, f)))
    go false e false f = inr (inr (eqb-false d a e, eqb-false d b f, rw (e, f)))

swapped_below : (c a b d x : ℕ) → a < c → b < c → d < c → Swapped a b d x → x < c
swapped_below c a b d x h k l (inl e) = omega (arith, e.1)
swapped_below c a b d x h k l (inr (inl e)) = omega (arith, e.1)
swapped_below c a b d x h k l (inr (inr e)) = omega (arith, e.2)

swapped_apart : (a b d e x y : ℕ) → Swapped a b d x → Swapped a b e y → x ≡ y → d ≡ e
swapped_apart a b d e x y (inl f) (inl g) s = f.0 ∙ sym g.0
swapped_apart a b d e x y (inl f) (inr (inl g)) s = f.0 ∙ sym g.1 ∙ sym s ∙ f.1 ∙ sym g.0
swapped_apart a b d e x y (inl f) (inr (inr g)) s = absurd (g.1 (sym g.2 ∙ sym s ∙ f.1))
swapped_apart a b d e x y (inr (inl f)) (inl g) s = f.0 ∙ sym g.1 ∙ sym s ∙ f.1 ∙ sym g.0
swapped_apart a b d e x y (inr (inl f)) (inr (inl g)) s = f.0 ∙ sym g.0
swapped_apart a b d e x y (inr (inl f)) (inr (inr g)) s = absurd (g.0 (sym g.2 ∙ sym s ∙ f.1))
swapped_apart a b d e x y (inr (inr f)) (inl g) s = absurd (f.1 (sym f.2 ∙ s ∙ g.1))
swapped_apart a b d e x y (inr (inr f)) (inr (inl g)) s = absurd (f.0 (sym f.2 ∙ s ∙ g.1))
swapped_apart a b d e x y (inr (inr f)) (inr (inr g)) s = sym f.2 ∙ s ∙ g.2

pub swaps : (c a b : ℕ) → a < c → b < c → OneToOne c (swap a b)
swaps c a b h k =
    record {
      below = λ d l. swapped_below c a b d (swap a b d) h k l (swapped a b d);
      apart = λ d e l m s. swapped_apart a b d e (swap a b d) (swap a b e) (swapped a b d) (swapped a b e) s;
    }
