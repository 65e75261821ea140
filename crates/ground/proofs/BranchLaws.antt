-- Finding the alternative that is entered after n others: what is kept of the slots passed are the distinct numbers among them.
use Prim.Native.Nat.{ℕ, suc, ◌+◌, ◌-◌, ◌≤◌, ◌<◌}
use mathlib.Core.Bool.{Bool, true, false, cond}
use mathlib.Core.List.{List, [], ◌∷◌, ◌++◌}
use mathlib.Core.Path.{◌≡◌, refl, sym, ap, subst, ◌∙◌}
use native.Mathlib.Nat.{add-zero}
use native.Mathlib.Numerals.{add-one}
use native.Mathlib.Omega.{arith}
use lib.ListN.{length, take, get_or, set, length-set, length-append}
use lib.Seq.{length-take-le, take-set-le, take-suc-set, get_or-append_seam}
use Rattle.lists.specs.Key.{nat_key}
use Rattle.lists.specs.Member.{has, firsts}
use Rattle.lists.specs.Tabulate.{tabulate}
use Rattle.lists.proofs.Firsts.{firsts-length, firsts_snoc, firsts_stay}
use Rattle.lists.proofs.Tabulate.{tabulate-length}

pub one_at_most : (b : Bool) (n : ℕ) → n ≡ cond b 0 1 → n ≤ 1
one_at_most true n e = omega arith
one_at_most false n e = omega arith

-- ---- the slots passed

-- of the first i slots the distinct numbers, `found` of them and no more than n
pub record SlotsPassed (f : ℕ → ℕ) (n i found : ℕ) (seen : List ℕ) : Type 0 where
  pub four : length seen ≡ 4
  pub part : found ≤ i
  pub within : found ≤ n
  pub are : take found seen ≡ firsts nat_key (tabulate f i)

module _ (f : ℕ → ℕ) (n : ℕ) where
  module _ (i found : ℕ) (seen : List ℕ) (few : i < 4) (p : SlotsPassed f n i found seen) (a : ℕ) (a_is : a ≡ f i) (more : ℕ) (more_is : more ≡ cond (has nat_key (take found seen) a) 0 1) where
    room : found < length seen
    room = omega (arith, p.part, p.four)

    found_many : length (firsts nat_key (tabulate f i)) ≡ found
    found_many = ap length (sym p.are) ∙ length-take-le found seen (omega (arith, room))

    -- one slot more
    slot_more : (b : Bool) → has nat_key (take found seen) a ≡ b → take (found + cond b 0 1) (set seen found a) ≡ cond b (take found seen) (take found seen ++ (a ∷ []))
    slot_more true e = rw add-zero (take-set-le found seen found a (omega arith))
    slot_more false e = rw add-one (take-suc-set seen found a room)

    more_are : take (found + more) (set seen found a) ≡ firsts nat_key (tabulate f (suc i))
    more_are =
        let put : take (found + more) (set seen found a) ≡ cond (has nat_key (take found seen) a) (take found seen) (take found seen ++ (a ∷ [])) =
        ap (λ (m : ℕ). take (found + m) (set seen found a)) more_is ∙ slot_more (has nat_key (take found seen) a) refl in
        put ∙ rw (p.are, a_is) (sym (firsts_snoc nat_key (tabulate f i) (f i)))

    pub passed_more : found + more ≤ n → SlotsPassed f n (i + 1) (found + more) (set seen found a)
    passed_more l =
        let small : more ≤ 1 = one_at_most (has nat_key (take found seen) a) more more_is in
        record { four = length-set seen found a ∙ p.four; part = omega (arith, p.part); within = l; are = rw add-one more_are }

    -- the number is another one, and the one wanted
    pub passed_here : n < found + more → (count : ℕ) → i < count → (n < length (firsts nat_key (tabulate f count))) × (a ≡ get_or (firsts nat_key (tabulate f count)) n 0)
    passed_here l count m = go (has nat_key (take found seen) a) refl
      where
        go : (b : Bool) → has nat_key (take found seen) a ≡ b → (n < length (firsts nat_key (tabulate f count))) × (a ≡ get_or (firsts nat_key (tabulate f count)) n 0)
        go true e = let none : more ≡ 0 = more_is ∙ rw e in absurd (omega (arith, p.within))
        go false e =
            let one : more ≡ 1 = more_is ∙ rw e in
            let n_is : n ≡ found = omega (arith, p.within) in
            let are : firsts nat_key (tabulate f (suc i)) ≡ firsts nat_key (tabulate f i) ++ (a ∷ []) =
            firsts_snoc nat_key (tabulate f i) (f i) ∙ rw (← a_is, ← p.are, e) in
            let size : length (firsts nat_key (tabulate f (suc i))) ≡ suc found = ap length are ∙ length-append (firsts nat_key (tabulate f i)) (a ∷ []) ∙ rw found_many (add-one found) in
            let here : get_or (firsts nat_key (tabulate f (suc i))) n 0 ≡ a =
            rw (are, n_is, ← found_many) (get_or-append_seam (firsts nat_key (tabulate f i)) a [] 0) in
            let d : ℕ = count - suc i in
            let whole : suc i + d ≡ count = omega arith in
            let stay = firsts_stay nat_key f 0 (suc i) n d (omega (arith, size)) in
            (subst (λ (c : ℕ). n < length (firsts nat_key (tabulate f c))) whole stay.0, sym (subst (λ (c : ℕ). get_or (firsts nat_key (tabulate f c)) n 0 ≡ get_or (firsts nat_key (tabulate f (suc i))) n 0) whole stay.1 ∙ here))

  -- there are no more than alternatives
  pub few_all : (count : ℕ) → count ≤ n → length (firsts nat_key (tabulate f count)) ≤ n
  few_all count l = omega (arith, firsts-length nat_key (tabulate f count), tabulate-length f count)
