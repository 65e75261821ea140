-- What runs say and their sum, one run after another.
use Prim.Native.Nat.{ℕ, ◌+◌, ◌≤◌, ◌<◌}
use mathlib.Core.Bool.{Bool, true, false, not, cond, ◌&&◌}
use mathlib.Core.List.{List, [], ◌∷◌, ◌++◌, map}
use mathlib.Core.Path.{◌≡◌, refl, sym, ap, subst, ◌∙◌}
use native.Mathlib.Omega.{arith}
use lib.Dec.{T}
use Rattle.lists.specs.Member.{every}
use Rattle.search.specs.Machine.{Outcome, Satisfied, Refuted, Exhausted}
use Rattle.ground.specs.Verdict.{verdict_of, verdict_numbers}
use Rattle.parting.specs.declared.parts.Parting.{Parting}
use Rattle.parting.specs.declared.parts.Parting.TheVariants as parting
use Rattle.parting.specs.Runs.{is_refuted, is_exhausted, up_to_refuted, said_by, sum_of, parting_numbers}
use Rattle.parting.specs.terms.Tally.{verdict_after, parting_by, Tallied}

abbrev pub not_refuted : Outcome → Bool
not_refuted o = not (is_refuted o)

abbrev pub not_exhausted : Outcome → Bool
not_exhausted o = not (is_exhausted o)

pub every_snoc : (t : Outcome → Bool) (os : List Outcome) (o : Outcome) → every t (os ++ (o ∷ [])) ≡ (every t os && t o)
every_snoc t [] o = last (t o)
  where
    last : (b : Bool) → (b && true) ≡ b
    last true = refl
    last false = refl
every_snoc t (x ∷ os) o = go (t x) (every_snoc t os o)
  where
    go : (b : Bool) → every t (os ++ (o ∷ [])) ≡ (every t os && t o) → (b && every t (os ++ (o ∷ []))) ≡ ((b && every t os) && t o)
    go true e = e
    go false e = refl

pub sum_snoc : (os : List Outcome) (o : Outcome) → sum_of (os ++ (o ∷ [])) ≡ sum_of os + (verdict_numbers (verdict_of o)).value
sum_snoc [] o = omega arith
sum_snoc (x ∷ os) o = omega (arith, sum_snoc os o)

-- where none is none, spent decides
abbrev pub number_of : List Outcome → ℕ
number_of os = (parting_numbers (said_by os)).number

abbrev unrefuted : Bool → ℕ
unrefuted true = 1
unrefuted false = 2

number_by : (os : List Outcome) → every not_refuted os ≡ true → number_of os ≡ unrefuted (every not_exhausted os)
number_by os e = ap (λ (b : Bool). (parting_numbers (cond b (cond (every not_exhausted os) parting.Satisfied parting.Exhausted) parting.Refuted)).number) e ∙ go (every not_exhausted os)
  where
    go : (b : Bool) → (parting_numbers (cond b parting.Satisfied parting.Exhausted)).number ≡ unrefuted b
    go true = refl
    go false = refl

pub number_none : (os : List Outcome) → every not_refuted os ≡ false → number_of os ≡ 0
number_none os e = ap (λ (b : Bool). (parting_numbers (cond b (cond (every not_exhausted os) parting.Satisfied parting.Exhausted) parting.Refuted)).number) e

-- not none: another number than 0
pub number_some : (os : List Outcome) → every not_refuted os ≡ true → number_of os ≡ 0 → ⊥
number_some os e z = go (every not_exhausted os) (sym (number_by os e) ∙ z)
  where
    go : (b : Bool) → unrefuted b ≡ 0 → ⊥
    go true f = omega arith
    go false f = omega arith

-- one run more
module _ (os : List Outcome) (none : every not_refuted os ≡ true) where
  pub number_after : (o : Outcome) → number_of (os ++ (o ∷ [])) ≡ verdict_after (number_of os) (verdict_of o)
  number_after (Refuted n) = number_none (os ++ (Refuted n ∷ [])) (every_snoc not_refuted os (Refuted n) ∙ ap (λ (b : Bool). b && false) none)
  number_after (Satisfied n bits) =
      let all : every not_refuted (os ++ (Satisfied n bits ∷ [])) ≡ true = every_snoc not_refuted os (Satisfied n bits) ∙ ap (λ (b : Bool). b && true) none in
      number_by (os ++ (Satisfied n bits ∷ [])) all ∙ ap unrefuted (every_snoc not_exhausted os (Satisfied n bits) ∙ same (every not_exhausted os)) ∙ sym (number_by os none)
    where
      same : (b : Bool) → (b && true) ≡ b
      same true = refl
      same false = refl
  number_after (Exhausted n) =
      let all : every not_refuted (os ++ (Exhausted n ∷ [])) ≡ true = every_snoc not_refuted os (Exhausted n) ∙ ap (λ (b : Bool). b && true) none in
      number_by (os ++ (Exhausted n ∷ [])) all ∙ ap unrefuted (every_snoc not_exhausted os (Exhausted n) ∙ never (every not_exhausted os))
    where
      never : (b : Bool) → (b && false) ≡ false
      never true = refl
      never false = refl

  pub still_none : (o : Outcome) → is_refuted o ≡ false → every not_refuted (os ++ (o ∷ [])) ≡ true
  still_none o e = every_snoc not_refuted os o ∙ ap (λ (b : Bool). b && not (is_refuted o)) none ∙ ap not e

  -- the runs end at the first none
  pub ends_here : (o : Outcome) (rest : List Outcome) → is_refuted o ≡ true → up_to_refuted (os ++ (o ∷ rest)) ≡ os ++ (o ∷ [])
  ends_here o rest e = go os none
    where
      first : (x : Outcome) (xs : List Outcome) → every not_refuted (x ∷ xs) ≡ true → is_refuted x ≡ false
      first (Satisfied n bits) xs f = refl
      first (Refuted n) xs f = absurd (subst T (sym f) tt)
      first (Exhausted n) xs f = refl

      later : (x : Outcome) (xs : List Outcome) → every not_refuted (x ∷ xs) ≡ true → every not_refuted xs ≡ true
      later (Satisfied n bits) xs f = f
      later (Refuted n) xs f = absurd (subst T (sym f) tt)
      later (Exhausted n) xs f = f

      go : (xs : List Outcome) → every not_refuted xs ≡ true → up_to_refuted (xs ++ (o ∷ rest)) ≡ xs ++ (o ∷ [])
      go [] f = ap (λ (b : Bool). o ∷ cond b [] (up_to_refuted rest)) e
      go (x ∷ xs) f = ap (λ (b : Bool). x ∷ cond b [] (up_to_refuted (xs ++ (o ∷ rest)))) (first x xs f) ∙ ap (λ (l : List Outcome). x ∷ l) (go xs (later x xs f))

-- where none is none, all are made
pub all_made : (os : List Outcome) → every not_refuted os ≡ true → up_to_refuted os ≡ os
all_made [] e = refl
all_made (Satisfied n bits ∷ os) e = ap (λ (l : List Outcome). Satisfied n bits ∷ l) (all_made os e)
all_made (Refuted n ∷ os) e = absurd (subst T (sym e) tt)
all_made (Exhausted n ∷ os) e = ap (λ (l : List Outcome). Exhausted n ∷ l) (all_made os e)

-- none or not, by the number after
pub refuted_by : (n : ℕ) → (n ≡ 0 → ⊥) → (o : Outcome) → verdict_after n (verdict_of o) ≡ 0 → is_refuted o ≡ true
refuted_by n some (Satisfied m bits) e = absurd (some e)
refuted_by n some (Refuted m) e = refl
refuted_by n some (Exhausted m) e = absurd (omega arith)

pub unrefuted_by : (n : ℕ) (o : Outcome) → (verdict_after n (verdict_of o) ≡ 0 → ⊥) → is_refuted o ≡ false
unrefuted_by n (Satisfied m bits) e = refl
unrefuted_by n (Refuted m) e = absurd (e refl)
unrefuted_by n (Exhausted m) e = refl

-- a tally's number stands for what the runs say
pub said_by_lem : (os : List Outcome) → parting_by (number_of os) ≡ said_by os
said_by_lem os = go (every not_refuted os) (every not_exhausted os)
  where
    go : (b d : Bool) → parting_by (parting_numbers (cond b (cond d parting.Satisfied parting.Exhausted) parting.Refuted)).number ≡ cond b (cond d parting.Satisfied parting.Exhausted) parting.Refuted
    go true true = refl
    go true false = refl
    go false d = refl
