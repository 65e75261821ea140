-- What the runs say: none exactly if some part is none, spent exactly if some is spent and none is none, fits exactly if all fit.
use mathlib.Core.Bool.{Bool, true, false, not, cond, ◌&&◌}
use mathlib.Core.List.{List, [], ◌∷◌, map}
use mathlib.Core.Logic.{◌⊎◌, inl, inr}
use mathlib.Core.Path.{◌≡◌, refl, sym, ap, subst, ◌∙◌}
use native.Mathlib.Omega.{arith}
use Prim.Native.Nat.{ℕ}
use lib.Dec.{T, T_not, not_T}
use Rattle.lists.specs.Member.{All, Any, every}
use Rattle.lists.proofs.Member.{all_map, every-All, All-every}
use Rattle.lists.proofs.Test.{T-true}
use Rattle.search.specs.Machine.{Outcome, Satisfied, Refuted, Exhausted}
use Rattle.problem.specs.Problem.{Problem}
use Rattle.parting.specs.declared.parts.Parting.{Parting}
use Rattle.parting.specs.declared.parts.Parting.TheVariants as parting
use Rattle.parting.specs.Parts.{parts_of}
use Rattle.parting.specs.Runs.{is_refuted, is_exhausted, up_to_refuted, run_by, runs_of, said_by}
use Rattle.parting.specs.Claims.{SaidOf}
use Rattle.parting.proofs.TallyLaws.{not_refuted, not_exhausted, all_made}

-- ---- by two tests

abbrev pub said_as : Bool → Bool → Parting
said_as b d = cond b (cond d parting.Satisfied parting.Exhausted) parting.Refuted

as_refuted : (b d : Bool) → said_as b d ≡ parting.Refuted → b ≡ false
as_refuted true true e = absurd (let z : ◌≡◌ {A = ℕ} 0 1 = cc in omega arith)
as_refuted true false e = absurd (let z : ◌≡◌ {A = ℕ} 0 1 = cc in omega arith)
as_refuted false d e = refl

as_exhausted : (b d : Bool) → said_as b d ≡ parting.Exhausted → (b ≡ true) × (d ≡ false)
as_exhausted true true e = absurd (let z : ◌≡◌ {A = ℕ} 0 1 = cc in omega arith)
as_exhausted true false e = (refl, refl)
as_exhausted false d e = absurd (let z : ◌≡◌ {A = ℕ} 0 1 = cc in omega arith)

as_satisfied : (b d : Bool) → said_as b d ≡ parting.Satisfied → (b ≡ true) × (d ≡ true)
as_satisfied true true e = (refl, refl)
as_satisfied true false e = absurd (let z : ◌≡◌ {A = ℕ} 0 1 = cc in omega arith)
as_satisfied false d e = absurd (let z : ◌≡◌ {A = ℕ} 0 1 = cc in omega arith)

-- ---- tests of all and of some

every_mapped : {A B : Type 0} (t : B → Bool) (f : A → B) (xs : List A) → every t (map f xs) ≡ every (λ x. t (f x)) xs
every_mapped t f [] = refl
every_mapped t f (x ∷ xs) = rw (every_mapped t f xs)

one_fails : {A : Type 0} (t : A → Bool) (xs : List A) → Any (λ x. T (t x)) xs → every (λ x. not (t x)) xs ≡ false
one_fails {A = A} t [] x' = elim x' [ ]
one_fails t (x ∷ xs) (inl h) = rw (T-true (t x) h)
one_fails t (x ∷ xs) (inr h) = go (t x) (one_fails t xs h)
  where
    go : (b : Bool) → every (λ y. not (t y)) xs ≡ false → (not b && every (λ y. not (t y)) xs) ≡ false
    go true e = refl
    go false e = e

fails_one : {A : Type 0} (t : A → Bool) (xs : List A) → every (λ x. not (t x)) xs ≡ false → Any (λ x. T (t x)) xs
fails_one t [] e = absurd (subst T e tt)
fails_one t (x ∷ xs) e = go (t x) (fails_one t xs) e
  where
    go : (b : Bool) → (every (λ y. not (t y)) xs ≡ false → Any (λ y. T (t y)) xs) → (not b && every (λ y. not (t y)) xs) ≡ false → T b ⊎ Any (λ y. T (t y)) xs
    go true on u = inl tt
    go false on u = inr (on u)

of_none : {A : Type 0} (t : A → Bool) (xs : List A) → All (λ x. T (t x) → ⊥) xs → every (λ x. not (t x)) xs ≡ true
of_none t xs a = T-true (every (λ x. not (t x)) xs) (All-every (λ x. not (t x)) xs (all_map (λ x. T (t x) → ⊥) (λ x. T (not (t x))) (λ x h. not_T (t x) h) xs a))

-- ---- the runs that are made say what all would

first_refuted : (os : List Outcome) → every not_refuted os ≡ false → every not_refuted (up_to_refuted os) ≡ false
first_refuted [] e = e
first_refuted (Satisfied n bits ∷ os) e = first_refuted os e
first_refuted (Refuted n ∷ os) e = refl
first_refuted (Exhausted n ∷ os) e = first_refuted os e

said_made : (os : List Outcome) → said_by (up_to_refuted os) ≡ said_by os
said_made os = go (every not_refuted os) refl
  where
    go : (b : Bool) → every not_refuted os ≡ b → said_by (up_to_refuted os) ≡ said_by os
    go true e = ap said_by (all_made os e)
    go false e =
        ap (λ (x : Bool). said_as x (every not_exhausted (up_to_refuted os))) (first_refuted os e)
        ∙ sym (ap (λ (x : Bool). said_as x (every not_exhausted os)) e)

module _ (by : Bool) (q : Problem) where
  abbrev ps : List Problem
  ps = parts_of q

  abbrev none_refuted : Bool
  none_refuted = every (λ p. not (is_refuted (run_by by p))) (parts_of q)

  abbrev none_exhausted : Bool
  none_exhausted = every (λ p. not (is_exhausted (run_by by p))) (parts_of q)

  pub said_is : said_by (runs_of by q) ≡ said_as (every (λ p. not (is_refuted (run_by by p))) (parts_of q)) (every (λ p. not (is_exhausted (run_by by p))) (parts_of q))
  unfolding runs_of
  said_is =
      said_made (map (run_by by) ps)
      ∙ ap (λ (b : Bool). said_as b (every not_exhausted (map (run_by by) ps))) (every_mapped not_refuted (run_by by) ps)
      ∙ ap (λ (d : Bool). said_as none_refuted d) (every_mapped not_exhausted (run_by by) ps)

  refuted_some : said_by (runs_of by q) ≡ parting.Refuted → Any (λ p. T (is_refuted (run_by by p))) (parts_of q)
  refuted_some e = fails_one (λ p. is_refuted (run_by by p)) ps (as_refuted none_refuted none_exhausted (sym said_is ∙ e))

  some_refuted : Any (λ p. T (is_refuted (run_by by p))) (parts_of q) → said_by (runs_of by q) ≡ parting.Refuted
  some_refuted h = said_is ∙ ap (λ (b : Bool). said_as b none_exhausted) (one_fails (λ p. is_refuted (run_by by p)) ps h)

  -- no part is so
  none_so : (t : Outcome → Bool) → every (λ p. not (t (run_by by p))) (parts_of q) ≡ true → All (λ p. T (t (run_by by p)) → ⊥) (parts_of q)
  none_so t e =
      all_map (λ p. T (not (t (run_by by p)))) (λ p. T (t (run_by by p)) → ⊥) (λ p h. T_not (t (run_by by p)) h) ps
      (every-All (λ p. not (t (run_by by p))) ps (subst T (sym e) tt))

  exhausted_some : said_by (runs_of by q) ≡ parting.Exhausted → Any (λ p. T (is_exhausted (run_by by p))) (parts_of q) × All (λ p. T (is_refuted (run_by by p)) → ⊥) (parts_of q)
  exhausted_some e =
      let s = as_exhausted none_refuted none_exhausted (sym said_is ∙ e) in
      (fails_one (λ p. is_exhausted (run_by by p)) ps s.1, none_so is_refuted s.0)

  some_exhausted : Any (λ p. T (is_exhausted (run_by by p))) (parts_of q) × All (λ p. T (is_refuted (run_by by p)) → ⊥) (parts_of q) → said_by (runs_of by q) ≡ parting.Exhausted
  some_exhausted h =
      said_is
      ∙ ap (λ (b : Bool). said_as b none_exhausted) (of_none (λ p. is_refuted (run_by by p)) ps h.1)
      ∙ ap (λ (d : Bool). said_as true d) (one_fails (λ p. is_exhausted (run_by by p)) ps h.0)

  Satisfied-All : said_by (runs_of by q) ≡ parting.Satisfied → All (λ p. T (is_refuted (run_by by p)) → ⊥) (parts_of q) × All (λ p. T (is_exhausted (run_by by p)) → ⊥) (parts_of q)
  Satisfied-All e =
      let s = as_satisfied none_refuted none_exhausted (sym said_is ∙ e) in
      (none_so is_refuted s.0, none_so is_exhausted s.1)

  All-Satisfied : All (λ p. T (is_refuted (run_by by p)) → ⊥) (parts_of q) × All (λ p. T (is_exhausted (run_by by p)) → ⊥) (parts_of q) → said_by (runs_of by q) ≡ parting.Satisfied
  All-Satisfied h =
      said_is
      ∙ ap (λ (b : Bool). said_as b none_exhausted) (of_none (λ p. is_refuted (run_by by p)) ps h.0)
      ∙ ap (λ (d : Bool). said_as true d) (of_none (λ p. is_exhausted (run_by by p)) ps h.1)

  pub said_of : SaidOf by q
  said_of = record { refuted = (refuted_some, some_refuted); exhausted = (exhausted_some, some_exhausted); satisfied = (Satisfied-All, All-Satisfied) }
