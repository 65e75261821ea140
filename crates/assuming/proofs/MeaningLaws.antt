-- What the answers mean: the choices of facts, and the answer of two runs by sound walks.
use Prim.Native.Nat.{ℕ, ◌≤◌, ◌<◌, min}
use mathlib.Core.Bool.{Bool, true, false}
use mathlib.Core.List.{List, [], ◌∷◌, ◌++◌, map, append-nil, append_assoc, map-append}
use mathlib.Core.Logic.{◌↔◌, ◌⊎◌, inl, inr}
use mathlib.Core.Path.{◌≡◌, refl, sym, ap, subst, ◌∙◌}
use native.Mathlib.Nat.{min-eq_left, min-eq_right, le_of_lt}
use native.Mathlib.Omega.{arith}
use lib.ListN.{length, replicate, length-replicate}
use Rattle.lists.specs.Member.{All}
use Rattle.search.specs.Ground.{Marked, Found}
use Rattle.search.specs.Machine.{Place, Outcome, Satisfied, Refuted, Exhausted, outcome, FullWalk}
use Rattle.search.specs.Sound.{SoundFind}
use Rattle.search.proofs.Theorems.{theorems as walks}
use Rattle.problem.specs.Problem.{Clause, Problem, Fits, atom_count, limit_of}
use Rattle.problem.specs.Extended.{with_clause}
use Rattle.ground.specs.declared.verdict.Verdict.TheVariants as verdict
use Rattle.ground.specs.Instance.{Instance, ground_of}
use Rattle.ground.specs.Verdict.{verdict_of}
use Rattle.assuming.specs.declared.assume.Assumed.{Assumed}
use Rattle.assuming.specs.declared.assume.Assumed.TheVariants as assumed
use Rattle.assuming.specs.Assume.{fact_clause, assuming, picked, runs, assumed_of, count_of, first_left, second_left, assumed_numbers}
use Rattle.assuming.specs.Claims.{NoModel, HasModel, EachChoice, SomeChoice, Meaning, Assumable, Ran}
use Rattle.assuming.proofs.FactLaws.{assuming-Fits}
use Rattle.assuming.proofs.ModelLaws.{added_model, model_added}

-- ---- the choices

pub picked-All : (P : ℕ → Type 0) (bits : List Bool) (facts : List ℕ) → All P facts → All P (picked bits facts)
picked-All P [] facts a = tt
picked-All P (b ∷ bits) [] a = tt
picked-All P (true ∷ bits) (x ∷ facts) a = (a.0, picked-All P bits facts a.1)
picked-All P (false ∷ bits) (x ∷ facts) a = picked-All P bits facts a.1

picked_few : (bits : List Bool) (facts : List ℕ) → length (picked bits facts) ≤ length facts
picked_few [] facts = omega arith
picked_few (b ∷ bits) [] = omega arith
picked_few (true ∷ bits) (x ∷ facts) = omega (arith, picked_few bits facts)
picked_few (false ∷ bits) (x ∷ facts) = omega (arith, picked_few bits facts)

pub all_picked : (facts : List ℕ) → picked (replicate (length facts) true) facts ≡ facts
all_picked [] = refl
all_picked (a ∷ facts) = ap (λ (l : List ℕ). a ∷ l) (all_picked facts)

none_picked : (facts : List ℕ) → picked (replicate (length facts) false) facts ≡ []
none_picked [] = refl
none_picked (a ∷ facts) = none_picked facts

pub none_added : (q : Problem) → assuming q [] ≡ q
none_added q = ap (λ (ks : List Clause). record { constants = q.constants; limit = q.limit; arities = q.arities; clauses = ks }) (append-nil q.clauses)

pub next_added : (q : Problem) (facts : List ℕ) (a : ℕ) → assuming q (facts ++ (a ∷ [])) ≡ with_clause (assuming q facts) (fact_clause q a)
next_added q facts a =
    ap (λ (ks : List Clause). record { constants = q.constants; limit = q.limit; arities = q.arities; clauses = ks })
    (ap (λ (ks : List Clause). q.clauses ++ ks) (map-append (fact_clause q) facts (a ∷ [])) ∙ sym (append_assoc q.clauses (map (fact_clause q) facts) (fact_clause q a ∷ [])))

pub no_fact : (q : Problem) (facts : List ℕ) → assuming q (picked (replicate (length facts) false) facts) ≡ q
no_fact q facts = ap (assuming q) (none_picked facts) ∙ none_added q

pub choice_fits : (q : Problem) → Fits q → (facts : List ℕ) → Assumable q facts → (bits : List Bool) → Fits (assuming q (picked bits facts))
choice_fits q f facts asks bits =
    assuming-Fits q f (picked bits facts) (picked-All (λ a. a < atom_count q.constants q.arities) bits facts asks.atoms) (omega (arith, picked_few bits facts, asks.room))

-- ---- what each answer means

clash : (q : Problem) → NoModel q → HasModel q → ⊥
clash q none some = none (Marked some.bits) some.model

-- answers are told apart by their numbers
abbrev numbered : Assumed → ℕ
numbered a = (assumed_numbers a).number

module _ (q : Problem) (facts : List ℕ) where
  -- the choice of no fact
  abbrev without : List Bool
  without = replicate (length facts) false

  sized : (b : Bool) → length (replicate (length facts) b) ≡ length facts
  sized b = length-replicate {A = Bool} (length facts) b

  always_means : EachChoice NoModel q facts → Meaning q facts assumed.Always
  always_means none =
      record {
        always = λ n. (λ e. none, λ e. refl);
        sometimes = λ n. (λ e. absurd (omega (arith, ap numbered e)), λ h. absurd (clash _ (none h.1.0 h.1.1.0) h.1.1.1));
        never = λ n. (λ e. absurd (omega (arith, ap numbered e)), λ h. absurd (clash _ (none without (sized false)) (h without (sized false))));
      }

  sometimes_means : SomeChoice NoModel q facts → SomeChoice HasModel q facts → Meaning q facts assumed.Sometimes
  sometimes_means none some =
      record {
        always = λ n. (λ e. absurd (omega (arith, ap numbered e)), λ h. absurd (clash _ (h some.0 some.1.0) some.1.1));
        sometimes = λ n. (λ e. (none, some), λ h. refl);
        never = λ n. (λ e. absurd (omega (arith, ap numbered e)), λ h. absurd (clash _ none.1.1 (h none.0 none.1.0)));
      }

  never_means : EachChoice HasModel q facts → Meaning q facts assumed.Never
  never_means some =
      record {
        always = λ n. (λ e. absurd (omega (arith, ap numbered e)), λ h. absurd (clash _ (h without (sized false)) (some without (sized false))));
        sometimes = λ n. (λ e. absurd (omega (arith, ap numbered e)), λ h. absurd (clash _ h.0.1.1 (some h.0.0 h.0.1.0)));
        never = λ n. (λ e. some, λ h. refl);
      }

  exhausted_means : Meaning q facts assumed.Exhausted
  exhausted_means = record { always = λ n. absurd (n refl); sometimes = λ n. absurd (n refl); never = λ n. absurd (n refl) }

-- ---- two runs

module _ (q : Problem) (f : Fits q) (facts : List ℕ) (asks : Assumable q facts) (find find_all : List ℕ → Found Instance)
    (sound : SoundFind (ground_of q) find) (sound_all : SoundFind (ground_of (assuming q facts)) find_all) (limit : ℕ) where
  abbrev all : Problem
  all = assuming q facts

  -- none by itself is none with every choice
  none_each : NoModel q → EachChoice NoModel q facts
  none_each none bits size M m = none M (model_added q f (picked bits facts) (picked-All (λ a. a < atom_count q.constants q.arities) bits facts asks.atoms) M m).0

  -- a model with all facts is one with every choice
  some_each : HasModel all → EachChoice HasModel q facts
  some_each some bits size =
      let M = Marked some.bits in
      let m = model_added q f facts asks.atoms M some.model in
      record {
        bits = some.bits;
        model =
            added_model q f (picked bits facts) (picked-All (λ a. a < atom_count q.constants q.arities) bits facts asks.atoms) M m.0
            (picked-All (λ a. ∥ M a ∥₁) bits facts m.1);
      }

  none_some : NoModel all → SomeChoice NoModel q facts
  none_some none = (replicate (length facts) true, (sized q facts true, subst (λ (xs : List ℕ). NoModel (assuming q xs)) (sym (all_picked facts)) none))

  some_some : HasModel q → SomeChoice HasModel q facts
  some_some some = (replicate (length facts) false, (sized q facts false, subst HasModel (sym (no_fact q facts)) some))

  -- what the two walks tell of models
  refuted_none : (n : ℕ) → outcome find limit ≡ Refuted n → NoModel q
  refuted_none n e = (walks.sound_walk (ground_of q) find sound).refuted limit n e

  pub satisfied_some : (n : ℕ) (bits : List Bool) → outcome find limit ≡ Satisfied n bits → HasModel q
  satisfied_some n bits e = record { bits = bits; model = ((walks.sound_walk (ground_of q) find sound).satisfied limit n bits e).1 }

  all_none : (n : ℕ) → outcome find_all limit ≡ Refuted n → NoModel all
  all_none n e = (walks.sound_walk (ground_of all) find_all sound_all).refuted limit n e

  all_some : (n : ℕ) (bits : List Bool) → outcome find_all limit ≡ Satisfied n bits → HasModel all
  all_some n bits e = record { bits = bits; model = ((walks.sound_walk (ground_of all) find_all sound_all).satisfied limit n bits e).1 }

  pub means : Meaning q facts (assumed_of (runs (outcome find limit) (outcome find_all limit)))
  means = go (outcome find limit) refl (outcome find_all limit) refl
    where
      go : (o : Outcome) → outcome find limit ≡ o → (p : Outcome) → outcome find_all limit ≡ p → Meaning q facts (assumed_of (runs o p))
      go (Refuted n) e p d = always_means q facts (none_each (refuted_none n e))
      go (Exhausted n) e p d = exhausted_means q facts
      go (Satisfied n bits) e (Refuted m) d = sometimes_means q facts (none_some (all_none m d)) (some_some (satisfied_some n bits e))
      go (Satisfied n bits) e (Satisfied m more) d = never_means q facts (some_each (all_some m more d))
      go (Satisfied n bits) e (Exhausted m) d = exhausted_means q facts

  -- ---- spent, and the counts, by the walks without a limit

  module _ (tb tall : List ℕ) (first : Ran find q tb (outcome find limit)) (second : Ran find_all all tall (outcome find_all limit)) (same : limit ≡ limit_of q.limit) where
    -- an answer buffer that is long enough
    abbrev room : List ℕ
    room = replicate 1024 0

    long : 1024 ≤ length room
    long = let size : length room ≡ 1024 = length-replicate {A = ℕ} 1024 0 in omega arith

    abbrev L : ℕ
    L = limit_of q.limit

    module _ (es : List (Place Instance)) (walk : FullWalk find es) where
      one_exhausted : (n : ℕ) → outcome find limit ≡ Exhausted n → (L < length es) × (n ≡ L)
      one_exhausted n e = ((first.demand_2 room long).exhausted es walk n).0 (ap verdict_of e)

      one_settled : (n : ℕ) → (verdict_of (outcome find limit) ≡ verdict.Satisfied n) ⊎ (verdict_of (outcome find limit) ≡ verdict.Refuted n) → (length es ≤ L) × (n ≡ length es)
      one_settled n e = ((first.demand_2 room long).settled es walk n).0 e

    module _ (fs : List (Place Instance)) (walk : FullWalk find_all fs) where
      two_exhausted : (n : ℕ) → outcome find_all limit ≡ Exhausted n → (L < length fs) × (n ≡ L)
      two_exhausted n e = ((second.demand_2 room long).exhausted fs walk n).0 (ap verdict_of e)

      two_settled : (n : ℕ) → (verdict_of (outcome find_all limit) ≡ verdict.Satisfied n) ⊎ (verdict_of (outcome find_all limit) ≡ verdict.Refuted n) → (length fs ≤ L) × (n ≡ length fs)
      two_settled n e = ((second.demand_2 room long).settled fs walk n).0 e

    abbrev Exhausts : List (Place Instance) → List (Place Instance) → Type 0
    Exhausts es fs = (L < length es) ⊎ (HasModel q × (L < length fs))

    pub exhausted_when : (es fs : List (Place Instance)) → FullWalk find es → FullWalk find_all fs
        → (assumed_of (runs (outcome find limit) (outcome find_all limit)) ≡ assumed.Exhausted) ↔ Exhausts es fs
    exhausted_when es fs w v = go (outcome find limit) refl (outcome find_all limit) refl
      where
        not_one : (n : ℕ) → (verdict_of (outcome find limit) ≡ verdict.Satisfied n) ⊎ (verdict_of (outcome find limit) ≡ verdict.Refuted n) → L < length es → ⊥
        not_one n s l = let within : length es ≤ L = (one_settled es w n s).0 in absurd (omega arith)

        not_two : (n : ℕ) → (verdict_of (outcome find_all limit) ≡ verdict.Satisfied n) ⊎ (verdict_of (outcome find_all limit) ≡ verdict.Refuted n) → L < length fs → ⊥
        not_two n s l = let within : length fs ≤ L = (two_settled fs v n s).0 in absurd (omega arith)

        go : (o : Outcome) → outcome find limit ≡ o → (p : Outcome) → outcome find_all limit ≡ p → (assumed_of (runs o p) ≡ assumed.Exhausted) ↔ Exhausts es fs
        go (Refuted n) e p d =
            (λ s. absurd (omega (arith, ap numbered s)), λ h. absurd (elim h [ inl l ↦ not_one n (inr (ap verdict_of e)) l | inr s ↦ clash q (refuted_none n e) s.0 ]))
        go (Exhausted n) e p d = (λ s. inl (one_exhausted es w n e).0, λ h. refl)
        go (Satisfied n bits) e (Refuted m) d =
            (λ s. absurd (omega (arith, ap numbered s)), λ h. absurd (elim h [ inl l ↦ not_one n (inl (ap verdict_of e)) l | inr s ↦ not_two m (inr (ap verdict_of d)) s.1 ]))
        go (Satisfied n bits) e (Satisfied m more) d =
            (λ s. absurd (omega (arith, ap numbered s)), λ h. absurd (elim h [ inl l ↦ not_one n (inl (ap verdict_of e)) l | inr s ↦ not_two m (inl (ap verdict_of d)) s.1 ]))
        go (Satisfied n bits) e (Exhausted m) d = (λ s. inr (satisfied_some n bits e, (two_exhausted fs v m d).0), λ h. refl)

    -- the count of a run is the number of its walk's entries, or the limit
    settled_count : (n k : ℕ) → (k ≤ L) × (n ≡ k) → n ≡ min L k
    settled_count n k h = h.1 ∙ sym (min-eq_right h.0)

    exhausted_count : (n k : ℕ) → (L < k) × (n ≡ L) → n ≡ min L k
    exhausted_count n k h = h.1 ∙ sym (min-eq_left (le_of_lt h.0))

    pub first_counted : (es : List (Place Instance)) → FullWalk find es → (held : ℕ) → first_left (runs (outcome find limit) (outcome find_all limit)) held ≡ min L (length es)
    first_counted es w held = go (outcome find limit) refl
      where
        go : (o : Outcome) → outcome find limit ≡ o → first_left (runs o (outcome find_all limit)) held ≡ min L (length es)
        go (Refuted n) e = settled_count n (length es) (one_settled es w n (inr (ap verdict_of e)))
        go (Satisfied n bits) e = settled_count n (length es) (one_settled es w n (inl (ap verdict_of e)))
        go (Exhausted n) e = exhausted_count n (length es) (one_exhausted es w n e)

    pub second_counted : (fs : List (Place Instance)) → FullWalk find_all fs → ((n : ℕ) → outcome find limit ≡ Refuted n → ⊥) → (held : ℕ)
        → second_left (runs (outcome find limit) (outcome find_all limit)) held ≡ min L (length fs)
    second_counted fs v unclosed held = go (outcome find limit) refl
      where
        told : (p : Outcome) → outcome find_all limit ≡ p → count_of p ≡ min L (length fs)
        told (Refuted n) e = settled_count n (length fs) (two_settled fs v n (inr (ap verdict_of e)))
        told (Satisfied n bits) e = settled_count n (length fs) (two_settled fs v n (inl (ap verdict_of e)))
        told (Exhausted n) e = exhausted_count n (length fs) (two_exhausted fs v n e)

        go : (o : Outcome) → outcome find limit ≡ o → second_left (runs o (outcome find_all limit)) held ≡ min L (length fs)
        go (Refuted n) e = absurd (unclosed n e)
        go (Satisfied n bits) e = told (outcome find_all limit) refl
        go (Exhausted n) e = told (outcome find_all limit) refl

-- after a first none nothing is counted
pub not_made : (o p : Outcome) (n : ℕ) → o ≡ Refuted n → (held : ℕ) → second_left (runs o p) held ≡ 0
not_made o p n e held = ap (λ (x : Outcome). second_left (runs x p) held) e
