-- The ways out of the operation, and what is told of its walk.
use Prim.Native.Nat.{ℕ, ◌+◌, ◌≤◌, ◌<◌}
use mathlib.Core.Bool.{Bool, true, false, cond, ◌||◌}
use mathlib.Core.List.{List, [], ◌++◌}
use mathlib.Core.Path.{◌≡◌, refl, sym, ap, subst, ◌∙◌}
use native.Mathlib.Omega.{arith}
use lib.Dec.{T, ltb}
use lib.ListN.{length, take, drop, replicate, length-replicate}
use borrow.Author.Tests.{lt-ltb, le-ltb, ltb-false}
use Rattle.lists.specs.Key.{nat_key}
use Rattle.lists.specs.Member.{In}
use Rattle.lists.proofs.Bytes.{zeros_at}
use Rattle.search.specs.Relevancy.{is_relevant, find_r}
use Rattle.search.specs.Machine.{Outcome, Satisfied, Refuted, Exhausted}
use Rattle.search.specs.Session.{first_session}
use Rattle.problem.specs.Problem.{limit_of}
use Rattle.problem.specs.Layout.{problem_in}
use Rattle.problem.specs.Table.{Lawful, is_valid}
use Rattle.writing.specs.terms.Lent.{refusal_of}
use Rattle.writing.proofs.LentLaws.{refused_says, Taken, taken}
use Rattle.store.specs.terms.Store.{Store, logged}
use Rattle.store.proofs.Laws.{store_flag}
use Rattle.ground.specs.declared.verdict.Verdict.{Verdict}
use Rattle.ground.specs.declared.verdict.Verdict.TheVariants.{Refused}
use Rattle.ground.specs.Verdict.{verdict_of, answer_of}
use Rattle.ground.specs.Instance.{ground_in}
use Rattle.ground.proofs.Instances.{atoms_few}
use Rattle.relevancy_rule.specs.terms.Loud.{RootFlags}
use Rattle.walk.specs.terms.Walker.{from_root}
use Rattle.walk.specs.terms.Path.{path_in}
use Rattle.walk.specs.terms.Place.{facts_of, Beginning}
use Rattle.walk.specs.declared.answer.Found.{Found as Told}
use Rattle.walk.specs.declared.answer.Found.TheVariants.{Closed, Open, Split}
use Rattle.walk.proofs.WalkLaws.{blank_store}
use Rattle.session.specs.declared.record.Moved.{Moved}
use Rattle.session.specs.declared.record.Reply.{Reply}
use Rattle.session.specs.Record.{laid}
use Rattle.session.specs.terms.End.{Replied, Concluded}
use Rattle.session.proofs.EndLaws.{first_concluded}
use Rattle.relevancy_walk.specs.terms.Place.{HeldIn, relevancy_walker}
use Rattle.relevancy.specs.Engine.{outcome_in, deepest_in, too_short, fit_result, fit_deepest, fit_answer, fit_work}

-- ---- the ways out of the operation

or_three : (a b c : Bool) → (a || (b || c)) ≡ (a || b || c)
or_three true b c = refl
or_three false b c = refl

or_none : (a b : Bool) → (a || b) ≡ false → (a ≡ false) × (b ≡ false)
or_none true b e = let z : ◌≡◌ {A = ℕ} 0 1 = cc in absurd (omega arith)
or_none false b e = (refl, e)

-- zeros hold no fact
pub no_facts : Store 2050 (replicate 6150 0) 0
no_facts = blank_store 2050 (replicate 6150 0) (length-replicate {A = ℕ} 6150 0) (λ a l. zeros_at 6150 a)

-- a walk refuses nothing
pub never_declined : (o : Outcome) (e : ℕ) → verdict_of o ≡ Refused e → ⊥
never_declined (Satisfied n bits) e h = let z : ◌≡◌ {A = ℕ} 0 1 = cc in omega arith
never_declined (Refuted n) e h = let z : ◌≡◌ {A = ℕ} 0 1 = cc in omega arith
never_declined (Exhausted n) e h = let z : ◌≡◌ {A = ℕ} 0 1 = cc in omega arith

-- all that is lent is taken
pub record AllTaken (tb answer work : List ℕ) : Type 0 where
  pub table_long : 4096 ≤ length tb
  pub answer_long : 1024 ≤ length answer
  pub work_long : 65536 ≤ length work
  pub valid : is_valid (take 4096 tb) ≡ true

module _ (tb answer work : List ℕ) where
  pub short_table : length tb < 4096 → too_short tb answer work ≡ true
  short_table h = rw (lt-ltb (length tb) 4096 h)

  pub short_answer : 4096 ≤ length tb → length answer < 1024 → too_short tb answer work ≡ true
  short_answer h l = rw (le-ltb (length tb) 4096 h, lt-ltb (length answer) 1024 l)

  pub short_work : 4096 ≤ length tb → 1024 ≤ length answer → length work < 65536 → too_short tb answer work ≡ true
  short_work h l m = rw (le-ltb (length tb) 4096 h, le-ltb (length answer) 1024 l, lt-ltb (length work) 65536 m)

  pub long_enough : 4096 ≤ length tb → 1024 ≤ length answer → 65536 ≤ length work → too_short tb answer work ≡ false
  long_enough h l m = rw (le-ltb (length tb) 4096 h, le-ltb (length answer) 1024 l, le-ltb (length work) 65536 m)

  -- by the number that what is lent is refused by, or 0
  abbrev small : Bool
  small = ltb (length answer) 1024 || ltb (length work) 65536

  module _ (e : ℕ) (is : e ≡ refusal_of tb (ltb (length answer) 1024 || ltb (length work) 65536)) where
    pub refused_by : {A : Type 0} (f : ℕ → A) (x : A) → 0 < e → f e ≡ cond (too_short tb answer work) (f 11) (cond (is_valid (take 4096 tb)) x (f 31))
    refused_by {A} f x Some-number =
        ap f is ∙ refused_says {A = A} tb small f x (subst (λ (n : ℕ). 0 < n) is Some-number)
        ∙ ap (λ (b : Bool). cond b (f 11) (cond (is_valid (take 4096 tb)) x (f 31))) (or_three (ltb (length tb) 4096) (ltb (length answer) 1024) (ltb (length work) 65536))

    pub unrefused : e ≤ 0 → AllTaken tb answer work
    unrefused none =
        let all : Taken tb small = taken tb small (sym is ∙ (omega arith)) in
        let room = or_none (ltb (length answer) 1024) (ltb (length work) 65536) all.room in
        record { table_long = all.long; answer_long = ltb-false (length answer) 1024 room.0; work_long = ltb-false (length work) 65536 room.1; valid = all.valid }

  -- what the operation says and leaves
  abbrev pub Fitted : Verdict → List ℕ → List ℕ → Type 0
  Fitted r left rest = (r ≡ fit_result tb answer work) × (left ≡ fit_answer tb answer work) × (rest ≡ fit_work tb answer work)

  pub fit_short : too_short tb answer work ≡ true → Fitted (Refused 11) answer work
  unfolding fit_result fit_answer fit_work
  fit_short e = (rw e, rw e, rw e)

  pub fit_invalid : too_short tb answer work ≡ false → is_valid (take 4096 tb) ≡ false → Fitted (Refused 31) answer work
  unfolding fit_result fit_answer fit_work
  fit_invalid e v = (rw (e, v), rw (e, v), rw (e, v))

  pub fit_runs : too_short tb answer work ≡ false → is_valid (take 4096 tb) ≡ true → (r : Verdict) (left part : List ℕ)
      → r ≡ verdict_of (outcome_in (take 4096 tb)) → left ≡ answer_of (outcome_in (take 4096 tb)) answer → part ≡ replicate 65536 0
      → Fitted r left (part ++ drop 65536 work)
  unfolding fit_result fit_answer fit_work
  fit_runs e v r left part o a z = (o ∙ rw (e, v), a ∙ rw (e, v), ap (λ (l : List ℕ). l ++ drop 65536 work) z ∙ rw (e, v))

  -- and where no session is kept
  abbrev pub Replies : Verdict → ℕ → List ℕ → List ℕ → Type 0
  Replies v deepest left rest = (v ≡ fit_result tb answer work) × (deepest ≡ fit_deepest tb answer work) × (left ≡ fit_answer tb answer work) × (rest ≡ fit_work tb answer work)

  pub fit_refused : (e : ℕ) → e ≡ refusal_of tb (ltb (length answer) 1024 || ltb (length work) 65536) → 0 < e → Replies (Refused e) 0 answer work
  unfolding fit_result fit_deepest fit_answer fit_work
  fit_refused e is l = (
    refused_by e is {A = Verdict} (λ x. Refused x) (verdict_of (outcome_in (take 4096 tb))) l,
    refused_by e is {A = ℕ} (λ x. 0) (deepest_in (take 4096 tb)) l,
    refused_by e is {A = List ℕ} (λ x. answer) (answer_of (outcome_in (take 4096 tb)) answer) l,
    refused_by e is {A = List ℕ} (λ x. work) (replicate 65536 0 ++ drop 65536 work) l,
  )

  pub fit_replies : AllTaken tb answer work → (x : Reply) (left part : List ℕ)
      → (x.verdict ≡ verdict_of (outcome_in (take 4096 tb))) × (x.deepest ≡ deepest_in (take 4096 tb)) × (left ≡ answer_of (outcome_in (take 4096 tb)) answer) × (part ≡ replicate 65536 0)
      → Replies x.verdict x.deepest left (part ++ drop 65536 work)
  unfolding fit_deepest
  fit_replies t x left part is =
      let e : too_short tb answer work ≡ false = long_enough t.table_long t.answer_long t.work_long in
      let v : is_valid (take 4096 tb) ≡ true = t.valid in
      let told = fit_runs e v x.verdict left part is.0 is.2 is.3 in
      (told.0, is.1 ∙ rw (e, v), told.1, told.2)

-- ---- the root

-- nothing is marked there but what is relevant
pub root_flags : (tb : List ℕ) → Lawful tb → (x : Told) (facts path : List ℕ) → Beginning (relevancy_walker tb) x facts path → RootFlags tb facts
unfolding path_in
root_flags tb h x facts path b a few flagged = by_kind x b.reached.holds (subst T (store_flag b.reached.store (omega (arith, atoms_few (problem_in tb) h.fits))) (subst T (sym flagged) tt))
  where
    by_kind : (y : Told) → HeldIn tb y [] (logged facts 2050 (facts_of x)) → In nat_key (logged facts 2050 (facts_of x)) (1025 + a) → T (is_relevant (ground_in tb) [] a)
    by_kind (Closed n) held i = held.1 a few i
    by_kind (Open n) held i = subst T (held.1 a few) i
    by_kind (Split n) held i = subst T (held.1 a few) i

-- ---- the end of a first run under the table's own limit

pub first_run : (tb : List ℕ) (limit : ℕ) → limit ≡ limit_of (problem_in tb).limit → (answer : List ℕ) (m : Moved) (left : List ℕ)
    → Concluded (relevancy_walker tb) (from_root (relevancy_walker tb) 0 limit) answer m left
    → (m.verdict ≡ verdict_of (outcome_in tb)) × (m.session ≡ laid (first_session (find_r (ground_in tb)) (limit_of (problem_in tb).limit))) × (left ≡ answer_of (outcome_in tb) answer)
unfolding outcome_in
first_run tb limit e answer m left h = first_concluded (relevancy_walker tb) 0 limit (limit_of (problem_in tb).limit) refl e answer m left h

pub run_replied : (tb answer : List ℕ) (x : Reply) (left : List ℕ) → Replied (relevancy_walker tb) (limit_of (problem_in tb).limit) answer x left
    → (x.verdict ≡ verdict_of (outcome_in tb)) × (x.deepest ≡ deepest_in tb) × (left ≡ answer_of (outcome_in tb) answer)
unfolding outcome_in
run_replied tb answer x left h = (h.verdict_is, h.deepest_is, h.answer_is)
