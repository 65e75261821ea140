-- The ways out of the magic engine's operation, and what is told of its first run.
use Prim.Native.Nat.{ℕ, ◌≤◌, ◌<◌}
use mathlib.Core.Bool.{Bool, true, false, cond, ◌||◌}
use mathlib.Core.List.{List, ◌++◌}
use mathlib.Core.Path.{◌≡◌, refl, sym, ap, subst, ◌∙◌}
use native.Mathlib.Omega.{arith}
use lib.Dec.{ltb}
use lib.ListN.{length, take, drop, replicate, length-replicate}
use borrow.Author.Tests.{lt-ltb, le-ltb, ltb-false}
use Rattle.lists.proofs.Bytes.{zeros_at}
use Rattle.search.specs.Machine.{deepest_under}
use Rattle.search.specs.Session.{first_session}
use Rattle.problem.specs.Layout.{problem_in}
use Rattle.problem.specs.Table.{Lawful, is_valid}
use Rattle.writing.specs.terms.Lent.{refusal_of}
use Rattle.writing.proofs.LentLaws.{refused_says, Taken, taken}
use Rattle.store.specs.terms.Store.{Store}
use Rattle.ground.specs.declared.verdict.Verdict.{Verdict}
use Rattle.ground.specs.declared.verdict.Verdict.TheVariants.{Refused}
use Rattle.ground.specs.Verdict.{verdict_of, answer_of}
use Rattle.rewriting.specs.RulesLayout.{rules_layout}
use Rattle.rewriting.specs.Facts.{find_in}
use Rattle.rewriting.specs.terms.Ruled.{Ruled}
use Rattle.rewriting.specs.Rewrite.{rules_over}
use Rattle.walk.specs.terms.Walker.{from_root}
use Rattle.walk.proofs.WalkLaws.{blank_store}
use Rattle.session.specs.declared.record.Moved.{Moved}
use Rattle.session.specs.declared.record.Reply.{Reply}
use Rattle.session.specs.Record.{laid}
use Rattle.session.specs.terms.End.{Replied, Concluded}
use Rattle.session.proofs.EndLaws.{first_concluded}
use Rattle.magic_walk.specs.terms.Place.{magic_walker}
use Rattle.magic.specs.Engine.{rules_outcome, magic_too_short, magic_outcome, magic_deepest_in, magic_result, magic_deepest, magic_rules, magic_answer, magic_work}

-- zeros hold no fact
pub no_facts : Store 2050 (replicate 6150 0) 0
no_facts = blank_store 2050 (replicate 6150 0) (length-replicate {A = ℕ} 6150 0) (λ a l. zeros_at 6150 a)

-- the rules of a valid table are the rules of its problem
pub ruled : (tb rules : List ℕ) → Lawful tb → length (rules_over tb rules) ≡ 16384 → Ruled (rules_over tb rules)
ruled tb rules h size =
    record {
      problem = problem_in tb;
      fits = h.fits;
      rest = drop (length (rules_layout (problem_in tb))) rules;
      laid = refl;
      size = size;
    }

-- ---- the ways out of the operation

or_four : (a b c d : Bool) → (a || (b || c || d)) ≡ (a || b || c || d)
or_four true b c d = refl
or_four false b c d = refl

or_none : (a b c : Bool) → (a || b || c) ≡ false → (a ≡ false) × (b ≡ false) × (c ≡ false)
or_none true b c e = let z : ◌≡◌ {A = ℕ} 0 1 = cc in absurd (omega arith)
or_none false true c e = let z : ◌≡◌ {A = ℕ} 0 1 = cc in absurd (omega arith)
or_none false false c e = (refl, refl, e)

-- all that is lent is taken
pub record AllTaken (tb rules answer work : List ℕ) : Type 0 where
  pub table_long : 4096 ≤ length tb
  pub rules_long : 16384 ≤ length rules
  pub answer_long : 1024 ≤ length answer
  pub work_long : 65536 ≤ length work
  pub valid : is_valid (take 4096 tb) ≡ true

-- what a run that keeps no session says and leaves, of a table, in buffers that have no more bytes than it writes
abbrev pub RunReplied : List ℕ → List ℕ → List ℕ → Reply → List ℕ → List ℕ → List ℕ → Type 0
RunReplied tb rules answer x rs left rest =
    (x.verdict ≡ verdict_of (magic_outcome tb rules))
    × (x.deepest ≡ magic_deepest_in tb rules)
    × (rs ≡ rules_over tb rules)
    × (left ≡ answer_of (magic_outcome tb rules) answer)
    × (rest ≡ replicate 65536 0)

module _ (tb rules answer work : List ℕ) where
  pub short_table : length tb < 4096 → magic_too_short tb rules answer work ≡ true
  short_table h = rw (lt-ltb (length tb) 4096 h)

  pub short_rules : 4096 ≤ length tb → length rules < 16384 → magic_too_short tb rules answer work ≡ true
  short_rules h k = rw (le-ltb (length tb) 4096 h, lt-ltb (length rules) 16384 k)

  pub short_answer : 4096 ≤ length tb → 16384 ≤ length rules → length answer < 1024 → magic_too_short tb rules answer work ≡ true
  short_answer h k l = rw (le-ltb (length tb) 4096 h, le-ltb (length rules) 16384 k, lt-ltb (length answer) 1024 l)

  pub short_work : 4096 ≤ length tb → 16384 ≤ length rules → 1024 ≤ length answer → length work < 65536 → magic_too_short tb rules answer work ≡ true
  short_work h k l m = rw (le-ltb (length tb) 4096 h, le-ltb (length rules) 16384 k, le-ltb (length answer) 1024 l, lt-ltb (length work) 65536 m)

  pub long_enough : 4096 ≤ length tb → 16384 ≤ length rules → 1024 ≤ length answer → 65536 ≤ length work → magic_too_short tb rules answer work ≡ false
  long_enough h k l m = rw (le-ltb (length tb) 4096 h, le-ltb (length rules) 16384 k, le-ltb (length answer) 1024 l, le-ltb (length work) 65536 m)

  -- by the number that what is lent is refused by, or 0
  abbrev small : Bool
  small = ltb (length rules) 16384 || ltb (length answer) 1024 || ltb (length work) 65536

  module _ (e : ℕ) (is : e ≡ refusal_of tb (ltb (length rules) 16384 || ltb (length answer) 1024 || ltb (length work) 65536)) where
    pub refused_by : {A : Type 0} (f : ℕ → A) (x : A) → 0 < e → f e ≡ cond (magic_too_short tb rules answer work) (f 11) (cond (is_valid (take 4096 tb)) x (f 31))
    refused_by {A} f x Some-number =
        ap f is ∙ refused_says {A = A} tb small f x (subst (λ (n : ℕ). 0 < n) is Some-number)
        ∙ ap (λ (b : Bool). cond b (f 11) (cond (is_valid (take 4096 tb)) x (f 31))) (or_four (ltb (length tb) 4096) (ltb (length rules) 16384) (ltb (length answer) 1024) (ltb (length work) 65536))

    pub unrefused : e ≤ 0 → AllTaken tb rules answer work
    unrefused none =
        let all : Taken tb small = taken tb small (sym is ∙ (omega arith)) in
        let room = or_none (ltb (length rules) 16384) (ltb (length answer) 1024) (ltb (length work) 65536) all.room in
        record {
          table_long = all.long;
          rules_long = ltb-false (length rules) 16384 room.0;
          answer_long = ltb-false (length answer) 1024 room.1;
          work_long = ltb-false (length work) 65536 room.2;
          valid = all.valid;
        }

  pub passed : AllTaken tb rules answer work → magic_too_short tb rules answer work ≡ false
  passed t = long_enough t.table_long t.rules_long t.answer_long t.work_long

  -- what the operation says and leaves
  abbrev pub Fitted : Verdict → List ℕ → List ℕ → List ℕ → Type 0
  Fitted r rs left rest =
      (r ≡ magic_result tb rules answer work) × (rs ≡ magic_rules tb rules answer work) × (left ≡ magic_answer tb rules answer work) × (rest ≡ magic_work tb rules answer work)

  pub fit_short : magic_too_short tb rules answer work ≡ true → Fitted (Refused 11) rules answer work
  unfolding magic_result magic_rules magic_answer magic_work
  fit_short e = (rw e, rw e, rw e, rw e)

  pub fit_invalid : magic_too_short tb rules answer work ≡ false → is_valid (take 4096 tb) ≡ false → Fitted (Refused 31) rules answer work
  unfolding magic_result magic_rules magic_answer magic_work
  fit_invalid e v = (rw (e, v), rw (e, v), rw (e, v), rw (e, v))

  pub fit_runs : magic_too_short tb rules answer work ≡ false → is_valid (take 4096 tb) ≡ true → (r : Verdict) (rs left part : List ℕ)
      → r ≡ verdict_of (magic_outcome (take 4096 tb) (take 16384 rules))
      → rs ≡ rules_over (take 4096 tb) (take 16384 rules)
      → left ≡ answer_of (magic_outcome (take 4096 tb) (take 16384 rules)) answer
      → part ≡ replicate 65536 0
      → Fitted r (rs ++ drop 16384 rules) left (part ++ drop 65536 work)
  unfolding magic_result magic_rules magic_answer magic_work
  fit_runs e v r rs left part o q a z =
      (o ∙ rw (e, v), ap (λ (l : List ℕ). l ++ drop 16384 rules) q ∙ rw (e, v), a ∙ rw (e, v), ap (λ (l : List ℕ). l ++ drop 65536 work) z ∙ rw (e, v))

  -- and where no session is kept
  abbrev pub Replies : Verdict → ℕ → List ℕ → List ℕ → List ℕ → Type 0
  Replies v deepest rs left rest =
      (v ≡ magic_result tb rules answer work)
      × (deepest ≡ magic_deepest tb rules answer work)
      × (rs ≡ magic_rules tb rules answer work)
      × (left ≡ magic_answer tb rules answer work)
      × (rest ≡ magic_work tb rules answer work)

  pub fit_refused : (e : ℕ) → e ≡ refusal_of tb (ltb (length rules) 16384 || ltb (length answer) 1024 || ltb (length work) 65536) → 0 < e → Replies (Refused e) 0 rules answer work
  unfolding magic_result magic_deepest magic_rules magic_answer magic_work
  fit_refused e is l = (
    refused_by e is {A = Verdict} (λ x. Refused x) (verdict_of (magic_outcome (take 4096 tb) (take 16384 rules))) l,
    refused_by e is {A = ℕ} (λ x. 0) (magic_deepest_in (take 4096 tb) (take 16384 rules)) l,
    refused_by e is {A = List ℕ} (λ x. rules) (rules_over (take 4096 tb) (take 16384 rules) ++ drop 16384 rules) l,
    refused_by e is {A = List ℕ} (λ x. answer) (answer_of (magic_outcome (take 4096 tb) (take 16384 rules)) answer) l,
    refused_by e is {A = List ℕ} (λ x. work) (replicate 65536 0 ++ drop 65536 work) l,
  )

  pub fit_replies : AllTaken tb rules answer work → (x : Reply) (rs left part : List ℕ) → RunReplied (take 4096 tb) (take 16384 rules) answer x rs left part
      → Replies x.verdict x.deepest (rs ++ drop 16384 rules) left (part ++ drop 65536 work)
  unfolding magic_deepest
  fit_replies t x rs left part is =
      let e : magic_too_short tb rules answer work ≡ false = passed t in
      let v : is_valid (take 4096 tb) ≡ true = t.valid in
      let told = fit_runs e v x.verdict rs left part is.0 is.2 is.3 is.4 in
      (told.0, is.1 ∙ rw (e, v), told.1, told.2, told.3)

-- ---- what the end of a first run says of the outcome

pub first_run : (bs : List ℕ) (limit : ℕ) (answer : List ℕ) (m : Moved) (left : List ℕ) → Concluded (magic_walker bs) (from_root (magic_walker bs) 0 limit) answer m left
    → (m.verdict ≡ verdict_of (rules_outcome bs limit)) × (m.session ≡ laid (first_session (find_in bs) limit)) × (left ≡ answer_of (rules_outcome bs limit) answer)
unfolding rules_outcome
first_run bs limit answer m left h = first_concluded (magic_walker bs) 0 limit limit refl refl answer m left h

pub run_replied : (bs : List ℕ) (limit : ℕ) (answer : List ℕ) (x : Reply) (left : List ℕ) → Replied (magic_walker bs) limit answer x left
    → (x.verdict ≡ verdict_of (rules_outcome bs limit)) × (x.deepest ≡ deepest_under (find_in bs) limit) × (left ≡ answer_of (rules_outcome bs limit) answer)
unfolding rules_outcome
run_replied bs limit answer x left h = (h.verdict_is, h.deepest_is, h.answer_is)
