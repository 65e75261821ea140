-- The runs of a call with assumptions: what two verdicts say, and the ways out of the operations.
use Prim.Native.Nat.{ℕ, ◌+◌, ◌≤◌, ◌<◌}
use mathlib.Core.Bool.{Bool, true, false, cond, ◌&&◌, ◌||◌}
use mathlib.Core.List.{List, ◌++◌}
use mathlib.Core.Path.{◌≡◌, refl, sym, ap, subst, ◌∙◌}
use native.Mathlib.Omega.{arith}
use borrow.Author.Tests.{lt-ltb, ltb-false}
use lib.Dec.{T, ltb, leb}
use lib.ListN.{length, take, drop, replicate, take-append-drop}
use Rattle.search.specs.Machine.{Outcome, Satisfied, Refuted, Exhausted}
use Rattle.problem.specs.Problem.{atom_count}
use Rattle.problem.specs.Layout.{problem_in}
use Rattle.problem.specs.Table.{Lawful, is_valid}
use Rattle.ground.specs.declared.verdict.Verdict.{Verdict}
use Rattle.ground.specs.Verdict.{verdict_of, verdict_numbers}
use Rattle.problem.proofs.Theorems.{valid_table}
use Rattle.writing.specs.terms.Lent.{refusal_of}
use Rattle.writing.proofs.LentLaws.{taken}
use Rattle.relevancy.specs.Engine.{outcome_in, too_short}
use Rattle.magic.specs.Engine.{magic_too_short, magic_outcome}
use Rattle.assuming.specs.declared.assume.Assumed.TheVariants as assumed
use Rattle.assuming.specs.declared.assume.Counted.{Counted}
use Rattle.assuming.specs.Assume.{are_atoms, facts_refusal, assumed_table, Runs, declined, runs, screened, assumed_of_two, assumed_of, first_left, second_left, work_left}
use Rattle.assuming.specs.Engines.{relevancy_runs, magic_runs, rules_after, rules_left}
use Rattle.assuming.specs.terms.Made.{Addable, Made, is_refuted, said_by, magic_runs_of, MagicMade, call_refusal}

-- ---- what two verdicts say

said_is : (o p : Outcome) → said_by (verdict_of o) (verdict_of p) ≡ assumed_of_two o p
said_is (Satisfied n bits) (Satisfied m more) = refl
said_is (Satisfied n bits) (Refuted m) = refl
said_is (Satisfied n bits) (Exhausted m) = refl
said_is (Refuted n) p = refl
said_is (Exhausted n) p = refl

-- the count of a verdict
abbrev pub count : Verdict → ℕ
count v = (verdict_numbers v).value

module _ (o p : Outcome) (v : Verdict) (first : v ≡ verdict_of o) (c : Counted) (first_count : c.first ≡ count v) where
  -- after a first none the second run is not made
  pub made_once : is_refuted v ≡ true → c.assumed ≡ assumed.Always → c.second ≡ 0 → Made (runs o p) c
  made_once t said none = go o (sym (ap is_refuted first) ∙ t) (first_count ∙ ap count first)
    where
      go : (o : Outcome) → is_refuted (verdict_of o) ≡ true → c.first ≡ count (verdict_of o) → Made (runs o p) c
      go (Refuted n) e f = record { assumed = said; first = f; second = none }
      go (Satisfied n bits) e f = absurd (subst T (sym e) tt)
      go (Exhausted n) e f = absurd (subst T (sym e) tt)

  -- else it is
  pub made_twice : is_refuted v ≡ false → (w : Verdict) → w ≡ verdict_of p → c.assumed ≡ said_by v w → c.second ≡ count w → Made (runs o p) c
  made_twice t w second said counted = go o (sym (ap is_refuted first) ∙ t) (first_count ∙ ap count first) (said ∙ ap (λ (x : Verdict). said_by x w) first ∙ ap (said_by (verdict_of o)) second ∙ said_is o p)
    where
      go : (o : Outcome) → is_refuted (verdict_of o) ≡ false → c.first ≡ count (verdict_of o) → c.assumed ≡ assumed_of_two o p → Made (runs o p) c
      go (Refuted n) e f s = absurd (subst T e tt)
      go (Satisfied n bits) e f s = record { assumed = s; first = f; second = counted ∙ ap count second }
      go (Exhausted n) e f s = record { assumed = s; first = f; second = counted ∙ ap count second }

-- what a call says and leaves, but for the rules
abbrev pub Says : Counted → ℕ → ℕ → List ℕ → List ℕ → Runs → Type 0
Says c held₁ held₂ left work r = (c.assumed ≡ assumed_of r) × (c.first ≡ first_left r held₁) × (c.second ≡ second_left r held₂) × (left ≡ work_left r work)

-- runs that were made are not declined
pub Made-Says : (o p : Outcome) (c : Counted) → Made (runs o p) c → (held₁ held₂ : ℕ) (work part : List ℕ) → part ≡ replicate 65536 0 → Says c held₁ held₂ (part ++ drop 65536 work) work (runs o p)
Made-Says (Refuted n) p c m held₁ held₂ work part z = (m.assumed, m.first, m.second, ap (λ (l : List ℕ). l ++ drop 65536 work) z)
Made-Says (Satisfied n bits) p c m held₁ held₂ work part z = (m.assumed, m.first, m.second, ap (λ (l : List ℕ). l ++ drop 65536 work) z)
Made-Says (Exhausted n) p c m held₁ held₂ work part z = (m.assumed, m.first, m.second, ap (λ (l : List ℕ). l ++ drop 65536 work) z)

-- a refusal leaves all as it was
pub refused_says : (n held₁ held₂ : ℕ) (work : List ℕ) (r : Runs) → r ≡ declined n → Says (record { assumed = assumed.Refused n; first = held₁; second = held₂ }) held₁ held₂ work work r
refused_says n held₁ held₂ work r e = subst (Says (record { assumed = assumed.Refused n; first = held₁; second = held₂ }) held₁ held₂ work work) (sym e) (refl, refl, refl, refl)

-- the rules too
pub refused_rules : (tb facts rules : List ℕ) (n : ℕ) (r : Runs) → r ≡ declined n → rules ≡ rules_left r tb facts rules
refused_rules tb facts rules n r e = sym (take-append-drop 16384 rules) ∙ ap (λ (x : Runs). rules_left x tb facts rules) (sym e)

-- ---- which way out of an operation

-- (a, b, c) tested from the left or from the right
pub or_assoc : (a b c : Bool) → (a || b || c) ≡ (a || (b || c))
or_assoc true b c = refl
or_assoc false b c = refl

or_left_false : (a b : Bool) → (a || b) ≡ false → a ≡ false
or_left_false true b e = absurd (subst T e tt)
or_left_false false b e = refl

or_right_false : (a b : Bool) → (a || b) ≡ false → b ≡ false
or_right_false true b e = absurd (subst T e tt)
or_right_false false b e = e

addable_by : (tb facts : List ℕ) → facts_refusal (problem_in tb) facts ≡ 0 → Addable tb facts
unfolding facts_refusal
addable_by tb facts = go (ltb 64 sum) refl (leb (length facts) 16) (are_atoms atoms facts) refl
  where
    sum : ℕ
    sum = length (problem_in tb).clauses + length facts

    atoms : ℕ
    atoms = atom_count (problem_in tb).constants (problem_in tb).arities

    go : (b : Bool) → ltb 64 sum ≡ b → (l t : Bool) → are_atoms atoms facts ≡ t → ◌≡◌ {A = ℕ} (cond b 5 (cond (l && t) 0 45)) 0 → Addable tb facts
    go true e l t w z = absurd (omega arith)
    go false e false t w z = absurd (omega arith)
    go false e true false w z = absurd (omega arith)
    go false e true true w z = record { room = ltb-false 64 sum e; atoms = subst T (sym w) tt }

module _ (tb facts : List ℕ) (short : Bool) (n : ℕ) (told : n ≡ call_refusal tb facts short) where
  abbrev own : List ℕ
  own = take 4096 tb

  pub call_refused : 0 < n → (r : Runs) → screened (ltb (length tb) 4096 || short) tb facts r ≡ declined n
  unfolding call_refusal refusal_of
  call_refused some r = go (ltb (length tb) 4096 || short) (is_valid own) (facts_refusal (problem_in own) facts) told
    where
      go : (b v : Bool) (k : ℕ) → n ≡ cond (ltb 0 (cond b 11 (cond v 0 31))) (cond b 11 (cond v 0 31)) k
          → ◌≡◌ {A = Runs} (cond b (declined 11) (cond v (cond (ltb 0 k) (declined k) r) (declined 31))) (declined n)
      go true v k e = ap declined (sym e)
      go false false k e = ap declined (sym e)
      go false true k e = rw (lt-ltb 0 k (rw e at some)) (ap declined (sym e))

  module _ (none : n ≤ 0) where
    pub call_taken : (r : Runs) → screened (ltb (length tb) 4096 || short) tb facts r ≡ r
    unfolding call_refusal refusal_of
    call_taken r = go (ltb (length tb) 4096 || short) (is_valid own) (facts_refusal (problem_in own) facts) told
      where
        go : (b v : Bool) (k : ℕ) → n ≡ cond (ltb 0 (cond b 11 (cond v 0 31))) (cond b 11 (cond v 0 31)) k
            → ◌≡◌ {A = Runs} (cond b (declined 11) (cond v (cond (ltb 0 k) (declined k) r) (declined 31))) r
        go true v k e = absurd (omega arith)
        go false false k e = absurd (omega arith)
        go false true k e =
            let zero : k ≡ 0 = omega arith in
            rw zero

    pub lent_none : refusal_of tb short ≡ 0
    unfolding call_refusal
    lent_none = go (refusal_of tb short) (facts_refusal (problem_in own) facts) told
      where
        go : (r k : ℕ) → n ≡ cond (ltb 0 r) r k → r ≡ 0
        go r k e = at (ltb 0 r) refl e
          where
            at : (b : Bool) → ltb 0 r ≡ b → n ≡ cond b r k → r ≡ 0
            at true t s = omega (arith, none)
            at false t s = omega (arith, ltb-false 0 r t)

    facts_none : facts_refusal (problem_in own) facts ≡ 0
    unfolding call_refusal
    facts_none = let e : n ≡ cond (ltb 0 (refusal_of tb short)) (refusal_of tb short) (facts_refusal (problem_in own) facts) = told in omega (arith, rw lent_none at e)

    pub facts_taken : Addable own facts
    facts_taken = addable_by own facts facts_none

-- ---- the relevancy engine's operation

module _ (tb facts answer work : List ℕ) (n : ℕ) (told : n ≡ call_refusal tb facts (ltb (length answer) 1024 || ltb (length work) 65536)) where
  abbrev lent_short : Bool
  lent_short = ltb (length answer) 1024 || ltb (length work) 65536

  abbrev both_runs : Runs
  both_runs = runs (outcome_in (take 4096 tb)) (outcome_in (assumed_table (take 4096 tb) facts))

  same_short : too_short tb answer work ≡ (ltb (length tb) 4096 || lent_short)
  same_short = or_assoc (ltb (length tb) 4096) (ltb (length answer) 1024) (ltb (length work) 65536)

  pub relevancy_refused : 0 < n → relevancy_runs tb facts answer work ≡ declined n
  unfolding relevancy_runs
  relevancy_refused some = ap (λ (b : Bool). screened b tb facts both_runs) same_short ∙ call_refused tb facts lent_short n told some both_runs

  module _ (none : n ≤ 0) where
    pub relevancy_taken : relevancy_runs tb facts answer work ≡ runs (outcome_in (take 4096 tb)) (outcome_in (assumed_table (take 4096 tb) facts))
    unfolding relevancy_runs
    relevancy_taken = ap (λ (b : Bool). screened b tb facts both_runs) same_short ∙ call_taken tb facts lent_short n told none both_runs

    pub relevancy_lent : (4096 ≤ length tb) × (65536 ≤ length work)
    relevancy_lent =
        let t = taken tb lent_short (lent_none tb facts lent_short n told none) in
        (t.long, ltb-false (length work) 65536 (or_right_false (ltb (length answer) 1024) (ltb (length work) 65536) t.room))

    pub relevancy_lawful : Lawful (take 4096 tb)
    relevancy_lawful = valid_table (take 4096 tb) (taken tb lent_short (lent_none tb facts lent_short n told none)).valid

    module _ (c : Counted) (made : Made (runs (outcome_in (take 4096 tb)) (outcome_in (assumed_table (take 4096 tb) facts))) c) (part : List ℕ) (zeros : part ≡ replicate 65536 0) where
      pub relevancy_says : (held₁ held₂ : ℕ) → Says c held₁ held₂ (part ++ drop 65536 work) work (relevancy_runs tb facts answer work)
      relevancy_says held₁ held₂ = subst (Says c held₁ held₂ (part ++ drop 65536 work) work) (sym relevancy_taken)
          (Made-Says (outcome_in (take 4096 tb)) (outcome_in (assumed_table (take 4096 tb) facts)) c made held₁ held₂ work part zeros)

-- ---- the magic engine's operation

module _ (tb facts rules answer work : List ℕ) (n : ℕ) (told : n ≡ call_refusal tb facts (ltb (length rules) 16384 || ltb (length answer) 1024 || ltb (length work) 65536)) where
  abbrev magic_short : Bool
  magic_short = ltb (length rules) 16384 || ltb (length answer) 1024 || ltb (length work) 65536

  abbrev magic_both : Runs
  magic_both = magic_runs_of (take 4096 tb) facts (take 16384 rules)

  magic_same : magic_too_short tb rules answer work ≡ (ltb (length tb) 4096 || magic_short)
  magic_same =
      ap (λ (b : Bool). b || ltb (length work) 65536) (or_assoc (ltb (length tb) 4096) (ltb (length rules) 16384) (ltb (length answer) 1024))
      ∙ or_assoc (ltb (length tb) 4096) (ltb (length rules) 16384 || ltb (length answer) 1024) (ltb (length work) 65536)

  pub magic_refused : 0 < n → magic_runs tb facts rules answer work ≡ declined n
  unfolding magic_runs
  magic_refused some = ap (λ (b : Bool). screened b tb facts magic_both) magic_same ∙ call_refused tb facts magic_short n told some magic_both

  module _ (none : n ≤ 0) where
    pub magic_taken : magic_runs tb facts rules answer work ≡ magic_runs_of (take 4096 tb) facts (take 16384 rules)
    unfolding magic_runs
    magic_taken = ap (λ (b : Bool). screened b tb facts magic_both) magic_same ∙ call_taken tb facts magic_short n told none magic_both

    pub magic_lent : (4096 ≤ length tb) × (16384 ≤ length rules) × (65536 ≤ length work)
    magic_lent =
        let t = taken tb magic_short (lent_none tb facts magic_short n told none) in
        let two = ltb (length rules) 16384 || ltb (length answer) 1024 in (
          t.long,
          ltb-false (length rules) 16384 (or_left_false (ltb (length rules) 16384) (ltb (length answer) 1024) (or_left_false two (ltb (length work) 65536) t.room)),
          ltb-false (length work) 65536 (or_right_false two (ltb (length work) 65536) t.room),
        )

    pub magic_lawful : Lawful (take 4096 tb)
    magic_lawful = valid_table (take 4096 tb) (taken tb magic_short (lent_none tb facts magic_short n told none)).valid

    module _ (c : Counted) (left part : List ℕ) (made : MagicMade (take 4096 tb) facts (take 16384 rules) c left) (zeros : part ≡ replicate 65536 0) where
      pub magic_says : (held₁ held₂ : ℕ) → Says c held₁ held₂ (part ++ drop 65536 work) work (magic_runs tb facts rules answer work)
      magic_says held₁ held₂ = subst (Says c held₁ held₂ (part ++ drop 65536 work) work) (sym magic_taken)
          (Made-Says (magic_outcome (take 4096 tb) (take 16384 rules)) (magic_outcome (assumed_table (take 4096 tb) facts) (take 16384 rules)) c made.made held₁ held₂ work part zeros)

      pub magic_leaves : left ++ drop 16384 rules ≡ rules_left (magic_runs tb facts rules answer work) tb facts rules
      magic_leaves =
          ap (λ (l : List ℕ). l ++ drop 16384 rules) made.left_rules
          ∙ ap (λ (r : Runs). rules_after r (take 4096 tb) facts (take 16384 rules) ++ drop 16384 rules) (sym magic_taken)
