-- The claims of `specs/Claims.antt`, proved.
use Prim.Native.Nat.{ℕ, ◌+◌, ◌≤◌, ◌<◌}
use mathlib.Core.Bool.{Bool, true, false, cond, not, ◌&&◌}
use mathlib.Core.List.{List, [], ◌∷◌, ◌++◌}
use mathlib.Core.Logic.{◌⊎◌, inl, inr}
use mathlib.Core.Path.{◌≡◌, refl, sym, ap, subst, ◌∙◌}
use native.Mathlib.Omega.{arith}
use borrow.Author.Tests.{lt-ltb, le-ltb, le-leb, ltb-true, leb-true}
use lib.Dec.{T, ltb, leb}
use lib.ListN.{length, take, drop, replicate, take-append-drop}
use lib.Seq.{take-length}
use Rattle.lists.specs.Key.{nat_key}
use Rattle.lists.specs.Member.{All, has, Distinct}
use Rattle.lists.specs.Test.{and-T, T_left, T_right}
use Rattle.lists.proofs.Test.{T-true, lt_or_le, fails}
use Rattle.search.specs.Ground.{Found}
use Rattle.search.specs.Machine.{Outcome, Satisfied, Refuted, Exhausted, outcome}
use Rattle.search.specs.Relevancy.{find_r}
use Rattle.search.specs.Sound.{SoundFind}
use Rattle.search.proofs.Theorems.{theorems as walks}
use Rattle.problem.specs.Problem.{Problem, Fits, atom_count, limit_of}
use Rattle.problem.specs.Layout.{problem_in}
use Rattle.problem.specs.Print.{text_of}
use Rattle.problem.specs.Table.{Valid, is_valid}
use Rattle.problem.proofs.Theorems.{theorems as tables}
use Rattle.ground.specs.declared.verdict.Verdict.{Verdict}
use Rattle.ground.specs.declared.verdict.Verdict.TheVariants as verdict
use Rattle.ground.specs.declared.verdict.Verdict.TheVariants.{Refused as IsRefused}
use Rattle.ground.specs.Instance.{Instance, ground_of}
use Rattle.ground.specs.Verdict.{verdict_of, answer_of, verdict_numbers}
use Rattle.ground.proofs.Instances.{ground_proper}
use Rattle.judging.specs.Demand2.{Demand2}
use Rattle.judging.proofs.Theorems.{theorems as judgings}
use Rattle.relevancy.specs.Claims.{Taken}
use Rattle.relevancy.specs.Engine.{outcome_in, too_short, fit_result, fit_work}
use Rattle.relevancy.proofs.EngineLaws as relevancy
use Rattle.relevancy.proofs.Theorems.{theorems as relevancies}
use Rattle.rewriting.specs.RulesLayout.{rules_layout}
use Rattle.rewriting.specs.Facts.{find_in}
use Rattle.rewriting.specs.Rewrite.{rules_over}
use Rattle.rewriting.proofs.RegroupLaws.{rules_sound}
use Rattle.magic.specs.Claims.{MagicTaken}
use Rattle.magic.specs.Engine.{rules_outcome, magic_too_short, magic_outcome, magic_result, magic_work}
use Rattle.magic.proofs.EngineLaws as magic
use Rattle.magic.proofs.Theorems.{theorems as magics}
use Rattle.assuming.specs.Assume.{assuming, assumed_table, are_atoms, facts_refusal, Runs, declined, runs, first_left, second_left, work_left, screened}
use Rattle.assuming.specs.Engines.{relevancy_runs, magic_runs}
use Rattle.assuming.specs.Claims.{problem_lent, Assumable, Ran, TwoRuns, RefusalKeeps, ByRelevancy, ByMagic, Theorems}
use Rattle.assuming.proofs.FactLaws.{assuming-Fits}
use Rattle.assuming.proofs.ModelLaws.{fact_is, added_model, model_added}
use Rattle.assuming.proofs.MeaningLaws.{all_picked, none_added, next_added, no_fact, choice_fits, means, exhausted_when, first_counted, second_counted, not_made}

-- a refusal's number, and that a verdict is one
abbrev refusal_in : Verdict → ℕ
refusal_in v = (verdict_numbers v).refusal

abbrev IsRefusal : Verdict → Type 0
IsRefusal (verdict.Refused e) = Unit
IsRefusal (verdict.Satisfied n) = ⊥
IsRefusal (verdict.Refuted n) = ⊥
IsRefusal (verdict.Exhausted n) = ⊥

-- ---- the facts that are taken

module _ (n : ℕ) where
  atoms_asked : (facts : List ℕ) → T (are_atoms n facts) → All (λ a. a < n) facts × Distinct nat_key facts
  atoms_asked [] t = (tt, tt)
  atoms_asked (a ∷ facts) t =
      let front = T_left (ltb a n && not (has nat_key facts a)) (are_atoms n facts) t in
      let rest = atoms_asked facts (T_right (ltb a n && not (has nat_key facts a)) (are_atoms n facts) t) in
      let other : T (has nat_key facts a) → ⊥ = apart (has nat_key facts a) (T_right (ltb a n) (not (has nat_key facts a)) front) in
      ((ltb-true a n (T-true (ltb a n) (T_left (ltb a n) (not (has nat_key facts a)) front)), rest.0), (other, rest.1))
    where
      apart : (b : Bool) → T (not b) → T b → ⊥
      apart true p q = p
      apart false p q = q

  asked_atoms_lem : (facts : List ℕ) → All (λ a. a < n) facts → Distinct nat_key facts → T (are_atoms n facts)
  asked_atoms_lem [] b d = tt
  asked_atoms_lem (a ∷ facts) b d =
      and-T (ltb a n && not (has nat_key facts a)) (are_atoms n facts)
      (and-T (ltb a n) (not (has nat_key facts a)) (subst T (sym (lt-ltb a n b.0)) tt) (fails (has nat_key facts a) d.0))
      (asked_atoms_lem facts b.1 d.1)

module _ (q : Problem) (facts : List ℕ) where
  abbrev A : ℕ
  A = atom_count q.constants q.arities

  abbrev sum : ℕ
  sum = length q.clauses + length facts

  refused_5 : 64 < sum → facts_refusal q facts ≡ 5
  unfolding facts_refusal
  refused_5 l = rw (lt-ltb 64 sum l)

  refused_by : sum ≤ 64 → facts_refusal q facts ≡ cond (leb (length facts) 16 && are_atoms A facts) 0 45
  unfolding facts_refusal
  refused_by l = rw (le-ltb 64 sum l)

  taken_0 : Assumable q facts → facts_refusal q facts ≡ 0
  taken_0 asks =
      let good : T (leb (length facts) 16 && are_atoms A facts) = and-T (leb (length facts) 16) (are_atoms A facts) (subst T (sym (le-leb (length facts) 16 asks.few)) tt) (asked_atoms_lem A facts asks.atoms asks.distinct) in
      refused_by asks.room ∙ ap (λ (b : Bool). cond b 0 45) (T-true (leb (length facts) 16 && are_atoms A facts) good)

  -- either the facts are taken, or the refusal says why not
  pub facts_or : Assumable q facts ⊎ (facts_refusal q facts ≡ 5) ⊎ (facts_refusal q facts ≡ 45)
  facts_or = go (lt_or_le 64 sum)
    where
      by : sum ≤ 64 → (b : Bool) → (leb (length facts) 16 && are_atoms A facts) ≡ b → Assumable q facts ⊎ (facts_refusal q facts ≡ 5) ⊎ (facts_refusal q facts ≡ 45)
      by l true e =
          let both : T (leb (length facts) 16 && are_atoms A facts) = subst T (sym e) tt in
          let asked = atoms_asked A facts (T_right (leb (length facts) 16) (are_atoms A facts) both) in
          inl (record { room = l; few = leb-true (length facts) 16 (T-true (leb (length facts) 16) (T_left (leb (length facts) 16) (are_atoms A facts) both)); atoms = asked.0; distinct = asked.1 })
      by l false e = inr (inr (refused_by l ∙ ap (λ (b : Bool). cond b 0 45) e))

      go : (64 < sum) ⊎ (sum ≤ 64) → Assumable q facts ⊎ (facts_refusal q facts ≡ 5) ⊎ (facts_refusal q facts ≡ 45)
      go (inl l) = inr (inl (refused_5 l))
      go (inr l) = by l (leb (length facts) 16 && are_atoms A facts) refl

  refused_45 : sum ≤ 64 → (Assumable q facts → ⊥) → facts_refusal q facts ≡ 45
  refused_45 l n = go facts_or
    where
      go : Assumable q facts ⊎ (facts_refusal q facts ≡ 5) ⊎ (facts_refusal q facts ≡ 45) → facts_refusal q facts ≡ 45
      go (inl a) = absurd (n a)
      go (inr (inl e)) = absurd (five_not (leb (length facts) 16 && are_atoms A facts) (sym (refused_by l) ∙ e))
        where
          five_not : (b : Bool) → ◌≡◌ {A = ℕ} (cond b 0 45) 5 → ⊥
          five_not true z = absurd (omega arith)
          five_not false z = absurd (omega arith)
      go (inr (inr e)) = e

-- ---- a call that passes 11 and 31

module _ (tb facts : List ℕ) (valid : Valid (take 4096 tb)) (r : Runs) where
  good : is_valid (take 4096 tb) ≡ true
  good = T-true (is_valid (take 4096 tb)) ((tables.valid (take 4096 tb)).1 valid)

  -- it comes to what the facts are refused for, or to its runs
  screened_by : (short : Bool) → short ≡ false → (k : ℕ) → facts_refusal (problem_lent tb) facts ≡ k → screened short tb facts r ≡ cond (ltb 0 k) (declined k) r
  screened_by short s k e = rw (s, good, e)

-- what refuses a first run refuses the call
refused_alike : (b v : Bool) (o : Outcome) (k : ℕ) (r : Runs) (e : ℕ) → ◌≡◌ {A = Verdict} (cond b (IsRefused 11) (cond v (verdict_of o) (IsRefused 31))) (IsRefused e)
    → ◌≡◌ {A = Runs} (cond b (declined 11) (cond v (cond (ltb 0 k) (declined k) r) (declined 31))) (declined e)
refused_alike true v o k r e s = ap declined (ap refusal_in s)
refused_alike false false o k r e s = ap declined (ap refusal_in s)
refused_alike false true (Satisfied n bits) k r e s = absurd (subst IsRefusal (sym s) tt)
refused_alike false true (Refuted n) k r e s = absurd (subst IsRefusal (sym s) tt)
refused_alike false true (Exhausted n) k r e s = absurd (subst IsRefusal (sym s) tt)

-- ---- what is left

refusal_keeps : (r : Runs) → RefusalKeeps r
refusal_keeps r =
    record {
      first = λ e s held. ap (λ (x : Runs). first_left x held) s;
      second = λ e s held. ap (λ (x : Runs). second_left x held) s;
      work = λ e s bytes. ap (λ (x : Runs). work_left x bytes) s;
    }

runs-work : (o p : Outcome) (work : List ℕ) → work_left (runs o p) work ≡ replicate 65536 0 ++ drop 65536 work
runs-work (Satisfied n bits) p work = refl
runs-work (Refuted n) p work = refl
runs-work (Exhausted n) p work = refl

-- ---- the two runs

module _ (q : Problem) (tb : List ℕ) (long : 4096 ≤ length tb) (valid : Valid (take 4096 tb)) (same : problem_lent tb ≡ q) (find : List ℕ → Found Instance) (sound : SoundFind (ground_of q) find) where
  ran : Ran find q tb (outcome find (limit_of q.limit))
  ran =
      let o = outcome find (limit_of q.limit) in
      record {
        valid = valid;
        problem = same;
        walked = refl;
        demand_2 =
            λ answer room.
            subst (λ (x : Problem). Demand2 find (ground_of x) (limit_of q.limit) tb (verdict_of o) (answer_of o answer)) same
            (judgings.demand_2 find (limit_of q.limit) tb answer long room valid (subst (λ (x : Problem). SoundFind (ground_of x) find) (sym same) sound));
      }

module _ (tb facts : List ℕ) (long : 4096 ≤ length tb) (valid : Valid (take 4096 tb)) (asks : Assumable (problem_lent tb) facts) where
  abbrev q : Problem
  q = problem_lent tb

  abbrev longer : List ℕ
  longer = assumed_table (take 4096 tb) facts

  pub fits : Fits q
  fits = (tables.lawful (take 4096 tb) valid).fits

  pub longer_fits : Fits (assuming q facts)
  longer_fits = assuming-Fits q fits facts asks.atoms asks.room

  longer_size : length longer ≡ 4096
  longer_size = tables.table_length (assuming q facts) longer_fits

  pub longer_whole : take 4096 longer ≡ longer
  longer_whole = ap (λ (n : ℕ). take n longer) (sym longer_size) ∙ take-length longer

  pub longer_long : 4096 ≤ length longer
  longer_long = omega (arith, longer_size)

  pub longer-Valid : Valid (take 4096 longer)
  longer-Valid =
      record {
        text = text_of (assuming q facts);
        problem = assuming q facts;
        accepted = (tables.accepted (text_of (assuming q facts)) (assuming q facts)).1 (longer_fits, refl);
        bytes = sym longer_whole;
      }

  pub longer_problem : problem_lent longer ≡ assuming q facts
  longer_problem = ap problem_in longer_whole ∙ tables.problem_back (assuming q facts) longer_fits

  -- with sound ways of finding nodes
  module _ (find find_all : List ℕ → Found Instance) (sound : SoundFind (ground_of q) find) (sound_all : SoundFind (ground_of (assuming q facts)) find_all) (r : Runs)
      (made : r ≡ runs (outcome find (limit_of q.limit)) (outcome find_all (limit_of q.limit))) where
    first_ran : Ran find q tb (outcome find (limit_of q.limit))
    first_ran = ran q tb long valid refl find sound

    second_ran : Ran find_all (assuming q facts) longer (outcome find_all (limit_of q.limit))
    second_ran = ran (assuming q facts) longer longer_long longer-Valid longer_problem find_all sound_all

    two_runs : TwoRuns find find_all tb facts r
    two_runs =
        let L = limit_of q.limit in
        let o = outcome find L in
        let p = outcome find_all L in
        subst (TwoRuns find find_all tb facts) (sym made)
        (record {
          alone = o;
          all = p;
          made = refl;
          first = first_ran;
          second = second_ran;
          meaning = means q fits facts asks find find_all sound sound_all L;
          exhausted = exhausted_when q fits facts asks find find_all sound sound_all L tb longer first_ran second_ran refl;
          first_count = first_counted q fits facts asks find find_all sound sound_all L tb longer first_ran second_ran refl;
          second_count = second_counted q fits facts asks find find_all sound sound_all L tb longer first_ran second_ran refl;
          not_made = not_made o p;
        })

-- ---- the relevancy engine

module _ (tb facts answer work : List ℕ) where
  abbrev R : Runs
  R = relevancy_runs tb facts answer work

  -- refused by 11 or 31, as a first run is
  relevancy_first : (e : ℕ) → fit_result tb answer work ≡ IsRefused e → R ≡ declined e
  unfolding relevancy_runs fit_result
  relevancy_first e = refused_alike (too_short tb answer work) (is_valid (take 4096 tb)) (outcome_in (take 4096 tb)) (facts_refusal (problem_in (take 4096 tb)) facts) _ e

  module _ (t : Taken tb answer work) where
    enough : too_short tb answer work ≡ false
    enough = relevancy.long_enough tb answer work t.table_long t.answer_long t.work_long

    pub relevancy_by : (k : ℕ) → facts_refusal (problem_lent tb) facts ≡ k → R ≡ cond (ltb 0 k) (declined k) (runs (outcome_in (take 4096 tb)) (outcome_in (assumed_table (take 4096 tb) facts)))
    unfolding relevancy_runs
    relevancy_by k e = screened_by tb facts t.valid _ (too_short tb answer work) enough k e

    module _ (asks : Assumable (problem_lent tb) facts) where
      pub relevancy_made : R ≡ runs (outcome (find_r (ground_of (problem_lent tb))) (limit_of (problem_lent tb).limit)) (outcome (find_r (ground_of (assuming (problem_lent tb) facts))) (limit_of (problem_lent tb).limit))
      unfolding outcome_in
      relevancy_made =
          relevancy_by 0 (taken_0 (problem_lent tb) facts asks)
          ∙ ap (λ (x : Problem). runs (outcome (find_r (ground_of (problem_lent tb))) (limit_of (problem_lent tb).limit)) (outcome (find_r (ground_of x)) (limit_of x.limit)))
          (tables.problem_back (assuming (problem_lent tb) facts) (longer_fits tb facts t.table_long t.valid asks))

      relevancy_two : TwoRuns (find_r (ground_of (problem_lent tb))) (find_r (ground_of (assuming (problem_lent tb) facts))) tb facts R
      relevancy_two =
          two_runs tb facts t.table_long t.valid asks _ _
          (walks.relevancy_sound (ground_of (problem_lent tb)) (ground_proper (problem_lent tb) (fits tb facts t.table_long t.valid asks)))
          (walks.relevancy_sound (ground_of (assuming (problem_lent tb) facts)) (ground_proper (assuming (problem_lent tb) facts) (longer_fits tb facts t.table_long t.valid asks)))
          R relevancy_made

      relevancy_work : work_left R work ≡ fit_work tb answer work
      unfolding fit_work
      relevancy_work = rw (enough, good tb facts t.valid R) (ap (λ (x : Runs). work_left x work) relevancy_made
          ∙ runs-work (outcome (find_r (ground_of (problem_lent tb))) (limit_of (problem_lent tb).limit)) (outcome (find_r (ground_of (assuming (problem_lent tb) facts))) (limit_of (problem_lent tb).limit)) work)

  relevancy_one : (Taken tb answer work × Assumable (problem_lent tb) facts) ⊎ (R ≡ declined 11) ⊎ (R ≡ declined 31) ⊎ (R ≡ declined 5) ⊎ (R ≡ declined 45)
  relevancy_one = go (relevancies.taken_or_refused tb answer work)
    where
      next : (t : Taken tb answer work) → Assumable (problem_lent tb) facts ⊎ (facts_refusal (problem_lent tb) facts ≡ 5) ⊎ (facts_refusal (problem_lent tb) facts ≡ 45)
          → (Taken tb answer work × Assumable (problem_lent tb) facts) ⊎ (R ≡ declined 11) ⊎ (R ≡ declined 31) ⊎ (R ≡ declined 5) ⊎ (R ≡ declined 45)
      next t (inl a) = inl (t, a)
      next t (inr (inl e)) = inr (inr (inr (inl (relevancy_by t 5 e))))
      next t (inr (inr e)) = inr (inr (inr (inr (relevancy_by t 45 e))))

      go : Taken tb answer work ⊎ (fit_result tb answer work ≡ IsRefused 11) ⊎ (fit_result tb answer work ≡ IsRefused 31)
          → (Taken tb answer work × Assumable (problem_lent tb) facts) ⊎ (R ≡ declined 11) ⊎ (R ≡ declined 31) ⊎ (R ≡ declined 5) ⊎ (R ≡ declined 45)
      go (inl t) = next t (facts_or (problem_lent tb) facts)
      go (inr (inl e)) = inr (inl (relevancy_first 11 e))
      go (inr (inr e)) = inr (inr (inl (relevancy_first 31 e)))

  by_relevancy : ByRelevancy tb facts answer work
  by_relevancy =
      record {
        one_of = relevancy_one;
        refused_first = relevancy_first;
        refused_5 = λ t l. relevancy_by t 5 (refused_5 (problem_lent tb) facts l);
        refused_45 = λ t l n. relevancy_by t 45 (refused_45 (problem_lent tb) facts l n);
        two_runs = relevancy_two;
        refused_kept = refusal_keeps R;
        work_left = relevancy_work;
      }

-- ---- the magic engine

module _ (tb facts rules answer work : List ℕ) where
  abbrev S : Runs
  S = magic_runs tb facts rules answer work

  magic_first : (e : ℕ) → magic_result tb rules answer work ≡ IsRefused e → S ≡ declined e
  unfolding magic_runs magic_result
  magic_first e = refused_alike (magic_too_short tb rules answer work) (is_valid (take 4096 tb)) (magic_outcome (take 4096 tb) (take 16384 rules)) (facts_refusal (problem_in (take 4096 tb)) facts) _ e

  module _ (t : MagicTaken tb rules answer work) where
    magic_enough : magic_too_short tb rules answer work ≡ false
    magic_enough = magic.long_enough tb rules answer work t.table_long t.rules_long t.answer_long t.work_long

    pub magic_by : (k : ℕ) → facts_refusal (problem_lent tb) facts ≡ k
        → S ≡ cond (ltb 0 k) (declined k) (runs (magic_outcome (take 4096 tb) (take 16384 rules)) (magic_outcome (assumed_table (take 4096 tb) facts) (take 16384 rules)))
    unfolding magic_runs
    magic_by k e = screened_by tb facts t.valid _ (magic_too_short tb rules answer work) magic_enough k e

    module _ (asks : Assumable (problem_lent tb) facts) where
      abbrev one : List ℕ → Found Instance
      one = find_in (rules_over (take 4096 tb) (take 16384 rules))

      abbrev two : List ℕ → Found Instance
      two = find_in (rules_over (assumed_table (take 4096 tb) facts) (take 16384 rules))

      back : problem_in (assumed_table (take 4096 tb) facts) ≡ assuming (problem_lent tb) facts
      back = tables.problem_back (assuming (problem_lent tb) facts) (longer_fits tb facts t.table_long t.valid asks)

      pub magic_made : S ≡ runs (outcome one (limit_of (problem_lent tb).limit)) (outcome two (limit_of (problem_lent tb).limit))
      unfolding rules_outcome
      magic_made =
          magic_by 0 (taken_0 (problem_lent tb) facts asks)
          ∙ ap (λ (x : Problem). runs (outcome one (limit_of (problem_lent tb).limit)) (outcome two (limit_of x.limit))) back

      two_sound : SoundFind (ground_of (assuming (problem_lent tb) facts)) two
      two_sound =
          subst (λ (x : Problem). SoundFind (ground_of (assuming (problem_lent tb) facts)) (find_in (rules_layout x ++ drop (length (rules_layout x)) (take 16384 rules)))) (sym back)
          (rules_sound (assuming (problem_lent tb) facts) (longer_fits tb facts t.table_long t.valid asks) _)

      magic_two : TwoRuns one two tb facts S
      magic_two = two_runs tb facts t.table_long t.valid asks one two (rules_sound (problem_lent tb) (fits tb facts t.table_long t.valid asks) _) two_sound S magic_made

      magic_work_lem : work_left S work ≡ magic_work tb rules answer work
      unfolding magic_work
      magic_work_lem = rw (magic_enough, good tb facts t.valid S) (ap (λ (x : Runs). work_left x work) magic_made
          ∙ runs-work (outcome one (limit_of (problem_lent tb).limit)) (outcome two (limit_of (problem_lent tb).limit)) work)

  magic_one : (MagicTaken tb rules answer work × Assumable (problem_lent tb) facts) ⊎ (S ≡ declined 11) ⊎ (S ≡ declined 31) ⊎ (S ≡ declined 5) ⊎ (S ≡ declined 45)
  magic_one = go (magics.taken_or_refused tb rules answer work)
    where
      next : (t : MagicTaken tb rules answer work) → Assumable (problem_lent tb) facts ⊎ (facts_refusal (problem_lent tb) facts ≡ 5) ⊎ (facts_refusal (problem_lent tb) facts ≡ 45)
          → (MagicTaken tb rules answer work × Assumable (problem_lent tb) facts) ⊎ (S ≡ declined 11) ⊎ (S ≡ declined 31) ⊎ (S ≡ declined 5) ⊎ (S ≡ declined 45)
      next t (inl a) = inl (t, a)
      next t (inr (inl e)) = inr (inr (inr (inl (magic_by t 5 e))))
      next t (inr (inr e)) = inr (inr (inr (inr (magic_by t 45 e))))

      go : MagicTaken tb rules answer work ⊎ (magic_result tb rules answer work ≡ IsRefused 11) ⊎ (magic_result tb rules answer work ≡ IsRefused 31)
          → (MagicTaken tb rules answer work × Assumable (problem_lent tb) facts) ⊎ (S ≡ declined 11) ⊎ (S ≡ declined 31) ⊎ (S ≡ declined 5) ⊎ (S ≡ declined 45)
      go (inl t) = next t (facts_or (problem_lent tb) facts)
      go (inr (inl e)) = inr (inl (magic_first 11 e))
      go (inr (inr e)) = inr (inr (inl (magic_first 31 e)))

  by_magic : ByMagic tb facts rules answer work
  by_magic =
      record {
        one_of = magic_one;
        refused_first = magic_first;
        refused_5 = λ t l. magic_by t 5 (refused_5 (problem_lent tb) facts l);
        refused_45 = λ t l n. magic_by t 45 (refused_45 (problem_lent tb) facts l n);
        two_runs = magic_two;
        refused_kept = refusal_keeps S;
        refused_rules = λ e. take-append-drop 16384 rules;
        work_left = magic_work_lem;
      }

pub theorems : Theorems
theorems =
    record {
      fact_is = λ q f a l values. fact_is q f a l values;
      none_added = none_added;
      next_added = next_added;
      added = λ q f facts below M. (model_added q f facts below M, λ m. added_model q f facts below M m.0 m.1);
      choice_fits = choice_fits;
      no_fact = no_fact;
      all_facts = all_picked;
      by_relevancy = by_relevancy;
      by_magic = by_magic;
    }
