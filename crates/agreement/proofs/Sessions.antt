-- The claims of `specs/Sessions.antt`, proved: what `search` shows of sessions, at the operations. A record holds each session of a walk, since its path has no more
-- entries than there are atoms.
use Prim.Native.Nat.{ℕ, ◌+◌, ◌≤◌, ◌<◌}
use mathlib.Core.Bool.{Bool, true, false, cond}
use mathlib.Core.List.{List, [], ◌∷◌, ◌++◌}
use mathlib.Core.Logic.{◌↔◌, ◌⊎◌, inl, inr}
use mathlib.Core.Option.{Option, none, some}
use mathlib.Core.Path.{◌≡◌, refl, sym, ap, ap₂, subst, ◌∙◌}
use native.Mathlib.Omega.{arith}
use lib.Dec.{T}
use lib.ListN.{length, take, drop}
use Rattle.lists.specs.Key.{Key}
use Rattle.lists.proofs.Test.{T-true, lt_or_le}
use Rattle.search.specs.Ground.{Ground, Model, Marked, Found, opened}
use Rattle.search.specs.Relevancy.{find_r}
use Rattle.search.specs.Deepest.{Exact}
use Rattle.search.specs.Machine.{Outcome, Satisfied, Exhausted, root, entries, proceed, outcome}
use Rattle.search.specs.Sound.{SoundFind}
use Rattle.search.specs.Session.{Session, place_of, session_after, first_session, Called, declined, told, called}
use Rattle.search.specs.SessionRight.{ShortPaths, Right, CallTold}
use Rattle.search.specs.SessionClaims.{find_by, Call, Kept, kept_after, first_kept, after_calls as keptCalls, OneWalkKept, AnyOrigin}
use Rattle.search.proofs.Deepest.{deep_stands_lem}
use Rattle.search.proofs.SessionLeft.{call_told}
use Rattle.search.proofs.Theorems.{theorems as walks}
use Rattle.problem.specs.Problem.{Fits}
use Rattle.problem.specs.Layout.{problem_in}
use Rattle.problem.specs.Table.{Valid, is_valid}
use Rattle.problem.proofs.Theorems.{theorems as tables}
use Rattle.ground.specs.Instance.{Instance, ground_in}
use Rattle.ground.specs.Names.{instance_key}
use Rattle.ground.specs.Verdict.{verdict_of, answer_of}
use Rattle.ground.specs.Walks.{magic}
use Rattle.ground.proofs.Instances.{atoms_few}
use Rattle.std.specs.Prelude.{Ok}
use Rattle.judging.specs.declared.judge.Judgement.TheVariants.{Model as IsModel}
use Rattle.judging.specs.ModelCheck.{judge_result}
use Rattle.judging.specs.Demand2.{ground_lent, limit_lent, Demand2}
use Rattle.judging.proofs.Theorems.{theorems as judgings}
use Rattle.rewriting.specs.RulesLayout.{rules_layout}
use Rattle.rewriting.specs.Facts.{find_in}
use Rattle.rewriting.specs.Rewrite.{rules_over}
use Rattle.rewriting.proofs.RegroupLaws.{find_by_lem, rules_sound}
use Rattle.session.specs.declared.record.Session.{Session as Record}
use Rattle.session.specs.Record.{session_in, laid}
use Rattle.session.specs.Calls.{called_in, begun_by, screened}
use Rattle.session.proofs.RecordLaws.{held_laid, laid-deepest}
use Rattle.session.proofs.CallLaws.{screened_on, screened-told, held_count, called_held, called_none, called_over, called_empty}
use Rattle.relevancy.specs.Engine.{too_short}
use Rattle.relevancy.specs.Sessions.{begun, resumed}
use Rattle.relevancy.proofs.EngineLaws as relevancy-ways
use Rattle.relevancy.proofs.SessionLaws as relevancy-calls
use Rattle.magic.specs.Engine.{magic_too_short, magic_rules}
use Rattle.magic.specs.Sessions.{magic_begun, magic_resumed}
use Rattle.magic.proofs.EngineLaws as magic-ways
use Rattle.magic.proofs.SessionLaws as magic-calls
use Rattle.agreement.specs.Claims.{BothTaken}
use Rattle.agreement.specs.Sessions.{Lent, by_engine, begins, going_on, Carried, carried_by, carried_first, carried_after, SameProblem, OnProblem, BroughtBack, FromThere, AnyRecord, Theorems}
use Rattle.agreement.proofs.Theorems.{proper, find_is, facts_over}

-- the walk of a lent table, and that of an engine
abbrev walk_of : List ℕ → List ℕ → Found Instance
walk_of tb = find_r (ground_lent tb)

abbrev walk_by : List ℕ → Bool → List ℕ → Found Instance
walk_by tb m = find_by instance_key (ground_lent tb) m

-- over so many atoms
abbrev atoms_in : List ℕ → ℕ
atoms_in tb = (ground_lent tb).atoms

-- ---- a ticket

-- a call is refused by 11 or 31, or it is this one
abbrev EarlyOr : Called → Called → Type 0
EarlyOr x y = (x ≡ declined 11) ⊎ (x ≡ declined 31) ⊎ (x ≡ y)

is_valid_lem : (t : List ℕ) → is_valid t ≡ true → Valid t
is_valid_lem t v = (tables.valid t).0 (subst T (sym v) tt)

module _ (tb : List ℕ) (valid : Valid (take 4096 tb)) where
  abbrev own : List ℕ
  own = take 4096 tb

  good : is_valid (take 4096 tb) ≡ true
  good = T-true (is_valid own) ((tables.valid own).1 valid)

  fits : Fits (problem_in (take 4096 tb))
  fits = (tables.lawful own valid).fits

  sound : SoundFind (ground_lent tb) (walk_of tb)
  sound = walks.relevancy_sound (ground_lent tb) (proper tb valid)

  short_paths : ShortPaths (walk_of tb) (atoms_in tb)
  short_paths = (walks.sound_walk (ground_lent tb) (walk_of tb) sound).short_paths

  -- a session of its walk is held by its record
  right_held : (s : Session) → Right (walk_of tb) (atoms_in tb) s → session_in (laid s) ≡ some s
  right_held s right = held_laid s (omega (arith, right.deep_enough, right.deep_within, atoms_few (problem_in own) fits))

  -- the walk by its rules, over whatever the rules buffer held
  rules_find : (rules : List ℕ) → find_in (rules_over (take 4096 tb) rules) ≡ walk_by tb true
  unfolding magic
  rules_find rules = find_by_lem (problem_in own) fits (drop (length (rules_layout (problem_in own))) rules)

  rules_right : (rules : List ℕ) → SoundFind (ground_lent tb) (find_in (rules_over (take 4096 tb) rules))
  rules_right rules = rules_sound (problem_in own) fits (drop (length (rules_layout (problem_in own))) rules)

  -- comes to the same outcome as the table's own
  magic_outcome : (rules : List ℕ) (limit : ℕ) → outcome (find_in (rules_over (take 4096 tb) rules)) limit ≡ outcome (walk_of tb) limit
  magic_outcome rules limit =
      ap (λ (f : List ℕ → Found Instance). outcome f limit) (rules_find rules) ∙ (walks.one_walk_kept instance_key (ground_lent tb) (proper tb valid) true limit []).answer_is

-- a call on the ticket is refused by 11 or 31, or goes on by its engine's walk
goes_on : (tb : List ℕ) (r : Record) (c : Lent) → SameProblem tb c → EarlyOr (going_on r c) (called_in (walk_by tb c.magic) (atoms_in tb) r c.further)
unfolding resumed magic_resumed
goes_on tb r c same = go c.magic
  where
    by_walk : (short : Bool) (f g : List ℕ → Found Instance) → (is_valid (take 4096 c.table) ≡ true → f ≡ g)
        → EarlyOr (screened short (is_valid (take 4096 c.table)) (called_in f (atoms_in c.table) r c.further)) (called_in g (atoms_in tb) r c.further)
    by_walk short f g e = at (screened_on short (is_valid (take 4096 c.table)) on)
      where
        on : Called
        on = called_in f (atoms_in c.table) r c.further

        x : Called
        x = screened short (is_valid (take 4096 c.table)) on

        at : (x ≡ declined 11) ⊎ (x ≡ declined 31) ⊎ ((is_valid (take 4096 c.table) ≡ true) × (x ≡ on)) → EarlyOr x (called_in g (atoms_in tb) r c.further)
        at (inl q) = inl q
        at (inr (inl q)) = inr (inl q)
        at (inr (inr q)) =
            inr (inr (q.1 ∙ ap₂ (λ (h : List ℕ → Found Instance) (n : ℕ). called_in h n r c.further) (e q.0) (ap (λ (p : Ground Instance). p.atoms) same)))

    go : (m : Bool)
        → EarlyOr (by_engine m (magic_resumed r c.further c.table c.rules c.answer c.work) (resumed r c.further c.table c.answer c.work))
        (called_in (walk_by tb m) (atoms_in tb) r c.further)
    go true =
        by_walk (magic_too_short c.table c.rules c.answer c.work) (find_in (rules_over (take 4096 c.table) (take 16384 c.rules))) (walk_by tb true)
        (λ v. rules_find c.table (is_valid_lem (take 4096 c.table) v) (take 16384 c.rules) ∙ ap (λ (p : Ground Instance). find_by instance_key p true) same)
    go false =
        by_walk (too_short c.table c.answer c.work) (find_r (ground_in (take 4096 c.table))) (walk_of tb) (λ v. ap (λ (p : Ground Instance). find_r p) same)

-- ---- a first run that is not refused

record Began (m : Bool) (tb : List ℕ) (o : Outcome) (s : Session) : Type 0 where
  long : 4096 ≤ length tb
  valid : Valid (take 4096 tb)
  start : begun_by (walk_by tb m) (limit_lent tb) ≡ told o s

began : (first : Lent) (o : Outcome) (s : Session) → begins first ≡ told o s → Began first.magic first.table o s
unfolding begun magic_begun
began first o s = go first.magic
  where
    tb : List ℕ
    tb = first.table

    long : (b : Bool) → b ≡ false → (length tb < 4096 → b ≡ true) → 4096 ≤ length tb
    long b e short = at (lt_or_le (length tb) 4096)
      where
        at : (length tb < 4096) ⊎ (4096 ≤ length tb) → 4096 ≤ length tb
        at (inl h) = absurd (subst T (sym (short h) ∙ e) tt)
        at (inr h) = h

    go : (m : Bool) → by_engine m (magic_begun tb first.rules first.answer first.work) (begun tb first.answer first.work) ≡ told o s → Began m tb o s
    go true e =
        let short : Bool = magic_too_short tb first.rules first.answer first.work in
        let h = screened-told short (is_valid (take 4096 tb)) (begun_by (find_in (rules_over (take 4096 tb) (take 16384 first.rules))) (limit_lent tb)) o s e in
        record {
          long = long short h.0 (magic-ways.short_table tb first.rules first.answer first.work);
          valid = is_valid_lem (take 4096 tb) h.1;
          start = ap (λ (f : List ℕ → Found Instance). begun_by f (limit_lent tb)) (sym (rules_find tb (is_valid_lem (take 4096 tb) h.1) (take 16384 first.rules))) ∙ h.2;
        }
    go false e =
        let short : Bool = too_short tb first.answer first.work in
        let h = screened-told short (is_valid (take 4096 tb)) (begun_by (walk_of tb) (limit_lent tb)) o s e in
        record { long = long short h.0 (relevancy-ways.short_table tb first.answer first.work); valid = is_valid_lem (take 4096 tb) h.1; start = h.2 }

-- ---- lists of calls

-- what a list of calls keeps, with the session in its record
abbrev carried_of : Kept → Carried
carried_of k = record { answered = k.answered; shown = k.session.deepest; kept = laid k.session; sum = k.sum }

carried_after_lem : (k : Kept) (further : ℕ) (x : Called) → carried_by (carried_of k) further x ≡ carried_of (kept_after k further x)
carried_after_lem k further (declined e) = refl
carried_after_lem k further (told o s) = refl

module _ {I : Type 0} (k : Key I) (p : Ground I) where
  -- one call more
  calls_more : (cs : List Call) (c : Call) (was : Kept)
      → keptCalls k p (cs ++ (c ∷ [])) was
      ≡ kept_after (keptCalls k p cs was) c.further (called (find_by k p c.magic) p.atoms (keptCalls k p cs was).session c.further)
  calls_more [] c was = refl
  calls_more (d ∷ cs) c was = calls_more cs c (kept_after was d.further (called (find_by k p d.magic) p.atoms was.session d.further))

module _ (tb : List ℕ) (long : 4096 ≤ length tb) (valid : Valid (take 4096 tb)) (m : Bool) where
  -- after a first run and these calls, none refused by 11 or 31
  abbrev kept_by : List Call → Kept
  kept_by cs = keptCalls instance_key (ground_lent tb) cs (first_kept instance_key (ground_lent tb) m (limit_lent tb))

  abbrev session_by : List Call → Session
  session_by cs = (kept_by cs).session

  one_walk : (cs : List Call) → OneWalkKept instance_key (ground_lent tb) m (limit_lent tb) cs
  one_walk cs = walks.one_walk_kept instance_key (ground_lent tb) (proper tb valid) m (limit_lent tb) cs

  -- its session is in the record left
  kept_held : (cs : List Call) → session_in (laid (session_by cs)) ≡ some (session_by cs)
  kept_held cs =
      subst (λ (s : Session). session_in (laid s) ≡ some s) (sym (one_walk cs).session_is)
      (right_held tb valid (first_session (walk_of tb) (kept_by cs).sum) ((walks.any_session (walk_of tb) (atoms_in tb)).first_left (short_paths tb valid) (kept_by cs).sum).right)

  -- a call then is refused by 11 or 31, or goes on with that session
  abbrev CallIs : List Call → Lent → Type 0
  CallIs cs c = EarlyOr (going_on (laid (session_by cs)) c) (called (walk_by tb c.magic) (atoms_in tb) (session_by cs) c.further)

  call_is : (cs : List Call) (c : Lent) → SameProblem tb c → CallIs cs c
  call_is cs c same = go (goes_on tb (laid (session_by cs)) c same)
    where
      go : EarlyOr (going_on (laid (session_by cs)) c) (called_in (walk_by tb c.magic) (atoms_in tb) (laid (session_by cs)) c.further) → CallIs cs c
      go (inl e) = inl e
      go (inr (inl e)) = inr (inl e)
      go (inr (inr e)) = inr (inr (e ∙ called_held (walk_by tb c.magic) (atoms_in tb) (laid (session_by cs)) c.further (session_by cs) (kept_held cs)))

  call_kept : (cs : List Call) (c : Lent) → SameProblem tb c
      → (ds : List Call) × (carried_by (carried_of (kept_by cs)) c.further (going_on (laid (session_by cs)) c) ≡ carried_of (kept_by ds))
  call_kept cs c same = go (call_is cs c same)
    where
      go : CallIs cs c
          → (ds : List Call) × (carried_by (carried_of (kept_by cs)) c.further (going_on (laid (session_by cs)) c) ≡ carried_of (kept_by ds))
      go (inl e) = (cs, ap (carried_by (carried_of (kept_by cs)) c.further) e)
      go (inr (inl e)) = (cs, ap (carried_by (carried_of (kept_by cs)) c.further) e)
      go (inr (inr e)) =
          let d : Call = record { magic = c.magic; further = c.further } in (
            cs ++ (d ∷ []),
            ap (carried_by (carried_of (kept_by cs)) c.further) e
                ∙ carried_after_lem (kept_by cs) c.further (called (walk_by tb c.magic) (atoms_in tb) (session_by cs) c.further)
                ∙ ap carried_of (sym (calls_more instance_key (ground_lent tb) cs d (first_kept instance_key (ground_lent tb) m (limit_lent tb)))),
          )

  -- a call on another ticket is refused, and keeps all as it was
  call_on : (cs : List Call) (c : Lent) (k : Carried) → k ≡ carried_of (kept_by cs) → SameProblem tb c ⊎ ((n : ℕ) × (going_on k.kept c ≡ declined n))
      → (ds : List Call) × (carried_by k c.further (going_on k.kept c) ≡ carried_of (kept_by ds))
  call_on cs c k e (inl same) = let w = call_kept cs c same in (w.0, ap (λ (x : Carried). carried_by x c.further (going_on x.kept c)) e ∙ w.1)
  call_on cs c k e (inr refused) = (cs, ap (carried_by k c.further) refused.1 ∙ e)

  -- so all calls together keep what those do that are on the ticket and not refused by 11 or 31
  calls_kept : (calls : List Lent) (k : Carried) → OnProblem tb k calls → (cs : List Call) → k ≡ carried_of (kept_by cs) → (ds : List Call) × (carried_after calls k ≡ carried_of (kept_by ds))
  calls_kept [] k on cs e = (cs, e)
  calls_kept (c ∷ calls) k on cs e =
      let w = call_on cs c k e on.0 in
      calls_kept calls (carried_by k c.further (going_on k.kept c)) on.1 w.0 w.1

  kept_back : (cs : List Call) → BroughtBack tb (carried_of (kept_by cs))
  kept_back cs =
      let w = one_walk cs in
      record {
        answer_is = w.answer_is;
        by_magic = λ rules. w.answer_is ∙ sym (magic_outcome tb valid rules (kept_by cs).sum);
        kept_is = ap laid w.session_is;
        demand_2 = λ answer wide.
            subst
            (λ (o : Outcome). Demand2 (walk_of tb) (ground_lent tb) (kept_by cs).sum tb (verdict_of o) (answer_of o answer))
            (sym w.answer_is)
            (judgings.demand_2 (walk_of tb) (kept_by cs).sum tb answer long wide valid (sound tb valid));
        magic_demand_2 = λ rules answer wide.
            subst
            (λ (o : Outcome). Demand2 (find_in (rules_over (take 4096 tb) rules)) (ground_lent tb) (kept_by cs).sum tb (verdict_of o) (answer_of o answer))
            (magic_outcome tb valid rules (kept_by cs).sum ∙ sym w.answer_is)
            (judgings.demand_2 (find_in (rules_over (take 4096 tb) rules)) (kept_by cs).sum tb answer long wide valid (rules_right tb valid rules));
        always_stands = λ c same e. not_nowhere c e (call_is cs c same);
        finished_again = λ over c same o s e. again over c o s e (call_is cs c same);
        shown_is = sym (laid-deepest (session_by cs));
        deepest_bounds = w.deepest_bounds false;
        deepest_exact = w.deepest_exact false;
        magic_deepest_exact = λ rules.
            subst
            (λ (f : List ℕ → Found Instance). Exact 0 (entries f (kept_by cs).sum (root f)) (session_by cs).deepest)
            (sym (rules_find tb valid rules))
            (w.deepest_exact true);
      }
    where
      not_nowhere : (c : Lent) → going_on (laid (session_by cs)) c ≡ declined 42 → CallIs cs c → ⊥
      not_nowhere c e (inl h) = let z : ◌≡◌ {A = ℕ} 11 42 = cc in omega arith
      not_nowhere c e (inr (inl h)) = let z : ◌≡◌ {A = ℕ} 31 42 = cc in omega arith
      not_nowhere c e (inr (inr h)) = (one_walk cs).always_stands c.magic c.further (sym h ∙ e)

      again : ((n : ℕ) → (kept_by cs).answered ≡ Exhausted n → ⊥) → (c : Lent) (o : Outcome) (s : Session) → going_on (laid (session_by cs)) c ≡ told o s → CallIs cs c
          → (o ≡ (kept_by cs).answered) × (laid s ≡ laid (session_by cs))
      again over c o s e (inl h) = let z : ◌≡◌ {A = ℕ} 0 1 = cc in absurd (omega arith)
      again over c o s e (inr (inl h)) = let z : ◌≡◌ {A = ℕ} 0 1 = cc in absurd (omega arith)
      again over c o s e (inr (inr h)) =
          let q = (one_walk cs).finished_again over c.magic c.further o s (sym h ∙ e) in
          (q.0, ap laid q.1)

told_parts : (x o : Outcome) (y s : Session) → told x y ≡ told o s → (o ≡ x) × (s ≡ y)
told_parts x o y s e = (cc, cc)

brought_back : (first : Lent) (o : Outcome) (s : Session) → begins first ≡ told o s → (r : Record) (calls : List Lent)
    → OnProblem first.table (carried_first first.table o s r) calls → BroughtBack first.table (carried_after calls (carried_first first.table o s r))
brought_back first o s e r calls on =
    let tb : List ℕ = first.table in
    let b = began first o s e in
    let find : List ℕ → Found Instance = walk_by tb first.magic in
    let parts = told_parts (outcome find (limit_lent tb)) o (first_session find (limit_lent tb)) s b.start in
    let start : carried_first tb o s r ≡ carried_of (kept_by tb b.long b.valid first.magic []) =
    ap₂ (λ (x : Outcome) (y : Session). carried_first tb x y r) parts.0 parts.1 in
    let w = calls_kept tb b.long b.valid first.magic calls (carried_first tb o s r) on [] start in
    subst (BroughtBack tb) (sym w.1) (kept_back tb b.long b.valid first.magic w.0)

-- ---- a model is judged one

-- the way of finding a node that has the bits of a model at once, at every node, is sound; so the judge agrees with them
module _ (tb answer : List ℕ) (long : 4096 ≤ length tb) (wide : 1024 ≤ length answer) (valid : Valid (take 4096 tb)) (bits : List Bool)
    (given : (length bits ≡ (ground_lent tb).atoms) × Model (ground_lent tb) (Marked bits)) where
  abbrev at_once : List ℕ → Found Instance
  at_once l = opened bits

  sound_at_once : SoundFind (ground_lent tb) at_once
  sound_at_once =
      record {
        closed_refutes = λ bs g e. let z : ◌≡◌ {A = ℕ} 0 1 = cc in absurd (omega arith);
        split_covers = λ bs g i ds e. let z : ◌≡◌ {A = ℕ} 0 1 = cc in absurd (omega arith);
        split_fresh = λ bs g i ds e. let z : ◌≡◌ {A = ℕ} 0 1 = cc in absurd (omega arith);
        opened_model = λ bs g others e. let same : bits ≡ others = cc in subst (λ (x : List Bool). (length x ≡ (ground_lent tb).atoms) × Model (ground_lent tb) (Marked x)) same given;
      }

  model_judged : (n : ℕ) → judge_result tb (answer_of (Satisfied n bits) answer) ≡ Ok IsModel
  unfolding entries proceed
  model_judged n = (judgings.demand_2 at_once 0 tb answer long wide valid sound_at_once).judged 0 refl

-- ---- a session of any origin

module _ (tb rules answer work₁ work₂ : List ℕ) (taken : BothTaken tb rules answer work₁ work₂) (r : Record) (further : ℕ) where
  table_valid : Valid (take 4096 tb)
  table_valid = taken.by_relevancy.valid

  -- both calls go on by the walks of the table
  by_relevancy : resumed r further tb answer work₁ ≡ called_in (walk_of tb) (atoms_in tb) r further
  by_relevancy =
      let t = taken.by_relevancy in
      relevancy-calls.resumed_runs tb answer work₁ r further (relevancy-ways.long_enough tb answer work₁ t.table_long t.answer_long t.work_long) (good tb table_valid)

  by_magic : magic_resumed r further tb rules answer work₂ ≡ called_in (walk_by tb true) (atoms_in tb) r further
  by_magic =
      let t = taken.by_magic in
      magic-calls.resumed_runs tb rules answer work₂ r further (magic-ways.long_enough tb rules answer work₂ t.table_long t.rules_long t.answer_long t.work_long) (good tb table_valid)
      ∙ ap (λ (f : List ℕ → Found Instance). called_in f (atoms_in tb) r further) (rules_find tb table_valid (take 16384 rules))

  origin : (s : Session) → AnyOrigin instance_key (ground_lent tb) s further
  origin s = walks.any_origin instance_key (ground_lent tb) (proper tb table_valid) s further

  calls : magic_resumed r further tb rules answer work₂ ≡ resumed r further tb answer work₁
  calls = by_magic ∙ go (session_in r) refl ∙ sym by_relevancy
    where
      go : (x : Option Session) → session_in r ≡ x → called_in (walk_by tb true) (atoms_in tb) r further ≡ called_in (walk_of tb) (atoms_in tb) r further
      go none e = called_none (walk_by tb true) (atoms_in tb) r further e ∙ sym (called_none (walk_of tb) (atoms_in tb) r further e)
      go (some s) e = called_held (walk_by tb true) (atoms_in tb) r further s e ∙ (origin s).calls ∙ sym (called_held (walk_of tb) (atoms_in tb) r further s e)

  module _ (within : r.count + further ≤ 4294967295) where
    held_within : (s : Session) → session_in r ≡ some s → s.count + further ≤ 4294967295
    held_within s e = rw (held_count r s e) within

    on_held : (s : Session) → session_in r ≡ some s → resumed r further tb answer work₁ ≡ called (walk_of tb) (atoms_in tb) s further
    on_held s e = by_relevancy ∙ called_held (walk_of tb) (atoms_in tb) r further s e

    refused_42 : (resumed r further tb answer work₁ ≡ declined 42) ↔ ((s : Session) → session_in r ≡ some s → Right (walk_of tb) (atoms_in tb) s → ⊥)
    refused_42 = (λ e s held. ((walks.any_session (walk_of tb) (atoms_in tb)).refused_42 s further (held_within s held)).0 (sym (on_held s held) ∙ e), λ h. go h (session_in r) refl)
      where
        go : ((s : Session) → session_in r ≡ some s → Right (walk_of tb) (atoms_in tb) s → ⊥) → (x : Option Session) → session_in r ≡ x → resumed r further tb answer work₁ ≡ declined 42
        go h none e = by_relevancy ∙ called_empty (walk_of tb) (atoms_in tb) r further within e
        go h (some s) e = on_held s e ∙ ((walks.any_session (walk_of tb) (atoms_in tb)).refused_42 s further (held_within s e)).1 (h s e)

    module _ (s : Session) (held : session_in r ≡ some s) (right : Right (walk_of tb) (atoms_in tb) s) where
      call : CallTold (walk_of tb) (atoms_in tb) s further
      call = (walks.any_session (walk_of tb) (atoms_in tb)).told_right (short_paths tb table_valid) s further (held_within s held) right

      -- what it says is the outcome of running on from its place, by either walk
      runs : (m : Bool) → place_of (walk_by tb m) s ≡ some call.place → called (walk_by tb m) (atoms_in tb) s further ≡ told call.outcome call.left
          → call.outcome ≡ proceed (walk_by tb m) further s.count call.place
      runs m stands calls =
          let f : List ℕ → Found Instance = walk_by tb m in
          let so = call_told f (atoms_in tb) s further call.place (held_within s held)
          (ap (λ (b : Bool). cond b (place_of f s) none) (deep_stands_lem (atoms_in tb) s right.deep_enough right.deep_within) ∙ stands) in
          (told_parts
          (proceed f further s.count call.place)
          call.outcome
          (session_after f further s.count s.deepest call.place)
          call.left
          (sym so ∙ calls)).0

      by_rules : find_in (magic_rules tb rules answer work₂) ≡ walk_by tb true
      by_rules = find_is tb rules answer work₁ work₂ taken

      magic_stands : place_of (walk_by tb true) s ≡ some call.place
      magic_stands = (origin s).places ∙ call.there.stands

      from_there : FromThere tb (magic_rules tb rules answer work₂) answer r further call.outcome call.left
      from_there =
          record {
            session = s;
            held = held;
            place = call.place;
            there = call.there;
            runs = runs false call.there.stands call.calls;
            magic_stands = ap (λ (f : List ℕ → Found Instance). place_of f s) by_rules ∙ magic_stands;
            magic_runs =
                runs true magic_stands ((origin s).calls ∙ call.calls) ∙ sym (ap (λ (f : List ℕ → Found Instance). proceed f further s.count call.place) by_rules);
            leaves = call.runs;
            trails =
                ap (λ (f : List ℕ → Found Instance). entries f further call.place) by_rules ∙ (origin s).trails call.place call.there.stands;
            facts = facts_over tb rules answer work₁ work₂ taken (call.place ∷ entries (walk_of tb) further call.place) ((origin s).facts call.place call.there.stands);
            judged = λ n bits e.
                ap (λ (x : Outcome). judge_result tb (answer_of x answer)) e
                ∙ model_judged tb answer taken.by_relevancy.table_long taken.by_relevancy.answer_long table_valid bits
                ((origin s).models n bits call.left (call.calls ∙ ap (λ (x : Outcome). told x call.left) e)) n;
            left_held = right_held tb table_valid call.left call.runs.right;
            again = call.again;
          }

  any_record : AnyRecord tb rules answer work₁ work₂ (magic_rules tb rules answer work₂) r further
  any_record =
      record {
        calls = calls;
        refused_41 = λ over. by_relevancy ∙ called_over (walk_of tb) (atoms_in tb) r further over;
        refused_42 = refused_42;
        told_from = λ within s held right.
            let c = call within s held right in
            (c.outcome, (c.left, (on_held within s held ∙ c.calls, from_there within s held right)));
      }

pub theorems : Theorems
theorems = record { brought_back = brought_back; any_record = any_record; right_held = λ tb answer work taken s right. right_held tb taken.valid s right }
