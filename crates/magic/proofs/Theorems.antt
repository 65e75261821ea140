-- The claims of `specs/Claims.antt`, proved: the rules left are those of the table's problem, and the walk by them is sound.
use Prim.Native.Nat.{ℕ, ◌≤◌, ◌<◌}
use mathlib.Core.Bool.{Bool, true, false}
use mathlib.Core.List.{List, ◌++◌, append_assoc}
use mathlib.Core.Logic.{◌⊎◌, inl, inr}
use mathlib.Core.Path.{◌≡◌, refl, sym, ap, subst, ◌∙◌}
use lib.Dec.{T}
use lib.ListN.{length, take, drop}
use Rattle.lists.proofs.Test.{T-true, lt_or_le}
use Rattle.search.specs.Ground.{Found}
use Rattle.search.specs.Magic.{Magic, rewriting, holds, find_m}
use Rattle.search.specs.Machine.{Outcome, outcome}
use Rattle.search.specs.Session.{Session, first_session, Called, declined, told}
use Rattle.search.specs.Sound.{SoundFind}
use Rattle.problem.specs.Problem.{Problem, Fits}
use Rattle.problem.specs.Layout.{problem_in}
use Rattle.problem.specs.Table.{is_valid}
use Rattle.problem.proofs.Theorems.{theorems as tables}
use Rattle.ground.specs.declared.verdict.Verdict.TheVariants.{Refused}
use Rattle.ground.specs.Instance.{Instance}
use Rattle.ground.specs.Names.{instance_key}
use Rattle.ground.specs.Verdict.{verdict_of, answer_of}
use Rattle.ground.specs.Walks.{magic}
use Rattle.judging.specs.Demand2.{ground_lent, limit_lent, Demand2}
use Rattle.judging.proofs.Theorems.{theorems as judgings}
use Rattle.rewriting.specs.RulesLayout.{rules_layout}
use Rattle.rewriting.specs.Facts.{false_in, magic_in, find_in}
use Rattle.rewriting.specs.Rewrite.{rules_over}
use Rattle.rewriting.proofs.RegroupLaws.{find_by_lem, rules_sound, holds_by}
use Rattle.session.specs.declared.record.Session.{Session as Record}
use Rattle.session.specs.Calls.{begun_by, verdict_told}
use Rattle.session.proofs.CallLaws.{declined_by}
use Rattle.magic.specs.Engine.{rules_outcome, magic_too_short, magic_outcome, magic_result, magic_rules, magic_answer}
use Rattle.magic.specs.Sessions.{magic_begun, magic_resumed, rules_left}
use Rattle.magic.specs.Claims.{MagicTaken, Theorems}
use Rattle.magic.proofs.EngineLaws.{short_table, short_rules, short_answer, short_work, long_enough, fit_short, fit_invalid}
use Rattle.magic.proofs.SessionLaws.{begun_runs, begun_same, begun_shows, resumed_first}

-- ---- a call that is taken

module _ (tb rules answer work : List ℕ) (taken : MagicTaken tb rules answer work) where
  abbrev t : List ℕ
  t = take 4096 tb

  abbrev q : Problem
  q = problem_in t

  abbrev bs : List ℕ
  bs = magic_rules tb rules answer work

  -- what follows the rules in the part walked by, and in the whole buffer
  abbrev part : List ℕ
  part = drop (length (rules_layout q)) (take 16384 rules)

  abbrev rest : List ℕ
  rest = part ++ drop 16384 rules

  good : is_valid t ≡ true
  good = T-true (is_valid t) ((tables.valid t).1 taken.valid)

  fits : Fits q
  fits = (tables.lawful t taken.valid).fits

  long : magic_too_short tb rules answer work ≡ false
  long = long_enough tb rules answer work taken.table_long taken.rules_long taken.answer_long taken.work_long

  rules_are : bs ≡ rules_layout q ++ rest
  unfolding magic_rules
  rules_are = rw (long, good) (append_assoc (rules_layout q) part (drop 16384 rules))

  -- so the walk by them finds a node, and holds facts, as that by the rewriting of the ground problem
  pub find_is : find_in bs ≡ find_m instance_key (ground_lent tb).atoms (rewriting (ground_lent tb))
  unfolding magic
  find_is = ap find_in rules_are ∙ find_by_lem q fits rest

  pub holds_is : (l : List ℕ) (f : Magic Instance) → holds instance_key (false_in bs) (magic_in bs) l f ≡ holds instance_key (ground_lent tb).atoms (rewriting (ground_lent tb)) l f
  holds_is l f = ap (λ (xs : List ℕ). holds instance_key (false_in xs) (magic_in xs) l f) rules_are ∙ holds_by q fits rest l f

  -- the walk by the part of the buffer is that by the whole
  part_find : find_in (rules_over t (take 16384 rules)) ≡ find_in bs
  unfolding magic
  part_find = find_by_lem q fits part ∙ sym find_is

  outcome_is : magic_outcome t (take 16384 rules) ≡ outcome (find_in bs) (limit_lent tb)
  unfolding rules_outcome
  outcome_is = ap (λ (f : List ℕ → Found Instance). outcome f (limit_lent tb)) part_find

  -- its verdict and its answer are those of that walk
  pub verdict_is : magic_result tb rules answer work ≡ verdict_of (outcome (find_in bs) (limit_lent tb))
  unfolding magic_result
  verdict_is = rw (long, good) (ap verdict_of outcome_is)

  pub answer_is : magic_answer tb rules answer work ≡ answer_of (outcome (find_in bs) (limit_lent tb)) answer
  unfolding magic_answer
  answer_is = rw (long, good) (ap (λ (o : Outcome). answer_of o answer) outcome_is)

  demand_2 : Demand2 (find_in bs) (ground_lent tb) (limit_lent tb) tb (magic_result tb rules answer work) (magic_answer tb rules answer work)
  demand_2 =
      let sound : SoundFind (ground_lent tb) (find_in bs) = subst (λ (xs : List ℕ). SoundFind (ground_lent tb) (find_in xs)) (sym rules_are) (rules_sound q fits rest) in
      rw (verdict_is, answer_is)
      (judgings.demand_2 (find_in bs) (limit_lent tb) tb answer taken.table_long taken.answer_long taken.valid sound)

  -- with a session it tells the same, and leaves that walk's
  begun_told : magic_begun tb rules answer work ≡ told (outcome (find_in bs) (limit_lent tb)) (first_session (find_in bs) (limit_lent tb))
  begun_told = begun_runs tb rules answer work long good ∙ ap (λ (f : List ℕ → Found Instance). begun_by f (limit_lent tb)) part_find

  -- whatever it tells, it leaves these rules
  rules_left_when_told : (o : Outcome) (s : Session) → rules_left (told o s) tb rules ≡ bs
  unfolding magic_rules
  rules_left_when_told o s = rw (long, good)

-- ---- every other call

module _ (tb rules answer work : List ℕ) where
  abbrev Either : Type 0
  Either = MagicTaken tb rules answer work ⊎ (magic_result tb rules answer work ≡ Refused 11) ⊎ (magic_result tb rules answer work ≡ Refused 31)

  too_short : magic_too_short tb rules answer work ≡ true → Either
  too_short e = inr (inl (sym (fit_short tb rules answer work e).0))

  taken_or_refused : Either
  taken_or_refused = go (lt_or_le (length tb) 4096) (lt_or_le (length rules) 16384) (lt_or_le (length answer) 1024) (lt_or_le (length work) 65536)
    where
      by_table : 4096 ≤ length tb → 16384 ≤ length rules → 1024 ≤ length answer → 65536 ≤ length work → (v : Bool) → is_valid (take 4096 tb) ≡ v → Either
      by_table h k l m true e =
          inl (record { table_long = h; rules_long = k; answer_long = l; work_long = m; valid = (tables.valid (take 4096 tb)).0 (subst T (sym e) tt) })
      by_table h k l m false e = inr (inr (sym (fit_invalid tb rules answer work (long_enough tb rules answer work h k l m) e).0))

      go : (length tb < 4096) ⊎ (4096 ≤ length tb) → (length rules < 16384) ⊎ (16384 ≤ length rules)
          → (length answer < 1024) ⊎ (1024 ≤ length answer) → (length work < 65536) ⊎ (65536 ≤ length work) → Either
      go (inl h) b c d = too_short (short_table tb rules answer work h)
      go (inr h) (inl k) c d = too_short (short_rules tb rules answer work h k)
      go (inr h) (inr k) (inl l) d = too_short (short_answer tb rules answer work h k l)
      go (inr h) (inr k) (inr l) (inl m) = too_short (short_work tb rules answer work h k l m)
      go (inr h) (inr k) (inr l) (inr m) = by_table h k l m (is_valid (take 4096 tb)) refl

module _ (r : Record) (further : ℕ) (tb rules answer work : List ℕ) where
  first : (e : ℕ) → magic_result tb rules answer work ≡ Refused e → magic_resumed r further tb rules answer work ≡ declined e
  first e f = resumed_first tb rules answer work r further e f

  resumed_or_refused : MagicTaken tb rules answer work ⊎ (magic_resumed r further tb rules answer work ≡ declined 11) ⊎ (magic_resumed r further tb rules answer work ≡ declined 31)
  resumed_or_refused = go (taken_or_refused tb rules answer work)
    where
      go : Either tb rules answer work
          → MagicTaken tb rules answer work ⊎ (magic_resumed r further tb rules answer work ≡ declined 11) ⊎ (magic_resumed r further tb rules answer work ≡ declined 31)
      go (inl t) = inl t
      go (inr (inl f)) = inr (inl (first 11 f))
      go (inr (inr f)) = inr (inr (first 31 f))

refused_kept : (c : Called) (e : ℕ) → verdict_told c ≡ Refused e → (tb rules : List ℕ) → rules_left c tb rules ≡ rules
refused_kept c e refused tb rules = ap (λ (x : Called). rules_left x tb rules) (declined_by c e refused)

pub theorems : Theorems
theorems =
    record {
      demand_2 = demand_2;
      taken_or_refused = taken_or_refused;
      begun_same = begun_same;
      begun_shows = begun_shows;
      begun_told = begun_told;
      resumed_or_refused = resumed_or_refused;
      resumed_first = first;
      rules_left_when_told = rules_left_when_told;
      refused_kept = refused_kept;
    }
