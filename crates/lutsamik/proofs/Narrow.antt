-- What each operation answers has room in its bits, and a refusal's number is not 0.
use Prim.Native.Nat.{ℕ, zero, suc, ◌+◌, ◌^◌, ◌≤◌, ◌<◌}
use mathlib.Core.Bool.{Bool, true, false, cond, ◌&&◌, ◌||◌}
use mathlib.Core.List.{List, [], ◌∷◌}
use mathlib.Core.Option.{Option, none, some}
use mathlib.Core.Path.{◌≡◌, refl, sym, subst}
use native.Mathlib.Omega.{arith}
use lib.Dec.{T, ltb, ltb→lt}
use lib.ListN.{length, take, drop, get_or}
use borrow.Author.Tests.{ltb-false}
use Rattle.lists.specs.Key.{nat_key}
use Rattle.lists.specs.Member.{All, In, every, first}
use Rattle.lists.specs.Test.{T_left, T_right}
use Rattle.lists.proofs.Digits.{horner_below}
use Rattle.lists.proofs.Member.{all_map, every-All, has_all, first-some}
use Rattle.search.specs.Ground.{Found}
use Rattle.search.specs.Machine.{Place, advance, root, entries, proceed}
use Rattle.search.specs.Relevancy.{find_r}
use Rattle.search.specs.Staged.{find_s}
use Rattle.search.specs.Session.{Session, stands_in, first_session, session_after, Called, declined, told, called}
use Rattle.search.specs.SessionRight.{count_of, ShortPaths}
use Rattle.search.specs.Sound.{SoundFind}
use Rattle.search.proofs.Machine.{entries-zero, entries-none, entries-some}
use Rattle.search.proofs.Path.{Reached, place-Reached}
use Rattle.search.proofs.Deepest.{session_most}
use Rattle.search.proofs.Session.{in_stands, stands_reached}
use Rattle.search.proofs.SessionRight.{in_right}
use Rattle.search.proofs.SessionLeft.{run_made}
use Rattle.search.proofs.Theorems.{theorems as walks}
use Rattle.std.specs.Prelude.{Result, Ok, Err}
use Rattle.problem.specs.declared.fault.Fault.{Fault}
use Rattle.problem.specs.declared.fault.Fault.TheVariants.{ShortBuffer, NoTable, BadAnswer, NoInstance}
use Rattle.problem.specs.Problem.{Problem, Fits, atom_count, limit_of}
use Rattle.problem.specs.Parse.{Parsed, refused, parsed, parse}
use Rattle.problem.specs.Layout.{problem_in}
use Rattle.problem.specs.Print.{print}
use Rattle.problem.specs.Table.{is_valid}
use Rattle.problem.proofs.Refusals.{parse_refuses}
use Rattle.problem.proofs.Theorems.{valid_table}
use Rattle.problem.proofs.WellFormed.{text_short}
use Rattle.std.specs.Prelude.{Ok, Err}
use Rattle.problem.specs.declared.fault.Fault.TheVariants.{ShortBuffer}
use Rattle.problem.specs.Faults.{fault_number}
use Rattle.reading.specs.Read.{Reading, reading_of, read_result}
use Rattle.writing.specs.Write.{write_result}
use Rattle.ground.specs.Instance.{Instance, InstanceOf, ground_of, ground_in}
use Rattle.ground.proofs.Order.{instances_are}
use Rattle.ground.proofs.Instances.{ground_proper}
use Rattle.judging.specs.declared.judge.Judgement.{Judgement}
use Rattle.judging.specs.declared.judge.Judgement.TheVariants as judging
use Rattle.judging.specs.ModelCheck.{violates, named, check_of, judgeable, judge_result}
use Rattle.judging.specs.Holding.{holding_of, instance_named, is_named, holding_named, holding_result}
use Rattle.judging.proofs.HoldingLaws.{holding_few}
use Rattle.session.specs.declared.record.Session.{Session as Record}
use Rattle.session.specs.Record.{session_in}
use Rattle.session.specs.Calls.{called_in, begun_by, screened}
use Rattle.session.proofs.CallLaws.{called_held, called_none}
use Rattle.relevancy.specs.Engine.{too_short}
use Rattle.relevancy.specs.Sessions.{begun, resumed}
use Rattle.staged.specs.Engine.{staged_outcome}
use Rattle.rewriting.specs.Rules.{rewriting_of}
use Rattle.rewriting.specs.RulesLayout.{rules_layout}
use Rattle.rewriting.specs.Facts.{find_in}
use Rattle.rewriting.specs.Rewrite.{rules_over, rewrite_result}
use Rattle.rewriting.proofs.LayoutLaws.{rules_count}
use Rattle.rewriting.proofs.RegroupLaws.{rules_sound}
use Rattle.magic.specs.Engine.{magic_too_short}
use Rattle.magic.specs.Sessions.{magic_begun, magic_resumed}

-- a refusal's number, and a value
abbrev Number : ℕ → Type 0
Number e = (0 < e) × (e < 256)

abbrev Value : ℕ → Type 0
Value n = n < 4294967296

abbrev pub NarrowReading : Reading → Type 0
NarrowReading (Err r) = Number (fault_number r.fault) × Value r.line
NarrowReading (Ok u) = Unit

-- of a number or a refusal
abbrev pub NarrowValue : Result ℕ Fault → Type 0
NarrowValue (Err e) = Unit
NarrowValue (Ok n) = Value n

-- each of the values 80 to 83 in a byte of its own
abbrev pub NarrowJudgement : Judgement → Type 0
NarrowJudgement judging.Model = Unit
NarrowJudgement (judging.Violated k a b c d) = (k < 256) × All (λ x. x < 256) (d ∷ c ∷ b ∷ a ∷ [])

abbrev pub NarrowJudging : Result Judgement Fault → Type 0
NarrowJudging (Err e) = Unit
NarrowJudging (Ok j) = NarrowJudgement j

-- what an operation says: 11, then 31, then what it is for
said : {R : Type 0} (P : R → Type 0) (short valid : Bool) (x y z : R) → P x → (valid ≡ true → P y) → P z → P (cond short x (cond valid y z))
said P true valid x y z p q r = p
said P false true x y z p q r = q refl
said P false false x y z p q r = r

number_11 : Number 11
number_11 = (omega arith, omega arith)

number_31 : Number 31
number_31 = (omega arith, omega arith)

-- ---- a text

pub narrow_reading : (x tb : List ℕ) → NarrowReading (read_result x tb)
unfolding read_result
narrow_reading x tb = short (ltb (length tb) 4096)
  where
    told : (what : Parsed) → parse x ≡ what → NarrowReading (reading_of what)
    told (refused e line) s = let r = parse_refuses x e line s in ((omega arith, omega arith), omega arith)
    told (parsed q) s = tt

    short : (b : Bool) → NarrowReading (cond b (Err (record { fault = ShortBuffer; line = 0 })) (reading_of (parse x)))
    short true = (number_11, omega arith)
    short false = told (parse x) refl

pub narrow_writing : (tb out : List ℕ) → NarrowValue (write_result tb out)
unfolding write_result print
narrow_writing tb out =
    said NarrowValue (ltb (length tb) 4096 || ltb (length out) 7168) (is_valid (take 4096 tb)) (Err ShortBuffer) (Ok (length (print (take 4096 tb)))) (Err NoTable)
    tt (λ v. omega (arith, text_short (problem_in (take 4096 tb)) (valid_table (take 4096 tb) v).fits)) tt

-- ---- a violated instance

at_all : (P : ℕ → Type 0) (xs : List ℕ) (i : ℕ) → P 0 → All P xs → P (get_or xs i 0)
at_all P [] i z a = z
at_all P (x ∷ xs) zero z a = a.0
at_all P (x ∷ xs) (suc i) z a = at_all P xs i z a.1

narrow_check : (q : Problem) → Fits q → (answer : List ℕ) → NarrowJudgement (check_of q answer)
unfolding check_of
narrow_check q fits answer = go (first (violates q answer) (ground_of q).instances) refl
  where
    named_narrow : (i : Instance) → InstanceOf q i → NarrowJudgement (named (some i))
    named_narrow i o =
        let small : All (λ x. x < 256) i.values = all_map (λ x. x < q.constants) (λ x. x < 256) (λ x l. omega (arith, fits.constants_fit)) i.values o.constants in
        let each : (n : ℕ) → get_or i.values n 0 < 256 = λ n. at_all (λ x. x < 256) i.values n (omega arith) small in
        (omega (arith, o.known, fits.clauses_fit), (each 3, (each 2, (each 1, (each 0, tt)))))

    go : (o : Option Instance) → first (violates q answer) (ground_of q).instances ≡ o → NarrowJudgement (named o)
    go none e = tt
    go (some i) e =
        named_narrow i
        (first-some (violates q answer) (InstanceOf q) (ground_of q).instances
        (all_map (InstanceOf q) (λ j. T (violates q answer j) → InstanceOf q j) (λ j o t. o) (ground_of q).instances (instances_are q)) i e)

-- what a judge says: 11, 31, 32, or by the problem
judged : {R : Type 0} (P : R → Type 0) (tb answer : List ℕ) (f : Fault → R) (g : Problem → R) → ((e : Fault) → P (f e)) → ((q : Problem) → Fits q → P (g q)) → P (judgeable tb answer f g)
judged {R} P tb answer f g small fit =
    let q = problem_in (take 4096 tb) in
    let marked = every (λ b. ltb b 2) (take (atom_count q.constants q.arities) answer) in
    said P (ltb (length tb) 4096 || ltb (length answer) 1024) (is_valid (take 4096 tb)) (f ShortBuffer) (cond marked (g q) (f BadAnswer)) (f NoTable)
    (small ShortBuffer) (λ v. bits marked (fit q (valid_table (take 4096 tb) v).fits)) (small NoTable)
  where
    bits : (b : Bool) → P (g (problem_in (take 4096 tb))) → P (cond b (g (problem_in (take 4096 tb))) (f BadAnswer))
    bits true h = h
    bits false h = small BadAnswer

pub narrow_judging : (tb answer : List ℕ) → NarrowJudging (judge_result tb answer)
unfolding judge_result
narrow_judging tb answer = judged NarrowJudging tb answer Err (λ q. Ok (check_of q answer)) (λ e. tt) (λ q fits. narrow_check q fits answer)

-- ---- the conditions that hold

pub narrow_holding : (tb answer : List ℕ) (k a b c d : ℕ) → NarrowValue (holding_result tb answer k a b c d)
unfolding holding_result
narrow_holding tb answer k a b c d =
    judged NarrowValue tb answer Err (λ q. holding_named q answer k (a ∷ b ∷ c ∷ d ∷ [])) (λ e. tt)
    (λ q fits. go q (is_named q k (a ∷ b ∷ c ∷ d ∷ [])) (λ t. holding_few q fits k (a ∷ b ∷ c ∷ d ∷ []) answer t))
  where
    go : (q : Problem) (t : Bool) → (T t → holding_of q answer (instance_named q k (a ∷ b ∷ c ∷ d ∷ [])) ≤ 4)
        → NarrowValue (cond t (Ok (holding_of q answer (instance_named q k (a ∷ b ∷ c ∷ d ∷ [])))) (Err NoInstance))
    go q true h = omega (arith, h tt)
    go q false h = tt

-- ---- a run: its count, and its deepest figure

abbrev pub NarrowCall : Called → Type 0
NarrowCall (declined e) = Number e
NarrowCall (told o s) = Value (count_of o) × (s.deepest < 65536)

number_41 : Number 41
number_41 = (omega arith, omega arith)

number_42 : Number 42
number_42 = (omega arith, omega arith)

narrow_screened : (short valid : Bool) (c : Called) → (valid ≡ true → NarrowCall c) → NarrowCall (screened short valid c)
narrow_screened short valid c h = said NarrowCall short valid (declined 11) c (declined 31) number_11 h number_31

-- at most as many entries as allowed
entries_most : {I : Type 0} (find : List ℕ → Found I) (n : ℕ) (t : Place I) → length (entries find n t) ≤ n
entries_most find zero t = rw (entries-zero find t) (omega arith)
entries_most {I} find (suc n) t = go (advance find t) refl (entries_most find n)
  where
    go : (o : Option (Place I)) → advance find t ≡ o → ((u : Place I) → length (entries find n u) ≤ n) → length (entries find (suc n) t) ≤ suc n
    go none e h = rw (entries-none find (suc n) t e) (omega arith)
    go (some u) e h = rw (entries-some find n t u e) (omega (arith, h u))

-- by a sound way of finding a node, the paths are no longer than the atoms are many
module _ (q : Problem) (fits : Fits q) (find : List ℕ → Found Instance) (sound : SoundFind (ground_of q) find) where
  abbrev atoms : ℕ
  atoms = (ground_of q).atoms

  few_atoms : atoms ≤ 1024
  unfolding ground_of
  few_atoms = fits.atoms_fit

  narrow_run : (t : Place Instance) (count brought limit : ℕ) → Reached find t → brought ≤ atoms → count + limit ≤ 4294967295
      → NarrowCall (told (proceed find limit count t) (session_after find limit count brought t))
  narrow_run t count brought limit r h within =
      let short : ShortPaths find atoms = (walks.sound_walk (ground_of q) find sound).short_paths in
      (omega (arith, run_made find t count limit r, entries_most find limit t, within), omega (arith, session_most find atoms short limit count brought t r h, few_atoms))

  narrow_first : NarrowCall (begun_by find (limit_of q.limit))
  narrow_first =
      let within : limit_of q.limit < 256 ^ 4 = subst (λ (w : ℕ). limit_of q.limit < 256 ^ w) fits.limit_four (horner_below 256 q.limit fits.limit_bytes) in
      narrow_run (root find) 0 0 (limit_of q.limit) (place-Reached find [] tt) (omega arith) (omega (arith, within))

  -- 41 is tested first, so the session's count has room with all that a run may add
  narrow_session : (s : Session) (further : ℕ) → NarrowCall (called find atoms s further)
  unfolding called
  narrow_session s further = over (ltb 4294967295 (s.count + further)) refl
    where
      goes : Option (Place Instance) → Called
      goes o = elim o [ none ↦ declined 42 | some t ↦ told (proceed find further s.count t) (session_after find further s.count s.deepest t) ]

      on : s.count + further ≤ 4294967295 → (o : Option (Place Instance)) → stands_in find atoms s ≡ o → NarrowCall (goes o)
      on within none e = number_42
      on within (some t) e =
          narrow_run t s.count s.deepest further (stands_reached find s t (in_stands find atoms s t e).1) (in_right find atoms s t e).deep_within within

      over : (b : Bool) → ltb 4294967295 (s.count + further) ≡ b → NarrowCall (cond b (declined 41) (goes (stands_in find atoms s)))
      over true e = number_41
      over false e = on (ltb-false 4294967295 (s.count + further) e) (stands_in find atoms s) refl

  narrow_called : (r : Record) (further : ℕ) → NarrowCall (called_in find atoms r further)
  narrow_called r further = go (session_in r) refl
    where
      empty : (b : Bool) → NarrowCall (cond b (declined 41) (declined 42))
      empty true = number_41
      empty false = number_42

      go : (o : Option Session) → session_in r ≡ o → NarrowCall (called_in find atoms r further)
      go none e = subst NarrowCall (sym (called_none find atoms r further e)) (empty (ltb 4294967295 (r.count + further)))
      go (some s) e = subst NarrowCall (sym (called_held find atoms r further s e)) (narrow_session s further)

-- ---- by each engine, of the table's first bytes

module _ (tb answer work : List ℕ) where
  abbrev own : List ℕ
  own = take 4096 tb

  abbrev find_own : List ℕ → Found Instance
  find_own = find_r (ground_in own)

  Fits-own : is_valid own ≡ true → Fits (problem_in own)
  Fits-own v = (valid_table own v).fits

  relevancy_sound : is_valid own ≡ true → SoundFind (ground_in own) find_own
  relevancy_sound v = walks.relevancy_sound (ground_in own) (ground_proper (problem_in own) (Fits-own v))

  pub narrow_begun : NarrowCall (begun tb answer work)
  unfolding begun
  narrow_begun =
      narrow_screened (too_short tb answer work) (is_valid own) (begun_by find_own (limit_of (problem_in own).limit))
      (λ v. narrow_first (problem_in own) (Fits-own v) find_own (relevancy_sound v))

  pub narrow_resumed : (r : Record) (further : ℕ) → NarrowCall (resumed r further tb answer work)
  unfolding resumed
  narrow_resumed r further =
      narrow_screened (too_short tb answer work) (is_valid own) (called_in find_own (ground_in own).atoms r further)
      (λ v. narrow_called (problem_in own) (Fits-own v) find_own (relevancy_sound v) r further)

  -- the staged engine's run, with the session that it would leave
  pub narrow_staged : NarrowCall
      (screened (too_short tb answer work) (is_valid (take 4096 tb))
      (told (staged_outcome (take 4096 tb)) (first_session (find_s (ground_in (take 4096 tb))) (limit_of (problem_in (take 4096 tb)).limit))))
  unfolding staged_outcome
  narrow_staged =
      narrow_screened (too_short tb answer work) (is_valid own) (begun_by (find_s (ground_in own)) (limit_of (problem_in own).limit))
      (λ v.
      narrow_first (problem_in own) (Fits-own v) (find_s (ground_in own)) (walks.staged_sound (ground_in own) (ground_proper (problem_in own) (Fits-own v))))

  module _ (rules : List ℕ) where
    abbrev find_by : List ℕ → Found Instance
    find_by = find_in (rules_over own (take 16384 rules))

    magic_sound : is_valid own ≡ true → SoundFind (ground_in own) find_by
    magic_sound v = rules_sound (problem_in own) (Fits-own v) (drop (length (rules_layout (problem_in own))) (take 16384 rules))

    pub narrow_magic_begun : NarrowCall (magic_begun tb rules answer work)
    unfolding magic_begun
    narrow_magic_begun =
        narrow_screened (magic_too_short tb rules answer work) (is_valid own) (begun_by find_by (limit_of (problem_in own).limit))
        (λ v. narrow_first (problem_in own) (Fits-own v) find_by (magic_sound v))

    pub narrow_magic_resumed : (r : Record) (further : ℕ) → NarrowCall (magic_resumed r further tb rules answer work)
    unfolding magic_resumed
    narrow_magic_resumed r further =
        narrow_screened (magic_too_short tb rules answer work) (is_valid own) (called_in find_by (ground_in own).atoms r further)
        (λ v. narrow_called (problem_in own) (Fits-own v) find_by (magic_sound v) r further)

-- ---- the rules

pub narrow_rewriting : (tb rules : List ℕ) → NarrowValue (rewrite_result tb rules)
unfolding rewrite_result
narrow_rewriting tb rules =
    said NarrowValue (ltb (length tb) 4096 || ltb (length rules) 16384) (is_valid (take 4096 tb)) (Err ShortBuffer)
    (Ok (length (rewriting_of (problem_in (take 4096 tb))))) (Err NoTable)
    tt (λ v. omega (arith, rules_count (problem_in (take 4096 tb)) (valid_table (take 4096 tb) v).fits)) tt
