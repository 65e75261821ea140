-- U1 at the operations: a ticket begun by either engine and brought back to either, any number of times; and a session of any origin. The contracts of the four calls
-- equate what they give and leave with `begun`, `resumed`, `magic_begun` and `magic_resumed`, by `session/Calls`.
use Rattle.std.specs.Prelude.{ℕ, ◌+◌, ◌≤◌, ◌<◌, Bool, true, false, List, [], ◌∷◌, ◌↔◌, ◌⊎◌, ◌≡◌, length, take, Ok}
use Rattle.std.proofs.Math.Option.{some}
use Rattle.lists.specs.Member.{All}
use Rattle.search.specs.Relevancy.{find_r}
use Rattle.search.specs.Deepest.{Exact, Bounds}
use Rattle.search.specs.Machine.{Place, Outcome, Satisfied, Exhausted, root, entries, trail, outcome, proceed}
use Rattle.search.specs.Session.{exhausted, Session, place_of, first_session, Called, declined, told}
use Rattle.search.specs.SessionRight.{Right, RunLeft, StandsThere}
use Rattle.ground.specs.Instance.{Instance}
use Rattle.ground.specs.Verdict.{verdict_of, answer_of}
use Rattle.judging.specs.declared.judge.Judgement.TheVariants.{Model as IsModel}
use Rattle.judging.specs.ModelCheck.{judge_result}
use Rattle.judging.specs.Demand2.{ground_lent, limit_lent, Demand2}
use Rattle.rewriting.specs.Facts.{find_in}
use Rattle.rewriting.specs.Rewrite.{rules_over}
use Rattle.session.specs.declared.record.Session.{Session as Record}
use Rattle.session.specs.Record.{session_in, laid}
use Rattle.session.specs.Calls.{deepest_told, record_left}
use Rattle.relevancy.specs.Claims.{Taken}
use Rattle.relevancy.specs.Sessions.{begun, resumed}
use Rattle.magic.specs.Engine.{magic_rules}
use Rattle.magic.specs.Sessions.{magic_begun, magic_resumed}
use Rattle.agreement.specs.Claims.{BothTaken, SameFacts}

-- ---- lists of calls

-- a call, beside the record of its session: the engine, the further limit, which a first run is not lent, and the buffers; the magic engine alone is lent the rules
pub record Lent : Type 0 where
  pub magic : Bool
  pub further : ℕ
  pub table : List ℕ
  pub rules : List ℕ
  pub answer : List ℕ
  pub work : List ℕ

abbrev pub by_engine : Bool → Called → Called → Called
by_engine true m r = m
by_engine false m r = r

-- what a first run says, and what going on says
abbrev pub begins : Lent → Called
begins c = by_engine c.magic (magic_begun c.table c.rules c.answer c.work) (begun c.table c.answer c.work)

abbrev pub going_on : Record → Lent → Called
going_on r c = by_engine c.magic (magic_resumed r c.further c.table c.rules c.answer c.work) (resumed r c.further c.table c.answer c.work)

-- where a list of calls has come to: the last answer that is no refusal, with its deepest figure, the record left, and the sum of L and the limits not refused
pub record Carried : Type 0 where
  pub answered : Outcome
  pub shown : ℕ
  pub kept : Record
  pub sum : ℕ

abbrev pub carried_by : Carried → ℕ → Called → Carried
carried_by k further (declined e) = record { answered = k.answered; shown = k.shown; kept = record_left (declined e) k.kept; sum = k.sum }
carried_by k further (told o s) = record { answered = o; shown = deepest_told (told o s); kept = record_left (told o s) k.kept; sum = k.sum + further }

-- after a first run on a table, with the record that was lent to it
abbrev pub carried_first : List ℕ → Outcome → Session → Record → Carried
carried_first tb o s r = record { answered = o; shown = deepest_told (told o s); kept = record_left (told o s) r; sum = limit_lent tb }

-- and then these calls, the first one first
abbrev pub carried_after : List Lent → Carried → Carried
carried_after [] k = k
carried_after (c ∷ cs) k = carried_after cs (carried_by k c.further (going_on k.kept c))

-- a call is on the ticket of a table, whatever its limit: the ground problem has all of a ticket but that
abbrev pub SameProblem : List ℕ → Lent → Type 0
SameProblem tb c = ground_lent c.table ≡ ground_lent tb

-- a session is moved by these calls "always on that run's ticket": a call on any other is refused, and moves nothing
abbrev pub OnProblem : List ℕ → Carried → List Lent → Type 0
OnProblem tb k [] = Unit
OnProblem tb k (c ∷ cs) = (SameProblem tb c ⊎ ((e : ℕ) × (going_on k.kept c ≡ declined e))) × OnProblem tb (carried_by k c.further (going_on k.kept c)) cs

-- "The last answer that is no refusal has the verdict, count and fitting of the whole walk under the sum of L and the limits not refused, in either engine."
pub record BroughtBack (tb : List ℕ) (k : Carried) : Type 1 where
  pub answer_is : k.answered ≡ outcome (find_r (ground_lent tb)) k.sum
  -- by the rewritten rules, over whatever the rules buffer held
  pub by_magic : (rules : List ℕ) → k.answered ≡ outcome (find_in (rules_over (take 4096 tb) rules)) k.sum
  pub kept_is : k.kept ≡ laid (first_session (find_r (ground_lent tb)) k.sum)
  -- so it is right by the logic, and the count is that of the whole walk
  pub demand_2 : (answer : List ℕ) → 1024 ≤ length answer
      → Demand2 (find_r (ground_lent tb)) (ground_lent tb) k.sum tb (verdict_of k.answered) (answer_of k.answered answer)
  pub magic_demand_2 : (rules answer : List ℕ) → 1024 ≤ length answer
      → Demand2 (find_in (rules_over (take 4096 tb) rules)) (ground_lent tb) k.sum tb (verdict_of k.answered) (answer_of k.answered answer)
  -- it is never taken for a session of other origin that stands nowhere
  pub always_stands : (c : Lent) → SameProblem tb c → going_on k.kept c ≡ declined 42 → ⊥
  -- "A finished session answers again as before."
  pub finished_again : ((n : ℕ) → k.answered ≡ Exhausted n → ⊥) → (c : Lent) → SameProblem tb c → (o : Outcome) (s : Session) → going_on k.kept c ≡ told o s
      → (o ≡ k.answered) × (record_left (told o s) k.kept ≡ k.kept)
  -- U2 and U10: the deepest figure of that answer is the one in the record, by all entries made, whichever calls made them
  pub shown_is : k.shown ≡ k.kept.deepest
  pub deepest_bounds : Bounds (ground_lent tb).atoms 0 (trail (find_r (ground_lent tb)) k.sum) k.shown
  pub deepest_exact : Exact 0 (entries (find_r (ground_lent tb)) k.sum (root (find_r (ground_lent tb)))) k.shown
  pub magic_deepest_exact : (rules : List ℕ)
      → Exact 0 (entries (find_in (rules_over (take 4096 tb) rules)) k.sum (root (find_in (rules_over (take 4096 tb) rules)))) k.shown

-- ---- a session of any origin

-- a call that is not refused: the session stands at a place, at its path, from which on both engines walk one trail, at every place of which the facts agree
pub record FromThere (tb bs answer : List ℕ) (r : Record) (further : ℕ) (o : Outcome) (left : Session) : Type 1 where
  pub session : Session
  pub held : session_in r ≡ some session
  pub place : Place Instance
  pub there : StandsThere (find_r (ground_lent tb)) session place
  pub runs : o ≡ proceed (find_r (ground_lent tb)) further session.count place
  pub magic_stands : place_of (find_in bs) session ≡ some place
  pub magic_runs : o ≡ proceed (find_in bs) further session.count place
  pub leaves : RunLeft (find_r (ground_lent tb)) (ground_lent tb).atoms place session.count session.deepest further o left
  pub trails : entries (find_in bs) further place ≡ entries (find_r (ground_lent tb)) further place
  pub facts : All (λ u. (x : ℕ) → SameFacts tb bs u x) (place ∷ entries (find_r (ground_lent tb)) further place)
  -- fits comes with a fitting
  pub judged : (n : ℕ) (bits : List Bool) → o ≡ Satisfied n bits → judge_result tb (answer_of o answer) ≡ Ok IsModel
  -- the record that is left holds the session left
  pub left_held : session_in (record_left (told o left) r) ≡ some left
  -- "A finished session answers again as before."
  pub again : (session.standing ≡ exhausted → ⊥) → left ≡ session

-- whatever the record holds; bs are the rules that the magic engine walks by
pub record AnyRecord (tb rules answer work₁ work₂ bs : List ℕ) (r : Record) (further : ℕ) : Type 1 where
  -- both engines say the same, and so leave the same
  pub calls : magic_resumed r further tb rules answer work₂ ≡ resumed r further tb answer work₁
  -- 41 looks at count and further limit alone; then 42 unless a session is held, one of the walk
  pub refused_41 : 4294967295 < r.count + further → resumed r further tb answer work₁ ≡ declined 41
  pub refused_42 : r.count + further ≤ 4294967295
      → (resumed r further tb answer work₁ ≡ declined 42) ↔ ((s : Session) → session_in r ≡ some s → Right (find_r (ground_lent tb)) (ground_lent tb).atoms s → ⊥)
  -- and no other refusal
  pub told_from : r.count + further ≤ 4294967295 → (s : Session) → session_in r ≡ some s → Right (find_r (ground_lent tb)) (ground_lent tb).atoms s
      → (o : Outcome) × ((left : Session) × ((resumed r further tb answer work₁ ≡ told o left) × FromThere tb bs answer r further o left))

pub record Theorems : Type 1 where
  -- over every list of calls, each by either engine, with its own further limit and its own buffers
  pub brought_back : (first : Lent) (o : Outcome) (s : Session) → begins first ≡ told o s → (r : Record) (calls : List Lent)
      → OnProblem first.table (carried_first first.table o s r) calls → BroughtBack first.table (carried_after calls (carried_first first.table o s r))
  pub any_record : (tb rules answer work₁ work₂ : List ℕ) → BothTaken tb rules answer work₁ work₂ → (r : Record) (further : ℕ)
      → AnyRecord tb rules answer work₁ work₂ (magic_rules tb rules answer work₂) r further
  -- every session of the walk has room in the record
  pub right_held : (tb answer work : List ℕ) → Taken tb answer work → (s : Session) → Right (find_r (ground_lent tb)) (ground_lent tb).atoms s → session_in (laid s) ≡ some s
