-- What the end of a run says and leaves, of any engine.
use Rattle.std.specs.Prelude.{ℕ, ◌-◌, Bool, List, ◌++◌, map, ◌≡◌, length, drop}
use Rattle.lists.specs.Bytes.{bit}
use Rattle.search.specs.Machine.{Outcome, proceed, outcome, deepest_under}
use Rattle.search.specs.Session.{Session, session_after}
use Rattle.ground.specs.declared.verdict.Verdict.{Verdict}
use Rattle.ground.specs.declared.verdict.Verdict.TheVariants.{Satisfied as IsSatisfied, Refuted as IsRefuted, Exhausted as IsExhausted}
use Rattle.ground.specs.Verdict.{verdict_of, answer_of}
use Rattle.walk.specs.terms.Walker.{Walker, Run}
use Rattle.walk.specs.terms.Left.{session_left}
use Rattle.walk.specs.declared.answer.Walked.{Walked}
use Rattle.walk.specs.declared.answer.Walked.TheVariants.{Shut, Opened, Exhausted as LimitMet}
use Rattle.session.specs.declared.record.Session.{Session as Record}
use Rattle.session.specs.declared.record.Moved.{Moved}
use Rattle.session.specs.declared.record.Reply.{Reply}
use Rattle.session.specs.declared.end.Left.{Left}
use Rattle.session.specs.Record.{slots, laid}

-- how deep a run ends
abbrev pub depth_of : Walked → ℕ
depth_of (Shut c) = 0
depth_of (Opened c e) = e
depth_of (LimitMet e) = e

-- fits alone writes the answer
abbrev pub answer_by : Walked → List Bool → List ℕ → List ℕ
answer_by (Shut c) bits answer = answer
answer_by (Opened c e) bits answer = map bit bits ++ drop (length bits) answer
answer_by (LimitMet e) bits answer = answer

abbrev pub verdict_by : Walked → ℕ → Verdict
verdict_by (Shut c) limit = IsRefuted c
verdict_by (Opened c e) limit = IsSatisfied c
verdict_by (LimitMet e) limit = IsExhausted limit

abbrev pub session_by : Walked → ℕ → Left → Record
session_by (Shut c) limit x = record { count = c; length = 0; verdict = 0; next = x.next; atoms = x.atoms; nexts = x.nexts; deepest = x.deepest }
session_by (Opened c e) limit x = record { count = c; length = e; verdict = 1; next = x.next; atoms = x.atoms; nexts = x.nexts; deepest = x.deepest }
session_by (LimitMet e) limit x = record { count = limit; length = e; verdict = 2; next = x.next; atoms = x.atoms; nexts = x.nexts; deepest = x.deepest }

abbrev pub moved_by : Walked → ℕ → Left → Moved
moved_by walked limit x = record { verdict = verdict_by walked limit; session = session_by walked limit x }

-- the path of a session is written down
pub record PathLaid (s : Session) (x : Left) : Type 0 where
  pub next_is : x.next ≡ s.next
  pub atoms_are : x.atoms ≡ slots (λ t. t.atom) s.path
  pub nexts_are : x.nexts ≡ slots (λ t. t.next) s.path
  pub deepest_is : x.deepest ≡ s.deepest

module _ {I : Type 0} (w : Walker I) where
  -- of every run that ends so, with this path in its buffer
  abbrev pub LeftBy : Walked → List ℕ → Left → Type 0
  LeftBy walked path x = (r : Run I) → PathLaid (session_left w r walked path) x

  -- what is told and left by a run from the root on under a limit, whose session is not kept
  pub record Replied (limit : ℕ) (answer : List ℕ) (x : Reply) (left : List ℕ) : Type 0 where
    pub verdict_is : x.verdict ≡ verdict_of (outcome w.find limit)
    pub deepest_is : x.deepest ≡ deepest_under w.find limit
    pub answer_is : left ≡ answer_of (outcome w.find limit) answer

  module _ (r : Run I) where
    -- how the run comes out
    abbrev pub comes_out : Outcome
    comes_out = proceed w.find (r.limit - r.base) r.base r.start

    pub record Concluded (answer : List ℕ) (x : Moved) (left : List ℕ) : Type 0 where
      pub verdict_is : x.verdict ≡ verdict_of comes_out
      pub session_is : x.session ≡ laid (session_after w.find (r.limit - r.base) r.base r.brought r.start)
      pub answer_is : left ≡ answer_of comes_out answer
