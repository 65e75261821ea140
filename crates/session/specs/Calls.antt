-- What a call with a session says, and what it leaves in all that is lent to it. It is the same for both engines, over the way each finds a node.
use Rattle.std.specs.Prelude.{ℕ, ◌+◌, Bool, cond, List, ◌++◌, ltb, drop, replicate}
use Rattle.std.proofs.Math.Option.{none, some}
use Rattle.search.specs.Ground.{Found}
use Rattle.search.specs.Session.{Called, declined, told, called}
use Rattle.search.specs.Machine.{outcome}
use Rattle.search.specs.Session.{first_session}
use Rattle.ground.specs.declared.verdict.Verdict.{Verdict}
use Rattle.ground.specs.declared.verdict.Verdict.TheVariants.{Refused}
use Rattle.ground.specs.Verdict.{verdict_of, answer_of}
use Rattle.session.specs.declared.record.Session.{Session as Record}
use Rattle.session.specs.Record.{session_in, laid}

-- "Refused: 41 if count and further limit together pass FFFFFFFF (hexadecimal); then 42", also for a record that holds no session
abbrev pub no_session : Record → ℕ → Called
no_session r further = cond (ltb 4294967295 (r.count + further)) (declined 41) (declined 42)

-- going on with the session in a record, over so many atoms
unfoldable pub called_in : {I : Type 0} → (List ℕ → Found I) → ℕ → Record → ℕ → Called
called_in find atoms r further = elim (session_in r) [ none ↦ no_session r further | some s ↦ called find atoms s further ]

-- a first run under a limit
abbrev pub begun_by : {I : Type 0} → (List ℕ → Found I) → ℕ → Called
begun_by find limit = told (outcome find limit) (first_session find limit)

-- "Both after 31", which is after 11
abbrev pub screened : Bool → Bool → Called → Called
screened short valid c = cond short (declined 11) (cond valid c (declined 31))

-- ---- what it gives back, and what it leaves: after a refusal, all is as it was

abbrev pub verdict_told : Called → Verdict
verdict_told (declined e) = Refused e
verdict_told (told o s) = verdict_of o

-- the deepest figure in an answer; a refusal has none
abbrev pub deepest_told : Called → ℕ
deepest_told (declined e) = 0
deepest_told (told o s) = s.deepest

abbrev pub record_left : Called → Record → Record
record_left (declined e) r = r
record_left (told o s) r = laid s

abbrev pub answer_left : Called → List ℕ → List ℕ
answer_left (declined e) answer = answer
answer_left (told o s) answer = answer_of o answer

-- "Work bytes are zero afterwards, up to 65,536."
abbrev pub work_left : Called → List ℕ → List ℕ
work_left (declined e) work = work
work_left (told o s) work = replicate 65536 0 ++ drop 65536 work
