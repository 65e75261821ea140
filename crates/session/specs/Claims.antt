-- What is claimed of a session's record: when it holds a session, and what stands where in that of one; and of a call that is refused. `proofs/Theorems.antt` proves `Theorems`.
use Rattle.std.specs.Prelude.{ℕ, ◌≤◌, ◌<◌, List, ◌∷◌, ◌++◌, ◌↔◌, ◌≡◌, length, get_or}
use Rattle.std.proofs.Math.Option.{some}
use Rattle.search.specs.Session.{Step, Session, Called}
use Rattle.ground.specs.declared.verdict.Verdict.TheVariants.{Refused}
use Rattle.session.specs.declared.record.Session.{Session as Record}
use Rattle.session.specs.Record.{session_in, laid}
use Rattle.session.specs.Calls.{verdict_told, record_left, answer_left, work_left}

-- two records agree in all but the slots past the path
pub record SameSeen (r q : Record) : Type 0 where
  pub count : r.count ≡ q.count
  pub length : r.length ≡ q.length
  pub verdict : r.verdict ≡ q.verdict
  pub next : r.next ≡ q.next
  pub atoms : (j : ℕ) → j < r.length → get_or r.atoms j 0 ≡ get_or q.atoms j 0
  pub nexts : (j : ℕ) → j < r.length → get_or r.nexts j 0 ≡ get_or q.nexts j 0
  pub deepest : r.deepest ≡ q.deepest

pub record Theorems : Type 0 where
  -- a verdict or a length that no session has holds none, and no other record is refused so
  pub held_when : (r : Record) → ((s : Session) × (session_in r ≡ some s)) ↔ ((r.verdict ≤ 2) × (r.length ≤ 1024))
  -- slots past the path are not looked at
  pub past_unseen : (r q : Record) → SameSeen r q → session_in r ≡ session_in q
  -- a session whose path has room is held by its record
  pub laid_held : (s : Session) → length s.path ≤ 1024 → session_in (laid s) ≡ some s
  -- slots past the path are left zero
  pub zeros_past : (s : Session) (j : ℕ) → length s.path ≤ j → (get_or (laid s).atoms j 0 ≡ 0) × (get_or (laid s).nexts j 0 ≡ 0)
  -- an entry stands in the slot numbered by the entries before it
  pub slots_in_order : (s : Session) → length s.path ≤ 1024 → (later : List Step) (t : Step) (earlier : List Step) → s.path ≡ later ++ (t ∷ earlier)
      → (get_or (laid s).atoms (length earlier) 0 ≡ t.atom) × (get_or (laid s).nexts (length earlier) 0 ≡ t.next)
  -- whatever a call says, where its verdict is a refusal it leaves all as it was
  pub refused_kept : (c : Called) (e : ℕ) → verdict_told c ≡ Refused e → (r : Record) (answer work : List ℕ)
      → (record_left c r ≡ r) × (answer_left c answer ≡ answer) × (work_left c work ≡ work)
