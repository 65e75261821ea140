-- What is claimed of sessions. `Claims` has it as fields of `Theorems`.
use Rattle.std.specs.Prelude.{ℕ, ◌+◌, Bool, true, false, List, [], ◌∷◌, ◌≡◌, length}
use Rattle.std.proofs.Math.Option.{some}
use Rattle.lists.specs.Key.{Key}
use Rattle.lists.specs.Member.{All}
use Rattle.search.specs.Ground.{Ground, Model, Marked, Found}
use Rattle.search.specs.Relevancy.{find_r}
use Rattle.search.specs.Magic.{rewriting, find_m}
use Rattle.search.specs.Deepest.{Exact, Bounds}
use Rattle.search.specs.Machine.{Place, Outcome, Satisfied, Exhausted, root, entries, trail, proceed, outcome}
use Rattle.search.specs.Session.{Session, place_of, session_after, first_session, Called, declined, told, called}
use Rattle.search.specs.Trails.{SameFacts}

-- an engine: true for the magic one
abbrev pub find_by : {I : Type 0} → Key I → Ground I → Bool → List ℕ → Found I
find_by k p true = find_m k p.atoms (rewriting p)
find_by k p false = find_r p

-- a call: its engine, and its further limit
pub record Call : Type 0 where
  pub magic : Bool
  pub further : ℕ

-- where a list of calls has come to: the last answer that is no refusal, the session left, and the sum of the limits not refused
pub record Kept : Type 0 where
  pub answered : Outcome
  pub session : Session
  pub sum : ℕ

-- a refusal changes nothing
abbrev pub kept_after : Kept → ℕ → Called → Kept
kept_after k further (declined e) = k
kept_after k further (told o s) = record { answered = o; session = s; sum = k.sum + further }

module _ {I : Type 0} (k : Key I) (p : Ground I) where
  -- a first run by an engine, under L
  abbrev pub first_kept : Bool → ℕ → Kept
  first_kept magic limit = record { answered = outcome (find_by k p magic) limit; session = first_session (find_by k p magic) limit; sum = limit }

  -- a run from a place on, which counts as entry `count` and brings a deepest figure, under a limit
  abbrev pub run_kept : Place I → ℕ → ℕ → ℕ → Kept
  run_kept t count d limit = record { answered = proceed (find_r p) limit count t; session = session_after (find_r p) limit count d t; sum = limit }

  -- and then these calls, the first one first
  abbrev pub after_calls : List Call → Kept → Kept
  after_calls [] was = was
  after_calls (c ∷ cs) was = after_calls cs (kept_after was c.further (called (find_by k p c.magic) p.atoms was.session c.further))

  -- For every list of calls, each by either engine and with its own further limit: the last answer that is no refusal is that of the whole walk under the sum of L and
  -- the limits not refused, and so is the session; and no call is refused by 42
  pub record OneWalkKept (magic : Bool) (limit : ℕ) (calls : List Call) : Type 0 where
    pub answer_is : (after_calls calls (first_kept magic limit)).answered ≡ outcome (find_r p) (after_calls calls (first_kept magic limit)).sum
    pub session_is : (after_calls calls (first_kept magic limit)).session ≡ first_session (find_r p) (after_calls calls (first_kept magic limit)).sum
    pub always_stands : (by : Bool) (further : ℕ) → called (find_by k p by) p.atoms (after_calls calls (first_kept magic limit)).session further ≡ declined 42 → ⊥
    -- a finished session answers again as before, and is left as it was
    pub finished_again : ((n : ℕ) → (after_calls calls (first_kept magic limit)).answered ≡ Exhausted n → ⊥) → (by : Bool) (further : ℕ) (o : Outcome) (s : Session)
        → called (find_by k p by) p.atoms (after_calls calls (first_kept magic limit)).session further ≡ told o s
        → (o ≡ (after_calls calls (first_kept magic limit)).answered) × (s ≡ (after_calls calls (first_kept magic limit)).session)
    -- U2 and U10, over all calls: by the entries that either engine makes under that sum
    pub deepest_bounds : (by : Bool) → Bounds p.atoms 0 (trail (find_by k p by) (after_calls calls (first_kept magic limit)).sum) (after_calls calls (first_kept magic limit)).session.deepest
    pub deepest_exact : (by : Bool)
        → Exact 0 (entries (find_by k p by) (after_calls calls (first_kept magic limit)).sum (root (find_by k p by))) (after_calls calls (first_kept magic limit)).session.deepest

  -- a session that stands at t, a first call with a further limit, and then these calls
  abbrev pub origin_after : Session → Place I → ℕ → List Call → Kept
  origin_after s t further calls = after_calls calls (run_kept t s.count s.deepest further)

  -- A session of other origin that stands at t, with a first call that is not refused: for every list of calls after it, as for `OneWalkKept`, the last answer that is no
  -- refusal is that of one walk from t on, from the count and the figure brought, under the sum of the limits not refused, and so is the session; and no call is refused by 42
  pub record OriginKept (s : Session) (t : Place I) (further : ℕ) (calls : List Call) : Type 0 where
    pub first_is : (by : Bool)
        → called (find_by k p by) p.atoms s further ≡ told (run_kept t s.count s.deepest further).answered (run_kept t s.count s.deepest further).session
    pub answer_is : (origin_after s t further calls).answered ≡ proceed (find_r p) (origin_after s t further calls).sum s.count t
    pub session_is : (origin_after s t further calls).session ≡ session_after (find_r p) (origin_after s t further calls).sum s.count s.deepest t
    pub always_stands : (by : Bool) (more : ℕ) → called (find_by k p by) p.atoms (origin_after s t further calls).session more ≡ declined 42 → ⊥
    -- U2 and U10, over all calls, the figure brought counting: by the entries that either engine makes from t on under that sum
    pub deepest_bounds : (by : Bool)
        → Bounds p.atoms s.deepest (t ∷ entries (find_by k p by) (origin_after s t further calls).sum t) (origin_after s t further calls).session.deepest
    pub deepest_exact : (by : Bool)
        → Exact s.deepest (entries (find_by k p by) (origin_after s t further calls).sum t) (origin_after s t further calls).session.deepest

  -- Whatever a session holds: both engines take it to stand at the same place; from there on their trails are one, at every place of which the facts agree; what they say
  -- and leave is the same; and fits comes with a model
  pub record AnyOrigin (s : Session) (further : ℕ) : Type 0 where
    pub calls : called (find_by k p true) p.atoms s further ≡ called (find_by k p false) p.atoms s further
    pub places : place_of (find_by k p true) s ≡ place_of (find_by k p false) s
    pub trails : (t : Place I) → place_of (find_by k p false) s ≡ some t → entries (find_by k p true) further t ≡ entries (find_by k p false) further t
    pub facts : (t : Place I) → place_of (find_by k p false) s ≡ some t → All (λ u. (x : ℕ) → SameFacts k p u x) (t ∷ entries (find_by k p false) further t)
    pub models : (n : ℕ) (bits : List Bool) (left : Session) → called (find_by k p false) p.atoms s further ≡ told (Satisfied n bits) left
        → (length bits ≡ p.atoms) × Model p (Marked bits)
