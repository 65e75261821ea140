-- Going on with a session: what is asked of it, and what the functions say that go on with it.
use Rattle.std.specs.Prelude.{ℕ, ◌-◌, Bool, false, ◌&&◌, List, ◌≡◌, eqb, ltb, leb, length, get_or, Option as Answered, Some, None}
use Rattle.std.proofs.Math.Option.{Option, none, some}
use Rattle.search.specs.Ground.{Found}
use Rattle.search.specs.Machine.{Branch, Place, entered}
use Rattle.search.specs.Session.{Standing, refuted, satisfied, exhausted, node_taken, where_stands}
use Rattle.walk.specs.Numbers.{standing_by}
use Rattle.walk.specs.terms.Walker.{Walker}
use Rattle.walk.specs.terms.Path.{deepest_at, path_in}
use Rattle.walk.specs.terms.Walk.{Leaves, Ended, Walks}
use Rattle.walk.specs.declared.answer.Walked.{Walked}

-- ---- what is asked of it

-- an atom is the alternative just before the next one
abbrev pub is_taken : List ℕ → ℕ → ℕ → Bool
is_taken ds next a = ltb 0 next && leb next (length ds) && eqb (get_or ds (next - 1) 0) a

-- a session may stand at a node of this depth that is closed, open, split
abbrev pub closed_stands : Standing → ℕ → ℕ → Bool
closed_stands refuted depth next = eqb next 0 && eqb depth 0
closed_stands satisfied depth next = false
closed_stands exhausted depth next = eqb next 0

abbrev pub open_stands : Standing → ℕ → Bool
open_stands refuted next = false
open_stands satisfied next = eqb next 0
open_stands exhausted next = eqb next 0

abbrev pub split_stands : Standing → ℕ → List ℕ → ℕ → Bool
split_stands refuted depth ds next = leb next (length ds) && (eqb depth 0 && leb (length ds) next)
split_stands satisfied depth ds next = false
split_stands exhausted depth ds next = leb next (length ds)

-- the place at the last node of a path, found so; none where no session stands so
abbrev pub last_from : {I : Type 0} → List (Branch I) → Standing → Option (Found I) → Option (Place I)
last_from bs standing none = none
last_from bs standing (some f) = where_stands standing (record { path = bs; found = f })

abbrev pub last_of : {I : Type 0} → List (Branch I) → Found I → Standing → ℕ → Option (Place I)
last_of bs f standing next = last_from bs standing (node_taken f next)

-- ---- what going on answers, where it is to go on from a place, if it is one: none where the session is none of the walk

module _ {I : Type 0} (w : Walker I) where
  -- at the node at this depth as the last one
  abbrev pub last_in : List ℕ → ℕ → ℕ → ℕ → Option (Place I)
  last_in path depth standing next = last_of (path_in w path depth) (w.find (entered (path_in w path depth))) (standing_by standing) next

  -- it has gone on from the node at this depth on, whose place was the run's start or comes before it
  pub record GoneOn (o : Option (Place I)) (facts path : List ℕ) (depth done count limit : ℕ) (x : Walked) (left_facts left : List ℕ) : Type 0 where
    pub start : Place I
    pub stands : o ≡ some start
    pub leaves : Leaves w facts path depth done count limit x left_facts left
    pub ended : Ended w (record { start = start; base = count; brought = deepest_at path; limit = limit }) path depth x left_facts left

  abbrev pub Resumes : Option (Place I) → List ℕ → List ℕ → ℕ → ℕ → ℕ → ℕ → Answered Walked → List ℕ → List ℕ → Type 0
  Resumes o facts path depth done count limit None left_facts left = o ≡ none
  Resumes o facts path depth done count limit (Some x) left_facts left = GoneOn o facts path depth done count limit x left_facts left

  -- ---- a whole run on from where a session stands, if it is one of the walk

  pub record WalksOn (o : Option (Place I)) (count brought limit : ℕ) (x : Walked) (facts path : List ℕ) : Type 0 where
    pub start : Place I
    pub stands : o ≡ some start
    pub walks : Walks w (record { start = start; base = count; brought = brought; limit = limit }) x facts path

  abbrev pub GoesOn : Option (Place I) → ℕ → ℕ → ℕ → Answered Walked → List ℕ → List ℕ → Type 0
  GoesOn o count brought limit None facts path = o ≡ none
  GoesOn o count brought limit (Some x) facts path = WalksOn o count brought limit x facts path
