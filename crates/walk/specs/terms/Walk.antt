-- What visiting a node and trying its alternatives say, and the whole walk.
use Rattle.std.specs.Prelude.{ℕ, zero, suc, ◌+◌, ◌-◌, ◌*◌, ◌≤◌, ◌<◌, cond, List, ◌≡◌, length}
use Rattle.std.proofs.Math.Option.{none}
use Rattle.lists.specs.Key.{nat_key}
use Rattle.lists.specs.Member.{has}
use Rattle.search.specs.Machine.{Satisfied, Refuted, Exhausted, back, entries, proceed}
use Rattle.store.specs.terms.Store.{Undone, logged}
use Rattle.walk.specs.terms.Trail.{NextEntry}
use Rattle.walk.specs.terms.Walker.{Walker, Run}
use Rattle.walk.specs.terms.Path.{next_at, mark_at, deepest_at, PathKept, alts_at, path_in}
use Rattle.walk.specs.terms.Place.{bits_in, Visiting, Trying, Parted, Reached}
use Rattle.walk.specs.declared.answer.Found.{Found as Told}
use Rattle.walk.specs.declared.answer.Found.TheVariants.{Closed, Open, Split}
use Rattle.walk.specs.declared.answer.Walked.{Walked}
use Rattle.walk.specs.declared.answer.Walked.TheVariants.{Shut, Opened, Exhausted as LimitMet}

-- ---- what falls: untrue atoms and alternatives left

-- how many of the atoms below n are not among the facts
unfoldable pub untrue : List ℕ → ℕ → ℕ
untrue facts zero = 0
untrue facts (suc n) = cond (has nat_key facts n) (untrue facts n) (suc (untrue facts n))

module _ {I : Type 0} (w : Walker I) where
  -- with 6 for each untrue atom, trying at a node lies below visiting it and above visiting its children
  abbrev pub tries_left : List ℕ → List ℕ → ℕ → ℕ
  tries_left facts path depth = untrue (logged facts w.capacity (mark_at path depth)) w.atoms * 6 + (length (alts_at w path depth) - next_at path depth)

  abbrev pub visits_left : List ℕ → List ℕ → ℕ → Told → ℕ
  visits_left facts path depth (Closed n) = 0
  visits_left facts path depth (Open n) = 0
  visits_left facts path depth (Split n) = untrue (logged facts w.capacity (mark_at path depth)) w.atoms * 6 + 5

  -- ---- how a part of the walk ends that began after `count` entries under a limit: what stands in the buffers

  -- all is closed after c entries, and the set is back to its first `done` facts
  pub record AllShut (facts path : List ℕ) (depth done count limit c : ℕ) (left_facts left : List ℕ) : Type 0 where
    pub grows : count ≤ c
    pub within : c ≤ limit
    pub undone : Undone w.capacity facts done left_facts
    pub before : PathKept path depth left

  -- after c entries a place is open: the one that stands in the buffers at a depth
  pub record OneOpen (limit c depth : ℕ) (left_facts left : List ℕ) : Type 0 where
    pub facts_count : ℕ
    pub done : ℕ
    pub within : c ≤ limit
    pub reached : Reached w left_facts left depth done (Open facts_count)

  -- the limit is met and one more is due: the next alternative of the node that stands in the buffers at a depth
  pub record OneDue (depth : ℕ) (left_facts left : List ℕ) : Type 0 where
    pub left_over : next_at left depth < length (alts_at w left depth)
    pub node : Parted w left_facts left depth

  abbrev pub Leaves : List ℕ → List ℕ → ℕ → ℕ → ℕ → ℕ → Walked → List ℕ → List ℕ → Type 0
  Leaves facts path depth done count limit (Shut c) left_facts left = AllShut facts path depth done count limit c left_facts left
  Leaves facts path depth done count limit (Opened c e) left_facts left = OneOpen limit c e left_facts left
  Leaves facts path depth done count limit (LimitMet e) left_facts left = OneDue e left_facts left

  -- ---- and where a run stands then: it is to go on behind the path; its entry c is the open place; all entries that its limit allows are made, and that alternative is due

  abbrev pub Ended : Run I → List ℕ → ℕ → Walked → List ℕ → List ℕ → Type 0
  Ended r path depth (Shut c) left_facts left = NextEntry w.find r.start r.brought r.base c (back (path_in w path depth)) (deepest_at left)
  Ended r path depth (Opened c e) left_facts left = Visiting w r left_facts left e (Open 0) c
  Ended r path depth (LimitMet e) left_facts left = Trying w r left e r.limit

  -- ---- a whole run, from its start on

  module _ (r : Run I) where
    -- the entries made are all that the limit allows: c of them, those before the start counted
    abbrev pub AllMade : ℕ → Type 0
    AllMade c = entries w.find (r.limit - r.base) r.start ≡ entries w.find (c - r.base) r.start

    -- how it ends, and the last place made, which stands in the buffers where it is open or another is due
    abbrev pub Walks : Walked → List ℕ → List ℕ → Type 0
    Walks (Shut c) facts path = AllMade c × NextEntry w.find r.start r.brought r.base c none (deepest_at path) × (c ≤ r.limit)
    Walks (Opened c e) facts path = AllMade c × Visiting w r facts path e (Open 0) c × OneOpen r.limit c e facts path
    Walks (LimitMet e) facts path = Trying w r path e r.limit × OneDue e facts path

    -- an answer tells the outcome of running on from the start; where it is open the facts left give the model
    abbrev pub Tells : Walked → List ℕ → Type 0
    Tells (Shut c) facts = proceed w.find (r.limit - r.base) r.base r.start ≡ Refuted c
    Tells (Opened c e) facts = proceed w.find (r.limit - r.base) r.base r.start ≡ Satisfied c (bits_in w facts)
    Tells (LimitMet e) facts = proceed w.find (r.limit - r.base) r.base r.start ≡ Exhausted r.limit
