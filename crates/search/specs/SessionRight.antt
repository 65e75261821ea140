-- When a session is one of a walk, and what a call leaves, said without replaying it: of any way of finding a node.
use Rattle.std.specs.Prelude.{ℕ, suc, ◌+◌, ◌≤◌, ◌<◌, Bool, List, [], ◌∷◌, ◌++◌, map, ◌↔◌, ◌≡◌, length, drop, get_or}
use Rattle.std.proofs.Math.Option.{some}
use Rattle.search.specs.Ground.{Found, closed, opened, split}
use Rattle.search.specs.Deepest.{Exact, Bounds}
use Rattle.search.specs.Machine.{Branch, Place, entered, next_path, Outcome, Satisfied, Refuted, Exhausted, last, root, entries, proceed, Genuine}
use Rattle.search.specs.Session.{Step, Standing, refuted, satisfied, exhausted, Session, alts_found, place_of, steps_of, session_after, declined, told, called}

-- the atoms that the steps of a path enter
abbrev pub atoms_of : List Step → List ℕ
atoms_of steps = map (λ s. s.atom) steps

abbrev pub standing_of : Outcome → Standing
standing_of (Satisfied n bits) = satisfied
standing_of (Refuted n) = refuted
standing_of (Exhausted n) = exhausted

abbrev pub count_of : Outcome → ℕ
count_of (Satisfied n bits) = n
count_of (Refuted n) = n
count_of (Exhausted n) = n

module _ {I : Type 0} (find : List ℕ → Found I) where
  -- after these steps the walk splits, and this one enters the alternative just before its next one
  pub record StepRight (steps : List Step) (s : Step) : Type 0 where
    pub site : I
    pub tried : List ℕ
    pub left : List ℕ
    pub found : find (atoms_of steps) ≡ split site (tried ++ (s.atom ∷ left))
    pub next_is : s.next ≡ suc (length tried)

  abbrev pub StepsRight : List Step → Type 0
  StepsRight [] = Unit
  StepsRight (s ∷ steps) = StepRight steps s × StepsRight steps

  -- the alternatives of the node where a session stands
  abbrev pub alts_here : Session → List ℕ
  alts_here s = alts_found (find (atoms_of s.path))

  -- no path of the walk is longer than this
  abbrev pub ShortPaths : ℕ → Type 0
  ShortPaths atoms = (bs : List (Branch I)) → Genuine find bs → length bs ≤ atoms

  -- "42 unless each entry of the path is the alternative just before the next one of the split that the walk takes there, the last node's next one is at most m (0 if it
  -- has no split), fits stands at an open node, and none at a root that is closed or split to its end". "42 also meets a figure below the path's length or above A."
  pub record Right (atoms : ℕ) (s : Session) : Type 0 where
    pub steps : StepsRight s.path
    pub next_within : s.next ≤ length (alts_here s)
    pub satisfied_open : s.standing ≡ satisfied → (bits : List Bool) × (find (atoms_of s.path) ≡ opened bits)
    pub refuted_root : s.standing ≡ refuted → s.path ≡ []
    pub refuted_over : s.standing ≡ refuted → s.next ≡ length (alts_here s)
    pub refuted_shut : s.standing ≡ refuted → (bits : List Bool) → find (atoms_of s.path) ≡ opened bits → ⊥
    pub deep_enough : length s.path ≤ s.deepest
    pub deep_within : s.deepest ≤ atoms

  -- what a run from a place on, which counts as entry `base` and brings a deepest figure, leaves under a limit
  pub record RunLeft (atoms : ℕ) (t : Place I) (base brought limit : ℕ) (o : Outcome) (left : Session) : Type 0 where
    pub verdict_is : left.standing ≡ standing_of o
    pub count_is : left.count ≡ count_of o
    pub made : count_of o ≡ base + length (entries find limit t)
    -- it is a session of the walk
    pub right : Right atoms left
    -- spent after all entries that the limit allows, at the node whose next alternative is due
    pub exhausted_all : left.standing ≡ exhausted → left.count ≡ base + limit
    pub exhausted_due : left.standing ≡ exhausted → left.next < length (alts_here left)
    pub exhausted_next : (bs : List (Branch I)) → left.standing ≡ exhausted → next_path (last t (entries find limit t)) ≡ some bs
        → entered bs ≡ get_or (alts_here left) left.next 0 ∷ atoms_of left.path
    -- fits at the last entry
    pub satisfied_last : left.standing ≡ satisfied → atoms_of left.path ≡ entered (last t (entries find limit t)).path
    -- U2: the place where it begins holds its path too
    pub deepest_bounds : Bounds atoms brought (t ∷ entries find limit t) left.deepest
    -- U10
    pub deepest_exact : Exact brought (entries find limit t) left.deepest

  -- the place where a session stands: the entries of its path are the steps', and its node is the one found there, without the alternatives before the next one
  pub record StandsThere (s : Session) (place : Place I) : Type 0 where
    pub stands : place_of find s ≡ some place
    pub path_is : entered place.path ≡ atoms_of s.path
    pub genuine : Genuine find place.path
    pub steps_are : steps_of find place.path ≡ s.path
    pub found_closed : find (atoms_of s.path) ≡ closed → place.found ≡ closed
    pub found_open : (bits : List Bool) → find (atoms_of s.path) ≡ opened bits → place.found ≡ opened bits
    pub found_split : (i : I) (ds : List ℕ) → find (atoms_of s.path) ≡ split i ds → place.found ≡ split i (drop s.next ds)

  -- what a call that is not refused says and leaves
  pub record CallTold (atoms : ℕ) (s : Session) (further : ℕ) : Type 0 where
    pub place : Place I
    pub outcome : Outcome
    pub left : Session
    pub there : StandsThere s place
    pub calls : called find atoms s further ≡ told outcome left
    pub runs : RunLeft atoms place s.count s.deepest further outcome left
    -- "A finished session answers again as before."
    pub again : (s.standing ≡ exhausted → ⊥) → left ≡ s

  pub record AnySession (atoms : ℕ) : Type 0 where
    -- 41 looks at count and limit alone, before 42
    pub refused_41 : (s : Session) (further : ℕ) → 4294967295 < s.count + further → called find atoms s further ≡ declined 41
    pub refused_42 : (s : Session) (further : ℕ) → s.count + further ≤ 4294967295 → (called find atoms s further ≡ declined 42) ↔ (Right atoms s → ⊥)
    pub told_right : ShortPaths atoms → (s : Session) (further : ℕ) → s.count + further ≤ 4294967295 → Right atoms s → CallTold atoms s further
    -- a first run
    pub first_left : ShortPaths atoms → (limit : ℕ) → RunLeft atoms (root find) 0 0 limit (proceed find limit 0 (root find)) (session_after find limit 0 0 (root find))
