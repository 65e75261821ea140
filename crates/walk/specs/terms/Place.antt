-- A place of the walk: how it is found by a function's answer and the buffers, a split node, and what making a place says.
use Rattle.std.specs.Prelude.{ℕ, ◌+◌, ◌≤◌, ◌<◌, Bool, List, ◌∷◌, ◌≡◌, length, drop}
use Rattle.std.proofs.Math.Option.{some}
use Rattle.search.specs.Ground.{Found, closed, opened, split}
use Rattle.search.specs.Relevancy.{model_bits}
use Rattle.search.specs.Machine.{Place, entered, placed, root}
use Rattle.store.specs.terms.Store.{Store, logged}
use Rattle.lists.specs.Bytes.{is_set}
use Rattle.walk.specs.terms.Trail.{AtEntry, NextEntry}
use Rattle.walk.specs.terms.Walker.{Walker, Run, branch_of}
use Rattle.walk.specs.terms.Path.{Room, next_at, mark_at, deepest_at, PathKept, Passed, site_at, alts_at, entry_at, path_in, next_in}
use Rattle.walk.specs.declared.answer.Found.{Found as Told}
use Rattle.walk.specs.declared.answer.Found.TheVariants.{Closed, Open, Split}

-- how many facts are in the set
abbrev pub facts_of : Told → ℕ
facts_of (Closed n) = n
facts_of (Open n) = n
facts_of (Split n) = n

module _ {I : Type 0} (w : Walker I) where
  -- the model's bits by the facts in the buffer: fact 1,025 + a is that atom a is relevant
  abbrev pub bits_in : List ℕ → List Bool
  bits_in facts = model_bits w.atoms (is_set facts) (λ a. is_set facts (1025 + a))

  -- the split stands in the path's record, with the alternatives from the next one on
  abbrev pub found_in : List ℕ → List ℕ → ℕ → Told → Found I
  found_in facts path depth (Closed n) = closed
  found_in facts path depth (Open n) = opened (bits_in facts)
  found_in facts path depth (Split n) = split (w.instance (site_at w path depth)) (drop (next_at path depth) (alts_at w path depth))

  abbrev pub place_in : List ℕ → List ℕ → ℕ → Told → Place I
  place_in facts path depth x = record { path = path_in w path depth; found = found_in facts path depth x }

  -- each node of the path before this depth has a site that can be split at
  abbrev pub NodesNamed : List ℕ → ℕ → Type 0
  NodesNamed path depth = (i : ℕ) → i < depth → w.Named (site_at w path i)

  -- a node is split at the site of its record, all of whose alternatives can be entered, and these are its facts
  pub record AtSplit (path : List ℕ) (depth : ℕ) (log : List ℕ) : Type 0 where
    pub listed : w.Named (site_at w path depth)
    pub enters : (j : ℕ) → j < length (alts_at w path depth) → w.Kept (branch_of w (site_at w path depth) j ∷ path_in w path depth)
    pub rests : w.RestsAt (site_at w path depth) (entered (path_in w path depth)) log

  -- the node at this depth is split, and the set has its facts alone. Which split it is stands in its record since its place was made (`Reached`, `found`), and is not asked again
  pub record Parted (facts path : List ℕ) (depth : ℕ) : Type 0 where
    pub room : Room path depth
    pub kept : w.Kept (path_in w path depth)
    pub named : NodesNamed path depth
    pub store : Store w.capacity facts (mark_at path depth)
    pub at_split : AtSplit path depth (logged facts w.capacity (mark_at path depth))

  -- what visiting goes on from: the first `done` facts are those of the node before
  abbrev pub Ready : List ℕ → List ℕ → ℕ → ℕ → Told → Type 0
  Ready facts path depth done (Closed n) = done ≤ n
  Ready facts path depth done (Open n) = done ≤ n
  Ready facts path depth done (Split n) =
      (done ≤ mark_at path depth) × (mark_at path depth ≤ n) × (next_at path depth ≡ 0) × AtSplit path depth (logged facts w.capacity (mark_at path depth))

  -- the place at this depth is found as the walk finds it, and what is held there is in the set
  pub record Reached (facts path : List ℕ) (depth done : ℕ) (x : Told) : Type 0 where
    pub room : Room path depth
    pub kept : w.Kept (path_in w path depth)
    pub named : NodesNamed path depth
    pub found : w.find (entered (path_in w path depth)) ≡ found_in facts path depth x
    pub store : Store w.capacity facts (facts_of x)
    pub holds : w.Holds x (entered (path_in w path depth)) (logged facts w.capacity (facts_of x))
    pub ready : Ready facts path depth done x

  -- the node at this depth is entry `count` of a run, and the longest path entered stands behind the path
  abbrev pub Visiting : Run I → List ℕ → List ℕ → ℕ → Told → ℕ → Type 0
  Visiting r facts path depth x count = AtEntry w.find r.start r.brought r.base count (place_in facts path depth x) (deepest_at path)

  -- `count` entries of a run are made, and the next alternative of the node at this depth, or what comes behind it, is due
  abbrev pub Trying : Run I → List ℕ → ℕ → ℕ → Type 0
  Trying r path depth count = NextEntry w.find r.start r.brought r.base count (next_in w path depth) (deepest_at path)

  -- a node just entered, with n facts, has been found
  pub record Finding (facts path : List ℕ) (depth n done : ℕ) (x : Told) (left_facts left : List ℕ) : Type 0 where
    pub reached : Reached left_facts left depth done x
    pub logs : (i : ℕ) → i ≤ n → logged left_facts w.capacity i ≡ logged facts w.capacity i
    pub before : PathKept path depth left
    pub deepest_is : deepest_at left ≡ deepest_at path

  -- The next place has been made: path, next alternatives and how it is found are those of the walk, and it is the entry after entry `count` of every run that stood
  -- there with its limit not met. The split node that it comes from has one alternative less to enter, and its facts are kept
  pub record Making (facts path : List ℕ) (depth count : ℕ) (x : Told) (left_facts left : List ℕ) : Type 0 where
    pub made : placed w.find (next_in w path depth) ≡ some (place_in left_facts left (depth + 1) x)
    pub trail : (r : Run I) → count < r.limit → Trying r path depth count → Visiting r left_facts left (depth + 1) x (count + 1)
    pub reached : Reached left_facts left (depth + 1) (mark_at path depth) x
    pub path_is : path_in w left (depth + 1) ≡ entry_at w path depth ∷ path_in w path depth
    pub passed : Passed path depth left
    pub logs : (i : ℕ) → i ≤ mark_at path depth → logged left_facts w.capacity i ≡ logged facts w.capacity i

  -- the root has been made
  pub record Beginning (x : Told) (facts path : List ℕ) : Type 0 where
    pub made : root w.find ≡ place_in facts path 0 x
    pub reached : Reached facts path 0 0 x
