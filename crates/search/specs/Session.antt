-- A session (02: U1): where a walk stands, in plain numbers, and how it goes on from there. It is the same whichever engine moved it.
use Rattle.std.specs.Prelude.{ℕ, suc, ◌+◌, ◌-◌, Bool, true, false, cond, ◌&&◌, List, [], ◌∷◌, eqb, ltb, leb, length, drop, get_or}
use Rattle.std.proofs.Math.Option.{Option, none, some}
use Rattle.search.specs.Ground.{Found, closed, opened, split}
use Rattle.search.specs.Machine.{Branch, Place, entered, next_path, Outcome, Satisfied, Refuted, Exhausted, last, longest, root, entries, proceed}

-- an entry of the path: its atom, and the next alternative of the node that it was entered from
pub record Step : Type 0 where
  pub atom : ℕ
  pub next : ℕ

-- the verdict: none, fits, spent
pub data Standing : Type 0 where
  refuted : Standing
  satisfied : Standing
  exhausted : Standing

-- the path, the latest entry first, and the next alternative of the last node; and the longest path that was entered (02: U2, U10)
pub record Session : Type 0 where
  pub standing : Standing
  pub count : ℕ
  pub path : List Step
  pub next : ℕ
  pub deepest : ℕ

-- the alternatives to enter where a node is found so
abbrev pub alts_found : {I : Type 0} → Found I → List ℕ
alts_found closed = []
alts_found (opened bits) = []
alts_found (split i ds) = ds

-- ---- what a session stands for

-- "each entry of the path is the alternative just before the next one of the split that the walk takes there"
abbrev pub step_taken : {I : Type 0} → Found I → Step → List (Branch I) → Option (List (Branch I))
step_taken closed s bs = none
step_taken (opened bits) s bs = none
step_taken (split i ds) s bs =
    cond (ltb 0 s.next && leb s.next (length ds) && eqb (get_or ds (s.next - 1) 0) s.atom)
    (some (record { site = i; atom = s.atom; rest = drop s.next ds } ∷ bs))
    none

-- "the last node's next one is at most m (0 if it has no split)": the alternatives before it are taken off
abbrev pub node_taken : {I : Type 0} → Found I → ℕ → Option (Found I)
node_taken closed next = cond (eqb next 0) (some closed) none
node_taken (opened bits) next = cond (eqb next 0) (some (opened bits)) none
node_taken (split i ds) next = cond (leb next (length ds)) (some (split i (drop next ds))) none

-- "fits stands at an open node, and none at a root that is closed or split to its end"
abbrev pub is_open : {I : Type 0} → Found I → Bool
is_open closed = false
is_open (opened bits) = true
is_open (split i ds) = false

abbrev pub is_over : {I : Type 0} → Found I → Bool
is_over closed = true
is_over (opened bits) = false
is_over (split i []) = true
is_over (split i (a ∷ ds)) = false

abbrev pub is_root : {I : Type 0} → List (Branch I) → Bool
is_root [] = true
is_root (b ∷ bs) = false

abbrev pub is_standing_at : {I : Type 0} → Standing → Place I → Bool
is_standing_at refuted s = is_root s.path && is_over s.found
is_standing_at satisfied s = is_open s.found
is_standing_at exhausted s = true

-- U2: "42 also meets a figure below the path's length or above A", the number of atoms
abbrev pub deep_stands : ℕ → Session → Bool
deep_stands atoms s = leb (length s.path) s.deepest && leb s.deepest atoms

abbrev pub where_stands : {I : Type 0} → Standing → Place I → Option (Place I)
where_stands standing s = cond (is_standing_at standing s) (some s) none

module _ {I : Type 0} (find : List ℕ → Found I) where
  -- the path that steps stand for, if each is one of the walk
  abbrev pub path_of : List Step → Option (List (Branch I))
  path_of [] = some []
  path_of (s ∷ steps) = elim (path_of steps) [ none ↦ none | some bs ↦ step_taken (find (entered bs)) s bs ]

  -- the place of the last node of a path
  abbrev pub node_of : List (Branch I) → ℕ → Option (Place I)
  node_of bs next = elim (node_taken (find (entered bs)) next) [ none ↦ none | some f ↦ some (record { path = bs; found = f }) ]

  -- the place where a session stands; none where it is no session of the walk (42)
  unfoldable pub place_of : Session → Option (Place I)
  place_of s =
      elim (path_of s.path) [
        | none ↦ none
        | some bs ↦ elim (node_of bs s.next) [ none ↦ none | some t ↦ where_stands s.standing t ]
      ]

  -- and so for one whose figure is not that of a path over so many atoms
  abbrev pub stands_in : ℕ → Session → Option (Place I)
  stands_in atoms s = cond (deep_stands atoms s) (place_of s) none

  -- ---- what a call leaves

  -- a path as steps: the next alternative is the one after those entered
  abbrev pub steps_of : List (Branch I) → List Step
  steps_of [] = []
  steps_of (b ∷ bs) = record { atom = b.atom; next = length (alts_found (find (entered bs))) - length b.rest } ∷ steps_of bs

  -- spent: at the node whose next alternative would be entered next; nodes that are worked off are dropped
  abbrev pub due_at : ℕ → ℕ → Option (List (Branch I)) → Session
  due_at n d none = record { standing = exhausted; count = n; path = []; next = 0; deepest = d }
  due_at n d (some []) = record { standing = exhausted; count = n; path = []; next = 0; deepest = d }
  due_at n d (some (b ∷ bs)) =
      record { standing = exhausted; count = n; path = steps_of bs; next = length (alts_found (find (entered bs))) - suc (length b.rest); deepest = d }

  -- fits: at the open node. None: at the root, all its alternatives used up
  abbrev pub left_by : Outcome → ℕ → Place I → Session
  left_by (Satisfied n bits) d t = record { standing = satisfied; count = n; path = steps_of t.path; next = 0; deepest = d }
  left_by (Refuted n) d t = record { standing = refuted; count = n; path = []; next = length (alts_found (find [])); deepest = d }
  left_by (Exhausted n) d t = due_at n d (next_path t)

  -- after a run from a place on, which counts as entry `count` and brings a deepest figure, under a limit
  unfoldable pub session_after : ℕ → ℕ → ℕ → Place I → Session
  session_after limit count d t = left_by (proceed find limit count t) (longest d (entries find limit t)) (last t (entries find limit t))

  -- a first run under a limit
  abbrev pub first_session : ℕ → Session
  first_session limit = session_after limit 0 0 (root find)

-- ---- a call

-- what a call says and leaves: a refusal's number, or an outcome and the session
pub data Called : Type 0 where
  declined : ℕ → Called
  told : Outcome → Session → Called

-- Going on with a further limit: 41 if count and limit together pass FFFFFFFF; then 42 unless it is a session of the walk; else on from the place where it stands
unfoldable pub called : {I : Type 0} → (List ℕ → Found I) → ℕ → Session → ℕ → Called
called find atoms s further =
    cond (ltb 4294967295 (s.count + further))
    (declined 41)
    (elim (stands_in find atoms s) [ none ↦ declined 42 | some t ↦ told (proceed find further s.count t) (session_after find further s.count s.deepest t) ])
