-- The walk, as a machine over any way of finding a node. It knows nothing of clauses.
use Rattle.std.specs.Prelude.{ℕ, zero, suc, ◌+◌, max, Bool, List, [], ◌∷◌, ◌++◌, map, ◌≡◌, length}
use Rattle.std.proofs.Math.Option.{Option, none, some}
use Rattle.search.specs.Ground.{Found, closed, opened, split}

-- a node of the path that has been split: where, the alternative entered, and those left to enter
pub record Branch (I : Type 0) : Type 0 where
  pub site : I
  pub atom : ℕ
  pub rest : List ℕ

-- a place of the trail: its path, the latest entry first, and how it is found
pub record Place (I : Type 0) : Type 0 where
  pub path : List (Branch I)
  pub found : Found I

-- the list of entered atoms, the latest first
abbrev pub entered : {I : Type 0} → List (Branch I) → List ℕ
entered bs = map (λ b. b.atom) bs

-- the first alternative left at a split is entered; where none is left, otherwise
abbrev pub enter : {I : Type 0} → I → List ℕ → List (Branch I) → Option (List (Branch I)) → Option (List (Branch I))
enter i [] bs otherwise = otherwise
enter i (a ∷ ds) bs otherwise = some (record { site = i; atom = a; rest = ds } ∷ bs)

-- after a closed place: the next alternative at the nearest node that has one left
abbrev pub back : {I : Type 0} → List (Branch I) → Option (List (Branch I))
back [] = none
back (b ∷ bs) = enter b.site b.rest bs (back bs)

-- the path of the next entry
abbrev pub after : {I : Type 0} → Found I → List (Branch I) → Option (List (Branch I))
after closed bs = back bs
after (opened bits) bs = none
after (split i ds) bs = enter i ds bs (back bs)

abbrev pub next_path : {I : Type 0} → Place I → Option (List (Branch I))
next_path s = after s.found s.path

pub data Outcome : Type 0 where
  Satisfied : ℕ → List Bool → Outcome
  Refuted : ℕ → Outcome
  Exhausted : ℕ → Outcome

-- where no further entry can be made the walk is over
abbrev pub stopped : {I : Type 0} → Option (List (Branch I)) → ℕ → Outcome
stopped none n = Refuted n
stopped (some bs) n = Exhausted n

abbrev pub answer_at : {I : Type 0} → Found I → Option (List (Branch I)) → ℕ → Outcome
answer_at closed o n = stopped o n
answer_at (opened bits) o n = Satisfied n bits
answer_at (split i ds) o n = stopped o n

-- the answer at a place after n entries: open is fits; with no further entry none; else spent
abbrev pub answer : {I : Type 0} → Place I → ℕ → Outcome
answer s n = answer_at s.found (next_path s) n

-- the last place of a trail that starts at s
abbrev pub last : {I : Type 0} → Place I → List (Place I) → Place I
last s [] = s
last s (t ∷ ts) = last t ts

-- the longest path of these places, or a figure brought that is no shorter
abbrev pub longest : {I : Type 0} → ℕ → List (Place I) → ℕ
longest d [] = d
longest d (t ∷ ts) = longest (max d (length t.path)) ts

module _ {I : Type 0} (find : List ℕ → Found I) where
  abbrev pub place : List (Branch I) → Place I
  place bs = record { path = bs; found = find (entered bs) }

  abbrev pub placed : Option (List (Branch I)) → Option (Place I)
  placed none = none
  placed (some bs) = some (place bs)

  -- exactly one entry, or none where the walk is over
  abbrev pub advance : Place I → Option (Place I)
  advance s = placed (next_path s)

  abbrev pub root : Place I
  root = place []

  -- the entries made from a place on, at most n
  unfoldable pub entries : ℕ → Place I → List (Place I)
  entries zero s = []
  entries (suc n) s = elim (advance s) [ none ↦ [] | some t ↦ t ∷ entries n t ]

  -- the root, then the entries made under the limit
  abbrev pub trail : ℕ → List (Place I)
  trail limit = root ∷ entries limit root

  -- running on from a place that was reached after `count` entries, with `left` more allowed
  unfoldable pub proceed : ℕ → ℕ → Place I → Outcome
  proceed left count s = answer (last s (entries left s)) (count + length (entries left s))

  -- the count is the entries made, the root not among them
  abbrev pub outcome : ℕ → Outcome
  outcome limit = proceed limit 0 root

  -- the longest path that the walk enters under the limit
  unfoldable pub deepest_under : ℕ → ℕ
  deepest_under limit = longest 0 (entries limit root)

  -- the entries that the walk without a limit makes from a place on
  abbrev pub Whole : Place I → List (Place I) → Type 0
  Whole s [] = advance s ≡ none
  Whole s (t ∷ ts) = (advance s ≡ some t) × Whole t ts

  -- those of the whole walk
  abbrev pub FullWalk : List (Place I) → Type 0
  FullWalk es = Whole root es

  -- each entry of the path is an alternative of the split found there, just before those left
  abbrev pub Genuine : List (Branch I) → Type 0
  Genuine [] = Unit
  Genuine (b ∷ bs) = ((tried : List ℕ) × (find (entered bs) ≡ split b.site (tried ++ (b.atom ∷ b.rest)))) × Genuine bs
