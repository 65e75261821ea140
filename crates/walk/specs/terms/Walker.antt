-- What differs between engines, as far as the path, a place and the walk are concerned.
use Rattle.std.specs.Prelude.{ℕ, suc, ◌≤◌, ◌<◌, false, List, ◌∷◌, ◌≡◌, length, drop, get_or}
use Rattle.lists.specs.Key.{nat_key}
use Rattle.lists.specs.Member.{All, has, In}
use Rattle.search.specs.Ground.{Found, split}
use Rattle.search.specs.Machine.{Branch, Place, entered, root}
use Rattle.walk.specs.declared.answer.Found.{Found as Told}

-- what a node's record names: a clause or a rule by its number, and the values of its variables
pub record Site : Type 0 where
  pub number : ℕ
  pub values : List ℕ

pub record Walker (I : Type 0) : Type 1 where
  -- facts are numbers below this; the number of "false", below which are the atoms
  pub capacity : ℕ
  pub atoms : ℕ
  -- how a node is found under a list of entered atoms
  pub find : List ℕ → Found I
  -- how many variables the clause or rule of a number has; the instance that a site stands for, and the alternatives entered there
  pub vars : ℕ → ℕ
  pub instance : Site → I
  pub alts : Site → List ℕ
  -- a site that a node can be split at
  pub Named : Site → Type 0
  -- which paths the walk keeps to
  pub Kept : List (Branch I) → Type 0
  -- the facts of a node that is split at a site under entered atoms
  pub RestsAt : Site → List ℕ → List ℕ → Type 0
  -- what is held at a place found so, under entered atoms: of a list of facts
  pub Holds : Told → List ℕ → List ℕ → Type 0

-- One run of a walk: where it begins, which counts as its entry `base`, the deepest figure that it brings, and how many entries its limit allows, those before the start
-- counted
pub record Run (I : Type 0) : Type 0 where
  pub start : Place I
  pub base : ℕ
  pub brought : ℕ
  pub limit : ℕ

-- a run from the root on, with nothing entered before it
abbrev pub from_root : {I : Type 0} → Walker I → ℕ → ℕ → Run I
from_root w brought limit = record { start = root w.find; base = 0; brought = brought; limit = limit }

-- the entry of alternative j of a site
abbrev pub branch_of : {I : Type 0} → Walker I → Site → ℕ → Branch I
branch_of w s j = record { site = w.instance s; atom = get_or (w.alts s) j 0; rest = drop (suc j) (w.alts s) }

-- What an engine shows of its walker
pub record Sound {I : Type 0} (w : Walker I) : Type 0 where
  -- a path has no more entries than there are atoms, and its entries are atoms
  pub few : w.atoms ≤ 1024
  pub short : (bs : List (Branch I)) → w.Kept bs → length bs ≤ w.atoms
  pub small : (b : Branch I) (bs : List (Branch I)) → w.Kept (b ∷ bs) → b.atom < w.atoms
  -- there are at most four alternatives, and each alternative of a split that is found can be entered
  pub four : (s : Site) → w.Named s → length (w.alts s) ≤ 4
  pub enters : (bs : List (Branch I)) (s : Site) → w.Kept bs → w.find (entered bs) ≡ split (w.instance s) (w.alts s)
      → (j : ℕ) → j < length (w.alts s) → w.Kept (branch_of w s j ∷ bs)
  -- a split node's facts have all that was entered, and none of its alternatives
  pub has_entered : (s : Site) (l facts : List ℕ) → w.RestsAt s l facts → All (In nat_key facts) l
  pub untrue : (s : Site) (l facts : List ℕ) → w.RestsAt s l facts → All (λ a. has nat_key facts a ≡ false) (w.alts s)
