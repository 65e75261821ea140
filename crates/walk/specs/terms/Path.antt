-- The path in a buffer of its own: 1,025 records of nine bytes, as `src/node.rt` has them, and the deepest figure behind them.
use Rattle.std.specs.Prelude.{ℕ, zero, suc, ◌+◌, ◌-◌, ◌*◌, max, ◌≤◌, ◌<◌, List, [], ◌∷◌, ◌≡◌, length, take, drop, get_or}
use Rattle.std.proofs.Math.Option.{Option}
use Rattle.search.specs.Machine.{Branch, enter, back}
use Rattle.walk.specs.terms.Walker.{Site, Walker, branch_of}

-- there is a record for the node at this depth
pub record Room (path : List ℕ) (depth : ℕ) : Type 0 where
  pub size : length path ≡ 9227
  pub deep : depth ≤ 1024

abbrev pub node_at : ℕ → ℕ
node_at i = 9 * i

abbrev pub number_at : List ℕ → ℕ → ℕ
number_at path i = get_or path (node_at i) 0 + 256 * get_or path (node_at i + 1) 0

abbrev pub four_at : List ℕ → ℕ → List ℕ
four_at path i = get_or path (node_at i + 2) 0 ∷ get_or path (node_at i + 3) 0 ∷ get_or path (node_at i + 4) 0 ∷ get_or path (node_at i + 5) 0 ∷ []

abbrev pub next_at : List ℕ → ℕ → ℕ
next_at path i = get_or path (node_at i + 6) 0

abbrev pub mark_at : List ℕ → ℕ → ℕ
mark_at path i = get_or path (node_at i + 7) 0 + 256 * get_or path (node_at i + 8) 0

-- the longest path that was entered
abbrev pub deepest_at : List ℕ → ℕ
deepest_at path = get_or path 9225 0 + 256 * get_or path 9226 0

-- the nodes before one are kept
abbrev pub PathKept : List ℕ → ℕ → List ℕ → Type 0
PathKept path depth left = (i : ℕ) → i < node_at depth → get_or left i 0 ≡ get_or path i 0

-- a split node has been written down
pub record Noted (path : List ℕ) (depth number a b c d mark : ℕ) (left : List ℕ) : Type 0 where
  pub number_is : number_at left depth ≡ number
  pub four : four_at left depth ≡ a ∷ b ∷ c ∷ d ∷ []
  pub next : next_at left depth ≡ 0
  pub mark_is : mark_at left depth ≡ mark
  pub before : PathKept path depth left
  pub deepest_is : deepest_at left ≡ deepest_at path

-- the node at a depth has passed on to the alternative after its next one, whose path is counted in, and the nodes before it are kept
pub record Passed (path : List ℕ) (depth : ℕ) (left : List ℕ) : Type 0 where
  pub number_is : number_at left depth ≡ number_at path depth
  pub four : four_at left depth ≡ four_at path depth
  pub next : next_at left depth ≡ next_at path depth + 1
  pub mark_is : mark_at left depth ≡ mark_at path depth
  pub before : PathKept path depth left
  pub deepest_is : deepest_at left ≡ max (deepest_at path) (depth + 1)

-- the node at a depth has another next alternative, and the nodes before it are kept
pub record Turned (path : List ℕ) (depth next : ℕ) (left : List ℕ) : Type 0 where
  pub number_is : number_at left depth ≡ number_at path depth
  pub four : four_at left depth ≡ four_at path depth
  pub next_is : next_at left depth ≡ next
  pub mark_is : mark_at left depth ≡ mark_at path depth
  pub before : PathKept path depth left
  pub deepest_is : deepest_at left ≡ deepest_at path

module _ {I : Type 0} (w : Walker I) where
  -- what node i is split at
  unfoldable pub site_at : List ℕ → ℕ → Site
  site_at path i = record { number = number_at path i; values = take (w.vars (number_at path i)) (four_at path i) }

  abbrev pub alts_at : List ℕ → ℕ → List ℕ
  alts_at path i = w.alts (site_at path i)

  -- the entry of the next alternative of node i
  abbrev pub entry_at : List ℕ → ℕ → Branch I
  entry_at path i = branch_of w (site_at path i) (next_at path i)

  -- the entry that a node's next alternative comes after
  abbrev pub entry_before : Site → ℕ → Branch I
  entry_before s next = record { site = w.instance s; atom = get_or (w.alts s) (next - 1) 0; rest = drop next (w.alts s) }

  -- the path that the first nodes stand for, the latest entry first
  unfoldable pub path_in : List ℕ → ℕ → List (Branch I)
  path_in path zero = []
  path_in path (suc i) = entry_before (site_at path i) (next_at path i) ∷ path_in path i

  -- the path of the next entry, from the path and the next alternative at each node down to the one at this depth
  abbrev pub next_in : List ℕ → ℕ → Option (List (Branch I))
  next_in path depth = enter (w.instance (site_at path depth)) (drop (next_at path depth) (alts_at path depth)) (path_in path depth) (back (path_in path depth))
