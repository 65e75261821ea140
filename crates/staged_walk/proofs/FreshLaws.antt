-- A node just entered: what follows from the path's atoms, once an atom is put into the facts of a split node, and at the root.
use Prim.Native.Nat.{ℕ, ◌+◌, ◌<◌}
use mathlib.Core.List.{List}
use mathlib.Core.Path.{◌≡◌, sym, subst}
use native.Mathlib.Omega.{arith}
use lib.ListN.{length, get_or}
use Rattle.search.specs.Machine.{Branch, entered}
use Rattle.store.specs.terms.Store.{Added, logged}
use Rattle.store.proofs.Lent.{added_each}
use Rattle.problem.specs.Table.{Lawful}
use Rattle.ground.specs.Instance.{Instance, ground_in}
use Rattle.relevancy_rule.specs.terms.Node.{TrueStarted, TrueSeeded}
use Rattle.staged_node.specs.terms.Node.{StagesOpening}
use Rattle.walk.specs.terms.Path.{Room, next_at, mark_at, Passed, site_at, alts_at, entry_at, path_in}
use Rattle.walk.specs.terms.Place.{Parted}
use Rattle.walk.proofs.PathLaws.{path_deep, path_entered}
use Rattle.walk.proofs.PlaceLaws.{named_entered, entered_kept}
use Rattle.relevancy_walk.proofs.FreshLaws.{added_seeded, added_opening}
use Rattle.relevancy_walk.proofs.FreshLaws as relevancy
use Rattle.staged_walk.specs.terms.Place.{TruthsAtSplit, staged_walker, StagesFresh}
use Rattle.staged_walk.specs.SoundLaws.{sound}

module _ (tb : List ℕ) (h : Lawful tb) (facts path : List ℕ) (depth : ℕ) (node : Parted (staged_walker tb) facts path depth)
    (some_left : next_at path depth < length (alts_at (staged_walker tb) path depth)) where
  abbrev mark : ℕ
  mark = mark_at path depth

  abbrev atom : ℕ
  atom = get_or (alts_at (staged_walker tb) path depth) (next_at path depth) 0

  abbrev l : List ℕ
  l = entered (path_in (staged_walker tb) path depth)

  rests : TruthsAtSplit tb (site_at (staged_walker tb) path depth) l (logged facts 2050 mark)
  rests = node.at_split.rests

  pub next_small : get_or (alts_at (staged_walker tb) path depth) (next_at path depth) 0 < (ground_in tb).atoms
  next_small = (sound tb h).small (entry_at (staged_walker tb) path depth) (path_in (staged_walker tb) path depth) (node.at_split.enters (next_at path depth) some_left)

  -- the next alternative is put into the set
  module _ (left : List ℕ) (n own a : ℕ) (own_is : own ≡ mark_at path depth) (a_is : a ≡ get_or (alts_at (staged_walker tb) path depth) (next_at path depth) 0)
      (added : Added 2050 facts own a left n) where
    pub put : Added 2050 facts mark atom left n
    put = subst (λ (x : ℕ). Added 2050 facts mark x left n) a_is (subst (λ (j : ℕ). Added 2050 facts j a left n) own_is added)

    opening : StagesOpening tb left n mark
    opening =
        record {
          opening = added_opening tb l facts mark atom left n put rests.kind rests.worked next_small;
          unmarked = added_each 2050 facts mark atom left n put (λ x. x < 1025) (omega (arith, next_small, (sound tb h).few)) rests.unmarked;
        }

    pub entered_opening : StagesOpening tb left n own
    entered_opening = subst (StagesOpening tb left n) (sym own_is) opening

    pub entered_fresh : (went : List ℕ) → length went ≡ 9227 → Passed path depth went → StagesFresh tb left went (depth + 1) n (mark_at path depth)
    entered_fresh went size p =
        let kept = entered_kept (staged_walker tb) facts path depth 0 some_left went p node in
        record {
          room = record { size = size; deep = path_deep (staged_walker tb) (sound tb h) went (depth + 1) kept };
          kept = kept;
          named = named_entered (staged_walker tb) facts path depth went p node;
          opening = opening;
          seeded = subst (λ (bs : List (Branch Instance)). TrueSeeded tb (entered bs) left n) (sym (path_entered (staged_walker tb) path went depth p))
              (added_seeded tb l facts mark atom left n put rests.holds rests.stands);
        }

-- the root, once the goals of the instances without conditions are in: as the relevancy engine's, but for what settling asks of it
module _ (tb facts left : List ℕ) (n : ℕ) (started : TrueStarted tb facts left n) where
  pub root_opening : StagesOpening tb left n 0
  root_opening = let o = relevancy.root_opening tb facts left n started in record { opening = o.opening; unmarked = o.unmarked }

  pub root_fresh : (path : List ℕ) → Room path 0 → StagesFresh tb left path 0 n 0
  unfolding path_in
  root_fresh path room =
      record { room = room; kept = tt; named = λ i l. absurd (omega arith); opening = root_opening; seeded = (relevancy.root_opening tb facts left n started).seeded }
