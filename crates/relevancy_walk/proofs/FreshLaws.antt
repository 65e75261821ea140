-- A node just entered: what follows from the path's atoms, once an atom is put into the facts of a split node, and at the root.
use Prim.Native.Nat.{ℕ, ◌+◌, ◌≤◌, ◌<◌}
use mathlib.Core.Bool.{Bool, true, false, cond}
use mathlib.Core.List.{List, ◌∷◌}
use mathlib.Core.Path.{◌≡◌, sym, subst}
use native.Mathlib.Omega.{arith}
use lib.Dec.{T}
use lib.ListN.{length, get_or}
use Rattle.lists.specs.Key.{nat_key}
use Rattle.lists.specs.Member.{All, has, In}
use Rattle.lists.proofs.Member.{all_map, all_has}
use Rattle.search.specs.Closure.{Closed}
use Rattle.search.specs.Relevancy.{horn_rules, true_set}
use Rattle.search.specs.Machine.{Branch, entered}
use Rattle.search.proofs.Closure.{least_ind}
use Rattle.store.specs.terms.Store.{Added, logged}
use Rattle.store.specs.terms.Worked.{Worked}
use Rattle.store.proofs.Laws.{added_in}
use Rattle.store.proofs.Lent.{added_carries, added_each, added_worked}
use Rattle.problem.specs.Table.{Lawful}
use Rattle.ground.specs.Instance.{Instance, ground_in}
use Rattle.relevancy_rule.specs.terms.Node.{Facts, RootMarked, TrueOpening, RootOpening, TrueStarted, TrueSeeded, TrueStands}
use Rattle.relevancy_rule.proofs.HornLaws.{root_adds}
use Rattle.walk.specs.terms.Path.{Room, next_at, mark_at, Passed, site_at, alts_at, entry_at, path_in}
use Rattle.walk.specs.terms.Place.{Parted}
use Rattle.walk.proofs.PathLaws.{path_deep, path_entered}
use Rattle.walk.proofs.PlaceLaws.{named_entered, entered_kept}
use Rattle.relevancy_walk.specs.terms.Place.{TrueAtSplit, relevancy_walker, TrueFresh}
use Rattle.relevancy_walk.specs.SoundLaws.{sound}

-- an atom is put into facts, the truths among which are those under the entered atoms l
module _ (tb l facts : List ℕ) (mark atom : ℕ) (left : List ℕ) (n : ℕ) (put : Added 2050 facts mark atom left n) where
  inside : TrueStands tb l facts mark → (c : List ℕ) → Closed (horn_rules (ground_in tb)) (In nat_key c) → All (In nat_key c) l → All (λ f. f < 1025 → In nat_key c f) (logged facts 2050 mark)
  unfolding true_set
  inside stands c closed held =
      all_has nat_key (λ f. f < 1025 → In nat_key c f) (logged facts 2050 mark)
      (λ x t low. least_ind nat_key (horn_rules (ground_in tb)) l (In nat_key c) closed held x (subst T (stands x low) t))

  pub added_seeded : All (In nat_key (logged facts 2050 mark)) l → TrueStands tb l facts mark → TrueSeeded tb (atom ∷ l) left n
  added_seeded holds stands =
      record {
        seeds = (
          added_in put,
          all_map (In nat_key (logged facts 2050 mark)) (In nat_key (logged left 2050 n)) (added_carries 2050 facts mark atom left n put) l holds,
        );
        inside = λ c closed held. added_each 2050 facts mark atom left n put (λ f. f < 1025 → In nat_key c f) (λ low. held.0) (inside stands c closed held.1);
      }

  pub added_opening : Facts tb facts mark → Worked (horn_rules (ground_in tb)) (logged facts 2050 mark) (logged facts 2050 mark) → atom < (ground_in tb).atoms → TrueOpening tb left n mark
  added_opening kind worked small =
      record {
        store = put.store;
        facts = added_each 2050 facts mark atom left n put (λ x. x ≤ 1025 + (ground_in tb).atoms) (omega (arith, small)) kind;
        part = put.grows;
        worked = added_worked 2050 facts mark atom left n put (horn_rules (ground_in tb)) worked;
      }

module _ (tb : List ℕ) (h : Lawful tb) (facts path : List ℕ) (depth : ℕ) (node : Parted (relevancy_walker tb) facts path depth)
    (some_left : next_at path depth < length (alts_at (relevancy_walker tb) path depth)) where
  abbrev mark : ℕ
  mark = mark_at path depth

  abbrev atom : ℕ
  atom = get_or (alts_at (relevancy_walker tb) path depth) (next_at path depth) 0

  abbrev l : List ℕ
  l = entered (path_in (relevancy_walker tb) path depth)

  rests : TrueAtSplit tb (site_at (relevancy_walker tb) path depth) l (logged facts 2050 mark)
  rests = node.at_split.rests

  pub next_small : get_or (alts_at (relevancy_walker tb) path depth) (next_at path depth) 0 < (ground_in tb).atoms
  next_small = (sound tb h).small (entry_at (relevancy_walker tb) path depth) (path_in (relevancy_walker tb) path depth) (node.at_split.enters (next_at path depth) some_left)

  -- the next alternative is put into the set
  module _ (left : List ℕ) (n own a : ℕ) (own_is : own ≡ mark_at path depth) (a_is : a ≡ get_or (alts_at (relevancy_walker tb) path depth) (next_at path depth) 0)
      (added : Added 2050 facts own a left n) where
    pub put : Added 2050 facts mark atom left n
    put = subst (λ (x : ℕ). Added 2050 facts mark x left n) a_is (subst (λ (j : ℕ). Added 2050 facts j a left n) own_is added)

    -- the marks are those of the root
    pub entered_marked : RootMarked tb (logged left 2050 n)
    entered_marked = subst (RootMarked tb) (sym put.list) (go (has nat_key (logged facts 2050 mark) atom))
      where
        go : (b : Bool) → RootMarked tb (cond b (logged facts 2050 mark) (atom ∷ logged facts 2050 mark))
        go true = rests.marked
        go false = root_adds tb (logged facts 2050 mark) atom (omega (arith, next_small, (sound tb h).few)) rests.marked

    pub entered_opening : TrueOpening tb left n own
    entered_opening = subst (TrueOpening tb left n) (sym own_is) (added_opening tb l facts mark atom left n put rests.kind rests.worked next_small)

    pub entered_fresh : (went : List ℕ) → length went ≡ 9227 → Passed path depth went → TrueFresh tb left went (depth + 1) n (mark_at path depth)
    entered_fresh went size p =
        let kept = entered_kept (relevancy_walker tb) facts path depth 0 some_left went p node in
        record {
          room = record { size = size; deep = path_deep (relevancy_walker tb) (sound tb h) went (depth + 1) kept };
          kept = kept;
          named = named_entered (relevancy_walker tb) facts path depth went p node;
          opening = added_opening tb l facts mark atom left n put rests.kind rests.worked next_small;
          seeded = subst (λ (bs : List (Branch Instance)). TrueSeeded tb (entered bs) left n) (sym (path_entered (relevancy_walker tb) path went depth p))
              (added_seeded tb l facts mark atom left n put rests.holds rests.stands);
        }

-- the root, once the goals of the instances without conditions are in
module _ (tb facts left : List ℕ) (n : ℕ) (started : TrueStarted tb facts left n) where
  pub root_opening : RootOpening tb left n
  unfolding logged
  root_opening =
      record {
        opening = record { store = started.grew.store; facts = started.facts; part = omega arith; worked = started.worked };
        unmarked = started.unmarked;
        seeded = record {
          seeds = tt;
          inside = λ c closed held. all_map (In nat_key c) (λ f. f < 1025 → In nat_key c f) (λ f i low. i) (logged left 2050 n) (started.grew.just c closed tt);
        };
      }

  pub root_fresh : (path : List ℕ) → Room path 0 → TrueFresh tb left path 0 n 0
  unfolding path_in
  root_fresh path room = record { room = room; kept = tt; named = λ i l. absurd (omega arith); opening = root_opening.opening; seeded = root_opening.seeded }
