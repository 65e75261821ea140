-- A node just entered: what follows from the path's atoms, once an atom is put into the facts of a split node, and at the root.
use Prim.Native.Nat.{ℕ, ◌+◌, ◌<◌}
use mathlib.Core.List.{List, [], ◌∷◌}
use mathlib.Core.Path.{◌≡◌, sym, subst}
use native.Mathlib.Omega.{arith}
use lib.ListN.{length, get_or}
use Rattle.lists.specs.Key.{nat_key}
use Rattle.lists.specs.Member.{All, In}
use Rattle.lists.proofs.Member.{all_map, has_here}
use Rattle.search.specs.Machine.{Branch, entered, Genuine}
use Rattle.store.specs.terms.Store.{Added, logged}
use Rattle.store.proofs.Laws.{added_in}
use Rattle.store.proofs.Lent.{added_carries, added_each}
use Rattle.ground.specs.Instance.{Instance}
use Rattle.rewriting.specs.Facts.{false_in, find_in}
use Rattle.rewriting.specs.terms.Ruled.{Ruled}
use Rattle.rewriting.specs.terms.Numbered.{relevant_fact}
use Rattle.magic_rule.specs.terms.Watch.{site_place, needed_at, site_goals, Met}
use Rattle.magic_rule.specs.terms.Node.{HeldOpening, HeldStarted, HeldSeeded}
use Rattle.magic_rule.proofs.WatchLaws.{met_grows}
use Rattle.walk.specs.terms.Walker.{Walker}
use Rattle.walk.specs.terms.Path.{Room, next_at, mark_at, Passed, site_at, alts_at, entry_at, path_in}
use Rattle.walk.specs.terms.Place.{Parted, Finding, Making}
use Rattle.walk.specs.declared.answer.Found.{Found as Told}
use Rattle.walk.proofs.PathLaws.{path_deep, path_entered}
use Rattle.walk.proofs.PlaceLaws.{named_entered, entered_kept, place_made}
use Rattle.magic_walk.specs.terms.Place.{rule_site, RestedAtSplit, magic_walker, HeldFresh}
use Rattle.magic_walk.specs.SoundLaws.{sound}

module _ (bs : List ℕ) (h : Ruled bs) (facts path : List ℕ) (depth : ℕ) (node : Parted (magic_walker bs) facts path depth)
    (some_left : next_at path depth < length (alts_at (magic_walker bs) path depth)) where
  abbrev w : Walker Instance
  w = magic_walker bs

  abbrev mark : ℕ
  mark = mark_at path depth

  abbrev atom : ℕ
  atom = get_or (alts_at w path depth) (next_at path depth) 0

  abbrev l : List ℕ
  l = entered (path_in w path depth)

  abbrev before : List ℕ
  before = logged facts 2050 mark

  rests : RestedAtSplit bs (site_at w path depth) l before
  rests = node.at_split.rests

  pub next_small : get_or (alts_at (magic_walker bs) path depth) (next_at path depth) 0 < false_in bs
  next_small = (sound bs h).small (entry_at w path depth) (path_in w path depth) (node.at_split.enters (next_at path depth) some_left)

  -- the next alternative is put into the set
  module _ (own : ℕ) (own_is : own ≡ mark_at path depth) (a : ℕ) (a_is : a ≡ get_or (alts_at (magic_walker bs) path depth) (next_at path depth) 0)
      (left : List ℕ) (n : ℕ) (added : Added 2050 facts own a left n) where
    abbrev after : List ℕ
    after = logged left 2050 n

    put : Added 2050 facts mark atom left n
    put = rw (← own_is, ← a_is) added

    carried : (x : ℕ) → In nat_key before x → In nat_key after x
    carried = added_carries 2050 facts mark atom left n put

    added_seeded : HeldSeeded bs (atom ∷ l) left n
    added_seeded =
        let held = rests.following.seeds in
        record {
          small = (next_small, rests.following.small);
          seeds = (carried (relevant_fact (false_in bs)) held.0, (added_in put, all_map (In nat_key before) (In nat_key after) carried l held.1));
          inside = λ c closed asked. added_each 2050 facts mark atom left n put (In nat_key c) asked.1.0 (rests.following.inside c closed (asked.0, asked.1.1));
        }

    -- what rested is worked off, and the truth is still to be
    pub added_opening : (from : ℕ) → from ≡ site_place bs (rule_site (site_at (magic_walker bs) path depth)) → HeldOpening bs left n own from
    added_opening from from_is =
        rw own_is
        (record {
          store = put.store;
          part = put.grows;
          worked = λ i listed needs.
              all_map (Met bs (site_place bs (rule_site (site_at (magic_walker bs) path depth))) before) (Met bs from after)
              (met_grows bs (site_place bs (rule_site (site_at (magic_walker bs) path depth))) from before after (omega (arith, from_is)) carried) (site_goals bs i)
              (rests.rested i listed (subst (λ (done : List ℕ). All (In nat_key done) (needed_at bs i)) (put.kept mark (omega arith)) needs));
        })

    -- the path has the entry
    module _ (went : List ℕ) (p : Passed path depth went) where
      kept : Genuine (find_in bs) (path_in w went (depth + 1))
      kept = entered_kept w facts path depth 0 some_left went p node

      pub added_room : length went ≡ 9227 → Room went (depth + 1)
      added_room size = record { size = size; deep = path_deep w (sound bs h) went (depth + 1) kept }

      pub added_fresh : HeldFresh bs left went (depth + 1) n
      added_fresh =
          record {
            kept = kept;
            named = named_entered w facts path depth went p node;
            seeded = subst (λ (b : List (Branch Instance)). HeldSeeded bs (entered b) left n) (sym (path_entered w path went depth p)) added_seeded;
          }

      pub added_made : (count : ℕ) (x : Told) (last_facts last : List ℕ) → Finding (magic_walker bs) left went (depth + 1) n own x last_facts last
          → Making (magic_walker bs) facts path depth count x last_facts last
      added_made count x last_facts last found =
          place_made w facts path depth count some_left n left went p put.grows put.kept x last_facts last (rw (← own_is) found)

-- the root, once "false" relevant is in
module _ (bs : List ℕ) (left path : List ℕ) (n : ℕ) (started : HeldStarted bs left n) where
  pub root_opening : HeldOpening bs left n 0 0
  unfolding logged
  root_opening = record { store = started.store; part = omega arith; worked = started.worked }

  pub root_fresh : HeldFresh bs left path 0 n
  unfolding path_in
  root_fresh =
      record {
        kept = tt;
        named = λ i l. absurd (omega arith);
        seeded =
            record {
              small = tt;
              seeds = (subst (λ (l : List ℕ). In nat_key l (relevant_fact (false_in bs))) (sym started.list) (has_here nat_key (relevant_fact (false_in bs)) []), tt);
              inside = λ c closed held. subst (All (In nat_key c)) (sym started.list) (held.0, tt);
            };
      }
