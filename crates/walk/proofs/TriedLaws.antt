-- Trying one alternative after another, said at once: how a node stands when some are shut.
use Prim.Native.Nat.{ℕ, ◌+◌, ◌≤◌, ◌<◌}
use mathlib.Core.List.{List}
use mathlib.Core.Path.{◌≡◌, refl, sym, ap, subst, ◌∙◌}
use native.Mathlib.Nat.{lt_of_lt_of_le}
use native.Mathlib.Omega.{arith}
use lib.ListN.{length}
use Rattle.search.specs.Machine.{back}
use Rattle.store.specs.terms.Store.{Store, logged}
use Rattle.walk.specs.terms.Walker.{Walker, Run, Sound}
use Rattle.walk.specs.terms.Path.{next_at, mark_at, PathKept, alts_at, path_in}
use Rattle.walk.specs.terms.Place.{Parted, Visiting, Trying, Making}
use Rattle.walk.specs.terms.Walk.{tries_left, visits_left, AllShut, Leaves, Ended}
use Rattle.walk.specs.declared.answer.Found.{Found as Told}
use Rattle.walk.specs.declared.answer.Walked.{Walked}
use Rattle.walk.specs.declared.answer.Walked.TheVariants.{Shut, Opened, Exhausted as LimitMet}
use Rattle.walk.proofs.PathLaws.{path_same}
use Rattle.walk.proofs.TrailLaws.{next_as}
use Rattle.walk.proofs.WalkLaws.{leaves_as, ended_as, after_mark, after_before, after_logs, after-Parted, after_tries, after_falls, visit_falls}

module _ {I : Type 0} (w : Walker I) (facts path : List ℕ) (depth count limit : ℕ) where
  -- after c entries some alternatives of the node are shut, and the one after them is due
  pub record Tried (now_facts now : List ℕ) (c : ℕ) : Type 0 where
    pub parted : Parted w now_facts now depth
    pub grows : count ≤ c
    pub within : c ≤ limit
    pub mark_is : mark_at now depth ≡ mark_at path depth
    pub logs : (i : ℕ) → i ≤ mark_at path depth → logged now_facts w.capacity i ≡ logged facts w.capacity i
    pub before : PathKept path depth now
    pub falls : tries_left w now_facts now depth ≤ tries_left w facts path depth
    pub tries : (r : Run I) → r.limit ≡ limit → Trying w r path depth count → Trying w r now depth c

  pub tried_start : Parted w facts path depth → count ≤ limit → Tried facts path count
  tried_start node within =
      record {
        parted = node;
        grows = omega arith;
        within = within;
        mark_is = refl;
        logs = λ i l. refl;
        before = λ i l. refl;
        falls = omega arith;
        tries = λ r e due. due;
      }

  -- one more is entered: visiting it is less than was left
  pub tried_visit : Sound w → (now_facts now : List ℕ) (c : ℕ) (tried : Tried now_facts now c) → next_at now depth < length (alts_at w now depth)
      → (x : Told) (made_facts made : List ℕ) → Making w now_facts now depth c x made_facts made → visits_left w made_facts made (depth + 1) x < tries_left w facts path depth
  tried_visit sound now_facts now c tried some_left x made_facts made went =
      lt_of_lt_of_le (visit_falls w sound now_facts now depth c tried.parted some_left x made_facts made went) tried.falls

  -- and it is shut
  module _ (now_facts now : List ℕ) (c : ℕ) (tried : Tried now_facts now c) (some_left : next_at now depth < length (alts_at w now depth)) (below : c < limit)
      (x : Told) (made_facts made : List ℕ) (went : Making w now_facts now depth c x made_facts made) (own : ℕ) (own_is : own ≡ mark_at path depth)
      (y : Walked) (d : ℕ) (is_shut : y ≡ Shut d) (after_facts after : List ℕ) (size : length after ≡ length made)
      (left : Leaves w made_facts made (depth + 1) own (c + 1) limit y after_facts after)
      (ended : (r : Run I) → r.limit ≡ limit → Visiting w r made_facts made (depth + 1) x (c + 1) → Ended w r made (depth + 1) y after_facts after) where
    shut : AllShut w made_facts made (depth + 1) (mark_at now depth) (c + 1) limit d after_facts after
    shut = leaves_as w made_facts made (depth + 1) own (mark_at now depth) (c + 1) limit y (Shut d) after_facts after (own_is ∙ sym tried.mark_is) is_shut left

    long : length after ≡ 9227
    long = size ∙ went.reached.room.size

    pub tried_falls : tries_left w after_facts after depth < tries_left w now_facts now depth
    tried_falls = after_falls w now_facts now depth tried.parted c x made_facts made went limit d after_facts after long shut some_left

    pub tried_on : Tried after_facts after d
    tried_on =
        let mark = after_mark w now_facts now depth tried.parted c x made_facts made went limit d after_facts after long shut in
        let before = after_before w now_facts now depth tried.parted c x made_facts made went limit d after_facts after long shut in
        let logs = after_logs w now_facts now depth tried.parted c x made_facts made went limit d after_facts after long shut in
        record {
          parted = after-Parted w now_facts now depth tried.parted c x made_facts made went limit d after_facts after long shut;
          grows = omega (arith, tried.grows, shut.grows);
          within = shut.within;
          mark_is = mark ∙ tried.mark_is;
          logs = λ i l. logs i (omega (arith, tried.mark_is)) ∙ tried.logs i l;
          before = λ i l. before i l ∙ tried.before i l;
          falls = omega (arith, tried_falls, tried.falls);
          tries =
              λ r e due.
              after_tries w now_facts now depth tried.parted c x made_facts made went limit d after_facts after long shut r
              (ended_as w r made (depth + 1) y (Shut d) after_facts after is_shut (ended r e (went.trail r (omega (arith, below)) (tried.tries r e due))));
        }

  -- what trying on from there ends in, all ends in
  module _ (now_facts now : List ℕ) (c : ℕ) (tried : Tried now_facts now c) (last_facts last : List ℕ) where
    pub tried_leaves : (y : Walked) → Leaves w now_facts now depth (mark_at now depth) c limit y last_facts last → Leaves w facts path depth (mark_at path depth) count limit y last_facts last
    tried_leaves (Shut d) e =
        record {
          grows = omega (arith, e.grows, tried.grows);
          within = e.within;
          undone =
              record {
                store = subst (Store w.capacity last_facts) tried.mark_is e.undone.store;
                kept = λ i l. e.undone.kept i (omega (arith, tried.mark_is)) ∙ tried.logs i l;
              };
          before = λ i l. e.before i l ∙ tried.before i l;
        }
    tried_leaves (Opened d f) e = e
    tried_leaves (LimitMet f) e = e

    pub tried_ended : (r : Run I) (y : Walked) → Ended w r now depth y last_facts last → Ended w r path depth y last_facts last
    tried_ended r (Shut d) e =
        next_as w.find r.start r.base d (back (path_in w now depth)) (back (path_in w path depth)) (ap back (path_same w path now depth tried.before)) e
    tried_ended r (Opened d f) e = e
    tried_ended r (LimitMet f) e = e
