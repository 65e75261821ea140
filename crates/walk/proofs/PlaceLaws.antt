-- A place made: found, written down where it is split, and the entry after those made before.
use Prim.Native.Nat.{ℕ, ◌+◌, max, ◌≤◌, ◌<◌}
use mathlib.Core.Bool.{Bool, true, false}
use mathlib.Core.List.{List, [], ◌∷◌}
use mathlib.Core.Option.{some}
use mathlib.Core.Path.{◌≡◌, refl, sym, ap, subst, ◌∙◌}
use native.Mathlib.Omega.{arith}
use lib.Dec.{ltb}
use borrow.Author.Tests.{ltb-true, ltb-false}
use lib.ListN.{length, drop}
use Rattle.search.specs.Ground.{Found, split}
use Rattle.search.specs.Machine.{Branch, entered, place, placed}
use Rattle.store.specs.terms.Store.{Store, Undone, logged}
use Rattle.walk.specs.terms.Trail.{AtEntry}
use Rattle.walk.specs.terms.Walker.{Site, Walker, Run, Sound, branch_of}
use Rattle.walk.specs.terms.Path.{Room, next_at, mark_at, deepest_at, PathKept, Passed, site_at, alts_at, entry_at, path_in, next_in}
use Rattle.walk.specs.terms.Place.{facts_of, found_in, place_in, NodesNamed, AtSplit, Parted, Ready, Reached, Visiting, Trying, Finding, Making, Beginning}
use Rattle.walk.specs.declared.answer.Found.{Found as Told}
use Rattle.walk.specs.declared.answer.Found.TheVariants.{Split}
use Rattle.walk.proofs.PathLaws.{number_same, four_same, own_bytes, site_same, path_same, path-length, path_entered, passed_still, next_some}
use Rattle.walk.proofs.TrailLaws.{entry_made}

module _ {I : Type 0} (w : Walker I) where
  -- ---- the nodes before a depth

  pub site_kept : (path left : List ℕ) (depth : ℕ) → PathKept path depth left → (i : ℕ) → i < depth → site_at w left i ≡ site_at w path i
  site_kept path left depth before i l =
      let own = own_bytes path left depth i before l in
      site_same w path left i (number_same path left i own) (four_same path left i own)

  pub named_kept : (path left : List ℕ) (depth : ℕ) → PathKept path depth left → NodesNamed w path depth → NodesNamed w left depth
  named_kept path left depth before named i l = subst w.Named (sym (site_kept path left depth before i l)) (named i l)

  -- one alternative further, the node that it is entered from is one of them
  pub named_entered : (facts path : List ℕ) (depth : ℕ) (went : List ℕ) → Passed path depth went → Parted w facts path depth → NodesNamed w went (depth + 1)
  named_entered facts path depth went p node i l = go (ltb i depth) refl
    where
      go : (b : Bool) → ltb i depth ≡ b → w.Named (site_at w went i)
      go true e = named_kept path went depth p.before node.named i (ltb-true i depth e)
      go false e =
          let last : i ≡ depth = omega (arith, ltb-false i depth e) in
          let site_is : site_at w went i ≡ site_at w path depth = ap (site_at w went) last ∙ site_same w path went depth p.number_is p.four in
          subst w.Named (sym site_is) node.at_split.listed

  -- ---- a split node in other buffers

  -- a split node by another buffer that says the same of it, and other facts with the same log
  pub split_same : (path left : List ℕ) (depth : ℕ) (log now : List ℕ) → site_at w left depth ≡ site_at w path depth → path_in w left depth ≡ path_in w path depth → log ≡ now
      → AtSplit w path depth log → AtSplit w left depth now
  split_same path left depth log now s p l at =
      record {
        listed = subst w.Named (sym s) at.listed;
        enters =
            subst (λ (x : Site). (j : ℕ) → j < length (w.alts x) → w.Kept (branch_of w x j ∷ path_in w left depth)) (sym s)
            (subst (λ (bs : List (Branch I)). (j : ℕ) → j < length (alts_at w path depth) → w.Kept (branch_of w (site_at w path depth) j ∷ bs)) (sym p) at.enters);
        rests =
            subst (λ (x : Site). w.RestsAt x (entered (path_in w left depth)) now) (sym s)
            (subst (λ (bs : List (Branch I)). w.RestsAt (site_at w path depth) (entered bs) now) (sym p)
            (subst (w.RestsAt (site_at w path depth) (entered (path_in w path depth))) l at.rests));
      }

  -- ---- a split node that has just been found

  -- its own facts are taken for the set
  pub Split-Parted : (facts path : List ℕ) (depth done n : ℕ) → Reached w facts path depth done (Split n) → (left : List ℕ) → Undone w.capacity facts (mark_at path depth) left
      → Parted w left path depth
  Split-Parted facts path depth done n at left undone =
      record {
        room = at.room;
        kept = at.kept;
        named = at.named;
        store = undone.store;
        at_split =
            split_same path path depth (logged facts w.capacity (mark_at path depth)) (logged left w.capacity (mark_at path depth)) refl refl
            (sym (undone.kept (mark_at path depth) (omega arith))) at.ready.3;
      }

  -- ---- a node that has just been entered is found; where it is closed or open the path is as it was

  pub found_here : (facts path : List ℕ) (depth n done : ℕ) (x : Told) (left : List ℕ) → Room path depth → w.Kept (path_in w path depth) → NodesNamed w path depth
      → w.find (entered (path_in w path depth)) ≡ found_in w left path depth x → Store w.capacity left (facts_of x)
      → w.Holds x (entered (path_in w path depth)) (logged left w.capacity (facts_of x)) → Ready w left path depth done x
      → ((i : ℕ) → i ≤ n → logged left w.capacity i ≡ logged facts w.capacity i) → Finding w facts path depth n done x left path
  found_here facts path depth n done x left room kept named found store holds ready logs =
      record {
        reached = record { room = room; kept = kept; named = named; found = found; store = store; holds = holds; ready = ready };
        logs = logs;
        before = λ i l. refl;
        deepest_is = refl;
      }

  -- ---- a node found to be split, and written down

  module _ (sound : Sound w) (facts path : List ℕ) (depth n done : ℕ) (room : Room path depth) (kept : w.Kept (path_in w path depth)) (named : NodesNamed w path depth)
      (site : Site) (listed : w.Named site) (found : w.find (entered (path_in w path depth)) ≡ split (w.instance site) (w.alts site))
      (left_facts left : List ℕ) (size : length left ≡ 9227) (before : PathKept path depth left) (figure : deepest_at left ≡ deepest_at path) (site_is : site_at w left depth ≡ site) (none_yet : next_at left depth ≡ 0)
      (m : ℕ) (store : Store w.capacity left_facts m) (few : mark_at left depth ≤ m) (more : done ≤ mark_at left depth)
      (rests : w.RestsAt site (entered (path_in w path depth)) (logged left_facts w.capacity (mark_at left depth)))
      (holds : w.Holds (Split m) (entered (path_in w path depth)) (logged left_facts w.capacity m))
      (logs : (i : ℕ) → i ≤ n → logged left_facts w.capacity i ≡ logged facts w.capacity i) where
    path_is : path_in w left depth ≡ path_in w path depth
    path_is = path_same w path left depth before

    at_split : AtSplit w left depth (logged left_facts w.capacity (mark_at left depth))
    at_split =
        record {
          listed = subst w.Named (sym site_is) listed;
          enters =
              subst (λ (x : Site). (j : ℕ) → j < length (w.alts x) → w.Kept (branch_of w x j ∷ path_in w left depth)) (sym site_is)
              (subst (λ (bs : List (Branch I)). (j : ℕ) → j < length (w.alts site) → w.Kept (branch_of w site j ∷ bs)) (sym path_is) (sound.enters (path_in w path depth) site kept found));
          rests =
              subst (λ (x : Site). w.RestsAt x (entered (path_in w left depth)) (logged left_facts w.capacity (mark_at left depth))) (sym site_is)
              (subst (λ (bs : List (Branch I)). w.RestsAt site (entered bs) (logged left_facts w.capacity (mark_at left depth))) (sym path_is) rests);
        }

    pub found_split : Finding w facts path depth n done (Split m) left_facts left
    found_split =
        record {
          reached =
              record {
                room = record { size = size; deep = room.deep };
                kept = subst w.Kept (sym path_is) kept;
                named = named_kept path left depth before named;
                found =
                    ap (λ (bs : List (Branch I)). w.find (entered bs)) path_is ∙ found
                    ∙ ap (λ (x : Site). split (w.instance x) (w.alts x)) (sym site_is)
                    ∙ ap (λ (j : ℕ). split (w.instance (site_at w left depth)) (drop j (alts_at w left depth))) (sym none_yet);
                store = store;
                holds = subst (λ (bs : List (Branch I)). w.Holds (Split m) (entered bs) (logged left_facts w.capacity m)) (sym path_is) holds;
                ready = (more, few, none_yet, at_split);
              };
          logs = logs;
          before = before;
          deepest_is = figure;
        }

  -- ---- the next place is made

  module _ (facts path : List ℕ) (depth count : ℕ) (some_left : next_at path depth < length (alts_at w path depth)) where
    -- the path with the next alternative entered
    pub entered_kept : (went : List ℕ) → Passed path depth went → Parted w facts path depth → w.Kept (path_in w went (depth + 1))
    entered_kept went p node = subst w.Kept (sym (path_entered w path went depth p)) (node.at_split.enters (next_at path depth) some_left)

    pub place_made : (n : ℕ) (went_facts went : List ℕ) → Passed path depth went → mark_at path depth ≤ n
        → ((i : ℕ) → i ≤ mark_at path depth → logged went_facts w.capacity i ≡ logged facts w.capacity i)
        → (x : Told) (left_facts left : List ℕ) → Finding w went_facts went (depth + 1) n (mark_at path depth) x left_facts left
        → Making w facts path depth count x left_facts left
    place_made n went_facts went p few logs x left_facts left f =
        let path_is : path_in w left (depth + 1) ≡ entry_at w path depth ∷ path_in w path depth = path_same w went left (depth + 1) f.before ∙ path_entered w path went depth p in
        let place_is : place w.find (path_in w left (depth + 1)) ≡ place_in w left_facts left (depth + 1) x =
        ap (λ (d : Found I). record { path = path_in w left (depth + 1); found = d }) f.reached.found in
        let made : placed w.find (next_in w path depth) ≡ some (place_in w left_facts left (depth + 1) x) =
        ap (placed w.find) (next_some w path depth some_left ∙ ap some (sym path_is)) ∙ ap some place_is in
        let counted : max (deepest_at path) (length (path_in w left (depth + 1))) ≡ deepest_at left =
        ap (max (deepest_at path)) (path-length w left (depth + 1)) ∙ sym p.deepest_is ∙ sym f.deepest_is in
        record {
          made = made;
          trail =
              λ r below due.
              subst (AtEntry w.find r.start r.brought r.base (count + 1) (place_in w left_facts left (depth + 1) x)) counted
              (entry_made w.find r.start r.base count (next_in w path depth) (place_in w left_facts left (depth + 1) x) due made);
          reached = f.reached;
          path_is = path_is;
          passed = passed_still path went left depth p f.before f.deepest_is;
          logs = λ i l. f.logs i (omega arith) ∙ logs i l;
        }

  -- it is the next entry of a run whose limit was not met
  pub place_counted : (facts path : List ℕ) (depth count limit : ℕ) (x : Told) (left_facts left : List ℕ) → Making w facts path depth count x left_facts left → count < limit
      → (r : Run I) → r.limit ≡ limit → Trying w r path depth count → Visiting w r left_facts left (depth + 1) x (count + 1) × (count + 1 ≤ r.limit)
  place_counted facts path depth count limit x left_facts left made below r e due = (made.trail r (omega arith) due, omega arith)

  pub root_made : (facts path : List ℕ) (n : ℕ) (x : Told) (left_facts left : List ℕ) → Finding w facts path 0 n 0 x left_facts left → Beginning w x left_facts left
  unfolding path_in
  root_made facts path n x left_facts left f = record { made = ap (λ (d : Found I). record { path = []; found = d }) f.reached.found; reached = f.reached }

  -- a place reached, by another name of the answer
  pub reached_as : (facts path : List ℕ) (depth done : ℕ) (x y : Told) → x ≡ y → Reached w facts path depth done x → Reached w facts path depth done y
  reached_as facts path depth done x y e h = subst (Reached w facts path depth done) e h

  pub visiting_as : (r : Run I) (facts path : List ℕ) (depth count : ℕ) (x y : Told) → x ≡ y → Visiting w r facts path depth x count → Visiting w r facts path depth y count
  visiting_as r facts path depth count x y e h = subst (λ (z : Told). Visiting w r facts path depth z count) e h
