-- The walk's steps: what visiting and trying say of the entries made, and what falls.
use Prim.Native.Nat.{ℕ, zero, suc, ◌+◌, ◌*◌, ◌≤◌, ◌<◌}
use mathlib.Core.Bool.{Bool, true, false, cond}
use mathlib.Core.List.{List, [], ◌∷◌, ◌++◌}
use mathlib.Core.Option.{some}
use mathlib.Core.Path.{◌≡◌, refl, sym, ap, subst, ◌∙◌}
use native.Mathlib.Omega.{arith}
use lib.Dec.{T, ltb}
use borrow.Author.Tests.{ltb-true, ltb-false}
use lib.ListN.{length, take, drop, get_or, replicate, drop_of_length-le, length-replicate, get_or-append}
use lib.Seq.{length-take-le}
use Rattle.lists.specs.Key.{nat_key}
use Rattle.lists.specs.Member.{All, has, In}
use Rattle.lists.proofs.Bytes.{zeros_at}
use Rattle.search.specs.Ground.{Found, closed, opened, split}
use Rattle.search.specs.Machine.{Branch, Place, entered, enter, back, placed, root}
use Rattle.store.specs.terms.Store.{Store, Undone, logged}
use Rattle.store.proofs.Laws.{logged_grows}
use Rattle.store.proofs.Lent.{put_size}
use Rattle.walk.specs.terms.Trail.{AtEntry}
use Rattle.walk.specs.terms.Walker.{Site, Walker, Run, from_root, Sound}
use Rattle.walk.specs.terms.Path.{node_at, next_at, mark_at, deepest_at, PathKept, site_at, alts_at, entry_at, path_in, next_in}
use Rattle.walk.specs.terms.Place.{bits_in, place_in, Parted, Reached, Visiting, Trying, Making, Beginning}
use Rattle.walk.specs.terms.Walk.{untrue, tries_left, visits_left, AllShut, Leaves, Ended, Walks, Tells}
use Rattle.walk.specs.declared.answer.Found.{Found as Told}
use Rattle.walk.specs.declared.answer.Found.TheVariants.{Closed as ToldClosed, Open as ToldOpen, Split as ToldSplit}
use Rattle.walk.specs.declared.answer.Walked.{Walked}
use Rattle.walk.specs.declared.answer.Walked.TheVariants.{Shut, Opened, Exhausted as LimitMet}
use Rattle.walk.proofs.PathLaws.{number_same, four_same, next_same, mark_same, own_bytes, site_same, path_same, next_some}
use Rattle.walk.proofs.TrailLaws.{at_start, next_of, next_as, all_made, open_over, answer_open, answer_shut, answer_due}
use Rattle.walk.proofs.PlaceLaws.{named_kept, split_same}

-- ---- a place that is closed or split is not open

closed_unopened : {I : Type 0} (bits : List Bool) → ◌≡◌ {A = Found I} closed (opened bits) → ⊥
closed_unopened bits e = let z : ◌≡◌ {A = ℕ} 0 1 = cc in omega arith

pub split_unopened : {I : Type 0} (i : I) (ds : List ℕ) (bits : List Bool) → split i ds ≡ opened bits → ⊥
split_unopened i ds bits e = let z : ◌≡◌ {A = ℕ} 0 1 = cc in omega arith

-- ---- untrue atoms

fewer : (b c : Bool) (u v : ℕ) → (T b → T c) → v ≤ u → cond c v (suc v) ≤ cond b u (suc u)
fewer true true u v h l = l
fewer true false u v h l = absurd (h tt)
fewer false true u v h l = omega arith
fewer false false u v h l = omega arith

less : (b c : Bool) (u v : ℕ) → (T b → T c) → v < u → cond c v (suc v) < cond b u (suc u)
less true true u v h l = l
less true false u v h l = absurd (h tt)
less false true u v h l = omega arith
less false false u v h l = omega arith

one_less : (b c : Bool) (u v : ℕ) → b ≡ false → T c → v ≤ u → cond c v (suc v) < cond b u (suc u)
one_less true c u v e t l = absurd (subst T e tt)
one_less false true u v e t l = omega arith
one_less false false u v e t l = absurd t

module _ (facts more : List ℕ) (grows : (x : ℕ) → In nat_key facts x → In nat_key more x) where
  untrue-le : (n : ℕ) → untrue more n ≤ untrue facts n
  unfolding untrue
  untrue-le zero = omega arith
  untrue-le (suc n) = fewer (has nat_key facts n) (has nat_key more n) (untrue facts n) (untrue more n) (grows n) (untrue-le n)

  untrue_falls : (a : ℕ) → has nat_key facts a ≡ false → In nat_key more a → (n : ℕ) → a < n → untrue more n < untrue facts n
  unfolding untrue
  untrue_falls a out t zero l = absurd (omega arith)
  untrue_falls a out t (suc n) l = go (ltb a n) refl (λ k. untrue_falls a out t n k)
    where
      go : (b : Bool) → ltb a n ≡ b → (a < n → untrue more n < untrue facts n) → untrue more (suc n) < untrue facts (suc n)
      go true e f = less (has nat_key facts n) (has nat_key more n) (untrue facts n) (untrue more n) (grows n) (f (ltb-true a n e))
      go false e f =
          let same : a ≡ n = omega (arith, ltb-false a n e) in
          one_less (has nat_key facts n) (has nat_key more n) (untrue facts n) (untrue more n) (subst (λ (x : ℕ). has nat_key facts x ≡ false) same out) (subst (In nat_key more) same t) (untrue-le n)

-- ---- visiting

module _ {I : Type 0} (w : Walker I) (facts path : List ℕ) (depth done count limit : ℕ) (within : count ≤ limit) where
  pub visit_open : (n : ℕ) → Reached w facts path depth done (ToldOpen n) → Leaves w facts path depth done count limit (Opened count depth) facts path
  visit_open n at = record { facts_count = n; done = done; within = within; reached = at }

  pub visit_closed : (left : List ℕ) → Undone w.capacity facts done left → Leaves w facts path depth done count limit (Shut count) left path
  visit_closed left undone = record { grows = omega arith; within = within; undone = undone; before = λ i l. refl }

  -- the alternatives of a split node are all shut, and the facts go back
  pub split_shut : (n : ℕ) → Reached w facts path depth done (ToldSplit n) → (own : List ℕ) → Undone w.capacity facts (mark_at path depth) own
      → (c : ℕ) (tried_facts tried : List ℕ) → AllShut w own path depth (mark_at path depth) count limit c tried_facts tried
      → (left : List ℕ) → Undone w.capacity tried_facts done left
      → Leaves w facts path depth done count limit (Shut c) left tried
  split_shut n at own first c tried_facts tried shut left undone =
      record {
        grows = shut.grows;
        within = shut.within;
        undone =
            record {
              store = undone.store;
              kept = λ i l. undone.kept i l ∙ shut.undone.kept i (omega (arith, at.ready.0)) ∙ first.kept i (omega (arith, at.ready.0));
            };
        before = shut.before;
      }

-- where a run stands at a node that is visited
module _ {I : Type 0} (w : Walker I) (r : Run I) (facts path : List ℕ) (depth count n : ℕ) where
  pub closed_ended : Visiting w r facts path depth (ToldClosed n) count → (left : List ℕ) → Ended w r path depth (Shut count) left path
  closed_ended here left = next_of w.find r.start r.base count (place_in w facts path depth (ToldClosed n)) closed_unopened here

  -- visiting a split node is trying all its alternatives
  pub split_tries : Visiting w r facts path depth (ToldSplit n) count → Trying w r path depth count
  split_tries here =
      next_of w.find r.start r.base count (place_in w facts path depth (ToldSplit n))
      (split_unopened (w.instance (site_at w path depth)) (drop (next_at path depth) (alts_at w path depth))) here

-- what is open or due below is so above
module _ {I : Type 0} (w : Walker I) (left_facts left : List ℕ) where
  pub passes : (limit : ℕ) (facts path : List ℕ) (depth done count : ℕ) (Above-facts above : List ℕ) (high base before : ℕ) (x : Walked) → ((c : ℕ) → x ≡ Shut c → ⊥)
      → Leaves w facts path depth done count limit x left_facts left → Leaves w Above-facts above high base before limit x left_facts left
  passes limit facts path depth done count Above-facts above high base before (Shut c) t e = absurd (t c refl)
  passes limit facts path depth done count Above-facts above high base before (Opened c d) t e = e
  passes limit facts path depth done count Above-facts above high base before (LimitMet d) t e = e

  pub passes_ended : (r : Run I) (path : List ℕ) (depth : ℕ) (above : List ℕ) (high : ℕ) (x : Walked) → ((c : ℕ) → x ≡ Shut c → ⊥)
      → Ended w r path depth x left_facts left → Ended w r above high x left_facts left
  passes_ended r path depth above high (Shut c) t e = absurd (t c refl)
  passes_ended r path depth above high (Opened c d) t e = e
  passes_ended r path depth above high (LimitMet d) t e = e

-- an end, by another name of the facts kept and of the answer
pub leaves_as : {I : Type 0} (w : Walker I) (facts path : List ℕ) (depth done begun_done count limit : ℕ) (x y : Walked) (left_facts left : List ℕ)
    → done ≡ begun_done → x ≡ y → Leaves w facts path depth done count limit x left_facts left → Leaves w facts path depth begun_done count limit y left_facts left
leaves_as w facts path depth done begun_done count limit x y left_facts left d e h =
    subst (λ (z : Walked). Leaves w facts path depth begun_done count limit z left_facts left) e
    (subst (λ (m : ℕ). Leaves w facts path depth m count limit x left_facts left) d h)

pub ended_as : {I : Type 0} (w : Walker I) (r : Run I) (path : List ℕ) (depth : ℕ) (x y : Walked) (left_facts left : List ℕ)
    → x ≡ y → Ended w r path depth x left_facts left → Ended w r path depth y left_facts left
ended_as w r path depth x y left_facts left e h = subst (λ (z : Walked). Ended w r path depth z left_facts left) e h

-- ---- trying

module _ {I : Type 0} (w : Walker I) (facts path : List ℕ) (depth : ℕ) (node : Parted w facts path depth) where
  -- none is left
  pub tried_none : (count limit : ℕ) → count ≤ limit → Leaves w facts path depth (mark_at path depth) count limit (Shut count) facts path
  tried_none count limit within = record { grows = omega arith; within = within; undone = record { store = node.store; kept = λ i l. refl }; before = λ i l. refl }

  pub none_ended : (r : Run I) (count : ℕ) → length (alts_at w path depth) ≤ next_at path depth → Trying w r path depth count → Ended w r path depth (Shut count) facts path
  none_ended r count all due =
      next_as w.find r.start r.base count (next_in w path depth) (back (path_in w path depth))
      (ap (λ (ds : List ℕ). enter (w.instance (site_at w path depth)) ds (path_in w path depth) (back (path_in w path depth))) (drop_of_length-le (alts_at w path depth) all)) due

  -- one is entered, and it is shut: the next one is tried
  module _ (count : ℕ) (x : Told) (made_facts made : List ℕ) (went : Making w facts path depth count x made_facts made)
      {from : ℕ} (limit c : ℕ) (after_facts after : List ℕ) (size : length after ≡ 9227) (shut : AllShut w made_facts made (depth + 1) (mark_at path depth) from limit c after_facts after) where
    -- the node's own bytes are as they were left when the place was made
    own : (j : ℕ) → node_at depth ≤ j → j < node_at depth + 9 → get_or after j 0 ≡ get_or made j 0
    own = own_bytes made after (depth + 1) depth shut.before (omega arith)

    after_next : next_at after depth ≡ next_at path depth + 1
    after_next = next_same made after depth own ∙ went.passed.next

    pub after_mark : mark_at after depth ≡ mark_at path depth
    after_mark = mark_same made after depth own ∙ went.passed.mark_is

    pub after_before : PathKept path depth after
    after_before i l = shut.before i (omega arith) ∙ went.passed.before i l

    after_site : site_at w after depth ≡ site_at w path depth
    after_site = site_same w path after depth (number_same made after depth own ∙ went.passed.number_is) (four_same made after depth own ∙ went.passed.four)

    after-path : path_in w after depth ≡ path_in w path depth
    after-path = path_same w path after depth after_before

    pub after_logs : (i : ℕ) → i ≤ mark_at path depth → logged after_facts w.capacity i ≡ logged facts w.capacity i
    after_logs i l = shut.undone.kept i l ∙ went.logs i l

    after_log : logged facts w.capacity (mark_at path depth) ≡ logged after_facts w.capacity (mark_at after depth)
    after_log = sym (after_logs (mark_at path depth) (omega arith)) ∙ ap (logged after_facts w.capacity) (sym after_mark)

    pub after-Parted : Parted w after_facts after depth
    after-Parted =
        record {
          room = record { size = size; deep = node.room.deep };
          kept = subst w.Kept (sym after-path) node.kept;
          named = named_kept w path after depth after_before node.named;
          store = subst (Store w.capacity after_facts) (sym after_mark) shut.undone.store;
          at_split =
              split_same w path after depth (logged facts w.capacity (mark_at path depth)) (logged after_facts w.capacity (mark_at after depth)) after_site after-path after_log node.at_split;
        }

    -- a run is to go on behind the path with the entry, which is the next alternative
    pub after_tries : (r : Run I) → Ended w r made (depth + 1) (Shut c) after_facts after → Trying w r after depth c
    after_tries r behind =
        let one : suc (next_at path depth) ≡ next_at after depth = omega (arith, after_next) in
        let here : back (path_in w made (depth + 1)) ≡ next_in w after depth =
        ap back went.path_is ∙ rw (alts_at, after_site, after-path, one) in
        next_as w.find r.start r.base c (back (path_in w made (depth + 1))) (next_in w after depth) here behind

    -- one alternative less is left
    pub after_falls : next_at path depth < length (alts_at w path depth) → tries_left w after_facts after depth < tries_left w facts path depth
    after_falls some_left =
        let same : untrue (logged after_facts w.capacity (mark_at after depth)) w.atoms ≡ untrue (logged facts w.capacity (mark_at path depth)) w.atoms =
        ap (λ (log : List ℕ). untrue log w.atoms) (sym after_log) in
        let alts : length (alts_at w after depth) ≡ length (alts_at w path depth) = ap (λ (s : Site). length (w.alts s)) after_site in
        omega (arith, after_next)

-- ---- what falls

module _ {I : Type 0} (w : Walker I) (sound : Sound w) (facts path : List ℕ) (depth count : ℕ) (node : Parted w facts path depth)
    (some_left : next_at path depth < length (alts_at w path depth)) where
  -- the place made has an atom more that is true
  pub visit_falls : (x : Told) (made_facts made : List ℕ) → Making w facts path depth count x made_facts made → visits_left w made_facts made (depth + 1) x < tries_left w facts path depth
  visit_falls (ToldClosed n) made_facts made went = omega arith
  visit_falls (ToldOpen n) made_facts made went = omega arith
  visit_falls (ToldSplit n) made_facts made went =
      let a : ℕ = get_or (alts_at w path depth) (next_at path depth) 0 in
      let at = went.reached.ready.3 in
      let log : List ℕ = logged made_facts w.capacity (mark_at made (depth + 1)) in
      let grows : (y : ℕ) → In nat_key (logged facts w.capacity (mark_at path depth)) y → In nat_key log y =
      λ y t.
      logged_grows made_facts w.capacity (mark_at path depth) (mark_at made (depth + 1)) went.reached.ready.0 y
      (subst (λ (l : List ℕ). In nat_key l y) (sym (went.logs (mark_at path depth) (omega arith))) t) in
      let entered_in : In nat_key log a =
      (subst (λ (bs : List (Branch I)). All (In nat_key log) (entered bs)) went.path_is (sound.has_entered (site_at w made (depth + 1)) (entered (path_in w made (depth + 1))) log at.rests)).0 in
      let out : has nat_key (logged facts w.capacity (mark_at path depth)) a ≡ false =
      all_at (λ y. has nat_key (logged facts w.capacity (mark_at path depth)) y ≡ false) (alts_at w path depth) (next_at path depth) some_left
      (sound.untrue (site_at w path depth) (entered (path_in w path depth)) (logged facts w.capacity (mark_at path depth)) node.at_split.rests) in
      let small : a < w.atoms = sound.small (entry_at w path depth) (path_in w path depth) (node.at_split.enters (next_at path depth) some_left) in
      let falls : untrue log w.atoms < untrue (logged facts w.capacity (mark_at path depth)) w.atoms =
      untrue_falls (logged facts w.capacity (mark_at path depth)) log grows a out entered_in w.atoms small in
      omega arith
    where
      all_at : (P : ℕ → Type 0) (xs : List ℕ) (j : ℕ) → j < length xs → All P xs → P (get_or xs j 0)
      all_at P [] j l h = absurd (omega arith)
      all_at P (y ∷ ys) zero l h = h.0
      all_at P (y ∷ ys) (suc j) l h = all_at P ys j (omega arith) h.1

-- ---- the whole walk

-- a set is empty where no flag is up, whatever stands in the log's room
pub blank_store : (size : ℕ) (r : List ℕ) → length r ≡ 3 * size → ((a : ℕ) → a < size → get_or r a 0 ≡ 0) → Store size r 0
unfolding logged
blank_store size r room zeros = record { room = room; small = tt; distinct = tt; flags = zeros }

-- so it is where the flags alone, which come first, have been made zero
pub cleared_store : (size : ℕ) (r flags : List ℕ) → length r ≡ 3 * size → flags ≡ replicate (length (take size r)) 0 → Store size (flags ++ drop size r) 0
cleared_store size r flags room z =
    let many : length (take size r) ≡ size = length-take-le size r (omega arith) in
    let long : length flags ≡ size = ap length z ∙ length-replicate (length (take size r)) 0 ∙ many in
    blank_store size (flags ++ drop size r) (put_size size (3 * size) (omega arith) r room flags long)
    (λ a l. get_or-append flags (drop size r) 0 a (omega arith) ∙ ap (λ (x : List ℕ). get_or x a 0) z ∙ zeros_at (length (take size r)) a)

-- the root that has just been made is where a run from it begins, which brings the figure that stands behind the path
pub start_visiting : {I : Type 0} (w : Walker I) (limit : ℕ) (facts path : List ℕ) (x : Told) → Beginning w x facts path → Visiting w (from_root w (deepest_at path) limit) facts path 0 x 0
start_visiting {I} w limit facts path x begun =
    subst (λ (t : Place I). AtEntry w.find (root w.find) (deepest_at path) 0 0 t (deepest_at path)) begun.made (at_start w.find (root w.find) (deepest_at path) 0)

module _ {I : Type 0} (w : Walker I) (r : Run I) where
  -- visiting the root, or what a run has instead, is the whole run
  pub root_walks : (facts path : List ℕ) (done count : ℕ) (y : Walked) (left_facts left : List ℕ) → Leaves w facts path 0 done count r.limit y left_facts left → Ended w r path 0 y left_facts left
      → Walks w r y left_facts left
  unfolding path_in
  root_walks facts path done count (Shut c) left_facts left h t = (
    all_made w.find r.start r.base r.limit c t.latest t.at_latest h.within (ap (placed w.find) t.next),
    t,
    h.within,
  )
  root_walks facts path done count (Opened c d) left_facts left h t = (
    all_made w.find r.start r.base r.limit c (place_in w left_facts left d (ToldOpen 0)) t h.within
        (open_over w.find r.start r.base r.limit (place_in w left_facts left d (ToldOpen 0)) (bits_in w left_facts) refl),
    t,
    h,
  )
  root_walks facts path done count (LimitMet d) left_facts left h t = (t, h)

  -- and it tells the outcome
  pub walks_tell : (y : Walked) (facts path : List ℕ) → Walks w r y facts path → Tells w r y facts
  walks_tell (Shut c) facts path h = answer_shut w.find r.start r.base r.limit c h.1 h.2
  walks_tell (Opened c d) facts path h =
      answer_open w.find r.start r.base r.limit c (place_in w facts path d (ToldOpen 0)) (bits_in w facts) h.1 h.2.within refl
  walks_tell (LimitMet d) facts path h =
      answer_due w.find r.start r.base r.limit (entry_at w path d ∷ path_in w path d)
      (next_as w.find r.start r.base r.limit (next_in w path d) (some (entry_at w path d ∷ path_in w path d)) (next_some w path d h.1.left_over) h.0)
