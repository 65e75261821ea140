-- What a session holds is a place where the walk may be, for any way of finding a node.
use Prim.Native.Nat.{ℕ, suc, ◌-◌, ◌≤◌, ◌<◌}
use mathlib.Core.Bool.{Bool, true, false, cond, ◌&&◌}
use mathlib.Core.List.{List, [], ◌∷◌, ◌++◌}
use mathlib.Core.Option.{Option, none, some, none-ne-some}
use mathlib.Core.Path.{◌≡◌, refl, sym, ap, subst, ◌∙◌}
use native.Mathlib.Omega.{arith}
use lib.Dec.{T, eqb, ltb, leb, ltb→lt, leb→le, eqb→eq}
use lib.ListN.{length, take, drop, get_or, length-append, take-append-drop}
use lib.Seq.{split_at, length-take-le, drop-append_seam}
use borrow.Author.Tests.{lt-ltb, le-leb, eq-eqb}
use Rattle.lists.proofs.Bytes.{drop_next}
use Rattle.lists.specs.Test.{T_left, T_right}
use Rattle.search.specs.Ground.{Found, closed, opened, split}
use Rattle.search.specs.Machine.{Branch, Place, entered, Genuine}
use Rattle.search.specs.Session.{Step, Session, alts_found, step_taken, node_taken, is_standing_at, deep_stands, where_stands, path_of, node_of, place_of, stands_in, steps_of}
use Rattle.search.proofs.Path.{with_tried, Reached}

pub cond-some : {A : Type 0} (b : Bool) (x y : A) → cond b (some x) none ≡ some y → (b ≡ true) × (x ≡ y)
cond-some true x y e = (refl, (cc))
cond-some false x y e = absurd (none-ne-some y e)

-- the same of an option that is tested first
guarded_some : {A : Type 0} (b : Bool) (o : Option A) (y : A) → cond b o none ≡ some y → (b ≡ true) × (o ≡ some y)
guarded_some true o y e = (refl, e)
guarded_some false o y e = absurd (none-ne-some y e)

-- what is taken off a node was tried
pub node_tried : {I : Type 0} (f h : Found I) (next : ℕ) → node_taken f next ≡ some h → (tried : List ℕ) × (f ≡ with_tried tried h)
node_tried closed h next e = ([], ap (with_tried []) (cond-some (eqb next 0) closed h e).1)
node_tried (opened bits) h next e = ([], ap (with_tried []) (cond-some (eqb next 0) (opened bits) h e).1)
node_tried (split i ds) h next e =
    (take next ds, ap (split i) (sym (take-append-drop next ds)) ∙ ap (with_tried (take next ds)) (cond-some (leb next (length ds)) (split i (drop next ds)) h e).1)

-- a step enters the alternative just before its next one
pub record Taken {I : Type 0} (f : Found I) (s : Step) (bs cs : List (Branch I)) : Type 0 where
  pub site : I
  pub tried : List ℕ
  pub left : List ℕ
  pub found : f ≡ split site (tried ++ (s.atom ∷ left))
  pub next_is : s.next ≡ suc (length tried)
  pub entry : record { site = site; atom = s.atom; rest = left } ∷ bs ≡ cs

pub taken_is : {I : Type 0} (f : Found I) (s : Step) (bs cs : List (Branch I)) → step_taken f s bs ≡ some cs → Taken f s bs cs
taken_is closed s bs cs q = absurd (none-ne-some cs q)
taken_is (opened bits) s bs cs q = absurd (none-ne-some cs q)
taken_is (split i ds) s bs cs q =
    let within : Bool = ltb 0 s.next && leb s.next (length ds) in
    let here : Bool = eqb (get_or ds (s.next - 1) 0) s.atom in
    let taken = cond-some (within && here) (record { site = i; atom = s.atom; rest = drop s.next ds } ∷ bs) cs q in
    let passed : T (within && here) = subst T (sym taken.0) tt in
    let bounds : T within = T_left within here passed in
    let some_tried : 0 < s.next = ltb→lt 0 s.next (T_left (ltb 0 s.next) (leb s.next (length ds)) bounds) in
    let below : s.next ≤ length ds = leb→le s.next (length ds) (T_right (ltb 0 s.next) (leb s.next (length ds)) bounds) in
    let it : get_or ds (s.next - 1) 0 ≡ s.atom = eqb→eq (get_or ds (s.next - 1) 0) s.atom (T_right within here passed) in
    let after_it : suc (s.next - 1) ≡ s.next = omega arith in
    record {
      site = i;
      tried = take (s.next - 1) ds;
      left = drop s.next ds;
      found = ap (split i) (rw (it, after_it) at (split_at ds (s.next - 1) 0 (omega arith)));
      next_is = sym (ap suc (length-take-le (s.next - 1) ds (omega arith)) ∙ after_it);
      entry = taken.1;
    }

pub is_taken : {I : Type 0} (i : I) (tried left : List ℕ) (a next : ℕ) (bs : List (Branch I)) (f : Found I) → f ≡ split i (tried ++ (a ∷ left)) → next ≡ suc (length tried)
    → step_taken f (record { atom = a; next = next }) bs ≡ some (record { site = i; atom = a; rest = left } ∷ bs)
is_taken i tried left a next bs f e n =
    let ds : List ℕ = tried ++ (a ∷ left) in
    let d = drop_next ds (length tried) a left (drop-append_seam tried (a ∷ left)) in
    let before : suc (length tried) - 1 ≡ length tried = omega arith in
    let some_tried : ltb 0 (suc (length tried)) ≡ true = lt-ltb 0 (suc (length tried)) (omega arith) in
    rw (e, n, some_tried, le-leb (suc (length tried)) (length ds) d.0, before, eq-eqb (get_or ds (length tried) 0) a d.1, d.2)

-- the next alternative after one that is entered
pub next_after : {I : Type 0} (i : I) (tried left : List ℕ) (a : ℕ) (f : Found I) → f ≡ split i (tried ++ (a ∷ left)) → length (alts_found f) - length left ≡ suc (length tried)
next_after i tried left a f e = rw e (omega (arith, length-append tried (a ∷ left)))

module _ {I : Type 0} (find : List ℕ → Found I) where
  -- the path without its latest step, and that step
  pub step_off : (s : Step) (steps : List Step) (bs : List (Branch I)) → path_of find (s ∷ steps) ≡ some bs
      → (cs : List (Branch I)) × (path_of find steps ≡ some cs) × Taken (find (entered cs)) s cs bs
  step_off s steps bs e = go (path_of find steps) refl e
    where
      go : (o : Option (List (Branch I))) → path_of find steps ≡ o
          → ◌≡◌ {A = Option (List (Branch I))} (elim o [ none ↦ none | some cs ↦ step_taken (find (entered cs)) s cs ]) (some bs)
          → (cs : List (Branch I)) × (path_of find steps ≡ some cs) × Taken (find (entered cs)) s cs bs
      go none u w = absurd (none-ne-some bs w)
      go (some cs) u w = (cs, u, taken_is (find (entered cs)) s cs bs w)

  pub path_genuine : (steps : List Step) (bs : List (Branch I)) → path_of find steps ≡ some bs → Genuine find bs
  path_genuine [] bs e = let same : [] ≡ bs = cc in subst (Genuine find) same tt
  path_genuine (s ∷ steps) bs e =
      let w = step_off s steps bs e in
      subst (Genuine find) w.2.entry ((w.2.tried, w.2.found), path_genuine steps w.0 w.1)

  pub steps_path : (bs : List (Branch I)) → Genuine find bs → path_of find (steps_of find bs) ≡ some bs
  steps_path [] g = refl
  steps_path (b ∷ bs) g =
      let next = next_after b.site g.0.0 b.rest b.atom (find (entered bs)) g.0.1 in
      rw (steps_path bs g.1) (is_taken b.site g.0.0 b.rest b.atom _ bs (find (entered bs)) g.0.1 next)

  -- the parts of where a session stands
  pub record Stands (s : Session) (t : Place I) : Type 0 where
    pub path_of : path_of find s.path ≡ some t.path
    pub node_of : node_taken (find (entered t.path)) s.next ≡ some t.found
    pub right_there : is_standing_at s.standing t ≡ true

  pub stands_at : (s : Session) (t : Place I) → Stands s t → place_of find s ≡ some t
  unfolding place_of
  stands_at s t w = rw (place_of, w.path_of, node_of, w.node_of, w.right_there)

  node_at : (bs : List (Branch I)) (next : ℕ) (t : Place I) → node_of find bs next ≡ some t → (bs ≡ t.path) × (node_taken (find (entered bs)) next ≡ some t.found)
  node_at bs next t e = go (node_taken (find (entered bs)) next) e
    where
      go : (o : Option (Found I)) → ◌≡◌ {A = Option (Place I)} (elim o [ none ↦ none | some f ↦ some (record { path = bs; found = f }) ]) (some t)
          → (bs ≡ t.path) × (o ≡ some t.found)
      go none w = absurd (none-ne-some t w)
      go (some f) w =
          let same : record { path = bs; found = f } ≡ t = cc in
          (ap (λ (x : Place I). x.path) same, ap (λ (x : Place I). some x.found) same)

  pub at_stands : (s : Session) (t : Place I) → place_of find s ≡ some t → Stands s t
  unfolding place_of
  at_stands s t e = go (path_of find s.path) refl e
    where
      at : (bs : List (Branch I)) → path_of find s.path ≡ some bs → (o : Option (Place I)) → node_of find bs s.next ≡ o
          → ◌≡◌ {A = Option (Place I)} (elim o [ none ↦ none | some u ↦ where_stands s.standing u ]) (some t) → Stands s t
      at bs d none u w = absurd (none-ne-some t w)
      at bs d (some v) u w =
          let here = cond-some (is_standing_at s.standing v) v t w in
          let n = node_at bs s.next v u in
          subst
          (Stands s)
          here.1
          (record {
            path_of = d ∙ ap some n.0;
            node_of = subst (λ (cs : List (Branch I)). node_taken (find (entered cs)) s.next ≡ some v.found) n.0 n.1;
            right_there = here.0;
          })

      go : (o : Option (List (Branch I))) → path_of find s.path ≡ o
          → ◌≡◌ {A = Option (Place I)} (elim o [ none ↦ none | some bs ↦ elim (node_of find bs s.next) [ none ↦ none | some u ↦ where_stands s.standing u ] ]) (some t) → Stands s t
      go none u w = absurd (none-ne-some t w)
      go (some bs) u w = at bs u (node_of find bs s.next) refl w

  -- a session that stands over so many atoms has the figure of a path, and stands
  pub in_stands : (atoms : ℕ) (s : Session) (t : Place I) → stands_in find atoms s ≡ some t → (deep_stands atoms s ≡ true) × (place_of find s ≡ some t)
  in_stands atoms s t e = guarded_some (deep_stands atoms s) (place_of find s) t e

  pub stands_reached : (s : Session) (t : Place I) → place_of find s ≡ some t → Reached find t
  stands_reached s t e =
      let w : Stands s t = at_stands s t e in
      (path_genuine s.path t.path w.path_of, node_tried (find (entered t.path)) t.found s.next w.node_of)
