-- A session stands at a place exactly where it is `Right`, for any way of finding a node.
use Prim.Native.Nat.{ℕ, ◌-◌, ◌≤◌}
use mathlib.Core.Bool.{Bool, true, false, cond, ◌&&◌}
use mathlib.Core.List.{List, [], ◌∷◌}
use mathlib.Core.Option.{none, some}
use mathlib.Core.Path.{◌≡◌, refl, sym, ap, ap₂, subst, ◌∙◌}
use native.Mathlib.Omega.{arith}
use lib.Dec.{T, eqb, leb}
use lib.ListN.{length, drop, length-drop}
use lib.Seq.{drop-length}
use borrow.Author.Tests.{le-leb, leb-true, eq-eqb, eqb-true}
use Rattle.search.specs.Ground.{Found, closed, opened, split}
use Rattle.search.specs.Machine.{Branch, Place, entered}
use Rattle.search.specs.Session.{Step, Standing, refuted, satisfied, exhausted, Session, alts_found, node_taken, is_open, is_over, is_root, is_standing_at, path_of, place_of, stands_in, steps_of}
use Rattle.search.specs.SessionRight.{atoms_of, StepsRight, Right, StandsThere}
use Rattle.search.proofs.Deepest.{deep_stands_lem, steps_length}
use Rattle.search.proofs.Session.{cond-some, node_tried, is_taken, next_after, step_off, path_genuine, Stands, stands_at, at_stands, in_stands}
use Rattle.search.proofs.SessionRest.{tried_open}

-- ---- its path

module _ {I : Type 0} (find : List ℕ → Found I) where
  -- what steps say of the path that they stand for
  pub record PathRight (steps : List Step) (bs : List (Branch I)) : Type 0 where
    pub right : StepsRight find steps
    pub entered_is : entered bs ≡ atoms_of steps
    pub steps_are : steps_of find bs ≡ steps

  pub path_right : (steps : List Step) (bs : List (Branch I)) → path_of find steps ≡ some bs → PathRight steps bs
  path_right [] bs e = let same : [] ≡ bs = cc in subst (PathRight []) same (record { right = tt; entered_is = refl; steps_are = refl })
  path_right (s ∷ steps) bs e =
      let w = step_off find s steps bs e in
      let t = w.2 in
      let r = path_right steps w.0 w.1 in
      subst
      (PathRight (s ∷ steps))
      t.entry
      (record {
        right = (record { site = t.site; tried = t.tried; left = t.left; found = ap find (sym r.entered_is) ∙ t.found; next_is = t.next_is }, r.right);
        entered_is = ap {B = List ℕ} (λ l. s.atom ∷ l) r.entered_is;
        steps_are =
            ap₂
            (λ (n : ℕ) (rest : List Step). record { atom = s.atom; next = n } ∷ rest)
            (next_after t.site t.tried t.left s.atom (find (entered w.0)) t.found ∙ sym t.next_is)
            r.steps_are;
      })

  right_path : (steps : List Step) → StepsRight find steps → (bs : List (Branch I)) × (path_of find steps ≡ some bs)
  right_path [] r = ([], refl)
  right_path (s ∷ steps) r =
      let w = right_path steps r.1 in
      let same : entered w.0 ≡ atoms_of steps = (path_right steps w.0 w.1).entered_is in
      let h = r.0 in (
        record { site = h.site; atom = s.atom; rest = h.left } ∷ w.0,
        rw w.1 (is_taken h.site h.tried h.left s.atom s.next w.0 (find (entered w.0)) (ap find same ∙ h.found) h.next_is),
      )

-- ---- its last node

and_parts : (a b : Bool) → (a && b) ≡ true → (a ≡ true) × (b ≡ true)
and_parts true b e = (refl, e)
and_parts false b e = absurd (subst T (sym e) tt)

module _ {I : Type 0} where
  -- what `Right` says of the node that a path leads to
  record NodeRight (f : Found I) (next : ℕ) (standing : Standing) (bs : List (Branch I)) : Type 0 where
    next_within : next ≤ length (alts_found f)
    satisfied_open : standing ≡ satisfied → (bits : List Bool) × (f ≡ opened bits)
    refuted_root : standing ≡ refuted → bs ≡ []
    refuted_over : standing ≡ refuted → next ≡ length (alts_found f)
    refuted_shut : standing ≡ refuted → (bits : List Bool) → f ≡ opened bits → ⊥

  node_fits : (f h : Found I) (next : ℕ) → node_taken f next ≡ some h → next ≤ length (alts_found f)
  node_fits closed h next e = let z : next ≡ 0 = eqb-true next 0 (cond-some (eqb next 0) closed h e).0 in omega arith
  node_fits (opened bits) h next e = let z : next ≡ 0 = eqb-true next 0 (cond-some (eqb next 0) (opened bits) h e).0 in omega arith
  node_fits (split i ds) h next e = leb-true next (length ds) (cond-some (leb next (length ds)) (split i (drop next ds)) h e).0

  open_is : (f : Found I) → is_open f ≡ true → (bits : List Bool) × (f ≡ opened bits)
  open_is closed e = absurd (subst T (sym e) tt)
  open_is (opened bits) e = (bits, refl)
  open_is (split i ds) e = absurd (subst T (sym e) tt)

  root_is : (bs : List (Branch I)) → is_root bs ≡ true → bs ≡ []
  root_is [] e = refl
  root_is (b ∷ bs) e = absurd (subst T (sym e) tt)

  over_shut : (f : Found I) → is_over f ≡ true → is_open f ≡ true → ⊥
  over_shut closed e u = subst T (sym u) tt
  over_shut (opened bits) e u = subst T (sym e) tt
  over_shut (split i ds) e u = subst T (sym u) tt

  over_none : (i : I) (ds : List ℕ) → is_over (split i ds) ≡ true → ds ≡ []
  over_none i [] e = refl
  over_none i (d ∷ ds) e = absurd (subst T (sym e) tt)

  over_next : (f h : Found I) (next : ℕ) → node_taken f next ≡ some h → is_over h ≡ true → next ≡ length (alts_found f)
  over_next closed h next e u = eqb-true next 0 (cond-some (eqb next 0) closed h e).0
  over_next (opened bits) h next e u = eqb-true next 0 (cond-some (eqb next 0) (opened bits) h e).0
  over_next (split i ds) h next e u =
      let c = cond-some (leb next (length ds)) (split i (drop next ds)) h e in
      let used : drop next ds ≡ [] = over_none i (drop next ds) (ap is_over c.1 ∙ u) in
      let gone : length ds - next ≡ 0 = sym (length-drop next ds) ∙ ap (λ (l : List ℕ). length l) used in
      omega (arith, leb-true next (length ds) c.0)

  node_right : (f h : Found I) (next : ℕ) (standing : Standing) (bs : List (Branch I)) → node_taken f next ≡ some h → is_standing_at standing (record { path = bs; found = h }) ≡ true
      → NodeRight f next standing bs
  node_right f h next standing bs e t =
      let n = node_tried f h next e in
      let at : (x : Standing) → standing ≡ x → is_standing_at x (record { path = bs; found = h }) ≡ true = λ x q. ap (λ (y : Standing). is_standing_at y (record { path = bs; found = h })) (sym q) ∙ t in
      record {
        next_within = node_fits f h next e;
        satisfied_open = λ q. open_is f (ap is_open n.1 ∙ tried_open n.0 h ∙ at satisfied q);
        refuted_root = λ q. root_is bs (and_parts (is_root bs) (is_over h) (at refuted q)).0;
        refuted_over = λ q. over_next f h next e (and_parts (is_root bs) (is_over h) (at refuted q)).1;
        refuted_shut = λ q bits u. over_shut h (and_parts (is_root bs) (is_over h) (at refuted q)).1 (sym (tried_open n.0 h) ∙ ap is_open (sym n.1 ∙ u));
      }

  -- the node with its first alternatives taken off
  abbrev node_after : Found I → ℕ → Found I
  node_after closed next = closed
  node_after (opened bits) next = opened bits
  node_after (split i ds) next = split i (drop next ds)

  node_after_lem : (f : Found I) (next : ℕ) → next ≤ length (alts_found f) → node_taken f next ≡ some (node_after f next)
  node_after_lem closed next h = rw (eq-eqb next 0 (omega arith))
  node_after_lem (opened bits) next h = rw (eq-eqb next 0 (omega arith))
  node_after_lem (split i ds) next h = rw (le-leb next (length ds) h)

  -- and no other
  taken_after : (f h : Found I) (next : ℕ) → node_taken f next ≡ some h → h ≡ node_after f next
  taken_after closed h next e = sym (cond-some (eqb next 0) closed h e).1
  taken_after (opened bits) h next e = sym (cond-some (eqb next 0) (opened bits) h e).1
  taken_after (split i ds) h next e = sym (cond-some (leb next (length ds)) (split i (drop next ds)) h e).1

  after_over : (f : Found I) (next : ℕ) → next ≡ length (alts_found f) → ((bits : List Bool) → f ≡ opened bits → ⊥) → is_over (node_after f next) ≡ true
  after_over closed next e s = refl
  after_over (opened bits) next e s = absurd (s bits refl)
  after_over (split i ds) next e s = rw (e, drop-length ds)

  right_node : (f : Found I) (next : ℕ) (standing : Standing) (bs : List (Branch I)) → NodeRight f next standing bs
      → is_standing_at standing (record { path = bs; found = node_after f next }) ≡ true
  right_node f next refuted bs r = rw (r.refuted_root refl) (after_over f next (r.refuted_over refl) (r.refuted_shut refl))
  right_node f next satisfied bs r = let o = r.satisfied_open refl in rw o.1
  right_node f next exhausted bs r = refl

-- ---- the whole

module _ {I : Type 0} (find : List ℕ → Found I) where
  root_steps : (bs : List (Branch I)) → steps_of find bs ≡ [] → bs ≡ []
  root_steps [] e = refl
  root_steps (b ∷ bs) e = let z : ◌≡◌ {A = ℕ} 0 1 = cc in absurd (omega arith)

  pub right_stands : {atoms : ℕ} (s : Session) → Right find atoms s → (t : Place I) × (place_of find s ≡ some t)
  right_stands s r =
      let w = right_path find s.path r.steps in
      let p = path_right find s.path w.0 w.1 in
      let there : NodeRight (find (atoms_of s.path)) s.next s.standing w.0 =
      record {
        next_within = r.next_within;
        satisfied_open = r.satisfied_open;
        refuted_root = λ q. root_steps w.0 (p.steps_are ∙ r.refuted_root q);
        refuted_over = r.refuted_over;
        refuted_shut = r.refuted_shut;
      } in
      let n : NodeRight (find (entered w.0)) s.next s.standing w.0 =
      subst (λ (l : List ℕ). NodeRight (find l) s.next s.standing w.0) (sym p.entered_is) there in
      let t : Place I = record { path = w.0; found = node_after (find (entered w.0)) s.next } in (
        t,
        stands_at
            find
            s
            t
            (record {
              path_of = w.1;
              node_of = node_after_lem (find (entered w.0)) s.next n.next_within;
              right_there = right_node (find (entered w.0)) s.next s.standing w.0 n;
            }),
      )

  pub stands_right : (atoms : ℕ) (s : Session) (t : Place I) → place_of find s ≡ some t → length s.path ≤ s.deepest → s.deepest ≤ atoms → Right find atoms s
  stands_right atoms s t e enough most =
      let w : Stands find s t = at_stands find s t e in
      let p = path_right find s.path t.path w.path_of in
      let n : NodeRight (find (atoms_of s.path)) s.next s.standing t.path =
      subst
      (λ (l : List ℕ). NodeRight (find l) s.next s.standing t.path)
      p.entered_is
      (node_right (find (entered t.path)) t.found s.next s.standing t.path w.node_of w.right_there) in
      record {
        steps = p.right;
        next_within = n.next_within;
        satisfied_open = n.satisfied_open;
        refuted_root = λ q. sym p.steps_are ∙ ap (steps_of find) (n.refuted_root q);
        refuted_over = n.refuted_over;
        refuted_shut = n.refuted_shut;
        deep_enough = enough;
        deep_within = most;
      }

  -- its path is as long as that of its place
  pub stands_length : (s : Session) (t : Place I) → place_of find s ≡ some t → length s.path ≡ length t.path
  stands_length s t e =
      let p = path_right find s.path t.path (at_stands find s t e).path_of in
      ap (λ (steps : List Step). length steps) (sym p.steps_are) ∙ steps_length find t.path

  -- and so with its figure
  pub right_in : (atoms : ℕ) (s : Session) → Right find atoms s → (t : Place I) × (stands_in find atoms s ≡ some t)
  right_in atoms s r =
      let w = right_stands s r in
      (w.0, ap (λ (b : Bool). cond b (place_of find s) none) (deep_stands_lem atoms s r.deep_enough r.deep_within) ∙ w.1)

  pub in_right : (atoms : ℕ) (s : Session) (t : Place I) → stands_in find atoms s ≡ some t → Right find atoms s
  in_right atoms s t e =
      let w = in_stands find atoms s t e in
      let deep = and_parts (leb (length s.path) s.deepest) (leb s.deepest atoms) w.0 in
      stands_right atoms s t w.1 (leb-true (length s.path) s.deepest deep.0) (leb-true s.deepest atoms deep.1)

  pub stands_there : (s : Session) (t : Place I) → place_of find s ≡ some t → StandsThere find s t
  stands_there s t e =
      let w : Stands find s t = at_stands find s t e in
      let p = path_right find s.path t.path w.path_of in
      let found : t.found ≡ node_after (find (atoms_of s.path)) s.next =
      taken_after (find (entered t.path)) t.found s.next w.node_of ∙ ap (λ (l : List ℕ). node_after (find l) s.next) p.entered_is in
      let so : (f : Found I) → find (atoms_of s.path) ≡ f → t.found ≡ node_after f s.next = λ f q. found ∙ ap (λ (g : Found I). node_after g s.next) q in
      record {
        stands = e;
        path_is = p.entered_is;
        genuine = path_genuine find s.path t.path w.path_of;
        steps_are = p.steps_are;
        found_closed = so closed;
        found_open = λ bits. so (opened bits);
        found_split = λ i ds. so (split i ds);
      }
