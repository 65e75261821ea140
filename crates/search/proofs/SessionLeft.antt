-- What a run leaves is as `RunLeft` says, and a call is answered as `AnySession` says, for any way of finding a node.
use Prim.Native.Nat.{ℕ, zero, suc, ◌+◌, ◌-◌, ◌≤◌, ◌<◌}
use mathlib.Core.Bool.{true}
use mathlib.Core.List.{List, [], ◌∷◌, ◌++◌}
use mathlib.Core.Option.{Option, none, some, none-ne-some}
use mathlib.Core.Path.{◌≡◌, refl, sym, ap, ap₂, subst, ◌∙◌}
use native.Mathlib.Omega.{arith}
use lib.Dec.{T}
use lib.ListN.{length, get_or}
use lib.Seq.{drop-append_seam}
use borrow.Author.Tests.{lt-ltb, le-ltb}
use Rattle.lists.proofs.Bytes.{drop_next}
use Rattle.search.specs.Ground.{Found, closed, opened, split}
use Rattle.search.specs.Deepest.{Exact}
use Rattle.search.specs.Machine.{Branch, Place, entered, after, next_path, Outcome, Satisfied, Refuted, Exhausted, stopped, answer_at, answer, last, longest, placed, advance, root, entries, proceed, Genuine}
use Rattle.search.specs.Session.{Step, Standing, refuted, satisfied, exhausted, Session, alts_found, is_standing_at, place_of, stands_in, steps_of, due_at, left_by, session_after, declined, told, called}
use Rattle.search.specs.SessionRight.{atoms_of, standing_of, count_of, alts_here, ShortPaths, Right, RunLeft, CallTold, AnySession}
use Rattle.search.proofs.Machine.{entries-zero, entries-none, entries-some}
use Rattle.search.proofs.Path.{with_tried, Reached, place-Reached, next_genuine, last-Reached}
use Rattle.search.proofs.Deepest.{exact_bounds, session_exact, session_enough, session_most}
use Rattle.search.proofs.Session.{next_after, Stands, at_stands, in_stands, stands_reached}
use Rattle.search.proofs.SessionRest.{after_made, rests}
use Rattle.search.proofs.SessionRight.{path_right, right_in, in_right, stands_right, stands_length, stands_there}
use Rattle.search.proofs.SessionWalk.{session_none}

-- the alternative that is due at a node
due_alt : {I : Type 0} (c : Branch I) (tried : List ℕ) (f : Found I) → f ≡ split c.site (tried ++ (c.atom ∷ c.rest))
    → (length (alts_found f) - suc (length c.rest) < length (alts_found f)) × (get_or (alts_found f) (length (alts_found f) - suc (length c.rest)) 0 ≡ c.atom)
due_alt c tried f e =
    let ds : List ℕ = tried ++ (c.atom ∷ c.rest) in
    let due : length (alts_found f) - suc (length c.rest) ≡ length tried = omega (arith, next_after c.site tried c.rest c.atom f e) in
    let d = drop_next ds (length tried) c.atom c.rest (drop-append_seam tried (c.atom ∷ c.rest)) in
    rw (due, e) (d.0, d.1)

module _ {I : Type 0} (find : List ℕ → Found I) where
  -- ---- what a run leaves

  steps_atoms : (bs : List (Branch I)) → atoms_of (steps_of find bs) ≡ entered bs
  steps_atoms [] = refl
  steps_atoms (b ∷ bs) = ap {B = List ℕ} (λ l. b.atom ∷ l) (steps_atoms bs)

  due_told : (n d : ℕ) (o : Option (List (Branch I))) → ((due_at find n d o).standing ≡ exhausted) × ((due_at find n d o).count ≡ n)
  due_told n d none = (refl, refl)
  due_told n d (some []) = (refl, refl)
  due_told n d (some (b ∷ bs)) = (refl, refl)

  left_told : (x : Outcome) (d : ℕ) (u : Place I) → ((left_by find x d u).standing ≡ standing_of x) × ((left_by find x d u).count ≡ count_of x)
  left_told (Satisfied n bits) d u = (refl, refl)
  left_told (Refuted n) d u = (refl, refl)
  left_told (Exhausted n) d u = due_told n d (next_path u)

  left_satisfied : (x : Outcome) (d : ℕ) (u : Place I) → (left_by find x d u).standing ≡ satisfied → atoms_of (left_by find x d u).path ≡ entered u.path
  left_satisfied (Satisfied n bits) d u e = steps_atoms u.path
  left_satisfied (Refuted n) d u e = let z : ◌≡◌ {A = ℕ} 0 1 = cc in absurd (omega arith)
  left_satisfied (Exhausted n) d u e = let s : exhausted ≡ satisfied = sym (due_told n d (next_path u)).0 ∙ e in let z : ◌≡◌ {A = ℕ} 0 1 = cc in absurd (omega arith)

  -- where the next entry is due
  record Due (u : Place I) (n d : ℕ) : Type 0 where
    branch : Branch I
    path : List (Branch I)
    next_is : next_path u ≡ some (branch ∷ path)
    left_is : left_by find (answer u n) d u ≡ due_at find n d (some (branch ∷ path))

  left_due : (u : Place I) (n d : ℕ) → (left_by find (answer u n) d u).standing ≡ exhausted → Due u n d
  left_due u n d e = go u.found u.path e
    where
      stop : (v : Place I) (o : Option (List (Branch I))) → next_path v ≡ o → answer v n ≡ stopped o n → (left_by find (stopped o n) d v).standing ≡ exhausted → Due v n d
      stop v none w a q = let z : ◌≡◌ {A = ℕ} 0 1 = cc in absurd (omega arith)
      stop v (some []) w a q = absurd (after_made v.found v.path w)
      stop v (some (b ∷ bs)) w a q = record { branch = b; path = bs; next_is = w; left_is = ap (λ (x : Outcome). left_by find x d v) a ∙ ap (due_at find n d) w }

      go : (f : Found I) (bs : List (Branch I)) → (left_by find (answer (record { path = bs; found = f }) n) d (record { path = bs; found = f })).standing ≡ exhausted
          → Due (record { path = bs; found = f }) n d
      go closed bs q = stop (record { path = bs; found = closed }) (after closed bs) refl refl q
      go (opened bits) bs q = let z : ◌≡◌ {A = ℕ} 0 1 = cc in absurd (omega arith)
      go (split i ds) bs q = stop (record { path = bs; found = split i ds }) (after (split i ds) bs) refl refl q

  -- where a further entry can be made, all that are allowed were made
  all_made : (n : ℕ) (t : Place I) (bs : List (Branch I)) → next_path (last t (entries find n t)) ≡ some bs → length (entries find n t) ≡ n
  all_made zero t bs e = ap (λ (es : List (Place I)). length es) (entries-zero find t)
  all_made (suc n) t bs e = go (advance find t) refl (all_made n)
    where
      go : (o : Option (Place I)) → advance find t ≡ o → ((u : Place I) (cs : List (Branch I)) → next_path (last u (entries find n u)) ≡ some cs → length (entries find n u) ≡ n)
          → length (entries find (suc n) t) ≡ suc n
      go none q f =
          let here : next_path t ≡ some bs = subst (λ (es : List (Place I)). next_path (last t es) ≡ some bs) (entries-none find (suc n) t q) e in
          absurd (none-ne-some _ (sym q ∙ ap (placed find) here))
      go (some u) q f =
          let made = entries-some find n t u q in
          ap (λ (es : List (Place I)). length es) made ∙ ap suc (f u bs (subst (λ (es : List (Place I)). next_path (last t es) ≡ some bs) made e))

  record DueLeft (u : Place I) (left : Session) : Type 0 where
    due : left.next < length (alts_here find left)
    next : (bs : List (Branch I)) → next_path u ≡ some bs → entered bs ≡ get_or (alts_here find left) left.next 0 ∷ atoms_of left.path

  due_left : (u : Place I) (n e : ℕ) → Reached find u → (left_by find (answer u n) e u).standing ≡ exhausted → DueLeft u (left_by find (answer u n) e u)
  due_left u n e r q =
      let w = left_due u n e q in
      let g : Genuine find (w.branch ∷ w.path) = next_genuine find u (w.branch ∷ w.path) r w.next_is in
      let d = due_alt w.branch g.0.0 (find (entered w.path)) g.0.1 in
      let at : find (atoms_of (steps_of find w.path)) ≡ find (entered w.path) = ap find (steps_atoms w.path) in
      subst
      (DueLeft u)
      (sym w.left_is)
      (record {
        due = rw at d.0;
        next = λ bs v.
            let same : w.branch ∷ w.path ≡ bs = cc in
            rw (at, d.1, steps_atoms w.path) (ap entered (sym same));
      })

  pub run_made : (t : Place I) (base limit : ℕ) → Reached find t → count_of (proceed find limit base t) ≡ base + length (entries find limit t)
  unfolding proceed
  run_made t base limit r =
      let u : Place I = last t (entries find limit t) in
      let n : ℕ = base + length (entries find limit t) in
      sym (left_told (answer u n) 0 u).1 ∙ (rests find u n 0 (last-Reached find limit t r)).counted

  pub run_left : (atoms : ℕ) → ShortPaths find atoms → (t : Place I) (base brought limit : ℕ) → Reached find t → length t.path ≤ brought → brought ≤ atoms
      → RunLeft find atoms t base brought limit (proceed find limit base t) (session_after find limit base brought t)
  unfolding session_after proceed
  run_left atoms short t base brought limit r h most =
      let u : Place I = last t (entries find limit t) in
      let n : ℕ = base + length (entries find limit t) in
      let d : ℕ = longest brought (entries find limit t) in
      let reached : Reached find u = last-Reached find limit t r in
      let s = rests find u n d reached in
      let l = left_told (answer u n) d u in
      let within : (left_by find (answer u n) d u).deepest ≤ atoms = session_most find atoms short limit base brought t r most in
      let exact : Exact brought (entries find limit t) (left_by find (answer u n) d u).deepest = session_exact find limit base brought t in
      record {
        verdict_is = l.0;
        count_is = l.1;
        made = run_made t base limit r;
        right = stands_right find atoms (left_by find (answer u n) d u) s.at s.stands (session_enough find limit base brought t h) within;
        exhausted_all = λ e. s.counted ∙ ap (λ (k : ℕ). base + k) (all_made limit t _ (left_due u n d e).next_is);
        exhausted_due = λ e. (due_left u n d reached e).due;
        exhausted_next = λ bs e q. (due_left u n d reached e).next bs q;
        satisfied_last = left_satisfied (answer u n) d u;
        deepest_bounds = exact_bounds atoms brought t (entries find limit t) (left_by find (answer u n) d u).deepest h within exact;
        deepest_exact = exact;
      }

  -- ---- a finished session

  finished_left : (standing : Standing) (bs : List (Branch I)) (f : Found I) (tried : List ℕ) (n d : ℕ) → find (entered bs) ≡ with_tried tried f
      → is_standing_at standing (record { path = bs; found = f }) ≡ true → (standing ≡ exhausted → ⊥)
      → (after f bs ≡ none)
      × (left_by find (answer_at f (after f bs) n) d (record { path = bs; found = f })
      ≡ record { standing = standing; count = n; path = steps_of find bs; next = length (alts_found (find (entered bs))); deepest = d })
  finished_left exhausted bs f tried n d e a h = absurd (h refl)
  finished_left satisfied bs closed tried n d e a h = absurd (subst T (sym a) tt)
  finished_left satisfied bs (opened bits) tried n d e a h =
      (refl, ap (λ (x : Found I). record { standing = satisfied; count = n; path = steps_of find bs; next = length (alts_found x); deepest = d }) (sym e))
  finished_left satisfied bs (split i ds) tried n d e a h = absurd (subst T (sym a) tt)
  finished_left refuted [] closed tried n d e a h = (refl, refl)
  finished_left refuted [] (opened bits) tried n d e a h = absurd (subst T (sym a) tt)
  finished_left refuted [] (split i []) tried n d e a h = (refl, refl)
  finished_left refuted [] (split i (c ∷ ds)) tried n d e a h = absurd (subst T (sym a) tt)
  finished_left refuted (b ∷ bs) f tried n d e a h = absurd (subst T (sym a) tt)

  finished_next : (atoms : ℕ) (s : Session) → Right find atoms s → (s.standing ≡ exhausted → ⊥) → s.next ≡ length (alts_here find s)
  finished_next atoms s r h = go s.standing refl
    where
      go : (x : Standing) → s.standing ≡ x → s.next ≡ length (alts_here find s)
      go refuted e = r.refuted_over e
      go satisfied e =
          let unsplit : length (alts_here find s) ≡ 0 = ap (λ (f : Found I). length (alts_found f)) (r.satisfied_open e).1 in
          omega (arith, r.next_within)
      go exhausted e = absurd (h e)

  again : (atoms : ℕ) (s : Session) (further : ℕ) (t : Place I) → Right find atoms s → place_of find s ≡ some t → (s.standing ≡ exhausted → ⊥)
      → session_after find further s.count s.deepest t ≡ s
  again atoms s further t right e h =
      let w : Stands find s t = at_stands find s t e in
      let p = path_right find s.path t.path w.path_of in
      let r : Reached find t = stands_reached find s t e in
      let l = finished_left s.standing t.path t.found r.1.0 s.count s.deepest r.1.1 w.right_there h in
      session_none find further s.count s.deepest t (ap (placed find) l.0)
      ∙ l.1
      ∙ ap₂
      (λ (steps : List Step) (n : ℕ). record { standing = s.standing; count = s.count; path = steps; next = n; deepest = s.deepest })
      p.steps_are
      (ap (λ (a : List ℕ). length (alts_found (find a))) p.entered_is ∙ sym (finished_next atoms s right h))

  -- ---- a call

  told_no : (o : Outcome) (s : Session) → told o s ≡ declined 42 → ⊥
  told_no o s e = let z : ◌≡◌ {A = ℕ} 0 1 = cc in omega arith

  module _ (atoms : ℕ) where
    pub call_told : (s : Session) (further : ℕ) (t : Place I) → s.count + further ≤ 4294967295 → stands_in find atoms s ≡ some t
        → called find atoms s further ≡ told (proceed find further s.count t) (session_after find further s.count s.deepest t)
    unfolding called
    call_told s further t h e = rw (called, le-ltb 4294967295 (s.count + further) h, e)

    call_nowhere : (s : Session) (further : ℕ) → s.count + further ≤ 4294967295 → stands_in find atoms s ≡ none → called find atoms s further ≡ declined 42
    unfolding called
    call_nowhere s further h e = rw (called, le-ltb 4294967295 (s.count + further) h, e)

    call_large : (s : Session) (further : ℕ) → 4294967295 < s.count + further → called find atoms s further ≡ declined 41
    unfolding called
    call_large s further h = rw (called, lt-ltb 4294967295 (s.count + further) h)

    told_right : ShortPaths find atoms → (s : Session) (further : ℕ) → s.count + further ≤ 4294967295 → Right find atoms s → CallTold find atoms s further
    told_right short s further h r =
        let w = right_in find atoms s r in
        let t : Place I = w.0 in
        let e : place_of find s ≡ some t = (in_stands find atoms s t w.1).1 in
        record {
          place = t;
          outcome = proceed find further s.count t;
          left = session_after find further s.count s.deepest t;
          there = stands_there find s t e;
          calls = call_told s further t h w.1;
          runs = run_left atoms short t s.count s.deepest further (stands_reached find s t e) (omega (arith, stands_length find s t e, r.deep_enough)) r.deep_within;
          again = again atoms s further t r e;
        }

    nowhere : (s : Session) (further : ℕ) → s.count + further ≤ 4294967295 → (Right find atoms s → ⊥) → called find atoms s further ≡ declined 42
    nowhere s further h wrong = go (stands_in find atoms s) refl
      where
        go : (o : Option (Place I)) → stands_in find atoms s ≡ o → called find atoms s further ≡ declined 42
        go none e = call_nowhere s further h e
        go (some t) e = absurd (wrong (in_right find atoms s t e))

    pub any_session : AnySession find atoms
    any_session =
        record {
          refused_41 = call_large;
          refused_42 = λ s further h. (λ e r. let w = right_in find atoms s r in told_no _ _ (sym (call_told s further w.0 h w.1) ∙ e), nowhere s further h);
          told_right = told_right;
          first_left = λ short limit. run_left atoms short (root find) 0 0 limit (place-Reached find [] tt) (omega arith) (omega arith);
        }
