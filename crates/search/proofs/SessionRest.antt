-- What a call leaves rests at a place where the walk may be, and the walk goes on from there as from where the call ended, for any way of finding a node.
use Prim.Native.Nat.{ℕ, suc, ◌-◌, ◌≤◌}
use mathlib.Core.Bool.{true, false}
use mathlib.Core.List.{List, [], ◌∷◌, ◌++◌}
use mathlib.Core.Option.{Option, none, some, none-ne-some}
use mathlib.Core.Path.{◌≡◌, refl, sym, ap, subst, ◌∙◌}
use native.Mathlib.Omega.{arith}
use lib.Dec.{T}
use lib.ListN.{length, length-append}
use lib.Seq.{drop-append_seam, drop-length}
use borrow.Author.Tests.{le-leb}
use Rattle.search.specs.Ground.{Found, closed, opened, split}
use Rattle.search.specs.Machine.{Branch, Place, entered, enter, back, after, next_path, Outcome, Satisfied, Refuted, stopped, answer_at, answer, Genuine}
use Rattle.search.specs.Session.{Session, alts_found, node_taken, is_open, is_over, place_of, due_at, left_by}
use Rattle.search.proofs.Path.{with_tried, Reached, next_genuine}
use Rattle.search.proofs.Session.{steps_path, stands_at}

module _ {I : Type 0} where
  -- the answer at a node that is not open
  going_answer : (f : Found I) (o : Option (List (Branch I))) (n : ℕ) → is_open f ≡ false → answer_at f o n ≡ stopped o n
  going_answer closed o n e = refl
  going_answer (opened bits) o n e = absurd (subst T e tt)
  going_answer (split i ds) o n e = refl

  pub tried_open : (tried : List ℕ) (f : Found I) → is_open (with_tried tried f) ≡ is_open f
  tried_open tried closed = refl
  tried_open tried (opened bits) = refl
  tried_open tried (split i ds) = refl

  -- the root with all its alternatives used up
  record Over (f h : Found I) : Type 0 where
    taken : node_taken f (length (alts_found f)) ≡ some h
    over : is_over h ≡ true
    going : is_open h ≡ false
    ends : after h [] ≡ none

  used_up : (f : Found I) → is_open f ≡ false → (h : Found I) × Over f h
  used_up closed e = (closed, record { taken = refl; over = refl; going = refl; ends = refl })
  used_up (opened bits) e = absurd (subst T e tt)
  used_up (split i ds) e = (split i [], record { taken = rw (le-leb (length ds) (length ds) (omega arith), drop-length ds); over = refl; going = refl; ends = refl })

  -- the node that an entry is due at
  due_node : (c : Branch I) (tried : List ℕ) (f : Found I) → f ≡ split c.site (tried ++ (c.atom ∷ c.rest))
      → node_taken f (length (alts_found f) - suc (length c.rest)) ≡ some (split c.site (c.atom ∷ c.rest))
  due_node c tried f e =
      let ds : List ℕ = tried ++ (c.atom ∷ c.rest) in
      let due : length ds - suc (length c.rest) ≡ length tried = omega (arith, length-append tried (c.atom ∷ c.rest)) in
      let below : length tried ≤ length ds = omega (arith, length-append tried (c.atom ∷ c.rest)) in
      rw (e, due, le-leb (length tried) (length ds) below, drop-append_seam tried (c.atom ∷ c.rest))

  -- the path of a next entry holds that entry
  enter_made : (i : I) (ds : List ℕ) (bs : List (Branch I)) (o : Option (List (Branch I))) → (o ≡ some [] → ⊥) → enter i ds bs o ≡ some [] → ⊥
  enter_made i [] bs o f e = f e
  enter_made i (a ∷ ds) bs o f e = let z : ◌≡◌ {A = ℕ} 0 1 = cc in omega arith

  back_made : (bs : List (Branch I)) → back bs ≡ some [] → ⊥
  back_made [] e = none-ne-some [] e
  back_made (b ∷ bs) e = enter_made b.site b.rest bs (back bs) (back_made bs) e

  pub after_made : (f : Found I) (bs : List (Branch I)) → after f bs ≡ some [] → ⊥
  after_made closed bs e = back_made bs e
  after_made (opened bits) bs e = none-ne-some [] e
  after_made (split i ds) bs e = enter_made i ds bs (back bs) (back_made bs) e

module _ {I : Type 0} (find : List ℕ → Found I) where
  -- from v the walk goes on as from u, with the same answers, and the same is left
  pub record Alike (u v : Place I) : Type 0 where
    pub next_same : next_path v ≡ next_path u
    pub answers : (n : ℕ) → answer v n ≡ answer u n
    pub leaves : (n d : ℕ) → left_by find (answer v n) d v ≡ left_by find (answer u n) d u

  pub alike_self : (u : Place I) → Alike u u
  alike_self u = record { next_same = refl; answers = λ n. refl; leaves = λ n d. refl }

  going_leaves : (u v : Place I) (o : Option (List (Branch I))) (n d : ℕ) → next_path u ≡ o → next_path v ≡ o → left_by find (stopped o n) d v ≡ left_by find (stopped o n) d u
  going_leaves u v none n d q e = refl
  going_leaves u v (some bs) n d q e = ap (due_at find n d) (e ∙ sym q)

  -- two places that are not open are alike where the next entry is the same
  alike_going : (u v : Place I) → is_open u.found ≡ false → is_open v.found ≡ false → next_path v ≡ next_path u → Alike u v
  alike_going u v a b e =
      record {
        next_same = e;
        answers = λ n. going_answer v.found (next_path v) n b ∙ ap (λ (o : Option (List (Branch I))). stopped o n) e ∙ sym (going_answer u.found (next_path u) n a);
        leaves = λ n d.
            ap (λ (x : Outcome). left_by find x d v) (going_answer v.found (next_path v) n b ∙ ap (λ (o : Option (List (Branch I))). stopped o n) e)
            ∙ going_leaves u v (next_path u) n d refl e
            ∙ sym (ap (λ (x : Outcome). left_by find x d u) (going_answer u.found (next_path u) n a));
      }

  -- a session holds this count, and stands at a place like this
  pub record Rests (u : Place I) (n : ℕ) (s : Session) : Type 0 where
    pub counted : s.count ≡ n
    pub at : Place I
    pub stands : place_of find s ≡ some at
    pub alike : Alike u at

  -- a root that the walk has gone on from is not open
  root_split : (b : Branch I) (bs : List (Branch I)) → Genuine find (b ∷ bs) → is_open (find []) ≡ false
  root_split b [] g = ap is_open g.0.1
  root_split b (c ∷ cs) g = root_split c cs g.1

  root_going : (bs : List (Branch I)) (f : Found I) → Reached find (record { path = bs; found = f }) → is_open f ≡ false → is_open (find []) ≡ false
  root_going [] f r e = ap is_open r.1.1 ∙ tried_open r.1.0 f ∙ e
  root_going (b ∷ bs) f r e = root_split b bs r.0

  rests_over : (u : Place I) (n d : ℕ) → Reached find u → is_open u.found ≡ false → next_path u ≡ none → Rests u n (left_by find (Refuted n) d u)
  rests_over u n d r a e =
      let w = used_up (find []) (root_going u.path u.found r a) in
      let v : Place I = record { path = []; found = w.0 } in
      record {
        counted = refl;
        at = v;
        stands = stands_at find (left_by find (Refuted n) d u) v (record { path_of = refl; node_of = w.1.taken; right_there = w.1.over });
        alike = alike_going u v a w.1.going (w.1.ends ∙ sym e);
      }

  rests_due : (u : Place I) (n d : ℕ) (c : Branch I) (cs : List (Branch I)) → is_open u.found ≡ false → next_path u ≡ some (c ∷ cs) → Genuine find (c ∷ cs)
      → Rests u n (due_at find n d (some (c ∷ cs)))
  rests_due u n d c cs a e g =
      let v : Place I = record { path = cs; found = split c.site (c.atom ∷ c.rest) } in
      record {
        counted = refl;
        at = v;
        stands =
            stands_at find (due_at find n d (some (c ∷ cs))) v
            (record { path_of = steps_path find cs g.1; node_of = due_node c g.0.0 (find (entered cs)) g.0.1; right_there = refl });
        alike = alike_going u v a refl (sym e);
      }

  rests_going : (u : Place I) (n d : ℕ) → Reached find u → is_open u.found ≡ false → Rests u n (left_by find (answer u n) d u)
  rests_going u n d r a = subst (λ (x : Outcome). Rests u n (left_by find x d u)) (sym (going_answer u.found (next_path u) n a)) (go (next_path u) refl)
    where
      go : (o : Option (List (Branch I))) → next_path u ≡ o → Rests u n (left_by find (stopped o n) d u)
      go none e = rests_over u n d r a e
      go (some []) e = absurd (after_made u.found u.path e)
      go (some (c ∷ cs)) e = subst (λ (o : Option (List (Branch I))). Rests u n (due_at find n d o)) (sym e) (rests_due u n d c cs a e (next_genuine find u (c ∷ cs) r e))

  -- what is left at a place of the walk rests there
  pub rests : (u : Place I) (n d : ℕ) → Reached find u → Rests u n (left_by find (answer u n) d u)
  rests u n d r = go u.found u.path r
    where
      go : (f : Found I) (bs : List (Branch I)) → Reached find (record { path = bs; found = f })
          → Rests (record { path = bs; found = f }) n (left_by find (answer (record { path = bs; found = f }) n) d (record { path = bs; found = f }))
      go closed bs w = rests_going (record { path = bs; found = closed }) n d w refl
      go (opened bits) bs w =
          let v : Place I = record { path = bs; found = opened bits } in
          record {
            counted = refl;
            at = v;
            stands =
                stands_at find (left_by find (Satisfied n bits) d v) v
                (record { path_of = steps_path find bs w.0; node_of = ap (λ (f : Found I). node_taken f 0) w.1.1; right_there = refl });
            alike = alike_self v;
          }
      go (split i ds) bs w = rests_going (record { path = bs; found = split i ds }) n d w refl
