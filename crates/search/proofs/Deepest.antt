-- The deepest figure: the longest path of the places entered, or a figure brought that is no shorter; and a session's figure is that of a path of the walk.
use Prim.Native.Nat.{ℕ, suc, max, ◌≤◌, ◌<◌}
use mathlib.Core.Bool.{true}
use mathlib.Core.List.{List, [], ◌∷◌, ◌++◌}
use mathlib.Core.Logic.{◌⊎◌, inl, inr}
use mathlib.Core.Option.{Option, none, some, none-ne-some}
use mathlib.Core.Path.{◌≡◌, refl, ap}
use native.Mathlib.Omega.{arith}
use lib.ListN.{length}
use borrow.Author.Tests.{le-leb}
use Rattle.lists.specs.Member.{All, Any}
use Rattle.lists.proofs.Member.{all_map, any_zip}
use Rattle.lists.proofs.Test.{lt_or_le}
use Rattle.search.specs.Ground.{Found, closed, opened, split}
use Rattle.search.specs.Deepest.{Exact, Bounds}
use Rattle.search.specs.Machine.{Branch, Place, enter, back, after, next_path, Outcome, Satisfied, Refuted, Exhausted, last, longest, root, entries, proceed, deepest_under}
use Rattle.search.specs.Session.{Session, deep_stands, steps_of, due_at, left_by, session_after, first_session}
use Rattle.search.specs.SessionRight.{ShortPaths}
use Rattle.search.proofs.Machine.{last-All}
use Rattle.search.proofs.Path.{Reached, entries-Reached}

module _ {I : Type 0} where
  pub longest-append : (d : ℕ) (xs ys : List (Place I)) → longest d (xs ++ ys) ≡ longest (longest d xs) ys
  longest-append d [] ys = refl
  longest-append d (t ∷ xs) ys = longest-append (max d (length t.path)) xs ys

  -- after one more entry
  pub longest_next : (d : ℕ) (es : List (Place I)) (t : Place I) → longest d (es ++ (t ∷ [])) ≡ max (longest d es) (length t.path)
  longest_next d es t = longest-append d es (t ∷ [])

  -- U10
  pub longest-Exact : (d : ℕ) (es : List (Place I)) → Exact d es (longest d es)
  longest-Exact d [] = record { brought = omega arith; no_less = tt; attained = inl refl }
  longest-Exact d (t ∷ ts) =
      let w = longest-Exact (max d (length t.path)) ts in
      record {
        brought = omega (arith, w.brought);
        no_less = (omega (arith, w.brought), w.no_less);
        attained = go (longest (max d (length t.path)) ts) w.attained (lt_or_le d (length t.path));
      }
    where
      go : (e : ℕ) → (e ≡ max d (length t.path)) ⊎ Any (λ u. length u.path ≡ e) ts → (d < length t.path) ⊎ (length t.path ≤ d)
          → (e ≡ d) ⊎ Any (λ u. length u.path ≡ e) (t ∷ ts)
      go e (inl q) (inl h) = inr (inl (omega arith))
      go e (inl q) (inr h) = inl (omega arith)
      go e (inr a) h = inr (inr a)

  longest_within : (n d : ℕ) (es : List (Place I)) → d ≤ n → All (λ t. length t.path ≤ n) es → longest d es ≤ n
  longest_within n d [] h a = h
  longest_within n d (t ∷ ts) h a = longest_within n (max d (length t.path)) ts (omega (arith, h, a.0)) a.1

  -- the last place's path counts too, where the first one's does
  pub last-longest : (d : ℕ) (t : Place I) (es : List (Place I)) → length t.path ≤ d → length (last t es).path ≤ longest d es
  last-longest d t es h =
      let w = longest-Exact d es in
      last-All (λ u. length u.path ≤ longest d es) t es (omega (arith, h, w.brought)) w.no_less

  -- U2 from U10: the place where a run begins holds its path too
  pub exact_bounds : (atoms d : ℕ) (t : Place I) (es : List (Place I)) (e : ℕ) → length t.path ≤ d → e ≤ atoms → Exact d es e → Bounds atoms d (t ∷ es) e
  exact_bounds atoms d t es e h most w =
      record { brought = w.brought; no_less = (omega (arith, h, w.brought), w.no_less); one_more = go w.attained; within = most }
    where
      go : (e ≡ d) ⊎ Any (λ u. length u.path ≡ e) es → (e ≤ suc d) ⊎ Any (λ u. e ≤ suc (length u.path)) (t ∷ es)
      go (inl q) = inl (omega arith)
      go (inr a) =
          inr (inr (any_zip (λ u. length u.path ≡ e) (λ u. length u.path ≤ e) (λ u. e ≤ suc (length u.path)) (λ u q l. omega (arith, q)) es a w.no_less))

  -- ---- the path of the next entry, without that entry, is no longer than the path here

  enter_short : (n : ℕ) (i : I) (ds : List ℕ) (bs : List (Branch I)) (o : Option (List (Branch I))) (c : Branch I) (cs : List (Branch I)) → length bs ≤ n
      → (o ≡ some (c ∷ cs) → length cs ≤ n) → enter i ds bs o ≡ some (c ∷ cs) → length cs ≤ n
  enter_short n i [] bs o c cs h f e = f e
  enter_short n i (a ∷ ds) bs o c cs h f e = let same : bs ≡ cs = cc in rw (← same) h

  back_short : (bs : List (Branch I)) (c : Branch I) (cs : List (Branch I)) → back bs ≡ some (c ∷ cs) → length cs ≤ length bs
  back_short [] c cs e = absurd (none-ne-some (c ∷ cs) e)
  back_short (b ∷ bs) c cs e =
      enter_short (suc (length bs)) b.site b.rest bs (back bs) c cs (omega arith) (λ q. omega (arith, back_short bs c cs q)) e

  after_short : (f : Found I) (bs : List (Branch I)) (c : Branch I) (cs : List (Branch I)) → after f bs ≡ some (c ∷ cs) → length cs ≤ length bs
  after_short closed bs c cs e = back_short bs c cs e
  after_short (opened bits) bs c cs e = absurd (none-ne-some (c ∷ cs) e)
  after_short (split i ds) bs c cs e = enter_short (length bs) i ds bs (back bs) c cs (omega arith) (back_short bs c cs) e

-- a session's figure is that of a path over so many atoms
pub deep_stands_lem : (atoms : ℕ) (s : Session) → length s.path ≤ s.deepest → s.deepest ≤ atoms → deep_stands atoms s ≡ true
deep_stands_lem atoms s h l = rw (le-leb (length s.path) s.deepest h, le-leb s.deepest atoms l)

module _ {I : Type 0} (find : List ℕ → Found I) where
  pub steps_length : (bs : List (Branch I)) → length (steps_of find bs) ≡ length bs
  steps_length [] = refl
  steps_length (b ∷ bs) = ap suc (steps_length bs)

  -- ---- what a run leaves

  due_deepest : (n d : ℕ) (o : Option (List (Branch I))) → (due_at find n d o).deepest ≡ d
  due_deepest n d none = refl
  due_deepest n d (some []) = refl
  due_deepest n d (some (b ∷ bs)) = refl

  pub left_deepest : (x : Outcome) (d : ℕ) (u : Place I) → (left_by find x d u).deepest ≡ d
  left_deepest (Satisfied n bits) d u = refl
  left_deepest (Refuted n) d u = refl
  left_deepest (Exhausted n) d u = due_deepest n d (next_path u)

  due_short : (n d : ℕ) (u : Place I) (o : Option (List (Branch I))) → next_path u ≡ o → length (due_at find n d o).path ≤ length u.path
  due_short n d u none e = omega arith
  due_short n d u (some []) e = omega arith
  due_short n d u (some (b ∷ bs)) e = rw (steps_length bs) (after_short u.found u.path b bs e)

  pub left_short : (x : Outcome) (d : ℕ) (u : Place I) → length (left_by find x d u).path ≤ length u.path
  left_short (Satisfied n bits) d u = omega (arith, steps_length u.path)
  left_short (Refuted n) d u = omega arith
  left_short (Exhausted n) d u = due_short n d u (next_path u) refl

  pub session_deepest : (limit count d : ℕ) (t : Place I) → (session_after find limit count d t).deepest ≡ longest d (entries find limit t)
  unfolding session_after
  session_deepest limit count d t = left_deepest (proceed find limit count t) (longest d (entries find limit t)) (last t (entries find limit t))

  pub first_deepest : (limit : ℕ) → (first_session find limit).deepest ≡ deepest_under find limit
  unfolding deepest_under
  first_deepest limit = session_deepest limit 0 0 (root find)

  -- U10
  pub session_exact : (limit count d : ℕ) (t : Place I) → Exact d (entries find limit t) (session_after find limit count d t).deepest
  session_exact limit count d t = rw (session_deepest limit count d t) (longest-Exact d (entries find limit t))

  -- U2: no less than the path of the session
  pub session_enough : (limit count d : ℕ) (t : Place I) → length t.path ≤ d
      → length (session_after find limit count d t).path ≤ (session_after find limit count d t).deepest
  unfolding session_after
  session_enough limit count d t h =
      let e : ℕ = longest d (entries find limit t) in
      let u : Place I = last t (entries find limit t) in
      let x : Outcome = proceed find limit count t in
      omega (arith, left_short x e u, left_deepest x e u, last-longest d t (entries find limit t) h)

  -- where no path of the walk is longer than this
  module _ (atoms : ℕ) (short : ShortPaths find atoms) where
    pub longest_most : (d limit : ℕ) (t : Place I) → Reached find t → d ≤ atoms → longest d (entries find limit t) ≤ atoms
    longest_most d limit t r h =
        longest_within atoms d (entries find limit t) h
        (all_map (Reached find) (λ u. length u.path ≤ atoms) (λ u w. short u.path w.0) (entries find limit t) (entries-Reached find limit t r))

    pub session_most : (limit count d : ℕ) (t : Place I) → Reached find t → d ≤ atoms → (session_after find limit count d t).deepest ≤ atoms
    session_most limit count d t r h = omega (arith, session_deepest limit count d t, longest_most d limit t r h)
