-- Calls one after another are one walk, for any way of finding a node; and two ways that agree go on alike with every session.
use Prim.Native.Nat.{ℕ, zero, suc, ◌+◌}
use mathlib.Core.Bool.{Bool, true, cond}
use mathlib.Core.List.{List, [], ◌∷◌}
use mathlib.Core.Option.{Option, none, some}
use mathlib.Core.Path.{◌≡◌, refl, ap, ap₂, sym, ◌∙◌}
use native.Mathlib.Nat.{add_assoc}
use lib.Dec.{ltb}
use lib.ListN.{length, length-append}
use Rattle.search.specs.Ground.{Found}
use Rattle.search.specs.Machine.{Branch, Place, entered, next_path, Outcome, Satisfied, Refuted, Exhausted, answer, last, longest, placed, advance, root, entries, proceed, Genuine}
use Rattle.search.specs.Session.{Step, Session, step_taken, deep_stands, where_stands, path_of, node_of, place_of, stands_in, steps_of, due_at, left_by, session_after, first_session, Called, declined, told, called}
use Rattle.search.proofs.Machine.{entries-none, entries_on, proceed-none, proceed_on, last-append, answer-some}
use Rattle.search.proofs.Path.{Reached, place-Reached, next_genuine, last-Reached}
use Rattle.search.proofs.OneTrail.{place_same, entries_same, proceed_same}
use Rattle.search.proofs.Deepest.{longest-append, session_deepest}
use Rattle.search.proofs.Session.{path_genuine, in_stands, stands_reached}
use Rattle.search.proofs.SessionRest.{Alike, alike_self, Rests, rests}

module _ {I : Type 0} (find : List ℕ → Found I) where
  entries_alike : (n : ℕ) (u v : Place I) → next_path v ≡ next_path u → entries find n v ≡ entries find n u
  unfolding entries
  entries_alike zero u v e = refl
  entries_alike (suc n) u v e = ap {B = List (Place I)} (λ o. elim (placed find o) [ none ↦ [] | some t ↦ t ∷ entries find n t ]) e

  last-Alike : (u v : Place I) → Alike find u v → (es : List (Place I)) → Alike find (last u es) (last v es)
  last-Alike u v a [] = a
  last-Alike u v a (t ∷ ts) = alike_self find (last t ts)

  proceed-Alike : (n c : ℕ) (u v : Place I) → Alike find u v → proceed find n c v ≡ proceed find n c u
  unfolding proceed
  proceed-Alike n c u v a =
      ap (λ (es : List (Place I)). answer (last v es) (c + length es)) (entries_alike n u v a.next_same)
      ∙ (last-Alike u v a (entries find n u)).answers (c + length (entries find n u))

  session_alike : (n c d : ℕ) (u v : Place I) → Alike find u v → session_after find n c d v ≡ session_after find n c d u
  unfolding session_after proceed
  session_alike n c d u v a =
      ap (λ (es : List (Place I)). left_by find (answer (last v es) (c + length es)) (longest d es) (last v es)) (entries_alike n u v a.next_same)
      ∙ (last-Alike u v a (entries find n u)).leaves (c + length (entries find n u)) (longest d (entries find n u))

  session_on : (m n c d : ℕ) (t : Place I)
      → session_after find (m + n) c d t ≡ session_after find n (c + length (entries find m t)) (longest d (entries find m t)) (last t (entries find m t))
  unfolding session_after proceed
  session_on m n c d t = rw (entries_on find m n t, last-append find, longest-append, length-append, add_assoc)

  -- what a call says and leaves of a session that stands there
  resumed : ℕ → ℕ → ℕ → Option (Place I) → Called
  resumed n c d o = elim o [ none ↦ declined 42 | some t ↦ told (proceed find n c t) (session_after find n c d t) ]

  resumes : (u : Place I) (k d n : ℕ) (s : Session) → Rests find u k s → s.deepest ≡ d
      → resumed n s.count s.deepest (place_of find s) ≡ told (proceed find n k u) (session_after find n k d u)
  unfolding resumed
  resumes u k d n s r e =
      ap (resumed n s.count s.deepest) r.stands
      ∙ ap₂ (λ (c x : ℕ). told (proceed find n c r.at) (session_after find n c x r.at)) r.counted e
      ∙ ap₂ told (proceed-Alike n k u r.at r.alike) (session_alike n k d u r.at r.alike)

  -- going on by n with what a run under m left is a run under m + n
  pub goes_on : (atoms m n c d : ℕ) (t : Place I) → Reached find t → deep_stands atoms (session_after find m c d t) ≡ true
      → called find atoms (session_after find m c d t) n
      ≡ cond (ltb 4294967295 ((session_after find m c d t).count + n)) (declined 41) (told (proceed find (m + n) c t) (session_after find (m + n) c d t))
  unfolding called session_after proceed resumed
  goes_on atoms m n c d t r h =
      let u : Place I = last t (entries find m t) in
      let k : ℕ = c + length (entries find m t) in
      let e : ℕ = longest d (entries find m t) in
      let s : Session = session_after find m c d t in
      ap (cond (ltb 4294967295 (s.count + n)) (declined 41))
      (ap (λ (b : Bool). resumed n s.count s.deepest (cond b (place_of find s) none)) h
      ∙ resumes u k e n s (rests find u k e (last-Reached find m t r)) (session_deepest find m c d t)
      ∙ ap₂ told (sym (proceed_on find m n c t)) (sym (session_on m n c d t)))

  pub session_none : (n c d : ℕ) (u : Place I) → advance find u ≡ none → session_after find n c d u ≡ left_by find (answer u c) d u
  unfolding session_after
  session_none n c d u e = ap₂ (λ (x : Outcome) (es : List (Place I)). left_by find x (longest d es) (last u es)) (proceed-none find n c u e) (entries-none find n u e)

  -- a run that is not spent is over
  over_next : (u : Place I) (k : ℕ) → ((i : ℕ) → answer u k ≡ Exhausted i → ⊥) → advance find u ≡ none
  over_next u k h = go (advance find u) refl
    where
      go : (o : Option (Place I)) → advance find u ≡ o → advance find u ≡ none
      go none e = e
      go (some t) e = absurd (h k (answer-some find u t k e))

  pub proceed_over : (m n c : ℕ) (t : Place I) → ((i : ℕ) → proceed find m c t ≡ Exhausted i → ⊥) → proceed find (m + n) c t ≡ proceed find m c t
  unfolding proceed
  proceed_over m n c t h =
      let u : Place I = last t (entries find m t) in
      let k : ℕ = c + length (entries find m t) in
      proceed_on find m n c t ∙ proceed-none find n k u (over_next u k h)

  pub session_over : (m n c d : ℕ) (t : Place I) → ((i : ℕ) → proceed find m c t ≡ Exhausted i → ⊥) → session_after find (m + n) c d t ≡ session_after find m c d t
  unfolding session_after proceed
  session_over m n c d t h =
      let u : Place I = last t (entries find m t) in
      let k : ℕ = c + length (entries find m t) in
      session_on m n c d t ∙ session_none n k (longest d (entries find m t)) u (over_next u k h)

-- two ways of finding that agree on the genuine paths of one
module _ {I : Type 0} (f g : List ℕ → Found I) (same : (bs : List (Branch I)) → Genuine f bs → g (entered bs) ≡ f (entered bs)) where
  path_same : (steps : List Step) → path_of g steps ≡ path_of f steps
  path_same [] = refl
  path_same (s ∷ steps) =
      ap {B = Option (List (Branch I))} (λ o. elim o [ none ↦ none | some bs ↦ step_taken (g (entered bs)) s bs ]) (path_same steps) ∙ go (path_of f steps) (path_genuine f steps)
    where
      go : (o : Option (List (Branch I))) → ((bs : List (Branch I)) → o ≡ some bs → Genuine f bs)
          → ◌≡◌ {A = Option (List (Branch I))} (elim o [ none ↦ none | some bs ↦ step_taken (g (entered bs)) s bs ]) (elim o [ none ↦ none | some bs ↦ step_taken (f (entered bs)) s bs ])
      go none h = refl
      go (some bs) h = ap (λ (x : Found I). step_taken x s bs) (same bs (h bs refl))

  pub stands_same : (s : Session) → place_of g s ≡ place_of f s
  unfolding place_of
  stands_same s =
      ap {B = Option (Place I)} (λ o. elim o [ none ↦ none | some bs ↦ elim (node_of g bs s.next) [ none ↦ none | some t ↦ where_stands s.standing t ] ]) (path_same s.path)
      ∙ go (path_of f s.path) (path_genuine f s.path)
    where
      go : (o : Option (List (Branch I))) → ((bs : List (Branch I)) → o ≡ some bs → Genuine f bs)
          → ◌≡◌ {A = Option (Place I)} (elim o [ none ↦ none | some bs ↦ elim (node_of g bs s.next) [ none ↦ none | some t ↦ where_stands s.standing t ] ])
          (elim o [ none ↦ none | some bs ↦ elim (node_of f bs s.next) [ none ↦ none | some t ↦ where_stands s.standing t ] ])
      go none h = refl
      go (some bs) h = rw (node_of, same bs (h bs refl))

  steps_same : (bs : List (Branch I)) → Genuine f bs → steps_of g bs ≡ steps_of f bs
  steps_same [] w = refl
  steps_same (b ∷ bs) w = rw (same bs w.1, steps_same bs w.1)

  due_same : (n d : ℕ) (o : Option (List (Branch I))) → ((bs : List (Branch I)) → o ≡ some bs → Genuine f bs) → due_at g n d o ≡ due_at f n d o
  due_same n d none h = refl
  due_same n d (some []) h = refl
  due_same n d (some (b ∷ bs)) h = let w : Genuine f bs = (h (b ∷ bs) refl).1 in rw (same bs w, steps_same bs w)

  left_same : (x : Outcome) (d : ℕ) (t : Place I) → Reached f t → left_by g x d t ≡ left_by f x d t
  left_same (Satisfied n bits) d t r = rw (steps_same t.path r.0)
  left_same (Refuted n) d t r = rw (same [] tt)
  left_same (Exhausted n) d t r = due_same n d (next_path t) (λ bs e. next_genuine f t bs r e)

  session_same : (n c d : ℕ) (t : Place I) → Reached f t → session_after g n c d t ≡ session_after f n c d t
  unfolding session_after
  session_same n c d t r =
      ap₂ (λ (x : Outcome) (es : List (Place I)). left_by g x (longest d es) (last t es)) (proceed_same f g same n c t r) (entries_same f g same n t r)
      ∙ left_same (proceed f n c t) (longest d (entries f n t)) (last t (entries f n t)) (last-Reached f n t r)

  pub first_same : (n : ℕ) → first_session g n ≡ first_session f n
  first_same n = ap (session_after g n 0 0) (place_same f g same [] tt) ∙ session_same n 0 0 (root f) (place-Reached f [] tt)

  resumed_same : (n c d : ℕ) (o : Option (Place I)) → ((t : Place I) → o ≡ some t → Reached f t) → resumed g n c d o ≡ resumed f n c d o
  unfolding resumed
  resumed_same n c d none h = refl
  resumed_same n c d (some t) h = let r : Reached f t = h t refl in ap₂ told (proceed_same f g same n c t r) (session_same n c d t r)

  pub called_same : (atoms : ℕ) (s : Session) (n : ℕ) → called g atoms s n ≡ called f atoms s n
  unfolding called resumed
  called_same atoms s n =
      ap (cond (ltb 4294967295 (s.count + n)) (declined 41))
      (ap (λ (o : Option (Place I)). resumed g n s.count s.deepest (cond (deep_stands atoms s) o none)) (stands_same s)
      ∙ resumed_same n s.count s.deepest (stands_in f atoms s) (λ t e. stands_reached f s t (in_stands f atoms s t e).1))
