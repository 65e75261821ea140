-- What the walk's paths keep, for any way of finding a node; and the walk ends where its paths are short.
use Prim.Native.Nat.{ℕ, zero, suc, ◌+◌, ◌≤◌, ◌<◌}
use mathlib.Core.Bool.{Bool}
use mathlib.Core.List.{List, [], ◌∷◌, ◌++◌, append_assoc}
use mathlib.Core.Option.{Option, none, some, none-ne-some}
use mathlib.Core.Path.{◌≡◌, refl, sym, ap, subst, ◌∙◌}
use native.Mathlib.Omega.{arith}
use lib.ListN.{length}
use Rattle.lists.specs.Member.{All}
use Rattle.lists.proofs.Member.{append_right}
use Rattle.search.specs.Ground.{Found, closed, opened, split}
use Rattle.search.specs.Machine.{Branch, Place, entered, enter, back, after, next_path, Satisfied, last, place, placed, advance, root, entries, trail, proceed, outcome, Whole, FullWalk, Genuine}
use Rattle.search.specs.Claims.{last_place}
use Rattle.search.proofs.Machine.{entries-zero, entries-none, entries-some, last-All, answer-Satisfied}

-- the alternatives tried, put back before those left
abbrev pub with_tried : {I : Type 0} → List ℕ → Found I → Found I
with_tried tried closed = closed
with_tried tried (opened bits) = opened bits
with_tried tried (split i ds) = split i (tried ++ ds)

none_tried : {I : Type 0} (f : Found I) → with_tried [] f ≡ f
none_tried closed = refl
none_tried (opened bits) = refl
none_tried (split i ds) = refl

module _ {I : Type 0} (find : List ℕ → Found I) where
  -- entries stay on genuine paths
  enter-Genuine : (i : I) (tried ds : List ℕ) (bs : List (Branch I)) (o : Option (List (Branch I))) (cs : List (Branch I)) → find (entered bs) ≡ split i (tried ++ ds) → Genuine find bs
      → (o ≡ some cs → Genuine find cs) → enter i ds bs o ≡ some cs → Genuine find cs
  enter-Genuine i tried [] bs o cs e g f q = f q
  enter-Genuine i tried (a ∷ ds) bs o cs e g f q = let same : record { site = i; atom = a; rest = ds } ∷ bs ≡ cs = cc in subst (Genuine find) same ((tried, e), g)

  back-Genuine : (bs cs : List (Branch I)) → Genuine find bs → back bs ≡ some cs → Genuine find cs
  back-Genuine [] cs g q = absurd (none-ne-some cs q)
  back-Genuine (b ∷ bs) cs g q =
      enter-Genuine b.site (g.0.0 ++ (b.atom ∷ [])) b.rest bs (back bs) cs (rw append_assoc g.0.1) g.1 (back-Genuine bs cs g.1) q

  -- a place of the walk, or where a session may stand: its path is genuine, and it is found as `find` says, its first alternatives taken off
  abbrev pub Reached : Place I → Type 0
  Reached s = Genuine find s.path × ((tried : List ℕ) × (find (entered s.path) ≡ with_tried tried s.found))

  pub place-Reached : (bs : List (Branch I)) → Genuine find bs → Reached (place find bs)
  place-Reached bs g = (g, ([], sym (none_tried (find (entered bs)))))

  pub next_genuine : (s : Place I) (cs : List (Branch I)) → Reached s → next_path s ≡ some cs → Genuine find cs
  next_genuine s cs r q = go s.found r.1.1 q
    where
      go : (f : Found I) → find (entered s.path) ≡ with_tried r.1.0 f → after f s.path ≡ some cs → Genuine find cs
      go closed e u = back-Genuine s.path cs r.0 u
      go (opened b) e u = absurd (none-ne-some cs u)
      go (split i ds) e u = enter-Genuine i r.1.0 ds s.path (back s.path) cs e r.0 (back-Genuine s.path cs r.0) u

  advance-Reached : (s t : Place I) → Reached s → advance find s ≡ some t → Reached t
  advance-Reached s t r e = go (next_path s) refl e
    where
      go : (o : Option (List (Branch I))) → next_path s ≡ o → placed find o ≡ some t → Reached t
      go none u w = absurd (none-ne-some t w)
      go (some cs) u w = let same : place find cs ≡ t = cc in subst Reached same (place-Reached cs (next_genuine s cs r u))

  pub entries-Reached : (n : ℕ) (s : Place I) → Reached s → All Reached (entries find n s)
  entries-Reached zero s h = rw (entries-zero find) tt
  entries-Reached (suc n) s h = go (advance find s) refl (entries-Reached n)
    where
      go : (o : Option (Place I)) → advance find s ≡ o → ((t : Place I) → Reached t → All Reached (entries find n t)) → All Reached (entries find (suc n) s)
      go none e f = rw (entries-none find (suc n) s e) tt
      go (some t) e f = let r : Reached t = advance-Reached s t h e in rw (entries-some find n s t e) (r, f t r)

  pub last-Reached : (n : ℕ) (s : Place I) → Reached s → Reached (last s (entries find n s))
  last-Reached n s h = last-All Reached s (entries find n s) h (entries-Reached n s h)

  pub trail-Reached : (limit : ℕ) → All Reached (trail find limit)
  trail-Reached limit = let r = place-Reached [] tt in (r, entries-Reached limit (root find) r)

  -- a satisfied run ends at an open place
  pub run_opened : (limit count n : ℕ) (bits : List Bool) (s : Place I) → Reached s → proceed find limit count s ≡ Satisfied n bits
      → Genuine find (last s (entries find limit s)).path × (find (entered (last s (entries find limit s)).path) ≡ opened bits)
  unfolding proceed
  run_opened limit count n bits s h e =
      let t = last s (entries find limit s) in
      let r : Reached t = last-Reached limit s h in
      (r.0, r.1.1 ∙ ap (with_tried r.1.0) (answer-Satisfied t _ n bits e))

  pub last_opened : (limit n : ℕ) (bits : List Bool) → outcome find limit ≡ Satisfied n bits
      → Genuine find (last_place find limit).path × (find (entered (last_place find limit).path) ≡ opened bits)
  last_opened limit n bits e = run_opened limit 0 n bits (root find) (place-Reached [] tt) e

  -- what holds of the empty list, and of each alternative of a split found under a list of which it holds, holds on every genuine path
  pub genuine_ind {ℓ} : (Q : List ℕ → Type ℓ) → Q [] → ((l : List ℕ) (i : I) (ds : List ℕ) → Q l → find l ≡ split i ds → All (λ a. Q (a ∷ l)) ds)
      → (bs : List (Branch I)) → Genuine find bs → Q (entered bs)
  genuine_ind Q z f [] g = z
  genuine_ind Q z f (b ∷ bs) g =
      (append_right (λ a. Q (a ∷ entered bs)) g.0.0 (b.atom ∷ b.rest) (f (entered bs) b.site (g.0.0 ++ (b.atom ∷ b.rest)) (genuine_ind Q z f bs g.1) g.0.1)).0

  -- The walk ends where every genuine path is at most n long
  module _ (n : ℕ) (short : (bs : List (Branch I)) → Genuine find bs → length bs ≤ n) where
    Done : Place I → Type 0
    Done s = (es : List (Place I)) × Whole find s es

    Resumes : Option (List (Branch I)) → Type 0
    Resumes none = Unit
    Resumes (some bs) = Done (place find bs)

    resume : (s : Place I) (o : Option (List (Branch I))) → next_path s ≡ o → Resumes o → Done s
    unfolding Done Resumes
    resume s none e d = ([], ap (placed find) e)
    resume s (some bs) e d = (place find bs ∷ d.0, (ap (placed find) e, d.1))

    tries : (r : ℕ) (bs : List (Branch I)) → ((cs : List (Branch I)) → Genuine find cs → n < length cs + r → Resumes (back cs) → Done (place find cs))
        → Genuine find bs → n < length bs + suc r → Resumes (back bs) → (i : I) (tried ds : List ℕ) → find (entered bs) ≡ split i (tried ++ ds) → Resumes (enter i ds bs (back bs))
    unfolding Resumes
    tries r bs f g h d i tried [] e = d
    tries r bs f g h d i tried (a ∷ ds) e =
        f
        (record { site = i; atom = a; rest = ds } ∷ bs)
        ((tried, e), g)
        (omega arith)
        (tries r bs f g h d i (tried ++ (a ∷ [])) ds (rw append_assoc e))

    settle : (r : ℕ) (bs : List (Branch I)) → Genuine find bs → n < length bs + r → Resumes (back bs) → Done (place find bs)
    unfolding Resumes
    settle zero bs g h d = absurd (omega (arith, short bs g))
    settle (suc r) bs g h d = resume (place find bs) (next_path (place find bs)) refl (go (find (entered bs)) refl (settle r))
      where
        go : (f : Found I) → find (entered bs) ≡ f → ((cs : List (Branch I)) → Genuine find cs → n < length cs + r → Resumes (back cs) → Done (place find cs)) → Resumes (after f bs)
        go closed e k = d
        go (opened b) e k = tt
        go (split i ds) e k = tries r bs k g h d i [] ds e

    pub walk_ends : (es : List (Place I)) × FullWalk find es
    unfolding Done Resumes
    walk_ends = settle (suc n) [] tt (omega arith) tt
