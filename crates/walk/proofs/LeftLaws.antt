-- What a walk leaves: its path in steps, node by node, and the session that the end of a run stands for.
use Prim.Native.Nat.{ℕ, zero, suc, ◌+◌, ◌-◌, ◌≤◌, ◌<◌}
use mathlib.Core.List.{List, [], ◌∷◌, ◌++◌}
use mathlib.Core.Option.{some}
use mathlib.Core.Path.{◌≡◌, refl, sym, ap, ap₂, subst, ◌∙◌}
use native.Mathlib.Numerals.{add-one}
use native.Mathlib.Omega.{arith}
use lib.ListN.{length, drop, get_or, set, replicate, length-append, length-drop}
use lib.Seq.{get_or-set_same, get_or-set_other}
use Rattle.search.specs.Ground.{Found}
use Rattle.search.specs.Machine.{Branch, Place, Outcome, Satisfied, Refuted, Exhausted, next_path, last, longest, entries, proceed, Genuine}
use Rattle.search.specs.Session.{satisfied, exhausted, Session, alts_found, steps_of, due_at, left_by, session_after}
use Rattle.walk.specs.terms.Walker.{Walker, Run}
use Rattle.walk.specs.terms.Path.{next_at, deepest_at, site_at, alts_at, entry_at, entry_before, path_in}
use Rattle.walk.specs.terms.Place.{bits_in, place_in, Beginning}
use Rattle.walk.specs.terms.Walk.{OneDue, Walks}
use Rattle.walk.specs.Numbers.{steps_in}
use Rattle.walk.specs.terms.Left.{Tied, SplitHere, StepsLeft, session_left}
use Rattle.walk.specs.declared.answer.Found.{Found as Told}
use Rattle.walk.specs.declared.answer.Found.TheVariants.{Closed as ToldClosed, Open as ToldOpen, Split as ToldSplit}
use Rattle.walk.specs.declared.answer.Walked.{Walked}
use Rattle.walk.specs.declared.answer.Walked.TheVariants.{Shut, Opened, Exhausted as LimitMet}
use Rattle.walk.proofs.PathLaws.{next_some}
use Rattle.walk.proofs.WalkLaws.{walks_tell}

-- ---- a path in steps

blank : (n j : ℕ) → ◌≡◌ {A = ℕ} (get_or (replicate n 0) j 0) 0
blank zero j = refl
blank (suc n) zero = refl
blank (suc n) (suc j) = blank n j

-- the steps before a place are as they were when it is written
steps_before : (atoms nexts : List ℕ) (i a n k : ℕ) → k ≤ i → steps_in (set atoms i a) (set nexts i n) k ≡ steps_in atoms nexts k
unfolding steps_in
steps_before atoms nexts i a n zero l = refl
steps_before atoms nexts i a n (suc k) l =
    rw (
      get_or-set_other atoms i k a 0 (λ e. omega arith),
      get_or-set_other nexts i k n 0 (λ e. omega arith),
      steps_before atoms nexts i a n k (omega arith),
    )

module _ {I : Type 0} (w : Walker I) (path : List ℕ) where
  -- nothing is written down yet
  pub left_none : (n : ℕ) (atoms nexts : List ℕ) → atoms ≡ replicate n 0 → nexts ≡ replicate n 0 → StepsLeft w path 0 atoms nexts
  unfolding steps_in path_in
  left_none n atoms nexts ea en =
      record {
        steps = refl;
        atoms_end = λ j l. ap (λ (xs : List ℕ). get_or xs j 0) ea ∙ blank n j;
        nexts_end = λ j l. ap (λ (xs : List ℕ). get_or xs j 0) en ∙ blank n j;
      }

  -- the step of a node: the alternative before its next one, and how many are not left
  step_of : (i : ℕ) → SplitHere w path i → steps_of w.find (path_in w path (suc i))
      ≡ record { atom = get_or (alts_at w path i) (next_at path i - 1) 0; next = length (alts_at w path i) - length (drop (next_at path i) (alts_at w path i)) } ∷ steps_of w.find (path_in w path i)
  unfolding path_in
  step_of i here =
      ap
      (λ (f : Found I). record { atom = get_or (alts_at w path i) (next_at path i - 1) 0; next = length (alts_found f) - length (drop (next_at path i) (alts_at w path i)) } ∷ steps_of w.find (path_in w path i))
      here.found

  -- one more node is written down, by its alternatives and its next one
  pub left_more : (i : ℕ) (atoms nexts : List ℕ) → StepsLeft w path i atoms nexts → SplitHere w path i → i < length atoms → i < length nexts
      → (ds : List ℕ) → ds ≡ alts_at w path i → (next : ℕ) → next ≡ next_at path i → (a n : ℕ) → a ≡ get_or ds (next - 1) 0 → n ≡ length ds - length (drop next ds)
      → StepsLeft w path (i + 1) (set atoms i a) (set nexts i n)
  unfolding steps_in
  left_more i atoms nexts was here room_a room_n ds ds_are next next_is a n ea en =
      let atom_is : a ≡ get_or (alts_at w path i) (next_at path i - 1) 0 = ea ∙ ap₂ (λ (xs : List ℕ) (j : ℕ). get_or xs (j - 1) 0) ds_are next_is in
      let next_are : n ≡ length (alts_at w path i) - length (drop (next_at path i) (alts_at w path i)) =
      en ∙ ap₂ (λ (xs : List ℕ) (j : ℕ). length xs - length (drop j xs)) ds_are next_is in
      record {
        steps =
            rw (
              add-one,
              get_or-set_same atoms i a 0 room_a,
              get_or-set_same nexts i n 0 room_n,
              steps_before atoms nexts i a n i (omega arith),
              was.steps,
              atom_is,
              next_are,
              step_of i here,
            );
        atoms_end = λ j l. get_or-set_other atoms i j a 0 (λ e. omega arith) ∙ was.atoms_end j (omega arith);
        nexts_end = λ j l. get_or-set_other nexts i j n 0 (λ e. omega arith) ∙ was.nexts_end j (omega arith);
      }

-- ---- a node that a path of the walk has gone on from

module _ {I : Type 0} (w : Walker I) (path : List ℕ) where
  genuine_on : (i : ℕ) → Genuine w.find (path_in w path (i + 1)) → Genuine w.find (entry_before w (site_at w path i) (next_at path i) ∷ path_in w path i)
  unfolding path_in
  genuine_on i g = subst (λ (n : ℕ). Genuine w.find (path_in w path n)) (add-one i) g

  -- the nodes before a depth
  pub genuine_below : (depth i : ℕ) → i ≤ depth → Genuine w.find (path_in w path depth) → Genuine w.find (path_in w path i)
  genuine_below depth i l g = down (depth - i) (subst (λ (n : ℕ). Genuine w.find (path_in w path n)) (omega arith) g)
    where
      down : (k : ℕ) → Genuine w.find (path_in w path (i + k)) → Genuine w.find (path_in w path i)
      down zero g = subst (λ (n : ℕ). Genuine w.find (path_in w path n)) (omega arith) g
      down (suc k) g = down k (genuine_on (i + k) (subst (λ (n : ℕ). Genuine w.find (path_in w path n)) (omega arith) g)).1

  -- the walk keeps to such paths
  module _ (tied : Tied w) (keeps : (bs : List (Branch I)) → Genuine w.find bs → w.Kept bs)
      (i : ℕ) (named : w.Named (site_at w path i)) (g : Genuine w.find (path_in w path (i + 1))) where
    abbrev entry : Branch I
    entry = entry_before w (site_at w path i) (next_at path i)

    pub split_here : SplitHere w path i
    split_here =
        record {
          listed = named;
          found = tied (site_at w path i) entry.atom entry.rest (path_in w path i) named (keeps (entry ∷ path_in w path i) (genuine_on i g));
        }

    -- an alternative has been taken
    pub gone_on : 0 < next_at path i
    gone_on =
        let here = (genuine_on i g).0 in
        let whole : here.0 ++ (entry.atom ∷ entry.rest) ≡ alts_at w path i = ap alts_found (sym here.1 ∙ split_here.found) in
        omega (arith, length-append here.0 (entry.atom ∷ entry.rest), ap length whole, length-drop (next_at path i) (alts_at w path i))

-- ---- the end of a run

module _ {I : Type 0} (w : Walker I) (tied : Tied w) (r : Run I) where
  -- where the limit is met, the node of the next entry is split there
  pub due_here : (facts path : List ℕ) (e : ℕ) → OneDue w e facts path → SplitHere w path e
  due_here facts path e due =
      let at = due.node.at_split in
      record {
        listed = at.listed;
        found =
            tied (site_at w path e) (get_or (alts_at w path e) (next_at path e) 0) (drop (suc (next_at path e)) (alts_at w path e)) (path_in w path e) at.listed
            (at.enters (next_at path e) due.left_over);
      }

  abbrev end : Place I
  end = last r.start (entries w.find (r.limit - r.base) r.start)

  abbrev deep : ℕ
  deep = longest r.brought (entries w.find (r.limit - r.base) r.start)

  -- what is left, by the outcome and the longest path entered
  by_outcome : (o : Outcome) → proceed w.find (r.limit - r.base) r.base r.start ≡ o → (d : ℕ) → deep ≡ d
      → session_after w.find (r.limit - r.base) r.base r.brought r.start ≡ left_by w.find o d end
  unfolding session_after
  by_outcome o told d deepest = ap₂ (λ (x : Outcome) (n : ℕ). left_by w.find x n end) told deepest

  -- a run leaves the session of how it ends
  pub walks_left : (y : Walked) (facts path : List ℕ) → Walks w r y facts path
      → session_after w.find (r.limit - r.base) r.base r.brought r.start ≡ session_left w r y path
  walks_left (Shut c) facts path h =
      by_outcome (Refuted c) (walks_tell w r (Shut c) facts path h) (deepest_at path) (ap (longest r.brought) h.0 ∙ h.1.at_latest.deep)
  walks_left (Opened c e) facts path h =
      let here : end ≡ place_in w facts path e (ToldOpen 0) = ap (last r.start) h.0 ∙ h.1.here in
      by_outcome (Satisfied c (bits_in w facts)) (walks_tell w r (Opened c e) facts path h) (deepest_at path) (ap (longest r.brought) h.0 ∙ h.1.deep)
      ∙ ap (λ (t : Place I). record { standing = satisfied; count = c; path = steps_of w.find t.path; next = 0; deepest = deepest_at path }) here
  walks_left (LimitMet e) facts path h =
      let ds = alts_at w path e in
      let next_is : next_path end ≡ some (entry_at w path e ∷ path_in w path e) =
      ap next_path h.0.at_latest.here ∙ h.0.next ∙ next_some w path e h.1.left_over in
      let left : length ds - suc (length (drop (suc (next_at path e)) ds)) ≡ next_at path e = omega (arith, length-drop (suc (next_at path e)) ds, h.1.left_over) in
      let due : ℕ → Session = λ n. record { standing = exhausted; count = r.limit; path = steps_of w.find (path_in w path e); next = n; deepest = deepest_at path } in
      by_outcome (Exhausted r.limit) (walks_tell w r (LimitMet e) facts path h) (deepest_at path) h.0.at_latest.deep
      ∙ ap (due_at w.find r.limit (deepest_at path)) next_is
      ∙ ap (λ (f : Found I). due (length (alts_found f) - suc (length (drop (suc (next_at path e)) ds)))) (due_here facts path e h.1).found
      ∙ ap due left

-- ---- the root, all its alternatives used up

module _ {I : Type 0} (w : Walker I) (facts path : List ℕ) where
  pub root_split : (x : Told) (n : ℕ) → x ≡ ToldSplit n → Beginning w x facts path → w.Named (site_at w path 0) × (alts_found (w.find []) ≡ alts_at w path 0)
  root_split x n e h =
      let begun = subst (λ (y : Told). Beginning w y facts path) e h in (
        begun.reached.ready.3.listed,
        ap (λ (t : Place I). alts_found t.found) begun.made ∙ ap (λ (j : ℕ). drop j (alts_at w path 0)) begun.reached.ready.2,
      )

  pub root_unsplit : (x : Told) → ((n : ℕ) → x ≡ ToldSplit n → ⊥) → Beginning w x facts path → 0 ≡ length (alts_found (w.find []))
  root_unsplit (ToldClosed n) leaf begun = sym (ap (λ (t : Place I). length (alts_found t.found)) begun.made)
  root_unsplit (ToldOpen n) leaf begun = sym (ap (λ (t : Place I). length (alts_found t.found)) begun.made)
  root_unsplit (ToldSplit n) leaf begun = absurd (leaf n refl)
