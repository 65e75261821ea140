-- The steps of offering and setting, over lists.
use Rattle.std.specs.Prelude.{Ok, Err}
use Rattle.problem.specs.declared.fault.Fault.TheVariants.{BadLength, StaleSlip}
use Prim.Native.Nat.{ℕ, ◌-◌, ◌≤◌, ◌<◌}
use mathlib.Core.Bool.{cond}
use mathlib.Core.List.{List, [], ◌∷◌, ◌++◌, append-nil}
use mathlib.Core.Path.{◌≡◌, refl, sym, ap, subst, ◌∙◌}
use native.Mathlib.Omega.{arith}
use borrow.Author.Tests.{lt-ltb, le-ltb, eq-eqb, ne_eqb, ltb-false}
use lib.Dec.{ltb}
use lib.ListN.{length, take, drop, get_or, set, replicate, length-append, length-replicate, length-drop, take-append-drop, drop_of_length-le}
use lib.Seq.{take_at, drop_at, get_or-take, length-take-le}
use Rattle.lists.specs.Bytes.{pad}
use Rattle.lists.specs.Member.{All}
use Rattle.lists.proofs.Bytes.{pad-length, zeros_split, part_with}
use Rattle.problem.specs.declared.fault.Fault.{Fault}
use Rattle.problem.specs.Problem.{Problem, Fits}
use Rattle.problem.specs.Judge.{Judged, clause_at}
use Rattle.problem.specs.Parse.{parse}
use Rattle.problem.specs.Layout.{problem_in, layout}
use Rattle.problem.specs.Table.{Lawful}
use Rattle.problem.specs.Extended.{with_clause, judge_next, text_with, next_read}
use Rattle.problem.proofs.Next.{next_clause, next_line}
use Rattle.problem.proofs.Theorems.{valid_table}
use Rattle.problem.proofs.WellFormed.{clause_bytes}
use Rattle.reading.specs.Read.{table_of, read_leaves}
use Rattle.writing.specs.terms.Lent.{taken_of}
use Rattle.writing.proofs.LentLaws.{fault_says, ok_says, Taken, taken_by}
use Rattle.adding.specs.terms.Appended.{Appended}
use Rattle.adding.proofs.AppendLaws.{table_size, clause_count, last_fits}
use Rattle.offering.specs.Offer.{Offering, slip_over, count_held, frame_held, offering_of, unless_fault, offer_result, offer_leaves, judge_slip, set_result, set_leaves}
use Rattle.offering.specs.terms.Next.{NextFilled, Added}

-- ---- a slip filled

zeros_left : (w n : ℕ) → n ≤ w → ◌≡◌ {A = List ℕ} (drop n (replicate w 0)) (replicate (w - n) 0)
zeros_left w n h = ap (drop n) (zeros_split w n h) ∙ drop_at (replicate n 0) (replicate (w - n) 0) n (length-replicate {A = ℕ} n 0)

-- a frame over w zeros
frame_over : (w : ℕ) (f d ys : List ℕ) → length f ≤ w → ys ≡ f ++ drop (length f) (take w (replicate w 0 ++ d)) → ys ++ drop w (replicate w 0 ++ d) ≡ pad w f ++ d
frame_over w f d ys short e =
    rw (e, take_at (replicate w 0) d w (length-replicate {A = ℕ} w 0), drop_at (replicate w 0) d w (length-replicate {A = ℕ} w 0), zeros_left w (length f) short)

module _ (slip z : List ℕ) (room : 37 ≤ length slip) (zeros : z ≡ replicate (length (take 37 slip)) 0) where
  blank : z ≡ replicate 37 0
  blank = zeros ∙ ap (λ (n : ℕ). replicate n 0) (length-take-le 37 slip room)

  pub blank_room : length (z ++ drop 37 slip) ≡ length slip
  blank_room = omega (arith, length-append z (drop 37 slip), ap length blank ∙ length-replicate {A = ℕ} 37 0, length-drop 37 slip)

  module _ (f ys : List ℕ) (count : ℕ) (short : length f ≤ 35) (over : ys ≡ f ++ drop (length f) (take 35 (drop 2 (set (set (z ++ drop 37 slip) 0 count) 1 (length f))))) where
    abbrev marked : List ℕ → List ℕ
    marked z = set (set (z ++ drop 37 slip) 0 count) 1 (length f)

    pub slip_filled : part_with 2 35 (set (set (z ++ drop 37 slip) 0 count) 1 (length f)) ys ≡ slip_over count f slip
    slip_filled =
        subst (λ (z : List ℕ). ys ≡ f ++ drop (length f) (take 35 (drop 2 (marked z))) → part_with 2 35 (marked z) ys ≡ slip_over count f slip) (sym blank)
        (λ e. ap (λ (l : List ℕ). count ∷ length f ∷ l) (frame_over 35 f (drop 37 slip) ys short e)) over

    pub slip_kept : length (part_with 2 35 (set (set (z ++ drop 37 slip) 0 count) 1 (length f)) ys) ≡ length slip
    slip_kept = ap length slip_filled ∙ omega (arith, length-append (pad 35 f) (drop 37 slip), pad-length 35 f short, length-drop 37 slip)

-- ---- a clause added

module _ (q : Problem) (f : List ℕ) (v : ℕ) (fits : Fits q) (found : judge_next q f ≡ Ok v) where
  pub frame_short : length f ≤ 35
  frame_short = (next_clause q f v found fits).short

  pub room_left : length q.clauses < 64
  room_left =
      let many : length (q.clauses ++ (clause_at q.arities f v ∷ [])) ≤ 64 = (next_clause q f v found fits).fits.clauses_fit in
      omega (arith, length-append q.clauses (clause_at q.arities f v ∷ []))

  -- the bytes of a clause's line are bytes, and the first is 03
  pub frame_bytes : All (λ b. b < 256) f
  frame_bytes =
      let k = clause_at q.arities f v in
      let next = next_clause q f v found fits in
      subst (All (λ b. b < 256)) next.said
      (clause_bytes q.constants q.arities fits.predicates_fit fits.arities_fit k (last_fits q.constants q.arities q.clauses k next.fits.each_fits))

  pub frame_kind : get_or f 0 0 ≡ 3
  frame_kind = ap (λ (l : List ℕ). get_or l 0 0) (sym (next_clause q f v found fits).said)

  -- the text with this line is read to the longer problem
  pub next_read_lem : parse (text_with q f) ≡ next_read q f (Ok v)
  next_read_lem = next_line q f fits frame_bytes frame_short frame_kind ∙ ap (next_read q f) found

module _ (tb f : List ℕ) (h : Lawful tb) (o : Judged) (judged : o ≡ judge_next (problem_in tb) f) where
  pub add_fault : (e : Fault) → o ≡ Err e → Added tb f (Err e) tb
  add_fault e q =
      let said : judge_next (problem_in tb) f ≡ Err e = sym judged ∙ q in
      record { said = rw said; table = rw said }

  module _ (v : ℕ) (found : o ≡ Ok v) where
    pub add_room : get_or tb 2 0 < 64
    add_room = rw (clause_count tb h) (room_left (problem_in tb) f v h.fits (sym judged ∙ found))

    pub add_done : (rec left : List ℕ) → NextFilled tb f o rec → Appended tb rec left → Added tb f (Ok tt) left
    add_done rec left filled appended =
        let said : judge_next (problem_in tb) f ≡ Ok v = sym judged ∙ found in
        let k = clause_at (problem_in tb).arities f v in
        let whole : left ≡ layout (with_clause (problem_in tb) k) = appended.table k _ (next_clause (problem_in tb) f v said h.fits).fits (filled.filled v found) in
        let short : length tb ≤ 4096 = omega (arith, table_size tb h) in
        let none : drop 4096 tb ≡ [] = drop_of_length-le tb short in
        record { said = rw said; table = rw (said, none, append-nil) whole }

-- ---- the problem in a lent table

abbrev pub own : List ℕ → Problem
own tb = problem_in (take 4096 tb)

module _ (tb slip : List ℕ) (taken : Taken tb (ltb (length slip) 37)) where
  pub own_lawful : Lawful (take 4096 tb)
  own_lawful = valid_table (take 4096 tb) taken.valid

  pub slip_room : 37 ≤ length slip
  slip_room = ltb-false (length slip) 37 taken.room

  pub own_count : get_or tb 2 0 ≡ length (own tb).clauses
  own_count = sym (get_or-take 4096 tb 2 0 (omega arith)) ∙ clause_count (take 4096 tb) own_lawful

-- ---- offering: what it says, and what it leaves in the slip

module _ (tb f slip : List ℕ) where
  abbrev Says : Offering → List ℕ → Type 0
  Says r left = (r ≡ offer_result tb f slip) × (left ≡ offer_leaves tb f slip)

  pub offer_refused : {e : Fault} → taken_of tb (ltb (length slip) 37) ≡ Err e → Says (Err e) slip
  unfolding offer_result offer_leaves
  offer_refused t = (fault_says tb (ltb (length slip) 37) Err _ t, fault_says tb (ltb (length slip) 37) (λ e. slip) _ t)

  module _ {u : Unit {0}} (t : taken_of tb (ltb (length slip) 37) ≡ Ok u) where
    pub lent : Taken tb (ltb (length slip) 37)
    lent = taken_by tb (ltb (length slip) 37) t

    pub offer_taken : (offering_of (judge_next (own tb) f) ≡ offer_result tb f slip) × (unless_fault (judge_next (own tb) f) slip (slip_over (length (own tb).clauses) f slip) ≡ offer_leaves tb f slip)
    unfolding offer_result offer_leaves
    offer_taken = (ok_says tb (ltb (length slip) 37) Err _ t, ok_says tb (ltb (length slip) 37) (λ e. slip) _ t)

    module _ (o : Judged) (judged : o ≡ judge_next (own tb) f) where
      pub offer_fault : (e : Fault) → o ≡ Err e → Says (Err e) slip
      offer_fault e q = subst (λ (j : Judged). (offering_of j ≡ offer_result tb f slip) × (unless_fault j slip (slip_over (length (own tb).clauses) f slip) ≡ offer_leaves tb f slip)) (sym judged ∙ q) offer_taken

      pub offer_done : (v : ℕ) (left : List ℕ) → o ≡ Ok v → left ≡ slip_over (get_or (take 4096 tb) 2 0) f slip → Says (Ok tt) left
      offer_done v left q e =
          let both = subst (λ (j : Judged). (offering_of j ≡ offer_result tb f slip) × (unless_fault j slip (slip_over (length (own tb).clauses) f slip) ≡ offer_leaves tb f slip)) (sym judged ∙ q) offer_taken in
          (both.0, e ∙ ap (λ (k : ℕ). slip_over k f slip) (clause_count (take 4096 tb) (own_lawful tb slip lent)) ∙ both.1)

      pub offer_short : (v : ℕ) → o ≡ Ok v → length f ≤ 35
      offer_short v q = frame_short (own tb) f v (own_lawful tb slip lent).fits (sym judged ∙ q)

-- ---- setting: what it says, and what it leaves in the table

-- a frame's clause added in a lent table: that of the longer text, or what was there
added_leaves : (tb f : List ℕ) (r : Offering) (left : List ℕ) → 4096 ≤ length tb → Lawful (take 4096 tb) → Added (take 4096 tb) f r left
    → left ++ drop 4096 tb ≡ unless_fault (judge_next (own tb) f) tb (read_leaves (text_with (own tb) f) tb)
unfolding read_leaves
added_leaves tb f r left long h added = go (judge_next (own tb) f) refl added.table
  where
    go : (o : Judged) → judge_next (own tb) f ≡ o → left ≡ table_of (next_read (own tb) f o) (take 4096 tb)
        → left ++ drop 4096 tb ≡ unless_fault o tb (cond (ltb (length tb) 4096) tb (table_of (parse (text_with (own tb) f)) tb))
    go (Err e) q t = rw t (take-append-drop 4096 tb)
    go (Ok v) q t =
        let short : length (take 4096 tb) ≤ 4096 = omega (arith, length-take-le 4096 tb long) in
        let none : drop 4096 (take 4096 tb) ≡ [] = drop_of_length-le (take 4096 tb) short in
        rw (t, none, append-nil, le-ltb (length tb) 4096 long, next_read_lem (own tb) f v h.fits q) refl

module _ (tb slip : List ℕ) where
  abbrev Sets : Offering → List ℕ → Type 0
  Sets r left = (r ≡ set_result tb slip) × (left ≡ set_leaves tb slip)

  pub set_refused : {e : Fault} → taken_of tb (ltb (length slip) 37) ≡ Err e → Sets (Err e) tb
  unfolding set_result set_leaves
  set_refused t = (fault_says tb (ltb (length slip) 37) Err _ t, fault_says tb (ltb (length slip) 37) (λ e. tb) _ t)

  module _ {u : Unit {0}} (t : taken_of tb (ltb (length slip) 37) ≡ Ok u) where
    pub set_lent : Taken tb (ltb (length slip) 37)
    set_lent = taken_by tb (ltb (length slip) 37) t

    abbrev Judges : Judged → Type 0
    Judges j = (offering_of j ≡ set_result tb slip) × (unless_fault j tb (read_leaves (text_with (own tb) (frame_held slip)) tb) ≡ set_leaves tb slip)

    pub set_taken : Judges (judge_slip (own tb) slip)
    unfolding set_result set_leaves
    set_taken = (ok_says tb (ltb (length slip) 37) Err _ t, ok_says tb (ltb (length slip) 37) (λ e. tb) _ t)

    count_same : count_held slip ≡ get_or tb 2 0 → count_held slip ≡ length (own tb).clauses
    count_same e = e ∙ own_count tb slip set_lent

    pub set_stale : (count_held slip ≡ get_or tb 2 0 → ⊥) → Sets (Err StaleSlip) tb
    unfolding judge_slip
    set_stale other =
        let judged : judge_slip (own tb) slip ≡ Err StaleSlip = rw (ne_eqb (count_held slip) (length (own tb).clauses) (λ e. other (e ∙ sym (own_count tb slip set_lent)))) refl in
        subst Judges judged set_taken

    pub set_long : count_held slip ≡ get_or tb 2 0 → 35 < get_or slip 1 0 → Sets (Err BadLength) tb
    unfolding judge_slip
    set_long e long =
        let judged : judge_slip (own tb) slip ≡ Err BadLength = rw (eq-eqb (count_held slip) (length (own tb).clauses) (count_same e), le-ltb (get_or slip 1 0) 36 long) refl in
        subst Judges judged set_taken

    pub set_added : count_held slip ≡ get_or tb 2 0 → get_or slip 1 0 ≤ 35 → (r : Offering) (left : List ℕ) → Added (take 4096 tb) (frame_held slip) r left → Sets r (left ++ drop 4096 tb)
    unfolding judge_slip
    set_added e short r left added =
        let judged : judge_slip (own tb) slip ≡ judge_next (own tb) (frame_held slip) = rw (eq-eqb (count_held slip) (length (own tb).clauses) (count_same e), lt-ltb (get_or slip 1 0) 36 (omega arith)) refl in
        let judges = subst Judges judged set_taken in
        (added.said ∙ judges.0, added_leaves tb (frame_held slip) r left set_lent.long (own_lawful tb slip set_lent) added ∙ judges.1)
