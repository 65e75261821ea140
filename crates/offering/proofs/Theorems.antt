-- The claims of `specs/Claims.antt`, proved.
use Rattle.std.specs.Prelude.{Result, Ok, Err}
use Rattle.problem.specs.declared.fault.Fault.{Fault}
use Rattle.problem.specs.declared.fault.Fault.TheVariants.{BadLength, ShortBuffer, NoTable, StaleSlip}
use Prim.Native.Nat.{ℕ, ◌+◌, ◌-◌, ◌≤◌, ◌<◌}
use mathlib.Core.Bool.{Bool, true, false, cond, ◌||◌}
use mathlib.Core.List.{List, [], ◌∷◌, ◌++◌, append_assoc}
use mathlib.Core.Path.{◌≡◌, refl, sym, ap, subst, ◌∙◌}
use native.Mathlib.Omega.{arith}
use borrow.Author.Tests.{lt-ltb, le-ltb, eq-eqb, ne_eqb, ltb-false}
use lib.Dec.{T, eqb, ltb, eqb→eq}
use lib.ListN.{length, take, drop, get_or, replicate, length-append, length-drop}
use lib.Seq.{take_at, drop_at}
use Rattle.lists.specs.Bytes.{pad}
use Rattle.lists.specs.Key.{nat_key}
use Rattle.lists.specs.Member.{All, In}
use Rattle.lists.proofs.Bytes.{pad-length}
use Rattle.lists.proofs.Test.{T-true, T-false, fails}
use Rattle.problem.specs.Faults.{fault_number}
use Rattle.problem.specs.Problem.{Problem, Fits}
use Rattle.problem.specs.Judge.{Judged, clause_at}
use Rattle.problem.specs.Layout.{layout, problem_in}
use Rattle.problem.specs.Print.{text_of}
use Rattle.problem.specs.Table.{Valid, is_valid}
use Rattle.problem.specs.Extended.{with_clause, judge_next, text_with, next_read}
use Rattle.problem.proofs.Accepted.{parse_accepts}
use Rattle.problem.proofs.Next.{next_clause, next_line}
use Rattle.problem.proofs.TableLayout.{layout-length, problem_back}
use Rattle.problem.proofs.Theorems.{valid_from, valid_to, Valid-Lawful}
use Rattle.reading.specs.Read.{reading_of, read_result, read_leaves}
use Rattle.writing.specs.terms.Lent.{taken_of}
use Rattle.writing.proofs.LentLaws.{says_taken, Taken}
use Rattle.offering.specs.Offer.{Offering, slip_over, count_held, frame_held, offering_of, unless_fault, offer_result, offer_leaves, judge_slip, set_result, set_leaves}
use Rattle.offering.specs.Claims.{problem_lent, Held, after_offers, as_read, SetAs, clause_refusals, Theorems}
use Rattle.offering.proofs.RefusalLaws.{next_numbers, slip_numbers, said_numbers}
use Rattle.offering.proofs.OfferLaws.{frame_short, next_read_lem, own_lawful, offer_refused, lent, offer_taken, set_refused, set_lent, set_taken}

-- ---- what was taken, and what was not

refused_done : (e : Fault) → ◌≡◌ {A = Offering} (Err e) (Ok tt) → ⊥
refused_done e q = cc

-- a frame that an offer takes
record Offered (tb f slip : List ℕ) : Type 0 where
  lent : Taken tb (ltb (length slip) 37)
  vars : ℕ
  found : judge_next (problem_lent tb) f ≡ Ok vars
  leaves : offer_leaves tb f slip ≡ slip_over (length (problem_lent tb).clauses) f slip

-- a slip that is set
record Settled (tb slip : List ℕ) : Type 0 where
  lent : Taken tb (ltb (length slip) 37)
  vars : ℕ
  count : count_held slip ≡ length (problem_lent tb).clauses
  found : judge_next (problem_lent tb) (frame_held slip) ≡ Ok vars
  leaves : set_leaves tb slip ≡ read_leaves (text_with (problem_lent tb) (frame_held slip)) tb

offered : (tb f slip : List ℕ) → offer_result tb f slip ≡ Ok tt → Offered tb f slip
offered tb f slip done = go (taken_of tb (ltb (length slip) 37)) refl
  where
    judged : (t : Taken tb (ltb (length slip) 37)) (o : Judged) → judge_next (problem_lent tb) f ≡ o
        → (offering_of o ≡ offer_result tb f slip) × (unless_fault o slip (slip_over (length (problem_lent tb).clauses) f slip) ≡ offer_leaves tb f slip) → Offered tb f slip
    judged t (Err e) q both = absurd (refused_done e (both.0 ∙ done))
    judged t (Ok v) q both = record { lent = t; vars = v; found = q; leaves = sym both.1 }

    go : (o : Result (Unit {0}) Fault) → taken_of tb (ltb (length slip) 37) ≡ o → Offered tb f slip
    go (Ok u) e = judged (lent tb f slip e) (judge_next (problem_lent tb) f) refl (offer_taken tb f slip e)
    go (Err i) e = absurd (refused_done i ((offer_refused tb f slip e).0 ∙ done))

module _ (tb slip : List ℕ) where
  -- what setting says and leaves, where the slip is judged so
  abbrev Judges : Judged → Type 0
  Judges j = (offering_of j ≡ set_result tb slip) × (unless_fault j tb (read_leaves (text_with (problem_lent tb) (frame_held slip)) tb) ≡ set_leaves tb slip)

  slip_judged : Taken tb (ltb (length slip) 37) → Judges (judge_slip (problem_lent tb) slip)
  slip_judged t = set_taken tb slip (says_taken tb (ltb (length slip) 37) t)

  settled : set_result tb slip ≡ Ok tt → Settled tb slip
  unfolding judge_slip
  settled done = go (taken_of tb (ltb (length slip) 37)) refl
    where
      judged : (t : Taken tb (ltb (length slip) 37)) → count_held slip ≡ length (problem_lent tb).clauses → (o : Judged) → judge_next (problem_lent tb) (frame_held slip) ≡ o → Judges o → Settled tb slip
      judged t same (Err e) q both = absurd (refused_done e (both.0 ∙ done))
      judged t same (Ok v) q both = record { lent = t; vars = v; count = same; found = q; leaves = sym both.1 }

      tests : (t : Taken tb (ltb (length slip) 37)) (b : Bool) → eqb (count_held slip) (length (problem_lent tb).clauses) ≡ b → (d : Bool)
          → Judges (cond b (cond d (judge_next (problem_lent tb) (frame_held slip)) (Err BadLength)) (Err StaleSlip)) → Settled tb slip
      tests t false e d both = absurd (refused_done StaleSlip (both.0 ∙ done))
      tests t true e false both = absurd (refused_done BadLength (both.0 ∙ done))
      tests t true e true both = judged t (eqb→eq (count_held slip) (length (problem_lent tb).clauses) (subst T (sym e) tt)) (judge_next (problem_lent tb) (frame_held slip)) refl both

      go : (o : Result (Unit {0}) Fault) → taken_of tb (ltb (length slip) 37) ≡ o → Settled tb slip
      go (Ok u) e = let t = set_lent tb slip e in tests t (eqb (count_held slip) (length (problem_lent tb).clauses)) refl (ltb (get_or slip 1 0) 36) (slip_judged t)
      go (Err i) e = absurd (refused_done i ((set_refused tb slip e).0 ∙ done))

-- ---- 31 first, and then the frame

module _ (tb f slip : List ℕ) (long : 4096 ≤ length tb) (room : 37 ≤ length slip) where
  unlawful : (Valid (take 4096 tb) → ⊥) → (offer_result tb f slip ≡ Err NoTable) × (set_result tb slip ≡ Err NoTable)
  unfolding offer_result set_result
  unlawful other =
      let no : is_valid (take 4096 tb) ≡ false =
      T-false (is_valid (take 4096 tb)) (fails (is_valid (take 4096 tb)) (λ t. other (valid_from (take 4096 tb) t)))
      in
      (rw (le-ltb (length tb) 4096 long, le-ltb (length slip) 37 room, no), rw (le-ltb (length tb) 4096 long, le-ltb (length slip) 37 room, no))

  judged : Valid (take 4096 tb) → offer_result tb f slip ≡ offering_of (judge_next (problem_lent tb) f)
  unfolding offer_result
  judged valid = rw (le-ltb (length tb) 4096 long, le-ltb (length slip) 37 room, T-true (is_valid (take 4096 tb)) (valid_to (take 4096 tb) valid))

-- ---- the numbers of refusals

refusals : (tb f slip : List ℕ) (e : Fault) → offer_result tb f slip ≡ Err e → In nat_key (11 ∷ 31 ∷ clause_refusals) (fault_number e)
unfolding offer_result
refusals tb f slip e =
    said_numbers (λ i. In nat_key (11 ∷ 31 ∷ clause_refusals) (fault_number i)) (ltb (length tb) 4096 || ltb (length slip) 37) (is_valid (take 4096 tb)) (judge_next (problem_lent tb) f) e tt tt (next_numbers (problem_lent tb) f)

set_refusals : (tb slip : List ℕ) (e : Fault) → set_result tb slip ≡ Err e → In nat_key (11 ∷ 31 ∷ 43 ∷ clause_refusals) (fault_number e)
unfolding set_result
set_refusals tb slip e =
    said_numbers (λ i. In nat_key (11 ∷ 31 ∷ 43 ∷ clause_refusals) (fault_number i)) (ltb (length tb) 4096 || ltb (length slip) 37) (is_valid (take 4096 tb)) (judge_slip (problem_lent tb) slip) e tt tt (slip_numbers (problem_lent tb) slip)

-- ---- a refusal changes nothing

unoffered_kept : (tb f slip : List ℕ) (e : Fault) → offer_result tb f slip ≡ Err e → offer_leaves tb f slip ≡ slip
unfolding offer_result offer_leaves
unoffered_kept tb f slip e = go (ltb (length tb) 4096 || ltb (length slip) 37) (is_valid (take 4096 tb)) (judge_next (problem_lent tb) f)
  where
    go : (b v : Bool) (o : Judged) → ◌≡◌ {A = Offering} (cond b (Err ShortBuffer) (cond v (offering_of o) (Err NoTable))) (Err e) → cond b slip (cond v (unless_fault o slip (slip_over (length (problem_lent tb).clauses) f slip)) slip) ≡ slip
    go true v o q = refl
    go false false o q = refl
    go false true (Err i) q = refl
    go false true (Ok i) q = absurd (refused_done e (sym q))

unset_kept : (tb slip : List ℕ) (e : Fault) → set_result tb slip ≡ Err e → set_leaves tb slip ≡ tb
unfolding set_result set_leaves
unset_kept tb slip e = go (ltb (length tb) 4096 || ltb (length slip) 37) (is_valid (take 4096 tb)) (judge_slip (problem_lent tb) slip)
  where
    go : (b v : Bool) (o : Judged) → ◌≡◌ {A = Offering} (cond b (Err ShortBuffer) (cond v (offering_of o) (Err NoTable))) (Err e)
        → cond b tb (cond v (unless_fault o tb (read_leaves (text_with (problem_lent tb) (frame_held slip)) tb)) tb) ≡ tb
    go true v o q = refl
    go false false o q = refl
    go false true (Err i) q = refl
    go false true (Ok i) q = absurd (refused_done e (sym q))

-- ---- what a slip holds after an offer

module _ (n : ℕ) (f slip : List ℕ) (short : length f ≤ 35) where
  over_frame : frame_held (slip_over n f slip) ≡ f
  over_frame = rw (append_assoc f (replicate (35 - length f) 0) (drop 37 slip)) (take_at f (replicate (35 - length f) 0 ++ drop 37 slip) (length f) refl)

  over_rest : drop (length f) (take 35 (drop 2 (slip_over n f slip))) ≡ replicate (35 - length f) 0
  over_rest = ap (drop (length f)) (take_at (pad 35 f) (drop 37 slip) 35 (pad-length 35 f short)) ∙ drop_at f (replicate (35 - length f) 0) (length f) refl

  over_room : 37 ≤ length slip → 37 ≤ length (slip_over n f slip)
  over_room room = omega (arith, length-append (pad 35 f) (drop 37 slip), pad-length 35 f short, length-drop 37 slip)

module _ (tb f slip : List ℕ) (o : Offered tb f slip) where
  held : List ℕ
  held = slip_over (length (problem_lent tb).clauses) f slip

  few : length f ≤ 35
  few = frame_short (problem_lent tb) f o.vars (own_lawful tb slip o.lent).fits o.found

  held_holds : Held tb f held
  unfolding held
  held_holds = record { count = refl; frame = over_frame (length (problem_lent tb).clauses) f slip few; rest = over_rest (length (problem_lent tb).clauses) f slip few }

  held_lent : Taken tb (ltb (length held) 37)
  unfolding held
  held_lent =
      record {
        long = o.lent.long;
        room = le-ltb (length held) 37 (over_room (length (problem_lent tb).clauses) f slip few (ltb-false (length slip) 37 o.lent.room));
        valid = o.lent.valid;
      }

  held_judged : judge_slip (problem_lent tb) held ≡ Ok o.vars
  unfolding held judge_slip
  held_judged =
      let n = length (problem_lent tb).clauses in
      rw (eq-eqb n n refl, lt-ltb (length f) 36 (omega (arith, few)), over_frame n f slip few) o.found

  held_sets : Judges tb held (Ok o.vars)
  held_sets = subst (Judges tb held) held_judged (slip_judged tb held held_lent)

slip_holds : (tb f slip : List ℕ) → offer_result tb f slip ≡ Ok tt → Held tb f (offer_leaves tb f slip)
unfolding held
slip_holds tb f slip done =
    let o = offered tb f slip done in
    subst (Held tb f) (sym o.leaves) (held_holds tb f slip o)

slip_beyond : (tb f slip : List ℕ) → offer_result tb f slip ≡ Ok tt → drop 37 (offer_leaves tb f slip) ≡ drop 37 slip
slip_beyond tb f slip done =
    let o = offered tb f slip done in
    let size : length (pad 35 f) ≡ 35 = pad-length 35 f (few tb f slip o) in
    ap (drop 37) o.leaves ∙ drop_at (length (problem_lent tb).clauses ∷ length f ∷ pad 35 f) (drop 37 slip) 37 (omega (arith, size))

-- ---- offers in between

offer_sets : (tb f slip : List ℕ) → offer_result tb f slip ≡ Ok tt → set_result tb (offer_leaves tb f slip) ≡ Ok tt
unfolding held
offer_sets tb f slip done =
    let o = offered tb f slip done in
    ap (set_result tb) o.leaves ∙ sym (held_sets tb f slip o).0

-- an offer leaves a slip that is set as one that is set
still_sets : (tb f slip : List ℕ) → set_result tb slip ≡ Ok tt → set_result tb (offer_leaves tb f slip) ≡ Ok tt
still_sets tb f slip sets = go (offer_result tb f slip) refl
  where
    go : (r : Offering) → offer_result tb f slip ≡ r → set_result tb (offer_leaves tb f slip) ≡ Ok tt
    go (Err e) q = ap (set_result tb) (unoffered_kept tb f slip e q) ∙ sets
    go (Ok u) q = offer_sets tb f slip q

offers_set : (tb : List ℕ) (fs : List (List ℕ)) (slip : List ℕ) → set_result tb slip ≡ Ok tt → set_result tb (after_offers tb fs slip) ≡ Ok tt
offers_set tb [] slip sets = sets
offers_set tb (f ∷ fs) slip sets = offers_set tb fs (offer_leaves tb f slip) (still_sets tb f slip sets)

-- ---- a slip that may hold anything

module _ (tb slip : List ℕ) (long : 4096 ≤ length tb) (room : 37 ≤ length slip) (valid : Valid (take 4096 tb)) where
  any_lent : Taken tb (ltb (length slip) 37)
  any_lent = record { long = long; room = le-ltb (length slip) 37 room; valid = T-true _ (valid_to (take 4096 tb) valid) }

  any_judged : (o : Judged) → judge_slip (problem_lent tb) slip ≡ o → set_result tb slip ≡ offering_of o
  any_judged o e = sym (subst (Judges tb slip) e (slip_judged tb slip any_lent)).0

  seen_first : (count_held slip ≡ length (problem_lent tb).clauses → ⊥) → set_result tb slip ≡ Err StaleSlip
  unfolding judge_slip
  seen_first other = any_judged (Err StaleSlip) (rw (ne_eqb (count_held slip) (length (problem_lent tb).clauses) other))

  too_long : count_held slip ≡ length (problem_lent tb).clauses → 36 ≤ get_or slip 1 0 → set_result tb slip ≡ Err BadLength
  unfolding judge_slip
  too_long same long = any_judged (Err BadLength) (rw (eq-eqb (count_held slip) (length (problem_lent tb).clauses) same, le-ltb (get_or slip 1 0) 36 long))

set_as_offered : (tb slip : List ℕ) → count_held slip ≡ length (problem_lent tb).clauses → get_or slip 1 0 ≤ 35 → set_result tb slip ≡ offer_result tb (frame_held slip) slip
unfolding set_result offer_result judge_slip
set_as_offered tb slip same short = rw (eq-eqb (count_held slip) (length (problem_lent tb).clauses) same, lt-ltb (get_or slip 1 0) 36 (omega (arith, short)))

-- ---- what is set

module _ (tb slip : List ℕ) (s : Settled tb slip) where
  abbrev q : Problem
  q = problem_lent tb

  abbrev more : Problem
  more = with_clause q (clause_at q.arities (frame_held slip) s.vars)

  fits : Fits q
  fits = (own_lawful tb slip s.lent).fits

  more-Fits : Fits more
  more-Fits = (next_clause q (frame_held slip) s.vars s.found fits).fits

  added : set_leaves tb slip ≡ layout more ++ drop 4096 tb
  unfolding read_leaves
  added = s.leaves ∙ rw (le-ltb (length tb) 4096 s.lent.long, next_read_lem q (frame_held slip) s.vars fits s.found) refl

  more_own : take 4096 (set_leaves tb slip) ≡ layout more
  more_own = ap (take 4096) added ∙ take_at (layout more) (drop 4096 tb) 4096 (layout-length more more-Fits)

  more_valid : Valid (take 4096 (set_leaves tb slip))
  more_valid = record { text = text_of more; problem = more; accepted = parse_accepts more more-Fits; bytes = sym more_own }

  set_as : SetAs tb slip
  set_as =
      record {
        clause = clause_at q.arities (frame_held slip) s.vars;
        said = (next_clause q (frame_held slip) s.vars s.found fits).said;
        fits = more-Fits;
        added = added;
        valid = more_valid;
      }

  more_lent : Taken (set_leaves tb slip) (ltb (length slip) 37)
  more_lent =
      record {
        long = rw added (omega (arith, length-append (layout more) (drop 4096 tb), layout-length more more-Fits));
        room = s.lent.room;
        valid = T-true _ (valid_to (take 4096 (set_leaves tb slip)) more_valid);
      }

  more_found : problem_lent (set_leaves tb slip) ≡ more
  more_found = ap problem_in more_own ∙ problem_back more more-Fits

  -- the slip's count is that of the table before
  stale : judge_slip (problem_lent (set_leaves tb slip)) slip ≡ Err StaleSlip
  unfolding judge_slip
  stale =
      let count : count_held slip ≡ length q.clauses = s.count in
      let longer : length more.clauses ≡ length q.clauses + 1 = length-append q.clauses _ in
      rw (more_found, ne_eqb (count_held slip) (length more.clauses) (λ e. omega arith)) refl

  set_once : set_result (set_leaves tb slip) slip ≡ Err StaleSlip
  set_once = sym (subst (Judges (set_leaves tb slip) slip) stale (slip_judged (set_leaves tb slip) slip more_lent)).0

-- ---- as reading gives it

module _ (tb f slip : List ℕ) (long : 4096 ≤ length tb) (room : 37 ≤ length slip) (valid : Valid (take 4096 tb)) (bytes : All (λ b. b < 256) f) (short : length f ≤ 35) (kind : get_or f 0 0 ≡ 3) where
  offered_as_read : read_result (text_with (problem_lent tb) f) tb ≡ as_read (2 + length (problem_lent tb).arities + length (problem_lent tb).clauses) (offer_result tb f slip)
  unfolding read_result
  offered_as_read =
      let q = problem_lent tb in
      let taken = says_taken tb (ltb (length slip) 37) (record { long = long; room = le-ltb (length slip) 37 room; valid = T-true _ (valid_to (take 4096 tb) valid) }) in
      rw (le-ltb (length tb) 4096 long, next_line q f (Valid-Lawful (take 4096 tb) valid).fits bytes short kind, ← (offer_taken tb f slip taken).0) (go (judge_next q f))
    where
      go : (o : Judged) → reading_of (next_read (problem_lent tb) f o) ≡ as_read (2 + length (problem_lent tb).arities + length (problem_lent tb).clauses) (offering_of o)
      go (Err e) = refl
      go (Ok v) = refl

set_as_read : (tb f slip : List ℕ) → offer_result tb f slip ≡ Ok tt → set_leaves tb (offer_leaves tb f slip) ≡ read_leaves (text_with (problem_lent tb) f) tb
unfolding held
set_as_read tb f slip done =
    let o = offered tb f slip done in
    ap (set_leaves tb) o.leaves
    ∙ sym (held_sets tb f slip o).1
    ∙ ap (λ (g : List ℕ). read_leaves (text_with (problem_lent tb) g) tb) (held_holds tb f slip o).frame

pub theorems : Theorems
theorems =
    record {
      unlawful = unlawful;
      judged = judged;
      refusals = refusals;
      set_refusals = set_refusals;
      unoffered_kept = unoffered_kept;
      unset_kept = unset_kept;
      slip_holds = slip_holds;
      slip_beyond = slip_beyond;
      offers_between = λ tb f slip fs done. offers_set tb fs (offer_leaves tb f slip) (offer_sets tb f slip done);
      set_as = λ tb slip done. set_as tb slip (settled tb slip done);
      set_once = λ tb slip done. set_once tb slip (settled tb slip done);
      seen_first = seen_first;
      too_long = too_long;
      set_as_offered = set_as_offered;
      offered_as_read = offered_as_read;
      set_as_read = set_as_read;
    }
