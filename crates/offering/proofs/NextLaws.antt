-- What judging a frame as the next clause line asks of a table and of the line that the frame is written as, and what it gives.
use Rattle.std.specs.Prelude.{Ok, Err}
use Rattle.problem.specs.declared.fault.Fault.{Fault}
use Rattle.problem.specs.declared.fault.Fault.TheVariants.{BadKind, BadLength, BadCount, Unknown, BadNumbering}
use Prim.Native.Nat.{ℕ, suc, ◌+◌, ◌*◌, ◌/◌, ◌%◌, ◌≤◌, ◌<◌}
use mathlib.Core.List.{List, [], ◌∷◌}
use mathlib.Core.Path.{◌≡◌, refl, sym, ap, subst, ◌∙◌}
use native.Mathlib.Omega.{arith}
use borrow.Author.Tests.{eq-eqb, ne_eqb}
use lib.ListN.{length, take, drop, get_or, take-append-drop}
use Rattle.lists.specs.Digits.{low_bytes}
use Rattle.lists.specs.Member.{All}
use Rattle.lists.proofs.Member.{append_left}
use Rattle.problem.specs.declared.line.Line.TheVariants.{Holds}
use Rattle.problem.specs.Digit.{hex_line}
use Rattle.problem.specs.Line.{line_at, frame_at}
use Rattle.problem.specs.Problem.{first_atom, weights}
use Rattle.problem.specs.Judge.{Judged, judge_clause}
use Rattle.problem.specs.Layout.{arities_in, problem_in, predicate_record}
use Rattle.problem.specs.Table.{Lawful}
use Rattle.problem.specs.Extended.{judge_next, past_line}
use Rattle.problem.proofs.TableLayout.{predicate_byte}
use Rattle.problem.proofs.Access.{predicates_in}
use Rattle.problem.proofs.Judges.{fault_found}
use Rattle.problem.proofs.Next.{line_of_frame, judged_past}
use Rattle.clause_line.specs.terms.Record.{Indexed, ClauseFilled}
use Rattle.writing.specs.terms.Printed.{Put}
use Rattle.writing.proofs.WriteLaws.{put_front}
use Rattle.adding.proofs.AppendLaws.{table_size, clause_count}
use Rattle.offering.specs.terms.Next.{NextFilled}

-- a lawful table has what reading a clause line looks up in it
module _ (tb : List ℕ) (h : Lawful tb) where
  two : (x y n : ℕ) → x ≡ n % 256 → y ≡ n / 256 % 256 → x ∷ y ∷ [] ≡ low_bytes 2 n
  two x y n e f = rw (e, f)

  record_byte : (j i : ℕ) → j < length (problem_in tb).arities → i < 4
      → get_or tb (16 + 4 * j + i) 0 ≡ get_or (predicate_record (first_atom (problem_in tb).constants (problem_in tb).arities j) (get_or (problem_in tb).arities j 0)) i 0
  record_byte j i l s = ap (λ (t : List ℕ). get_or t (16 + 4 * j + i) 0) (sym h.laid) ∙ predicate_byte (problem_in tb) h.fits j i l s

  pub predicate_count : get_or tb 1 0 ≡ length (problem_in tb).arities
  predicate_count = ap (λ (t : List ℕ). get_or t 1 0) (sym h.laid) ∙ predicates_in (problem_in tb) h.fits

  pub lawful_indexed : Indexed tb
  unfolding problem_in
  lawful_indexed =
      record {
        size = table_size tb h;
        constants_fit = h.fits.constants_fit;
        predicates_fit = rw predicate_count h.fits.predicates_fit;
        firsts = first;
      }
    where
      first : (j : ℕ) → j < get_or tb 1 0 → get_or tb (17 + 4 * j) 0 ∷ get_or tb (18 + 4 * j) 0 ∷ [] ≡ low_bytes 2 (first_atom (get_or tb 0 0) (arities_in tb) j)
      first j l =
          let below : j < length (arities_in tb) = rw predicate_count at l in
          let low : 17 + 4 * j ≡ 16 + 4 * j + 1 = omega arith in
          let high : 18 + 4 * j ≡ 16 + 4 * j + 2 = omega arith in
          rw (low, high) (two _ _ (first_atom (get_or tb 0 0) (arities_in tb) j) (record_byte j 1 below (omega arith)) (record_byte j 2 below (omega arith)))

-- a frame written as a line at the start of a buffer is read there again
module _ {e x : List ℕ} (f : List ℕ) {m r : ℕ} (bytes : All (λ b. b < 256) f) (some : 0 < length f) (short : length f ≤ 35) (p : Put e 0 (hex_line f) m r x) where
  held : (line_at x 0 ≡ Holds (length f)) × (frame_at x 0 (length f) ≡ f)
  held = rw (put_front p) (line_of_frame f (drop (length (hex_line f)) e) bytes some short)

  pub line_put : line_at x 0 ≡ Holds (length f)
  line_put = held.0

  -- and what was judged of that line is judged of the frame
  pub judged_put : (tb : List ℕ) (n sum : ℕ) (o : Judged) (rec : List ℕ) → n ≡ sum → ClauseFilled tb (frame_at x 0 (length f)) n o rec → ClauseFilled tb f sum o rec
  judged_put tb n sum o rec e = subst (λ (g : List ℕ). ClauseFilled tb g n o rec → ClauseFilled tb f sum o rec) (sym held.1) (subst (λ (k : ℕ). ClauseFilled tb f n o rec → ClauseFilled tb f k o rec) e (λ g. g))

-- each element of a list is a byte if the element at any place is
pub all_bytes : (f : List ℕ) → ((i : ℕ) → get_or f i 0 < 256) → All (λ b. b < 256) f
all_bytes [] h = tt
all_bytes (b ∷ f) h = (h 0, all_bytes f (λ i. h (suc i)))

-- and so is each of its front
pub front_bytes : (n : ℕ) (f : List ℕ) → All (λ b. b < 256) f → All (λ b. b < 256) (take n f)
front_bytes n f a = append_left (λ b. b < 256) (take n f) (drop n f) (subst (All (λ b. b < 256)) (sym (take-append-drop n f)) a)

-- ---- what the first 35 bytes of a longer frame tell

past_never : (o : Judged) (v : ℕ) → past_line o ≡ Ok v → ⊥
unfolding past_line
past_never (Err BadCount) v q = fault_found BadCount v q
past_never (Err Unknown) v q = fault_found Unknown v q
past_never (Err BadNumbering) v q = fault_found BadNumbering v q
past_never _ v q = fault_found BadLength v q

-- ---- judging a frame as the next clause line

module _ (tb f rec : List ℕ) (size : length rec ≡ 56) where
  next_fault : (e : Fault) → Err e ≡ judge_next (problem_in tb) f → NextFilled tb f (Err e) rec
  next_fault e q = record { judged = q; filled = λ v r. absurd (fault_found e v r); size = size }

  pub other_kind : (get_or f 0 0 ≡ 3 → ⊥) → NextFilled tb f (Err BadKind) rec
  unfolding judge_next
  other_kind other = next_fault BadKind (rw (ne_eqb (get_or f 0 0) 3 other) refl)

  pub no_bytes : length f ≡ 0 → NextFilled tb f (Err BadKind) rec
  no_bytes none = other_kind (go f none)
    where
      go : (g : List ℕ) → length g ≡ 0 → get_or g 0 0 ≡ 3 → ⊥
      go [] n e = absurd (omega arith)
      go (b ∷ g) n e = absurd (omega arith)

  module _ (h : Lawful tb) (kind : get_or f 0 0 ≡ 3) where
    pub full_table : get_or tb 2 0 ≡ 64 → NextFilled tb f (Err BadCount) rec
    unfolding judge_next
    full_table full = next_fault BadCount (rw (eq-eqb (get_or f 0 0) 3 kind, eq-eqb (length (problem_in tb).clauses) 64 (sym (clause_count tb h) ∙ full)) refl)

    module _ (room : get_or tb 2 0 ≡ 64 → ⊥) where
      next_judged : judge_next (problem_in tb) f ≡ judge_clause (problem_in tb).constants (problem_in tb).arities (weights (problem_in tb).constants (problem_in tb).clauses) f
      unfolding judge_next
      next_judged = rw (eq-eqb (get_or f 0 0) 3 kind, ne_eqb (length (problem_in tb).clauses) 64 (λ e. room (clause_count tb h ∙ e))) refl

      pub next_filled : (o : Judged) → ClauseFilled tb f (weights (problem_in tb).constants (problem_in tb).clauses) o rec → NextFilled tb f o rec
      unfolding problem_in
      next_filled o g = record { judged = g.judged ∙ sym next_judged; filled = g.filled; size = size }

      pub next_past : (o r : Judged) → 35 < length f → ClauseFilled tb (take 35 f) (weights (problem_in tb).constants (problem_in tb).clauses) o rec → r ≡ past_line o → NextFilled tb f r rec
      unfolding problem_in
      next_past o r long g e =
          record {
            judged = e ∙ ap past_line g.judged ∙ sym (next_judged ∙ judged_past (get_or tb 0 0) (arities_in tb) (weights (problem_in tb).constants (problem_in tb).clauses) f h.fits.arities_fit long);
            filled = λ v q. absurd (past_never o v (sym e ∙ q));
            size = size;
          }
