-- A text that is read is the text of its problem, and the problem keeps every bound.
use Rattle.std.specs.Prelude.{Ok, Err}
use Rattle.problem.specs.declared.fault.Fault.{Fault}
use Rattle.problem.specs.declared.judge.Sizes.{Sizes}
use Rattle.problem.specs.declared.fault.Fault.TheVariants.{BadLine, BadKind, BadLength, BadCount}
use Prim.Native.Nat.{ℕ, zero, suc, ◌+◌, ◌≤◌, ◌<◌}
use mathlib.Core.Bool.{Bool, true, false}
use mathlib.Core.List.{List, [], ◌∷◌, ◌++◌, append_assoc, append-nil, flat_map}
use mathlib.Core.Path.{◌≡◌, refl, sym, ap, subst, ◌∙◌}
use native.Mathlib.Nat.{add-zero}
use native.Mathlib.Omega.{arith}
use lib.Dec.{T, eqb, ltb, eqb→eq}
use lib.ListN.{length, take, drop, get_or, length-append, drop_of_length-le}
use Rattle.lists.specs.Member.{All}
use Rattle.lists.proofs.Member.{All-append, flat_snoc}
use Rattle.problem.specs.declared.line.Line.{Line}
use Rattle.problem.specs.declared.line.Line.TheVariants.{Absent, Bad, Holds}
use Rattle.problem.specs.Digit.{hex_line}
use Rattle.problem.specs.Line.{line_at, frame_at, after_line}
use Rattle.problem.specs.Problem.{Clause, Problem, ClauseFits, Fits, atom_count, weights}
use Rattle.problem.specs.terms.Sized.{Sized}
use Rattle.problem.specs.Judge.{Judged, Heading, judge_heading, judge_arity, judge_clause, clause_at}
use Rattle.problem.specs.Parse.{Parsed, refused, parsed, judge_closing, parse_end, parse_closing, parse_clauses, parse_arities, parse}
use Rattle.problem.specs.Print.{arity_frame, clause_frame, text_of}
use Rattle.problem.proofs.Lines.{frame_bytes, line_absent, line_text}
use Rattle.problem.proofs.Judges.{passed, fault_found, two_bytes, heading_sizes, arity_found, clause_found}
use Rattle.problem.proofs.TableLayout.{atom_count_snoc, weights_snoc}

refused-parsed : (e : Fault) (line : ℕ) (q : Problem) → refused e line ≡ parsed q → ⊥
refused-parsed e line q s = let z : ◌≡◌ {A = ℕ} 0 1 = cc in omega arith

-- a reading that ended in a problem went on past each line, judge and test
module _ {R : Type 0} (line : ℕ) (q : Problem) where
  line_taken : (o : Line) (g : ℕ → Parsed) → ◌≡◌ {A = Parsed} (elim o [ Absent ↦ refused BadKind line | Bad ↦ refused BadLine line | Holds n ↦ g n ]) (parsed q)
      → ((n : ℕ) → o ≡ Holds n → g n ≡ parsed q → R) → R
  line_taken Absent g s f = absurd (refused-parsed BadKind line q s)
  line_taken Bad g s f = absurd (refused-parsed BadLine line q s)
  line_taken (Holds n) g s f = f n refl s

  judge_taken : (o : Judged) (g : ℕ → Parsed) → ◌≡◌ {A = Parsed} (elim o [ Err e ↦ refused e line | Ok v ↦ g v ]) (parsed q)
      → ((v : ℕ) → o ≡ Ok v → g v ≡ parsed q → R) → R
  judge_taken (Err e) g s f = absurd (refused-parsed e line q s)
  judge_taken (Ok v) g s f = f v refl s

  heading_taken : (o : Heading) (g : ℕ → ℕ → Parsed) → ◌≡◌ {A = Parsed} (elim o [ Err e ↦ refused e line | Ok s ↦ g s.constants s.predicates ]) (parsed q)
      → ((s : Sizes) → o ≡ Ok s → g s.constants s.predicates ≡ parsed q → R) → R
  heading_taken (Err e) g s f = absurd (refused-parsed e line q s)
  heading_taken (Ok h) g s f = f h refl s

  -- a is b, or not
  test_taken : (a b : ℕ) (r t : Parsed) → ◌≡◌ {A = Parsed} (elim (eqb a b) [ true ↦ r | false ↦ t ]) (parsed q)
      → (a ≡ b → r ≡ parsed q → R) → (t ≡ parsed q → R) → R
  test_taken a b r t s f g = go (eqb a b) (eqb→eq a b) s
    where
      go : (d : Bool) → (T d → a ≡ b) → ◌≡◌ {A = Parsed} (elim d [ true ↦ r | false ↦ t ]) (parsed q) → R
      go true same u = f (same tt) u
      go false same u = g u

pub closing_found : (count : ℕ) (f : List ℕ) (r : ℕ) → get_or f 0 0 ≡ 255 → judge_closing count f ≡ Ok r → f ≡ 255 ∷ count ∷ []
unfolding judge_closing
closing_found count f r kind e =
    let one = passed (ltb 1 (length f)) _ _ _ (fault_found BadLength r) e in
    let counted = passed (eqb (get_or f 1 0) count) _ _ _ (fault_found BadCount r) one.1 in
    let whole = passed (eqb (length f) 2) _ _ _ (fault_found BadLength r) counted.1 in
    let same : get_or f 1 0 ≡ count = eqb→eq (get_or f 1 0) count counted.0 in
    let two : length f ≡ 2 = eqb→eq (length f) 2 whole.0 in
    two_bytes f two ∙ rw (kind, same)

flat_more : {A : Type 0} (g : A → List ℕ) (pre : List ℕ) (xs : List A) (a : A) → pre ++ flat_map g (xs ++ (a ∷ [])) ≡ pre ++ flat_map g xs ++ g a
flat_more g pre xs a = rw (flat_snoc g xs a, append_assoc)

-- the text read to a line, and the line after it
text_more : (x : List ℕ) (at n : ℕ) (before frame : List ℕ) → line_at x at ≡ Holds n → frame_at x at n ≡ frame → before ++ drop at x ≡ x
    → before ++ hex_line frame ++ drop (after_line at n) x ≡ x
text_more x at n before frame e same t = rw (append_assoc, ← same, ← line_text x at n e) t

abbrev pub clause_lines : List Clause → List ℕ
clause_lines ks = flat_map (λ k. hex_line (clause_frame k)) ks

-- the clauses read so far, to a place of the text
record ClausesTo (x : List ℕ) (c : ℕ) (arities before : List ℕ) (ks : List Clause) (at : ℕ) : Type 0 where
  text : before ++ clause_lines ks ++ drop at x ≡ x
  each_fits : All (ClauseFits c arities) ks
  light : weights c ks ≤ 16384

-- what is read after the arity lines
record ClausesRead (x : List ℕ) (c : ℕ) (limit arities before : List ℕ) (q : Problem) : Type 0 where
  clauses : List Clause
  whole : record { constants = c; limit = limit; arities = arities; clauses = clauses } ≡ q
  text : before ++ clause_lines clauses ++ hex_line (255 ∷ length clauses ∷ []) ≡ x
  few : length clauses ≤ 64
  each_fits : All (ClauseFits c arities) clauses
  light : weights c clauses ≤ 16384

module _ (x : List ℕ) (c : ℕ) (limit arities before : List ℕ) (q : Problem) where
  end_read : (ks : List Clause) (line at : ℕ) → parse_end x c limit arities ks line at ≡ parsed q
      → (record { constants = c; limit = limit; arities = arities; clauses = ks } ≡ q) × (length x ≤ at)
  unfolding parse_end
  end_read ks line at e = go (line_at x at) refl e
    where
      go : (o : Line) → line_at x at ≡ o
          → ◌≡◌ {A = Parsed} (elim o [
            | Absent ↦ parsed (record { constants = c; limit = limit; arities = arities; clauses = ks })
            | Bad ↦ refused BadLine line
            | Holds n ↦ refused BadKind line
          ]) (parsed q) → (record { constants = c; limit = limit; arities = arities; clauses = ks } ≡ q) × (length x ≤ at)
      go Absent l s = ((cc), line_absent x at l)
      go Bad l s = absurd (refused-parsed BadLine line q s)
      go (Holds n) l s = absurd (refused-parsed BadKind line q s)

  closing_read : (ks : List Clause) (line at n : ℕ) → line_at x at ≡ Holds n → get_or (frame_at x at n) 0 0 ≡ 255 → length ks ≤ 64 → ClausesTo x c arities before ks at
      → parse_closing x c limit arities ks line at n ≡ parsed q → ClausesRead x c limit arities before q
  unfolding parse_closing
  closing_read ks line at n l kind few to e = judge_taken line q (judge_closing (length ks) (frame_at x at n)) _ e read
    where
      read : (m : ℕ) → judge_closing (length ks) (frame_at x at n) ≡ Ok m → parse_end x c limit arities ks (suc line) (after_line at n) ≡ parsed q
          → ClausesRead x c limit arities before q
      read m j s =
          let end = end_read ks (suc line) (after_line at n) s in
          let frame : frame_at x at n ≡ 255 ∷ length ks ∷ [] = closing_found (length ks) (frame_at x at n) m kind j in
          let over : drop (after_line at n) x ≡ [] = drop_of_length-le x end.1 in
          record {
            clauses = ks;
            whole = end.0;
            text = rw (over, append-nil) at (text_more x at n (before ++ clause_lines ks) (255 ∷ length ks ∷ []) l frame to.text);
            few = few;
            each_fits = to.each_fits;
            light = to.light;
          }

  -- a line that is no clause line
  last_read : (ks : List Clause) (line at n : ℕ) → line_at x at ≡ Holds n → length ks ≤ 64 → ClausesTo x c arities before ks at
      → ◌≡◌ {A = Parsed} (elim (eqb (get_or (frame_at x at n) 0 0) 255) [ true ↦ parse_closing x c limit arities ks line at n | false ↦ refused BadKind line ]) (parsed q)
      → ClausesRead x c limit arities before q
  last_read ks line at n l few to e =
      test_taken line q (get_or (frame_at x at n) 0 0) 255 _ _ e (λ k s. closing_read ks line at n l k few to s) (λ s. absurd (refused-parsed BadKind line q s))

  clause_read : (ks : List Clause) (at n v : ℕ) → line_at x at ≡ Holds n → get_or (frame_at x at n) 0 0 ≡ 3 → ClausesTo x c arities before ks at
      → judge_clause c arities (weights c ks) (frame_at x at n) ≡ Ok v
      → ClausesTo x c arities before (ks ++ (clause_at arities (frame_at x at n) v ∷ [])) (after_line at n)
  clause_read ks at n v l kind to e =
      let f = frame_at x at n in
      let k = clause_at arities f v in
      let j = clause_found c arities (weights c ks) f v e kind in
      record {
        text =
            rw
            (flat_more (λ m. hex_line (clause_frame m)) before ks k)
            (text_more x at n (before ++ clause_lines ks) (clause_frame k) l j.bytes to.text);
        each_fits = All-append (ClauseFits c arities) ks (k ∷ []) to.each_fits (j.fits, tt);
        light = rw (weights_snoc c ks k) j.light;
      }

  clauses_read : (left : ℕ) (ks : List Clause) (line at : ℕ) → length ks + left ≡ 64 → ClausesTo x c arities before ks at
      → parse_clauses x c limit arities left ks line at ≡ parsed q → ClausesRead x c limit arities before q
  unfolding parse_clauses
  clauses_read zero ks line at few to e =
      line_taken line q (line_at x at) _ e λ n l s.
      test_taken line q (get_or (frame_at x at n) 0 0) 3 _ _ s (λ k t. absurd (refused-parsed BadCount line q t)) (λ t. last_read ks line at n l (omega arith) to t)
  clauses_read (suc left) ks line at few to e =
      line_taken line q (line_at x at) _ e λ n l s.
      let f = frame_at x at n in
      test_taken line q (get_or f 0 0) 3 _ _ s
      (λ k t. judge_taken line q (judge_clause c arities (weights c ks) f) _ t λ v j u.
      clauses_read left (ks ++ (clause_at arities f v ∷ [])) (suc line) (after_line at n) (simp length-append (omega arith)) (clause_read ks at n v l k to j) u)
      (λ t. last_read ks line at n l (omega arith) to t)

abbrev pub arity_lines : List ℕ → List ℕ
arity_lines arities = flat_map (λ a. hex_line (arity_frame a)) arities

-- the arities read so far, to a place of the text, with so many still to come
record AritiesTo (x : List ℕ) (c p : ℕ) (limit arities : List ℕ) (left at : ℕ) : Type 0 where
  text : hex_line (1 ∷ 1 ∷ c ∷ p ∷ limit) ++ arity_lines arities ++ drop at x ≡ x
  count : length arities + left ≡ p
  arities_fit : All (λ a. a ≤ 3) arities
  atoms_fit : atom_count c arities ≤ 1024

record Read (x : List ℕ) (q : Problem) : Type 0 where
  text : text_of q ≡ x
  fits : Fits q

module _ (x : List ℕ) (c p : ℕ) (limit : List ℕ) (h : Sized c p limit) (q : Problem) where
  all_read : (arities : List ℕ) (at : ℕ) → AritiesTo x c p limit arities 0 at
      → ClausesRead x c limit arities (hex_line (1 ∷ 1 ∷ c ∷ p ∷ limit) ++ arity_lines arities) q → Read x q
  unfolding text_of
  all_read arities at to r = subst (Read x) r.whole read
    where
      whole : length arities ≡ p
      whole = sym (add-zero (length arities)) ∙ to.count

      read : Read x (record { constants = c; limit = limit; arities = arities; clauses = r.clauses })
      read =
          record {
            text = rw whole r.text;
            fits = record {
              constants_fit = h.constants_fit;
              limit_four = h.limit_four;
              limit_bytes = h.limit_bytes;
              some_predicate = rw whole h.some_predicate;
              predicates_fit = rw whole h.predicates_fit;
              arities_fit = to.arities_fit;
              atoms_fit = to.atoms_fit;
              clauses_fit = r.few;
              each_fits = r.each_fits;
              weights_fit = r.light;
            };
          }

  arity_read : (left : ℕ) (arities : List ℕ) (at n a : ℕ) → line_at x at ≡ Holds n → AritiesTo x c p limit arities (suc left) at
      → judge_arity c (atom_count c arities) (frame_at x at n) ≡ Ok a → AritiesTo x c p limit (arities ++ (a ∷ [])) left (after_line at n)
  arity_read left arities at n a l to e =
      let heading = hex_line (1 ∷ 1 ∷ c ∷ p ∷ limit) in
      let j = arity_found c (atom_count c arities) (frame_at x at n) a e in
      let count : length arities + suc left ≡ p = to.count in
      record {
        text =
            rw
            (flat_more (λ b. hex_line (arity_frame b)) heading arities a)
            (text_more x at n (heading ++ arity_lines arities) (arity_frame a) l j.0 to.text);
        count = simp length-append (omega arith);
        arities_fit = All-append (λ b. b ≤ 3) arities (a ∷ []) to.arities_fit (j.1, tt);
        atoms_fit = rw (atom_count_snoc c arities a) j.2;
      }

  arities-Read : (left : ℕ) (arities : List ℕ) (line at : ℕ) → AritiesTo x c p limit arities left at
      → parse_arities x c limit left arities line at ≡ parsed q → Read x q
  unfolding parse_arities flat_map
  arities-Read zero arities line at to e =
      let before = hex_line (1 ∷ 1 ∷ c ∷ p ∷ limit) ++ arity_lines arities in
      all_read arities at to (clauses_read x c limit arities before q 64 [] line at refl (record { text = start; each_fits = tt; light = omega arith }) e)
    where
      start : hex_line (1 ∷ 1 ∷ c ∷ p ∷ limit) ++ arity_lines arities ++ clause_lines [] ++ drop at x ≡ x
      start = rw append-nil to.text
  arities-Read (suc left) arities line at to e =
      line_taken line q (line_at x at) _ e λ n l s.
      judge_taken line q (judge_arity c (atom_count c arities) (frame_at x at n)) _ s λ a j t.
      arities-Read left (arities ++ (a ∷ [])) (suc line) (after_line at n) (arity_read left arities at n a l to j) t

pub heading_sized : (x : List ℕ) (n : ℕ) → line_at x 0 ≡ Holds n → (h : Sizes) → judge_heading (frame_at x 0 n) ≡ Ok h → Sized h.constants h.predicates (take 4 (drop 4 (frame_at x 0 n)))
heading_sized x n l h j =
    let c = h.constants in
    let p = h.predicates in
    let s = heading_sizes (frame_at x 0 n) h j in
    let limit = take 4 (drop 4 (frame_at x 0 n)) in
    let bytes : All (λ b. b < 256) (1 ∷ 1 ∷ c ∷ p ∷ limit) = subst (All (λ b. b < 256)) s.bytes (frame_bytes x 0 n l) in
    let long : length (frame_at x 0 n) ≡ length (1 ∷ 1 ∷ c ∷ p ∷ limit) = ap length s.bytes in
    let eight : length (frame_at x 0 n) ≡ 8 = s.eight in
    record {
      constants_fit = s.constants_fit;
      some_predicate = s.some_predicate;
      predicates_fit = s.predicates_fit;
      limit_four = omega arith;
      limit_bytes = bytes.1.1.1.1;
    }

module _ (x : List ℕ) (q : Problem) where
  heading_read : (n : ℕ) (h : Sizes) → line_at x 0 ≡ Holds n → judge_heading (frame_at x 0 n) ≡ Ok h
      → parse_arities x h.constants (take 4 (drop 4 (frame_at x 0 n))) h.predicates [] 2 (after_line 0 n) ≡ parsed q → Read x q
  unfolding flat_map
  heading_read n h l j e =
      let c = h.constants in
      let p = h.predicates in
      let f = frame_at x 0 n in
      let limit = take 4 (drop 4 f) in
      let s = heading_sizes f h j in
      arities-Read x c p limit (heading_sized x n l h j) q p [] 2 (after_line 0 n)
      (record {
        text = rw append-nil (text_more x 0 n [] (1 ∷ 1 ∷ c ∷ p ∷ limit) l s.bytes refl);
        count = omega arith;
        arities_fit = tt;
        atoms_fit = omega arith;
      })
      e

  parse-Read : parse x ≡ parsed q → Read x q
  unfolding parse
  parse-Read e =
      line_taken 1 q (line_at x 0) _ e λ n l s.
      heading_taken 1 q (judge_heading (frame_at x 0 n)) _ s λ h j t.
      heading_read n h l j t

  pub parse_text : parse x ≡ parsed q → text_of q ≡ x
  parse_text e = (parse-Read e).text

  pub parse-Fits : parse x ≡ parsed q → Fits q
  parse-Fits e = (parse-Read e).fits
