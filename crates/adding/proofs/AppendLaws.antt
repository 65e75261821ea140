-- What the last record of a lawful table tells of its clauses, and the table with a record after the others.
use Prim.Native.Nat.{ℕ, zero, suc, ◌+◌, ◌*◌, ◌/◌, ◌%◌, ◌≤◌, ◌<◌}
use mathlib.Core.List.{List, [], ◌∷◌, ◌++◌}
use mathlib.Core.Path.{◌≡◌, refl, sym, ap, subst, ◌∙◌}
use native.Mathlib.Omega.{arith}
use lib.ListN.{length, take, drop, get_or, set, length-append, length-set}
use lib.Seq.{set-append_left, length-take-le}
use Rattle.lists.specs.Member.{All}
use Rattle.lists.proofs.Bytes.{set_skip, part_with, part_length}
use Rattle.lists.proofs.Digits.{two_back}
use Rattle.problem.specs.Problem.{Clause, Problem, ClauseFits, Fits, atom_count, weight, weights}
use Rattle.problem.specs.Layout.{clause_record, clause_records, layout, problem_in}
use Rattle.problem.specs.Table.{Lawful}
use Rattle.problem.specs.Extended.{with_clause}
use Rattle.problem.proofs.TableLayout.{no_clause, layout-length, clause_record-length, clause_records-length, clause_byte}
use Rattle.problem.proofs.Access.{weights-take, clauses_in, conditions_in, instances_in}
use Rattle.adding.specs.terms.Appended.{Appended}
use Rattle.problem.proofs.Regions.{front, parts, parts-Clause}

-- ---- what the clauses weigh

-- what clauses weigh: those before the last, and the last
last_weighs : (c : ℕ) (ks : List Clause) (k : ℕ) → suc k ≡ length ks → weights c (take k ks) + weight c (get_or ks k no_clause) ≡ weights c ks
last_weighs c [] k e = absurd (omega arith)
last_weighs c (x ∷ []) zero e = omega arith
last_weighs c (x ∷ y ∷ ks) zero e = absurd (omega arith)
last_weighs c (x ∷ ks) (suc k) e = omega (arith, last_weighs c ks k (omega arith))

before_in : (q : Problem) → Fits q → (k : ℕ) → k < length q.clauses
    → get_or (layout q) (144 + 56 * k + 6) 0 + 256 * get_or (layout q) (144 + 56 * k + 7) 0 ≡ weights q.constants (take k q.clauses)
before_in q f k below =
    let whole : weights q.constants q.clauses ≤ 16384 = f.weights_fit in
    let small : weights q.constants (take k q.clauses) < 65536 = omega (arith, weights-take q.constants q.clauses k) in
    rw (clause_byte q f no_clause k 6 below (omega arith), clause_byte q f no_clause k 7 below (omega arith)) (two_back _ small)

module _ (tb : List ℕ) (h : Lawful tb) where
  pub table_size : length tb ≡ 4096
  table_size = ap length (sym h.laid) ∙ layout-length (problem_in tb) h.fits

  pub clause_count : get_or tb 2 0 ≡ length (problem_in tb).clauses
  clause_count = ap (λ (t : List ℕ). get_or t 2 0) (sym h.laid) ∙ clauses_in (problem_in tb) h.fits

  pub few_clauses : get_or tb 2 0 ≤ 64
  few_clauses = rw clause_count h.fits.clauses_fit

  pub none_weigh : get_or tb 2 0 ≡ 0 → 0 ≡ weights (problem_in tb).constants (problem_in tb).clauses
  none_weigh e = go (problem_in tb).clauses (sym clause_count ∙ e)
    where
      go : (ks : List Clause) → length ks ≡ 0 → 0 ≡ weights (problem_in tb).constants ks
      go [] n = refl
      go (k ∷ ks) n = absurd (omega arith)

  -- the last record, at place k
  module _ (k : ℕ) (last : suc k ≡ get_or tb 2 0) where
    abbrev pub last_at : ℕ
    last_at = 144 + 56 * k

    pub last_weighed : get_or tb (last_at + 6) 0 + 256 * get_or tb (last_at + 7) 0 + get_or tb last_at 0 * (get_or tb (last_at + 4) 0 + 256 * get_or tb (last_at + 5) 0) ≡ weights (problem_in tb).constants (problem_in tb).clauses
    last_weighed =
        let q = problem_in tb in
        let whole : suc k ≡ length q.clauses = last ∙ clause_count in
        let below : k < length q.clauses = omega arith in
        subst (λ (t : List ℕ). get_or t (last_at + 6) 0 + 256 * get_or t (last_at + 7) 0 + get_or t last_at 0 * (get_or t (last_at + 4) 0 + 256 * get_or t (last_at + 5) 0) ≡ weights q.constants q.clauses) h.laid
        (rw (before_in q h.fits k below, conditions_in q h.fits no_clause k below, instances_in q h.fits no_clause k below) (last_weighs q.constants q.clauses k whole))

  pub weights_small : weights (problem_in tb).constants (problem_in tb).clauses ≤ 16384
  weights_small = h.fits.weights_fit

-- ---- the table with one clause more

layout_parts : (q : Problem)
    → layout q ≡ parts 128 3584 368 q.constants (length q.arities) (length q.clauses) q.limit (atom_count q.constants q.arities) q.arities q.clauses
unfolding layout parts front
layout_parts q = refl

recounted : (n m s c p old count : ℕ) (limit : List ℕ) (atoms : ℕ) (arities : List ℕ) (ks : List Clause)
    → set (parts n m s c p old limit atoms arities ks) 2 count ≡ parts n m s c p count limit atoms arities ks
unfolding parts front
recounted n m s c p old count limit atoms arities ks = refl

-- a clause's record, its bytes 6 and 7 written over with what the clauses before it weigh
record_weighed : (c : ℕ) (arities : List ℕ) (before sum : ℕ) (k : Clause)
    → set (set (clause_record c arities before k) 6 (sum % 256)) 7 (sum / 256 % 256) ≡ clause_record c arities sum k
record_weighed c arities before sum k = refl

-- a byte of a part that was lent is set in the part
part_set : (xs ys : List ℕ) (a k i b : ℕ) → a ≤ length xs → i < length ys → set (part_with a k xs ys) (a + i) b ≡ part_with a k xs (set ys i b)
part_set xs ys a k i b within h =
    set_skip (take a xs) (ys ++ drop k (drop a xs)) a i b (length-take-le a xs within) ∙ ap (λ (l : List ℕ). take a xs ++ l) (set-append_left ys (drop k (drop a xs)) i b h)

-- a record put from a place on, then weighed, and the number of clauses
abbrev pub with_record : ℕ → ℕ → List ℕ → ℕ → ℕ → List ℕ → List ℕ
with_record from part r sum count tb = set (set (set (part_with from part tb r) (from + 6) (sum % 256)) (from + 6 + 1) (sum / 256 % 256)) 2 count

weighed : (tb r : List ℕ) (from part sum count : ℕ) → from ≤ length tb → length r ≡ 56
    → with_record from part r sum count tb ≡ set (part_with from part tb (set (set r 6 (sum % 256)) 7 (sum / 256 % 256))) 2 count
weighed tb r from part sum count within wide =
    let low : ℕ = sum % 256 in
    let high : ℕ = sum / 256 % 256 in
    let next : from + 6 + 1 ≡ from + 7 = omega arith in
    rw next
    (ap (λ (l : List ℕ). set (set l (from + 7) high) 2 count) (part_set tb r from part 6 low within (omega arith))
    ∙ ap (λ (l : List ℕ). set l 2 count) (part_set tb (set r 6 low) from part 7 high within (simp length-set (omega arith))))

-- the last of the clauses fits as they do
pub last_fits : (c : ℕ) (arities : List ℕ) (ks : List Clause) (k : Clause) → All (ClauseFits c arities) (ks ++ (k ∷ [])) → ClauseFits c arities k
last_fits c arities [] k a = a.0
last_fits c arities (x ∷ ks) k a = last_fits c arities ks k a.1

module _ (tb : List ℕ) (h : Lawful tb) where
  record_added : (k : Clause) (before from part : ℕ) → Fits (with_clause (problem_in tb) k) → get_or tb 2 0 < 64 → from ≡ 144 + 56 * get_or tb 2 0 → part ≡ 56
      → with_record from part (clause_record (problem_in tb).constants (problem_in tb).arities before k) (weights (problem_in tb).constants (problem_in tb).clauses) (get_or tb 2 0 + 1) tb ≡ layout (with_clause (problem_in tb) k)
  record_added k before from part f room place whole =
      let q = problem_in tb in
      let c = q.constants in
      let sum = weights c q.clauses in
      let count = get_or tb 2 0 + 1 in
      let counted : get_or tb 2 0 ≡ length q.clauses = clause_count tb h in
      let more : count ≡ length (q.clauses ++ (k ∷ [])) = omega (arith, length-append q.clauses (k ∷ [])) in
      let rs : length (clause_records c q.arities 0 q.clauses) ≡ 56 * length q.clauses = clause_records-length c q.arities 0 q.clauses h.fits.arities_fit h.fits.each_fits in
      let few : length q.arities ≤ 32 = h.fits.predicates_fit in
      let wide : (b : ℕ) → length (clause_record c q.arities b k) ≡ 56 = λ b. clause_record-length c q.arities b k h.fits.arities_fit (last_fits c q.arities q.clauses k f.each_fits) in
      weighed tb (clause_record c q.arities before k) from part sum count (omega (arith, table_size tb h)) (wide before)
      ∙ ap (λ (r : List ℕ). set (part_with from part tb r) 2 count) (record_weighed c q.arities before sum k)
      ∙ ap (λ (l : List ℕ). set (part_with from part l (clause_record c q.arities sum k)) 2 count) (sym h.laid ∙ layout_parts q)
      ∙ ap (λ (l : List ℕ). set l 2 count)
      (parts-Clause 128 3584 368 c (length q.arities) (length q.clauses) q.limit h.fits.limit_four (atom_count c q.arities) q.arities q.clauses k (clause_record c q.arities sum k) from 56 part
      (omega arith) (omega arith) refl (wide sum) (omega arith) whole)
      ∙ recounted 128 3584 368 c (length q.arities) (length q.clauses) count q.limit (atom_count c q.arities) q.arities (q.clauses ++ (k ∷ []))
      ∙ ap (λ (n : ℕ). parts 128 3584 368 c (length q.arities) n q.limit (atom_count c q.arities) q.arities (q.clauses ++ (k ∷ []))) more
      ∙ sym (layout_parts (with_clause q k))

  pub appended : (rec : List ℕ) (from part sum : ℕ) → get_or tb 2 0 < 64 → length rec ≡ 56 → from ≡ 144 + 56 * get_or tb 2 0 → part ≡ 56
      → sum ≡ weights (problem_in tb).constants (problem_in tb).clauses → Appended tb rec (with_record from part rec sum (get_or tb 2 0 + 1) tb)
  appended rec from part sum room wide place whole e =
      record {
        size =
            simp length-set
            (part_length from part tb rec (wide ∙ sym whole) (omega (arith, table_size tb h)));
        table = λ k before f r. rw (r, e) (record_added k before from part f room place whole);
      }
