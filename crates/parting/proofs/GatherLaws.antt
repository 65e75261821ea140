-- The table of a part: the heading without clauses, and then some of the clauses, one by one.
use Prim.Native.Nat.{ℕ, zero, suc, ◌+◌, ◌-◌, ◌*◌, ◌≤◌, ◌<◌}
use mathlib.Core.Bool.{Bool, true, false, cond}
use mathlib.Core.List.{List, [], ◌∷◌, ◌++◌, flat_map, append-nil, append_assoc}
use mathlib.Core.Path.{◌≡◌, refl, sym, ap, subst, ◌∙◌}
use native.Mathlib.Omega.{arith}
use lib.ListN.{length, take, drop, get_or, set, replicate, length-append, replicate-append-replicate}
use lib.Seq.{take-suc, take_at}
use Rattle.lists.specs.Bytes.{pad}
use Rattle.lists.specs.Digits.{low_bytes}
use Rattle.lists.specs.Member.{All}
use Rattle.lists.specs.Tabulate.{tabulate}
use Rattle.lists.proofs.Bytes.{all_at, tabulate_of, tabulate_part, pad-length}
use Rattle.lists.proofs.Member.{All-append, flat_snoc}
use Rattle.problem.specs.Problem.{Clause, Problem, ClauseFits, Fits, atom_count, weights}
use Rattle.problem.specs.Layout.{predicate_records, clause_record, clause_records, heading, layout, problem_in}
use Rattle.problem.specs.Table.{Lawful}
use Rattle.problem.specs.Extended.{with_clause, with_clauses}
use Rattle.problem.proofs.Access.{weights-take}
use Rattle.problem.proofs.TableLayout.{sixteen, predicate_records-length, clause_record-length, clause_byte, weights_snoc, problem_back, layout-length}
use Rattle.ground.specs.Instance.{clause_of, no_clause}
use Rattle.adding.specs.terms.Appended.{Appended}
use Rattle.adding.proofs.AppendLaws.{clause_count}
use Rattle.parting.specs.terms.Labels.{clause_at}
use Rattle.parting.specs.terms.Gathered.{belongs, taken, gathered_upto, gathered}

-- the table of a well-formed problem is lawful
pub lawful_of : (p : Problem) → Fits p → Lawful (layout p)
lawful_of p f = record { fits = subst Fits (sym (problem_back p f)) f; laid = ap layout (problem_back p f) }

-- ---- some of a problem's clauses

module _ (q : Problem) (f : Fits q) where
  abbrev c : ℕ
  c = q.constants

  -- some of its first n clauses
  pub record Sub (ks : List Clause) (n : ℕ) : Type 0 where
    pub few : length ks ≤ n
    pub each : All (ClauseFits q.constants q.arities) ks
    pub weigh : weights q.constants ks ≤ weights q.constants (take n q.clauses)

  pub sub_none : Sub [] 0
  sub_none = record { few = omega arith; each = tt; weigh = omega arith }

  heavier : (n : ℕ) → n < length q.clauses → weights c (take (n + 1) q.clauses) ≡ weights c (take n q.clauses ++ (clause_of q n ∷ []))
  heavier n h =
      let next : n + 1 ≡ suc n = omega arith in
      ap (λ (m : ℕ). weights c (take m q.clauses)) next ∙ ap (weights c) (take-suc q.clauses n no_clause h)

  pub sub_on : (ks : List Clause) (n : ℕ) → n < length q.clauses → Sub ks n → Sub ks (n + 1)
  sub_on ks n h s =
      record { few = omega (arith, s.few); each = s.each; weigh = omega (arith, s.weigh, heavier n h, weights_snoc c (take n q.clauses) (clause_of q n)) }

  pub sub_more : (ks : List Clause) (n : ℕ) → n < length q.clauses → Sub ks n → Sub (ks ++ (clause_of q n ∷ [])) (n + 1)
  sub_more ks n h s =
      record {
        few = omega (arith, s.few, length-append ks (clause_of q n ∷ []));
        each =
            All-append (ClauseFits c q.arities) ks (clause_of q n ∷ []) s.each (all_at (ClauseFits c q.arities) q.clauses no_clause n h f.each_fits, tt);
        weigh = omega (arith, s.weigh, heavier n h, weights_snoc c (take n q.clauses) (clause_of q n), weights_snoc c ks (clause_of q n));
      }

  pub Sub-Fits : (ks : List Clause) (n : ℕ) → n ≤ length q.clauses → Sub ks n → Fits (with_clauses q ks)
  Sub-Fits ks n h s =
      record {
        constants_fit = f.constants_fit;
        limit_four = f.limit_four;
        limit_bytes = f.limit_bytes;
        some_predicate = f.some_predicate;
        predicates_fit = f.predicates_fit;
        arities_fit = f.arities_fit;
        atoms_fit = f.atoms_fit;
        clauses_fit = omega (arith, s.few, h, f.clauses_fit);
        each_fits = s.each;
        weights_fit = omega (arith, s.weigh, weights-take c q.clauses n, f.weights_fit);
      }

-- ---- the heading

drop_zeros : (n k : ℕ) → ◌≡◌ {A = List ℕ} (drop n (replicate (n + k) 0)) (replicate k 0)
drop_zeros zero k = let e : zero + k ≡ k = omega arith in ap (λ (m : ℕ). replicate m 0) e
drop_zeros (suc n) k = let e : suc n + k ≡ suc (n + k) = omega arith in ap (λ (m : ℕ). drop (suc n) (replicate m 0)) e ∙ drop_zeros n k

recount : (c p count : ℕ) (limit atoms six records rest : List ℕ)
    → set (((c ∷ p ∷ count ∷ 0 ∷ limit ++ atoms ++ six) ++ records) ++ rest) 2 0 ≡ ((c ∷ p ∷ 0 ∷ 0 ∷ limit ++ atoms ++ six) ++ records) ++ rest
recount c p count limit atoms six records rest = refl

-- the first bytes of a table, of any sizes, over zeros
fronts : (a b n m s total : ℕ) (front records clauses rest : List ℕ) → length front ≡ a → length records ≡ b → n ≡ a + b → total ≡ n + (m + s)
    → take n (((front ++ records) ++ clauses) ++ rest) ++ drop n (replicate total 0) ≡ (front ++ records) ++ (replicate m 0 ++ replicate s 0)
fronts a b n m s total front records clauses rest ea eb en et =
    let whole : length (front ++ records) ≡ n = omega (arith, length-append front records) in
    ap (λ (l : List ℕ). take n l ++ drop n (replicate total 0)) (append_assoc (front ++ records) clauses rest)
    ∙ ap (λ (l : List ℕ). l ++ drop n (replicate total 0)) (take_at (front ++ records) (clauses ++ rest) n whole)
    ∙ ap (λ (t : ℕ). (front ++ records) ++ drop n (replicate t 0)) et
    ∙ ap (λ (l : List ℕ). (front ++ records) ++ l) (drop_zeros n (m + s) ∙ sym (replicate-append-replicate m s 0))

pub head_laid : (q : Problem) → Fits q → (zeros : List ℕ) → zeros ≡ replicate 4096 0
    → set (take 144 (layout q) ++ drop 144 zeros) 2 0 ≡ layout (with_clauses q [])
unfolding layout
head_laid q f zeros e =
    let records : List ℕ = pad 128 (predicate_records q.constants 0 q.arities) in
    let wide : length records ≡ 128 = pad-length 128 (predicate_records q.constants 0 q.arities) (omega (arith, predicate_records-length q.constants 0 q.arities, f.predicates_fit)) in
    let sixteen_bytes : length (heading q) ≡ 16 = sixteen q.constants (length q.arities) (length q.clauses) q.limit (atom_count q.constants q.arities) f.limit_four in
    let clauses : List ℕ = pad 3584 (clause_records q.constants q.arities 0 q.clauses) in
    let zs : List ℕ = replicate 3584 0 ++ replicate 368 0 in
    ap (λ (z : List ℕ). set (take 144 (layout q) ++ drop 144 z) 2 0) e
    ∙ ap (λ (l : List ℕ). set l 2 0) (fronts 16 128 144 3584 368 4096 (heading q) records clauses (replicate 368 0) sixteen_bytes wide refl refl)
    ∙ recount q.constants (length q.arities) (length q.clauses) q.limit (low_bytes 2 (atom_count q.constants q.arities)) (replicate 6 0) records zs
    ∙ sym (append_assoc (heading (with_clauses q []) ++ records) (replicate 3584 0) (replicate 368 0))

-- ---- one clause more

-- a clause's record in a table
pub record_at : (tb : List ℕ) → Lawful tb → (k part : ℕ) → k < length (problem_in tb).clauses → part ≡ 56
    → take part (drop (clause_at k) tb) ≡ clause_record (problem_in tb).constants (problem_in tb).arities (weights (problem_in tb).constants (take k (problem_in tb).clauses)) (clause_of (problem_in tb) k)
record_at tb h k part known whole =
    let q = problem_in tb in
    let rec : List ℕ = clause_record q.constants q.arities (weights q.constants (take k q.clauses)) (clause_of q k) in
    let fits = all_at (ClauseFits q.constants q.arities) q.clauses no_clause k known h.fits.each_fits in
    let wide : length rec ≡ 56 = clause_record-length q.constants q.arities (weights q.constants (take k q.clauses)) (clause_of q k) h.fits.arities_fit fits in
    let size : length tb ≡ 4096 = ap length (sym h.laid) ∙ layout-length q h.fits in
    sym (tabulate_part tb (clause_at k) part (omega (arith, known, h.fits.clauses_fit)))
    ∙ tabulate_of (λ j. get_or tb (clause_at k + j) 0) 0 rec part (whole ∙ sym wide)
    (λ i l. ap (λ (t : List ℕ). get_or t (clause_at k + i) 0) (sym h.laid) ∙ clause_byte q h.fits no_clause k i known (omega arith))

module _ (own tb : List ℕ) (h : Lawful own) (g : Lawful tb) (k : ℕ) (known : k < length (problem_in tb).clauses)
    (same : problem_in own ≡ with_clauses (problem_in tb) (problem_in own).clauses) (fits : Fits (with_clause (problem_in own) (clause_of (problem_in tb) k))) where
  abbrev clauses : List Clause
  clauses = (problem_in own).clauses

  pub add_room : get_or own 2 0 < 64
  add_room = omega (arith, clause_count own h, fits.clauses_fit, length-append clauses (clause_of (problem_in tb) k ∷ []))

  pub added_none : own ≡ layout (with_clauses (problem_in tb) (clauses ++ taken false (clause_of (problem_in tb) k)))
  added_none = sym h.laid ∙ ap layout (same ∙ ap (with_clauses (problem_in tb)) (sym (append-nil clauses)))

  pub added : (rec left : List ℕ) → rec ≡ clause_record (problem_in tb).constants (problem_in tb).arities (weights (problem_in tb).constants (take k (problem_in tb).clauses)) (clause_of (problem_in tb) k)
      → Appended own rec left → left ≡ layout (with_clauses (problem_in tb) (clauses ++ taken true (clause_of (problem_in tb) k)))
  added rec left e a =
      let before : ℕ = weights (problem_in tb).constants (take k (problem_in tb).clauses) in
      a.table (clause_of (problem_in tb) k) before fits (e ∙ sym (ap (λ (p : Problem). clause_record p.constants p.arities before (clause_of (problem_in tb) k)) same))
      ∙ ap (λ (p : Problem). layout (with_clause p (clause_of (problem_in tb) k))) same

-- ---- clause by clause

pub gathered_none : (tb : List ℕ) (x : ℕ) → layout (with_clauses (problem_in tb) []) ≡ layout (with_clauses (problem_in tb) (gathered_upto tb x 0))
unfolding flat_map
gathered_none tb x = refl

module _ (tb : List ℕ) (h : Lawful tb) (x : ℕ) where
  abbrev q : Problem
  q = problem_in tb

  pub gathered_more : (n : ℕ) → gathered_upto tb x n ++ taken (belongs tb x n) (clause_of q n) ≡ gathered_upto tb x (n + 1)
  gathered_more n =
      let next : suc n ≡ n + 1 = omega arith in
      sym (flat_snoc (λ k. taken (belongs tb x k) (clause_of q k)) (tabulate (λ k. k) n) n) ∙ ap (gathered_upto tb x) next

  pub gathered_sub : (n : ℕ) → n ≤ length q.clauses → Sub q h.fits (gathered_upto tb x n) n
  unfolding flat_map
  gathered_sub zero l = sub_none q h.fits
  gathered_sub (suc n) l =
      let next : n + 1 ≡ suc n = omega arith in
      subst (λ (m : ℕ). Sub q h.fits (gathered_upto tb x m) m) next
      (subst (λ (ks : List Clause). Sub q h.fits ks (n + 1)) (gathered_more n) (by (belongs tb x n) (gathered_sub n (omega arith))))
    where
      by : (b : Bool) → Sub q h.fits (gathered_upto tb x n) n → Sub q h.fits (gathered_upto tb x n ++ taken b (clause_of q n)) (n + 1)
      by true s = sub_more q h.fits (gathered_upto tb x n) n (omega arith) s
      by false s = subst (λ (ks : List Clause). Sub q h.fits ks (n + 1)) (sym (append-nil (gathered_upto tb x n))) (sub_on q h.fits (gathered_upto tb x n) n (omega arith) s)

  pub gathered-Fits : Fits (gathered tb x)
  gathered-Fits = Sub-Fits q h.fits (gathered_upto tb x (length q.clauses)) (length q.clauses) (omega arith) (gathered_sub (length q.clauses) (omega arith))

  -- what the table holds after n clauses, and what adding the next asks
  module _ (own : List ℕ) (n : ℕ) (e : own ≡ layout (with_clauses q (gathered_upto tb x n))) (l : n ≤ length q.clauses) where
    fits_here : Fits (with_clauses q (gathered_upto tb x n))
    fits_here = Sub-Fits q h.fits (gathered_upto tb x n) n l (gathered_sub n l)

    pub own_lawful : Lawful own
    own_lawful = subst Lawful (sym e) (lawful_of (with_clauses q (gathered_upto tb x n)) fits_here)

    pub own_problem : problem_in own ≡ with_clauses q (gathered_upto tb x n)
    own_problem = ap problem_in e ∙ problem_back (with_clauses q (gathered_upto tb x n)) fits_here

    pub own_size : length own ≡ 4096
    own_size = ap length e ∙ layout-length (with_clauses q (gathered_upto tb x n)) fits_here

    pub own_same : problem_in own ≡ with_clauses q (problem_in own).clauses
    own_same = own_problem ∙ ap (λ (p : Problem). with_clauses q p.clauses) (sym own_problem)

    pub next_fits : n < length q.clauses → Fits (with_clause (problem_in own) (clause_of q n))
    next_fits below =
        subst (λ (p : Problem). Fits (with_clause p (clause_of q n))) (sym own_problem)
        (Sub-Fits q h.fits (gathered_upto tb x n ++ (clause_of q n ∷ [])) (n + 1) (omega arith) (sub_more q h.fits (gathered_upto tb x n) n below (gathered_sub n l)))

    pub added_next : (left : List ℕ) (b : Bool) → b ≡ belongs tb x n → left ≡ layout (with_clauses q ((problem_in own).clauses ++ taken b (clause_of q n)))
        → left ≡ layout (with_clauses q (gathered_upto tb x (n + 1)))
    added_next left b same a =
        a ∙ ap (λ (p : Problem). layout (with_clauses q (p.clauses ++ taken b (clause_of q n)))) own_problem
        ∙ ap (λ (t : Bool). layout (with_clauses q (gathered_upto tb x n ++ taken t (clause_of q n)))) same
        ∙ ap (λ (ks : List Clause). layout (with_clauses q ks)) (gathered_more n)
