-- The table of a table's chaining clauses, clause by clause, and its instances.
use Prim.Native.Nat.{ℕ, zero, suc, ◌+◌, ◌-◌, ◌*◌, ◌≤◌, ◌<◌}
use mathlib.Core.Bool.{Bool, true, false, cond}
use mathlib.Core.List.{List, [], ◌∷◌, ◌++◌, append_assoc, append-nil}
use mathlib.Core.Path.{◌≡◌, refl, sym, ap, subst, ◌∙◌}
use native.Mathlib.Nat.{sub-zero}
use native.Mathlib.Numerals.{add-one}
use native.Mathlib.Omega.{arith}
use borrow.Author.Tests.{lt-ltb, le-ltb}
use lib.ListN.{length, take, drop, get_or, set, replicate, length-append, length-take, length-drop, length-replicate}
use lib.Seq.{ext_get_or, get_or-take, get_or-drop, length-take-le, set-append_left, take_at, drop_at, take-suc, take_all}
use Rattle.lists.specs.Bytes.{pad}
use Rattle.lists.specs.Member.{All}
use Rattle.lists.proofs.Bytes.{all_at, pad-length, zeros_split}
use Rattle.problem.specs.Problem.{Clause, Problem, ClauseFits, Fits, atom_count, weight, weights}
use Rattle.problem.specs.Layout.{predicate_records, clause_record, clause_records, layout, problem_in}
use Rattle.problem.specs.Table.{Lawful}
use Rattle.problem.specs.Extended.{with_clause, with_clauses}
use Rattle.problem.proofs.Access.{weights-take, alternatives_in}
use Rattle.problem.proofs.Regions.{front, front-length, parts}
use Rattle.problem.proofs.TableLayout.{no_clause, predicate_records-length, clause_record-length, clause_byte, problem_back}
use Rattle.adding.specs.terms.Appended.{Appended}
use Rattle.adding.proofs.AppendLaws.{table_size, clause_count}
use Rattle.staged_node.specs.terms.Chains.{chains, chain_clauses, ChainsBefore, ChainTable}

-- ---- the chaining clauses among clauses

all_taken : {A : Type 0} (P : A → Type 0) (k : ℕ) (xs : List A) → All P xs → All P (take k xs)
all_taken P zero xs a = tt
all_taken P (suc k) [] a = tt
all_taken P (suc k) (x ∷ xs) a = (a.0, all_taken P k xs a.1)

chains_all : (P : Clause → Type 0) (ks : List Clause) → All P ks → All P (chain_clauses ks)
unfolding chain_clauses
chains_all P [] a = tt
chains_all P (k ∷ ks) a = go (chains k) (chains_all P ks a.1)
  where
    go : (b : Bool) → All P (chain_clauses ks) → All P (cond b (k ∷ chain_clauses ks) (chain_clauses ks))
    go true rest = (a.0, rest)
    go false rest = rest

chains_few : (ks : List Clause) → length (chain_clauses ks) ≤ length ks
unfolding chain_clauses
chains_few [] = omega arith
chains_few (k ∷ ks) = go (chains k) (chains_few ks)
  where
    go : (b : Bool) → length (chain_clauses ks) ≤ length ks → length (cond b (k ∷ chain_clauses ks) (chain_clauses ks)) ≤ suc (length ks)
    go true l = omega arith
    go false l = omega arith

chains_weigh : (c : ℕ) (ks : List Clause) → weights c (chain_clauses ks) ≤ weights c ks
unfolding chain_clauses
chains_weigh c [] = omega arith
chains_weigh c (k ∷ ks) = go (chains k) (chains_weigh c ks)
  where
    go : (b : Bool) → weights c (chain_clauses ks) ≤ weights c ks → weights c (cond b (k ∷ chain_clauses ks) (chain_clauses ks)) ≤ weight c k + weights c ks
    go true l = omega arith
    go false l = omega arith

chains-append : (ks : List Clause) (k : Clause) → chain_clauses (ks ++ (k ∷ [])) ≡ chain_clauses ks ++ cond (chains k) (k ∷ []) []
unfolding chain_clauses
chains-append [] k = refl
chains-append (x ∷ ks) k = go (chains x) (chains-append ks k)
  where
    go : (b : Bool) → chain_clauses (ks ++ (k ∷ [])) ≡ chain_clauses ks ++ cond (chains k) (k ∷ []) []
        → cond b (x ∷ chain_clauses (ks ++ (k ∷ []))) (chain_clauses (ks ++ (k ∷ []))) ≡ cond b (x ∷ chain_clauses ks) (chain_clauses ks) ++ cond (chains k) (k ∷ []) []
    go true e = ap (λ (l : List Clause). x ∷ l) e
    go false e = e

module _ (q : Problem) (f : Fits q) where
  -- those of the first k
  abbrev pub upto : ℕ → Problem
  upto k = with_clauses q (chain_clauses (take k q.clauses))

  pub upto_fits : (k : ℕ) → Fits (with_clauses q (chain_clauses (take k q.clauses)))
  upto_fits k =
      let ks = take k q.clauses in
      let few : length ks ≤ length q.clauses = omega (arith, length-take k q.clauses) in
      record {
        constants_fit = f.constants_fit;
        limit_four = f.limit_four;
        limit_bytes = f.limit_bytes;
        some_predicate = f.some_predicate;
        predicates_fit = f.predicates_fit;
        arities_fit = f.arities_fit;
        atoms_fit = f.atoms_fit;
        clauses_fit = omega (arith, chains_few ks, few, f.clauses_fit);
        each_fits = chains_all (ClauseFits q.constants q.arities) ks (all_taken (ClauseFits q.constants q.arities) k q.clauses f.each_fits);
        weights_fit = omega (arith, chains_weigh q.constants ks, weights-take q.constants q.clauses k, f.weights_fit);
      }

  module _ (k : ℕ) (below : k < length q.clauses) where
    abbrev own : Clause
    own = get_or q.clauses k no_clause

    next_clauses : chain_clauses (take (k + 1) q.clauses) ≡ chain_clauses (take k q.clauses) ++ cond (chains own) (own ∷ []) []
    next_clauses = ap chain_clauses (ap (λ (n : ℕ). take n q.clauses) (add-one k) ∙ take-suc q.clauses k no_clause below) ∙ chains-append (take k q.clauses) own

    pub passed_over : 1 < length own.alts → upto (k + 1) ≡ upto k
    passed_over l =
        ap (with_clauses q) (next_clauses ∙ ap (λ (b : Bool). chain_clauses (take k q.clauses) ++ cond b (own ∷ []) []) (le-ltb _ _ l) ∙ append-nil (chain_clauses (take k q.clauses)))

    pub taken_in : length own.alts < 2 → upto (k + 1) ≡ with_clause (upto k) own
    taken_in l = ap (with_clauses q) (next_clauses ∙ ap (λ (b : Bool). chain_clauses (take k q.clauses) ++ cond b (own ∷ []) []) (lt-ltb _ _ l))

-- ---- the table, clause by clause

module _ (tb : List ℕ) (h : Lawful tb) where
  abbrev q : Problem
  q = problem_in tb

  pub before_problem : (k : ℕ) (horn : List ℕ) → ChainsBefore tb k horn → problem_in horn ≡ with_clauses (problem_in tb) (chain_clauses (take k (problem_in tb).clauses))
  before_problem k horn e = ap problem_in e ∙ problem_back (upto q h.fits k) (upto_fits q h.fits k)

  pub before_lawful : (k : ℕ) (horn : List ℕ) → ChainsBefore tb k horn → Lawful horn
  before_lawful k horn e =
      let p = before_problem k horn e in
      record { fits = subst Fits (sym p) (upto_fits q h.fits k); laid = ap layout p ∙ sym e }

  module _ (k : ℕ) (below : k < length (problem_in tb).clauses) (horn : List ℕ) (e : ChainsBefore tb k horn) where
    alts_byte : get_or tb (144 + 56 * k + 1) 0 ≡ length (get_or q.clauses k no_clause).alts
    alts_byte = ap (λ (l : List ℕ). get_or l (144 + 56 * k + 1) 0) (sym h.laid) ∙ alternatives_in q h.fits no_clause k below

    pub clause_over : 1 < get_or tb (144 + 56 * k + 1) 0 → ChainsBefore tb (k + 1) horn
    clause_over l = e ∙ ap layout (sym (passed_over q h.fits k below (omega (arith, alts_byte))))

    pub clause_room : get_or horn 2 0 < 64
    clause_room =
        let ks = take k q.clauses in
        let count : get_or horn 2 0 ≡ length (chain_clauses ks) = clause_count horn (before_lawful k horn e) ∙ ap (λ (p : Problem). length p.clauses) (before_problem k horn e) in
        omega (arith, count, chains_few ks, length-take k q.clauses, below, h.fits.clauses_fit)

    abbrev bytes : List ℕ
    bytes = clause_record q.constants q.arities (weights q.constants (take k q.clauses)) (get_or q.clauses k no_clause)

    bytes_wide : length bytes ≡ 56
    bytes_wide =
        clause_record-length q.constants q.arities (weights q.constants (take k q.clauses)) (get_or q.clauses k no_clause) h.fits.arities_fit
        (all_at (ClauseFits q.constants q.arities) q.clauses no_clause k below h.fits.each_fits)

    module _ (part : ℕ) (whole : part ≡ 56) where
      pub record_wide : length (take part (drop (144 + 56 * k) tb)) ≡ 56
      record_wide = omega (arith, length-take part (drop (144 + 56 * k) tb), length_dropped, table_size tb h, below, h.fits.clauses_fit)
        where
          length_dropped : length (drop (144 + 56 * k) tb) ≡ length tb - (144 + 56 * k)
          length_dropped = length-drop (144 + 56 * k) tb

      record_is : take part (drop (144 + 56 * k) tb) ≡ bytes
      record_is =
          ext_get_or 0 (take part (drop (144 + 56 * k) tb)) bytes (record_wide ∙ sym bytes_wide)
          (λ i l.
          let small : i < 56 = omega (arith, record_wide) in
          get_or-take part (drop (144 + 56 * k) tb) i 0 (omega arith)
          ∙ get_or-drop (144 + 56 * k) tb i 0
          ∙ ap (λ (t : List ℕ). get_or t (144 + 56 * k + i) 0) (sym h.laid)
          ∙ clause_byte q h.fits no_clause k i below small)

      pub clause_in : get_or tb (144 + 56 * k + 1) 0 ≤ 1 → (left : List ℕ) → Appended horn (take part (drop (144 + 56 * k) tb)) left → ChainsBefore tb (k + 1) left
      clause_in l left put =
          let own = get_or q.clauses k no_clause in
          let next : upto q h.fits (k + 1) ≡ with_clause (upto q h.fits k) own = taken_in q h.fits k below (omega (arith, alts_byte)) in
          let p = before_problem k horn e in
          subst (λ (x : Problem). Fits (with_clause x own) → take part (drop (144 + 56 * k) tb) ≡ clause_record x.constants x.arities (weights q.constants (take k q.clauses)) own → left ≡ layout (with_clause x own))
          p (put.table own (weights q.constants (take k q.clauses))) (subst Fits next (upto_fits q h.fits (k + 1))) record_is
          ∙ ap layout (sym next)

-- ---- the table without clauses

layout_parts : (q : Problem)
    → layout q ≡ parts 128 3584 368 q.constants (length q.arities) (length q.clauses) q.limit (atom_count q.constants q.arities) q.arities q.clauses
unfolding layout parts front
layout_parts q = refl

module _ (n m s c p count : ℕ) (limit : List ℕ) (four : length limit ≡ 4) (atoms : ℕ) (arities : List ℕ) (few : 4 * length arities ≤ n) where
  abbrev fore : ℕ → List ℕ
  fore x = front c p x limit atoms ++ pad n (predicate_records c 0 arities)

  fore_length : (x : ℕ) → length (fore x) ≡ 16 + n
  fore_length x =
      let preds : length (pad n (predicate_records c 0 arities)) ≡ n = pad-length n (predicate_records c 0 arities) (omega (arith, predicate_records-length c 0 arities)) in
      omega (arith, length-append (front c p x limit atoms) (pad n (predicate_records c 0 arities)), front-length c p x limit atoms four)

  front_none : set (fore count) 2 0 ≡ fore 0
  unfolding front
  front_none = refl

  taken : (ks : List Clause) → take (16 + n) (parts n m s c p count limit atoms arities ks) ≡ fore count
  unfolding parts
  taken ks =
      let records = pad m (clause_records c arities 0 ks) in
      ap (take (16 + n)) (append_assoc (fore count) records (replicate s 0)) ∙ take_at (fore count) (records ++ replicate s 0) (16 + n) (fore_length count)

  none_in : parts n m s c p 0 limit atoms arities [] ≡ fore 0 ++ replicate (m + s) 0
  unfolding parts
  none_in =
      let rest : m + s - m ≡ s = omega arith in
      let zeros : ◌≡◌ {A = List ℕ} (replicate m 0 ++ replicate s 0) (replicate (m + s) 0) = sym (zeros_split (m + s) m (omega arith) ∙ ap {B = List ℕ} (λ (i : ℕ). replicate m 0 ++ replicate i 0) rest) in
      rw (sub-zero m) (append_assoc (fore 0) (replicate m 0) (replicate s 0) ∙ ap (λ (l : List ℕ). fore 0 ++ l) zeros)

  emptied : (ks : List Clause) (w : ℕ) → w ≡ 16 + n + (m + s)
      → set (take (16 + n) (parts n m s c p count limit atoms arities ks) ++ drop (length (take (16 + n) (parts n m s c p count limit atoms arities ks))) (replicate w 0)) 2 0
      ≡ parts n m s c p 0 limit atoms arities []
  emptied ks w e =
      let rest : w - length (fore count) ≡ m + s = omega (arith, fore_length count) in
      let zeros : ◌≡◌ {A = List ℕ} (drop (length (fore count)) (replicate w 0)) (replicate (m + s) 0) =
      ap (drop (length (fore count))) (zeros_split w (length (fore count)) (omega (arith, fore_length count)))
      ∙ drop_at (replicate (length (fore count)) 0) (replicate (w - length (fore count)) 0) (length (fore count)) (length-replicate {A = ℕ} (length (fore count)) 0)
      ∙ ap {B = List ℕ} (λ (i : ℕ). replicate i 0) rest in
      rw (taken ks, zeros)
      (set-append_left (fore count) (replicate (m + s) 0) 2 0 (omega (arith, fore_length count)) ∙ ap (λ (l : List ℕ). l ++ replicate (m + s) 0) front_none ∙ sym none_in)

pub chains_start : (tb : List ℕ) → Lawful tb → (src : List ℕ) → src ≡ take 144 tb → ChainsBefore tb 0 (set (src ++ drop (length src) (replicate 4096 0)) 2 0)
unfolding chain_clauses
chains_start tb h src e =
    let q = problem_in tb in
    let few : length q.arities ≤ 32 = h.fits.predicates_fit in
    let from : src ≡ take 144 (parts 128 3584 368 q.constants (length q.arities) (length q.clauses) q.limit (atom_count q.constants q.arities) q.arities q.clauses) =
    e ∙ ap (take 144) (sym h.laid ∙ layout_parts q) in
    subst (λ (l : List ℕ). set (l ++ drop (length l) (replicate 4096 0)) 2 0 ≡ layout (with_clauses q [])) (sym from)
    (emptied 128 3584 368 q.constants (length q.arities) (length q.clauses) q.limit h.fits.limit_four (atom_count q.constants q.arities) q.arities (omega arith) q.clauses 4096 (omega arith)
    ∙ sym (layout_parts (with_clauses q [])))

-- the first 144 bytes copied over zeros
module _ (tb : List ℕ) (h : Lawful tb) where
  pub first_wide : length (take 144 tb) ≡ 144
  first_wide = length-take-le 144 tb (omega (arith, table_size tb h))

  pub copy_room : (dst : List ℕ) → dst ≡ replicate 4096 0 → length (take 144 tb) ≤ length dst
  copy_room dst zeros = omega (arith, first_wide, ap length zeros ∙ length-replicate {A = ℕ} 4096 0)

  module _ (dst left : List ℕ) (copied : left ≡ take 144 tb ++ drop (length (take 144 tb)) dst) where
    pub chains_begin : dst ≡ replicate 4096 0 → ChainsBefore tb 0 (set left 2 0)
    chains_begin zeros = ap (λ (l : List ℕ). set l 2 0) (copied ∙ ap (λ (z : List ℕ). take 144 tb ++ drop (length (take 144 tb)) z) zeros) ∙ chains_start tb h (take 144 tb) refl

module _ (tb : List ℕ) (h : Lawful tb) (k : ℕ) (horn : List ℕ) (e : ChainsBefore tb k horn) where
  pub chains_end : get_or tb 2 0 ≤ k → ChainTable tb horn
  chains_end l =
      let q = problem_in tb in
      e ∙ ap (λ (ks : List Clause). layout (with_clauses q (chain_clauses ks))) (take_all k q.clauses (omega (arith, clause_count tb h)))
