-- Laws of the table's layout: its records grow at the end, its length, and the problem found in it.
use Prim.Native.Nat.{ℕ, suc, ◌+◌, ◌*◌, ◌^◌, ◌≤◌, ◌<◌, min}
use mathlib.Core.List.{List, [], ◌∷◌, ◌++◌, flat_map, append_assoc}
use mathlib.Core.Path.{◌≡◌, refl, sym, ap, ◌∙◌}
use native.Mathlib.Nat.{add-zero, zero-add, add_assoc}
use native.Mathlib.Omega.{arith}
use lib.ListN.{length, take, drop, get_or, replicate, length-append, length-replicate, get_or-append}
use lib.Seq.{take_at}
use Rattle.lists.specs.Bytes.{pad}
use Rattle.lists.specs.Digits.{low_bytes}
use Rattle.lists.specs.Member.{All}
use Rattle.lists.specs.Tabulate.{tabulate}
use Rattle.lists.proofs.Bytes.{all_at, get_d_skip, tabulate_of, at_zeros, pad_at, pad-length, total, records, total_snoc, records_snoc, records-length, records_at}
use Rattle.lists.proofs.Member.{all_map, all_of}
use Rattle.problem.specs.Problem.{Atom, Clause, Problem, AtomFits, ClauseFits, Fits, atom_count, first_atom, weight, weights}
use Rattle.problem.specs.Layout.{predicate_record, predicate_records, slot, slots, clause_record, clause_records, heading, layout, atom_in, clause_in, arities_in, problem_in}

-- ---- counts and records in the words of the laws on records

pub atoms_total : (c : ℕ) (xs : List ℕ) → atom_count c xs ≡ total (λ a. c ^ a) xs
atoms_total c [] = refl
atoms_total c (a ∷ xs) = rw (atoms_total c xs)

pub weights-total : (c : ℕ) (ks : List Clause) → weights c ks ≡ total (weight c) ks
weights-total c [] = refl
weights-total c (k ∷ ks) = rw (weights-total c ks)

predicates_records : (c first : ℕ) (xs : List ℕ) → predicate_records c first xs ≡ records predicate_record (λ a. c ^ a) first xs
predicates_records c first [] = refl
predicates_records c first (a ∷ xs) = rw (predicates_records c (first + c ^ a) xs)

clauses_records : (c : ℕ) (arities : List ℕ) (before : ℕ) (ks : List Clause) → clause_records c arities before ks ≡ records (clause_record c arities) (weight c) before ks
clauses_records c arities before [] = refl
clauses_records c arities before (k ∷ ks) = ap (λ (l : List ℕ). clause_record c arities before k ++ l) (clauses_records c arities (before + weight c k) ks)

-- a slot has no running number
slots_records : (c : ℕ) (arities : List ℕ) (s : ℕ) (atoms : List Atom) → flat_map (slot c arities) atoms ≡ records (λ n. slot c arities) (λ a. 0) s atoms
unfolding flat_map
slots_records c arities s [] = refl
slots_records c arities s (a ∷ atoms) = ap (λ (l : List ℕ). slot c arities a ++ l) (slots_records c arities (s + 0) atoms)

-- ---- one more at the end

pub atom_count_snoc : (c : ℕ) (xs : List ℕ) (a : ℕ) → atom_count c (xs ++ (a ∷ [])) ≡ atom_count c xs + c ^ a
atom_count_snoc c xs a = simp atoms_total (total_snoc (λ a. c ^ a) xs a)

pub weights_snoc : (c : ℕ) (ks : List Clause) (k : Clause) → weights c (ks ++ (k ∷ [])) ≡ weights c ks + weight c k
weights_snoc c ks k = simp weights-total (total_snoc (weight c) ks k)

pub predicates_snoc : (c first : ℕ) (xs : List ℕ) (a : ℕ) → predicate_records c first (xs ++ (a ∷ [])) ≡ predicate_records c first xs ++ predicate_record (first + atom_count c xs) a
predicates_snoc c first xs a = simp (predicates_records, atoms_total) (records_snoc predicate_record (λ a. c ^ a) first xs a)

pub clauses_snoc : (c : ℕ) (arities : List ℕ) (before : ℕ) (ks : List Clause) (k : Clause) → clause_records c arities before (ks ++ (k ∷ [])) ≡ clause_records c arities before ks ++ clause_record c arities (before + weights c ks) k
clauses_snoc c arities before ks k = rw (clauses_records c arities before (ks ++ (k ∷ [])), clauses_records c arities before ks, weights-total c ks) (records_snoc (clause_record c arities) (weight c) before ks k)

-- ---- lengths

pub predicate_records-length : (c first : ℕ) (xs : List ℕ) → length (predicate_records c first xs) ≡ 4 * length xs
predicate_records-length c first xs =
    rw (predicates_records c first xs)
    (records-length predicate_record (λ a. c ^ a) 4 first xs (all_of (λ a. (s : ℕ) → length (predicate_record s a) ≡ 4) (λ a s. refl) xs))

-- an atom that a slot has room for
abbrev pub Short : Atom → Type 0
Short a = length a.args ≤ 3

pub slot-length : (c : ℕ) (arities : List ℕ) (a : Atom) → Short a → length (slot c arities a) ≡ 6
slot-length c arities a h =
    let padded : length (pad 3 a.args) ≡ 3 = pad-length 3 a.args h in
    let whole : length (pad 3 a.args ++ low_bytes 2 (first_atom c arities a.pred)) ≡ 5 = length-append (pad 3 a.args) (low_bytes 2 (first_atom c arities a.pred)) ∙ rw padded in
    ap suc whole

-- an argument, and zero past the last one
pub slot_argument : (c : ℕ) (arities : List ℕ) (a : Atom) → Short a → (j : ℕ) → j < 3 → get_or (slot c arities a) (1 + j) 0 ≡ get_or a.args j 0
slot_argument c arities a h j hj =
    get_d_skip (a.pred ∷ []) (pad 3 a.args ++ low_bytes 2 (first_atom c arities a.pred)) 1 j refl
    ∙ get_or-append (pad 3 a.args) (low_bytes 2 (first_atom c arities a.pred)) 0 j (omega (arith, pad-length 3 a.args h))
    ∙ pad_at 3 a.args j

slots_wide : (c : ℕ) (arities : List ℕ) (atoms : List Atom) → All Short atoms → All (λ a. (s : ℕ) → length (slot c arities a) ≡ 6) atoms
slots_wide c arities atoms h = all_map Short (λ a. (s : ℕ) → length (slot c arities a) ≡ 6) (λ a f s. slot-length c arities a f) atoms h

pub slots-length : (c : ℕ) (arities : List ℕ) (atoms : List Atom) → length atoms ≤ 4 → All Short atoms → length (slots c arities atoms) ≡ 24
slots-length c arities atoms few h =
    let whole : length (flat_map (slot c arities) atoms) ≡ 6 * length atoms = rw (slots_records c arities 0 atoms) (records-length (λ n. slot c arities) (λ a. 0) 6 0 atoms (slots_wide c arities atoms h)) in
    pad-length 24 (flat_map (slot c arities) atoms) (omega arith)

-- an atom's arguments are as many as its predicate's arity
pub fits_short : (c : ℕ) (arities : List ℕ) (v : ℕ) (a : Atom) → All (λ n. n ≤ 3) arities → AtomFits c arities v a → Short a
fits_short c arities v a small f =
    let n : get_or arities a.pred 0 ≤ 3 = all_at (λ n. n ≤ 3) arities 0 a.pred f.known small in
    omega (arith, f.arity)

pub All-Short : (c : ℕ) (arities : List ℕ) (v : ℕ) (atoms : List Atom) → All (λ n. n ≤ 3) arities → All (AtomFits c arities v) atoms → All Short atoms
All-Short c arities v atoms small f = all_map (AtomFits c arities v) Short (λ a g. fits_short c arities v a small g) atoms f

pub clause_record-length : (c : ℕ) (arities : List ℕ) (before : ℕ) (k : Clause) → All (λ n. n ≤ 3) arities → ClauseFits c arities k → length (clause_record c arities before k) ≡ 56
clause_record-length c arities before k small f =
    let conds : length (slots c arities k.conds) ≡ 24 = slots-length c arities k.conds f.few_conds (All-Short c arities k.vars k.conds small f.conds_fit) in
    let alts : length (slots c arities k.alts) ≡ 24 = slots-length c arities k.alts f.few_alts (All-Short c arities k.vars k.alts small f.alts_fit) in
    omega (arith, length-append (slots c arities k.conds) (slots c arities k.alts))

clauses_wide : (c : ℕ) (arities : List ℕ) (ks : List Clause) → All (λ n. n ≤ 3) arities → All (ClauseFits c arities) ks → All (λ k. (s : ℕ) → length (clause_record c arities s k) ≡ 56) ks
clauses_wide c arities ks small f = all_map (ClauseFits c arities) (λ k. (s : ℕ) → length (clause_record c arities s k) ≡ 56) (λ k g s. clause_record-length c arities s k small g) ks f

pub clause_records-length : (c : ℕ) (arities : List ℕ) (before : ℕ) (ks : List Clause) → All (λ n. n ≤ 3) arities → All (ClauseFits c arities) ks → length (clause_records c arities before ks) ≡ 56 * length ks
clause_records-length c arities before ks small f =
    rw (clauses_records c arities before ks) (records-length (clause_record c arities) (weight c) 56 before ks (clauses_wide c arities ks small f))

-- the table's four parts
pub sixteen : (c p n : ℕ) (limit : List ℕ) (atoms : ℕ) → length limit ≡ 4 → length (c ∷ p ∷ n ∷ 0 ∷ limit ++ low_bytes 2 atoms ++ replicate 6 0) ≡ 16
sixteen c p n limit atoms four = omega (arith, length-append (limit ++ low_bytes 2 atoms) (replicate 6 0), length-append limit (low_bytes 2 atoms))

heading_length : (q : Problem) → Fits q → length (heading q) ≡ 16
heading_length q f = sixteen q.constants (length q.arities) (length q.clauses) q.limit (atom_count q.constants q.arities) f.limit_four

predicate_part : Problem → List ℕ
predicate_part q = pad 128 (predicate_records q.constants 0 q.arities)

predicate_part_length : (q : Problem) → Fits q → length (predicate_part q) ≡ 128
unfolding predicate_part
predicate_part_length q f =
    let few : length q.arities ≤ 32 = f.predicates_fit in
    pad-length 128 (predicate_records q.constants 0 q.arities) (omega (arith, predicate_records-length q.constants 0 q.arities))

clause_part : Problem → List ℕ
clause_part q = pad 3584 (clause_records q.constants q.arities 0 q.clauses)

clause_part_length : (q : Problem) → Fits q → length (clause_part q) ≡ 3584
unfolding clause_part
clause_part_length q f =
    let few : length q.clauses ≤ 64 = f.clauses_fit in
    let whole = clause_records-length q.constants q.arities 0 q.clauses f.arities_fit f.each_fits in
    pad-length 3584 (clause_records q.constants q.arities 0 q.clauses) (omega (arith, whole))

spare : List ℕ
spare = replicate 368 0

spare_length : length spare ≡ 368
unfolding spare
spare_length = length-replicate {A = ℕ} 368 0

layout_parts : (q : Problem) → layout q ≡ heading q ++ predicate_part q ++ clause_part q ++ spare
unfolding layout predicate_part clause_part spare
layout_parts q = refl

pub layout-length : (q : Problem) → Fits q → length (layout q) ≡ 4096
layout-length q f =
    rw (layout_parts q)
    (omega (
      arith,
      length-append (heading q ++ predicate_part q ++ clause_part q) spare,
      length-append (heading q ++ predicate_part q) (clause_part q),
      length-append (heading q) (predicate_part q),
      heading_length q f,
      predicate_part_length q f,
      clause_part_length q f,
      spare_length,
    ))

-- ---- the table's bytes

pub at_start : (tb : List ℕ) (at : ℕ) → get_or tb at 0 ≡ get_or tb (at + 0) 0
at_start tb at = rw (add-zero at)

pub regroup : (tb : List ℕ) (x y z : ℕ) → get_or tb (x + y + z) 0 ≡ get_or tb (x + (y + z)) 0
regroup tb x y z = rw (add_assoc x y z)

-- byte i of record j
predicates_at : (c : ℕ) (xs : List ℕ) (j i : ℕ) → j < length xs → i < 4 → get_or (predicate_records c 0 xs) (4 * j + i) 0 ≡ get_or (predicate_record (first_atom c xs j) (get_or xs j 0)) i 0
predicates_at c xs j i hj hi =
    ap (λ (l : List ℕ). get_or l (4 * j + i) 0) (predicates_records c 0 xs)
    ∙ records_at predicate_record (λ a. c ^ a) 4 0 0 xs (all_of (λ a. (s : ℕ) → length (predicate_record s a) ≡ 4) (λ a s. refl) xs) j i hj hi
    ∙ ap (λ (n : ℕ). get_or (predicate_record n (get_or xs j 0)) i 0) (zero-add (total (λ a. c ^ a) (take j xs)) ∙ sym (atoms_total c (take j xs)))

clauses_at : (c : ℕ) (arities : List ℕ) (ks : List Clause) → All (λ n. n ≤ 3) arities → All (ClauseFits c arities) ks → (d : Clause) (k i : ℕ) → k < length ks → i < 56 → get_or (clause_records c arities 0 ks) (56 * k + i) 0 ≡ get_or (clause_record c arities (weights c (take k ks)) (get_or ks k d)) i 0
clauses_at c arities ks small f d k i hk hi =
    ap (λ (l : List ℕ). get_or l (56 * k + i) 0) (clauses_records c arities 0 ks)
    ∙ records_at (clause_record c arities) (weight c) 56 d 0 ks (clauses_wide c arities ks small f) k i hk hi
    ∙ ap (λ (n : ℕ). get_or (clause_record c arities n (get_or ks k d)) i 0) (zero-add (total (weight c) (take k ks)) ∙ sym (weights-total c (take k ks)))

pub slots_at : (c : ℕ) (arities : List ℕ) (atoms : List Atom) → All Short atoms → (d : Atom) (i j : ℕ) → i < length atoms → j < 6 → get_or (slots c arities atoms) (6 * i + j) 0 ≡ get_or (slot c arities (get_or atoms i d)) j 0
slots_at c arities atoms h d i j hi hj =
    pad_at 24 (flat_map (slot c arities) atoms) (6 * i + j)
    ∙ ap (λ (l : List ℕ). get_or l (6 * i + j) 0) (slots_records c arities 0 atoms)
    ∙ records_at (λ n. slot c arities) (λ a. 0) 6 d 0 atoms (slots_wide c arities atoms h) i j hi hj

module _ (q : Problem) (f : Fits q) where
  not_spare : (i : ℕ) → get_or (layout q) i 0 ≡ get_or (heading q ++ predicate_part q ++ clause_part q) i 0
  unfolding spare
  not_spare i = rw (layout_parts q) (at_zeros (heading q ++ predicate_part q ++ clause_part q) 368 i)

  fore_length : length (heading q ++ predicate_part q) ≡ 144
  fore_length = length-append (heading q) (predicate_part q) ∙ rw (heading_length q f, predicate_part_length q f)

  pub heading_byte : (i : ℕ) → i < 16 → get_or (layout q) i 0 ≡ get_or (heading q) i 0
  heading_byte i h =
      not_spare i
      ∙ get_or-append (heading q ++ predicate_part q) (clause_part q) 0 i (omega (arith, fore_length))
      ∙ get_or-append (heading q) (predicate_part q) 0 i (omega (arith, heading_length q f))

  pub predicates_byte : (i : ℕ) → i < 128 → get_or (layout q) (16 + i) 0 ≡ get_or (predicate_records q.constants 0 q.arities) i 0
  unfolding predicate_part
  predicates_byte i h =
      not_spare (16 + i)
      ∙ get_or-append (heading q ++ predicate_part q) (clause_part q) 0 (16 + i) (omega (arith, fore_length))
      ∙ get_d_skip (heading q) (predicate_part q) 16 i (heading_length q f)
      ∙ pad_at 128 (predicate_records q.constants 0 q.arities) i

  clauses_byte : (i : ℕ) → get_or (layout q) (144 + i) 0 ≡ get_or (clause_records q.constants q.arities 0 q.clauses) i 0
  unfolding clause_part
  clauses_byte i =
      not_spare (144 + i)
      ∙ get_d_skip (heading q ++ predicate_part q) (clause_part q) 144 i fore_length
      ∙ pad_at 3584 (clause_records q.constants q.arities 0 q.clauses) i

  -- byte i of predicate j's record
  pub predicate_byte : (j i : ℕ) → j < length q.arities → i < 4 → get_or (layout q) (16 + 4 * j + i) 0 ≡ get_or (predicate_record (first_atom q.constants q.arities j) (get_or q.arities j 0)) i 0
  predicate_byte j i hj hi =
      let few : length q.arities ≤ 32 = f.predicates_fit in
      regroup (layout q) 16 (4 * j) i
      ∙ predicates_byte (4 * j + i) (omega arith)
      ∙ predicates_at q.constants q.arities j i hj hi

  -- byte i of clause k's record
  pub clause_byte : (d : Clause) (k i : ℕ) → k < length q.clauses → i < 56 → get_or (layout q) (144 + 56 * k + i) 0 ≡ get_or (clause_record q.constants q.arities (weights q.constants (take k q.clauses)) (get_or q.clauses k d)) i 0
  clause_byte d k i hk hi =
      regroup (layout q) 144 (56 * k) i
      ∙ clauses_byte (56 * k + i)
      ∙ clauses_at q.constants q.arities q.clauses f.arities_fit f.each_fits d k i hk hi

-- ---- the problem in the table

-- what is read past the end of a list of atoms, or of clauses
abbrev pub no_atom : Atom
no_atom = record { pred = 0; args = [] }

abbrev pub no_clause : Clause
no_clause = record { vars = 0; conds = []; alts = [] }

atom_same : (p r : ℕ) (x y : List ℕ) → p ≡ r → x ≡ y → ◌≡◌ {A = Atom} (record { pred = p; args = x }) (record { pred = r; args = y })
atom_same p r x y e g = rw (e, g)

module _ (c : ℕ) (arities : List ℕ) (v : ℕ) (small : All (λ n. n ≤ 3) arities) where
  -- where the first four bytes of an atom's slot stand, the atom is found
  pub atom_back : (tb : List ℕ) (at : ℕ) (a : Atom) → AtomFits c arities v a → ((j : ℕ) → j < 4 → get_or tb (at + j) 0 ≡ get_or (slot c arities a) j 0) → atom_in arities tb at ≡ a
  atom_back tb at a f same =
      atom_same
      (get_or tb at 0)
      a.pred
      (tabulate (λ j. get_or tb (at + 1 + j) 0) (get_or arities (get_or tb at 0) 0))
      a.args
      pred
      (tabulate_of (λ j. get_or tb (at + 1 + j) 0) 0 a.args (get_or arities (get_or tb at 0) 0) (ap (λ (p : ℕ). get_or arities p 0) pred ∙ sym f.arity) arg)
    where
      pred : get_or tb at 0 ≡ a.pred
      pred = at_start tb at ∙ same 0 (omega arith)

      arg : (j : ℕ) → j < length a.args → get_or tb (at + 1 + j) 0 ≡ get_or a.args j 0
      arg j h =
          let short : length a.args ≤ 3 = fits_short c arities v a small f in
          regroup tb at 1 j ∙ same (1 + j) (omega arith) ∙ slot_argument c arities a short j (omega arith)

  -- so are up to four atoms
  atoms_back : (tb : List ℕ) (at : ℕ) (atoms : List Atom) (n : ℕ) → n ≡ length atoms → length atoms ≤ 4 → All (AtomFits c arities v) atoms
      → ((x : ℕ) → x < 24 → get_or tb (at + x) 0 ≡ get_or (slots c arities atoms) x 0)
      → tabulate (λ i. atom_in arities tb (at + 6 * i)) (min n 4) ≡ atoms
  atoms_back tb at atoms n e few f same =
      tabulate_of (λ i. atom_in arities tb (at + 6 * i)) no_atom atoms (min n 4) (omega arith) found
    where
      byte : (i : ℕ) → i < length atoms → (j : ℕ) → j < 6 → get_or tb (at + 6 * i + j) 0 ≡ get_or (slot c arities (get_or atoms i no_atom)) j 0
      byte i h j hj =
          regroup tb at (6 * i) j
          ∙ same (6 * i + j) (omega arith)
          ∙ slots_at c arities atoms (All-Short c arities v atoms small f) no_atom i j h hj

      found : (i : ℕ) → i < length atoms → atom_in arities tb (at + 6 * i) ≡ get_or atoms i no_atom
      found i h = atom_back tb (at + 6 * i) (get_or atoms i no_atom) (all_at (AtomFits c arities v) atoms no_atom i h f) (λ j hj. byte i h j (omega arith))

clause_same : (v w : ℕ) (x y z u : List Atom) → v ≡ w → x ≡ y → z ≡ u → ◌≡◌ {A = Clause} (record { vars = v; conds = x; alts = z }) (record { vars = w; conds = y; alts = u })
clause_same v w x y z u e g h = rw (e, g, h)

-- a clause's record: 8 bytes, and the slots of its conditions and of its alternatives
fore : ℕ → ℕ → Clause → List ℕ
fore c before k = length k.conds ∷ length k.alts ∷ k.vars ∷ 0 ∷ low_bytes 2 (c ^ k.vars) ++ low_bytes 2 before

module _ (c : ℕ) (arities : List ℕ) (small : All (λ n. n ≤ 3) arities) (before : ℕ) (k : Clause) (f : ClauseFits c arities k) where
  pub condition_byte : (x : ℕ) → x < 24 → get_or (clause_record c arities before k) (8 + x) 0 ≡ get_or (slots c arities k.conds) x 0
  unfolding fore
  condition_byte x h =
      let whole = slots-length c arities k.conds f.few_conds (All-Short c arities k.vars k.conds small f.conds_fit) in
      get_d_skip (fore c before k) (slots c arities k.conds ++ slots c arities k.alts) 8 x refl
      ∙ get_or-append (slots c arities k.conds) (slots c arities k.alts) 0 x (omega (arith, whole))

  pub alternative_byte : (x : ℕ) → get_or (clause_record c arities before k) (32 + x) 0 ≡ get_or (slots c arities k.alts) x 0
  unfolding fore
  alternative_byte x =
      let whole = slots-length c arities k.conds f.few_conds (All-Short c arities k.vars k.conds small f.conds_fit) in
      regroup (clause_record c arities before k) 8 24 x
      ∙ get_d_skip (fore c before k) (slots c arities k.conds ++ slots c arities k.alts) 8 (24 + x) refl
      ∙ get_d_skip (slots c arities k.conds) (slots c arities k.alts) 24 x whole

  -- where the 56 bytes of a clause's record stand, the clause is found
  clause_back : (tb : List ℕ) (at : ℕ) → ((i : ℕ) → i < 56 → get_or tb (at + i) 0 ≡ get_or (clause_record c arities before k) i 0) → clause_in arities tb at ≡ k
  clause_back tb at same =
      clause_same
      (get_or tb (at + 2) 0)
      k.vars
      (tabulate (λ i. atom_in arities tb (at + 8 + 6 * i)) (min (get_or tb at 0) 4))
      k.conds
      (tabulate (λ i. atom_in arities tb (at + 32 + 6 * i)) (min (get_or tb (at + 1) 0) 4))
      k.alts
      (same 2 (omega arith))
      (atoms_back c arities k.vars small tb (at + 8) k.conds (get_or tb at 0) (at_start tb at ∙ same 0 (omega arith)) f.few_conds f.conds_fit conds)
      (atoms_back c arities k.vars small tb (at + 32) k.alts (get_or tb (at + 1) 0) (same 1 (omega arith)) f.few_alts f.alts_fit alts)
    where
      conds : (x : ℕ) → x < 24 → get_or tb (at + 8 + x) 0 ≡ get_or (slots c arities k.conds) x 0
      conds x h = regroup tb at 8 x ∙ same (8 + x) (omega arith) ∙ condition_byte x h

      alts : (x : ℕ) → x < 24 → get_or tb (at + 32 + x) 0 ≡ get_or (slots c arities k.alts) x 0
      alts x h = regroup tb at 32 x ∙ same (32 + x) (omega arith) ∙ alternative_byte x

-- the arities are found where their number and each of them stand
pub arities_from : (tb arities : List ℕ) → get_or tb 1 0 ≡ length arities → length arities ≤ 32 → All (λ a. a ≤ 3) arities
    → ((j : ℕ) → j < length arities → get_or tb (16 + 4 * j) 0 ≡ get_or arities j 0) → arities_in tb ≡ arities
arities_from tb arities count few small byte = tabulate_of (λ j. min (get_or tb (16 + 4 * j) 0) 3) 0 arities (min (get_or tb 1 0) 32) (omega arith) found
  where
    found : (j : ℕ) → j < length arities → min (get_or tb (16 + 4 * j) 0) 3 ≡ get_or arities j 0
    found j h = omega (arith, byte j h, all_at (λ a. a ≤ 3) arities 0 j h small)

first_of_six : (l x y z u w : List ℕ) (n : ℕ) → length l ≡ n → take n (l ++ x ++ y ++ z ++ u ++ w) ≡ l
first_of_six l x y z u w n e = simp append_assoc (take_at l (x ++ (y ++ (z ++ (u ++ w)))) n e)

problem_same : (c d : ℕ) (l m : List ℕ) (x y : List ℕ) (ks js : List Clause) → c ≡ d → l ≡ m → x ≡ y → ks ≡ js
    → ◌≡◌ {A = Problem} (record { constants = c; limit = l; arities = x; clauses = ks }) (record { constants = d; limit = m; arities = y; clauses = js })
problem_same c d l m x y ks js e g h i = rw (e, g, h, i)

module _ (q : Problem) (f : Fits q) where
  limit_back : take 4 (drop 4 (layout q)) ≡ q.limit
  limit_back =
      rw (layout_parts q)
      (first_of_six q.limit (low_bytes 2 (atom_count q.constants q.arities)) (replicate 6 0) (predicate_part q) (clause_part q) spare 4 f.limit_four)

  arities_back : arities_in (layout q) ≡ q.arities
  arities_back =
      arities_from (layout q) q.arities (heading_byte q f 1 (omega arith)) f.predicates_fit f.arities_fit
      (λ j h. at_start (layout q) (16 + 4 * j) ∙ predicate_byte q f j 0 h (omega arith))

  clauses_back : (arities : List ℕ) → arities ≡ q.arities → tabulate (λ k. clause_in arities (layout q) (144 + 56 * k)) (min (get_or (layout q) 2 0) 64) ≡ q.clauses
  clauses_back arities e =
      rw e (tabulate_of (λ k. clause_in q.arities (layout q) (144 + 56 * k)) no_clause q.clauses (min (get_or (layout q) 2 0) 64) counted found)
    where
      counted : min (get_or (layout q) 2 0) 64 ≡ length q.clauses
      counted =
          let few : length q.clauses ≤ 64 = f.clauses_fit in
          omega (arith, heading_byte q f 2 (omega arith))

      found : (k : ℕ) → k < length q.clauses → clause_in q.arities (layout q) (144 + 56 * k) ≡ get_or q.clauses k no_clause
      found k h =
          clause_back
          q.constants
          q.arities
          f.arities_fit
          (weights q.constants (take k q.clauses))
          (get_or q.clauses k no_clause)
          (all_at (ClauseFits q.constants q.arities) q.clauses no_clause k h f.each_fits)
          (layout q)
          (144 + 56 * k)
          (λ i hi. clause_byte q f no_clause k i h hi)

  pub problem_back : problem_in (layout q) ≡ q
  unfolding problem_in
  problem_back =
      problem_same
      (get_or (layout q) 0 0)
      q.constants
      (take 4 (drop 4 (layout q)))
      q.limit
      (arities_in (layout q))
      q.arities
      (tabulate (λ k. clause_in (arities_in (layout q)) (layout q) (144 + 56 * k)) (min (get_or (layout q) 2 0) 64))
      q.clauses
      (heading_byte q f 0 (omega arith))
      limit_back
      arities_back
      (clauses_back (arities_in (layout q)) arities_back)
