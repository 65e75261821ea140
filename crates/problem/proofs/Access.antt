-- What stands where in the table of a problem that fits: the fields that the engines read.
use Prim.Native.Nat.{ℕ, zero, suc, ◌+◌, ◌*◌, ◌^◌, ◌≤◌, ◌<◌}
use mathlib.Core.List.{List, [], ◌∷◌, ◌++◌}
use mathlib.Core.Path.{◌≡◌, ap, ◌∙◌}
use native.Mathlib.Nat.{pow-zero, suc-mul}
use native.Mathlib.Omega.{arith}
use lib.ListN.{length, take, get_or, replicate, length-append, get_or-append}
use Rattle.lists.specs.Bytes.{pad}
use Rattle.lists.specs.Digits.{low_bytes}
use Rattle.lists.specs.Member.{All, Any}
use Rattle.lists.proofs.Bytes.{all_at, get_d_skip, pad-length, total-take, total_upto}
use Rattle.lists.proofs.Digits.{two_back}
use Rattle.problem.specs.Problem.{Atom, Clause, Problem, AtomFits, ClauseFits, Fits, atom_count, first_atom, weight, weights}
use Rattle.problem.specs.Layout.{slot, slots, clause_record, layout}
use Rattle.problem.proofs.TableLayout.{Short, atoms_total, weights-total, slot_argument, All-Short, slots_at, at_start, regroup, heading_byte, predicate_byte, clause_byte, condition_byte, alternative_byte}

-- two bytes that hold a number below 65,536 give it
held2 : (tb : List ℕ) (low high n : ℕ) → n < 65536 → get_or tb low 0 ≡ get_or (low_bytes 2 n) 0 0 → get_or tb high 0 ≡ get_or (low_bytes 2 n) 1 0 → get_or tb low 0 + 256 * get_or tb high 0 ≡ n
held2 tb low high n small l h = rw (l, h) (two_back n small)

-- ---- bounds

-- the atoms of a predicate end at or before A
pub atoms_upto : (c : ℕ) (arities : List ℕ) (j : ℕ) → j < length arities → first_atom c arities j + c ^ get_or arities j 0 ≤ atom_count c arities
atoms_upto c arities j h = simp atoms_total (total_upto (λ a. c ^ a) 0 j arities h)

pub first_atom-le : (c : ℕ) (arities : List ℕ) (j : ℕ) → first_atom c arities j ≤ atom_count c arities
first_atom-le c arities j = simp atoms_total (total-take (λ a. c ^ a) j arities)

pub weights_upto : (c : ℕ) (d : Clause) (ks : List Clause) (k : ℕ) → k < length ks → weights c (take k ks) + weight c (get_or ks k d) ≤ weights c ks
weights_upto c d ks k h = rw (weights-total c (take k ks), weights-total c ks) (total_upto (weight c) d k ks h)

pub weights-take : (c : ℕ) (ks : List Clause) (k : ℕ) → weights c (take k ks) ≤ weights c ks
weights-take c ks k = rw (weights-total c (take k ks), weights-total c ks) (total-take (weight c) k ks)

-- a clause with conditions has no more instances than its weight; one without has no variable, so one instance
pub instances_fit : (c : ℕ) (arities : List ℕ) (k : Clause) → ClauseFits c arities k → weight c k ≤ 16384 → c ^ k.vars ≤ 16384
instances_fit c arities k f h = go k.conds k.vars f.named h
  where
    go : (cs : List Atom) (v : ℕ) → ((x : ℕ) → x < v → Any (λ a. Any (λ b. b ≡ 128 + x) a.args) cs) → length cs * c ^ v ≤ 16384 → c ^ v ≤ 16384
    go [] zero named l = rw (pow-zero c) (omega arith)
    go [] (suc v) named l = absurd (named 0 (omega arith))
    go (a ∷ cs) v named l = omega (arith, suc-mul (length cs) (c ^ v))

-- ---- the heading

module _ (q : Problem) (f : Fits q) where
  pub constants_in : get_or (layout q) 0 0 ≡ q.constants
  constants_in = heading_byte q f 0 (omega arith)

  pub predicates_in : get_or (layout q) 1 0 ≡ length q.arities
  predicates_in = heading_byte q f 1 (omega arith)

  pub clauses_in : get_or (layout q) 2 0 ≡ length q.clauses
  clauses_in = heading_byte q f 2 (omega arith)

  pub count_byte : (i : ℕ) → i < 2 → get_or (layout q) (8 + i) 0 ≡ get_or (low_bytes 2 (atom_count q.constants q.arities)) i 0
  count_byte i h =
      let four : length q.limit ≡ 4 = f.limit_four in
      let counts : List ℕ = low_bytes 2 (atom_count q.constants q.arities) in
      let fore : List ℕ = q.constants ∷ length q.arities ∷ length q.clauses ∷ 0 ∷ q.limit in
      let eight : length fore ≡ 8 = omega arith in
      heading_byte q f (8 + i) (omega arith)
      ∙ get_or-append (fore ++ counts) (replicate 6 0) 0 (8 + i) (omega (arith, length-append fore counts))
      ∙ get_d_skip fore counts 8 i eight

  pub atoms_in : get_or (layout q) 8 0 + 256 * get_or (layout q) 9 0 ≡ atom_count q.constants q.arities
  atoms_in =
      let bound : atom_count q.constants q.arities ≤ 1024 = f.atoms_fit in
      held2 (layout q) 8 9 (atom_count q.constants q.arities) (omega arith) (count_byte 0 (omega arith)) (count_byte 1 (omega arith))

  -- ---- predicate j

  pub arity_in : (j : ℕ) → j < length q.arities → get_or (layout q) (16 + 4 * j) 0 ≡ get_or q.arities j 0
  arity_in j h = at_start (layout q) (16 + 4 * j) ∙ predicate_byte q f j 0 h (omega arith)

  pub first_in : (j : ℕ) → j < length q.arities
      → get_or (layout q) (16 + 4 * j + 1) 0 + 256 * get_or (layout q) (16 + 4 * j + 2) 0 ≡ first_atom q.constants q.arities j
  first_in j h =
      let bound : atom_count q.constants q.arities ≤ 1024 = f.atoms_fit in
      held2
      (layout q)
      (16 + 4 * j + 1)
      (16 + 4 * j + 2)
      (first_atom q.constants q.arities j)
      (omega (arith, first_atom-le q.constants q.arities j))
      (predicate_byte q f j 1 h (omega arith))
      (predicate_byte q f j 2 h (omega arith))

-- ---- an atom's slot

-- an atom's six bytes from a place on; past the last argument stands 0
pub record AtomBytes (c : ℕ) (arities tb : List ℕ) (at : ℕ) (a : Atom) : Type 0 where
  pub predicate : get_or tb at 0 ≡ a.pred
  pub argument : (j : ℕ) → j < 3 → get_or tb (at + 1 + j) 0 ≡ get_or a.args j 0
  pub first : get_or tb (at + 4) 0 + 256 * get_or tb (at + 5) 0 ≡ first_atom c arities a.pred

slot_first : (c : ℕ) (arities : List ℕ) (a : Atom) → Short a → (i : ℕ) → get_or (slot c arities a) (4 + i) 0 ≡ get_or (low_bytes 2 (first_atom c arities a.pred)) i 0
slot_first c arities a h i =
    let whole : length (a.pred ∷ pad 3 a.args) ≡ 4 = omega (arith, pad-length 3 a.args h) in
    get_d_skip (a.pred ∷ pad 3 a.args) (low_bytes 2 (first_atom c arities a.pred)) 4 i whole

slot_bytes : (c : ℕ) (arities tb : List ℕ) (at : ℕ) (a : Atom) → atom_count c arities ≤ 1024 → Short a
    → ((j : ℕ) → j < 6 → get_or tb (at + j) 0 ≡ get_or (slot c arities a) j 0)
    → AtomBytes c arities tb at a
slot_bytes c arities tb at a bound h same =
    record {
      predicate = at_start tb at ∙ same 0 (omega arith);
      argument = λ j hj. regroup tb at 1 j ∙ same (1 + j) (omega arith) ∙ slot_argument c arities a h j hj;
      first =
          held2
          tb
          (at + 4)
          (at + 5)
          (first_atom c arities a.pred)
          (omega (arith, first_atom-le c arities a.pred))
          (same 4 (omega arith) ∙ slot_first c arities a h 0)
          (same 5 (omega arith) ∙ slot_first c arities a h 1);
    }

-- ---- clause k

module _ (q : Problem) (f : Fits q) (d : Clause) (k : ℕ) (below : k < length q.clauses) where
  clause_fits : ClauseFits q.constants q.arities (get_or q.clauses k d)
  clause_fits = all_at (ClauseFits q.constants q.arities) q.clauses d k below f.each_fits

  pub conditions_in : get_or (layout q) (144 + 56 * k) 0 ≡ length (get_or q.clauses k d).conds
  conditions_in = at_start (layout q) (144 + 56 * k) ∙ clause_byte q f d k 0 below (omega arith)

  pub alternatives_in : get_or (layout q) (144 + 56 * k + 1) 0 ≡ length (get_or q.clauses k d).alts
  alternatives_in = clause_byte q f d k 1 below (omega arith)

  pub variables_in : get_or (layout q) (144 + 56 * k + 2) 0 ≡ (get_or q.clauses k d).vars
  variables_in = clause_byte q f d k 2 below (omega arith)

  pub instances_in : get_or (layout q) (144 + 56 * k + 4) 0 + 256 * get_or (layout q) (144 + 56 * k + 5) 0 ≡ q.constants ^ (get_or q.clauses k d).vars
  instances_in =
      let whole : weights q.constants q.clauses ≤ 16384 = f.weights_fit in
      let bound : weight q.constants (get_or q.clauses k d) ≤ 16384 = omega (arith, weights_upto q.constants d q.clauses k below) in
      held2
      (layout q)
      (144 + 56 * k + 4)
      (144 + 56 * k + 5)
      (q.constants ^ (get_or q.clauses k d).vars)
      (omega (arith, instances_fit q.constants q.arities (get_or q.clauses k d) clause_fits bound))
      (clause_byte q f d k 4 below (omega arith))
      (clause_byte q f d k 5 below (omega arith))

  -- atom i of the conditions, or of the alternatives, whose slots start at byte n of the record
  atom_in : (e : Atom) (n : ℕ) (atoms : List Atom) → n ≤ 32 → length atoms ≤ 4 → All (AtomFits q.constants q.arities (get_or q.clauses k d).vars) atoms
      → ((x : ℕ) → x < 24 → get_or (clause_record q.constants q.arities (weights q.constants (take k q.clauses)) (get_or q.clauses k d)) (n + x) 0 ≡ get_or (slots q.constants q.arities atoms) x 0)
      → (i : ℕ) → i < length atoms → AtomBytes q.constants q.arities (layout q) (144 + 56 * k + n + 6 * i) (get_or atoms i e)
  atom_in e n atoms low few fits slot_at i h =
      slot_bytes q.constants q.arities (layout q) (144 + 56 * k + n + 6 * i) (get_or atoms i e) f.atoms_fit (all_at Short atoms e i h short) byte
    where
      short : All Short atoms
      short = All-Short q.constants q.arities (get_or q.clauses k d).vars atoms f.arities_fit fits

      byte : (j : ℕ) → j < 6 → get_or (layout q) (144 + 56 * k + n + 6 * i + j) 0 ≡ get_or (slot q.constants q.arities (get_or atoms i e)) j 0
      byte j hj =
          let place : 144 + 56 * k + n + 6 * i + j ≡ 144 + 56 * k + (n + (6 * i + j)) = omega arith in
          ap (λ (m : ℕ). get_or (layout q) m 0) place
          ∙ clause_byte q f d k (n + (6 * i + j)) below (omega arith)
          ∙ slot_at (6 * i + j) (omega arith)
          ∙ slots_at q.constants q.arities atoms short e i j h hj

  pub condition_in : (e : Atom) (i : ℕ) → i < length (get_or q.clauses k d).conds → AtomBytes q.constants q.arities (layout q) (144 + 56 * k + 8 + 6 * i) (get_or (get_or q.clauses k d).conds i e)
  condition_in e i h =
      atom_in
      e
      8
      (get_or q.clauses k d).conds
      (omega arith)
      clause_fits.few_conds
      clause_fits.conds_fit
      (condition_byte q.constants q.arities f.arities_fit (weights q.constants (take k q.clauses)) (get_or q.clauses k d) clause_fits)
      i
      h

  pub alternative_in : (e : Atom) (i : ℕ) → i < length (get_or q.clauses k d).alts → AtomBytes q.constants q.arities (layout q) (144 + 56 * k + 32 + 6 * i) (get_or (get_or q.clauses k d).alts i e)
  alternative_in e i h =
      atom_in
      e
      32
      (get_or q.clauses k d).alts
      (omega arith)
      clause_fits.few_alts
      clause_fits.alts_fit
      (λ x hx. alternative_byte q.constants q.arities f.arities_fit (weights q.constants (take k q.clauses)) (get_or q.clauses k d) clause_fits x)
      i
      h
