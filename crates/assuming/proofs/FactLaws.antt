-- The clause of a fact, its record, and a table with facts added: the steps over lists.
use Prim.Native.Nat.{ℕ, ◌+◌, ◌*◌, ◌≤◌, ◌<◌}
use mathlib.Core.Bool.{not, ◌&&◌}
use mathlib.Core.List.{List, [], ◌∷◌, ◌++◌, map, append-nil, append_assoc, map-append, flat_map}
use mathlib.Core.Logic.{inl}
use mathlib.Core.Path.{◌≡◌, refl, sym, ap, ap₂, subst, ◌∙◌}
use native.Mathlib.Nat.{pow-zero, zero-mul, zero-add}
use native.Mathlib.Numerals.{add-one}
use native.Mathlib.Omega.{arith}
use borrow.Author.Tests.{ltb-true}
use lib.Dec.{T, ltb}
use lib.ListN.{length, take, drop, get_or, set, replicate, length-append, length-map, length-replicate, take-append-drop, drop_of_length-le}
use lib.Seq.{length-take-le, take-suc, take-length}
use Rattle.lists.specs.Bytes.{pad}
use Rattle.lists.specs.Digits.{low_bytes}
use Rattle.lists.specs.Key.{nat_key}
use Rattle.lists.specs.Member.{All, has}
use Rattle.lists.specs.Test.{T_left, T_right}
use Rattle.lists.proofs.Test.{T-true}
use Rattle.lists.proofs.Member.{all_map, All-append, append_left, append_right, all_mapped}
use Rattle.lists.proofs.Bytes.{all_at, part_with, part_length, pad-length}
use Rattle.problem.specs.Problem.{Clause, Problem, ArgFits, AtomFits, ClauseFits, Fits, atom_count, first_atom, weight, weights}
use Rattle.problem.specs.Layout.{clause_record, layout, arities_in, problem_in}
use Rattle.problem.specs.Table.{Lawful}
use Rattle.problem.specs.Extended.{with_clause}
use Rattle.problem.proofs.TableLayout.{predicate_byte}
use Rattle.ground.specs.Instance.{AtomOf}
use Rattle.ground.specs.Report.{atoms_in_order}
use Rattle.kernel.specs.terms.Matching.{Decoded}
use Rattle.kernel.proofs.MatchLaws.{PredicateKnown, predicate_known}
use Rattle.ground.proofs.Theorems.{theorems as grounds}
use Rattle.ground.proofs.Order.{order_at}
use Rattle.problem.proofs.Theorems.{theorems as tables}
use Rattle.adding.specs.terms.Appended.{Appended}
use Rattle.adding.proofs.AppendLaws.{table_size, clause_count}
use Rattle.assuming.specs.Assume.{atom_of, fact_clause, assuming, assumed_table, are_atoms}
use Rattle.assuming.specs.terms.Made.{Addable}

-- ---- the record of a fact's clause

-- a record in which one alternative, one instance and an atom's predicate were put, and then the rest of the atom's slot
abbrev pub headed : List ℕ → ℕ → List ℕ
headed z p = set (set (set z 1 1) 4 1) 32 p

abbrev pub filled : List ℕ → ℕ → ℕ → ℕ → List ℕ → List ℕ
filled z p lo hi ys = set (set (part_with 33 3 (headed z p) ys) 36 lo) 37 hi

-- its bytes, for argument bytes that are three
abbrev record_bytes : ℕ → List ℕ → List ℕ → List ℕ
record_bytes p ys first = 0 ∷ 1 ∷ 0 ∷ 0 ∷ low_bytes 2 1 ++ low_bytes 2 0 ++ pad 24 [] ++ pad 24 ((p ∷ ys ++ first) ++ [])

filled_is : (p lo hi : ℕ) (ys : List ℕ) → length ys ≡ 3 → filled (replicate 56 0) p lo hi ys ≡ record_bytes p ys (lo ∷ hi ∷ [])
filled_is p lo hi (x ∷ y ∷ z ∷ []) h = refl
filled_is p lo hi [] h = absurd (omega arith)
filled_is p lo hi (x ∷ []) h = absurd (omega arith)
filled_is p lo hi (x ∷ y ∷ []) h = absurd (omega arith)
filled_is p lo hi (x ∷ y ∷ z ∷ u ∷ rest) h = absurd (omega arith)

-- arguments over three zeros
padded : (ys : List ℕ) → length ys ≤ 3 → ys ++ drop (length ys) (replicate 3 0) ≡ pad 3 ys
padded [] h = refl
padded (x ∷ []) h = refl
padded (x ∷ y ∷ []) h = refl
padded (x ∷ y ∷ z ∷ []) h = refl
padded (x ∷ y ∷ z ∷ u ∷ rest) h = absurd (omega arith)

abbrev fact_of : ℕ → List ℕ → Clause
fact_of p args = record { vars = 0; conds = []; alts = record { pred = p; args = args } ∷ [] }

record_is : (c : ℕ) (arities : List ℕ) (p : ℕ) (args : List ℕ) → record_bytes p (pad 3 args) (low_bytes 2 (first_atom c arities p)) ≡ clause_record c arities 0 (fact_of p args)
unfolding flat_map
record_is c arities p args = rw (pow-zero c)

module _ (tb : List ℕ) (lawful : Lawful tb) (a p : ℕ) (args : List ℕ) (d : Decoded tb a p args) where
  pub fact_known : PredicateKnown tb p
  fact_known = predicate_known tb lawful p d.atom.known

  pub fact_place : 16 + 4 * p + 2 < length tb
  fact_place = omega (arith, fact_known.place, table_size tb lawful)

  pub few_arguments : get_or tb (16 + 4 * p) 0 ≤ 3
  few_arguments = omega (arith, fact_known.arity, fact_known.few)

  abbrev own : List ℕ
  own = take (get_or (arities_in tb) p 0) args

  own_short : length own ≤ 3
  own_short = omega (arith, length-take-le (get_or (arities_in tb) p 0) args (omega (arith, d.three, fact_known.few)), fact_known.few)

  first_bytes : get_or tb (16 + 4 * p + 1) 0 ∷ get_or tb (16 + 4 * p + 2) 0 ∷ [] ≡ low_bytes 2 (first_atom (problem_in tb).constants (problem_in tb).arities p)
  unfolding problem_in
  first_bytes =
      let q = problem_in tb in
      let byte : (i : ℕ) → i < 4 → get_or tb (16 + 4 * p + i) 0 ≡ get_or (get_or q.arities p 0 ∷ low_bytes 2 (first_atom q.constants q.arities p) ++ (0 ∷ [])) i 0 =
      λ i l. ap (λ (t : List ℕ). get_or t (16 + 4 * p + i) 0) (sym lawful.laid) ∙ predicate_byte q lawful.fits p i d.atom.known l in
      ap₂ (λ (x y : ℕ). x ∷ y ∷ []) (byte 1 (omega arith)) (byte 2 (omega arith))

  fact_is : fact_of p own ≡ fact_clause (problem_in tb) a
  unfolding problem_in
  fact_is =
      let listed : p ∷ own ≡ get_or (atoms_in_order (problem_in tb)) a [] = sym (order_at (problem_in tb) p own d.atom) ∙ ap (λ (n : ℕ). get_or (atoms_in_order (problem_in tb)) n []) d.numbered in
      ap (λ (x : List ℕ). record { vars = 0; conds = []; alts = atom_of x ∷ [] }) listed

  -- what is written over zeros, with the arguments copied in, is the record of the fact's clause
  module _ (z : List ℕ) (zeros : z ≡ replicate 56 0) (w : ℕ) (arity : w ≡ get_or tb (16 + 4 * p) 0) where
    pub copied_count : w ≡ length (take w args)
    copied_count = sym (length-take-le w args (omega (arith, few_arguments, d.three)))

    pub copied_fits : length (take w args) ≤ length (take 3 (drop 33 (headed z p)))
    copied_fits =
        let room : length (take 3 (drop 33 (headed z p))) ≡ 3 = ap (λ (l : List ℕ). length (take 3 (drop 33 (headed l p)))) zeros in
        omega (arith, copied_count, few_arguments)

    module _ (ys : List ℕ) (copied : ys ≡ take w args ++ drop (length (take w args)) (take 3 (drop 33 (headed z p)))) where
      copied_is : ys ≡ pad 3 own
      copied_is =
          copied
          ∙ ap (λ (l : List ℕ). take w args ++ drop (length (take w args)) (take 3 (drop 33 (headed l p)))) zeros
          ∙ ap (λ (n : ℕ). take n args ++ drop (length (take n args)) (replicate 3 0)) (arity ∙ fact_known.arity)
          ∙ padded own own_short

      three : length ys ≡ 3
      three = ap length copied_is ∙ pad-length 3 own own_short

      pub written_size : length (part_with 33 3 (headed z p) ys) ≡ 56
      written_size =
          let z_size : length (headed z p) ≡ 56 = ap (λ (l : List ℕ). length (headed l p)) zeros in
          part_length 33 3 (headed z p) ys three (omega arith) ∙ z_size

      pub fact_record : filled z p (get_or tb (16 + 4 * p + 1) 0) (get_or tb (16 + 4 * p + 2) 0) ys ≡ clause_record (problem_in tb).constants (problem_in tb).arities 0 (fact_clause (problem_in tb) a)
      fact_record =
          let q = problem_in tb in
          ap (λ (l : List ℕ). filled l p (get_or tb (16 + 4 * p + 1) 0) (get_or tb (16 + 4 * p + 2) 0) ys) zeros
          ∙ filled_is p _ _ ys three
          ∙ ap₂ (record_bytes p) copied_is first_bytes
          ∙ record_is q.constants q.arities p own
          ∙ ap (clause_record q.constants q.arities 0) fact_is

-- ---- a problem with facts keeps every bound

module _ (q : Problem) (f : Fits q) where
  abbrev pub A : ℕ
  A = atom_count q.constants q.arities

  module _ (a : ℕ) (below : a < atom_count q.constants q.arities) where
    -- the ground atom that has the fact's number
    pub fact_atom : AtomOf q.constants q.arities a
    fact_atom = grounds.onto q.constants q.arities a below

    pub fact_atom_lem : fact_clause q a ≡ fact_of fact_atom.pred fact_atom.args
    fact_atom_lem =
        let listed : get_or (atoms_in_order q) a [] ≡ fact_atom.pred ∷ fact_atom.args = ap (λ (n : ℕ). get_or (atoms_in_order q) n []) (sym fact_atom.numbered) ∙ order_at q fact_atom.pred fact_atom.args fact_atom.atom in
        ap (λ (x : List ℕ). record { vars = 0; conds = []; alts = atom_of x ∷ [] }) listed

    -- constants are no variables
    no_variable : (front back args : List ℕ) (x : ℕ) → All (λ d. d < q.constants) args → args ≡ front ++ ((128 + x) ∷ back) → ⊥
    no_variable front back args x all e =
        let rest = append_right (λ d. d < q.constants) front ((128 + x) ∷ back) (subst (All (λ d. d < q.constants)) e all) in
        let small : q.constants ≤ 32 = f.constants_fit in
        absurd (omega (arith, rest.0))

    fact_fits : ClauseFits q.constants q.arities (fact_clause q a)
    unfolding flat_map
    fact_fits =
        let n = fact_atom in
        let argument : (d : ℕ) → d < q.constants → ArgFits q.constants 0 d = λ d l. inl (omega (arith, f.constants_fit), l) in
        let fits : AtomFits q.constants q.arities 0 (record { pred = n.pred; args = n.args }) =
        record { known = n.atom.known; arity = n.atom.arity; args_fit = all_map (λ d. d < q.constants) (ArgFits q.constants 0) argument n.args n.atom.below } in
        subst (ClauseFits q.constants q.arities) (sym fact_atom_lem)
        (record {
          few_vars = omega arith;
          few_conds = omega arith;
          few_alts = omega arith;
          conds_fit = tt;
          alts_fit = (fits, tt);
          named = λ x l. absurd (omega arith);
          in_order = λ front back x e y l. absurd (no_variable front back n.args x n.atom.below (sym (append-nil n.args) ∙ e));
        })

  -- facts weigh nothing
  facts_weigh : (ks : List Clause) (facts : List ℕ) → weights q.constants (ks ++ map (fact_clause q) facts) ≡ weights q.constants ks
  facts_weigh [] [] = refl
  facts_weigh [] (a ∷ facts) = rw (zero-mul, zero-add) (facts_weigh [] facts)
  facts_weigh (k ∷ ks) facts = ap (λ (n : ℕ). weight q.constants k + n) (facts_weigh ks facts)

  pub assuming-Fits : (facts : List ℕ) → All (λ a. a < atom_count q.constants q.arities) facts → length q.clauses + length facts ≤ 64 → Fits (assuming q facts)
  assuming-Fits facts below room =
      record {
        constants_fit = f.constants_fit;
        limit_four = f.limit_four;
        limit_bytes = f.limit_bytes;
        some_predicate = f.some_predicate;
        predicates_fit = f.predicates_fit;
        arities_fit = f.arities_fit;
        atoms_fit = f.atoms_fit;
        clauses_fit = omega (arith, length-append q.clauses (map (fact_clause q) facts), length-map facts (fact_clause q));
        each_fits =
            All-append (ClauseFits q.constants q.arities) q.clauses (map (fact_clause q) facts) f.each_fits
            (all_mapped (fact_clause q) (ClauseFits q.constants q.arities) facts
            (all_map (λ a. a < atom_count q.constants q.arities) (λ a. ClauseFits q.constants q.arities (fact_clause q a)) fact_fits facts below));
        weights_fit = rw (facts_weigh q.clauses facts) f.weights_fit;
      }

-- ---- facts appended to a table

-- one fact appended
pub fact_added : (tb : List ℕ) → Lawful tb → get_or tb 2 0 < 64 → (a : ℕ) → a < atom_count (problem_in tb).constants (problem_in tb).arities → (rec left : List ℕ)
    → rec ≡ clause_record (problem_in tb).constants (problem_in tb).arities 0 (fact_clause (problem_in tb) a) → Appended tb rec left
    → left ≡ layout (with_clause (problem_in tb) (fact_clause (problem_in tb) a))
fact_added tb h room a below rec left filled appended =
    let q = problem_in tb in
    appended.table (fact_clause q a) 0 (assuming-Fits q h.fits (a ∷ []) (below, tt) (omega (arith, clause_count tb h))) filled

-- the first i facts are appended
pub record Adding (tb facts : List ℕ) (i : ℕ) (now : List ℕ) : Type 0 where
  pub within : i ≤ length facts
  pub is : now ≡ assumed_table tb (take i facts)

module _ (tb facts : List ℕ) (h : Lawful tb) (addable : Addable tb facts) where
  abbrev p : Problem
  p = problem_in tb

  below_all : (n : ℕ) (xs : List ℕ) → T (are_atoms n xs) → All (λ a. a < n) xs
  below_all n [] t = tt
  below_all n (a ∷ xs) t =
      let front = T_left (ltb a n && not (has nat_key xs a)) (are_atoms n xs) t in
      (ltb-true a n (T-true (ltb a n) (T_left (ltb a n) (not (has nat_key xs a)) front)), below_all n xs (T_right (ltb a n && not (has nat_key xs a)) (are_atoms n xs) t))

  below : All (λ a. a < atom_count p.constants p.arities) facts
  below = below_all (atom_count p.constants p.arities) facts addable.atoms

  few : length facts ≤ 64
  few = omega (arith, addable.room)

  pub adding_starts : Adding tb facts 0 tb
  adding_starts = record { within = omega arith; is = sym h.laid ∙ ap layout none }
    where
      none : problem_in tb ≡ assuming (problem_in tb) []
      none = ap (λ (ks : List Clause). record { constants = p.constants; limit = p.limit; arities = p.arities; clauses = ks }) (sym (append-nil p.clauses))

  module _ (i : ℕ) (now : List ℕ) (so : Adding tb facts i now) where
    abbrev q : Problem
    q = assuming p (take i facts)

    q_fits : Fits q
    q_fits =
        let l = length-take-le i facts so.within in
        assuming-Fits p h.fits (take i facts) (append_left (λ a. a < atom_count p.constants p.arities) (take i facts) (drop i facts) (subst (All (λ a. a < atom_count p.constants p.arities)) (sym (take-append-drop i facts)) below)) (omega (arith, addable.room, so.within))

    pub problem_now : problem_in now ≡ assuming p (take i facts)
    problem_now = ap problem_in so.is ∙ tables.problem_back q q_fits

    pub lawful_now : Lawful now
    lawful_now = record { fits = subst Fits (sym problem_now) q_fits; laid = ap layout problem_now ∙ sym so.is }

    pub size_now : length now ≡ length tb
    size_now = table_size now lawful_now ∙ sym (table_size tb h)

    module _ (more : i < length facts) where
      pub room_now : get_or now 2 0 < 64
      room_now =
          let count : get_or now 2 0 ≡ length (p.clauses ++ map (fact_clause p) (take i facts)) = clause_count now lawful_now ∙ ap (λ (r : Problem). length r.clauses) problem_now in
          omega (arith, length-append p.clauses (map (fact_clause p) (take i facts)), length-map (take i facts) (fact_clause p), length-take-le i facts so.within, addable.room)

      pub below_now : get_or facts i 0 < atom_count (problem_in now).constants (problem_in now).arities
      below_now = rw problem_now (all_at (λ a. a < atom_count p.constants p.arities) facts 0 i more below)

      pub fact_small : get_or facts i 0 < 1024
      fact_small = omega (arith, all_at (λ a. a < atom_count p.constants p.arities) facts 0 i more below, h.fits.atoms_fit)

      pub adding_more : (next : List ℕ) → next ≡ layout (with_clause (problem_in now) (fact_clause (problem_in now) (get_or facts i 0))) → Adding tb facts (i + 1) next
      adding_more next e = record { within = omega arith; is = e ∙ ap (λ (r : Problem). layout (with_clause r (fact_clause r (get_or facts i 0)))) problem_now ∙ ap layout longer }
        where
          longer : with_clause (assuming p (take i facts)) (fact_clause p (get_or facts i 0)) ≡ assuming p (take (i + 1) facts)
          longer =
              ap (λ (ks : List Clause). record { constants = p.constants; limit = p.limit; arities = p.arities; clauses = ks })
              (append_assoc p.clauses (map (fact_clause p) (take i facts)) (fact_clause p (get_or facts i 0) ∷ [])
              ∙ ap (λ (ks : List Clause). p.clauses ++ ks) (sym (map-append (fact_clause p) (take i facts) (get_or facts i 0 ∷ [])) ∙ ap (map (fact_clause p)) (sym (take-suc facts i 0 more) ∙ ap (λ (n : ℕ). take n facts) (sym (add-one i)))))

    pub adding_ends : length facts ≤ i → now ≡ assumed_table tb facts
    adding_ends l =
        let e : i ≡ length facts = omega (arith, so.within) in
        let whole : take i facts ≡ facts = ap (λ (n : ℕ). take n facts) e ∙ take-length facts in
        so.is ∙ ap (assumed_table tb) whole

-- the table with all facts is that of a problem that keeps every bound
module _ (tb facts : List ℕ) (h : Lawful tb) (addable : Addable tb facts) where
  all_below : All (λ a. a < atom_count (problem_in tb).constants (problem_in tb).arities) facts
  all_below = below tb facts h addable

  pub longer_fits : Fits (assuming (problem_in tb) facts)
  longer_fits = assuming-Fits (problem_in tb) h.fits facts all_below addable.room

  pub longer_back : problem_in (assumed_table tb facts) ≡ assuming (problem_in tb) facts
  longer_back = tables.problem_back (assuming (problem_in tb) facts) longer_fits

  pub longer_lawful : Lawful (assumed_table tb facts)
  longer_lawful = record { fits = subst Fits (sym longer_back) longer_fits; laid = ap layout longer_back }

-- a table copied over as many zeros
pub table_copied : (tb : List ℕ) → Lawful tb → (ys : List ℕ) → ys ≡ tb ++ drop (length tb) (replicate 4096 0) → ys ≡ tb
table_copied tb h ys e =
    let short : length (replicate {A = ℕ} 4096 0) ≤ length tb = omega (arith, table_size tb h, length-replicate {A = ℕ} 4096 0) in
    e ∙ ap (λ (l : List ℕ). tb ++ l) (drop_of_length-le (replicate 4096 0) short) ∙ append-nil tb

-- the facts added to that copy
module _ (tb facts : List ℕ) (h : Lawful tb) (addable : Addable tb facts) (ys : List ℕ) (copied : ys ≡ tb ++ drop (length tb) (replicate 4096 0)) where
  pub copied_lawful : Lawful ys
  copied_lawful = subst Lawful (sym (table_copied tb h ys copied)) h

  pub copied_addable : Addable ys facts
  copied_addable = subst (λ (t : List ℕ). Addable t facts) (sym (table_copied tb h ys copied)) addable

  module _ (zs : List ℕ) (added : zs ≡ assumed_table ys facts) where
    pub copied_longer : zs ≡ assumed_table tb facts
    copied_longer = added ∙ ap (λ (t : List ℕ). assumed_table t facts) (table_copied tb h ys copied)

    pub copied_longer_lawful : Lawful zs
    copied_longer_lawful = subst Lawful (sym copied_longer) (longer_lawful tb facts h addable)
