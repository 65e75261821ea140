-- The steps of the model check's loops, over plain numbers and lists.
use Prim.Native.Nat.{ℕ, ◌+◌, ◌*◌, ◌^◌, ◌≤◌, ◌<◌}
use mathlib.Core.Bool.{Bool, true, false, not, cond, ◌&&◌, ◌||◌}
use mathlib.Core.List.{List}
use mathlib.Core.Option.{Option, none, some}
use mathlib.Core.Path.{◌≡◌, refl, sym, ap, subst, ◌∙◌}
use native.Mathlib.Numerals.{add-one}
use native.Mathlib.Omega.{arith}
use borrow.Author.Tests.{lt-ltb, le-ltb, ltb-false, eq-eqb, ne_eqb}
use lib.Dec.{eqb, ltb}
use lib.ListN.{length, take, drop, get_or, length-map, drop_of_length-le}
use lib.Seq.{length-take-le, drop-cons, get_or-take}
use Rattle.lists.specs.Member.{every, first, lead}
use Rattle.problem.specs.Problem.{Problem, ClauseFits, atom_count}
use Rattle.problem.specs.Layout.{problem_in}
use Rattle.problem.specs.Table.{is_valid}
use Rattle.problem.proofs.Theorems.{valid_table}
use Rattle.judging.specs.declared.judge.Judgement.TheVariants.{Model as IsModel, Violated}
use Rattle.ground.specs.Instance.{Instance, number, clause_of, instances_of, ground_atoms}
use Rattle.lists.specs.Bytes.{is_set}
use Rattle.lists.proofs.Member.{lead-le}
use Rattle.std.specs.Prelude.{Result, Ok, Err}
use Rattle.problem.specs.declared.fault.Fault.{Fault}
use Rattle.problem.specs.declared.fault.Fault.TheVariants.{ShortBuffer, NoTable, BadAnswer}
use Rattle.writing.specs.terms.Lent.{taken_of}
use Rattle.writing.proofs.LentLaws.{Taken, taken_by, fault_says, ok_says}
use Rattle.judging.specs.ModelCheck.{violated_by, violates, named, clause_check, check_of, judgeable}
use Rattle.ground.proofs.Turns.{numbers_take, Turn, Undecided, instance, turn_value, turn_stops, turn_ends, clauses_on, clauses_stop, clauses_end}
use Rattle.ground.proofs.AtomLaws.{atoms_bytes}
use Rattle.judging.proofs.CheckLaws.{named-Violated}

-- ---- an instance

module _ (q : Problem) (flags : List ℕ) (k : ℕ) (values : List ℕ) where
  abbrev held : ℕ
  held = lead (is_set flags) (ground_atoms q values (clause_of q k).conds)

  pub violated_short : (r n : ℕ) → r ≡ held → n ≡ length (clause_of q k).conds → (r ≡ n → ⊥) → eqb r n ≡ violated_by q flags k values
  violated_short r n e l h = rw (← e, ← l, ne_eqb r n h)

  pub violated_rest : (r n : ℕ) → r ≡ held → n ≡ length (clause_of q k).conds → r ≡ n
      → (b : Bool) → b ≡ every (λ a. not (is_set flags a)) (ground_atoms q values (clause_of q k).alts) → b ≡ violated_by q flags k values
  violated_rest r n e l h b f = rw (← e, ← l, eq-eqb r n h) f

-- the instance of a turn is violated exactly if what the values give is
module _ (q : Problem) (flags : List ℕ) (k : ℕ) (fits : ClauseFits q.constants q.arities (clause_of q k)) (values : List ℕ) where
  abbrev v : ℕ
  v = (clause_of q k).vars

  pub violated_same : violates q flags (instance k (take v values)) ≡ violated_by q flags k values
  violated_same =
      rw
      (numbers_take q.constants q.arities v values (clause_of q k).conds fits.conds_fit, numbers_take q.constants q.arities v values (clause_of q k).alts fits.alts_fit)

  module _ (i : ℕ) (t : Turn q (violates q flags) k values i) where
    pub clause_violated : i < q.constants ^ v → (b : Bool) → b ≡ violated_by q flags k values → b ≡ true
        → clause_check q flags k ≡ Violated k (get_or values 0 0) (get_or values 1 0) (get_or values 2 0) (get_or values 3 0)
    unfolding clause_check
    clause_violated h b e f =
        let value = turn_value q (violates q flags) k fits values i t in
        ap named (turn_stops q (violates q flags) k fits values i t h (violated_same ∙ sym e ∙ f)) ∙ rw (← value 0, ← value 1, ← value 2, ← value 3)

    pub clause_model : q.constants ^ v ≤ i → clause_check q flags k ≡ IsModel
    unfolding clause_check
    clause_model h = ap named (turn_ends q (violates q flags) k fits values i t h)

-- ---- the clauses

module _ (q : Problem) (flags : List ℕ) where
  module _ (k : ℕ) (h : k < length q.clauses) (u : Undecided q (violates q flags) k) where
    pub check_on : ((j a b c d : ℕ) → clause_check q flags k ≡ Violated j a b c d → ⊥) → Undecided q (violates q flags) (k + 1)
    unfolding clause_check
    check_on n = clauses_on q (violates q flags) k h u (go (first (violates q flags) (instances_of q k)) refl)
      where
        go : (o : Option Instance) → first (violates q flags) (instances_of q k) ≡ o → first (violates q flags) (instances_of q k) ≡ none
        go none e = e
        go (some i) e = absurd (n i.clause (get_or i.values 0 0) (get_or i.values 1 0) (get_or i.values 2 0) (get_or i.values 3 0) (ap named e))

    pub check_stop : (j a b c d : ℕ) → clause_check q flags k ≡ Violated j a b c d → check_of q flags ≡ Violated j a b c d
    unfolding clause_check check_of
    check_stop j a b c d e =
        let n = named-Violated (first (violates q flags) (instances_of q k)) j a b c d e in
        ap named (clauses_stop q (violates q flags) k h u n.found n.some_found) ∙ sym (ap named n.some_found) ∙ e

  pub check_end : (k : ℕ) → length q.clauses ≤ k → Undecided q (violates q flags) k → check_of q flags ≡ IsModel
  unfolding check_of
  check_end k h u = ap named (clauses_end q (violates q flags) k h u)

-- ---- a lent table and answer: one law for each way out

module _ (tb answer : List ℕ) where
  abbrev A : ℕ
  A = atom_count (problem_in (take 4096 tb)).constants (problem_in (take 4096 tb)).arities

  abbrev short : Bool
  short = ltb (length answer) 1024

  abbrev bits : Bool
  bits = every (λ b. ltb b 2) (take A answer)

  -- taken, or the refusal
  abbrev pub judged_by : Result (Unit {0}) Fault
  judged_by = judgeable tb answer Err (λ q. Ok tt)

  pub unjudged_lent : {e : Fault} → taken_of tb short ≡ Err e → Err e ≡ judged_by
  unjudged_lent q = fault_says tb short Err (cond bits (Ok tt) (Err BadAnswer)) q

  -- n is the number of answer bytes that count
  module _ {u : Unit {0}} (q : taken_of tb short ≡ Ok u) (n : ℕ) (count : n ≡ get_or tb 8 0 + 256 * get_or tb 9 0) where
    lent : Taken tb short
    lent = taken_by tb short q

    all_atoms : n ≡ A
    all_atoms =
        count ∙ rw (← get_or-take 4096 tb 8 0 (omega arith), ← get_or-take 4096 tb 9 0 (omega arith)) (atoms_bytes (take 4096 tb) (valid_table (take 4096 tb) lent.valid))

    pub bits_room : n ≤ length answer
    bits_room = omega (arith, all_atoms, (valid_table (take 4096 tb) lent.valid).fits.atoms_fit, ltb-false (length answer) 1024 lent.room)

    pub judged_bits : (b : Bool) → every (λ x. ltb x 2) (take n answer) ≡ b → cond b (Ok tt) (Err BadAnswer) ≡ judged_by
    judged_bits b w =
        ap (λ (x : Bool). cond {A = Result (Unit {0}) Fault} x (Ok tt) (Err BadAnswer)) (sym w ∙ ap (λ (m : ℕ). every (λ x. ltb x 2) (take m answer)) all_atoms)
        ∙ ok_says tb short Err (cond bits (Ok tt) (Err BadAnswer)) q

  -- what is said of a refusal, and what is known where there is none
  pub unjudged_says : {R : Type 0} (f : Fault → R) (g : Problem → R) {e : Fault} → judged_by ≡ Err e → f e ≡ judgeable tb answer f g
  unjudged_says {R} f g {e} = go (ltb (length tb) 4096 || short) (is_valid (take 4096 tb)) bits
    where
      go : (a b c : Bool) → ◌≡◌ {A = Result (Unit {0}) Fault} (cond a (Err ShortBuffer) (cond b (cond c (Ok tt) (Err BadAnswer)) (Err NoTable))) (Err e)
          → f e ≡ cond a (f ShortBuffer) (cond b (cond c (g (problem_in (take 4096 tb))) (f BadAnswer)) (f NoTable))
      go true b c q = cc
      go false true true q = cc
      go false true false q = cc
      go false false c q = cc

  module _ {u : Unit {0}} (q : judged_by ≡ Ok u) where
    pub judged_says : {R : Type 0} (f : Fault → R) (g : Problem → R) → g (problem_in (take 4096 tb)) ≡ judgeable tb answer f g
    judged_says {R} f g = go (ltb (length tb) 4096 || short) (is_valid (take 4096 tb)) bits q
      where
        go : (a b c : Bool) → ◌≡◌ {A = Result (Unit {0}) Fault} (cond a (Err ShortBuffer) (cond b (cond c (Ok tt) (Err BadAnswer)) (Err NoTable))) (Ok u)
            → g (problem_in (take 4096 tb)) ≡ cond a (f ShortBuffer) (cond b (cond c (g (problem_in (take 4096 tb))) (f BadAnswer)) (f NoTable))
        go true b c n = cc
        go false true true n = refl
        go false true false n = cc
        go false false c n = cc

    pub judged_good : Taken tb short
    unfolding taken_of
    judged_good = taken_by tb short (go (ltb (length tb) 4096 || short) (is_valid (take 4096 tb)) bits q)
      where
        go : (a b c : Bool) → ◌≡◌ {A = Result (Unit {0}) Fault} (cond a (Err ShortBuffer) (cond b (cond c (Ok tt) (Err BadAnswer)) (Err NoTable))) (Ok u)
            → ◌≡◌ {A = Result (Unit {0}) Fault} (cond a (Err ShortBuffer) (cond b (Ok tt) (Err NoTable))) (Ok u)
        go true b c n = cc
        go false true c n = refl
        go false false c n = cc
