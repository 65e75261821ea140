-- Laws of how far an instance holds: which clauses and values name one, each way out of the call, and what the number says.
use Prim.Native.Nat.{ℕ, zero, suc, ◌+◌, ◌*◌, ◌%◌, ◌≤◌, ◌<◌}
use mathlib.Core.Bool.{Bool, true, false, not, cond, ◌||◌}
use mathlib.Core.List.{List, [], ◌∷◌, map}
use mathlib.Core.Logic.{◌↔◌}
use mathlib.Core.Option.{Option, none, some}
use mathlib.Core.Path.{◌≡◌, refl, sym, ap, subst, ◌∙◌}
use native.Mathlib.Omega.{arith}
use borrow.Author.Tests.{lt-ltb, le-ltb, ltb-true}
use lib.Dec.{T, ltb}
use lib.ListN.{length, take, get_or, length-map}
use lib.Seq.{length-take-le}
use Rattle.lists.specs.Bytes.{is_set}
use Rattle.lists.specs.Member.{All, Any, every, first, lead}
use Rattle.lists.specs.Test.{and-T, T_left, T_right}
use Rattle.lists.proofs.Bytes.{all_at}
use Rattle.lists.proofs.Member.{all_map, every-All, All-every, lead-le, lead-All, All-lead, lead_holds, lead_stops}
use Rattle.lists.proofs.Test.{T-true, T-false, fails}
use Rattle.problem.specs.Problem.{Problem, Fits, ClauseFits, atom_count}
use Rattle.problem.specs.Layout.{problem_in}
use Rattle.problem.specs.Table.{Lawful, is_valid}
use Rattle.problem.proofs.Access.{clauses_in}
use Rattle.ground.specs.Instance.{Instance, InstanceOf, number, no_clause, clause_of, ground_atoms, ground_of}
use Rattle.ground.specs.terms.Placed.{Placed}
use Rattle.ground.proofs.Order.{instances_all}
use Rattle.ground.proofs.Turns.{ClauseKnown, clause_known, numbers_take}
use Rattle.std.specs.Prelude.{Result, Ok, Err}
use Rattle.problem.specs.declared.fault.Fault.{Fault}
use Rattle.problem.specs.declared.fault.Fault.TheVariants.{ShortBuffer, NoTable, BadAnswer, NoInstance}
use Rattle.judging.specs.declared.judge.Judgement.{Judgement}
use Rattle.judging.specs.ModelCheck.{violates, named, check_of, judge_result}
use Rattle.judging.specs.Holding.{holding_of, instance_named, is_named, holding_named, holding_result}
use Rattle.judging.proofs.CheckLaws.{violated_from, violated_to}

-- ---- the values of an instance

-- values below a bound, as a test and as a fact
tested_below : (c : ℕ) (xs : List ℕ) → T (every (λ d. ltb d c) xs) → All (λ d. d < c) xs
tested_below c xs t = all_map (λ d. T (ltb d c)) (λ d. d < c) (λ d p. ltb-true d c (T-true (ltb d c) p)) xs (every-All (λ d. ltb d c) xs t)

below_tested : (c : ℕ) (xs : List ℕ) → All (λ d. d < c) xs → T (every (λ d. ltb d c) xs)
below_tested c xs a = All-every (λ d. ltb d c) xs (all_map (λ d. d < c) (λ d. T (ltb d c)) (λ d l. subst T (sym (lt-ltb d c l)) tt) xs a)

-- a byte keeps each of the first values, if they are below 256
bytes_keep : (xs : List ℕ) (v : ℕ) → All (λ d. d < 256) (take v xs) → take v (map (λ d. d % 256) xs) ≡ take v xs
bytes_keep [] zero a = refl
bytes_keep [] (suc v) a = refl
bytes_keep (x ∷ xs) zero a = refl
bytes_keep (x ∷ xs) (suc v) a = let kept : x % 256 ≡ x = omega (arith, a.0) in rw (kept, bytes_keep xs v a.1)

-- ---- the ways out

module _ (tb : List ℕ) (h : Lawful tb) where
  count_in : get_or tb 2 0 ≡ length (problem_in tb).clauses
  count_in = subst (λ (t : List ℕ). get_or t 2 0 ≡ length (problem_in tb).clauses) h.laid (clauses_in (problem_in tb) h.fits)

  pub few_clauses : get_or tb 2 0 ≤ 64
  few_clauses = omega (arith, count_in, h.fits.clauses_fit)

module _ (tb : List ℕ) (h : Lawful tb) (flags : List ℕ) (k : ℕ) (four : List ℕ) where
  abbrev q : Problem
  q = problem_in tb

  abbrev v : ℕ
  v = (clause_of q k).vars

  abbrev bytes : List ℕ
  bytes = map (λ d. d % 256) four

  pub clause_lacking : get_or tb 2 0 ≤ k → Err NoInstance ≡ holding_named q flags k four
  clause_lacking l = rw (le-ltb k (length q.clauses) (omega (arith, count_in tb h)))

  module _ (less : k < get_or tb 2 0) where
    known : k < length q.clauses
    known = omega (arith, count_in tb h)

    pub clause_there : ClauseKnown tb k
    clause_there = clause_known tb h k known

    -- the first v values by the bytes of the table
    abbrev pub own_test : Bool
    own_test = every (λ d. ltb d (get_or tb 0 0)) (take (get_or tb (144 + 56 * k + 2) 0) four)

    own_is : own_test ≡ every (λ d. ltb d q.constants) (take v four)
    own_is =
        ap (λ (c : ℕ). every (λ d. ltb d c) (take (get_or tb (144 + 56 * k + 2) 0) four)) clause_there.constants
        ∙ ap (λ (w : ℕ). every (λ d. ltb d q.constants) (take w four)) clause_there.variables

    pub value_lacking : own_test ≡ false → Err NoInstance ≡ holding_named q flags k four
    value_lacking e = rw (lt-ltb k (length q.clauses) known, sym own_is ∙ e)

    module _ (long : length four ≡ 4) (wide : 1024 ≤ length flags) (e : own_test ≡ true) where
      own : every (λ d. ltb d q.constants) (take v four) ≡ true
      own = sym own_is ∙ e

      below : All (λ d. d < q.constants) (take v four)
      below = tested_below q.constants (take v four) (subst T (sym own) tt)

      keep : take v bytes ≡ take v four
      keep = bytes_keep four v (all_map (λ d. d < q.constants) (λ d. d < 256) (λ d l. omega (arith, h.fits.constants_fit)) (take v four) below)

      pub bytes-Placed : Placed tb k bytes flags
      bytes-Placed =
          record {
            known = known;
            four = length-map four (λ d. d % 256) ∙ long;
            below = subst (λ (c : ℕ). All (λ d. d < c) (take v bytes)) (sym clause_there.constants) (subst (All (λ d. d < q.constants)) (sym keep) below);
            flagged = omega (arith, h.fits.atoms_fit);
          }

      pub named_held : (n : ℕ) → n ≡ lead (is_set flags) (ground_atoms q bytes (clause_of q k).conds) → Ok n ≡ holding_named q flags k four
      unfolding ground_of
      named_held n s =
          let cs = (clause_of q k).conds in
          let same : ground_atoms q bytes cs ≡ ground_atoms q (take v four) cs =
          sym (numbers_take q.constants q.arities v bytes cs clause_there.fits.conds_fit) ∙ ap (λ (w : List ℕ). ground_atoms q w cs) keep in
          rw (lt-ltb k (length q.clauses) known, own) (ap (λ (m : ℕ). Ok m) (s ∙ ap (lead (is_set flags)) same))

-- ---- what is claimed

module _ (q : Problem) (fits : Fits q) (k : ℕ) (four : List ℕ) where
  abbrev clause_test : Bool
  clause_test = ltb k (length q.clauses)

  abbrev values_test : Bool
  values_test = every (λ d. ltb d q.constants) (take (clause_of q k).vars four)

  named_known : T (is_named q k four) → k < length q.clauses
  named_known t = ltb-true k (length q.clauses) (T-true clause_test (T_left clause_test values_test t))

  named_fits : T (is_named q k four) → ClauseFits q.constants q.arities (clause_of q k)
  named_fits t = all_at (ClauseFits q.constants q.arities) q.clauses no_clause k (named_known t) fits.each_fits

  pub holding_few : (answer : List ℕ) → T (is_named q k four) → holding_of q answer (instance_named q k four) ≤ 4
  unfolding ground_of
  holding_few answer t =
      let values = take (clause_of q k).vars four in
      let cs = (clause_of q k).conds in
      omega (arith, lead-le (is_set answer) (ground_atoms q values cs), length-map cs (number q.constants q.arities values), (named_fits t).few_conds)

  pub instance_is_named : length four ≡ 4 → T (is_named q k four) ↔ Any (λ i. i ≡ instance_named q k four) (ground_of q).instances
  instance_is_named long = (to, from)
    where
      to : T (is_named q k four) → Any (λ i. i ≡ instance_named q k four) (ground_of q).instances
      to t =
          let o : InstanceOf q (instance_named q k four) =
          record {
            known = named_known t;
            each_variable = length-take-le (clause_of q k).vars four (omega (arith, (named_fits t).few_vars));
            constants = tested_below q.constants (take (clause_of q k).vars four) (T_right clause_test values_test t);
          } in
          (instances_all q (instance_named q k four)).1 o

      from : Any (λ i. i ≡ instance_named q k four) (ground_of q).instances → T (is_named q k four)
      from a =
          let o = (instances_all q (instance_named q k four)).0 a in
          and-T clause_test values_test (subst T (sym (lt-ltb k (length q.clauses) o.known)) tt) (below_tested q.constants (take (clause_of q k).vars four) o.constants)

pub past_unseen : (tb answer : List ℕ) (k a b c d e f g h : ℕ)
    → take (clause_of (problem_in (take 4096 tb)) k).vars (a ∷ b ∷ c ∷ d ∷ []) ≡ take (clause_of (problem_in (take 4096 tb)) k).vars (e ∷ f ∷ g ∷ h ∷ [])
    → holding_result tb answer k a b c d ≡ holding_result tb answer k e f g h
unfolding holding_result
past_unseen tb answer k a b c d e f g h s = rw s

module _ (q : Problem) (answer : List ℕ) (i : Instance) where
  pub violated_held : T (violates q answer i) ↔ ((holding_of q answer i ≡ length ((ground_of q).conds i)) × All (λ a. T (not (is_set answer a))) ((ground_of q).alts i))
  violated_held = (
    λ t. let p = violated_from q answer i t in (All-lead (is_set answer) ((ground_of q).conds i) p.0, p.1),
    λ p. violated_to q answer i (lead-All (is_set answer) ((ground_of q).conds i) p.0, p.1),
  )

  pub held_so_far : All (λ a. T (is_set answer a)) (take (holding_of q answer i) ((ground_of q).conds i))
  held_so_far = lead_holds (is_set answer) ((ground_of q).conds i)

  pub gives_out : holding_of q answer i < length ((ground_of q).conds i) → T (not (is_set answer (get_or ((ground_of q).conds i) (holding_of q answer i) 0)))
  gives_out = lead_stops (is_set answer) ((ground_of q).conds i)

-- ---- the call is refused as judging is

module _ (tb answer : List ℕ) (k a b c d : ℕ) where
  abbrev lent : Problem
  lent = problem_in (take 4096 tb)

  abbrev asks : Result ℕ Fault
  asks = holding_named lent answer k (a ∷ b ∷ c ∷ d ∷ [])

  -- by the three tests: too short, valid, and bits
  tests_refuse : (short valid bits : Bool) (judged : Judgement) (e : Fault)
      → ◌≡◌ {A = Result Judgement Fault} (cond short (Err ShortBuffer) (cond valid (cond bits (Ok judged) (Err BadAnswer)) (Err NoTable))) (Err e)
      → cond short (Err ShortBuffer) (cond valid (cond bits asks (Err BadAnswer)) (Err NoTable)) ≡ Err e
  tests_refuse true valid bits judged e p = cc
  tests_refuse false false bits judged e p = cc
  tests_refuse false true false judged e p = cc
  tests_refuse false true true judged e p = cc

  tests_ask : (short valid bits : Bool) (judged : Judgement)
      → ((e : Fault) → ◌≡◌ {A = Result Judgement Fault} (cond short (Err ShortBuffer) (cond valid (cond bits (Ok judged) (Err BadAnswer)) (Err NoTable))) (Err e) → ⊥)
      → cond short (Err ShortBuffer) (cond valid (cond bits asks (Err BadAnswer)) (Err NoTable)) ≡ asks
  tests_ask true valid bits judged taken = absurd (taken ShortBuffer refl)
  tests_ask false false bits judged taken = absurd (taken NoTable refl)
  tests_ask false true false judged taken = absurd (taken BadAnswer refl)
  tests_ask false true true judged taken = refl

  abbrev are_bits : Bool
  are_bits = every (λ n. ltb n 2) (take (atom_count lent.constants lent.arities) answer)

  pub refused_as_judged : (e : Fault) → judge_result tb answer ≡ Err e → holding_result tb answer k a b c d ≡ Err e
  unfolding judge_result holding_result
  refused_as_judged e = tests_refuse (ltb (length tb) 4096 || ltb (length answer) 1024) (is_valid (take 4096 tb)) are_bits (check_of lent answer) e

  asked_as_judged : ((e : Fault) → judge_result tb answer ≡ Err e → ⊥) → holding_result tb answer k a b c d ≡ asks
  unfolding judge_result holding_result
  asked_as_judged = tests_ask (ltb (length tb) 4096 || ltb (length answer) 1024) (is_valid (take 4096 tb)) are_bits (check_of lent answer)

  pub told : ((e : Fault) → judge_result tb answer ≡ Err e → ⊥) → T (is_named lent k (a ∷ b ∷ c ∷ d ∷ []))
      → holding_result tb answer k a b c d ≡ Ok (holding_of lent answer (instance_named lent k (a ∷ b ∷ c ∷ d ∷ [])))
  told judged name = asked_as_judged judged ∙ rw (T-true (is_named lent k (a ∷ b ∷ c ∷ d ∷ [])) name)

  pub lacked : ((e : Fault) → judge_result tb answer ≡ Err e → ⊥) → (T (is_named lent k (a ∷ b ∷ c ∷ d ∷ [])) → ⊥) → holding_result tb answer k a b c d ≡ Err NoInstance
  lacked judged name = asked_as_judged judged ∙ rw (T-false (is_named lent k (a ∷ b ∷ c ∷ d ∷ [])) (fails (is_named lent k (a ∷ b ∷ c ∷ d ∷ [])) name))
