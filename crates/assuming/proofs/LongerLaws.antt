-- The rules of a problem with facts are those of the problem, and more: so the first run's rules lie under the second's. What the magic engine's runs leave.
use Prim.Native.Nat.{ℕ, zero, suc, ◌+◌, ◌≤◌, ◌<◌}
use mathlib.Core.Bool.{true, false}
use mathlib.Core.List.{List, [], ◌∷◌, ◌++◌, map, flat_map}
use mathlib.Core.Path.{◌≡◌, refl, sym, ap, ap₂, subst, ◌∙◌}
use native.Mathlib.Omega.{arith}
use lib.Dec.{T}
use lib.ListN.{length, drop, length-append, length-map, get_or-append}
use Rattle.lists.specs.Tabulate.{tabulate}
use Rattle.lists.proofs.Member.{flat_append, flat_snoc}
use Rattle.lists.proofs.Tabulate.{tabulate-add}
use Rattle.search.specs.Machine.{Outcome, Satisfied, Refuted, Exhausted}
use Rattle.problem.specs.Problem.{Problem, Fits, limit_of}
use Rattle.problem.specs.Layout.{problem_in}
use Rattle.problem.specs.Table.{Lawful}
use Rattle.ground.specs.declared.verdict.Verdict.{Verdict}
use Rattle.ground.specs.Instance.{no_clause, clause_of}
use Rattle.ground.specs.Verdict.{verdict_of}
use Rattle.rewriting.specs.Rules.{MagicClause, clause_rules, rewriting_of}
use Rattle.rewriting.specs.RulesLayout.{rules_layout}
use Rattle.rewriting.proofs.Theorems.{theorems as rewritings}
use Rattle.rewriting.specs.Rewrite.{rules_over}
use Rattle.magic.specs.Engine.{rules_outcome, magic_outcome}
use Rattle.assuming.specs.declared.assume.Assumed.TheVariants as assumed
use Rattle.assuming.specs.declared.assume.Counted.{Counted}
use Rattle.assuming.specs.Assume.{fact_clause, assuming, assumed_table, runs}
use Rattle.assuming.specs.Engines.{rules_after}
use Rattle.assuming.specs.terms.Made.{Addable, is_refuted, said_by, MagicMade}
use Rattle.assuming.proofs.FactLaws.{longer_fits, longer_back}
use Rattle.assuming.proofs.RunLaws.{count, made_once, made_twice}

flat_below : {B : Type 0} (f g : ℕ → List B) (n : ℕ) → ((k : ℕ) → k < n → f k ≡ g k) → flat_map f (tabulate (λ k. k) n) ≡ flat_map g (tabulate (λ k. k) n)
unfolding flat_map
flat_below f g zero h = refl
flat_below f g (suc n) h =
    flat_snoc f (tabulate (λ k. k) n) n
    ∙ ap₂ ◌++◌ (flat_below f g n (λ k l. h k (omega arith))) (h n (omega arith))
    ∙ sym (flat_snoc g (tabulate (λ k. k) n) n)

module _ (q : Problem) (facts : List ℕ) where
  clause_kept : (k : ℕ) → k < length q.clauses → clause_of (assuming q facts) k ≡ clause_of q k
  clause_kept k l = get_or-append q.clauses (map (fact_clause q) facts) no_clause k l

  rules_more : length (rewriting_of q) ≤ length (rewriting_of (assuming q facts))
  unfolding rewriting_of
  rules_more =
      let n = length q.clauses in
      let f : ℕ → List MagicClause = λ k. clause_rules k (clause_of (assuming q facts) k) in
      let rest = flat_map f (tabulate (λ i. n + i) (length facts)) in
      let count : length (q.clauses ++ map (fact_clause q) facts) ≡ n + length facts = length-append q.clauses (map (fact_clause q) facts) ∙ ap (λ (m : ℕ). n + m) (length-map facts (fact_clause q)) in
      let whole : flat_map f (tabulate (λ k. k) (length (q.clauses ++ map (fact_clause q) facts))) ≡ flat_map (λ k. clause_rules k (clause_of q k)) (tabulate (λ k. k) n) ++ rest =
      ap (λ (m : ℕ). flat_map f (tabulate (λ k. k) m)) count
      ∙ ap (flat_map f) (tabulate-add (λ k. k) n (length facts))
      ∙ flat_append f (tabulate (λ k. k) n) (tabulate (λ i. n + i) (length facts))
      ∙ ap (λ (l : List MagicClause). l ++ rest) (flat_below f (λ k. clause_rules k (clause_of q k)) n (λ k l. ap (clause_rules k) (clause_kept k l))) in
      omega (arith, ap length whole, length-append (flat_map (λ k. clause_rules k (clause_of q k)) (tabulate (λ k. k) n)) rest)

  pub rules_longer : Fits q → Fits (assuming q facts) → length (rules_layout q) ≤ length (rules_layout (assuming q facts))
  rules_longer f g = omega (arith, rewritings.rules_length q f, rewritings.rules_length (assuming q facts) g, rules_more)

-- bytes written over the front are gone where more is dropped
pub drop_past : (xs bs : List ℕ) (n : ℕ) → length xs ≤ n → length xs ≤ length bs → drop n (xs ++ drop (length xs) bs) ≡ drop n bs
drop_past [] bs n l m = refl
drop_past (x ∷ xs) bs zero l m = absurd (omega arith)
drop_past (x ∷ xs) [] (suc n) l m = absurd (omega arith)
drop_past (x ∷ xs) (b ∷ bs) (suc n) l m = drop_past xs bs n (omega arith) (omega arith)

-- the rules of the longer table over those of the table are over what was there
pub over_twice : (tb facts rules : List ℕ) → Lawful tb → Addable tb facts → length rules ≡ 16384 → rules_over (assumed_table tb facts) (rules_over tb rules) ≡ rules_over (assumed_table tb facts) rules
over_twice tb facts rules h addable size =
    let q = problem_in tb in
    let more : length (rules_layout q) ≤ length (rules_layout (problem_in (assumed_table tb facts))) = rw (longer_back tb facts h addable) (rules_longer q facts h.fits (longer_fits tb facts h addable)) in
    let room : length (rules_layout q) ≤ length rules = omega (arith, rewritings.rules_length q h.fits, rewritings.rules_count q h.fits) in
    ap (λ (l : List ℕ). rules_layout (problem_in (assumed_table tb facts)) ++ l) (drop_past (rules_layout q) rules (length (rules_layout (problem_in (assumed_table tb facts)))) more room)

-- ---- the magic engine's runs

-- the rules left after a first none, and after two runs
after_once : (tb facts rules : List ℕ) (o p : Outcome) → is_refuted (verdict_of o) ≡ true → rules_over tb rules ≡ rules_after (runs o p) tb facts rules
after_once tb facts rules (Refuted n) p e = refl
after_once tb facts rules (Satisfied n bits) p e = absurd (subst T (sym e) tt)
after_once tb facts rules (Exhausted n) p e = absurd (subst T (sym e) tt)

after_twice : (tb facts rules : List ℕ) (o p : Outcome) → is_refuted (verdict_of o) ≡ false → rules_over (assumed_table tb facts) rules ≡ rules_after (runs o p) tb facts rules
after_twice tb facts rules (Refuted n) p e = absurd (subst T e tt)
after_twice tb facts rules (Satisfied n bits) p e = refl
after_twice tb facts rules (Exhausted n) p e = refl

-- a first run has this verdict and leaves these rules
module _ (tb facts rules : List ℕ) (v : Verdict) (first : v ≡ verdict_of (magic_outcome tb rules)) (left : List ℕ) (first_left : left ≡ rules_over tb rules) (c : Counted) (first_count : c.first ≡ count v) where
  abbrev one : Outcome
  one = magic_outcome tb rules

  abbrev two : Outcome
  two = magic_outcome (assumed_table tb facts) rules

  pub magic_once : is_refuted v ≡ true → c.assumed ≡ assumed.Always → c.second ≡ 0 → MagicMade tb facts rules c left
  magic_once t said none =
      record { made = made_once one two v first c first_count t said none; left_rules = first_left ∙ after_once tb facts rules one two (sym (ap is_refuted first) ∙ t) }

  -- the second runs on the longer table, over what the first left
  module _ (h : Lawful tb) (addable : Addable tb facts) (size : length rules ≡ 16384) (longer : List ℕ) (same : longer ≡ assumed_table tb facts) where
    over_longer : rules_over longer left ≡ rules_over (assumed_table tb facts) rules
    over_longer = ap₂ rules_over same first_left ∙ over_twice tb facts rules h addable size

    outcome_longer : magic_outcome longer left ≡ two
    outcome_longer = ap₂ rules_outcome over_longer (ap (λ (t : List ℕ). limit_of (problem_in t).limit) same)

    pub magic_twice : is_refuted v ≡ false → (w : Verdict) → w ≡ verdict_of (magic_outcome longer left) → (last : List ℕ) → last ≡ rules_over longer left
        → c.assumed ≡ said_by v w → c.second ≡ count w → MagicMade tb facts rules c last
    magic_twice t w second last second_left said counted =
        record {
          made = made_twice one two v first c first_count t w (second ∙ ap verdict_of outcome_longer) said counted;
          left_rules = second_left ∙ over_longer ∙ after_twice tb facts rules one two (sym (ap is_refuted first) ∙ t);
        }
