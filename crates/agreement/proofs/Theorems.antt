-- The claims of `specs/Claims.antt`, proved: the two walks of a ground problem are one (`search`), and each operation's verdict is that of its own walk.
use Prim.Native.Nat.{ℕ, ◌≤◌}
use mathlib.Core.Bool.{Bool, true, false}
use mathlib.Core.List.{List, []}
use mathlib.Core.Path.{◌≡◌, sym, ap, subst, ◌∙◌}
use lib.ListN.{length, take}
use Rattle.lists.specs.Member.{All}
use Rattle.lists.proofs.Member.{all_map}
use Rattle.search.specs.Ground.{Ground, Proper, Found}
use Rattle.search.specs.Relevancy.{find_r}
use Rattle.search.specs.Magic.{tru, rel, rewriting, find_m}
use Rattle.search.specs.Deepest.{Exact, Bounds}
use Rattle.search.specs.Machine.{Place, Outcome, entered, root, entries, trail, outcome}
use Rattle.search.specs.Session.{Session, first_session}
use Rattle.search.specs.SessionClaims.{OneWalkKept}
use Rattle.search.specs.Trails.{OneTrail, SameFacts as SameAt}
use Rattle.search.proofs.Theorems.{theorems as walks}
use Rattle.problem.specs.Problem.{Problem, limit_of}
use Rattle.problem.specs.Layout.{problem_in}
use Rattle.problem.specs.Table.{Valid}
use Rattle.problem.proofs.Parse.{parse_text}
use Rattle.problem.proofs.Theorems.{theorems as tables}
use Rattle.std.specs.Prelude.{Ok}
use Rattle.reading.specs.Read.{read_result, read_leaves}
use Rattle.reading.proofs.TextRead.{TextRead, text_read, text_fits, table_long, table_valid, table_back}
use Rattle.ground.specs.Instance.{Instance, ground_of}
use Rattle.ground.specs.Names.{instance_key}
use Rattle.ground.specs.Verdict.{verdict_of, answer_of}
use Rattle.ground.proofs.Instances.{ground_proper}
use Rattle.judging.specs.Demand2.{ground_lent, limit_lent, Demand2}
use Rattle.session.specs.Calls.{deepest_told}
use Rattle.relevancy.specs.Engine.{fit_result, fit_deepest, fit_answer}
use Rattle.relevancy.proofs.Theorems as relevancy
use Rattle.rewriting.specs.Facts.{find_in}
use Rattle.magic.specs.Engine.{magic_result, magic_deepest, magic_rules, magic_answer}
use Rattle.magic.proofs.Theorems as magic
use Rattle.agreement.specs.Claims.{BothTaken, SameFacts, OneWalk, TextFitted, Theorems}

-- the ground problem of a table that a text reads to is proper
pub proper : (tb : List ℕ) → Valid (take 4096 tb) → Proper (ground_lent tb)
proper tb valid = ground_proper (problem_in (take 4096 tb)) (tables.lawful (take 4096 tb) valid).fits

-- ---- a call that both operations take

module _ (tb rules answer work₁ work₂ : List ℕ) (taken : BothTaken tb rules answer work₁ work₂) where
  abbrev p : Ground Instance
  p = ground_lent tb

  abbrev bs : List ℕ
  bs = magic_rules tb rules answer work₂

  one : OneTrail instance_key p (limit_lent tb)
  one = walks.one_trail instance_key p (limit_lent tb)

  pub find_is : find_in (magic_rules tb rules answer work₂) ≡ find_m instance_key (ground_lent tb).atoms (rewriting (ground_lent tb))
  find_is = magic.find_is tb rules answer work₂ taken.by_magic

  -- what the rules hold where the facts of the two walks agree
  pub facts_over : (places : List (Place Instance)) → All (λ s. (x : ℕ) → SameAt instance_key (ground_lent tb) s x) places
      → All (λ s. (x : ℕ) → SameFacts tb (magic_rules tb rules answer work₂) s x) places
  facts_over places same =
      let holds_is = magic.holds_is tb rules answer work₂ taken.by_magic in
      all_map
      (λ s. (x : ℕ) → SameAt instance_key p s x)
      (λ s. (x : ℕ) → SameFacts tb bs s x)
      (λ s here x.
      record {
        relevant = holds_is (entered s.path) (rel x) ∙ (here x).relevant;
        true_relevant = holds_is (entered s.path) (tru x) ∙ (here x).true_relevant;
      })
      places
      same

  pub outcomes : outcome (find_in bs) (limit_lent tb) ≡ outcome (find_r p) (limit_lent tb)
  outcomes = ap (λ (f : List ℕ → Found Instance). outcome f (limit_lent tb)) find_is ∙ one.outcomes

  -- a first run by either engine
  first_run : (by : Bool) → OneWalkKept instance_key p by (limit_lent tb) []
  first_run by = walks.one_walk_kept instance_key p (proper tb taken.by_relevancy.valid) by (limit_lent tb) []

  -- each engine's deepest figure is that of the session which the relevancy walk's first run leaves
  figure : fit_deepest tb answer work₁ ≡ (first_session (find_r p) (limit_lent tb)).deepest
  figure = sym ((relevancy.theorems).begun_shows tb answer work₁) ∙ ap deepest_told ((relevancy.theorems).begun_told tb answer work₁ taken.by_relevancy)

  magic_figure : magic_deepest tb rules answer work₂ ≡ (first_session (find_r p) (limit_lent tb)).deepest
  magic_figure =
      sym ((magic.theorems).begun_shows tb rules answer work₂)
      ∙ ap deepest_told ((magic.theorems).begun_told tb rules answer work₂ taken.by_magic)
      ∙ ap (λ (f : List ℕ → Found Instance). (first_session f (limit_lent tb)).deepest) find_is
      ∙ ap (λ (s : Session). s.deepest) (first_run true).session_is

  pub demand_3 : OneWalk tb rules answer work₁ work₂ bs
  demand_3 =
      let verdict₁ = relevancy.verdict_is tb answer work₁ taken.by_relevancy in
      let answer₁ = relevancy.answer_is tb answer work₁ taken.by_relevancy in
      let verdict₂ = magic.verdict_is tb rules answer work₂ taken.by_magic in
      let answer₂ = magic.answer_is tb rules answer work₂ taken.by_magic in
      record {
        trails = ap (λ (f : List ℕ → Found Instance). trail f (limit_lent tb)) find_is ∙ one.trails;
        facts = facts_over (trail (find_r p) (limit_lent tb)) one.facts;
        by_relevancy = verdict₁;
        left_by_relevancy = answer₁;
        by_magic = verdict₂;
        left_by_magic = answer₂;
        verdicts = verdict₂ ∙ ap verdict_of outcomes ∙ sym verdict₁;
        answers = answer₂ ∙ ap (λ (o : Outcome). answer_of o answer) outcomes ∙ sym answer₁;
        deepest_bounds = subst (Bounds p.atoms 0 (trail (find_r p) (limit_lent tb))) (sym figure) ((first_run false).deepest_bounds false);
        deepest_exact = subst (Exact 0 (entries (find_r p) (limit_lent tb) (root (find_r p)))) (sym figure) ((first_run false).deepest_exact false);
        deepests = magic_figure ∙ sym figure;
      }

-- ---- from a text to the verdicts

module _ (x tb rules answer work₁ work₂ : List ℕ) (accepted : read_result x tb ≡ Ok tt)
    (rules_long : 16384 ≤ length rules) (answer_long : 1024 ≤ length answer) (long₁ : 65536 ≤ length work₁) (long₂ : 65536 ≤ length work₂) where
  abbrev left : List ℕ
  left = read_leaves x tb

  t : TextRead x tb
  t = text_read x tb accepted

  both : BothTaken left rules answer work₁ work₂
  both =
      record {
        by_relevancy = record { table_long = table_long x tb t; answer_long = answer_long; work_long = long₁; valid = table_valid x tb t };
        by_magic =
            record { table_long = table_long x tb t; rules_long = rules_long; answer_long = answer_long; work_long = long₂; valid = table_valid x tb t };
      }

  text_to_verdict : TextFitted x left rules answer work₁ work₂
  text_to_verdict =
      record {
        read = record { problem = t.problem; fits = text_fits x tb t; text = parse_text x t.problem t.accepted };
        table = table_back x tb t;
        by_relevancy =
            subst
            (λ (q : Problem). Demand2 (find_r (ground_of q)) (ground_of q) (limit_of q.limit) left (fit_result left answer work₁) (fit_answer left answer work₁))
            (table_back x tb t)
            ((relevancy.theorems).demand_2 left answer work₁ both.by_relevancy);
        by_magic =
            subst
            (λ (q : Problem). Demand2 (find_in (magic_rules left rules answer work₂)) (ground_of q) (limit_of q.limit) left (magic_result left rules answer work₂) (magic_answer left rules answer work₂))
            (table_back x tb t)
            ((magic.theorems).demand_2 left rules answer work₂ both.by_magic);
        one_walk = demand_3 left rules answer work₁ work₂ both;
      }

pub theorems : Theorems
theorems = record { text_to_verdict = text_to_verdict; demand_3 = demand_3 }
