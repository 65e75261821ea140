-- Demands 2 and 3 of one part.
use Prim.Native.Nat.{ℕ, ◌≤◌}
use mathlib.Core.Bool.{Bool, true, false, ◌&&◌}
use mathlib.Core.List.{List, [], append-nil}
use mathlib.Core.Path.{◌≡◌, refl, sym, ap, subst, ◌∙◌}
use native.Mathlib.Omega.{arith}
use lib.ListN.{length, take}
use lib.Seq.{take_all}
use Rattle.lists.proofs.Member.{all_map}
use Rattle.search.specs.Ground.{Found}
use Rattle.search.specs.Relevancy.{is_true, is_relevant, find_r}
use Rattle.search.specs.Magic.{Magic, tru, rel, rewriting, holds, find_m}
use Rattle.search.specs.Machine.{Place, entered, trail, outcome}
use Rattle.search.specs.Sound.{SoundFind}
use Rattle.search.specs.Trails.{OneTrail, SameFacts as SameAt}
use Rattle.search.proofs.Theorems.{theorems as walks}
use Rattle.problem.specs.Problem.{Problem, Fits, limit_of}
use Rattle.problem.specs.Print.{text_of}
use Rattle.problem.specs.Layout.{layout, problem_in}
use Rattle.problem.specs.Table.{Valid}
use Rattle.problem.proofs.Theorems.{theorems as tables}
use Rattle.ground.specs.Instance.{Instance, ground_of}
use Rattle.ground.specs.Names.{instance_key}
use Rattle.ground.specs.Verdict.{verdict_of, answer_of}
use Rattle.ground.specs.Walks.{magic}
use Rattle.ground.proofs.Instances.{ground_proper}
use Rattle.judging.specs.Demand2.{Demand2}
use Rattle.judging.proofs.Theorems.{theorems as judgings}
use Rattle.rewriting.specs.RulesLayout.{rules_layout}
use Rattle.rewriting.specs.Facts.{false_in, magic_in, find_in}
use Rattle.rewriting.proofs.RegroupLaws.{find_by_lem, rules_sound, holds_by}
use Rattle.agreement.specs.Claims.{SameFacts}
use Rattle.parting.specs.Runs.{find_by, run_by}
use Rattle.parting.specs.Claims.{PartWalked}

module _ (p : Problem) (f : Fits p) where
  abbrev L : ℕ
  L = limit_of p.limit

  abbrev bs : List ℕ
  bs = rules_layout p

  -- its own table
  whole : take 4096 (layout p) ≡ layout p
  whole = take_all 4096 (layout p) (omega (arith, tables.table_length p f))

  table_back : problem_in (take 4096 (layout p)) ≡ p
  table_back = ap problem_in whole ∙ tables.problem_back p f

  table_valid : Valid (take 4096 (layout p))
  table_valid = record { text = text_of p; problem = p; accepted = (tables.accepted (text_of p) p).1 (f, refl); bytes = sym whole }

  -- ---- demand 2

  pub sound : (by : Bool) → SoundFind (ground_of p) (find_by by p)
  sound true = subst (λ (l : List ℕ). SoundFind (ground_of p) (find_in l)) (append-nil (rules_layout p)) (rules_sound p f [])
  sound false = walks.relevancy_sound (ground_of p) (ground_proper p f)

  demand_2 : (by : Bool) (answer : List ℕ) → 1024 ≤ length answer
      → Demand2 (find_by by p) (ground_of p) (limit_of p.limit) (layout p) (verdict_of (run_by by p)) (answer_of (run_by by p) answer)
  unfolding run_by
  demand_2 by answer wide =
      subst (λ (x : Problem). Demand2 (find_by by p) (ground_of x) L (layout p) (verdict_of (outcome (find_by by p) L)) (answer_of (outcome (find_by by p) L) answer)) table_back
      (judgings.demand_2 (find_by by p) L (layout p) answer (omega (arith, tables.table_length p f)) wide table_valid
      (subst (λ (x : Problem). SoundFind (ground_of x) (find_by by p)) (sym table_back) (sound by)))

  -- ---- demand 3

  one : OneTrail instance_key (ground_of p) (limit_of p.limit)
  one = walks.one_trail instance_key (ground_of p) (limit_of p.limit)

  find_is : find_in (rules_layout p) ≡ find_m instance_key (ground_of p).atoms (rewriting (ground_of p))
  unfolding magic
  find_is = ap find_in (sym (append-nil (rules_layout p))) ∙ find_by_lem p f []

  holds_is : (l : List ℕ) (x : Magic Instance) → holds instance_key (false_in (rules_layout p)) (magic_in (rules_layout p)) l x ≡ holds instance_key (ground_of p).atoms (rewriting (ground_of p)) l x
  holds_is l x = ap (λ (r : List ℕ). holds instance_key (false_in r) (magic_in r) l x) (sym (append-nil (rules_layout p))) ∙ holds_by p f [] l x

  trails : trail (find_in (rules_layout p)) (limit_of p.limit) ≡ trail (find_r (ground_of p)) (limit_of p.limit)
  trails = ap (λ (g : List ℕ → Found Instance). trail g L) find_is ∙ one.trails

  pub outcomes : run_by true p ≡ run_by false p
  unfolding run_by
  outcomes = ap (λ (g : List ℕ → Found Instance). outcome g L) find_is ∙ one.outcomes

  facts_at : (s : Place Instance) → ((x : ℕ) → SameAt instance_key (ground_of p) s x) → (x : ℕ) → SameFacts (layout p) (rules_layout p) s x
  facts_at s same x =
      let l = entered s.path in
      record {
        relevant = holds_is l (rel x) ∙ (same x).relevant ∙ ap (λ (y : Problem). is_relevant (ground_of y) l x) (sym table_back);
        true_relevant = holds_is l (tru x) ∙ (same x).true_relevant ∙ ap (λ (y : Problem). is_true (ground_of y) l x && is_relevant (ground_of y) l x) (sym table_back);
      }

  pub walked : PartWalked p
  walked =
      record {
        fits = f;
        demand_2 = demand_2 false;
        magic_demand_2 = demand_2 true;
        trails = trails;
        facts =
            all_map (λ s. (x : ℕ) → SameAt instance_key (ground_of p) s x) (λ s. (x : ℕ) → SameFacts (layout p) (rules_layout p) s x) facts_at
            (trail (find_r (ground_of p)) (limit_of p.limit)) one.facts;
        outcomes = outcomes;
      }
