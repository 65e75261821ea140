-- The staged engine's walk as one of those that crate `walk` speaks of. What a node's record names is what it names in the relevancy engine's; the node is found otherwise.
use Rattle.std.specs.Prelude.{ℕ, ◌+◌, ◌≤◌, ◌<◌, true, false, List, ◌≡◌}
use Rattle.lists.specs.Key.{nat_key}
use Rattle.lists.specs.Member.{All, has, In}
use Rattle.search.specs.Relevancy.{horn_rules, true_set}
use Rattle.search.specs.Staged.{find_s}
use Rattle.search.specs.Machine.{entered, Genuine}
use Rattle.store.specs.terms.Worked.{Worked}
use Rattle.problem.specs.Layout.{problem_in}
use Rattle.ground.specs.Instance.{Instance, InstanceOf, clause_of, ground_in}
use Rattle.relevancy_rule.specs.terms.Index.{ClausesIndexed}
use Rattle.relevancy_rule.specs.terms.Node.{Unmarked, TrueSeeded, TrueHeld}
use Rattle.staged_node.specs.terms.Chains.{ChainTable}
use Rattle.staged_node.specs.terms.Node.{StagesOpening}
use Rattle.walk.specs.terms.Walker.{Site, Walker}
use Rattle.walk.specs.terms.Path.{Room, path_in}
use Rattle.walk.specs.terms.Place.{NodesNamed}
use Rattle.relevancy_walk.specs.terms.Place.{instance_of, instance_alts}

-- what the functions of a walk are lent beside the table: the table of its chaining clauses, the index of its conditions, and the index of that table's alternatives
abbrev pub StagesLent : List ℕ → List ℕ → List ℕ → List ℕ → Type 0
StagesLent tb horn conds chains = ChainTable tb horn × ClausesIndexed tb false conds × ClausesIndexed horn true chains

-- the facts of a split node: what is true under the entered atoms l, closed under the Horn instances, with none of the alternatives. Nothing is marked
pub record TruthsAtSplit (tb : List ℕ) (s : Site) (l facts : List ℕ) : Type 0 where
  pub kind : All (λ f. f ≤ 1025 + (ground_in tb).atoms) facts
  pub worked : Worked (horn_rules (ground_in tb)) facts facts
  pub holds : All (In nat_key facts) l
  pub stands : (x : ℕ) → x < 1025 → has nat_key facts x ≡ has nat_key (true_set (ground_in tb) l) x
  pub untrue : All (λ a. has nat_key facts a ≡ false) (instance_alts tb s)
  pub unmarked : Unmarked facts

abbrev pub staged_walker : List ℕ → Walker Instance
staged_walker tb =
    record {
      capacity = 2050;
      atoms = (ground_in tb).atoms;
      find = find_s (ground_in tb);
      vars = λ k. (clause_of (problem_in tb) k).vars;
      instance = instance_of;
      alts = instance_alts tb;
      Named = λ s. InstanceOf (problem_in tb) (instance_of s);
      Kept = Genuine (find_s (ground_in tb));
      RestsAt = TruthsAtSplit tb;
      Holds = λ x. TrueHeld tb;
    }

-- a node just entered: n facts of which `done` are worked off, none of them a mark, and they follow from the path's atoms
pub record StagesFresh (tb facts path : List ℕ) (depth n done : ℕ) : Type 0 where
  pub room : Room path depth
  pub kept : (staged_walker tb).Kept (path_in (staged_walker tb) path depth)
  pub named : NodesNamed (staged_walker tb) path depth
  pub opening : StagesOpening tb facts n done
  pub seeded : TrueSeeded tb (entered (path_in (staged_walker tb) path depth)) facts n
