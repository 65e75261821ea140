-- The relevancy engine's walk as one of those that crate `walk` speaks of: what a node's record names, what is held at a place, and a node just entered.
use Rattle.std.specs.Prelude.{ℕ, ◌+◌, ◌≤◌, ◌<◌, false, List, ◌≡◌}
use Rattle.lists.specs.Key.{nat_key}
use Rattle.lists.specs.Member.{All, has, In}
use Rattle.search.specs.Relevancy.{horn_rules, true_set, branches, find_r}
use Rattle.search.specs.Machine.{entered, Genuine}
use Rattle.store.specs.terms.Worked.{Worked}
use Rattle.problem.specs.Layout.{problem_in}
use Rattle.ground.specs.Instance.{Instance, InstanceOf, clause_of, ground_in}
use Rattle.relevancy_rule.specs.terms.Node.{RootMarked, TrueOpening, TrueSeeded, TrueHeld, RelevantHeld, RootHeld}
use Rattle.relevancy_rule.specs.declared.answer.Node.{Node}
use Rattle.relevancy_rule.specs.declared.answer.Node.TheVariants.{Closed as NodeClosed, Open as NodeOpen, Split as NodeSplit}
use Rattle.walk.specs.terms.Walker.{Site, Walker}
use Rattle.walk.specs.terms.Path.{Room, path_in, Noted}
use Rattle.walk.specs.terms.Place.{NodesNamed}
use Rattle.walk.specs.declared.answer.Found.{Found as Told}
use Rattle.walk.specs.declared.answer.Found.TheVariants.{Closed, Open, Split}

-- a node's record names a clause
abbrev pub instance_of : Site → Instance
instance_of s = record { clause = s.number; values = s.values }

abbrev pub instance_alts : List ℕ → Site → List ℕ
instance_alts tb s = branches ((ground_in tb).alts (instance_of s))

-- the facts of a split node: what is true under the entered atoms l, closed under the Horn instances, with none of the alternatives, and what is relevant at the root
pub record TrueAtSplit (tb : List ℕ) (s : Site) (l facts : List ℕ) : Type 0 where
  pub kind : All (λ f. f ≤ 1025 + (ground_in tb).atoms) facts
  pub worked : Worked (horn_rules (ground_in tb)) facts facts
  pub holds : All (In nat_key facts) l
  pub stands : (x : ℕ) → x < 1025 → has nat_key facts x ≡ has nat_key (true_set (ground_in tb) l) x
  pub untrue : All (λ a. has nat_key facts a ≡ false) (instance_alts tb s)
  pub marked : RootMarked tb facts

-- what is held at a place: truth, and what is relevant unless the place is closed, where nothing is marked but what is relevant at the root
abbrev pub HeldIn : List ℕ → Told → List ℕ → List ℕ → Type 0
HeldIn tb (Closed n) l facts = TrueHeld tb l facts × RootHeld tb facts
HeldIn tb (Open n) l facts = TrueHeld tb l facts × RelevantHeld tb l facts
HeldIn tb (Split n) l facts = TrueHeld tb l facts × RelevantHeld tb l facts

abbrev pub relevancy_walker : List ℕ → Walker Instance
relevancy_walker tb =
    record {
      capacity = 2050;
      atoms = (ground_in tb).atoms;
      find = find_r (ground_in tb);
      vars = λ k. (clause_of (problem_in tb) k).vars;
      instance = instance_of;
      alts = instance_alts tb;
      Named = λ s. InstanceOf (problem_in tb) (instance_of s);
      Kept = Genuine (find_r (ground_in tb));
      RestsAt = TrueAtSplit tb;
      Holds = HeldIn tb;
    }

-- a node just entered: n facts of which `done` are worked off, and the truths among them are those that follow from the path's atoms
pub record TrueFresh (tb facts path : List ℕ) (depth n done : ℕ) : Type 0 where
  pub room : Room path depth
  pub kept : (relevancy_walker tb).Kept (path_in (relevancy_walker tb) path depth)
  pub named : NodesNamed (relevancy_walker tb) path depth
  pub opening : TrueOpening tb facts n done
  pub seeded : TrueSeeded tb (entered (path_in (relevancy_walker tb) path depth)) facts n

-- how a settled node is told: a split is written down in the path's record at its depth, with the facts of its own
abbrev pub NodeTold : Node → List ℕ → ℕ → Told → List ℕ → Type 0
NodeTold (NodeClosed m) path depth x left = (x ≡ Closed m) × (left ≡ path)
NodeTold (NodeOpen m) path depth x left = (x ≡ Open m) × (left ≡ path)
NodeTold (NodeSplit m t k a b c d) path depth x left = (x ≡ Split m) × Noted path depth k a b c d t left

-- and there is room for its number of facts
abbrev pub OwnFew : Node → Type 0
OwnFew (NodeClosed m) = Unit
OwnFew (NodeOpen m) = Unit
OwnFew (NodeSplit m t k a b c d) = t < 65536
