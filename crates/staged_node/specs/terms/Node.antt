-- What the staged engine keeps of a node, and what settling says of it by the table. All facts lie in one store, as in the relevancy engine: atom a true is fact a, atom a
-- marked is fact 1,025 + a, and "false" is the atom A. The log has what is true at the node, and behind it the marks, which are taken out again before an alternative is
-- entered: marking begins afresh at each node.
use Rattle.std.specs.Prelude.{ℕ, ◌+◌, ◌≤◌, false, List, ◌≡◌}
use Rattle.std.proofs.Math.Option.{some}
use Rattle.lists.specs.Bytes.{is_set}
use Rattle.lists.specs.Key.{nat_key}
use Rattle.lists.specs.Member.{All, has, In}
use Rattle.search.specs.Ground.{closed, opened, split}
use Rattle.search.specs.Relevancy.{horn_rules, branches, model_bits}
use Rattle.search.specs.Staged.{find_s}
use Rattle.store.specs.terms.Store.{logged, Leaves}
use Rattle.store.specs.terms.Worked.{Worked}
use Rattle.problem.specs.Layout.{problem_in}
use Rattle.ground.specs.Instance.{Instance, InstanceOf, ground_in}
use Rattle.relevancy_rule.specs.terms.Node.{Facts, Unmarked, TrueOpening, TrueSeeded, TrueStands, TrueHeld, instance_choice, chosen_at}
use Rattle.relevancy_rule.specs.declared.answer.Node.{Node}
use Rattle.relevancy_rule.specs.declared.answer.Node.TheVariants.{Closed as ClosedAt, Open, Split}
use Rattle.staged_node.specs.terms.Stages.{MarksHeld}

-- n facts, of which the first `done` are worked off, and nothing is marked
pub record StagesOpening (tb r : List ℕ) (n done : ℕ) : Type 0 where
  pub opening : TrueOpening tb r n done
  pub unmarked : Unmarked (logged r 2050 n)

-- ---- settling a node whose truths begin with the n facts of a set

-- the m facts are truths, closed under the Horn instances, so that there is nothing to work off
pub record TruthsRest (tb left : List ℕ) (m : ℕ) : Type 0 where
  pub facts : Facts tb left m
  pub worked : Worked (horn_rules (ground_in tb)) (logged left 2050 m) (logged left 2050 m)
  pub unmarked : Unmarked (logged left 2050 m)

-- "false" is true, and nothing is marked
pub record ClosedByStages (tb r : List ℕ) (n m : ℕ) (left : List ℕ) : Type 0 where
  pub leaves : Leaves 2050 r n left m
  pub facts : Facts tb left m
  pub unmarked : Unmarked (logged left 2050 m)
  pub held : (l : List ℕ) → TrueSeeded tb l r n → TrueHeld tb l (logged left 2050 m)
  pub found : (l : List ℕ) → TrueSeeded tb l r n → find_s (ground_in tb) l ≡ closed

-- marking is over and no instance can be split: the set has what is true, and the marks
pub record OpenByStages (tb r : List ℕ) (n m : ℕ) (left : List ℕ) : Type 0 where
  pub leaves : Leaves 2050 r n left m
  pub facts : Facts tb left m
  pub held : (l : List ℕ) → TrueSeeded tb l r n → TrueHeld tb l (logged left 2050 m)
  pub marked : (l : List ℕ) → TrueSeeded tb l r n → MarksHeld tb l (logged left 2050 m)
  pub found : (l : List ℕ) → TrueSeeded tb l r n → find_s (ground_in tb) l ≡ opened (model_bits (ground_in tb).atoms (is_set left) (λ a. is_set left (1025 + a)))

-- an instance is split. The first t facts are the node's own: what is true, none of the alternatives among it. Behind them are the marks where marking ended
pub record SplitByStages (tb r : List ℕ) (n m t k a b c d : ℕ) (left : List ℕ) : Type 0 where
  pub leaves : Leaves 2050 r n left m
  pub facts : Facts tb left m
  pub more : n ≤ t
  pub part : t ≤ m
  pub rests : TruthsRest tb left t
  pub entered : (l : List ℕ) → TrueSeeded tb l r n → All (In nat_key (logged left 2050 t)) l
  pub stands : (l : List ℕ) → TrueSeeded tb l r n → TrueStands tb l left t
  pub held : (l : List ℕ) → TrueSeeded tb l r n → TrueHeld tb l (logged left 2050 m)
  pub marked : (l : List ℕ) → TrueSeeded tb l r n → MarksHeld tb l (logged left 2050 m)
  pub site : Instance
  pub named : instance_choice (some site) ≡ chosen_at k a b c d
  pub listed : InstanceOf (problem_in tb) site
  pub untrue : All (λ x. has nat_key (logged left 2050 t) x ≡ false) (branches ((ground_in tb).alts site))
  pub found : (l : List ℕ) → TrueSeeded tb l r n → find_s (ground_in tb) l ≡ split site (branches ((ground_in tb).alts site))

-- how the node is found, and what it leaves
abbrev pub StagesSettled : List ℕ → List ℕ → ℕ → Node → List ℕ → Type 0
StagesSettled tb r n (ClosedAt m) left = ClosedByStages tb r n m left
StagesSettled tb r n (Open m) left = OpenByStages tb r n m left
StagesSettled tb r n (Split m t k a b c d) left = SplitByStages tb r n m t k a b c d left
