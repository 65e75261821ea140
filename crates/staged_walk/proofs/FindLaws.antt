-- A node just entered is found.
use Prim.Native.Nat.{ℕ, ◌<◌}
use mathlib.Core.List.{List}
use mathlib.Core.Path.{◌≡◌, sym, subst}
use native.Mathlib.Omega.{arith}
use lib.ListN.{length}
use Rattle.search.specs.Machine.{entered}
use Rattle.store.specs.terms.Store.{logged}
use Rattle.store.proofs.Laws.{store_few}
use Rattle.problem.specs.Table.{Lawful}
use Rattle.ground.proofs.AtomLaws.{clause_fits}
use Rattle.staged_node.specs.terms.Node.{ClosedByStages, OpenByStages, SplitByStages, StagesSettled}
use Rattle.relevancy_rule.specs.declared.answer.Node.{Node}
use Rattle.relevancy_rule.specs.declared.answer.Node.TheVariants.{Closed, Open, Split}
use Rattle.walk.specs.terms.Walker.{Site}
use Rattle.walk.specs.terms.Path.{mark_at, path_in, site_at, Noted}
use Rattle.walk.specs.terms.Place.{Finding}
use Rattle.walk.specs.declared.answer.Found.{Found as Told}
use Rattle.walk.specs.declared.answer.Found.TheVariants.{Closed as ToldClosed, Open as ToldOpen, Split as ToldSplit}
use Rattle.walk.proofs.PlaceLaws.{found_here, found_split}
use Rattle.relevancy_walk.specs.terms.Place.{NodeTold, OwnFew}
use Rattle.relevancy_walk.proofs.FindLaws.{told_here, site_written}
use Rattle.staged_walk.specs.terms.Place.{TruthsAtSplit, staged_walker, StagesFresh}
use Rattle.staged_walk.specs.SoundLaws.{sound}

module _ (tb : List ℕ) (h : Lawful tb) (facts path : List ℕ) (depth n done : ℕ) (fresh : StagesFresh tb facts path depth n done) (left_facts : List ℕ) where
  abbrev l : List ℕ
  l = entered (path_in (staged_walker tb) path depth)

  node_closed : (m : ℕ) → ClosedByStages tb facts n m left_facts → Finding (staged_walker tb) facts path depth n done (ToldClosed m) left_facts path
  node_closed m node =
      found_here (staged_walker tb) facts path depth n done (ToldClosed m) left_facts fresh.room fresh.kept fresh.named (node.found l fresh.seeded) node.leaves.store
      (node.held l fresh.seeded) (omega (arith, node.leaves.grows, fresh.opening.opening.part)) node.leaves.kept

  node_open : (m : ℕ) → OpenByStages tb facts n m left_facts → Finding (staged_walker tb) facts path depth n done (ToldOpen m) left_facts path
  node_open m node =
      found_here (staged_walker tb) facts path depth n done (ToldOpen m) left_facts fresh.room fresh.kept fresh.named (node.found l fresh.seeded) node.leaves.store
      (node.held l fresh.seeded) (omega (arith, node.leaves.grows, fresh.opening.opening.part)) node.leaves.kept

  -- the node is split, and written down
  module _ (m t k a b c d : ℕ) (node : SplitByStages tb facts n m t k a b c d left_facts) where
    few_facts : t < 65536
    few_facts = omega (arith, node.part, store_few node.leaves.store)

    abbrev site : Site
    site = record { number = node.site.clause; values = node.site.values }

    module _ (left : List ℕ) (size : length left ≡ 9227) (wrote : Noted path depth k a b c d t left) where
      site_is : site_at (staged_walker tb) left depth ≡ site
      site_is =
          site_written (staged_walker tb) node.site path left depth k a b c d t node.listed.each_variable
          (clause_fits tb h node.site.clause node.listed.known).few_vars node.named wrote

      rests : TruthsAtSplit tb site l (logged left_facts 2050 (mark_at left depth))
      rests =
          subst (λ (j : ℕ). TruthsAtSplit tb site l (logged left_facts 2050 j)) (sym wrote.mark_is)
          (record {
            kind = node.rests.facts;
            worked = node.rests.worked;
            holds = node.entered l fresh.seeded;
            stands = node.stands l fresh.seeded;
            untrue = node.untrue;
            unmarked = node.rests.unmarked;
          })

      node_split : Finding (staged_walker tb) facts path depth n done (ToldSplit m) left_facts left
      node_split =
          found_split (staged_walker tb) (sound tb h) facts path depth n done fresh.room fresh.kept fresh.named site node.listed (node.found l fresh.seeded)
          left_facts left size wrote.before wrote.deepest_is site_is wrote.next m node.leaves.store
          (omega (arith, wrote.mark_is, node.part)) (omega (arith, wrote.mark_is, node.more, fresh.opening.opening.part)) rests (node.held l fresh.seeded) node.leaves.kept

  -- there is room for the number of its own facts
  pub own_few : (node : Node) → StagesSettled tb facts n node left_facts → OwnFew node
  own_few (Closed m) x = tt
  own_few (Open m) x = tt
  own_few (Split m t k a b c d) x = few_facts m t k a b c d x

  -- the node is told as it was settled
  pub node-Told : (node : Node) → StagesSettled tb facts n node left_facts → (x : Told) (left : List ℕ) → length left ≡ 9227 → NodeTold node path depth x left
      → Finding (staged_walker tb) facts path depth n done x left_facts left
  node-Told (Closed m) node x left size told = told_here (staged_walker tb) facts path depth n done left_facts (ToldClosed m) x left (node_closed m node) told.0 told.1
  node-Told (Open m) node x left size told = told_here (staged_walker tb) facts path depth n done left_facts (ToldOpen m) x left (node_open m node) told.0 told.1
  node-Told (Split m t k a b c d) node x left size told =
      subst (λ (y : Told). Finding (staged_walker tb) facts path depth n done y left_facts left) (sym told.0) (node_split m t k a b c d node left size told.1)
