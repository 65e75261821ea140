-- A node just entered is found.
use Prim.Native.Nat.{ℕ, ◌<◌}
use mathlib.Core.List.{List}
use mathlib.Core.Path.{◌≡◌, sym, subst}
use native.Mathlib.Omega.{arith}
use lib.ListN.{length, get_or}
use Rattle.search.specs.Machine.{entered}
use Rattle.store.specs.terms.Store.{logged}
use Rattle.store.proofs.Laws.{store_few}
use Rattle.ground.specs.Instance.{Instance}
use Rattle.rewriting.specs.terms.Ruled.{Ruled}
use Rattle.magic_rule.specs.terms.Node.{HeldOpening, ClosedByRules, OpenByRules, SplitByRules, HeldSettled}
use Rattle.magic_rule.specs.declared.answer.Node.{Node}
use Rattle.magic_rule.proofs.RuledLaws.{rule_read, ruled_few}
use Rattle.walk.specs.terms.Walker.{Site, Walker}
use Rattle.walk.specs.terms.Path.{Room, mark_at, path_in, site_at, Noted}
use Rattle.walk.specs.terms.Place.{Finding}
use Rattle.walk.specs.declared.answer.Found.TheVariants.{Closed as ToldClosed, Open as ToldOpen, Split as ToldSplit}
use Rattle.walk.proofs.PathLaws.{site_back}
use Rattle.walk.proofs.PlaceLaws.{found_here, found_split}
use Rattle.magic_walk.specs.terms.Place.{Splitting, RestedAtSplit, magic_walker, HeldFresh}
use Rattle.magic_walk.specs.SoundLaws.{sound}

-- the settled node, by another name of the answer
pub settled_as : (bs r : List ℕ) (n : ℕ) (x y : Node) (left : List ℕ) → x ≡ y → HeldSettled bs r n x left → HeldSettled bs r n y left
settled_as bs r n x y left e h = subst (λ (z : Node). HeldSettled bs r n z left) e h

-- the rule of a split is one of the buffer's, and its facts are few
pub split_few : (bs : List ℕ) → Ruled bs → (r : List ℕ) (n m q a b c d : ℕ) (left : List ℕ) → SplitByRules bs r n m q a b c d left → (q < 65536) × (m < 65536)
split_few bs h r n m q a b c d left node =
    let named = node.named in
    let same : node.site.rule ≡ q = cc in
    (omega (arith, node.listed.known, ruled_few bs h), omega (arith, store_few node.rests.leaves.store))

module _ (bs : List ℕ) (h : Ruled bs) (facts path : List ℕ) (depth n done from : ℕ) (room : Room path depth) (opening : HeldOpening bs facts n done from) (left_facts : List ℕ)
    (fresh : HeldFresh bs facts path depth n) where
  abbrev w : Walker Instance
  w = magic_walker bs

  abbrev l : List ℕ
  l = entered (path_in w path depth)

  pub node_closed : (m : ℕ) → ClosedByRules bs facts n m left_facts → Finding (magic_walker bs) facts path depth n done (ToldClosed m) left_facts path
  node_closed m node =
      found_here w facts path depth n done (ToldClosed m) left_facts room fresh.kept fresh.named (node.found l fresh.seeded) node.rests.leaves.store (node.held l fresh.seeded)
      (omega (arith, node.rests.leaves.grows, opening.part)) node.rests.leaves.kept

  pub node_open : (m : ℕ) → OpenByRules bs facts n m left_facts → Finding (magic_walker bs) facts path depth n done (ToldOpen m) left_facts path
  node_open m node =
      found_here w facts path depth n done (ToldOpen m) left_facts room fresh.kept fresh.named (node.found l fresh.seeded) node.rests.leaves.store (node.held l fresh.seeded)
      (omega (arith, node.rests.leaves.grows, opening.part)) node.rests.leaves.kept

  -- the node is split, and written down
  module _ (m q a b c d : ℕ) (node : SplitByRules bs facts n m q a b c d left_facts) (left : List ℕ) (size : length left ≡ 9227) (wrote : Noted path depth q a b c d m left) where
    abbrev site : Site
    site = record { number = node.site.rule; values = node.site.values }

    site_is : site_at w left depth ≡ site
    site_is =
        let i = node.site in
        let named = node.named in
        let eq : i.rule ≡ q = cc in
        let ea : get_or i.values 0 0 ≡ a = cc in
        let eb : get_or i.values 1 0 ≡ b = cc in
        let ec : get_or i.values 2 0 ≡ c = cc in
        let ed : get_or i.values 3 0 ≡ d = cc in
        site_back w path left depth q a b c d m site node.listed.valued.count (rule_read bs h i.rule node.listed.known).vars_few eq ea eb ec ed wrote

    splitting : Splitting bs site
    splitting = record { listed = node.listed; several = node.several }

    rests : RestedAtSplit bs site l (logged left_facts 2050 (mark_at left depth))
    rests =
        subst (λ (j : ℕ). RestedAtSplit bs site l (logged left_facts 2050 j)) (sym wrote.mark_is)
        (record { rested = node.passed; following = node.rests.follows l fresh.seeded; untrue = node.untrue })

    pub node_split : Finding (magic_walker bs) facts path depth n done (ToldSplit m) left_facts left
    node_split =
        found_split w (sound bs h) facts path depth n done room fresh.kept fresh.named site splitting (node.found l fresh.seeded)
        left_facts left size wrote.before wrote.deepest_is site_is wrote.next m node.rests.leaves.store
        (omega (arith, wrote.mark_is)) (omega (arith, wrote.mark_is, node.rests.leaves.grows, opening.part)) rests (node.held l fresh.seeded) node.rests.leaves.kept
