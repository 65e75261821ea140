use mathlib.Core.Path.{sym, ap, ◌∙◌}
use native.Mathlib.Omega.{arith}
use lib.ListN.{length}
use lib.Seq.{length-take-le}
use Rattle.walk.proofs.WalkLaws.{cleared_store}
use Rattle.staged_node.proofs.ChainRules.{horn-Lawful}
use Rattle.staged.proofs.whole.walk_whole.Goals as goal

pub build-chains-requires : goal.build-chains-requires
build-chains-requires c = let t = c.chain_table in horn-Lawful c.args.table.now c.requires.lawful t.new.horn t.ensures

-- the flags come first, and they alone are lent to be made zero
pub slice_bounds-zero-end-2 : goal.slice_bounds-zero-end-2
slice_bounds-zero-end-2 c = sym (length-take-le 2050 c.args.facts.now (omega (arith, c.requires.facts_len.0)))

pub root-found-requires-clause-store : goal.root-found-requires-clause-store
root-found-requires-clause-store c =
    let z = c.zero in
    (cleared_store 2050 c.args.facts.now z.new.dst c.requires.facts_len.0 z.ensures, record { size = ap length c.requires.facts_len.1; deep = omega arith })
