use Prim.Native.Nat.{◌-◌}
use native.Mathlib.Omega.{arith}
use lib.ListN.{length}
use Rattle.assuming.proofs.FactLaws.{Adding, adding_starts, lawful_now, size_now, room_now, below_now, fact_small, adding_more, adding_ends}
use Rattle.assuming.proofs.fact.add_facts.Goals as goal

pub add_fact-requires-clause-lawful : goal.add_fact-requires-clause-lawful
add_fact-requires-clause-lawful c = lawful_now _ _ c.requires.lawful c.requires.addable _ _ c.loop-a.invariant

pub add_fact-requires-clause-table_bound : goal.add_fact-requires-clause-table_bound
add_fact-requires-clause-table_bound c =
    let l = c.loop-a in
    (room_now _ _ c.requires.lawful c.requires.addable _ _ l.invariant (omega arith), below_now _ _ c.requires.lawful c.requires.addable _ _ l.invariant (omega arith))

pub loop-a-preserved : goal.loop-a-preserved
loop-a-preserved c =
    let l = c.loop-a in
    adding_more _ _ c.requires.lawful c.requires.addable _ _ l.invariant (omega arith) _ c.add_fact.ensures
