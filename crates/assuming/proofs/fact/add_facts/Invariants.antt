-- The table is that of the problem with the facts passed.
use Prim.Native.Nat.{◌-◌}
use native.Mathlib.Omega.{arith}
use lib.ListN.{length}
use Rattle.assuming.proofs.FactLaws.{Adding, adding_starts, lawful_now, size_now, room_now, below_now, fact_small, adding_more, adding_ends}
use Rattle.assuming.proofs.fact.add_facts.Given as goal

abbrev pub invariant-loop-a : goal.invariant-loop-a
invariant-loop-a l = Adding l.initial.table l.facts l.a-index l.table
