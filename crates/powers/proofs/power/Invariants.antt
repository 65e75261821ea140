use Rattle.std.proofs.Common.{◌≡◌, ◌^◌}
use Rattle.powers.proofs.power.Given as goal

abbrev pub invariant-loop : goal.invariant-loop
invariant-loop l = l.product ≡ l.c ^ l.counter
