use Prim.Native.Nat.{ℕ, ◌+◌, ◌-◌, ◌≤◌, ◌<◌}
use mathlib.Core.List.{List}
use mathlib.Core.Path.{◌≡◌, sym, ap, ◌∙◌}
use native.Mathlib.Omega.{arith}
use borrow.Author.Rules.{rules}
use lib.ListN.{length, get_or, replicate, length-replicate}
use Rattle.ground.proofs.AtomLaws.{table_size}
use Rattle.parting.specs.terms.Tally.{Running}
use Rattle.parting.proofs.NameLaws.{turns_few}
use Rattle.parting.proofs.TurnLaws.{turns_start, turns_stop, turns_end}
use Rattle.parting.proofs.turns.run_turns.Goals as goal

pub bounds-table-2 : goal.bounds-table-2
bounds-table-2 c = omega (arith, table_size c.args.table.now c.requires.lawful)

pub bounds-table-1 : goal.bounds-table-1
bounds-table-1 c = omega (arith, table_size c.args.table.now c.requires.lawful)

pub overflow_add-turns : goal.overflow_add-turns
overflow_add-turns c = omega (arith, turns_few c.args.table.now c.requires.lawful)

pub loop-i-init : goal.loop-i-init
loop-i-init c = (turns_start c.args.magic c.args.table.now c.requires.lawful c.args.joined.now c.requires.joined_len.0, c.requires.joined_len.1)

pub returns-then-tally-eq0 : goal.returns-then-tally-eq0
returns-then-tally-eq0 c = let u = c.turn-tally in (turns_stop c.args.magic c.args.table.now c.requires.lawful _ (c.loop-i.i + 1) _ _ u.ensures.0 c.if-tally-eq0.true, u.ensures.1)

pub returns : goal.returns
returns c =
    let l = c.loop-i in
    (turns_end c.args.magic c.args.table.now c.requires.lawful l.joined l.i _ _ (omega (arith, c.loop-i-test.false)) l.invariant.0, l.invariant.1)
