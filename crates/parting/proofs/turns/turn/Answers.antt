use Prim.Native.Nat.{ℕ, ◌+◌, ◌≤◌, ◌<◌}
use mathlib.Core.List.{List}
use mathlib.Core.Path.{◌≡◌, sym, ap, ◌∙◌}
use native.Mathlib.Omega.{arith}
use borrow.Author.Rules.{rules}
use lib.ListN.{length, replicate, length-replicate}
use Rattle.parting.proofs.NameLaws.{turns_few}
use Rattle.parting.proofs.TurnLaws.{turn_skipped, turn_run}
use Rattle.parting.proofs.turns.turn.Goals as goal

pub returns-then-x : goal.returns-then-x
returns-then-x c =
    let a = c.args in (
      turn_skipped a.magic a.table.now c.requires.lawful a.joined.now a.i a.tally.verdict a.tally.count c.requires.running c.requires.labels_value.1 (sym c.name_at-x.ensures ∙ c.if-x.true),
      c.requires.marked.1,
    )

pub counted-requires : goal.counted-requires
counted-requires c = omega (arith, c.requires.running.small, c.requires.labels_value.1, turns_few c.args.table.now c.requires.lawful)

pub returns : goal.returns
returns c =
    let a = c.args in
    let u = c.run_part-verdict in (
      turn_run a.magic a.table.now c.requires.lawful a.joined.now a.i a.tally.verdict a.tally.count c.requires.running c.requires.labels_value.1
          a.marks.now c.requires.marked.0 c.name_at-x.result c.name_at-x.ensures c.if-x.false u.result u.ensures.0 _ u.ensures.1 _ _ c.counted.ensures,
      u.ensures.2,
    )
