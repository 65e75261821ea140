use Prim.Native.Nat.{ℕ, ◌≤◌}
use mathlib.Core.List.{List}
use mathlib.Core.Path.{◌≡◌, ap, ◌∙◌}
use native.Mathlib.Omega.{arith}
use borrow.Author.Rules.{rules}
use lib.ListN.{length, replicate, length-replicate}
use Rattle.lists.specs.Tabulate.{tabulate}
use Rattle.problem.specs.Problem.{Problem}
use Rattle.problem.specs.Layout.{problem_in}
use Rattle.problem.specs.Table.{Lawful}
use Rattle.ground.specs.Verdict.{verdict_of, answer_of}
use Rattle.parting.specs.Runs.{run_by}
use Rattle.parting.specs.terms.Gathered.{gathered}
use Rattle.parting.specs.terms.Tally.{joined_as}
use Rattle.parting.proofs.GatherLaws.{own_lawful, own_problem}
use Rattle.parting.proofs.turns.run_part.Goals as goal

pub run-verdict-requires-clause-lawful : goal.run-verdict-requires-clause-lawful
run-verdict-requires-clause-lawful c = own_lawful c.args.table.now c.requires.lawful c.args.x _ (length (problem_in c.args.table.now).clauses) c.gather.ensures (omega arith)

pub returns : goal.returns
returns c =
    let u = c.run-verdict in
    let same : problem_in c.gather.new.own ≡ gathered c.args.table.now c.args.x = own_problem c.args.table.now c.requires.lawful c.args.x _ (length (problem_in c.args.table.now).clauses) c.gather.ensures (omega arith) in (
      u.ensures.0 ∙ ap (λ (q : Problem). verdict_of (run_by c.args.magic q)) same,
      c.join.ensures
          ∙ ap (λ (bits : List ℕ). tabulate (joined_as c.args.marks.now c.args.x bits c.args.joined.now) 1024)
          (u.ensures.1 ∙ ap (λ (q : Problem). answer_of (run_by c.args.magic q) (replicate 1024 0)) same),
      u.ensures.2,
    )
