-- `lutsamik::by_stages::pack_staged` meets its contract.
use mathlib.Core.Path.{sym, ◌∙◌}
use borrow.Author.Rules.{rules}
use Rattle.lutsamik.proofs.StagedLaws.{figure_none}
use Rattle.lutsamik.proofs.by_stages.pack_staged.Statement.{statement}
use Rattle.lutsamik.proofs.by_stages.pack_staged.Tie as tie

pub pack_staged_spec : {M : Type 1} → statement M
pack_staged_spec =
    tie.close
    (tie.spec
    (λ c κs. search rules)  -- pack_verdict-requires
    (λ c. c.pack_verdict.ensures ∙ sym (figure_none c.args.v)))  -- returns
