-- The bytes before the end of the clauses are the same, and those from there on are zero.
use Rattle.std.proofs.Common.{refl, sym, ◌∙◌}
use Rattle.writing.proofs.CompareLaws.{front_differs, rest_decides}
use Rattle.writing.proofs.write.same_table.Goals as goal

pub returns-then-same : goal.returns-then-same
returns-then-same c =
    c.all_zero.ensures ∙ rest_decides c.args.own.now c.args.table.now _ c.requires.0 c.requires.1 refl (sym c.same.ensures ∙ c.if-same.true) _ refl

pub returns-else-same : goal.returns-else-same
returns-else-same c = c.if-same.false ∙ front_differs c.args.own.now c.args.table.now _ c.requires.0 c.requires.1 refl (sym c.same.ensures ∙ c.if-same.false)
