use Rattle.std.proofs.Common.{ℕ, List, [], ◌∷◌, arith, refl, sym, ◌∙◌}
use Rattle.ground.proofs.AtomLaws.{table_size}
use Rattle.judging.proofs.HoldingLaws.{clause_lacking, clause_there, value_lacking, bytes-Placed, named_held}
use Rattle.judging.proofs.how_far.held.Goals as goal

-- the four values
abbrev four : ℕ → ℕ → ℕ → ℕ → List ℕ
four a b c d = a ∷ b ∷ c ∷ d ∷ []

pub bounds-table-2 : goal.bounds-table-2
bounds-table-2 c = omega (arith, table_size c.args.table.now c.requires.lawful)

pub returns-then-table-clause : goal.returns-then-table-clause
returns-then-table-clause c = clause_lacking c.args.table.now c.requires.lawful c.args.flags.now c.args.clause (four c.args.a c.args.b c.args.c c.args.d) c.if-table-clause.true

pub bounds-table-k : goal.bounds-table-k
bounds-table-k c =
    let k = clause_there c.args.table.now c.requires.lawful c.args.flags.now c.args.clause (four c.args.a c.args.b c.args.c c.args.d) c.if-table-clause.false in
    omega (arith, k.size, k.few)

pub are_constants-requires : goal.are_constants-requires
are_constants-requires c =
    let k = clause_there c.args.table.now c.requires.lawful c.args.flags.now c.args.clause (four c.args.a c.args.b c.args.c c.args.d) c.if-table-clause.false in
    (refl, omega (arith, k.variables, k.fits.few_vars))

pub returns-then-not-are_constants : goal.returns-then-not-are_constants
returns-then-not-are_constants c =
    value_lacking c.args.table.now c.requires.lawful c.args.flags.now c.args.clause (four c.args.a c.args.b c.args.c c.args.d) c.if-table-clause.false
    (sym c.are_constants.ensures ∙ c.if-not-are_constants.true)

pub holding-requires-clause-placed : goal.holding-requires-clause-placed
holding-requires-clause-placed c =
    bytes-Placed c.args.table.now c.requires.lawful c.args.flags.now c.args.clause (four c.args.a c.args.b c.args.c c.args.d) c.if-table-clause.false refl c.requires.in_bounds
    (sym c.are_constants.ensures ∙ c.if-not-are_constants.false)

pub returns : goal.returns
returns c =
    named_held c.args.table.now c.requires.lawful c.args.flags.now c.args.clause (four c.args.a c.args.b c.args.c c.args.d) c.if-table-clause.false refl c.requires.in_bounds
    (sym c.are_constants.ensures ∙ c.if-not-are_constants.false) _ c.holding.ensures
