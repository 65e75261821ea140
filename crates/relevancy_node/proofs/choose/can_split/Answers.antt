use Rattle.std.proofs.Common.{◌<◌, length, arith, rules, sym}
use Rattle.problem.specs.Layout.{problem_in}
use Rattle.ground.specs.Instance.{clause_of}
use Rattle.ground.proofs.AtomLaws.{alts_count}
use Rattle.relevancy_rule.proofs.ChooseLaws.{split_short, split_held, split_rest}
use Rattle.relevancy_node.proofs.choose.can_split.Goals as goal

pub returns-then-holding-atoms_of : goal.returns-then-holding-atoms_of
returns-then-holding-atoms_of c =
    let a = c.args in
    let two : 1 < length (clause_of (problem_in a.table.now) a.k).alts = omega (arith, alts_count a.table.now c.requires.lawful a.k c.requires.placed.known, c.requires.r_len.1) in
    sym (split_short a.table.now a.r.now a.k a.values.now two _ _ c.holding.ensures c.atoms_of.ensures c.if-holding-atoms_of.true)

pub returns-then-not-none_holds : goal.returns-then-not-none_holds
returns-then-not-none_holds c =
    let a = c.args in
    let two : 1 < length (clause_of (problem_in a.table.now) a.k).alts = omega (arith, alts_count a.table.now c.requires.lawful a.k c.requires.placed.known, c.requires.r_len.1) in
    sym (split_held a.table.now a.r.now a.k a.values.now two _ c.none_holds.ensures (search rules))

pub returns : goal.returns
returns c =
    let a = c.args in
    let two : 1 < length (clause_of (problem_in a.table.now) a.k).alts = omega (arith, alts_count a.table.now c.requires.lawful a.k c.requires.placed.known, c.requires.r_len.1) in
    split_rest a.table.now a.r.now a.k a.values.now two _ _ c.holding.ensures c.atoms_of.ensures c.if-holding-atoms_of.false _ c.none_holds.ensures (search rules) _ c.alternatives_relevant.ensures
