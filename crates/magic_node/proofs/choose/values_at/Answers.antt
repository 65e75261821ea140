use Rattle.std.proofs.Common.{ℕ, ◌≡◌, ◌≤◌, ◌<◌, ◌^◌, replicate, get_or, sym, arith}
use Rattle.std.proofs.Math.Seq.{length-take-le}
use Rattle.magic_rule.proofs.RuledLaws.{rule_read}
use Rattle.magic_rule.proofs.ChooseLaws.{Spelled-Ranked}
use Rattle.magic_node.proofs.choose.values_at.Goals as goal

pub slice_bounds-values-end : goal.slice_bounds-values-end
slice_bounds-values-end c = omega (arith, c.byte_of-v.ensures, (rule_read c.args.rules.now c.requires.ruled c.args.q c.requires.q_bound.0).vars_few)

pub slice_bounds-spell-end : goal.slice_bounds-spell-end
slice_bounds-spell-end c =
    let few : c.byte_of-v.result ≤ 4 = omega (arith, c.byte_of-v.ensures, (rule_read c.args.rules.now c.requires.ruled c.args.q c.requires.q_bound.0).vars_few) in
    sym (length-take-le c.byte_of-v.result (replicate 4 0) few)

pub spell-requires : goal.spell-requires
spell-requires c =
    let v = c.byte_of-v in
    let read = rule_read c.args.rules.now c.requires.ruled c.args.q c.requires.q_bound.0 in
    let few : v.result ≤ 4 = omega (arith, v.ensures, read.vars_few) in
    let inside : c.args.rank < get_or c.args.rules.now 0 0 ^ v.result = rw (v.ensures, ← read.instances) c.requires.q_bound.1 in
    (inside, omega (arith, length-take-le v.result (replicate {A = ℕ} 4 0) few), read.constants)

pub returns : goal.returns
returns c =
    let v = c.byte_of-v in
    let few : v.result ≤ 4 = omega (arith, v.ensures, (rule_read c.args.rules.now c.requires.ruled c.args.q c.requires.q_bound.0).vars_few) in
    Spelled-Ranked c.args.rules.now c.args.q c.args.rank v.result v.ensures few c.spell.new.digits c.spell.ensures
