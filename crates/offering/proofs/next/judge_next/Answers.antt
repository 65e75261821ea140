use Rattle.std.proofs.Common.{◌≡◌, length, take, ap, sym, arith, rules, length-take-le, true-eqb, false-eqb}
use Rattle.adding.proofs.AppendLaws.{table_size}
use Rattle.offering.proofs.NextLaws.{all_bytes, front_bytes, other_kind, no_bytes, full_table, next_past, next_filled}
use Rattle.offering.proofs.next.judge_next.Goals as goal

pub returns-then-is_empty : goal.returns-then-is_empty
returns-then-is_empty c = no_bytes _ _ _ (ap length c.requires.rec_value) (true-eqb _ 0 c.if-is_empty.ensures)

pub returns-in_default : goal.returns-in_default
returns-in_default c = other_kind _ _ _ (ap length c.requires.rec_value) (λ e. search rules)

pub bounds-table-2 : goal.bounds-table-2
bounds-table-2 c = omega (arith, table_size _ c.requires.lawful)

pub returns-then-table-eq64 : goal.returns-then-table-eq64
returns-then-table-eq64 c = full_table _ _ _ (ap length c.requires.rec_value) c.requires.lawful c.in-3.is c.if-table-eq64.true

pub slice_bounds-judge_line-end : goal.slice_bounds-judge_line-end
slice_bounds-judge_line-end c = sym (length-take-le 35 c.args.frame.now (omega arith))

pub judge_line-requires-clause-frame_nonzero : goal.judge_line-requires-clause-frame_nonzero
judge_line-requires-clause-frame_nonzero c =
    let f = c.args.frame.now in
    let long : length (take 35 f) ≡ 35 = length-take-le 35 f (omega arith) in
    (omega (arith, long), omega (arith, long), front_bytes 35 f (all_bytes f (λ i. (c.type_inv.frame i).fits)))

pub returns-then-frame-gt35 : goal.returns-then-frame-gt35
returns-then-frame-gt35 c =
    let judged = c.judge_line.ensures in
    next_past _ _ _ judged.size c.requires.lawful c.in-3.is c.if-table-eq64.false _ _ c.if-frame-gt35.true judged c.past_line.ensures

pub judge_line-requires-2-clause-frame_nonzero : goal.judge_line-requires-2-clause-frame_nonzero
judge_line-requires-2-clause-frame_nonzero c = (omega (arith, false-eqb _ 0 c.if-is_empty.ensures), c.if-frame-gt35.false, all_bytes c.args.frame.now (λ i. (c.type_inv.frame i).fits))

pub returns : goal.returns
returns c =
    let judged = c.judge_line-2.ensures in
    next_filled _ _ _ judged.size c.requires.lawful c.in-3.is c.if-table-eq64.false _ judged
