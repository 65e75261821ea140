use Prim.Native.Nat.{ℕ, ◌+◌, ◌-◌}
use Rattle.std.proofs.Common.{◌≡◌, rules, sym, ◌∙◌, subst, arith, length-take-le, take, drop, get_or, Result, Err}
use Rattle.problem.specs.declared.fault.Fault.{Fault}
use Rattle.offering.specs.terms.Next.{Added}
use Rattle.offering.proofs.OfferLaws.{own_lawful, slip_room, set_lent, set_refused, set_stale, set_long, set_added}
use Rattle.offering.proofs.offer.set.Goals as goal

pub returns-in_err-taken : goal.returns-in_err-taken
returns-in_err-taken c =
    let same : ◌≡◌ {A = Result (Unit {0}) Fault} c.from_residual.result (Err c.in_err-taken.field-0.0) = search rules in
    let left = set_refused c.args.table.now c.args.slip.now (sym c.taken.ensures ∙ c.in_err-taken.was) in
    (same ∙ left.0, left.1)

pub bounds-slip-0 : goal.bounds-slip-0
bounds-slip-0 c = omega (arith, slip_room c.args.table.now c.args.slip.now (set_lent c.args.table.now c.args.slip.now (sym c.taken.ensures ∙ c.in_ok-taken.was)))

pub bounds-table-2 : goal.bounds-table-2
bounds-table-2 c = omega (arith, (set_lent c.args.table.now c.args.slip.now (sym c.taken.ensures ∙ c.in_ok-taken.was)).long)

pub returns-then-slip-table : goal.returns-then-slip-table
returns-then-slip-table c = set_stale c.args.table.now c.args.slip.now (sym c.taken.ensures ∙ c.in_ok-taken.was) c.if-slip-table.true

pub bounds-slip-1 : goal.bounds-slip-1
bounds-slip-1 c = omega (arith, slip_room c.args.table.now c.args.slip.now (set_lent c.args.table.now c.args.slip.now (sym c.taken.ensures ∙ c.in_ok-taken.was)))

pub returns-then-slip-gt35 : goal.returns-then-slip-gt35
returns-then-slip-gt35 c = set_long c.args.table.now c.args.slip.now (sym c.taken.ensures ∙ c.in_ok-taken.was) c.if-slip-table.false c.if-slip-gt35.true

pub bounds-slip-1-2 : goal.bounds-slip-1-2
bounds-slip-1-2 c = omega (arith, slip_room c.args.table.now c.args.slip.now (set_lent c.args.table.now c.args.slip.now (sym c.taken.ensures ∙ c.in_ok-taken.was)))

pub slice_bounds-add-end : goal.slice_bounds-add-end
slice_bounds-add-end c = (set_lent c.args.table.now c.args.slip.now (sym c.taken.ensures ∙ c.in_ok-taken.was)).long

pub slice_bounds-add-end-2 : goal.slice_bounds-add-end-2
slice_bounds-add-end-2 c = sym (length-take-le 4096 c.args.table.now (set_lent c.args.table.now c.args.slip.now (sym c.taken.ensures ∙ c.in_ok-taken.was)).long)

pub slice_bounds-add-end-3 : goal.slice_bounds-add-end-3
slice_bounds-add-end-3 c = omega (arith, slip_room c.args.table.now c.args.slip.now (set_lent c.args.table.now c.args.slip.now (sym c.taken.ensures ∙ c.in_ok-taken.was)))

pub add-requires : goal.add-requires
add-requires c = own_lawful c.args.table.now c.args.slip.now (set_lent c.args.table.now c.args.slip.now (sym c.taken.ensures ∙ c.in_ok-taken.was))

pub returns : goal.returns
returns c =
    let n : ℕ = get_or c.args.slip.now 1 0 in
    let whole : 2 + n - 2 ≡ n = omega arith in
    set_added c.args.table.now c.args.slip.now (sym c.taken.ensures ∙ c.in_ok-taken.was) c.if-slip-table.false (omega arith) _ _
    (subst (λ (m : ℕ). Added (take 4096 c.args.table.now) (take m (drop 2 c.args.slip.now)) c.add.result c.add.new.table) whole c.add.ensures)
