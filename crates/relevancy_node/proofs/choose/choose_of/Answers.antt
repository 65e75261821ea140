use Rattle.std.proofs.Common.{ℕ, true, List, ◌+◌, ◌*◌, ◌≤◌, ◌<◌, ◌≡◌, get_or, arith, rules, sym, subst, ◌∙◌}
use Rattle.problem.specs.Table.{Lawful}
use Rattle.kernel.specs.terms.Row.{Boxed, RowNext}
use Rattle.ground.proofs.AtomLaws.{alts_count}
use Rattle.ground.proofs.Turns.{clause_known, clause_listed}
use Rattle.relevancy_rule.specs.terms.Instances.{clause_box}
use Rattle.relevancy_rule.specs.terms.Choose.{Splitting}
use Rattle.relevancy_rule.proofs.ChooseLaws.{choose_horn}
use Rattle.relevancy_rule.proofs.RowLaws.{choose_nowhere, clause_boxed, rows_start, rows_here, rows_on, rows_end, rows_fall}
use Rattle.relevancy_rule.proofs.VisitLaws.{box_made}
use Rattle.relevancy_node.proofs.choose.choose_of.Goals as goal

-- the clause has two alternatives or more
several : (tb : List ℕ) → Lawful tb → (k : ℕ) → k < get_or tb 2 0 → 2 ≤ get_or tb (144 + 56 * k + 1) 0 → Splitting tb k
several tb h k l two = let known = clause_listed tb h k l in record { known = known; several = omega (arith, alts_count tb h k known) }

-- and an instance, by how many bytes 4 and 5 of its record say that there are
boxed : (tb : List ℕ) → (h : Lawful tb) → (r : List ℕ) (k : ℕ) → Splitting tb k → (n : ℕ) → n ≡ get_or tb (144 + 56 * k + 4) 0 + 256 * get_or tb (144 + 56 * k + 5) 0 → (n ≡ 0 → ⊥)
    → Boxed (clause_box tb k)
boxed tb h r k s n e some = clause_boxed tb h r k s (λ none. some (e ∙ (clause_known tb h k s.known).instances ∙ none))

pub bounds-table-at : goal.bounds-table-at
bounds-table-at c = let k = clause_known c.args.table.now c.requires.lawful c.args.k (clause_listed c.args.table.now c.requires.lawful c.args.k c.requires.k_bound.0) in omega (arith, k.size, k.few)

pub bounds-table-at-2 : goal.bounds-table-at-2
bounds-table-at-2 c = let k = clause_known c.args.table.now c.requires.lawful c.args.k (clause_listed c.args.table.now c.requires.lawful c.args.k c.requires.k_bound.0) in omega (arith, k.size, k.few)

pub bounds-table-at-3 : goal.bounds-table-at-3
bounds-table-at-3 c = let k = clause_known c.args.table.now c.requires.lawful c.args.k (clause_listed c.args.table.now c.requires.lawful c.args.k c.requires.k_bound.0) in omega (arith, k.size, k.few)

pub returns-then-table-at-lt2 : goal.returns-then-table-at-lt2
returns-then-table-at-lt2 c =
    let tb = c.args.table.now in
    let known = clause_listed tb c.requires.lawful c.args.k c.requires.k_bound.0 in
    sym (choose_horn tb c.args.r.now c.args.k (omega (arith, alts_count tb c.requires.lawful c.args.k known)))

pub returns-then-pair-eq0 : goal.returns-then-pair-eq0
returns-then-pair-eq0 c =
    let tb = c.args.table.now in
    let s = several tb c.requires.lawful c.args.k c.requires.k_bound.0 (omega arith) in
    sym (choose_nowhere tb c.requires.lawful c.args.r.now c.args.k s (sym (c.pair.ensures ∙ (clause_known tb c.requires.lawful c.args.k s.known).instances) ∙ c.if-pair-eq0.true))

pub last_free-z-requires : goal.last_free-z-requires
last_free-z-requires c =
    let tb = c.args.table.now in
    let s = several tb c.requires.lawful c.args.k c.requires.k_bound.0 (omega arith) in
    subst Boxed (sym (box_made tb true c.args.k c.requires.lawful s.known c.full_box.new.bounds c.full_box.ensures)) (boxed tb c.requires.lawful c.args.r.now c.args.k s c.pair.result c.pair.ensures c.if-pair-eq0.false)

pub steps_of-steps-requires-clause-splitting : goal.steps_of-steps-requires-clause-splitting
steps_of-steps-requires-clause-splitting c =
    let tb = c.args.table.now in
    let s = several tb c.requires.lawful c.args.k c.requires.k_bound.0 (omega arith) in
    (s, boxed tb c.requires.lawful c.args.r.now c.args.k s c.pair.result c.pair.ensures c.if-pair-eq0.false, c.last_free-z.ensures.known)

pub loop-bounds-init : goal.loop-bounds-init
loop-bounds-init c =
    let tb = c.args.table.now in
    let s = several tb c.requires.lawful c.args.k c.requires.k_bound.0 (omega arith) in
    rows_start tb c.requires.lawful c.args.r.now c.args.k s (box_made tb true c.args.k c.requires.lawful s.known c.full_box.new.bounds c.full_box.ensures)
    (boxed tb c.requires.lawful c.args.r.now c.args.k s c.pair.result c.pair.ensures c.if-pair-eq0.false) c.last_free-z.ensures

pub choose_row-requires-clause-splitting : goal.choose_row-requires-clause-splitting
choose_row-requires-clause-splitting c =
    (several c.args.table.now c.requires.lawful c.args.k c.requires.k_bound.0 (omega arith), c.loop-bounds.invariant.row)

pub returns-then-choose_row : goal.returns-then-choose_row
returns-then-choose_row c =
    let tb = c.args.table.now in
    let s = several tb c.requires.lawful c.args.k c.requires.k_bound.0 (omega arith) in
    sym (rows_here tb c.requires.lawful c.args.r.now c.args.k s c.loop-bounds.invariant (c.choose_row.ensures.here c.if-choose_row.true))

pub returns-then-not-next_row : goal.returns-then-not-next_row
returns-then-not-next_row c =
    let tb = c.args.table.now in
    let s = several tb c.requires.lawful c.args.k c.requires.k_bound.0 (omega arith) in
    let x = c.choose_row.ensures in
    let next = subst (λ (v : List ℕ). RowNext c.full_box.new.bounds c.last_free-z.result v c.next_row.result c.next_row.new.values) (x.kept c.if-choose_row.false) c.next_row.ensures in
    sym (rows_end tb c.requires.lawful c.args.r.now c.args.k s c.loop-bounds.invariant (x.none c.if-choose_row.false) next (search rules))

pub loop-bounds-smaller : goal.loop-bounds-smaller
loop-bounds-smaller c =
    let tb = c.args.table.now in
    let s = several tb c.requires.lawful c.args.k c.requires.k_bound.0 (omega arith) in
    let x = c.choose_row.ensures in
    let next = subst (λ (v : List ℕ). RowNext c.full_box.new.bounds c.last_free-z.result v c.next_row.result c.next_row.new.values) (x.kept c.if-choose_row.false) c.next_row.ensures in
    rows_fall tb c.requires.lawful c.args.r.now c.args.k s c.loop-bounds.invariant (x.none c.if-choose_row.false) next (search rules)

pub loop-bounds-preserved : goal.loop-bounds-preserved
loop-bounds-preserved c =
    let tb = c.args.table.now in
    let s = several tb c.requires.lawful c.args.k c.requires.k_bound.0 (omega arith) in
    let x = c.choose_row.ensures in
    let next = subst (λ (v : List ℕ). RowNext c.full_box.new.bounds c.last_free-z.result v c.next_row.result c.next_row.new.values) (x.kept c.if-choose_row.false) c.next_row.ensures in
    rows_on tb c.requires.lawful c.args.r.now c.args.k s c.loop-bounds.invariant (x.none c.if-choose_row.false) next (search rules)
