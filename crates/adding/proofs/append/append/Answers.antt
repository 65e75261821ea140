-- The part comes back as the record, and then its weight and the number of clauses are put.
use Rattle.std.proofs.Common.{◌≡◌, ℕ, ◌+◌, ◌-◌, ◌*◌, List, drop, get_or, refl, sym, subst, ◌∙◌, arith}
use Rattle.lists.proofs.Bytes.{copied_whole}
use Rattle.adding.specs.terms.Appended.{Appended}
use Rattle.adding.proofs.AppendLaws.{appended, with_record}
use Rattle.adding.proofs.append.append.Goals as goal

pub returns : goal.returns
returns c =
    let tb = c.args.table.now in
    let at : ℕ = 144 + 56 * get_or tb 2 0 in
    let whole : at + 56 - at ≡ 56 = omega arith in
    let copied = copied_whole _ c.args.rec.now (drop at tb) (at + 56 - at) (c.requires.table_bound.1 ∙ sym whole) c.copy.ensures in
    rw c.put_pair.ensures
    (subst (λ (ys : List ℕ). Appended tb c.args.rec.now (with_record at (at + 56 - at) ys c.weight_of-sum.result (get_or tb 2 0 + 1) tb)) (sym copied)
    (appended tb c.requires.lawful c.args.rec.now at (at + 56 - at) c.weight_of-sum.result c.requires.table_bound.0 c.requires.table_bound.1 refl whole c.weight_of-sum.ensures))
