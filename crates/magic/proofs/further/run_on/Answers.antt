use Prim.Native.Nat.{ℕ}
use mathlib.Core.Path.{◌≡◌, ◌∙◌, ap}
use borrow.Author.Rules.{rules}
use lib.ListN.{replicate}
use Rattle.ground.specs.declared.verdict.Verdict.TheVariants.{Refused}
use Rattle.ground.specs.Instance.{ground_in}
use Rattle.ground.proofs.AtomLaws.{table_size}
use Rattle.rewriting.specs.Facts.{find_in}
use Rattle.rewriting.specs.Rewrite.{rules_over}
use Rattle.session.specs.Calls.{called_in}
use Rattle.magic.proofs.FurtherLaws.{called_alike, Says, says_alike, refused_declined, else_told, made_declined, made_told}
use Rattle.magic.proofs.further.run_on.Goals as goal

-- the call by the rules that it leaves is the one that was made
pub returns-in_default : goal.returns-in_default
returns-in_default c =
    let a = c.args in
    let g = c.go_further-moved in
    let atoms = (ground_in a.table.now).atoms in
    let call = called_in (find_in (rules_over a.table.now a.rules.now)) atoms a.session a.further in
    let said : Says call a.session a.answer.now g.result g.new.answer =
    says_alike (called_in (find_in (rules_over a.table.now (replicate 16384 0))) atoms a.session a.further) call a.session a.answer.now
    (called_alike a.table.now (replicate 16384 0) a.rules.now c.requires.lawful atoms a.session a.further) g.result g.new.answer g.ensures in
    let unrefused : (e : ℕ) → g.result.verdict ≡ Refused e → ⊥ = search rules in
    let on = else_told call g.result.verdict said.0 unrefused in
    made_told call a.session a.table.now a.rules.now a.answer.now a.work.now (table_size a.table.now c.requires.lawful) c.requires.rules_len.0 c.requires.rules_len.2
    on.0 on.1 on.2 g.result c.write_rules.new.rules g.new.answer c.zero.new.dst said c.write_rules.ensures.1
    (c.zero.ensures ∙ ap (λ n. replicate n 0) c.requires.rules_len.2)

pub returns : goal.returns
returns c =
    let a = c.args in
    let g = c.go_further-moved in
    let atoms = (ground_in a.table.now).atoms in
    let call = called_in (find_in (rules_over a.table.now a.rules.now)) atoms a.session a.further in
    let said : Says call a.session a.answer.now g.result g.new.answer =
    says_alike (called_in (find_in (rules_over a.table.now (replicate 16384 0))) atoms a.session a.further) call a.session a.answer.now
    (called_alike a.table.now (replicate 16384 0) a.rules.now c.requires.lawful atoms a.session a.further) g.result g.new.answer g.ensures in
    let refused : (e : ℕ) × (g.result.verdict ≡ Refused e) = search rules in
    let no = refused_declined call g.result.verdict refused.0 said.0 refused.1 in
    made_declined call a.session a.table.now a.rules.now a.answer.now a.work.now no.0 no.1 g.result g.new.answer said
