use Rattle.std.proofs.Common.{ℕ, ◌≡◌, ◌<◌, ◌^◌, get_or, take, sym, subst, ◌∙◌, arith}
use Rattle.lists.specs.Member.{All}
use Rattle.ground.specs.terms.Placed.{Stepped}
use Rattle.ground.proofs.Sites.{turning_below, turning_on}
use Rattle.rewriting.specs.terms.Ruled.{the_rule}
use Rattle.magic_rule.specs.terms.Choosing.{ready_site}
use Rattle.magic_rule.specs.terms.Applied.{own_values}
use Rattle.magic_rule.proofs.FactLaws.{pair_at}
use Rattle.magic_rule.proofs.RuledLaws.{rule_read}
use Rattle.magic_rule.proofs.ChooseLaws.{site_with, choose_never, choose_past, choose_from, choose_here, choose_none}
use Rattle.magic_node.proofs.choose.choose_of.Goals as goal

pub returns-then-not-splits : goal.returns-then-not-splits
returns-then-not-splits c = let a = c.args in sym (choose_never a.rules.now a.r.now a.q (c.splits.ensures.none_split c.if-not-splits.true))

-- the loop counts up to its number of instances
pub returns-then-count-rank : goal.returns-then-count-rank
returns-then-count-rank c =
    let a = c.args in
    let read = rule_read a.rules.now c.requires.ruled a.q c.requires.q_bound.0 in
    let counted : c.pair_of-count.result ≡ get_or a.rules.now 0 0 ^ (the_rule a.rules.now a.q).vars = c.pair_of-count.ensures ∙ pair_at a.rules.now a.q 6 ∙ read.instances in
    sym (choose_past a.rules.now c.requires.ruled a.r.now a.q a.rank c.requires.q_bound.0 c.requires.unready (omega (arith, counted, c.if-count-rank.true)))

pub values_at-values-requires-clause-q_bound : goal.values_at-values-requires-clause-q_bound
values_at-values-requires-clause-q_bound c = (c.requires.q_bound.0, omega (arith, c.if-count-rank.false, c.pair_of-count.ensures ∙ pair_at c.args.rules.now c.args.q 6))

pub loop-i-init : goal.loop-i-init
loop-i-init c =
    let a = c.args in
    let read = rule_read a.rules.now c.requires.ruled a.q c.requires.q_bound.0 in
    let counted : c.pair_of-count.result ≡ get_or a.rules.now 0 0 ^ (the_rule a.rules.now a.q).vars = c.pair_of-count.ensures ∙ pair_at a.rules.now a.q 6 ∙ read.instances in
    choose_from a.rules.now c.requires.ruled a.r.now a.q a.rank c.requires.q_bound.0 c.requires.unready (omega (arith, counted, c.if-count-rank.false)) c.values_at-values.result c.values_at-values.ensures

-- the values in reach are an instance's
pub can_split-requires-clause-applied : goal.can_split-requires-clause-applied
can_split-requires-clause-applied c =
    let a = c.args in
    let l = c.loop-i in
    let read = rule_read a.rules.now c.requires.ruled a.q c.requires.q_bound.0 in
    let counted : c.pair_of-count.result ≡ get_or a.rules.now 0 0 ^ (the_rule a.rules.now a.q).vars = c.pair_of-count.ensures ∙ pair_at a.rules.now a.q 6 ∙ read.instances in
    let below : l.i < get_or a.rules.now 0 0 ^ (the_rule a.rules.now a.q).vars = subst (λ (n : ℕ). l.i < n) counted c.loop-i-test.true in
    record {
      known = c.requires.q_bound.0;
      four = l.invariant.four;
      below = turning_below (get_or a.rules.now 0 0) (the_rule a.rules.now a.q).vars (site_with a.q) (ready_site a.rules.now a.r.now) read.vars_few l.values l.i l.invariant below;
    }

pub returns-then-can_split : goal.returns-then-can_split
returns-then-can_split c =
    let a = c.args in
    let l = c.loop-i in
    let read = rule_read a.rules.now c.requires.ruled a.q c.requires.q_bound.0 in
    let counted : c.pair_of-count.result ≡ get_or a.rules.now 0 0 ^ (the_rule a.rules.now a.q).vars = c.pair_of-count.ensures ∙ pair_at a.rules.now a.q 6 ∙ read.instances in
    let below : l.i < get_or a.rules.now 0 0 ^ (the_rule a.rules.now a.q).vars = subst (λ (n : ℕ). l.i < n) counted c.loop-i-test.true in
    sym (choose_here a.rules.now a.r.now a.q read.vars_few l.values l.i l.invariant below c.can_split.result c.can_split.ensures c.if-can_split.true)

pub step-requires : goal.step-requires
step-requires c =
    let a = c.args in
    let l = c.loop-i in
    let v = c.byte_of-v in
    let read = rule_read a.rules.now c.requires.ruled a.q c.requires.q_bound.0 in
    let counted : c.pair_of-count.result ≡ get_or a.rules.now 0 0 ^ (the_rule a.rules.now a.q).vars = c.pair_of-count.ensures ∙ pair_at a.rules.now a.q 6 ∙ read.instances in
    let below : l.i < get_or a.rules.now 0 0 ^ (the_rule a.rules.now a.q).vars = subst (λ (n : ℕ). l.i < n) counted c.loop-i-test.true in
    let fits : All (λ d. d < get_or a.rules.now 0 0) (own_values a.rules.now a.q l.values) =
    turning_below (get_or a.rules.now 0 0) (the_rule a.rules.now a.q).vars (site_with a.q) (ready_site a.rules.now a.r.now) read.vars_few l.values l.i l.invariant below in
    (l.invariant.four, omega (arith, v.ensures, read.vars_few), read.constants, subst (λ (w : ℕ). All (λ d. d < get_or a.rules.now 0 0) (take w l.values)) (sym v.ensures) fits)

pub loop-i-preserved : goal.loop-i-preserved
loop-i-preserved c =
    let a = c.args in
    let bs = a.rules.now in
    let l = c.loop-i in
    let next = c.step in
    let read = rule_read bs c.requires.ruled a.q c.requires.q_bound.0 in
    let counted : c.pair_of-count.result ≡ get_or bs 0 0 ^ (the_rule bs a.q).vars = c.pair_of-count.ensures ∙ pair_at bs a.q 6 ∙ read.instances in
    let below : l.i < get_or bs 0 0 ^ (the_rule bs a.q).vars = subst (λ (n : ℕ). l.i < n) counted c.loop-i-test.true in
    turning_on (get_or bs 0 0) (the_rule bs a.q).vars (site_with a.q) (ready_site bs a.r.now) read.vars_few l.values l.i l.invariant next.new.values below
    (sym c.can_split.ensures ∙ c.if-can_split.false) (subst (λ (w : ℕ). Stepped w (get_or bs 0 0) l.values next.new.values) c.byte_of-v.ensures next.ensures) next.auto.values

pub returns : goal.returns
returns c =
    let a = c.args in
    let l = c.loop-i in
    let read = rule_read a.rules.now c.requires.ruled a.q c.requires.q_bound.0 in
    let counted : c.pair_of-count.result ≡ get_or a.rules.now 0 0 ^ (the_rule a.rules.now a.q).vars = c.pair_of-count.ensures ∙ pair_at a.rules.now a.q 6 ∙ read.instances in
    sym (choose_none a.rules.now a.r.now a.q read.vars_few l.values l.i l.invariant (omega (arith, counted, c.loop-i-test.false)))
