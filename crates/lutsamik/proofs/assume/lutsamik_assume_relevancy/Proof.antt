-- `lutsamik::assume::lutsamik_assume_relevancy` meets its contract.
use borrow.Author.Rules.{rules}
use mathlib.Core.Path.{ap, ◌∙◌}
use Rattle.lutsamik.specs.Pack.{pack_assumed}
use Rattle.lutsamik.proofs.assume.lutsamik_assume_relevancy.Statement.{statement}
use Rattle.lutsamik.proofs.assume.lutsamik_assume_relevancy.Tie as tie

pub lutsamik_assume_relevancy_spec : {M : Type 1} → statement M
lutsamik_assume_relevancy_spec =
    tie.close
    (tie.spec
    (λ c κs. search rules)  -- assume_relevancy-requires
    (λ c κs. search rules)  -- pack_assumed-requires
    (λ c. search rules)  -- shape_of-work
    (λ c.
    let said = c.assume_relevancy in
    (c.pack_assumed.ensures ∙ ap pack_assumed said.ensures.0, said.ensures.1, said.ensures.2, said.ensures.3)))  -- returns
