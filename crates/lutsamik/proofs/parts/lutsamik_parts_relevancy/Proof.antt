-- `lutsamik::parts::lutsamik_parts_relevancy` meets its contract.
use mathlib.Core.Path.{ap, ◌∙◌}
use borrow.Author.Rules.{rules}
use Rattle.lutsamik.specs.Pack.{pack_parting}
use Rattle.lutsamik.proofs.parts.lutsamik_parts_relevancy.Statement.{statement}
use Rattle.lutsamik.proofs.parts.lutsamik_parts_relevancy.Tie as tie

pub lutsamik_parts_relevancy_spec : {M : Type 1} → statement M
lutsamik_parts_relevancy_spec =
    tie.close
    (tie.spec
    (λ c κs. search rules)  -- parts_relevancy-requires
    (λ c κs. search rules)  -- pack_parting-requires
    (λ c. search rules)  -- shape_of-answer
    (λ c. search rules)  -- shape_of-work
    (λ c. let u = c.parts_relevancy in (c.pack_parting.ensures ∙ ap pack_parting u.ensures.0, u.ensures.1, u.ensures.2, u.ensures.3)))  -- returns
