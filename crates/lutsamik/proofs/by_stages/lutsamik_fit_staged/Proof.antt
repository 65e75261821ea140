-- `lutsamik::by_stages::lutsamik_fit_staged` meets its contract.
use mathlib.Core.Path.{ap, ◌∙◌}
use borrow.Author.Rules.{rules}
use Rattle.lutsamik.specs.Pack.{pack_staged}
use Rattle.lutsamik.proofs.by_stages.lutsamik_fit_staged.Statement.{statement}
use Rattle.lutsamik.proofs.by_stages.lutsamik_fit_staged.Tie as tie

pub lutsamik_fit_staged_spec : {M : Type 1} → statement M
lutsamik_fit_staged_spec =
    tie.close
    (tie.spec
    (λ c κs. search rules)  -- fit-requires
    (λ c κs. search rules)  -- pack_staged-requires
    (λ c. search rules)  -- shape_of-answer
    (λ c. search rules)  -- shape_of-work
    (λ c. let fit = c.fit in (c.pack_staged.ensures ∙ ap pack_staged fit.ensures.0, fit.ensures.1, fit.ensures.2)))  -- returns
