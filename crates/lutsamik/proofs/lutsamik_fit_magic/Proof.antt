-- `lutsamik::lutsamik_fit_magic` meets its contract.
use borrow.Author.Rules.{rules}
use mathlib.Core.Path.{ap₂, ◌∙◌}
use Rattle.lutsamik.specs.Pack.{pack_verdict}
use Rattle.lutsamik.proofs.lutsamik_fit_magic.Statement.{statement}
use Rattle.lutsamik.proofs.lutsamik_fit_magic.Tie as tie

pub lutsamik_fit_magic_spec : {M : Type 1} → statement M
lutsamik_fit_magic_spec =
    tie.close
    (tie.spec
    (λ c κs. search rules)  -- fit-requires
    (λ c κs. search rules)  -- pack_reply-requires
    (λ c. search rules)  -- shape_of-rules
    (λ c. search rules)  -- shape_of-answer
    (λ c. search rules)  -- shape_of-work
    (λ c.
    let fit = c.fit in
    (c.pack_reply.ensures ∙ ap₂ pack_verdict fit.ensures.0 fit.ensures.1, fit.ensures.2, fit.ensures.3, fit.ensures.4)))  -- returns
