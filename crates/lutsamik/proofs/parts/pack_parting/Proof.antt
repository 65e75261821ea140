-- `lutsamik::parts::pack_parting` meets its contract.
use mathlib.Core.Path.{sym, ap, ◌∙◌}
use borrow.Author.Rules.{rules}
use Rattle.lutsamik.specs.Pack.{pack_parting}
use Rattle.lutsamik.proofs.parts.pack_parting.Statement.{statement}
use Rattle.lutsamik.proofs.parts.pack_parting.Tie as tie

pub pack_parting_spec : {M : Type 1} → statement M
pack_parting_spec =
    tie.close
    (tie.spec
    (λ c. search rules)  -- enum_known-p
    (λ c κs. search rules)  -- packed-requires
    (λ c. search rules)  -- enum_told-1
    (λ c κs. search rules)  -- packed-requires-in-Satisfied
    (λ c. search rules)  -- enum_told-in-Refuted
    (λ c κs. search rules)  -- packed-requires-in-Refuted
    (λ c. search rules)  -- enum_told-in-Exhausted
    (λ c κs. search rules)  -- packed-requires-in-Exhausted
    (λ c. c.packed.ensures ∙ sym (ap pack_parting c.in-Refused.is))  -- returns-in-Refused
    (λ c. c.packed-in-Satisfied.ensures ∙ sym (ap pack_parting c.in-Satisfied.is))  -- returns-in-Satisfied
    (λ c. c.packed-in-Refuted.ensures ∙ sym (ap pack_parting c.in-Refuted.is))  -- returns-in-Refuted
    (λ c. c.packed-in-Exhausted.ensures ∙ sym (ap pack_parting c.in-Exhausted.is)))  -- returns-in-Exhausted
