-- `lutsamik::parts::lutsamik_parts_magic` meets its contract.
use mathlib.Core.Path.{ap, ◌∙◌}
use borrow.Author.Rules.{rules}
use Rattle.lutsamik.specs.Pack.{pack_parting}
use Rattle.lutsamik.proofs.parts.lutsamik_parts_magic.Statement.{statement}
use Rattle.lutsamik.proofs.parts.lutsamik_parts_magic.Tie as tie

pub lutsamik_parts_magic_spec : {M : Type 1} → statement M
lutsamik_parts_magic_spec =
    tie.close
    (tie.spec
    (λ c κs. search rules)  -- parts_magic-requires
    (λ c κs. search rules)  -- pack_parting-requires
    (λ c. search rules)  -- shape_of-rules
    (λ c. search rules)  -- shape_of-answer
    (λ c. search rules)  -- shape_of-work
    (λ c. let u = c.parts_magic in (c.pack_parting.ensures ∙ ap pack_parting u.ensures.0, u.ensures.1, u.ensures.2, u.ensures.3, u.ensures.4)))  -- returns
