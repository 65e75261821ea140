-- `lutsamik::assume::pack_assumed` meets its contract.
use borrow.Author.Rules.{rules}
use mathlib.Core.Path.{◌≡◌, sym, ap, ◌∙◌}
use Rattle.assuming.specs.declared.assume.Assumed.{Assumed}
use Rattle.lutsamik.specs.Pack.{pack_assumed}
use Rattle.lutsamik.proofs.assume.pack_assumed.Statement.{statement}
use Rattle.lutsamik.proofs.assume.pack_assumed.Tie as tie

-- as the variant that it is
by : {a b : Assumed} → a ≡ b → pack_assumed b ≡ pack_assumed a
by e = ap pack_assumed (sym e)

pub pack_assumed_spec : {M : Type 1} → statement M
pack_assumed_spec =
    tie.close
    (tie.spec
    (λ c. search rules)  -- enum_known-a
    (λ c κs. search rules)  -- packed-requires
    (λ c. search rules)  -- enum_told-1
    (λ c κs. search rules)  -- packed-requires-in-Always
    (λ c. search rules)  -- enum_told-in-Never
    (λ c κs. search rules)  -- packed-requires-in-Never
    (λ c. search rules)  -- enum_told-in-Exhausted
    (λ c κs. search rules)  -- packed-requires-in-Exhausted
    (λ c. search rules)  -- enum_told-in-Sometimes
    (λ c κs. search rules)  -- packed-requires-in-Sometimes
    (λ c. c.packed.ensures ∙ by c.in-Refused.is)  -- returns-in-Refused
    (λ c. c.packed-in-Always.ensures ∙ by c.in-Always.is)  -- returns-in-Always
    (λ c. c.packed-in-Never.ensures ∙ by c.in-Never.is)  -- returns-in-Never
    (λ c. c.packed-in-Exhausted.ensures ∙ by c.in-Exhausted.is)  -- returns-in-Exhausted
    (λ c. c.packed-in-Sometimes.ensures ∙ by c.in-Sometimes.is))  -- returns-in-Sometimes
