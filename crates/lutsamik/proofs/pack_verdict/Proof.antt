-- `lutsamik::pack_verdict` meets its contract.
use Prim.Native.Nat.{ℕ}
use borrow.Author.Rules.{rules}
use mathlib.Core.Path.{◌≡◌, sym, ap, ◌∙◌}
use Rattle.ground.specs.declared.verdict.Verdict.{Verdict}
use Rattle.lutsamik.specs.Pack.{pack_verdict}
use Rattle.lutsamik.proofs.pack_verdict.Statement.{statement}
use Rattle.lutsamik.proofs.pack_verdict.Tie as tie

-- as the variant that it is
by : (deepest : ℕ) {v w : Verdict} → v ≡ w → pack_verdict w deepest ≡ pack_verdict v deepest
by deepest e = ap (λ (x : Verdict). pack_verdict x deepest) (sym e)

pub pack_verdict_spec : {M : Type 1} → statement M
pack_verdict_spec =
    tie.close
    (tie.spec
    (λ c. search rules)  -- enum_known-v
    (λ c κs. search rules)  -- packed-requires
    (λ c. search rules)  -- enum_known-v-in-Satisfied-1
    (λ c κs. search rules)  -- with_deepest-requires
    (λ c. search rules)  -- enum_known-v-in-Refuted-1
    (λ c κs. search rules)  -- with_deepest-requires-in-Refuted
    (λ c. search rules)  -- enum_known-v-in-Exhausted-1
    (λ c κs. search rules)  -- with_deepest-requires-in-Exhausted
    (λ c. c.packed.ensures ∙ by c.args.deepest c.in-Refused.is)  -- returns-in-Refused
    (λ c. c.with_deepest.ensures ∙ by c.args.deepest c.in-Satisfied.is)  -- returns-in-Satisfied
    (λ c. c.with_deepest-in-Refuted.ensures ∙ by c.args.deepest c.in-Refuted.is)  -- returns-in-Refuted
    (λ c. c.with_deepest-in-Exhausted.ensures ∙ by c.args.deepest c.in-Exhausted.is))  -- returns-in-Exhausted
