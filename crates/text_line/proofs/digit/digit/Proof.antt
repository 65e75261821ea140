-- `text_line::digit::digit` meets its contract: the value sought is a digit's, by a test of all bytes.
use mathlib.Core.Path.{◌∙◌}
use native.Mathlib.Omega.{arith}
use borrow.Author.Rules.{rules}
use borrow.Author.Tests.{lt-ltb, le-ltb}
use Rattle.problem.proofs.Digits.{digit_found}
use Rattle.text_line.proofs.digit.digit.Statement.{statement}
use Rattle.text_line.proofs.digit.digit.Tie as tie

pub digit_spec : {M : Type 1} → statement M
digit_spec =
    tie.close
    (tie.spec
    (λ c. let b = c.args.b in rw (digit_found b (omega arith), lt-ltb b 48 c.if-b-lt48.true))  -- returns-then-b-lt48
    (λ c κs. search rules)  -- value-requires
    (λ c.
    let b = c.args.b in
    c.value.ensures ∙ rw (digit_found b (omega arith), le-ltb b 48 c.if-b-lt48.false, lt-ltb b 65 c.if-b-lt65.true))  -- returns-then-b-lt65
    (λ c. search rules)  -- overflow_sub-b-2
    (λ c κs. search rules)  -- value-requires-2
    (λ c.
    let b = c.args.b in
    c.value-2.ensures ∙ rw (digit_found b (omega arith), le-ltb b 48 c.if-b-lt48.false, le-ltb b 65 c.if-b-lt65.false)))  -- returns
