-- `lutsamik::calls::begin_relevancy` meets its contract.
use borrow.Author.Rules.{rules}
use mathlib.Core.Path.{◌∙◌}
use Rattle.lutsamik.proofs.CallLaws.{relevancy_packed}
use Rattle.lutsamik.proofs.calls.begin_relevancy.Statement.{statement}
use Rattle.lutsamik.proofs.calls.begin_relevancy.Tie as tie

pub begin_relevancy_spec : {M : Type 1} → statement M
begin_relevancy_spec =
    tie.close
    (tie.spec
    (λ c κs. search rules)  -- begin-requires
    (λ c κs. search rules)  -- pack_moved-requires
    (λ c. search rules)  -- shape_of-answer
    (λ c. search rules)  -- shape_of-work
    (λ c.
    let begin = c.begin in
    let packed = c.pack_moved.ensures in
    (packed.0 ∙ relevancy_packed _ _ _ _ begin.ensures.0 begin.ensures.1, packed.1 ∙ begin.ensures.1, begin.ensures.2, begin.ensures.3)))  -- returns
