-- `lutsamik::calls::resume_magic` meets its contract.
use borrow.Author.Rules.{rules}
use mathlib.Core.Path.{◌∙◌}
use Rattle.magic.specs.Sessions.{magic_resumed}
use Rattle.lutsamik.proofs.CallLaws.{call_packed}
use Rattle.lutsamik.proofs.calls.resume_magic.Statement.{statement}
use Rattle.lutsamik.proofs.calls.resume_magic.Tie as tie

pub resume_magic_spec : {M : Type 1} → statement M
resume_magic_spec =
    tie.close
    (tie.spec
    (λ c κs. search rules)  -- resume-requires
    (λ c κs. search rules)  -- pack_moved-requires
    (λ c. search rules)  -- shape_of-rules
    (λ c. search rules)  -- shape_of-answer
    (λ c. search rules)  -- shape_of-work
    (λ c.
    let resume = c.resume in
    let a = c.args in
    let on = magic_resumed a.session a.further a.table.now a.rules.now a.answer.now a.work.now in
    let packed = c.pack_moved.ensures in
    (packed.0 ∙ call_packed on a.session resume.ensures.0 resume.ensures.1, packed.1 ∙ resume.ensures.1, resume.ensures.2, resume.ensures.3, resume.ensures.4)))  -- returns
