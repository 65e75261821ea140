use Rattle.std.proofs.Common.{ℕ, replicate, sym, ◌∙◌, arith, rules}
use lib.ListN.{length-replicate}
use Rattle.ground.specs.Walks.{magic}
use Rattle.report.proofs.PrintLaws.{ReadInto, refusal_printed, text_taken, taken_lawful, magic-printed, Put-Out}
use Rattle.report.proofs.program.print_magic.Goals as goal

pub put_verdict-requires : goal.put_verdict-requires
put_verdict-requires c =
    let taken = text_taken c.args.text.now (replicate 4096 0) (length-replicate {A = ℕ} 4096 0) c.read.new.table (sym c.in-Ok.is ∙ c.read.ensures.0) c.read.ensures.1 in
    record { lawful = taken_lawful c.args.text.now c.read.new.table taken; in_bounds = search rules }

pub returns-in-Err : goal.returns-in-Err
returns-in-Err c =
    Put-Out (rw c.number.ensures at c.put_head.ensures)
    (refusal_printed c.args.text.now (replicate 4096 0) (length-replicate {A = ℕ} 4096 0) magic c.in-Err.refusal (sym c.in-Err.is ∙ c.read.ensures.0))

pub returns-in-Ok : goal.returns-in-Ok
returns-in-Ok c =
    let tb = c.read.new.table in
    let taken = text_taken c.args.text.now (replicate 4096 0) (length-replicate {A = ℕ} 4096 0) tb (sym c.in-Ok.is ∙ c.read.ensures.0) c.read.ensures.1 in
    Put-Out c.put_verdict.ensures
    (magic-printed c.args.text.now tb taken (replicate 16384 0) (replicate 1024 0) (replicate 65536 0) c.fit-reply.new.answer c.fit-reply.result.verdict
    (omega (arith, length-replicate {A = ℕ} 16384 0))
    (omega (arith, length-replicate {A = ℕ} 1024 0)) (omega (arith, length-replicate {A = ℕ} 65536 0)) c.fit-reply.ensures.0 c.fit-reply.ensures.3)
