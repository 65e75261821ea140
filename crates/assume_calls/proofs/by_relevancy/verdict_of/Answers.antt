use Rattle.assume_calls.proofs.by_relevancy.verdict_of.Goals as goal

pub returns : goal.returns
returns c = rw (← c.table.view_is) (c.run-reply.ensures.0, c.run-reply.ensures.3)
