use borrow.Author.Rules.{rules}
use Rattle.assuming.proofs.FactLaws.{fact_added}
use Rattle.assuming.proofs.fact.add_fact.Goals as goal

pub returns : goal.returns
returns c = fact_added _ c.requires.lawful c.requires.table_bound.0 _ c.requires.table_bound.1 _ _ c.put_fact.ensures c.append.ensures
