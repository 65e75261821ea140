-- The text is read, and what was read compared.
use Rattle.std.proofs.Common.{◌∙◌}
use Rattle.writing.proofs.WriteLaws.{not_read, read_same}
use Rattle.writing.proofs.CompareLaws.{read_ended}
use Rattle.writing.proofs.write.reads_to.Goals as goal

pub same_table-requires : goal.same_table-requires
same_table-requires c = (read_ended _ _ _ c.read_text.ensures c.in-Ok.is, c.requires)

pub returns-in-Ok : goal.returns-in-Ok
returns-in-Ok c = c.same_table.ensures ∙ read_same _ _ _ _ c.read_text.ensures c.in-Ok.is

pub returns-in-Err : goal.returns-in-Err
returns-in-Err c = not_read _ _ _ _ c.read_text.ensures c.in-Err.is
