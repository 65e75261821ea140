-- The table's text is read back.
use Rattle.std.proofs.Common.{◌∙◌}
use Rattle.writing.proofs.WriteLaws.{put_text, valid_read}
use Rattle.writing.proofs.write.valid_within.Goals as goal

pub returns : goal.returns
returns g c = c.reads_to.ensures ∙ valid_read _ _ (put_text c.print_table-n.ensures)
