use Rattle.bus_table.proofs.SizeLaws.{text_length}
use Rattle.bus_table.proofs.laws.canonical_text_is_short.Goals as goal

pub returns : goal.returns
returns c = text_length
