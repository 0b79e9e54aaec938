use Rattle.std.proofs.Common.{refl}
use Rattle.bus_filter.proofs.digits.four_bytes.Goals as goal

pub returns : goal.returns
returns c = rw (c.word_bytes-a.ensures, c.word_bytes-b.ensures, c.word_bytes-c.ensures, c.word_bytes-d.ensures) refl
