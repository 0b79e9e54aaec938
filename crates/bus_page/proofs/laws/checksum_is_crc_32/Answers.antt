use Rattle.std.proofs.Common.{refl}
use Rattle.bus_page.proofs.laws.checksum_is_crc_32.Goals as goal

pub returns : goal.returns
returns c = refl
