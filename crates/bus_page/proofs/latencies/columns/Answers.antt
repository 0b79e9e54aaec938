use Rattle.std.proofs.Common.{refl}
use Rattle.bus_page.specs.Latencies.{columns_text}
use Rattle.bus_page.proofs.latencies.columns.Goals as goal

pub returns : goal.returns
unfolding columns_text
returns c = refl
