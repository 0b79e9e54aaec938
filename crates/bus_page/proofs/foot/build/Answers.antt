use Rattle.std.proofs.Common.{refl}
use Rattle.bus_page.specs.Feet.{build_text}
use Rattle.bus_page.proofs.foot.build.Goals as goal

pub returns : goal.returns
unfolding build_text
returns c = refl
