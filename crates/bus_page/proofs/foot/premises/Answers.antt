use Rattle.std.proofs.Common.{refl}
use Rattle.bus_page.specs.Feet.{premises_text}
use Rattle.bus_page.proofs.foot.premises.Goals as goal

pub returns : goal.returns
unfolding premises_text
returns c = refl
