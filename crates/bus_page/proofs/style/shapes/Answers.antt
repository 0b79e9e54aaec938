use Rattle.std.proofs.Common.{refl}
use Rattle.bus_page.specs.Styles.{shapes_text}
use Rattle.bus_page.proofs.style.shapes.Goals as goal

pub returns : goal.returns
unfolding shapes_text
returns c = refl
