use Rattle.std.proofs.Common.{refl}
use Rattle.bus_page.specs.Styles.{colours_text}
use Rattle.bus_page.proofs.style.colours.Goals as goal

pub returns : goal.returns
unfolding colours_text
returns c = refl
