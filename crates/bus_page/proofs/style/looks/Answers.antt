use Rattle.std.proofs.Common.{refl}
use Rattle.bus_page.specs.Styles.{looks_text}
use Rattle.bus_page.proofs.style.looks.Goals as goal

pub returns : goal.returns
unfolding looks_text
returns c = refl
