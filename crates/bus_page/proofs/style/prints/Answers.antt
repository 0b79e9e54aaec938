use Rattle.std.proofs.Common.{refl}
use Rattle.bus_page.specs.Styles.{prints_text}
use Rattle.bus_page.proofs.style.prints.Goals as goal

pub returns : goal.returns
unfolding prints_text
returns c = refl
