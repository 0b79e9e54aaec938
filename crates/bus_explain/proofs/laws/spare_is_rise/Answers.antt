use Rattle.bus_explain.proofs.FigureLaws as laws
use Rattle.bus_explain.proofs.laws.spare_is_rise.Goals as goal

pub returns : goal.returns
returns c = laws.spare_is_rise
