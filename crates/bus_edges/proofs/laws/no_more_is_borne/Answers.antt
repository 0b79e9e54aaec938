use Rattle.bus_edges.proofs.Margins.{no_more_is_borne}
use Rattle.bus_edges.proofs.laws.no_more_is_borne.Goals as goal

pub returns : goal.returns
returns c = no_more_is_borne
