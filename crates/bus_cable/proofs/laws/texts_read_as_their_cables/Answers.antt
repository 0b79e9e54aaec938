use Rattle.std.specs.Prelude.{Ok}
use Rattle.bus_cable.proofs.BodyLemmas.{is_found, cable_again}
use Rattle.bus_cable.proofs.laws.texts_read_as_their_cables.Goals as goal

pub returns-clause-again : goal.returns-clause-again
returns-clause-again c = λ text cable items h. cable_again cable items text h

pub returns-clause-found : goal.returns-clause-found
returns-clause-found c = λ text cable items h. is_found text (Ok (cable, items)) h
