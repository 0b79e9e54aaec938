use Rattle.bus_diagnosis.proofs.sentences.put_diagnosis.Goals as goal

pub returns-in-OnCable : goal.returns-in-OnCable
returns-in-OnCable g c = rw c.in-OnCable.is c.put_cable.ensures
