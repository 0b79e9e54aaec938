use Rattle.bus_dump.proofs.save_file.show_among.Goals as goal

pub returns : goal.returns
returns g c = rw c.is_open-folded.ensures at c.show_lane.ensures
