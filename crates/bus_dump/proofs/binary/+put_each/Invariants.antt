use Rattle.bus_dump.proofs.binary.+put_each.Given as goal

abbrev pub decreases-put_each : goal.decreases-put_each
decreases-put_each g l = l.number
