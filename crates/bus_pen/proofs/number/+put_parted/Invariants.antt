use Rattle.bus_pen.proofs.number.+put_parted.Given as goal

abbrev pub decreases-put_parted : goal.decreases-put_parted
decreases-put_parted g l = l.number
