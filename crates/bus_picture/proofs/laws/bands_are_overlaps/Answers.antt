use Rattle.bus_picture.proofs.OverlapBandLawLemmas.{overlaps_have_bands, bands_are_overlaps}
use Rattle.bus_picture.proofs.laws.bands_are_overlaps.Goals as goal

pub returns-clause-banded : goal.returns-clause-banded
returns-clause-banded c = overlaps_have_bands

pub returns-clause-overlaps : goal.returns-clause-overlaps
returns-clause-overlaps c = bands_are_overlaps c.sents_are_told.ensures c.places_keep_order.ensures.rise
