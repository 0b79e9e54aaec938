use Rattle.std.proofs.Common.{◌≡◌}
use Rattle.std.specs.List.{list_any}
use Rattle.bus_picture.specs.OverlapBands.{has_overlap_bands, is_overlapped}
use Rattle.bus_picture.proofs.overlap_bands.any_band.Given as goal

abbrev pub invariant-loop-sent : goal.invariant-loop-sent
invariant-loop-sent l = list_any (is_overlapped l.scale) l.sent-iterator ≡ has_overlap_bands l.scale l.list
