use Rattle.std.proofs.Common.{◌≡◌}
use Rattle.std.specs.List.{list_any}
use Rattle.bus_picture.specs.Kinds.{has_sync, is_sync}
use Rattle.bus_picture.proofs.drawn_lines.any_sync.Given as goal

abbrev pub invariant-loop-sent : goal.invariant-loop-sent
invariant-loop-sent l = list_any (is_sync l.scale l.sg) l.sent-iterator ≡ has_sync l.scale l.sg l.list
