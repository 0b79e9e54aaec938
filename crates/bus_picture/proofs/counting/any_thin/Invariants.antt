use Rattle.std.proofs.Common.{◌≡◌}
use Rattle.std.specs.List.{list_any}
use Rattle.bus_picture.specs.TimeLines.{has_thin, is_shown_thin}
use Rattle.bus_picture.proofs.counting.any_thin.Given as goal

abbrev pub invariant-loop-sent : goal.invariant-loop-sent
invariant-loop-sent l = list_any (is_shown_thin l.scale) l.sent-iterator ≡ has_thin l.scale l.list
