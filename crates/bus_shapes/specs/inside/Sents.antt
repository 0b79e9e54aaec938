-- What holds of each transmission that is told of. No public clause cites it.
use Rattle.std.specs.Prelude.{◌≤◌}
use Rattle.bus_shapes.specs.Sayings.{Sent}

-- Each transmission ends no earlier than it begins.
abbrev pub IsInOrder : Sent → Type 0
IsInOrder sent = sent.moment ≤ sent.end
