use Rattle.std.proofs.Common.{◌≡◌, map, take}
use Rattle.bus_audit.specs.inside.Keeping.{lazy_of}
use Rattle.bus_audit.proofs.lazy_timers.lazy_all.Given as goal

abbrev pub invariant-loop-watch : goal.invariant-loop-watch
invariant-loop-watch l = l.timers.items ≡ map lazy_of (take l.watch-index l.watches)
