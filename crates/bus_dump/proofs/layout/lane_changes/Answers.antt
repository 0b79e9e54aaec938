use Rattle.std.proofs.Common.{sym}
use Rattle.bus_dump.specs.inside.TimerWalks.{scene_of}
use Rattle.bus_dump.proofs.LaneLemmas.{still_lane}
use Rattle.bus_dump.proofs.layout.lane_changes.Goals as goal

pub returns-then-is_still : goal.returns-then-is_still
returns-then-is_still c =
    sym (still_lane c.args.dump c.args.lane (scene_of c.args.before.now) (scene_of c.args.now.now) (c.is_still.ensures c.if-is_still.true))
