use Rattle.std.specs.Prelude.{IsSomeAnd}
use Rattle.std.proofs.Common.{subst}
use Rattle.bus_stream.specs.Places.{bit_of}
use Rattle.bus_watch.specs.Standing.{CanTake}
use Rattle.bus_watch.proofs.state.State.judge.Goals as goal

pub judge-requires-clause-room : goal.judge-requires-clause-room
judge-requires-clause-room g c =
    subst (λ o. IsSomeAnd o (λ part. CanTake c.args.setting.now.table.now part (bit_of c.args.at.time) c.args.at.terminal)) c.in-Some.is c.requires.room
