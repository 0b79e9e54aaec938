use Rattle.std.proofs.Common.{arith, ◌≡◌, length, refl}
use Rattle.std.proofs.lemmas.Option.{slice_get_read}
use Rattle.bus_medium.specs.Delays.{cable, later, heard}
use Rattle.bus_cable.specs.inside.Ranks.{rank, rank_in}
use Rattle.bus_propagation.specs.Numbered.{numbered}
use Rattle.bus_cable.proofs.HearingLemmas.{rank_heard, passed_more}
use Rattle.bus_cable.proofs.hearing.passed.Goals as goal

pub loop-at-preserved : goal.loop-at-preserved
loop-at-preserved c =
    let list = c.args.list.now in
    let delay = cable (numbered c.args.places.now) in
    let x = c.index-list-at.result in
    let here : rank_in (heard delay c.args.number list) c.loop-at.at ≡ rank (later (delay x c.args.number) x) =
    rank_heard delay c.args.number list c.loop-at.at x (slice_get_read list (length list) c.loop-at.at x refl c.loop-at-test.true c.index-list-at.is) in
    passed_more (rank_in (heard delay c.args.number list)) c.args.from c.loop-at.at c.args.bound c.loop-at.invariant (omega (arith, here, c.rank.ensures.value, c.if-rank-bound.false))
