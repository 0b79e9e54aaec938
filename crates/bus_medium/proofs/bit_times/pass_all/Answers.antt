use Rattle.std.proofs.Common.{◌<◌, length, get_or, arith, sym, ◌∙◌}
use Rattle.std.proofs.lemmas.Option.{slice_get-get_or}
use Rattle.bus_medium.specs.inside.Runs.{seat_sounds}
use Rattle.bus_medium.specs.inside.Lasting.{PassedMany}
use Rattle.bus_medium.proofs.Seats.{any_at}
use Rattle.bus_medium.proofs.Stretching.{each_more, each_all}
use Rattle.bus_medium.proofs.bit_times.pass_all.Goals as goal

pub pass_one-requires-clause-own : goal.pass_one-requires-clause-own
pass_one-requires-clause-own g c on =
    let i = c.loop-seat.seat-index in
    let x = get_or c.loop-seat.seats i c.seat-item.result in
    let within : i < length c.loop-seat.seats = omega arith in
    c.requires.own (any_at seat_sounds c.args.seats.now i x (sym (c.loop-seat.invariant.rest i (omega arith)) ∙ slice_get-get_or c.loop-seat.seats i c.seat-item.result within) on)

pub pass_one-requires-clause-room : goal.pass_one-requires-clause-room
pass_one-requires-clause-room g c =
    let i = c.loop-seat.seat-index in
    let x = get_or c.loop-seat.seats i c.seat-item.result in
    let within : i < length c.loop-seat.seats = omega arith in
    c.requires.room i x (sym (c.loop-seat.invariant.rest i (omega arith)) ∙ slice_get-get_or c.loop-seat.seats i c.seat-item.result within)

pub loop-seat-preserved : goal.loop-seat-preserved
loop-seat-preserved g c =
    let i = c.loop-seat.seat-index in
    let x = get_or c.loop-seat.seats i c.seat-item.result in
    let within : i < length c.loop-seat.seats = omega arith in
    each_more (PassedMany g.C.Core c.args.carrier 1) c.args.seats.now c.loop-seat.seats i x c.pass_one.new.seat c.loop-seat.invariant within
    (slice_get-get_or c.loop-seat.seats i c.seat-item.result within) c.pass_one.ensures

pub returns : goal.returns
returns g c = each_all (PassedMany g.C.Core c.args.carrier 1) c.args.seats.now c.loop-seat.seats c.loop-seat.seat-index c.loop-seat.invariant (omega arith)
