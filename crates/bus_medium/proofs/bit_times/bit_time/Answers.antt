use Rattle.std.proofs.Common.{◌≡◌, ◌-◌, ◌^◌, ◌≤◌, arith, ◌∙◌}
use Rattle.std.specs.List.{list_any}
use Rattle.bus_medium.specs.inside.Runs.{seat_sounds}
use Rattle.bus_medium.proofs.Seats.{same_numbers}
use Rattle.bus_medium.proofs.Reaching.{passed_stations, bit_reached}
use Rattle.bus_medium.proofs.bit_times.bit_time.Goals as goal

pub pass_all-requires-clause-room : goal.pass_all-requires-clause-room
pass_all-requires-clause-room g c j x at =
    let room : 2 ^ 62 - c.args.moment ≤ g.C.Core.room x.terminal.core = c.in_ok-decide_all.ensures.decided.room j x at in
    omega (arith, c.requires.moment)

pub returns-clause-numbers : goal.returns-clause-numbers
returns-clause-numbers g c =
    same_numbers c.decide_all.new.seats c.pass_all.new.seats
    (passed_stations g.C.Core c.any_on-carrier.result 1 c.decide_all.new.seats c.pass_all.new.seats c.pass_all.ensures)
    ∙ c.in_ok-decide_all.ensures.numbers

pub returns-clause-reached : goal.returns-clause-reached
returns-clause-reached g c =
    let heard : c.any_on-carrier.result ≡ list_any seat_sounds c.decide_all.new.seats = cc in
    bit_reached g.C.Core c.args.send_order.now.quiet c.args.moment c.any_on-carrier.result c.args.seats.now c.decide_all.new.seats c.pass_all.new.seats
    c.args.list.now.items c.decide_all.new.list.items c.in_ok-decide_all.ensures.decided heard c.pass_all.ensures
