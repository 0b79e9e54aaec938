use Rattle.std.proofs.Common.{◌≤◌, ◌<◌, inl, inr, refl, sym, subst, arith}
use Rattle.bus_medium.specs.Delays.{cable}
use Rattle.bus_propagation.specs.Numbered.{numbered}
use Rattle.bus_propagation.specs.inside.Arrivals.{ArePassed}
use Rattle.bus_propagation.specs.inside.Seats.{station_of}
use Rattle.bus_propagation.specs.inside.Hearing.{IsNextStart, ready_moment}
use Rattle.bus_propagation.proofs.ArrivalLemmas.{passed_later}
use Rattle.bus_propagation.proofs.LookingLemmas.{looked_on, looked, none_comes, first_comes}
use Rattle.bus_propagation.proofs.looking.look_ahead.Goals.{in-Some+then-ready_at-arrival, in_default}
use Rattle.bus_propagation.proofs.looking.look_ahead.Goals as goal

pub loop-coming-preserved-then-arrival-moment : goal.loop-coming-preserved-then-arrival-moment
loop-coming-preserved-then-arrival-moment c =
    let delay = cable (numbered c.args.places.now) in
    let list = c.args.list.now in
    let ahead = c.loop-coming.ahead in
    let next = c.behind-ahead.result in
    let a = c.in-Some.coming.arrival in
    let first = c.in-Some.ensures.first in
    let later : ahead.moment < a.end = first.ahead in
    let passed : ArePassed delay c.args.seat.now.terminal list c.in-Some.coming.cursor next.moment =
    subst (ArePassed delay c.args.seat.now.terminal list c.in-Some.coming.cursor) (sym c.behind-ahead.ensures.moment)
    (passed_later delay c.args.seat.now.terminal list c.in-Some.coming.cursor ahead.moment a.end c.in-Some.ensures.passed (omega arith)) in
    record {
      looks = looked_on delay (station_of c.args.seat.now) list c.args.moment c.args.seat.now.timers c.loop-coming.certain ahead next next a.begin a.end
          c.requires.sound c.requires.words c.loop-coming.invariant.looks first (omega (arith, c.ready_at.ensures, c.if-ready_at-arrival.false))
          c.behind-ahead.ensures.moment c.behind-ahead.ensures.due c.behind-ahead.ensures.from (inl (refl, c.if-arrival-moment.true));
      passed = passed;
      within = omega (arith, c.in-Some.ensures.within);
      passed_for_certain = passed;
      within_for_certain = omega (arith, c.in-Some.ensures.within);
    }

pub loop-coming-preserved : goal.loop-coming-preserved
loop-coming-preserved c =
    let delay = cable (numbered c.args.places.now) in
    let list = c.args.list.now in
    let ahead = c.loop-coming.ahead in
    let next = c.behind-ahead.result in
    let a = c.in-Some.coming.arrival in
    let first = c.in-Some.ensures.first in
    let later : ahead.moment < a.end = first.ahead in
    record {
      looks = looked_on delay (station_of c.args.seat.now) list c.args.moment c.args.seat.now.timers c.loop-coming.certain ahead next c.loop-coming.certain a.begin a.end
          c.requires.sound c.requires.words c.loop-coming.invariant.looks first (omega (arith, c.ready_at.ensures, c.if-ready_at-arrival.false))
          c.behind-ahead.ensures.moment c.behind-ahead.ensures.due c.behind-ahead.ensures.from (inr refl);
      passed = subst (ArePassed delay c.args.seat.now.terminal list c.in-Some.coming.cursor) (sym c.behind-ahead.ensures.moment)
          (passed_later delay c.args.seat.now.terminal list c.in-Some.coming.cursor ahead.moment a.end c.in-Some.ensures.passed (omega arith));
      within = omega (arith, c.in-Some.ensures.within);
      passed_for_certain = c.loop-coming.invariant.passed_for_certain;
      within_for_certain = c.loop-coming.invariant.within_for_certain;
    }

pub returns-clause-next : goal.returns-clause-next
returns-clause-next c wake h =
    let delay = cable (numbered c.args.places.now) in
    let s = station_of c.args.seat.now in
    let list = c.args.list.now in
    let ahead = c.loop-coming.ahead in
    let u = ready_moment c.args.seat.now.timing ahead.due ahead.gap_from in
    subst (IsNextStart delay wake s list c.loop-coming.certain.moment) (sym c.ready_at-2.ensures)
    (looked delay wake s list c.args.moment c.args.seat.now.timers c.loop-coming.certain ahead c.requires.sound c.loop-coming.invariant.looks
    (elim c.match-next_arrival.branch [
      | in-Some+then-ready_at-arrival w ↦ first_comes delay s.number list ahead.moment u w.in-Some.coming.arrival.begin w.in-Some.coming.arrival.end w.in-Some.ensures.first
          (subst (λ r. r ≤ w.in-Some.coming.arrival.begin) w.ready_at.ensures w.if-ready_at-arrival.true)
      | in_default w ↦ none_comes delay s.number list ahead.moment u w.in_default.ensures.first
    ]) h)
