use Rattle.std.proofs.Common.{◌≡◌, ◌≤◌, List, arith, sym, subst, ap, ◌∙◌}
use Rattle.std.specs.List.{list_any}
use Rattle.bus_strings.specs.Messages.{Entry}
use Rattle.bus_dump.specs.Signals.{is_on}
use Rattle.bus_dump.specs.declared.walk.Walk.{Walk}
use Rattle.bus_dump.specs.inside.Walks.{BeginsFrom, SteadyTo}
use Rattle.bus_dump.proofs.LawLemmas.{carrier_seen}
use Rattle.bus_dump.proofs.TimerWalkLemmas.{lasts_to}
use Rattle.bus_dump.proofs.timer_walk.TimerWalk.look.Goals as goal

pub attend-now-requires-clause-carrier : goal.attend-now-requires-clause-carrier
attend-now-requires-clause-carrier c =
    let list : List Entry = c.args.self.now.walk.list.now in
    sym (carrier_seen list c.args.t) ∙ sym (ap (list_any is_on) (c.as_slice.ensures.value ∙ c.look_around-next.ensures.seen)) ∙ sym c.has_carrier-carrier.ensures

pub returns-clause-lasts : goal.returns-clause-lasts
returns-clause-lasts c =
    let walk : c.attend-now.new.self.walk ≡ c.args.self.now.walk = c.attend-now.ensures.walk in
    let low : c.min.result ≤ c.look_around-next.result = omega (arith, c.min.ensures) in
    lasts_to c.args.t c.min.result c.attend-now.new.self c.attend-now.ensures.timer_walk c.attend-now.ensures.since c.attend-now.ensures.lasts
    (omega (arith, c.min.ensures, c.look_around-next.ensures.later, c.attend-now.ensures.lasts.still)) (omega (arith, c.min.ensures))
    (subst (λ (w : Walk). BeginsFrom w.list.now w.begun c.min.result) (sym walk)
    (λ k x h e. (let m : c.look_around-next.result ≤ x.moment = c.look_around-next.ensures.ahead k x h e in omega arith)))
    (subst (λ (w : Walk). SteadyTo w.list.now c.args.t c.min.result) (sym walk)
    (λ later a b. c.look_around-next.ensures.steady later a (omega arith)))
