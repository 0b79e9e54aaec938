use Rattle.std.proofs.Common.{◌∙◌, sym}
use Rattle.bus_medium.specs.Delays.{cable}
use Rattle.bus_propagation.specs.Numbered.{numbered}
use Rattle.bus_propagation.proofs.RestLemmas.{attended_follows, rests_follows, not_about}
use Rattle.bus_propagation.proofs.attending.attend_before.Goals as goal

pub returns-then-may_start-clause-follows : goal.returns-then-may_start-clause-follows
returns-then-may_start-clause-follows c = attended_follows (cable (numbered c.args.places.now)) c.args.list.now c.args.moment c.args.seat.now c.attend.new.seat c.attend.ensures

pub returns-else-may_start-clause-follows : goal.returns-else-may_start-clause-follows
returns-else-may_start-clause-follows c = rests_follows (cable (numbered c.args.places.now)) c.args.list.now c.args.moment c.args.seat.now c.requires.place

pub returns-else-may_start-clause-attends : goal.returns-else-may_start-clause-attends
returns-else-may_start-clause-attends c u is early = absurd (not_about c.args.seat.now.next c.args.until u (sym c.may_start.ensures ∙ c.if-may_start.false) is early)
