use Rattle.std.proofs.Common.{arith, sym, ap, ◌∙◌}
use Rattle.bus_margins.specs.Buses.{bus_of}
use Rattle.bus_margins_periodic.specs.Least.{holds}
use Rattle.bus_margins_periodic.specs.Rooms.{held_room}
use Rattle.bus_margins_periodic.proofs.KeepingLemmas.{hold_none, hold_next, hold_all, lacks}
use Rattle.bus_margins_periodic.proofs.keeping.lead_order_holds.Goals as goal

pub loop-late-init : goal.loop-late-init
loop-late-init c = hold_none (λ i. held_room (bus_of c.args.bounds c.args.table.now) (bus_of c.args.bounds c.args.table.now).senders i)

pub returns-then-not-held_holds : goal.returns-then-not-held_holds
returns-then-not-held_holds c =
    sym (lacks (λ i. held_room (bus_of c.args.bounds c.args.table.now) (bus_of c.args.bounds c.args.table.now).senders i) (bus_of c.args.bounds c.args.table.now).senders c.loop-late.late
    (omega (arith, c.loop-late-test.true, c.count-senders.ensures.value))
    (sym (c.held_holds.ensures ∙ ap (λ n. holds (held_room (bus_of c.args.bounds c.args.table.now) n c.loop-late.late)) c.count-senders.ensures.value) ∙ c.if-not-held_holds.true))

pub loop-late-preserved : goal.loop-late-preserved
loop-late-preserved c =
    hold_next (λ i. held_room (bus_of c.args.bounds c.args.table.now) (bus_of c.args.bounds c.args.table.now).senders i) c.loop-late.late c.loop-late.invariant
    (sym (c.held_holds.ensures ∙ ap (λ n. holds (held_room (bus_of c.args.bounds c.args.table.now) n c.loop-late.late)) c.count-senders.ensures.value) ∙ c.if-not-held_holds.false)

pub returns : goal.returns
returns c =
    sym (hold_all (λ i. held_room (bus_of c.args.bounds c.args.table.now) (bus_of c.args.bounds c.args.table.now).senders i) (bus_of c.args.bounds c.args.table.now).senders c.loop-late.late
    (omega (arith, c.loop-late-test.false, c.count-senders.ensures.value)) c.loop-late.invariant)
