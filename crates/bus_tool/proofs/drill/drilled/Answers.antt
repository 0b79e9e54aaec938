use Rattle.std.proofs.Common.{arith, length, refl, sym, ap, ◌∙◌, subst}
use Rattle.bus_strings.specs.Transmissions.{IsByMoment}
use Rattle.bus_audit.specs.Breaches.{garbled_count}
use Rattle.bus_tool.proofs.DrillLemmas.{drill_fails, drill_finds}
use Rattle.bus_tool.proofs.TraceLemmas.{by_moment}
use Rattle.bus_tool.proofs.drill.drilled.Goals as goal

pub returns-in-Err-clause-only : goal.returns-in-Err-clause-only
returns-in-Err-clause-only c =
    drill_fails c.args.number _ _ c.in-Err.error c.refuse_schedule.result (c.drills_are_accepted.ensures c.args.number) c.in_ok-table.ensures.table
    c.in_ok-table.ensures.hands c.in-Err.ensures.limit.refused c.refuse_schedule.ensures

pub count_received-requires : goal.count_received-requires
count_received-requires c =
    subst IsByMoment (sym c.deref-2.ensures.value) (by_moment c.in-Ok.ran.list.items c.in-Ok.ensures.run.lawful.ordered)

pub returns-clause-found : goal.returns-clause-found
returns-clause-found c =
    drill_finds c.args.number _ _ c.in-Ok.ran.list.items c.deref-2.result.now _ c.in_ok-table.ensures.table c.in_ok-table.ensures.hands
    c.in-Ok.ensures.run refl c.sender_count.ensures.count c.round_count.ensures.count
    (omega (arith, c.len.ensures, c.deref.ensures.len, ap length c.deref.ensures.value))
    c.in-Ok.ensures.end (c.count_garbled.ensures ∙ ap garbled_count c.deref.ensures.value)
    c.deref-2.ensures.value c.count_received.ensures
