use Rattle.std.proofs.Common.{List, map, refl, ap, ◌∙◌}
use Rattle.bus_audit.specs.declared.answer.AuditAnswer.TheVariants.{Breach}
use Rattle.bus_audit.specs.Breaches.{answer_of}
use Rattle.bus_trace.specs.declared.hold.Hold.{Hold}
use Rattle.bus_audit.specs.inside.Watches.{settled}
use Rattle.bus_audit.specs.inside.Keeping.{lazy_of}
use Rattle.bus_audit.proofs.Going.{judged_none}
use Rattle.bus_audit.proofs.auditing.audit.Goals as goal

pub returns-in-Err-clause-value : goal.returns-in-Err-clause-value
returns-in-Err-clause-value c =
    let table = c.args.table.now in
    let trace = c.args.trace.now in
    let f = c.in-Err.found in
    c.one_answer.ensures.once table trace (Breach f.moment f.terminal f.kind) (answer_of table trace) c.in-Err.ensures.err (c.one_answer.ensures.computed table trace c.senders-valid.ensures.valid c.list-ranges.ensures.ranges)

pub lazy_all-requires : goal.lazy_all-requires
lazy_all-requires c =
    (judged_none c.args.table.now c.args.trace.now (record { moment = 0; end = 0 }) c.deref.result.now c.senders-valid.ensures.valid refl refl (c.deref.ensures.value ∙ c.in_ok-watches.ensures ∙ ap (λ (hs : List Hold). map (settled c.args.table.now hs) c.args.table.now.senders) c.holds.ensures.value)).far.low

pub walk-requires : goal.walk-requires
walk-requires c = c.deref_mut.ensures.value ∙ c.in_ok-timers.ensures ∙ ap (map lazy_of) (c.deref.ensures.value ∙ c.in_ok-watches.ensures ∙ ap (λ (hs : List Hold). map (settled c.args.table.now hs) c.args.table.now.senders) c.holds.ensures.value)
