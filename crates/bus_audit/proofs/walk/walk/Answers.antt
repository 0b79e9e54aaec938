use Rattle.std.proofs.Common.{arith, ◌≡◌, ◌≤◌, ◌+◌, ℕ, map, length, refl, sym, ap, subst}
use Rattle.bus_audit.specs.declared.lazy_timers.Heard.{Heard}
use Rattle.bus_audit.specs.inside.Watches.{settled}
use Rattle.bus_audit.specs.inside.Keeping.{watches_of, AreKept}
use Rattle.bus_audit.specs.inside.Standing.{Judged}
use Rattle.bus_audit.proofs.Starting.{Started, settled_watches, settled_kept, some_sg}
use Rattle.bus_strings.proofs.MemberLaws.{at_in}
use Rattle.bus_audit.proofs.Going.{judged_none, judged_entry, judged_more, judged_all, entry_read}
use Rattle.bus_audit.proofs.walk.walk.Goals as goal

pub loop-x-init : goal.loop-x-init
loop-x-init c =
    let table = c.args.table.now in
    let trace = c.args.trace.now in
    let first : Heard = record { from = 0; ended = 0; sg = c.args.table.now.sg } in
    let sg : c.sg.result ≡ c.args.table.now.sg = c.sg.ensures.value in
    let least : c.args.table.now.sg ≤ c.quiet-quiet.result = c.quiet-quiet.ensures.least in
    let made = subst (λ ks. watches_of first ks ≡ map (settled table trace.holds) table.senders) (sym c.requires) (settled_watches table trace.holds table.senders) in
    let begun : Started table trace c.quiet-quiet.result (record { from = 0; ended = 0; sg = c.sg.result }) c.args.timers.now =
    subst (λ n. Started table trace c.quiet-quiet.result (record { from = 0; ended = 0; sg = n }) c.args.timers.now) (sym sg) (record {
      judged = judged_none table trace (record { moment = 0; end = 0 }) (watches_of first c.args.timers.now) c.senders-valid.ensures.valid refl refl made;
      kept = subst (λ ks. AreKept first (c.quiet-quiet.result + 0) (c.quiet-quiet.result + 0) ks) (sym c.requires) (settled_kept table trace.holds (c.quiet-quiet.result + 0) (omega (arith, least, some_sg table c.senders-valid.ensures.valid)));
    }) in
    record { judged = begun.judged; kept = begun.kept }

pub step-requires-clause-there : goal.step-requires-clause-there
step-requires-clause-there c = at_in c.args.trace.now.list c.loop-x.x-index c.x-item.result (entry_read c.args.trace.now.list c.list-x-items.result.now c.loop-x.x-index c.x-item.result c.list-x-items.ensures.value c.loop-x-test.true c.x-item.is)

pub step-requires-clause-judged : goal.step-requires-clause-judged
step-requires-clause-judged c =
    judged_entry c.args.table.now c.args.trace.now c.loop-x.progress (watches_of c.loop-x.heard c.loop-x.timers) c.loop-x.x-index c.x-item.result c.list-x-items.ensures.ranges
    (entry_read c.args.trace.now.list c.list-x-items.result.now c.loop-x.x-index c.x-item.result c.list-x-items.ensures.value c.loop-x-test.true c.x-item.is) c.loop-x.invariant.judged

pub loop-x-preserved : goal.loop-x-preserved
loop-x-preserved c = record {
  judged = judged_more c.args.table.now c.args.trace.now c.in_ok-progress.progress (watches_of c.step.new.heard c.step.new.timers) c.loop-x.x-index c.x-item.result c.list-x-items.ensures.ranges
      (entry_read c.args.trace.now.list c.list-x-items.result.now c.loop-x.x-index c.x-item.result c.list-x-items.ensures.value c.loop-x-test.true c.x-item.is) c.in_ok-progress.ensures.ok;
  kept = c.in_ok-progress.ensures.kept;
}

pub reach-requires-clause-judged : goal.reach-requires-clause-judged
reach-requires-clause-judged c =
    let past : length c.list-x-items.result.now ≤ c.loop-x.x-index = omega arith in
    subst (λ (h : ℕ). Judged c.args.table.now c.args.trace.now c.loop-x.progress (watches_of c.loop-x.heard c.loop-x.timers) h 0) (sym c.horizon-horizon.ensures.value)
    (judged_all c.args.table.now c.args.trace.now c.loop-x.progress (watches_of c.loop-x.heard c.loop-x.timers) c.loop-x.x-index (omega (arith, ap length c.list-x-items.ensures.value, past)) c.loop-x.invariant.judged)
