use Rattle.std.proofs.Common.{List, ℕ, arith, ap, length, sym, subst}
use Rattle.bus_outer.specs.Texts.{Adds}
use Rattle.bus_outer.proofs.TextLaws.{◌▸◌}
use Rattle.bus_regime.specs.Gaps.{gaps}
use Rattle.bus_regime.proofs.GapPlaces.{length-gaps}
use Rattle.bus_explain.specs.Senders.{offset_row}
use Rattle.bus_explain.proofs.OrderLemmas.{all_lines, next_line}
use Rattle.bus_explain.proofs.senders.put_offsets.Goals as goal

pub loop-k-preserved : goal.loop-k-preserved
loop-k-preserved g c =
    let next = next_line offset_row (gaps c.args.table.now) c.loop-k.k c.gap_at-gap.result
    (omega (arith, c.loop-k-test.true, length-gaps c.args.table.now, ap length c.senders-k-end.ensures.value)) c.gap_at-gap.ensures in
    subst (λ (t : List ℕ). Adds g.K.Sink.held g.K.Sink.faults c.args.sink.now c.put_offset.new.sink c.args.text.now c.put_offset.new.text t) (sym next)
    (c.loop-k.invariant ▸ c.put_offset.ensures)

pub returns : goal.returns
returns g c =
    let all = all_lines offset_row (gaps c.args.table.now) c.loop-k.k
    (omega (arith, c.loop-k-test.false, c.loop-k.auto.k-end, length-gaps c.args.table.now, ap length c.senders-k-end.ensures.value)) in
    subst (λ (t : List ℕ). Adds g.K.Sink.held g.K.Sink.faults c.args.sink.now c.loop-k.sink c.args.text.now c.loop-k.text t) all c.loop-k.invariant
