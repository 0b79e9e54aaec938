use Rattle.std.proofs.Common.{◌≡◌, ℕ, ◌+◌, ◌*◌, ◌<◌, List, arith, map, sym, ap, subst}
use Rattle.std.specs.List.{flat_map, range_with_len}
use Rattle.bus_outer.specs.Texts.{Adds}
use Rattle.bus_outer.proofs.TextLaws.{◌▸◌}
use Rattle.bus_picture.specs.Offsets.{offset_moment, rounds_before, rounds_in, tick_text}
use Rattle.bus_picture.proofs.OffsetLemmas.{round_below, ticks_more}
use Rattle.bus_picture.proofs.offsets.put_ticks.Goals as goal

-- Each round that is drawn lies before the end of the scale.
pub put_round-requires-clause-low : goal.put_round-requires-clause-low
put_round-requires-clause-low g c =
    let before : c.args.at + (c.rounds_before-first.result + c.loop-k.k) * c.args.ti < c.args.scale.now.to =
    round_below c.args.ti c.args.at c.args.scale.now.to (c.rounds_before-first.result + c.loop-k.k) c.requires.some
    (omega (arith, c.rounds_before-due.ensures, c.min-end.ensures, c.saturating_sub-count.ensures, c.loop-k-test.true)) in
    omega (arith, c.requires.scale.short)

pub loop-k-preserved : goal.loop-k-preserved
loop-k-preserved g c =
    let from : ℕ = rounds_before c.args.ti c.args.at c.args.scale.now.from in
    let here : c.rounds_before-first.result + c.loop-k.k ≡ from + c.loop-k.k = ap (λ (n : ℕ). n + c.loop-k.k) c.rounds_before-first.ensures in
    subst (λ (t : List ℕ). Adds g.K.Sink.held g.K.Sink.faults c.args.sink.now c.put_round.new.sink c.args.text.now c.put_round.new.text t)
    (sym (ticks_more c.args.scale.now c.args.top c.args.ti c.args.at from c.loop-k.k))
    (c.loop-k.invariant ▸ subst (λ (n : ℕ). Adds g.K.Sink.held g.K.Sink.faults c.loop-k.sink c.put_round.new.sink c.loop-k.text c.put_round.new.text
    (tick_text c.args.scale.now c.args.top (offset_moment c.args.ti c.args.at n))) here c.put_round.ensures)

pub returns : goal.returns
returns g c =
    let all : c.loop-k.k ≡ rounds_in c.args.scale.now c.args.ti c.args.at c.args.held =
    omega (arith, c.rounds_before-first.ensures, c.rounds_before-due.ensures, c.min-end.ensures, c.saturating_sub-count.ensures) in
    subst (λ (n : ℕ). Adds g.K.Sink.held g.K.Sink.faults c.args.sink.now c.loop-k.sink c.args.text.now c.loop-k.text
    (flat_map (tick_text c.args.scale.now c.args.top) (map (offset_moment c.args.ti c.args.at)
    (range_with_len (rounds_before c.args.ti c.args.at c.args.scale.now.from) n)))) all c.loop-k.invariant
