use Rattle.std.proofs.Common.{Bool, ◌&&◌, Option, sym, ap, ◌∙◌}
use Rattle.std.specs.Option.{option_map_or}
use Rattle.bus_dump.specs.Seen.{Seen}
use Rattle.bus_dump.specs.Signals.{Floating, is_of, is_on, shown_label}
use Rattle.bus_dump.proofs.ValueLemmas.{no_seen, found_at, none_more}
use Rattle.bus_dump.proofs.value.label.Goals as goal

pub returns-then-is_on_lane : goal.returns-then-is_on_lane
returns-then-is_on_lane c =
    let test : Seen → Bool = λ s. is_of c.args.terminal s && is_on s in
    c.shown_label.ensures ∙ sym (ap (λ (o : Option Seen). option_map_or shown_label o Floating)
    (found_at test c.args.seen.now c.loop-one.one-index no_seen c.loop-one-test.true c.loop-one.invariant
    (sym c.is_on_lane.ensures ∙ c.if-is_on_lane.true)))

pub loop-one-preserved : goal.loop-one-preserved
loop-one-preserved c =
    let test : Seen → Bool = λ s. is_of c.args.terminal s && is_on s in
    none_more test c.args.seen.now c.loop-one.one-index no_seen c.loop-one-test.true c.loop-one.invariant
    (sym c.is_on_lane.ensures ∙ c.if-is_on_lane.false)
