use Rattle.std.proofs.Common.{Option, get_or, sym, ap}
use Rattle.std.specs.Option.{option_map_or}
use Rattle.std.proofs.lemmas.Bool.{eq-eqb, ne_eqb}
use Rattle.bus_dump.specs.Seen.{Seen}
use Rattle.bus_dump.specs.Signals.{Number, Floating, is_of}
use Rattle.bus_dump.proofs.ValueLemmas.{no_seen, found_at, none_more}
use Rattle.bus_dump.proofs.value.message.Goals as goal

pub returns-then-one-terminal : goal.returns-then-one-terminal
returns-then-one-terminal c =
    let x : Seen = get_or c.args.seen.now c.loop-one.one-index no_seen in
    sym (ap (λ (o : Option Seen). option_map_or (λ (s : Seen). Number s.number) o Floating)
    (found_at (is_of c.args.terminal) c.args.seen.now c.loop-one.one-index no_seen c.loop-one-test.true c.loop-one.invariant
    (eq-eqb x.terminal c.args.terminal c.if-one-terminal.true)))

pub loop-one-preserved : goal.loop-one-preserved
loop-one-preserved c =
    let x : Seen = get_or c.args.seen.now c.loop-one.one-index no_seen in
    none_more (is_of c.args.terminal) c.args.seen.now c.loop-one.one-index no_seen c.loop-one-test.true c.loop-one.invariant
    (ne_eqb x.terminal c.args.terminal c.if-one-terminal.false)
