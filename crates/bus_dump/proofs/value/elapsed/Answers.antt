use Rattle.std.proofs.Common.{Bool, eqb, Option, get_or, unwrap_or, sym, ap}
use Rattle.std.proofs.lemmas.Bool.{eq-eqb, ne_eqb}
use Rattle.bus_dump.specs.Signals.{no_elapsed}
use Rattle.bus_dump.specs.Timers.{Elapsed}
use Rattle.bus_dump.proofs.ValueLemmas.{found_at, none_more}
use Rattle.bus_dump.proofs.value.elapsed.Goals as goal

pub returns-then-one-terminal : goal.returns-then-one-terminal
returns-then-one-terminal c =
    let x : Elapsed = get_or c.args.timers.now c.loop-one.one-index no_elapsed in
    let test : Elapsed → Bool = λ (e : Elapsed). eqb e.terminal c.args.terminal in
    sym (ap (λ (o : Option Elapsed). unwrap_or o no_elapsed)
    (found_at test c.args.timers.now c.loop-one.one-index no_elapsed c.loop-one-test.true c.loop-one.invariant
    (eq-eqb x.terminal c.args.terminal c.if-one-terminal.true)))

pub loop-one-preserved : goal.loop-one-preserved
loop-one-preserved c =
    let x : Elapsed = get_or c.args.timers.now c.loop-one.one-index no_elapsed in
    let test : Elapsed → Bool = λ (e : Elapsed). eqb e.terminal c.args.terminal in
    none_more test c.args.timers.now c.loop-one.one-index no_elapsed c.loop-one-test.true c.loop-one.invariant
    (ne_eqb x.terminal c.args.terminal c.if-one-terminal.false)
