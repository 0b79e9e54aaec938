use Rattle.std.proofs.Common.{ap, ◌∙◌, arith}
use Rattle.bus_dropout.specs.DropOut.{drop_end}
use Rattle.bus_dropout.proofs.RunLemmas.{the_run, limited_err, limited_memory}
use Rattle.bus_dropout.proofs.run.run_dropout.Goals as goal

pub returns-in_err-end-clause-limit : goal.returns-in_err-end-clause-limit
returns-in_err-end-clause-limit c =
    limited_err (drop_end c.args.table.now c.deref.result.now) (drop_end c.args.table.now c.args.hands.items) c.in_err-end.field-0.0 c.from_residual.result
    (ap (drop_end c.args.table.now) c.deref.ensures.value) c.in_err-end.ensures.limit c.from_residual.ensures.1

pub returns-in_err-bus-clause-limit : goal.returns-in_err-bus-clause-limit
returns-in_err-bus-clause-limit c =
    limited_memory (drop_end c.args.table.now c.deref.result.now) (drop_end c.args.table.now c.args.hands.items) c.from_residual-in_err-bus.result
    (ap (drop_end c.args.table.now) c.deref.ensures.value) c.in_ok-end.ensures.limit.within c.from_residual-in_err-bus.ensures.1

pub returns-in_err-list-clause-limit : goal.returns-in_err-list-clause-limit
returns-in_err-list-clause-limit c =
    limited_memory (drop_end c.args.table.now c.deref.result.now) (drop_end c.args.table.now c.args.hands.items) c.from_residual-in_err-list.result
    (ap (drop_end c.args.table.now) c.deref.ensures.value) c.in_ok-end.ensures.limit.within c.from_residual-in_err-list.ensures.1

pub returns-clause-run : goal.returns-clause-run
returns-clause-run c =
    the_run c.args.table.now c.args.hands.items c.in_ok-list.list.items _ _ c.in_ok-end.end c.in_ok-bus.ensures.quiet c.in_ok-bus.ensures.stations
    (c.in_ok-end.ensures.end ∙ ap (drop_end c.args.table.now) c.deref.ensures.value) c.in_ok-list.ensures.lawful
    (c.dropout_is_lawful.ensures c.args.table.now c.args.hands.items c.table_is_valid.ensures c.requires.aperiodic c.requires.hands c.requires.long)

pub returns-clause-limit : goal.returns-clause-limit
returns-clause-limit c =
    let same = ap (drop_end c.args.table.now) c.deref.ensures.value in
    let short = c.in_ok-end.ensures.limit.within in
    record { within = omega (arith, same, short); too_long = λ more. absurd (omega (arith, same, short)); refused = tt }
