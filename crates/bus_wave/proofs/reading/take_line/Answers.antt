use Rattle.std.proofs.Common.{sym, subst, Result}
use Rattle.std.proofs.lemmas.Result.{err_from_is_err_and}
use Rattle.bus_wave.specs.declared.fault.WaveReason.{WaveReason}
use Rattle.bus_wave.specs.inside.Drafts.{state_of}
use Rattle.bus_text.specs.inside.Gives.{StepGives}
use Rattle.bus_wave.specs.Judging.{State}
use Rattle.bus_wave.proofs.ReadLemmas.{read_closed, read_error, read_symbol}
use Rattle.bus_wave.proofs.reading.take_line.Goals as goal

pub returns-then-is_closed-clause-gives : goal.returns-then-is_closed-clause-gives
returns-then-is_closed-clause-gives c = read_closed c.args.beginners.now.senders.now (state_of c.args.draft.now) c.args.line (sym c.if-is_closed.ensures)

pub returns-in_err-symbol-clause-gives : goal.returns-in_err-symbol-clause-gives
returns-in_err-symbol-clause-gives c =
    let p = err_from_is_err_and c.from_residual.result c.from_residual.ensures.1 in
    rw (p.1, p.2) (read_error c.args.beginners.now.senders.now (state_of c.args.draft.now) c.args.line c.in_err-symbol.field-0.0 (sym c.if-is_closed.ensures) c.in_err-symbol.was)

pub returns-clause-gives : goal.returns-clause-gives
returns-clause-gives c =
    subst (λ (r : Result State WaveReason). StepGives (state_of c.take.new.self) c.take.result r)
    (read_symbol c.args.beginners.now.senders.now (state_of c.args.draft.now) c.args.line c.in_ok-symbol.symbol (sym c.if-is_closed.ensures) c.in_ok-symbol.was)
    c.take.ensures.gives
