use Rattle.std.proofs.Common.{◌≡◌, refl, sym, subst}
use Rattle.bus_command.specs.Acts.{Ends}
use Rattle.bus_command.specs.Outside.{sink_seen}
use Rattle.bus_command.specs.Readers.{Trace, entire, two_sources}
use Rattle.bus_command.specs.declared.outcome.Outcome.TheVariants.{Done}
use Rattle.bus_command.proofs.DoLaws.{answered, refused}
use Rattle.bus_tool.specs.Due.{spaced_outcome}
use Rattle.bus_tool.specs.Refusals.{refuse, Unspaced}
use Rattle.bus_wave.specs.WaveTexts.{wave_text}
use Rattle.bus_tool.proofs.wave.wave.Goals as goal

pub returns-in-Ok : goal.returns-in-Ok
returns-in-Ok g c =
    subst (λ r. Ends (two_sources entire Trace) (spaced_outcome r) (λ text. text ≡ wave_text c.args.trace.now) (sink_seen g.K.Sink c.args.out.now)
    (sink_seen g.K.Sink c.write_wave.new.sink) c.after_writing.result) c.in-Ok.ensures.exact
    (answered (two_sources entire Trace) Done (λ text. text ≡ wave_text c.args.trace.now) g.K.Sink c.args.out.now c.write_wave.new.sink
    (wave_text c.args.trace.now) c.write_wave.result c.after_writing.result refl refl c.write_wave.ensures.written c.after_writing.ensures)

pub returns-in-Err : goal.returns-in-Err
returns-in-Err g c =
    let seen = sink_seen g.K.Sink c.args.out.now in
    subst (λ r. Ends (two_sources entire Trace) (spaced_outcome r) (λ text. text ≡ wave_text c.args.trace.now) seen seen c.refuse.result)
    c.in-Err.ensures.exact
    (subst (Ends (two_sources entire Trace) (refuse (Unspaced c.in-Err.fault)) (λ text. text ≡ wave_text c.args.trace.now) seen seen)
    (sym c.refuse.ensures)
    (refused (two_sources entire Trace) (λ text. text ≡ wave_text c.args.trace.now) seen (refuse (Unspaced c.in-Err.fault)) refl refl))
