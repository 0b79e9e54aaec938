use Rattle.std.proofs.Common.{List, ℕ, ◌++◌, ap, subst}
use Rattle.bus_outer.specs.Sinks.{WritesText}
use Rattle.bus_outer.proofs.WriteLaws.{writes_then}
use Rattle.bus_explain.specs.Unread.{unread_text}
use Rattle.bus_table.specs.Stops.{stop_of}
use Rattle.bus_page.specs.Feet.{foot_text}
use Rattle.bus_page.specs.Pages.{bare_front}
use Rattle.bus_explain.proofs.CutLemmas.{text_cut}
use Rattle.bus_page.proofs.bare.write_unread_page.Goals as goal

pub returns : goal.returns
returns g c =
    let foot = foot_text c.args.program.now c.args.bytes.now in
    writes_then g.K.Sink.held g.K.Sink.faults c.args.sink.now c.write_bare_front.new.sink c.write_unread_end.new.sink c.in_ok-write_bare_front.field-0 c.write_unread_end.result
    bare_front (unread_text c.args.line c.args.reason (stop_of c.args.bytes.now) ++ foot) c.in_ok-write_bare_front.ensures
    (subst (λ (t : List ℕ). WritesText g.K.Sink.held g.K.Sink.faults c.write_bare_front.new.sink c.write_unread_end.new.sink c.write_unread_end.result t)
    (ap (λ stop. unread_text c.args.line c.args.reason stop ++ foot) c.requires) c.write_unread_end.ensures)

pub returns-in_err-write_bare_front : goal.returns-in_err-write_bare_front
returns-in_err-write_bare_front g c =
    text_cut g.K.Sink c.args.sink.now c.write_bare_front.new.sink c.in_err-write_bare_front.field-0.0 c.from_residual.result
    bare_front (unread_text c.args.line c.args.reason (stop_of c.args.bytes.now) ++ foot_text c.args.program.now c.args.bytes.now)
    c.in_err-write_bare_front.ensures c.from_residual.ensures.1
