use Rattle.std.proofs.Common.{sym, subst, ap, ◌∙◌, Result}
use Rattle.std.specs.List.{slice_split}
use Rattle.bus_text.specs.AllOf.{◌>>=◌}
use Rattle.bus_text.specs.Lines.{is_feed}
use Rattle.bus_text.specs.Refusals.{at_line}
use Rattle.bus_trace.specs.Traces.{Recording}
use Rattle.bus_wave.specs.inside.Parts.{PartsGive}
use Rattle.bus_wave.specs.Judging.{opening}
use Rattle.bus_wave.specs.Reading.{WaveRefusal, pieces_reading, text_reading}
use Rattle.bus_wave.proofs.ReadLemmas.{head_more, one_piece}
use Rattle.bus_wave.proofs.reading.read_parts.Goals as goal

pub returns-in_default : goal.returns-in_default
returns-in_default c = ap (text_reading c.args.table.now) c.in_default.ensures.pieces ∙ one_piece c.args.table.now c.args.text.now

pub returns-in-Err : goal.returns-in-Err
returns-in-Err c =
    let table = c.args.table.now in
    head_more table c.args.text.now c.in-Some.first.now c.in-Some.rest.now c.in-Some.ensures.pieces
    ∙ ap (λ r. at_line 1 r >>= λ _. pieces_reading table 2 opening (slice_split is_feed c.in-Some.rest.now)) (sym c.in-Err.ensures)

pub returns : goal.returns
returns c =
    let table = c.args.table.now in
    subst (λ (r : Result Recording WaveRefusal). PartsGive table c.read_lines.result r)
    (sym (head_more table c.args.text.now c.in-Some.first.now c.in-Some.rest.now c.in-Some.ensures.pieces
    ∙ ap (λ r. at_line 1 r >>= λ _. pieces_reading table 2 opening (slice_split is_feed c.in-Some.rest.now)) (sym c.in_default-head_of.ensures)))
    c.read_lines.ensures
