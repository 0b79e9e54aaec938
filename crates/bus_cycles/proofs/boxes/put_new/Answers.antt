use Rattle.std.proofs.Common.{◌+◌, [], ◌∷◌, ◌++◌, ap, subst, ◌∙◌}
use Rattle.bus_outer.specs.Texts.{Adds}
use Rattle.bus_outer.proofs.TextLaws.{◌▸◌}
use Rattle.bus_cycles.specs.inside.Drawing.{Reaches}
use Rattle.bus_cycles.specs.Rows.{Extent, extent_of, row_at}
use Rattle.bus_cycles.specs.RowTexts.{box_behind, ending_text, shaded}
use Rattle.bus_cycles.proofs.DrawLemmas.{reaches_none}
use Rattle.bus_cycles.proofs.boxes.put_new.Goals as goal

pub returns-clause-adds : goal.returns-clause-adds
returns-clause-adds g c was keeps =
    let page = c.args.page.now in
    let garbled = c.args.garbled in
    let cycle = page.cycle in
    let sent = c.args.sent.now in
    subst (λ (e : Extent). Adds g.K.Sink.held g.K.Sink.faults c.args.sink.now c.put_behind.new.sink c.args.text.now c.put_behind.new.text
    (ending_text page garbled e ++ box_behind page garbled (e.place + 1) (row_at cycle (e.place + 1) sent).begin [] sent)) keeps.extent_is
    (c.put_ending.ensures
    ▸ subst (λ (e : Extent). Adds g.K.Sink.held g.K.Sink.faults c.put_ending.new.sink c.put_behind.new.sink c.put_ending.new.text c.put_behind.new.text
    (box_behind page garbled e.place e.begin [] sent)) c.row_at.ensures.value (c.put_behind.ensures.adds [] (reaches_none page c.row_at.result.begin)))

pub returns-clause-keeps : goal.returns-clause-keeps
returns-clause-keeps g c was keeps =
    let page = c.args.page.now in
    let sent = c.args.sent.now in
    let same = c.row_at.ensures.value ∙ ap (λ (e : Extent). extent_of (row_at page.cycle (e.place + 1) sent)) keeps.extent_is in
    record {
      extent_is = same;
      reaches = subst (λ (e : Extent). Reaches page e.begin (shaded page e.begin [] sent ∷ []) c.put_behind.new.edges) same
          (c.put_behind.ensures.keeps [] (reaches_none page c.row_at.result.begin));
    }
