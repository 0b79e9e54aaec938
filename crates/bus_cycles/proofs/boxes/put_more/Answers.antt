use Rattle.std.proofs.Common.{[], ◌∷◌, ◌++◌, List, sym, subst}
use Rattle.bus_outer.specs.Texts.{Adds}
use Rattle.bus_cycles.specs.inside.Drawing.{Reaches}
use Rattle.bus_cycles.specs.Rows.{Extent}
use Rattle.bus_cycles.specs.RowTexts.{Shaded, all_shaded, box_behind, shaded}
use Rattle.bus_cycles.proofs.DrawLemmas.{all_shaded_more}
use Rattle.bus_cycles.proofs.boxes.put_more.Goals as goal

pub returns-clause-adds : goal.returns-clause-adds
returns-clause-adds g c was keeps =
    let page = c.args.page.now in
    let same = c.with.ensures.value was keeps.extent_is in
    let reach = subst (λ (e : Extent). Reaches page e.begin (all_shaded page e.begin [] was.sents) c.args.edges.now) (sym same) keeps.reaches in
    subst (λ (e : Extent). Adds g.K.Sink.held g.K.Sink.faults c.args.sink.now c.put_behind.new.sink c.args.text.now c.put_behind.new.text
    (box_behind page c.args.garbled e.place e.begin (all_shaded page e.begin [] was.sents) c.args.sent.now)) same
    (c.put_behind.ensures.adds (all_shaded page c.with.result.begin [] was.sents) reach)

pub returns-clause-keeps : goal.returns-clause-keeps
returns-clause-keeps g c was keeps =
    let page = c.args.page.now in
    let sent = c.args.sent.now in
    let same = c.with.ensures.value was keeps.extent_is in
    let reach = subst (λ (e : Extent). Reaches page e.begin (all_shaded page e.begin [] was.sents) c.args.edges.now) (sym same) keeps.reaches in
    let more = subst (λ (e : Extent). Reaches page e.begin
    (all_shaded page e.begin [] was.sents ++ shaded page e.begin (all_shaded page e.begin [] was.sents) sent ∷ []) c.put_behind.new.edges) same
    (c.put_behind.ensures.keeps (all_shaded page c.with.result.begin [] was.sents) reach) in
    record {
      extent_is = same;
      reaches = subst (λ (l : List Shaded). Reaches page was.begin l c.put_behind.new.edges) (sym (all_shaded_more page was.begin [] was.sents sent)) more;
    }

pub returns-clause-place : goal.returns-clause-place
returns-clause-place g c = c.with.ensures.place
