use Rattle.std.proofs.Common.{◌≡◌, ◌+◌, ◌*◌, ◌≤◌, Some, take, arith, sym, ap, subst, ◌∙◌}
use Rattle.std.proofs.lemmas.Option.{slice_get-get_or}
use Rattle.bus_outer.specs.Texts.{Adds}
use Rattle.bus_outer.proofs.TextLaws.{adds_then, adds_nothing}
use Rattle.bus_strings.specs.Messages.{Entry}
use Rattle.bus_findings.specs.Texts.{entry_lines, judgement_lines}
use Rattle.bus_findings.specs.Terminals.{totals_among}
use Rattle.bus_findings.specs.inside.Standing.{AreFew, HasBegun, HasReached, with_judgement}
use Rattle.bus_findings.proofs.PlaceLemmas.{read_is}
use Rattle.bus_findings.proofs.TraceLemmas.{lines_next, same_lines, totals_next, few_next, none_few, begun_later, next_later}
use Rattle.bus_findings.proofs.writing.put_judged.Goals as goal

pub loop-i-init : goal.loop-i-init
loop-i-init g c = record {
  adds = adds_nothing g.K.Sink.held g.K.Sink.faults c.args.sink.now c.args.text.now;
  totals = c.none-totals.ensures;
  few = subst (λ t. AreFew t (3 * 0)) (sym c.none-totals.ensures) none_few;
  watched = c.requires.watched;
  heard = c.nothing-heard.ensures.heard;
  begun = λ x at. c.nothing-heard.ensures.begun x.moment;
}

pub at_moment-heard-requires-clause-begun : goal.at_moment-heard-requires-clause-begun
at_moment-heard-requires-clause-begun g c =
    let list = c.args.list.now in
    let x = c.index-list-i.result in
    let at = slice_get-get_or list c.loop-i.i x c.loop-i-test.true ∙ ap Some (sym c.index-list-i.is) in
    subst (λ m. HasBegun c.args.bounds list m c.loop-i.heard) (ap (λ (z : Entry). z.moment) (sym c.x.view_is)) (c.loop-i.invariant.begun x at)

pub judge-found-requires-clause-reached : goal.judge-found-requires-clause-reached
judge-found-requires-clause-reached g c = λ y at.
    let list = c.args.list.now in
    let it : c.index-list-i.result ≡ y = read_is list c.loop-i.i c.index-list-i.result y c.index-list-i.is at in
    subst (λ m. HasReached c.args.bounds list m c.at_moment-heard.result) (ap (λ (z : Entry). z.moment) (c.x.view_is ∙ it)) c.at_moment-heard.ensures.reached

pub loop-i-preserved : goal.loop-i-preserved
loop-i-preserved g c =
    let bounds = c.args.bounds in
    let table = c.args.table.now in
    let list = c.args.list.now in
    let i = c.loop-i.i in
    let x = c.index-list-i.result in
    let h = c.loop-i.invariant in
    let at = slice_get-get_or list i x c.loop-i-test.true ∙ ap Some (sym c.index-list-i.is) in
    let moment : c.x.inside.moment ≡ x.moment = ap (λ (z : Entry). z.moment) c.x.view_is in
    let terminal : c.x.inside.terminal ≡ x.terminal = ap (λ (z : Entry). z.terminal) c.x.view_is in
    let found = c.judge-found.ensures.value x at in
    let lines : judgement_lines c.x.inside.moment c.x.inside.terminal c.judge-found.result ≡ entry_lines bounds table list x =
    same_lines bounds table list x c.x.inside.moment c.x.inside.terminal c.judge-found.result moment terminal found in
    let put = subst (λ b. Adds g.K.Sink.held g.K.Sink.faults c.loop-i.sink c.put_judgement.new.sink c.loop-i.text c.put_judgement.new.text b) lines c.put_judgement.ensures in
    let three : 3 * i + 3 ≡ 3 * (i + 1) = omega arith in
    record {
      adds = subst (λ b. Adds g.K.Sink.held g.K.Sink.faults c.args.sink.now c.put_judgement.new.sink c.args.text.now c.put_judgement.new.text b)
          (sym (lines_next (entry_lines bounds table list) list i x at)) (adds_then h.adds put);
      totals = c.with-totals.ensures ∙ ap (λ t. with_judgement t c.judge-found.result) h.totals
          ∙ ap (with_judgement (totals_among bounds table list (take i list))) found ∙ sym (totals_next bounds table list i x at);
      few = subst (λ t. AreFew t (3 * (i + 1))) (sym c.with-totals.ensures)
          (subst (λ n. AreFew (with_judgement c.loop-i.totals c.judge-found.result) n) three (few_next c.loop-i.totals (3 * i) c.judge-found.result h.few));
      watched = c.judge-found.ensures.watched;
      heard = c.with-heard.ensures.heard;
      begun = λ y next.
          let low : c.x.inside.moment ≤ y.moment = omega (arith, moment, next_later list i x y c.requires.order at next) in
          c.with-heard.ensures.begun y.moment
          (begun_later bounds list c.x.inside.moment y.moment c.at_moment-heard.result c.at_moment-heard.ensures.reached.begun low);
    }
