use Rattle.std.specs.Prelude.{map}
use Rattle.std.proofs.Common.{◌≡◌, ◌≤◌, ◌++◌, [], ◌∷◌, Some, take, arith, sym, ap, subst, ◌∙◌}
use Rattle.std.proofs.lemmas.Option.{slice_get-get_or}
use Rattle.bus_strings.specs.Messages.{Entry}
use Rattle.bus_findings.specs.Judging.{judgement_of}
use Rattle.bus_findings.specs.inside.Standing.{HasBegun, HasReached}
use Rattle.bus_findings.proofs.PlaceLemmas.{read_is}
use Rattle.bus_findings.proofs.TraceLemmas.{map_next, begun_later, next_later}
use Rattle.bus_findings.proofs.listing.judge_all.Goals as goal

pub loop-i-init : goal.loop-i-init
loop-i-init c = record {
  all = c.in_ok-all.ensures.items;
  watched = c.requires.watched;
  heard = c.nothing-heard.ensures.heard;
  begun = λ x at. c.nothing-heard.ensures.begun x.moment;
}

pub at_moment-heard-requires-clause-begun : goal.at_moment-heard-requires-clause-begun
at_moment-heard-requires-clause-begun c =
    let list = c.args.list.now in
    let x = c.index-list-i.result in
    let at = slice_get-get_or list c.loop-i.i x c.loop-i-test.true ∙ ap Some (sym c.index-list-i.is) in
    subst (λ m. HasBegun c.args.bounds list m c.loop-i.heard) (ap (λ (z : Entry). z.moment) (sym c.x.view_is)) (c.loop-i.invariant.begun x at)

pub judge-found-requires-clause-few : goal.judge-found-requires-clause-few
judge-found-requires-clause-few c = c.requires.few c.loop-i.i c.loop-i-test.true

pub judge-found-requires-clause-reached : goal.judge-found-requires-clause-reached
judge-found-requires-clause-reached c = λ y at.
    let list = c.args.list.now in
    let it : c.index-list-i.result ≡ y = read_is list c.loop-i.i c.index-list-i.result y c.index-list-i.is at in
    subst (λ m. HasReached c.args.bounds list m c.at_moment-heard.result) (ap (λ (z : Entry). z.moment) (c.x.view_is ∙ it)) c.at_moment-heard.ensures.reached

pub loop-i-preserved : goal.loop-i-preserved
loop-i-preserved c =
    let bounds = c.args.bounds in
    let table = c.args.table.now in
    let list = c.args.list.now in
    let i = c.loop-i.i in
    let x = c.index-list-i.result in
    let at = slice_get-get_or list i x c.loop-i-test.true ∙ ap Some (sym c.index-list-i.is) in
    let moment : c.x.inside.moment ≡ x.moment = ap (λ (z : Entry). z.moment) c.x.view_is in
    let found = c.judge-found.ensures.value x at in
    record {
      all = c.in_ok-push.ensures.items ∙ ap (λ js. js ++ c.judge-found.result ∷ []) c.loop-i.invariant.all
          ∙ ap (λ j. map (judgement_of bounds table list) (take i list) ++ j ∷ []) found ∙ sym (map_next (judgement_of bounds table list) list i x at);
      watched = c.judge-found.ensures.watched;
      heard = c.with-heard.ensures.heard;
      begun = λ y next.
          let low : c.x.inside.moment ≤ y.moment = omega (arith, moment, next_later list i x y c.requires.order at next) in
          c.with-heard.ensures.begun y.moment
          (begun_later bounds list c.x.inside.moment y.moment c.at_moment-heard.result c.at_moment-heard.ensures.reached.begun low);
    }
