use Rattle.std.proofs.Common.{◌≡◌, ◌+◌, ◌<◌, true, List, ◌++◌, ◌∷◌, [], length, take, set, arith, sym, ap, subst, ◌∙◌}
use Rattle.std.proofs.lemmas.List.{length-set, take_all, take_more}
use Rattle.bus_table.specs.declared.line.TakeLine.{TakeLine}
use Rattle.bus_picture.specs.inside.Noting.{LinesNoted, place_of}
use Rattle.bus_picture.proofs.TakingLemmas.{kept_more, line_more}
use Rattle.bus_picture.proofs.receivers.note.Goals as goal

pub loop-k-init : goal.loop-k-init
loop-k-init c = record { long = c.told-may; kept = λ j h. h; noted = λ line i. absurd i }

pub loop-k-preserved : goal.loop-k-preserved
loop-k-preserved c =
    let i = c.loop-k.invariant in
    let takes : List TakeLine = c.args.takes.now in
    let line : TakeLine = c.index-takes-k.result in
    let place = c.place_of-place.result in
    let within : place < length c.loop-k.may = omega (arith, i.long, c.place_of-place.ensures.low) in
    let is : place ≡ place_of line.label c.args.number =
    c.place_of-place.ensures.value ∙ ap (λ (l : TakeLine). place_of l.label c.args.number) (sym c.index-takes-k.is) in
    let more : take (c.loop-k.k + 1) takes ≡ take c.loop-k.k takes ++ line ∷ [] =
    take_more takes c.loop-k.k line c.loop-k-test.true ∙ ap (λ (l : TakeLine). take c.loop-k.k takes ++ l ∷ []) (sym c.index-takes-k.is) in
    record {
      long = rw length-set c.loop-k.invariant.long;
      kept = kept_more c.args.may.now c.loop-k.may place within i.kept;
      noted = subst (λ (some : List TakeLine). LinesNoted c.args.number some (set c.loop-k.may place true)) (sym more)
          (line_more c.args.number (take c.loop-k.k takes) line c.loop-k.may place within is i.noted);
    }

pub returns-clause-noted : goal.returns-clause-noted
returns-clause-noted c =
    subst (λ (takes : List TakeLine). LinesNoted c.args.number takes c.loop-k.may) (take_all c.loop-k.k c.args.takes.now (omega arith)) c.loop-k.invariant.noted
