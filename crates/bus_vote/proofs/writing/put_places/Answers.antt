use Rattle.std.proofs.Common.{arith, List, ℕ, Option, ◌≡◌, ◌++◌, ap, subst, sym, ◌∙◌}
use Rattle.std.specs.List.{flat_map, range_with_len}
use Rattle.std.specs.Option.{option_copied}
use Rattle.bus_outer.specs.Texts.{Adds}
use Rattle.bus_outer.proofs.TextLaws.{◌▸◌}
use Rattle.bus_vote.specs.inside.Putting.{place_put}
use Rattle.bus_vote.specs.VoteTexts.{place_text}
use Rattle.bus_strings.proofs.ListLaws.{flat_map-range}
use Rattle.bus_vote.proofs.PutLemmas.{places_put}
use Rattle.bus_vote.proofs.writing.put_places.Goals as goal

pub loop-place-preserved : goal.loop-place-preserved
loop-place-preserved g c =
    let f : ℕ → List ℕ = place_put (option_copied c.args.a) (option_copied c.args.b) (option_copied c.args.c) in
    let k : ℕ = c.loop-place.place in
    subst (λ (t : List ℕ). Adds g.K.Sink.held g.K.Sink.faults c.args.sink.now c.put_place.new.sink c.args.text.now c.put_place.new.text t)
    (ap (λ t. flat_map f (range_with_len 0 k) ++ place_text t) c.vote.ensures.value ∙ sym (flat_map-range f k))
    (c.loop-place.invariant ▸ c.put_place.ensures)

pub returns : goal.returns
returns g c =
    let a : Option (List ℕ) = option_copied c.args.a in
    let b : Option (List ℕ) = option_copied c.args.b in
    let d : Option (List ℕ) = option_copied c.args.c in
    let e : c.loop-place.place ≡ c.width-place-end.result = omega arith in
    subst (λ (t : List ℕ). Adds g.K.Sink.held g.K.Sink.faults c.args.sink.now c.loop-place.sink c.args.text.now c.loop-place.text t)
    (places_put a b d c.loop-place.place (e ∙ c.width-place-end.ensures.value))
    c.loop-place.invariant
