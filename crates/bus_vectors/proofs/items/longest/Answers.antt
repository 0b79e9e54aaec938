use Rattle.std.proofs.Common.{arith, map, refl, ap, ◌∙◌}
use Rattle.std.proofs.lemmas.List.{length-set}
use Rattle.std.specs.List.{range_with_len}
use Rattle.bus_vectors.specs.Made.{made_word}
use Rattle.bus_vectors.proofs.ItemLemmas.{front_next, front_whole}
use Rattle.bus_vectors.proofs.items.longest.Goals as goal

pub loop-place-preserved : goal.loop-place-preserved
loop-place-preserved c =
    let place = c.loop-place.place in
    let words = c.loop-place.words in
    let inv = c.loop-place.invariant in (
      length-set words place _ ∙ inv.0,
      front_next (made_word c.args.number c.args.round c.from-i.result) words place _ (omega (arith, inv.0)) refl inv.1,
    )

pub returns : goal.returns
returns c =
    let inv = c.loop-place.invariant in
    front_whole (made_word c.args.number c.args.round c.from-i.result) c.loop-place.words c.loop-place.place (omega (arith, inv.0)) (omega arith) inv.1
    ∙ ap (λ i. map (made_word c.args.number c.args.round i) (range_with_len 0 40)) c.from-i.ensures
