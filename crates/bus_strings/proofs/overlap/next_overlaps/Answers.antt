use Rattle.std.proofs.Common.{◌≡◌, ◌∙◌, ap, refl, length, ◌+◌, ◌<◌, subst, Some}
use Rattle.std.proofs.lemmas.Option.{slice_get_read, get_or_from_slice_get}
use Rattle.bus_strings.specs.Transmissions.{overlaps}
use Rattle.bus_strings.specs.Messages.{Entry, IsMessage}
use Rattle.bus_strings.proofs.OverlapLemmas.{garbled_next}
use Rattle.bus_strings.proofs.overlap.next_overlaps.Goals as goal

pub returns-in-Some : goal.returns-in-Some
returns-in-Some c x at =
    let list = c.args.list.now in
    let next = c.in-Some.next.now in
    let h = c.in-Some.ensures.lookup in
    let same : c.index-list-k.result ≡ x = c.index-list-k.is ∙ get_or_from_slice_get list c.args.k x c.index-list-k.result at in
    garbled_next list c.args.k x (Some next) c.overlaps.result c.requires.order at (slice_get_read list (length list) (c.args.k + 1) next refl h.3.0 h.1)
    (λ z e. let same_z : next ≡ z = cc in let m : IsMessage next.message = c.overlaps.ensures.ranges.1 in subst (λ (w : Entry). 0 < length w.message) same_z m.some)
    (c.overlaps.ensures.value ∙ ap (λ w. overlaps w next) same)
