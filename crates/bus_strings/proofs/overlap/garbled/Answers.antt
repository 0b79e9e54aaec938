use Rattle.std.proofs.Common.{◌∙◌, sym, refl, length}
use Rattle.std.proofs.lemmas.Option.{slice_get_read}
use Rattle.bus_strings.proofs.OverlapLemmas.{garbled_by_next, garbled_by_earlier}
use Rattle.bus_strings.proofs.overlap.garbled.Goals as goal

pub returns-then-next_overlaps : goal.returns-then-next_overlaps
returns-then-next_overlaps c =
    let list = c.args.list.now in
    let x = c.index-list-k.result in
    let told = c.next_overlaps.ensures x (slice_get_read list (length list) c.args.k x refl c.requires.within c.index-list-k.is) in
    c.if-next_overlaps.true ∙ sym (garbled_by_next list c.args.k x c.next_overlaps.result told c.if-next_overlaps.true)

pub returns-else-next_overlaps : goal.returns-else-next_overlaps
returns-else-next_overlaps c =
    let list = c.args.list.now in
    let x = c.index-list-k.result in
    let told = c.next_overlaps.ensures x (slice_get_read list (length list) c.args.k x refl c.requires.within c.index-list-k.is) in
    c.overlaps_any.ensures ∙ sym (garbled_by_earlier list c.args.k x c.next_overlaps.result told c.if-next_overlaps.false)
