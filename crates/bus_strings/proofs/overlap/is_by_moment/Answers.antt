use Rattle.std.proofs.Common.{◌≡◌, ap, refl, length, subst, sym, arith, ◌+◌}
use Rattle.std.proofs.lemmas.Option.{slice_get_read}
use Rattle.bus_strings.specs.Messages.{Entry}
use Rattle.bus_strings.proofs.OverlapLemmas.{IsInOrderSoFar, one_more_so_far}
use Rattle.bus_strings.proofs.overlap.is_by_moment.Goals as goal

pub loop-entry-preserved : goal.loop-entry-preserved
loop-entry-preserved c =
    let list = c.args.list.now in
    let x = c.entry-item.result in
    let i = c.loop-entry.entry-index in
    let moment : x.moment ≡ c.entry.inside.moment = ap (λ (e : Entry). e.moment) (sym c.entry.view_is) in
    subst (IsInOrderSoFar list (i + 1)) moment (one_more_so_far list i c.loop-entry.latest x (slice_get_read list (length list) i x refl (omega arith) c.entry-item.is) c.loop-entry.invariant (omega arith))
