use Rattle.std.proofs.Common.{◌++◌, [], ◌∷◌, arith, ap, sym, ◌∙◌, map, length, take, List}
use Rattle.std.proofs.lemmas.List.{take_all}
use Rattle.bus_regime.specs.Gaps.{gaps}
use Rattle.bus_regime.proofs.GapPlaces.{length-gaps}
use Rattle.bus_page.specs.declared.slot.Slot.{Slot}
use Rattle.bus_page.specs.Slots.{slot_of}
use Rattle.bus_page.proofs.RowLemmas.{map_more}
use Rattle.bus_page.proofs.slot.slots.Goals as goal

pub loop-k-preserved : goal.loop-k-preserved
loop-k-preserved c =
    let table = c.args.table.now in
    let before = map (slot_of table) (take c.loop-k.k (gaps table)) in
    c.in_ok-push.ensures.items ∙ ap (λ (l : List Slot). l ++ c.slot_of.result ∷ []) c.loop-k.invariant
    ∙ ap (λ (s : Slot). before ++ s ∷ []) c.slot_of.ensures
    ∙ sym (map_more (slot_of table) (gaps table) c.loop-k.k c.gap_at-gap.result c.gap_at-gap.ensures)

pub returns : goal.returns
returns c =
    let table = c.args.table.now in
    c.loop-k.invariant ∙ ap (map (slot_of table))
    (take_all c.loop-k.k (gaps table) (omega (arith, c.loop-k-test.false, length-gaps table, ap length c.senders-k-end.ensures.value)))
