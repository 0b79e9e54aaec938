use Rattle.std.proofs.Common.{ap, ◌∙◌, List}
use Rattle.bus_table.specs.Tables.{Sender}
use Rattle.bus_table.specs.Offsets.{at_offsets}
use Rattle.bus_table.proofs.OffsetLemmas.{moved_valid}
use Rattle.bus_table.proofs.offsets.with_offsets.Goals as goal

pub of_parts-requires : goal.of_parts-requires
of_parts-requires c =
    let senders = c.in_ok-senders.ensures ∙ ap (λ (ss : List Sender). at_offsets c.args.offsets.now ss) c.senders.ensures.value in
    let listeners = c.in_ok-listeners.ensures ∙ c.listeners.ensures.value in
    moved_valid c.args.table.now c.args.offsets.now c.mode.result c.ti.result c.sg.result c.in_ok-senders.senders.items
    c.in_ok-listeners.listeners.items c.mode.ensures.valid c.requires.periodic c.requires.below
    c.mode.ensures.value c.ti.ensures.value c.sg.ensures.value senders listeners
