use Rattle.std.proofs.Common.{Bool, sym, ap, ◌∙◌}
use Rattle.std.proofs.lemmas.List.Folds.{list_any_at}
use Rattle.bus_table.specs.Tables.{Sender}
use Rattle.bus_cycles.specs.Listings.{has_line}
use Rattle.bus_cycles.proofs.listing.is_due_drawn.Goals as goal

pub returns-then-has_line : goal.returns-then-has_line
returns-then-has_line c =
    let test : Sender → Bool = has_line c.args.page.now c.args.holds.now c.args.begins.now in
    sym (list_any_at test c.args.senders.now c.loop-sender.sender-index c.sender-item.result c.loop-sender-test.true
    (ap test (sym c.sender-item.is) ∙ sym c.has_line.ensures ∙ c.if-has_line.true))
