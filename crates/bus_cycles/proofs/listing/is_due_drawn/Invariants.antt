use Rattle.std.proofs.Common.{◌≡◌, drop}
use Rattle.std.specs.List.{list_any}
use Rattle.bus_cycles.specs.Listings.{has_line}
use Rattle.bus_cycles.proofs.listing.is_due_drawn.Given as goal

-- none so far has a line
abbrev pub invariant-loop-sender : goal.invariant-loop-sender
invariant-loop-sender l =
    list_any (has_line l.page l.holds l.begins) l.senders ≡ list_any (has_line l.page l.holds l.begins) (drop l.sender-index l.senders)
