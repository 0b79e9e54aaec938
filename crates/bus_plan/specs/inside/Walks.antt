-- The planned offsets in one walk over the senders in table order, which tells the first two senders of the planned order by their
-- terminal gaps.
--   first, second   the two greatest terminal gaps
--   at              the offset of the sender with the second greatest
--   end             where the turns so far end
use Rattle.std.specs.Prelude.{ℕ, ◌+◌, ◌==◌, nat_le, List, [], ◌∷◌, if◌then◌else◌}
use Rattle.bus_table.specs.Tables.{Sender}
use Rattle.bus_table.specs.Lengths.{longest}

-- The offset of a sender.
abbrev pub offset_for : ℕ → ℕ → ℕ → ℕ → Sender → ℕ
offset_for first second at end sender = if sender.tg == first then 0 else (if sender.tg == second then at else end + sender.tg)

-- Where the turns end once a sender is among them.
abbrev pub end_after : ℕ → ℕ → ℕ → Sender → ℕ
end_after first second end sender =
    if sender.tg == first then end else (if sender.tg == second then end else end + sender.tg + longest sender)

-- The offsets of these senders, in order.
abbrev pub walk : ℕ → ℕ → ℕ → ℕ → List Sender → List ℕ
walk first second at end [] = []
walk first second at end (sender ∷ senders) =
    offset_for first second at end sender ∷ walk first second at (end_after first second end sender) senders

-- Where the turns of these senders end.
abbrev pub walk_end : ℕ → ℕ → ℕ → List Sender → ℕ
walk_end first second end [] = end
walk_end first second end (sender ∷ senders) = walk_end first second (end_after first second end sender) senders

-- The longest message of the sender with this terminal gap, or 0.
abbrev pub longest_with : ℕ → List Sender → ℕ
longest_with tg [] = 0
longest_with tg (sender ∷ senders) = if sender.tg == tg then longest sender else longest_with tg senders

-- The gap before the second sender, by the two greatest terminal gaps.
abbrev pub gap_between : ℕ → ℕ → ℕ → ℕ
gap_between sg first second = if nat_le (first + second) sg then second else sg
