use Rattle.std.proofs.Common.{◌≡◌, ◌+◌, List, length}
use Rattle.bus_text.specs.AllOf.{all_of}
use Rattle.bus_text.proofs.AllOfLaws.{with_front}
use Rattle.bus_strings.specs.Items.{Item}
use Rattle.bus_strings.specs.Reading.{item_line}
use Rattle.bus_hands.specs.inside.Dealing.{AreDealt}
use Rattle.bus_hands.proofs.reading.deal_lines.Given as goal

abbrev pub invariant-loop-line : goal.invariant-loop-line
invariant-loop-line l = (done : List Item)
    × (with_front done (all_of item_line l.line-iterator) ≡ all_of item_line l.fn.lines)
    × (l.k ≡ length done + 1)
    × (length done + length l.line-iterator ≡ length l.fn.lines)
    × (length l.deal.hands.items ≡ length l.fn.senders)
    × AreDealt l.fn.senders done l.deal.hands.items l.deal.fit
