-- How long the gaps of a plan are that bears a delay d.
--
-- Each sender needs its turn: its terminal gap, d bit times, and its longest message. Beside that each has to hear a synchronization gap
-- between two of its own messages, whatever the delays are up to d. These are three ways:
--
--   own gap      its own gap is a synchronization gap, its terminal gap and d
--   strong gap   the gap of another sender is a synchronization gap and d
--   weak run     behind its own message come gaps no shorter than a synchronization gap less one, of which one is a synchronization gap
--
-- So there are four shapes of a plan, each of which lengthens one gap or two:
--
--   own          one gap is a synchronization gap longer: the own gap of its sender, and a strong one for all others
--   neighbours   a strong gap, and the gap behind it is a synchronization gap: a weak run for the sender of the strong one
--   apart        two strong gaps, wherever they are: each is for the sender of the other
--   round        no gap is shorter than a synchronization gap less one, and two of them are no shorter than a synchronization gap
use Rattle.std.specs.Prelude.{ℕ, ◌+◌, ◌-◌, ◌==◌, max, min, nat_lt, List, [], ◌∷◌, if◌then◌else◌}
use Rattle.std.specs.List.{sum_by}
use Rattle.bus_table.specs.Tables.{Sender, Table}
use Rattle.bus_table.specs.Lengths.{longest}
use Rattle.bus_table.specs.Turns.{turn_order}
pub use Rattle.bus_cable_plan.specs.declared.shape.Shape.{Shape}
pub use Rattle.bus_cable_plan.specs.declared.shape.Pair.{Pair}

-- What is added to the gap of a sender, where the gap of the one with this terminal gap is to be longer by `more`.
abbrev pub added : ℕ → ℕ → Sender → ℕ
added tg more sender = if sender.tg == tg then more else 0

-- The gap before a sender in a shape, at least: its terminal gap and d, the floor of the shape, and what the shape adds.
abbrev pub gap_in : ℕ → Shape → Sender → ℕ
gap_in d shape sender =
    max shape.floor (sender.tg + d) + added shape.first shape.first_more sender + added shape.second shape.second_more sender

-- The gap before a sender and its longest message.
abbrev pub time_in : ℕ → Shape → Sender → ℕ
time_in d shape sender = gap_in d shape sender + longest sender

-- What a shape needs for these senders: their gaps and their longest messages.
abbrev pub needed : ℕ → Shape → List Sender → ℕ
needed d shape senders = sum_by (time_in d shape) senders

-- The greatest terminal gap of these senders, or 0.
abbrev pub greatest_tg : List Sender → ℕ
greatest_tg [] = 0
greatest_tg (sender ∷ senders) = max sender.tg (greatest_tg senders)

-- The second greatest, or 0.
abbrev pub second_tg : List Sender → ℕ
second_tg [] = 0
second_tg (sender ∷ senders) = max (second_tg senders) (min sender.tg (greatest_tg senders))

-- Of two pairs of neighbours the one whose terminal gaps are greater together: the first where they are the same.
abbrev pub greater_pair : Pair → Pair → Pair
greater_pair a b = if nat_lt (a.before + a.behind) (b.before + b.behind) then b else a

-- The pair of neighbours whose terminal gaps are the greatest together, of this one and those from the sender with terminal gap `before`
-- on; the last has the first of all, with terminal gap `first`, behind it.
abbrev pub pair_from : Pair → ℕ → ℕ → List Sender → Pair
pair_from best first before [] = greater_pair best (record { before = before; behind = first })
pair_from best first before (sender ∷ order) =
    pair_from (greater_pair best (record { before = before; behind = sender.tg })) first sender.tg order

-- The pair of neighbours in this order, round its end, whose terminal gaps are the greatest together.
abbrev pub greatest_pair : List Sender → Pair
greatest_pair [] = record { before = 0; behind = 0 }
greatest_pair (sender ∷ order) = pair_from (record { before = 0; behind = 0 }) sender.tg sender.tg order

-- One gap is a synchronization gap longer.
abbrev pub own : ℕ → ℕ → Shape
own sg first = record { floor = 0; first = first; first_more = sg; second = 0; second_more = 0 }

-- The gap of the one is a synchronization gap and d, the gap right behind its message a synchronization gap.
abbrev pub neighbours : ℕ → ℕ → Pair → Shape
neighbours d sg pair = record {
  floor = 0;
  first = pair.before;
  first_more = sg - pair.before;
  second = pair.behind;
  second_more = sg - (pair.behind + d);
}

-- Two gaps are a synchronization gap and d.
abbrev pub apart : ℕ → ℕ → ℕ → Shape
apart sg first second = record {
  floor = 0;
  first = first;
  first_more = sg - first;
  second = second;
  second_more = sg - second;
}

-- By how much a gap that is no shorter than a synchronization gap less one, nor than this terminal gap and d, is short of a synchronization
-- gap.
abbrev pub short_by : ℕ → ℕ → ℕ → ℕ
short_by d sg tg = sg - max (sg - 1) (tg + d)

-- No gap is shorter than a synchronization gap less one, and two are synchronization gaps.
abbrev pub round : ℕ → ℕ → ℕ → ℕ → Shape
round d sg first second = record {
  floor = sg - 1;
  first = first;
  first_more = short_by d sg first;
  second = second;
  second_more = short_by d sg second;
}

-- Of two shapes the one that needs less: the first where they need the same.
abbrev pub lesser_shape : ℕ → List Sender → Shape → Shape → Shape
lesser_shape d senders a b = if nat_lt (needed d b senders) (needed d a senders) then b else a

-- The shape that needs least for the senders of a table in their turn order. The gaps that are longer are those of the senders with the
-- greatest terminal gaps, or of the pair of neighbours where these are the greatest together.
abbrev pub shape_of : ℕ → Table → Shape
shape_of d table =
    let first = greatest_tg table.senders in
    let second = second_tg table.senders in
    let pair = greatest_pair (turn_order table) in
    lesser_shape d table.senders
    (lesser_shape d table.senders
    (lesser_shape d table.senders (own table.sg first) (neighbours d table.sg pair))
    (apart table.sg first second))
    (round d table.sg first second)
