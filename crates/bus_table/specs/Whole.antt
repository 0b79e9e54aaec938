-- The whole reasons: why a table whose numbers are in their ranges is refused all the same.
use Rattle.std.specs.Prelude.{ℕ, Bool, ◌&&◌, ◌==◌, nat_le, List, [], ◌∷◌, ◌++◌, map, Option, Some, None, if◌then◌else◌}
use Rattle.std.specs.List.{list_any, find, flat_map}
use Rattle.std.specs.Option.{option_map, option_or}
use Rattle.bus_table.specs.declared.mode.Mode.{Mode}
use Rattle.bus_table.specs.declared.mode.Mode.TheVariants.{Aperiodic, Periodic}
use Rattle.bus_table.specs.declared.error.WholeReason.{WholeReason}
use Rattle.bus_table.specs.declared.error.WholeReason.TheVariants.{NoSender, NumberTwice, GapTwice, GapNotShort, PairTwice, OffsetRange}
use Rattle.bus_table.specs.Tables.{SendLine, Sender, Listener, Table}

-- The first of some that is the same as an earlier one, where these stand before them.
abbrev pub first_again : {A : Type 0} → (A → A → Bool) → List A → List A → Option A
first_again same earlier [] = None
first_again same earlier (x ∷ xs) = if list_any (λ y. same y x) earlier then Some x else first_again same (earlier ++ x ∷ []) xs

-- The numbers of the senders.
abbrev pub sender_numbers : List Sender → List ℕ
sender_numbers senders = map (λ sender. sender.number) senders

-- The numbers of the listeners.
abbrev pub listener_numbers : List Listener → List ℕ
listener_numbers listeners = map (λ listener. listener.number) listeners

-- The terminal numbers, senders before listeners.
abbrev pub all_numbers : List Sender → List Listener → List ℕ
all_numbers senders listeners = sender_numbers senders ++ listener_numbers listeners

-- The terminal numbers of a table in the order of the text.
abbrev pub numbers : Table → List ℕ
numbers table = all_numbers table.senders table.listeners

-- The SEND lines in the order of the text.
abbrev pub send_lines : List Sender → List SendLine
send_lines senders = flat_map (λ sender. sender.sends) senders

-- Whether two SEND lines have the same label and extension.
abbrev pub same_pair : SendLine → SendLine → Bool
same_pair a b = a.label == b.label && a.ext == b.ext

-- There is no sender.
abbrev pub no_sender : List Sender → Option WholeReason
no_sender [] = Some NoSender
no_sender (sender ∷ senders) = None

-- A terminal number stands twice.
abbrev pub number_twice : Table → Option WholeReason
number_twice table = option_map NumberTwice (first_again (λ n m. n == m) [] (numbers table))

-- A terminal gap stands twice.
abbrev pub gap_twice : List Sender → Option WholeReason
gap_twice senders = option_map (λ sender. GapTwice sender.number) (first_again (λ a b. a.tg == b.tg) [] senders)

-- A terminal gap isn't below the synchronization gap.
abbrev pub gap_not_short : ℕ → List Sender → Option WholeReason
gap_not_short sg senders = option_map (λ sender. GapNotShort sender.number) (find (λ sender. nat_le sg sender.tg) senders)

-- A label and extension stand on two SEND lines.
abbrev pub pair_twice : List Sender → Option WholeReason
pair_twice senders = option_map (λ line. PairTwice line.label line.ext) (first_again same_pair [] (send_lines senders))

-- An offset isn't below the transmit interval.
abbrev pub offset_range : ℕ → List Sender → Option WholeReason
offset_range ti senders = option_map (λ sender. OffsetRange sender.number) (find (λ sender. nat_le ti sender.at) senders)

-- What is asked of a periodic table alone.
abbrev pub periodic_refusal : Mode → ℕ → List Sender → Option WholeReason
periodic_refusal Aperiodic ti senders = None
periodic_refusal Periodic ti senders = offset_range ti senders

-- The first whole reason that applies.
abbrev pub whole_refusal : Table → Option WholeReason
whole_refusal table =
    option_or (no_sender table.senders)
    (option_or (number_twice table)
    (option_or (gap_twice table.senders)
    (option_or (gap_not_short table.sg table.senders)
    (option_or (pair_twice table.senders)
    (periodic_refusal table.mode table.ti table.senders)))))
