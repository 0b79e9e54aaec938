-- Even hands: one for each sender, all with the same number of messages.
--   hand     what a sender has to send, in order
--   round    one message of each sender, of the same place in its hand. Rounds are counted from 0
--   rounds   how many there are: the number of messages in each hand
use Rattle.std.specs.Prelude.{ℕ, Bool, ◌&&◌, ◌==◌, List, [], ◌∷◌, length, get_or, if◌then◌else◌}
use Rattle.std.specs.List.{list_all}
use Rattle.bus_strings.specs.Messages.{Message}
use Rattle.bus_table.specs.Tables.{Table, Hand}
use Rattle.bus_table.specs.Hands.{are_hands}

-- The messages of the terminal with this number, and none where it has no hand.
abbrev pub messages_of : List Hand → ℕ → List Message
messages_of [] number = []
messages_of (hand ∷ hands) number = if hand.terminal == number then hand.messages else messages_of hands number

-- The message of this round of the terminal with this number, and an empty one behind its last.
abbrev pub message_in : List Hand → ℕ → ℕ → Message
message_in hands number round = get_or (messages_of hands number) round []

-- How many messages each hand has, where hands are even.
abbrev pub rounds : List Hand → ℕ
rounds [] = 0
rounds (hand ∷ hands) = length hand.messages

-- Whether there is one hand for each sender in the order of the table, each message fits, and all hands have the same number of messages.
abbrev pub are_even : Table → List Hand → Bool
are_even table hands = are_hands table.senders hands && list_all (λ hand. length hand.messages == rounds hands) hands
