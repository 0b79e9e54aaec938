-- The hands that items give.
use Rattle.std.specs.Prelude.{ℕ, Bool, true, false, IsTrue, ◌&&◌, ◌==◌, List, [], ◌∷◌, ◌++◌, map}
use Rattle.std.specs.List.{filter, list_all}
use Rattle.bus_strings.specs.Items.{Item}
use Rattle.bus_strings.specs.Messages.{Message}
use Rattle.bus_table.specs.Fits.{fits}
use Rattle.bus_table.specs.Tables.{SendLine, Sender, Table, Hand}

-- A message of these strings, with the labels and extensions of the lines.
abbrev pub message_of : List SendLine → List (List ℕ) → Message
message_of [] strings = []
message_of (line ∷ sends) [] = []
message_of (line ∷ sends) (string ∷ strings) =
    record { label = line.label; ext = line.ext; words = string } ∷ message_of sends strings

-- The items of a terminal, in order.
abbrev pub items_of : ℕ → List Item → List Item
items_of number items = filter (λ item. item.terminal == number) items

-- The hand of a sender: its items are its messages.
abbrev pub hand_of : List Item → Sender → Hand
hand_of items sender =
    record { terminal = sender.number; messages = map (λ item. message_of sender.sends item.strings) (items_of sender.number items) }

-- One hand for each sender, in the order of the table.
abbrev pub hands_of : Table → List Item → List Hand
hands_of table items = map (hand_of items) table.senders

-- Whether there is one hand for each of these senders in order, with its number, and each message fits.
abbrev pub are_hands : List Sender → List Hand → Bool
are_hands [] [] = true
are_hands [] (hand ∷ hands) = false
are_hands (sender ∷ senders) [] = false
are_hands (sender ∷ senders) (hand ∷ hands) =
    hand.terminal == sender.number && (list_all (fits sender) hand.messages && are_hands senders hands)

-- The hands that items give are those of the table's senders, and each message fits.
abbrev pub GiveHands : Table → List Item → Type 0
GiveHands table items = IsTrue (are_hands table.senders (hands_of table items))

-- A hand with one more message behind the others.
abbrev pub with_message : Hand → Message → Hand
with_message hand message = record hand { messages = hand.messages ++ message ∷ [] }
