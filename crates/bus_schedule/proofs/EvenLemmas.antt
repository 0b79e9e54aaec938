-- The hand of each sender, where hands are even.
use Rattle.std.proofs.Common.{◌≡◌, ℕ, zero, suc, ◌<◌, ◌==◌, List, [], ◌∷◌, length, get_or, Some, arith, sym, ap, ◌∙◌, refl}
use Rattle.std.specs.Prelude.{slice_get, IsTrue}
use Rattle.std.specs.List.{list_all}
use Rattle.std.proofs.lemmas.Bool.{and_parts}
use Rattle.std.proofs.lemmas.List.{get_or_read}
use Rattle.std.proofs.lemmas.Option.{slice_get_within, slice_get_read, get_or_from_slice_get}
use Rattle.bus_strings.specs.Messages.{Message}
use Rattle.bus_table.specs.Tables.{Sender, Table, Hand}
use Rattle.bus_table.specs.Hands.{are_hands}
use Rattle.bus_table.specs.Valid.{is_valid}
use Rattle.bus_table.proofs.ValidLaws.{valid_facts}
use Rattle.bus_table.proofs.TurnLaws.{at_in, numbers_differ}
use Rattle.bus_schedule.specs.Even.{messages_of, rounds, are_even}
use Rattle.bus_schedule.proofs.HandLaws.{HandAt, hand_at}
use Rattle.bus_schedule.proofs.HandLemmas.{own_count}

-- the hand of a sender stands at the sender's place, and has a message for each round
pub record EvenHandAt (hands : List Hand) (k : ℕ) (sender : Sender) (count : ℕ) : Type 0 where
  pub hand : Hand
  pub at : slice_get hands k ≡ Some hand
  pub messages : messages_of hands sender.number ≡ hand.messages
  pub whole : length hand.messages ≡ count

pub even_hand_at : (table : Table) (hands : List Hand) (k : ℕ) (sender : Sender) → IsTrue (is_valid table) → IsTrue (are_even table hands)
    → slice_get table.senders k ≡ Some sender → EvenHandAt hands k sender (rounds hands)
even_hand_at table hands k sender valid even at =
    let parts = and_parts (are_hands table.senders hands) (list_all (λ hand. length hand.messages == rounds hands) hands) even in
    let differ = numbers_differ table (valid_facts table valid) in
    let there : HandAt hands k sender = hand_at table.senders hands k sender differ parts.0 at in
    record {
      hand = there.hand;
      at = there.at;
      messages = there.messages;
      whole = sym (ap length there.messages)
          ∙ own_count (rounds hands) table.senders hands parts.0 parts.1 differ sender (at_in table.senders k sender at);
    }

-- a sender that is read stands in the table
pub read_sender : (table : Table) (senders : List Sender) (k : ℕ) (sender : Sender) → senders ≡ table.senders → k < length senders
    → sender ≡ get_or senders k sender → slice_get table.senders k ≡ Some sender
read_sender table senders k sender same inside is = ap (λ ss. slice_get ss k) (sym same) ∙ slice_get_read senders (length senders) k sender refl inside is

pub hand_within : (table : Table) (hands : List Hand) (k : ℕ) (sender : Sender) → IsTrue (is_valid table) → IsTrue (are_even table hands)
    → slice_get table.senders k ≡ Some sender → k < length hands
hand_within table hands k sender valid even at =
    let there : EvenHandAt hands k sender (rounds hands) = even_hand_at table hands k sender valid even at in
    slice_get_within hands k there.hand there.at

-- the hand that is read at the place of a sender is that sender's
read_hand : (table : Table) (hands : List Hand) (k : ℕ) (sender : Sender) (hand : Hand) → IsTrue (is_valid table) → IsTrue (are_even table hands)
    → slice_get table.senders k ≡ Some sender → hand ≡ get_or hands k hand
    → (messages_of hands sender.number ≡ hand.messages) × (length hand.messages ≡ rounds hands)
read_hand table hands k sender hand valid even at hand_is =
    let there : EvenHandAt hands k sender (rounds hands) = even_hand_at table hands k sender valid even at in
    let h : hand ≡ there.hand = hand_is ∙ get_or_from_slice_get hands k there.hand hand there.at in
    let m : hand.messages ≡ there.hand.messages = ap (λ (w : Hand). w.messages) h in
    (there.messages ∙ sym m, ap length m ∙ there.whole)

-- it has a message for each round, and the message that is read of it is the sender's of this round
pub message_there : (table : Table) (hands : List Hand) (k round : ℕ) (sender : Sender) (hand : Hand) (messages : List Message)
    → IsTrue (is_valid table) → IsTrue (are_even table hands) → round < rounds hands
    → slice_get table.senders k ≡ Some sender → hand ≡ get_or hands k hand → messages ≡ hand.messages → round < length messages
message_there table hands k round sender hand messages valid even less at hand_is messages_is =
    let r = read_hand table hands k sender hand valid even at hand_is in
    let long : length messages ≡ rounds hands = ap length messages_is ∙ r.1 in
    omega arith

pub message_at : (table : Table) (hands : List Hand) (k round : ℕ) (sender : Sender) (hand : Hand) (messages : List Message) (message : Message)
    → IsTrue (is_valid table) → IsTrue (are_even table hands) → round < rounds hands
    → slice_get table.senders k ≡ Some sender → hand ≡ get_or hands k hand → messages ≡ hand.messages → message ≡ get_or messages round message
    → message ≡ get_or (messages_of hands sender.number) round []
message_at table hands k round sender hand messages message valid even less at hand_is messages_is message_is =
    let r = read_hand table hands k sender hand valid even at hand_is in
    get_or_read messages round message (message_there table hands k round sender hand messages valid even less at hand_is messages_is) message_is [] ∙ ap (λ ms. get_or ms round []) (messages_is ∙ sym r.0)

-- the sender at a place
pub sender_at : (senders : List Sender) (k : ℕ) → k < length senders → (sender : Sender) × (slice_get senders k ≡ Some sender)
sender_at [] k less = absurd (omega arith)
sender_at (s ∷ senders) zero less = (s, refl)
sender_at (s ∷ senders) (suc k) less = sender_at senders k (omega arith)
