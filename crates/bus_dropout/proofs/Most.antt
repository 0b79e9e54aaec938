-- The greatest number of messages in a hand, and the senders that have a message left.
use Rattle.std.proofs.Common.{◌≡◌, ℕ, zero, suc, ◌<◌, ◌≤◌, max, true, false, cond, List, [], ◌∷◌, length, get_or, Some, inl, inr, arith, sym, refl, ap, ◌∙◌}
use Rattle.std.specs.Prelude.{◌==◌, slice_get, IsTrue}
use Rattle.std.specs.List.{list_all}
use Rattle.std.proofs.lemmas.Bool.{and_parts, cases_lt, eqb-true, lt-ltb}
use Rattle.std.proofs.lemmas.Option.{slice_get_within, slice_get_read, get_or_from_slice_get}
use Rattle.bus_strings.specs.Members.{In}
use Rattle.bus_strings.proofs.MemberLaws.{in_at, in_filter}
use Rattle.bus_table.specs.Fits.{fits}
use Rattle.bus_table.specs.Hands.{are_hands}
use Rattle.bus_table.specs.Tables.{Sender, Table, Hand}
use Rattle.bus_table.specs.Turns.{turn_key, turn_order}
use Rattle.bus_table.specs.inside.Orders.{Differ}
use Rattle.bus_table.proofs.TurnLaws.{in_sort, numbers_differ}
use Rattle.bus_table.specs.Valid.{is_valid}
use Rattle.bus_table.proofs.ValidLaws.{valid_facts}
use Rattle.bus_schedule.specs.Even.{messages_of, rounds, are_even}
use Rattle.bus_schedule.proofs.HandLaws.{HandAt, hand_at, hand_here, hand_of_other}
use Rattle.bus_schedule.specs.Live.{live}
use Rattle.bus_schedule.specs.Uneven.{count_of}
use Rattle.bus_dropout.specs.DropOut.{most_messages}

max_first : (a b : ℕ) → a ≤ max a b
max_first a b = grind arith

max_second : (a b c : ℕ) → c ≤ b → c ≤ max a b
max_second a b c h = grind arith

max_either : (a b n : ℕ) → n < max a b → a ≤ n → n < b
max_either a b n h k = grind arith

max_both : (a b n : ℕ) → a ≤ n → b ≤ n → max a b ≤ n
max_both a b n h k = grind arith

-- no sender has more messages
pub count_most : (hands : List Hand) (number : ℕ) → count_of hands number ≤ most_messages hands
count_most [] number = omega arith
count_most (hand ∷ hands) number =
    elim (hand.terminal == number) as (λ b. length (cond b hand.messages (messages_of hands number)) ≤ max (length hand.messages) (most_messages hands)) [
      | true ↦ max_first (length hand.messages) (most_messages hands)
      | false ↦ max_second (length hand.messages) (most_messages hands) (count_of hands number) (count_most hands number)
    ]

-- a sender that has more messages than these
record HasMore (senders : List Sender) (hands : List Hand) (round : ℕ) : Type 0 where
  sender : Sender
  there : In sender senders
  more : round < count_of hands sender.number

has_more : (senders : List Sender) (hands : List Hand) (round : ℕ) → Differ (λ s. s.number) senders → are_hands senders hands ≡ true
    → round < most_messages hands → HasMore senders hands round
has_more senders [] round d a less = absurd (omega arith)
has_more [] (hand ∷ hands) round d a less = absurd cc
has_more (s ∷ senders) (hand ∷ hands) round d a less =
    let one = and_parts (hand.terminal == s.number) _ a in
    let two = and_parts (list_all (fits s) hand.messages) _ one.1 in
    let number : hand.terminal ≡ s.number = eqb-true hand.terminal s.number one.0 in
    elim (cases_lt round (length hand.messages)) [
      | inl here ↦ record {
        sender = s;
        there = inl refl;
        more = let e : count_of (hand ∷ hands) s.number ≡ length hand.messages = ap length (hand_here hand hands s.number number) in omega arith;
      }
      | inr spent ↦
          let rest : HasMore senders hands round = has_more senders hands round d.1 two.1 (max_either (length hand.messages) (most_messages hands) round less spent) in
          record {
            sender = rest.sender;
            there = inr rest.there;
            more =
                let e : count_of (hand ∷ hands) rest.sender.number ≡ count_of hands rest.sender.number =
                ap length (hand_of_other s senders hand hands rest.sender d number rest.there) in
                let k : round < count_of hands rest.sender.number = rest.more in
                omega arith;
          }
    ]

in_some : (sender : Sender) (senders : List Sender) → In sender senders → 0 < length senders
in_some sender [] i = absurd i
in_some sender (s ∷ senders) i = omega arith

-- each round has a sender
pub live_some : (table : Table) (hands : List Hand) (round : ℕ) → IsTrue (is_valid table) → IsTrue (are_hands table.senders hands)
    → round < most_messages hands → 0 < length (live table (messages_of hands) round)
live_some table hands round valid dealt less =
    let w : HasMore table.senders hands round = has_more table.senders hands round (numbers_differ table (valid_facts table valid)) dealt less in
    in_some w.sender (live table (messages_of hands) round)
    (in_filter _ (turn_order table) w.sender (in_sort (turn_key table.mode) table.senders w.sender w.there)
    (lt-ltb round (count_of hands w.sender.number) w.more))

-- where all have the same number of messages, that is the greatest
pub most_even : (hands : List Hand) → list_all (λ hand. length hand.messages == rounds hands) hands ≡ true → most_messages hands ≡ rounds hands
most_even [] h = refl
most_even (hand ∷ hands) h =
    let rest : most_messages hands ≤ length hand.messages = most_low (length hand.messages) hands (and_parts (length hand.messages == length hand.messages) _ h).1 in
    omega (
      arith,
      max_first (length hand.messages) (most_messages hands),
      max_both (length hand.messages) (most_messages hands) (length hand.messages) (omega arith) rest,
    )
  where
    most_low : (n : ℕ) (hands : List Hand) → list_all (λ hand. length hand.messages == n) hands ≡ true → most_messages hands ≤ n
    most_low n [] h = omega arith
    most_low n (hand ∷ hands) h =
        let parts = and_parts (length hand.messages == n) _ h in
        let same : length hand.messages ≡ n = eqb-true (length hand.messages) n parts.0 in
        max_both (length hand.messages) (most_messages hands) n (omega arith) (most_low n hands parts.1)

-- and each sender has it
pub count_even : (table : Table) (hands : List Hand) (sender : Sender) → IsTrue (is_valid table) → IsTrue (are_even table hands)
    → In sender table.senders → count_of hands sender.number ≡ rounds hands
count_even table hands sender valid even i =
    let parts = and_parts (are_hands table.senders hands) _ even in
    let place = in_at table.senders sender i in
    let there : HandAt hands place.0 sender = hand_at table.senders hands place.0 sender (numbers_differ table (valid_facts table valid)) parts.0 place.1 in
    ap length there.messages ∙ counted hands place.0 there.hand parts.1 there.at
  where
    counted : (others : List Hand) (k : ℕ) (hand : Hand) → list_all (λ hand. length hand.messages == rounds hands) others ≡ true
        → slice_get others k ≡ Some hand → length hand.messages ≡ rounds hands
    counted [] k hand h at = absurd cc
    counted (other ∷ others) zero hand h at =
        let same : other ≡ hand = cc in
        ap (λ (x : Hand). length x.messages) (sym same) ∙ eqb-true (length other.messages) (rounds hands) (and_parts _ _ h).0
    counted (other ∷ others) (suc k) hand h at = counted others k hand (and_parts (length other.messages == rounds hands) _ h).1 at

-- the hand of the sender that is read at a place stands there too
pub read_at : (table : Table) (hands : List Hand) (senders : List Sender) (k : ℕ) (sender : Sender) → IsTrue (is_valid table)
    → IsTrue (are_hands table.senders hands) → senders ≡ table.senders → k < length senders → sender ≡ get_or senders k sender
    → HandAt hands k sender
read_at table hands senders k sender valid dealt same inside is =
    hand_at table.senders hands k sender (numbers_differ table (valid_facts table valid)) dealt
    (ap (λ ss. slice_get ss k) (sym same) ∙ slice_get_read senders (length senders) k sender refl inside is)

pub hand_within : (table : Table) (hands : List Hand) (senders : List Sender) (k : ℕ) (sender : Sender) → IsTrue (is_valid table)
    → IsTrue (are_hands table.senders hands) → senders ≡ table.senders → k < length senders → sender ≡ get_or senders k sender
    → k < length hands
hand_within table hands senders k sender valid dealt same inside is =
    let there : HandAt hands k sender = read_at table hands senders k sender valid dealt same inside is in
    slice_get_within hands k there.hand there.at

-- and the hand that is read there is that sender's
pub read_hand : (table : Table) (hands : List Hand) (senders : List Sender) (k : ℕ) (sender : Sender) (hand : Hand) → IsTrue (is_valid table)
    → IsTrue (are_hands table.senders hands) → senders ≡ table.senders → k < length senders → sender ≡ get_or senders k sender
    → hand ≡ get_or hands k hand → messages_of hands sender.number ≡ hand.messages
read_hand table hands senders k sender hand valid dealt same inside is hand_is =
    let there : HandAt hands k sender = read_at table hands senders k sender valid dealt same inside is in
    there.messages ∙ sym (ap (λ (h : Hand). h.messages) (hand_is ∙ get_or_from_slice_get hands k there.hand hand there.at))
