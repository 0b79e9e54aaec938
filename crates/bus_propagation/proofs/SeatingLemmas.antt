-- Senders take their seats.
use Rattle.std.proofs.Common.{◌≡◌, ℕ, ◌+◌, ◌<◌, ◌≤◌, true, List, [], ◌∷◌, ◌++◌, length, drop, map, Some, arith, sym, refl, ap, ◌∙◌, append_assoc}
use Rattle.std.specs.Prelude.{slice_get, zip, IsTrue}
use Rattle.std.specs.List.{AllByRecursion}
use Rattle.std.proofs.lemmas.List.{length_push, append-nil, map-append}
use Rattle.std.proofs.lemmas.Option.{slice_get_within}
use Rattle.bus_timers.specs.declared.timing.Timing.{Timing}
use Rattle.bus_strings.proofs.ListLaws.{all_push}
use Rattle.bus_strings.specs.Messages.{Message}
use Rattle.bus_table.specs.Tables.{Sender, Table, Hand}
use Rattle.bus_table.specs.Hands.{are_hands}
use Rattle.bus_table.specs.Valid.{is_valid}
use Rattle.bus_table.specs.inside.Facts.{SenderFacts}
use Rattle.bus_medium.specs.Timings.{quiet_of, timing_of, stations_of}
use Rattle.bus_medium.specs.Lawful.{Station}
use Rattle.bus_medium.specs.Wakes.{Wakes}
use Rattle.bus_medium.proofs.SeatingLemmas.{station_with, NextHand, next_hand, zip_none}
use Rattle.bus_medium.proofs.TimingLemmas.{sender_facts}
use Rattle.bus_propagation.specs.declared.seat.Seat.{Seat}
use Rattle.bus_propagation.specs.inside.Seats.{station_of}
use Rattle.bus_propagation.specs.inside.Turns.{IsSeated, IsSeatOf}

-- the senders from a place on, and the hands that are left
pub record IsSeating (table : Table) (hands : List Hand) (wake : Wakes) (seats : List Seat) (left : List Hand) : Type 0 where
  pub fit : are_hands (drop (length seats) table.senders) left ≡ true
  pub made : map station_of seats ++ map (λ p. station_with table p.0 p.1) (zip (drop (length seats) table.senders) left) ≡ stations_of table hands
  pub seated : AllByRecursion (IsSeated (quiet_of table) wake) seats

pub none_seated : (table : Table) (hands : List Hand) (wake : Wakes) → are_hands table.senders hands ≡ true → IsSeating table hands wake [] hands
none_seated table hands wake h = record { fit = h; made = refl; seated = tt }

-- a sender is left for the next hand
pub hand_within : (table : Table) (hands : List Hand) (wake : Wakes) (seats : List Seat) (hand : Hand) (left : List Hand) → IsSeating table hands wake seats (hand ∷ left) → length seats < length table.senders
hand_within table hands wake seats hand left so =
    let n : NextHand table.senders (length seats) hand left = next_hand table.senders (length seats) hand left so.fit in
    slice_get_within table.senders (length seats) n.sender n.at

seated_one : (table : Table) (wake : Wakes) (k : ℕ) (sender : Sender) (hand : Hand) (x : Seat) → IsTrue (is_valid table) → slice_get table.senders k ≡ Some sender → hand.terminal ≡ sender.number
    → IsSeatOf table sender hand wake x → IsSeated (quiet_of table) wake x
seated_one table wake k sender hand x valid at number s =
    let f : SenderFacts table sender = sender_facts table k sender valid at in
    let least : 1 ≤ sender.number = f.number_least in
    let most : sender.number ≤ 128 = f.number_most in
    let is : x.terminal ≡ hand.terminal = s.terminal in
    record {
      sender = record { sound = s.sound; least = omega arith; most = omega arith };
      quiet_is = ap (λ (t : Timing). t.quiet) s.timing;
      sent = s.sent;
      cursor = s.cursor;
      timers_moment = s.timers_moment;
      timers_due = s.timers_due;
      timers_gap = s.timers_gap;
      next = s.next;
    }

station_is : (table : Table) (sender : Sender) (hand : Hand) (wake : Wakes) (x : Seat) → IsSeatOf table sender hand wake x → station_of x ≡ station_with table sender hand
station_is table sender hand wake x s =
    let mk : ℕ → Timing → List Message → Station = λ n t h. record { number = n; timing = t; hand = h } in
    ap (λ n. mk n x.timing x.messages.items) s.terminal ∙ ap (λ t. mk hand.terminal t x.messages.items) s.timing ∙ ap (λ h. mk hand.terminal (timing_of table sender) h) s.messages

pub one_seated : (table : Table) (hands : List Hand) (wake : Wakes) (seats : List Seat) (hand : Hand) (left : List Hand) (x : Seat) → IsTrue (is_valid table) → IsSeating table hands wake seats (hand ∷ left)
    → ((sender : Sender) → slice_get table.senders (length seats) ≡ Some sender → IsSeatOf table sender hand wake x) → IsSeating table hands wake (seats ++ x ∷ []) left
one_seated table hands wake seats hand left x valid so made =
    let n : NextHand table.senders (length seats) hand left = next_hand table.senders (length seats) hand left so.fit in
    let s : IsSeatOf table n.sender hand wake x = made n.sender n.at in
    let long : length (seats ++ x ∷ []) ≡ length seats + 1 = length_push seats x in
    let f = λ (p : Sender × Hand). station_with table p.0 p.1 in
    record {
      fit = ap (λ k. are_hands (drop k table.senders) left) long ∙ n.fit;
      made =
          ap (λ k. map station_of (seats ++ x ∷ []) ++ map f (zip (drop k table.senders) left)) long
          ∙ ap (λ ss. ss ++ map f (zip (drop (length seats + 1) table.senders) left)) (map-append station_of seats (x ∷ []))
          ∙ append_assoc (map station_of seats) (station_of x ∷ []) (map f (zip (drop (length seats + 1) table.senders) left))
          ∙ ap (λ y. map station_of seats ++ y ∷ map f (zip (drop (length seats + 1) table.senders) left)) (station_is table n.sender hand wake x s)
          ∙ ap (λ ss. map station_of seats ++ map f (zip ss (hand ∷ left))) (sym n.behind)
          ∙ so.made;
      seated = all_push (IsSeated (quiet_of table) wake) seats x so.seated (seated_one table wake (length seats) n.sender hand x valid n.at n.number s);
    }

-- with no hand left every sender sits
pub all_seated : (table : Table) (hands : List Hand) (wake : Wakes) (seats : List Seat) → IsSeating table hands wake seats [] → map station_of seats ≡ stations_of table hands
all_seated table hands wake seats so = sym (ap (λ ss. map station_of seats ++ ss) (zip_none table (drop (length seats) table.senders)) ∙ append-nil (map station_of seats)) ∙ so.made
