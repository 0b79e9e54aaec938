-- A layout, worked: two senders with terminal gaps of 20 and 30 and a synchronization gap of 300 at places 0 and 4, a listener between them, and a
-- stranger far off that wakes late.
use Rattle.std.proofs.Common.{arith, ◌≡◌, None, ℕ, Bool, List, [], ◌∷◌, map, replicate, refl, false}
use Rattle.std.specs.Prelude.{◌==◌, ◌≤◌, if◌then◌else◌}
use Rattle.bus_strings.specs.Messages.{Message, Entry}
use Rattle.bus_strings.proofs.MemberLaws.{of_each}
use Rattle.bus_table.specs.declared.mode.Mode.TheVariants.{Aperiodic}
use Rattle.bus_table.specs.Tables.{Sender, Table, Hand}
use Rattle.bus_medium.specs.Delays.{cable, distance}
use Rattle.bus_medium.specs.Wakes.{Wakes, AreWakes}
use Rattle.bus_reach.specs.Schedule.{cable_closed}
use Rattle.bus_cable.specs.Hearing.{hearing, hearings}
use Rattle.bus_cable.specs.Layouts.{AreAlike, AreNear}
use Rattle.bus_cable.specs.OrderLaws.{IsRunOnPlaces, BorneIsOrderly}

abbrev sender : ℕ → ℕ → ℕ → Sender
sender number tg words = record { number = number; tg = tg; at = 0; sends = record { label = number; ext = 1; least = words; most = words } ∷ []; takes = [] }

abbrev message : ℕ → ℕ → Message
message number words = record { label = number; ext = 1; words = replicate words 0 } ∷ []

abbrev two : Table
two = record {
  mode = Aperiodic;
  ti = 1000;
  sg = 300;
  senders = sender 1 20 2 ∷ sender 2 30 30 ∷ [];
  listeners = record { number = 3; takes = record { label = 1; ext = None; first = 0; count = 1 } ∷ [] } ∷ [];
}

abbrev hands : List Hand
hands = record { terminal = 1; messages = message 1 2 ∷ message 1 2 ∷ [] } ∷ record { terminal = 2; messages = message 2 30 ∷ message 2 30 ∷ [] } ∷ []

-- terminal 9 is a stranger
abbrev place : ℕ → ℕ
place number = if number == 2 then 4 else (if number == 3 then 2 else (if number == 9 then 900 else 0))

abbrev wake : Wakes
wake number = if number == 1 then 4 else (if number == 9 then 5000 else 0)

-- and in this layout it is at place 0 and wakes at once
abbrev other_place : ℕ → ℕ
other_place number = if number == 2 then 4 else (if number == 3 then 2 else 0)

abbrev other_wake : Wakes
other_wake number = if number == 1 then 4 else 0

abbrev starts : List Entry → List ℕ
starts list = map (λ x. x.moment) list

starts_are : starts (cable_closed (cable place) wake two hands) ≡ 24 ∷ 118 ∷ 1062 ∷ 1156 ∷ []
starts_are = refl

alike : AreAlike two place other_place wake other_wake
alike = record {
  places = of_each (λ n. place n ≡ other_place n) (1 ∷ 2 ∷ 3 ∷ []) (refl, (refl, (refl, tt)));
  wakes = of_each (λ (s : Sender). wake s.number ≡ other_wake s.number) two.senders (refl, (refl, tt));
}

near : AreNear 4 two place
near s number i j =
    of_each (λ (s : Sender). distance (place s.number) (place number) ≤ 4) two.senders (
      of_each (λ n. distance 0 (place n) ≤ 4) (1 ∷ 2 ∷ 3 ∷ []) (omega arith, (omega arith, (omega arith, tt))) number j,
      (
        of_each (λ n. distance 4 (place n) ≤ 4) (1 ∷ 2 ∷ 3 ∷ []) (omega arith, (omega arith, (omega arith, tt))) number j,
        tt,
      ),
    ) s i

no_later : AreWakes 4 two.senders wake
no_later = of_each (λ (s : Sender). wake s.number ≤ 4) two.senders (omega arith, (omega arith, tt))

-- so it is the run up to moment 3000
run : BorneIsOrderly → IsRunOnPlaces two hands place wake 3000 (cable_closed (cable place) wake two hands)
run orderly = orderly two hands 4 place wake 3000 refl refl refl refl refl near no_later (omega arith)

-- when a transmission is heard, and whether it is garbled there
abbrev told : Entry × Bool → ℕ × Bool
told marked = (marked.0.moment, marked.1)

-- the listener hears each begin 2 bit times later, none garbled
marks_are : map told (hearings (cable place) (cable_closed (cable place) wake two hands) 3)
    ≡ (26, false) ∷ (120, false) ∷ (1064, false) ∷ (1158, false) ∷ []
unfolding hearing
marks_are = refl
