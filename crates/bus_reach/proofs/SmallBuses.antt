-- Small buses, computed by the definitions alone: two senders with terminal gaps of 2 and 3 bit times, a synchronization gap of 12, and messages
-- of 20, powered up when they like. The numbers are smaller than a table's may be, so that a list can be computed bit time by bit time. They show
-- what a late joiner does, and that the laws on joining and on any start ask for no more than they must.
use Rattle.std.proofs.Common.{◌≡◌, ℕ, List, [], ◌∷◌, map, refl}
use Rattle.std.specs.Prelude.{◌==◌, if◌then◌else◌}
use Rattle.bus_strings.specs.Messages.{Message, Entry}
use Rattle.bus_medium.specs.Lawful.{Station}
use Rattle.bus_medium.specs.Delays.{at_once}
use Rattle.bus_medium.specs.LawfulList.{cable_list}

-- a message of one wordstring without data words
abbrev label : ℕ → Message
label number = record { label = number; ext = 0; words = [] } ∷ []

abbrev station : ℕ → ℕ → ℕ → Station
station ti number tg = record {
  number = number;
  timing = record { ti = ti; sg = 12; tg = tg; quiet = 12; due = 0 };
  hand = label number ∷ label number ∷ label number ∷ label number ∷ [];
}

-- who starts when, of senders with this transmit interval and these wakes, before a horizon
abbrev starts : ℕ → ℕ → ℕ → ℕ → List (ℕ × ℕ)
starts ti one other horizon = map (λ (x : Entry). (x.moment, x.terminal))
    (cable_list 12 at_once (λ k. if k == 1 then one else other) (station ti 1 2 ∷ station ti 2 3 ∷ []) horizon)

-- Sender 2 runs, and sender 1 is powered up at 23, so that it wakes at 35: it starts before 2 would.
just_before : starts 34 35 0 96 ≡ (3, 2) ∷ (37, 1) ∷ (60, 2) ∷ (94, 1) ∷ []
just_before = refl

-- Powered up at 24 it starts together with 2, the one bad moment. From then on they are in order.
just_then : starts 34 36 0 96 ≡ (3, 2) ∷ (38, 1) ∷ (38, 2) ∷ (72, 1) ∷ (95, 2) ∷ []
just_then = refl

-- Powered up at 25 it speaks behind 2 once, and first from then on.
just_behind : starts 34 37 0 96 ≡ (3, 2) ∷ (38, 2) ∷ (60, 1) ∷ (94, 1) ∷ []
just_behind = refl

-- Both are powered up cold, 1 a bit time later. So they collide once, at 3, where the growing schedule has 1 at 3 and 2 behind it: the first in
-- turn order may not wake later than the others by more than the delays that are borne.
cold : starts 34 1 0 96 ≡ (3, 1) ∷ (3, 2) ∷ (37, 1) ∷ (60, 2) ∷ (94, 1) ∷ []
cold = refl

-- With a transmit interval that is longer by a bit time than what 1 waits and sends at least, they collide for ever.
never_in_order : starts 35 1 0 110 ≡ (3, 1) ∷ (3, 2) ∷ (38, 1) ∷ (38, 2) ∷ (73, 1) ∷ (73, 2) ∷ (108, 1) ∷ (108, 2) ∷ []
never_in_order = refl

-- Sender 1 runs alone in a cycle of 34. Where the transmit interval is 36 it starts at 38, and not at 36 as the growing schedule has it: the
-- first cycle may not be below the transmit interval.
alone_in_time : starts 34 0 60 60 ≡ (2, 1) ∷ (36, 1) ∷ []
alone_in_time = refl

alone_too_soon : starts 36 0 60 60 ≡ (2, 1) ∷ (38, 1) ∷ []
alone_too_soon = refl
