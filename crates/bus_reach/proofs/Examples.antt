-- Schedules on a cable, computed: two senders with terminal gaps of 20 and 30, a synchronization gap of 300, and two messages each, of 60 and of 620 bit times.
use Rattle.std.proofs.Common.{◌≡◌, ℕ, true, false, List, [], ◌∷◌, map, replicate, refl}
use Rattle.std.specs.Prelude.{◌==◌, if◌then◌else◌}
use Rattle.bus_strings.specs.Messages.{Message, Entry}
use Rattle.bus_table.specs.declared.mode.Mode.TheVariants.{Aperiodic}
use Rattle.bus_table.specs.Tables.{Sender, Table, Hand}
use Rattle.bus_medium.specs.Delays.{cable}
use Rattle.bus_reach.specs.Joining.{growing}
use Rattle.bus_reach.specs.Schedule.{cable_closed}
use Rattle.bus_reach.specs.Bearing.{bears}

abbrev sender : ℕ → ℕ → ℕ → Sender
sender number tg words = record { number = number; tg = tg; at = 0; sends = record { label = number; ext = 1; least = words; most = words } ∷ []; takes = [] }

abbrev message : ℕ → ℕ → Message
message number words = record { label = number; ext = 1; words = replicate words 0 } ∷ []

abbrev two : Table
two = record { mode = Aperiodic; ti = 1000; sg = 300; senders = sender 1 20 2 ∷ sender 2 30 30 ∷ []; listeners = [] }

abbrev hands : List Hand
hands = record { terminal = 1; messages = message 1 2 ∷ message 1 2 ∷ [] } ∷ record { terminal = 2; messages = message 2 30 ∷ message 2 30 ∷ [] } ∷ []

abbrev starts : List Entry → List ℕ
starts list = map (λ x. x.moment) list

-- places 0 and 4
abbrev far : ℕ → ℕ → ℕ
far d k = if k == 2 then d else 0

abbrev first_wakes : ℕ → ℕ → ℕ
first_wakes d k = if k == 1 then d else 0

cable_of_four : starts (cable_closed (cable (far 4)) (λ _. 0) two hands) ≡ 20 ∷ 114 ∷ 1058 ∷ 1152 ∷ []
cable_of_four = refl

and_wakes : starts (cable_closed (cable (far 4)) (first_wakes 4) two hands) ≡ 24 ∷ 118 ∷ 1062 ∷ 1156 ∷ []
and_wakes = refl

bears_four : bears two 4 ≡ true
bears_four = refl

bears_no_more : bears two 5 ≡ false
bears_no_more = refl

-- the second joins in the second round
joins : starts (growing (cable (far 0)) (λ k. if k == 2 then 21 else 0) two hands) ≡ 20 ∷ 400 ∷ 490 ∷ []
joins = refl

-- the same with a synchronization gap of 1000 and a short message of the second, which is powered up at 100: it hears the first start of the
-- second round, at 1100, just awake
abbrev near : Table
near = record { mode = Aperiodic; ti = 1000; sg = 1000; senders = sender 1 20 2 ∷ sender 2 30 1 ∷ []; listeners = [] }

abbrev three : List Hand
three = record { terminal = 1; messages = message 1 2 ∷ message 1 2 ∷ message 1 2 ∷ [] }
    ∷ record { terminal = 2; messages = message 2 1 ∷ message 2 1 ∷ message 2 1 ∷ [] } ∷ []

abbrev second_wakes : ℕ → ℕ → ℕ
second_wakes moment k = if k == 2 then moment else 0

joins_at_once : starts (growing (cable (far 0)) (second_wakes 1100) near three) ≡ 20 ∷ 1100 ∷ 1190 ∷ 2250 ∷ 2340 ∷ []
joins_at_once = refl

-- powered up a bit time later it waits for the next round
joins_later : starts (growing (cable (far 0)) (second_wakes 1101) near three) ≡ 20 ∷ 1100 ∷ 2180 ∷ 2270 ∷ []
joins_later = refl
