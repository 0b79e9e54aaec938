-- Worked examples: the drop-out schedule of some tables and hands, by computation.
use Rattle.std.specs.Prelude.{◌≡◌, ℕ, List, [], ◌∷◌, map, replicate, Some, None, IsTrue, refl}
use Rattle.bus_schedule.proofs.Examples.{Start, start, hand}
use Rattle.bus_strings.specs.Messages.{Message, Entry}
use Rattle.bus_table.specs.declared.mode.Mode.TheVariants.{Aperiodic}
use Rattle.bus_table.specs.Tables.{Sender, Table, Hand}
use Rattle.bus_table.specs.Hands.{are_hands}
use Rattle.bus_table.specs.Valid.{is_valid}
use Rattle.bus_dropout.specs.DropOut.{dropout, drop_end, last_cycle}

abbrev sender : ℕ → ℕ → ℕ → ℕ → ℕ → Sender
sender number tg label least most =
    record { number = number; tg = tg; at = 0; sends = record { label = label; ext = 1; least = least; most = most } ∷ []; takes = [] }

abbrev aperiodic : ℕ → List Sender → Table
aperiodic sg senders = record { mode = Aperiodic; ti = 1000; sg = sg; senders = senders; listeners = [] }

-- a message of so many data words
abbrev message : ℕ → ℕ → Message
message label words = record { label = label; ext = 1; words = replicate words 0 } ∷ []

abbrev starts : Table → List Hand → List Start
starts table hands = map (λ (x : Entry). start x.terminal x.moment) (dropout table hands)

-- sender 1 goes on alone
abbrev long_gap : Table
long_gap = aperiodic 1000 (sender 1 20 0xa1 2 4 ∷ sender 2 30 0xb2 1 2 ∷ [])

abbrev two_and_one : List Hand
two_and_one = hand 1 (message 0xa1 2 ∷ message 0xa1 2 ∷ []) ∷ hand 2 (message 0xb2 1 ∷ []) ∷ []

one_goes_on :
    IsTrue (is_valid long_gap) × IsTrue (are_hands long_gap.senders two_and_one)
    × (starts long_gap two_and_one ≡ start 1 20 ∷ start 2 110 ∷ start 1 1170 ∷ []) × (drop_end long_gap two_and_one ≡ 1230)
    × (last_cycle long_gap two_and_one ≡ Some 1080)
one_goes_on = (refl, refl, refl, refl, refl)

-- sender 1 falls silent: its terminal gap isn't waited for, and its message isn't in the last cycle
abbrev short_gap : Table
short_gap = aperiodic 300 (sender 1 20 0xa1 2 4 ∷ sender 2 30 0xb2 30 40 ∷ [])

abbrev one_and_two : List Hand
one_and_two = hand 1 (message 0xa1 4 ∷ []) ∷ hand 2 (message 0xb2 40 ∷ message 0xb2 30 ∷ []) ∷ []

the_first_falls_silent :
    (starts short_gap one_and_two ≡ start 1 20 ∷ start 2 150 ∷ start 2 1300 ∷ []) × (drop_end short_gap one_and_two ≡ 1920)
    × (last_cycle short_gap one_and_two ≡ Some 950)
the_first_falls_silent = (refl, refl, refl)

-- a sender without a message, and nobody with one
a_hand_without_a_message :
    starts short_gap (hand 1 [] ∷ hand 2 (message 0xb2 30 ∷ message 0xb2 30 ∷ []) ∷ []) ≡ start 2 30 ∷ start 2 980 ∷ []
a_hand_without_a_message = refl

abbrev nothing : List Hand
nothing = hand 1 [] ∷ hand 2 [] ∷ []

nobody_has_a_message : (dropout short_gap nothing ≡ []) × (drop_end short_gap nothing ≡ 0) × (last_cycle short_gap nothing ≡ None)
nobody_has_a_message = (refl, refl, refl)
