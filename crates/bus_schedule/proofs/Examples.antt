-- Worked examples: the closed schedule of some tables and hands, by computation.
use Rattle.std.specs.Prelude.{◌≡◌, ℕ, pos, neg_ℤ, ◌+◌, ◌*◌, IsTrue, List, [], ◌∷◌, map, replicate, refl}
use Rattle.bus_strings.specs.Messages.{Wordstring, Message, Entry}
use Rattle.bus_table.specs.declared.line.SendLine.{SendLine}
use Rattle.bus_table.specs.declared.mode.Mode.TheVariants.{Aperiodic, Periodic}
use Rattle.bus_table.specs.Tables.{Sender, Table, Hand}
use Rattle.bus_table.specs.Valid.{is_valid}
use Rattle.bus_regime.specs.declared.table_verdict.TableVerdict.TheVariants.{ShortCycle, SmallGap}
use Rattle.bus_regime.specs.Verdicts.{verdict_of, is_accepted}
use Rattle.bus_schedule.specs.Even.{are_even}
use Rattle.bus_schedule.specs.Closed.{closed, closed_end}
use Rattle.bus_schedule.specs.Settled.{witness_hands}

abbrev line : ℕ → ℕ → ℕ → ℕ → SendLine
line label ext least most = record { label = label; ext = ext; least = least; most = most }

abbrev sender : ℕ → ℕ → List SendLine → Sender
sender number tg sends = record { number = number; tg = tg; at = 0; sends = sends; takes = [] }

abbrev aperiodic : ℕ → ℕ → List Sender → Table
aperiodic ti sg senders = record { mode = Aperiodic; ti = ti; sg = sg; senders = senders; listeners = [] }

-- so many data words behind a label
abbrev string : ℕ → ℕ → ℕ → Wordstring
string label ext words = record { label = label; ext = ext; words = replicate words 0 }

abbrev pub hand : ℕ → List Message → Hand
hand terminal messages = record { terminal = terminal; messages = messages }

-- the terminal and the moment of each start, and the closed end
pub record Start : Type 0 where
  pub terminal : ℕ
  pub moment : ℕ

abbrev pub start : ℕ → ℕ → Start
start terminal moment = record { terminal = terminal; moment = moment }

abbrev starts : Table → List Hand → List Start
starts table hands = map (λ (x : Entry). start x.terminal x.moment) (closed table hands)

-- a short message and a long one in each round
abbrev first_sender : Sender
first_sender = sender 1 20 (line 0xa1 1 2 4 ∷ [])

abbrev second_sender : Sender
second_sender = sender 2 30 (line 0xb2 1 30 40 ∷ [])

abbrev two_senders : Table
two_senders = aperiodic 1000 300 (first_sender ∷ second_sender ∷ [])

abbrev shortest_twice : List Hand
shortest_twice =
    hand 1 ((string 0xa1 1 2 ∷ []) ∷ (string 0xa1 1 2 ∷ []) ∷ [])
    ∷ hand 2 ((string 0xb2 1 30 ∷ []) ∷ (string 0xb2 1 30 ∷ []) ∷ []) ∷ []

abbrev longest_then_shortest : List Hand
longest_then_shortest =
    hand 1 ((string 0xa1 1 4 ∷ []) ∷ (string 0xa1 1 2 ∷ []) ∷ [])
    ∷ hand 2 ((string 0xb2 1 40 ∷ []) ∷ (string 0xb2 1 30 ∷ []) ∷ []) ∷ []

two_senders_are_accepted :
    IsTrue (is_valid two_senders) × IsTrue (is_accepted (verdict_of two_senders)) × IsTrue (are_even two_senders shortest_twice)
    × IsTrue (are_even two_senders longest_then_shortest)
two_senders_are_accepted = (refl, refl, refl, refl)

two_rounds_of_the_shortest : starts two_senders shortest_twice ≡ start 1 20 ∷ start 2 110 ∷ start 1 1050 ∷ start 2 1140 ∷ []
two_rounds_of_the_shortest = refl

two_rounds_of_the_shortest_end : closed_end two_senders shortest_twice ≡ 1760
two_rounds_of_the_shortest_end = refl

a_round_of_the_longest_first : starts two_senders longest_then_shortest ≡ start 1 20 ∷ start 2 150 ∷ start 1 1290 ∷ start 2 1380 ∷ []
a_round_of_the_longest_first = refl

a_round_of_the_longest_first_ends : closed_end two_senders longest_then_shortest ≡ 2000
a_round_of_the_longest_first_ends = refl

-- a table that is refused has a closed schedule too: its transmit interval is one bit time above its shortest cycle
abbrev refused_by_one : Table
refused_by_one = aperiodic 1031 300 (first_sender ∷ second_sender ∷ [])

refused_by_one_is_refused :
    IsTrue (is_valid refused_by_one) × (verdict_of refused_by_one ≡ ShortCycle 1030 1031) × IsTrue (are_even refused_by_one shortest_twice)
refused_by_one_is_refused = (refl, refl, refl)

refused_by_one_has_a_schedule : starts refused_by_one shortest_twice ≡ start 1 20 ∷ start 2 110 ∷ start 1 1050 ∷ start 2 1140 ∷ []
refused_by_one_has_a_schedule = refl

-- its witness has the shortest messages twice, which is just this
refused_by_one_has_a_witness : witness_hands refused_by_one ≡ shortest_twice
refused_by_one_has_a_witness = refl

-- senders speak by terminal gap, however the table lists them
abbrev listed_backwards : Table
listed_backwards = aperiodic 1000 300 (second_sender ∷ first_sender ∷ [])

abbrev shortest_twice_backwards : List Hand
shortest_twice_backwards =
    hand 2 ((string 0xb2 1 30 ∷ []) ∷ (string 0xb2 1 30 ∷ []) ∷ [])
    ∷ hand 1 ((string 0xa1 1 2 ∷ []) ∷ (string 0xa1 1 2 ∷ []) ∷ []) ∷ []

turns_go_by_gap : starts listed_backwards shortest_twice_backwards ≡ start 1 20 ∷ start 2 110 ∷ start 1 1050 ∷ start 2 1140 ∷ []
turns_go_by_gap = refl

-- terminal gaps that differ by one bit time, and a message with quiet between its wordstrings
abbrev neighbouring_gaps : Table
neighbouring_gaps = aperiodic 1000 500 (sender 1 8 (line 0xc1 0 1 1 ∷ line 0xc2 0 2 2 ∷ []) ∷ sender 2 9 (line 0xd1 0 20 20 ∷ []) ∷ [])

abbrev one_of_each : List Hand
one_of_each = hand 1 ((string 0xc1 0 1 ∷ string 0xc2 0 2 ∷ []) ∷ []) ∷ hand 2 ((string 0xd1 0 20 ∷ []) ∷ []) ∷ []

neighbouring_gaps_are_accepted :
    IsTrue (is_valid neighbouring_gaps) × IsTrue (is_accepted (verdict_of neighbouring_gaps)) × IsTrue (are_even neighbouring_gaps one_of_each)
neighbouring_gaps_are_accepted = (refl, refl, refl)

neighbouring_gaps_take_turns : starts neighbouring_gaps one_of_each ≡ start 1 8 ∷ start 2 121 ∷ []
neighbouring_gaps_take_turns = refl

neighbouring_gaps_take_turns_ends : closed_end neighbouring_gaps one_of_each ≡ 541
neighbouring_gaps_take_turns_ends = refl

-- the smallest gaps that a table may have
abbrev one_sender : Table
one_sender = aperiodic 1000 9 (sender 1 8 (line 1 0 60 60 ∷ []) ∷ [])

abbrev two_messages : List Hand
two_messages = hand 1 ((string 1 0 60 ∷ []) ∷ (string 1 0 60 ∷ []) ∷ []) ∷ []

one_sender_is_accepted : IsTrue (is_valid one_sender) × IsTrue (is_accepted (verdict_of one_sender)) × IsTrue (are_even one_sender two_messages)
one_sender_is_accepted = (refl, refl, refl)

one_sender_alone : starts one_sender two_messages ≡ start 1 8 ∷ start 1 1245 ∷ []
one_sender_alone = refl

one_sender_alone_ends : closed_end one_sender two_messages ≡ 2465
one_sender_alone_ends = refl

-- the greatest gaps that a table may have, and messages of a label word alone: a cycle of 1300 bit times
abbrev greatest_gaps : Table
greatest_gaps = aperiodic 1000 1024 (sender 1 256 (line 1 0 0 0 ∷ []) ∷ [])

abbrev three_messages : List Hand
three_messages = hand 1 ((string 1 0 0 ∷ []) ∷ (string 1 0 0 ∷ []) ∷ (string 1 0 0 ∷ []) ∷ []) ∷ []

greatest_gaps_are_accepted : IsTrue (is_valid greatest_gaps) × IsTrue (is_accepted (verdict_of greatest_gaps)) × IsTrue (are_even greatest_gaps three_messages)
greatest_gaps_are_accepted = (refl, refl, refl)

greatest_gaps_three_times : starts greatest_gaps three_messages ≡ start 1 256 ∷ start 1 1556 ∷ start 1 2856 ∷ []
greatest_gaps_three_times = refl

greatest_gaps_end : closed_end greatest_gaps three_messages ≡ 276 + 1300 * 2
greatest_gaps_end = refl

greatest_gaps_end_in_bit_times : closed_end greatest_gaps three_messages ≡ 2876
greatest_gaps_end_in_bit_times = refl

-- a periodic table: terminal 1 at the beginning of each interval, and terminal 2 just its terminal gap behind the end of the first
abbrev at_offset : ℕ → Sender → Sender
at_offset at s = record s { at = at }

abbrev periodic : ℕ → Sender → Sender → Table
periodic ti one other = record { mode = Periodic; ti = ti; sg = 300; senders = one ∷ other ∷ []; listeners = [] }

abbrev short_sender : Sender
short_sender = sender 1 20 (line 0xa1 1 2 2 ∷ [])

abbrev two_offsets : Table
two_offsets = periodic 2000 short_sender (at_offset 90 second_sender)

abbrev longest_last : List Hand
longest_last =
    hand 1 ((string 0xa1 1 2 ∷ []) ∷ (string 0xa1 1 2 ∷ []) ∷ [])
    ∷ hand 2 ((string 0xb2 1 30 ∷ []) ∷ (string 0xb2 1 40 ∷ []) ∷ []) ∷ []

two_offsets_are_accepted : IsTrue (is_valid two_offsets) × IsTrue (is_accepted (verdict_of two_offsets)) × IsTrue (are_even two_offsets longest_last)
two_offsets_are_accepted = (refl, refl, refl)

two_intervals : starts two_offsets shortest_twice ≡ start 1 0 ∷ start 2 90 ∷ start 1 2000 ∷ start 2 2090 ∷ []
two_intervals = refl

two_intervals_end : closed_end two_offsets shortest_twice ≡ 2710
two_intervals_end = refl

-- longer messages change no start, only the end
two_intervals_of_the_longest : starts two_offsets longest_last ≡ start 1 0 ∷ start 2 90 ∷ start 1 2000 ∷ start 2 2090 ∷ []
two_intervals_of_the_longest = refl

two_intervals_of_the_longest_end : closed_end two_offsets longest_last ≡ 2910
two_intervals_of_the_longest_end = refl

-- both at the same offset: the table is refused, and its closed schedule stands in the order of numbers
abbrev same_offset : Table
same_offset = periodic 2000 (at_offset 0 second_sender) short_sender

abbrev shortest_backwards : List Hand
shortest_backwards =
    hand 2 ((string 0xb2 1 30 ∷ []) ∷ (string 0xb2 1 30 ∷ []) ∷ [])
    ∷ hand 1 ((string 0xa1 1 2 ∷ []) ∷ (string 0xa1 1 2 ∷ []) ∷ []) ∷ []

same_offset_is_refused : IsTrue (is_valid same_offset) × (verdict_of same_offset ≡ SmallGap 2 (neg_ℤ (pos 60)) 30)
same_offset_is_refused = (refl, refl)

same_offset_by_number : starts same_offset shortest_backwards ≡ start 1 0 ∷ start 2 0 ∷ start 1 2000 ∷ start 2 2000 ∷ []
same_offset_by_number = refl

-- messages longer than the interval: a round ends behind the one after it
abbrev longer_than_the_interval : Table
longer_than_the_interval = record { mode = Periodic; ti = 1000; sg = 300; senders = sender 1 20 (line 1 0 0 100 ∷ []) ∷ []; listeners = [] }

abbrev long_then_short : List Hand
long_then_short = hand 1 ((string 1 0 100 ∷ []) ∷ (string 1 0 0 ∷ []) ∷ []) ∷ []

long_then_short_starts : starts longer_than_the_interval long_then_short ≡ start 1 0 ∷ start 1 1000 ∷ []
long_then_short_starts = refl

long_then_short_ends_with_the_first : closed_end longer_than_the_interval long_then_short ≡ 2020
long_then_short_ends_with_the_first = refl
