-- What a latency is good for: no data are older than that when they have been received.
--   least, most   the verdict's
--   d             what the table bears
use Rattle.std.specs.Prelude.{◌≡◌, ℕ, ◌+◌, ◌<◌, ◌≤◌, IsTrue, List, Some, length, slice_get}
use Rattle.bus_strings.specs.Members.{In}
use Rattle.bus_strings.specs.Messages.{Entry}
use Rattle.bus_strings.specs.Pulses.{pulse_start, pulse_length}
use Rattle.bus_table.specs.declared.mode.Mode.TheVariants.{Aperiodic, Periodic}
use Rattle.bus_table.specs.Tables.{Sender, Table, Hand, sender_numbers}
use Rattle.bus_table.specs.Valid.{is_valid}
use Rattle.bus_medium.specs.Delays.{Delays, AreDelays, HearsWithin}
use Rattle.bus_medium.specs.Wakes.{Wakes, AreWakes}
use Rattle.bus_regime.specs.declared.table_verdict.TableVerdict.TheVariants.{Accept}
use Rattle.bus_regime.specs.Verdicts.{verdict_of}
use Rattle.bus_schedule.specs.Closed.{closed}
use Rattle.bus_schedule.specs.Even.{are_even}
use Rattle.bus_reach.specs.Bearing.{bears}
use Rattle.bus_reach.specs.Latency.{latency}
use Rattle.bus_reach.specs.Schedule.{cable_closed}

-- When the terminal with this number has heard the wordstring at this place of a transmission to its last word.
abbrev pub received_end : Delays → ℕ → Entry → ℕ → ℕ
received_end delay number x place = x.moment + (pulse_start x.message place + pulse_length x.message place) + delay x number

-- In this list of transmissions data that just miss a start of a sender are received within their latency, by every terminal that hears
-- the senders no later than d, with every message that the sender may send next.
abbrev pub AreReceivedInTime : Table → (most d : ℕ) → Delays → List Entry → Type 0
AreReceivedInTime table most d delay list =
    (sender : Sender) (k place number : ℕ) (missed next : Entry) → In sender table.senders → place < length sender.sends
    → slice_get list k ≡ Some missed → missed.terminal ≡ sender.number → slice_get list (k + length table.senders) ≡ Some next
    → HearsWithin d (sender_numbers table) delay number
    → (next.terminal ≡ sender.number) × (received_end delay number next place ≤ missed.moment + latency table most d sender place)

-- So it is of an accepted aperiodic table and even hands, with delays between its senders up to what the table bears and wakes that are no
-- later than that.
abbrev pub AperiodicAreInTime : Type 0
AperiodicAreInTime =
    (table : Table) (hands : List Hand) (least most d : ℕ) (delay : Delays) (wake : Wakes) → IsTrue (is_valid table)
    → table.mode ≡ Aperiodic → verdict_of table ≡ Accept Aperiodic least most → IsTrue (are_even table hands)
    → AreDelays d (sender_numbers table) delay → AreWakes d table.senders wake → IsTrue (bears table d)
    → AreReceivedInTime table most d delay (cable_closed delay wake table hands)

-- And of an accepted periodic table and even hands, with delays between its senders up to what the table bears, where all wake at the
-- settled start.
abbrev pub PeriodicAreInTime : Type 0
PeriodicAreInTime =
    (table : Table) (hands : List Hand) (least most d : ℕ) (delay : Delays) → IsTrue (is_valid table) → table.mode ≡ Periodic
    → verdict_of table ≡ Accept Periodic least most → IsTrue (are_even table hands)
    → AreDelays d (sender_numbers table) delay → IsTrue (bears table d)
    → AreReceivedInTime table most d delay (closed table hands)
