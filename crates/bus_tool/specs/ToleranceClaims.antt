-- What is claimed of `tolerance`: what its number and its last word mean.
use Rattle.std.specs.Prelude.{◌≡◌, ◌↔◌, ℕ, ◌+◌, ◌≤◌, IsTrue, List, ◌++◌, length, codes, Some, None}
use Rattle.bus_strings.specs.Messages.{Entry}
use Rattle.bus_table.specs.Hands.{are_hands}
use Rattle.bus_table.specs.Tables.{Table, Hand, sender_numbers}
use Rattle.bus_table.specs.Timers.{quiet_of}
use Rattle.bus_table.specs.declared.mode.Mode.{Mode}
use Rattle.bus_table.specs.declared.mode.Mode.TheVariants.{Aperiodic, Periodic}
use Rattle.bus_medium.specs.CableLawful.{IsLawfulOnCable}
use Rattle.bus_medium.specs.Delays.{Delays, AreDelays, at_once}
use Rattle.bus_medium.specs.Timings.{stations_of}
use Rattle.bus_medium.specs.Wakes.{Wakes, AreWakes}
use Rattle.bus_regime.specs.Verdicts.{most_cycle}
use Rattle.bus_regime.specs.declared.table_verdict.TableVerdict.{TableVerdict}
use Rattle.bus_regime.specs.declared.table_verdict.TableVerdict.TheVariants.{Accept, ShortCycle, SmallGap, NoSync}
use Rattle.bus_schedule.specs.CableRuns.{IsRunOnCable}
use Rattle.bus_schedule.specs.Closed.{closed}
use Rattle.bus_schedule.specs.Even.{are_even}
use Rattle.bus_reach.specs.Bearing.{bears}
use Rattle.bus_reach.specs.Cables.{FailsOnCable}
use Rattle.bus_reach.specs.PeriodicLaws.{BreaksOnCable}
use Rattle.bus_reach.specs.Runs.{IsCableRun, cycle_delay}
use Rattle.bus_reach.specs.Schedule.{cable_closed}
use Rattle.bus_regime.specs.Starting.{starts_itself}
use Rattle.bus_reach.specs.Settling.{ArePoweredUp, HaveLeft, HasSettled}
use Rattle.bus_exact.specs.Settling.{HasSettledOnCable}
use Rattle.bus_tool.specs.Replies.{Reply, TheTolerance, TheVerdict}
use Rattle.bus_tool.specs.Tolerances.{tolerance_of, most_apart, starts_in}

-- A table of this mode keeps its order with all delays between its senders up to d: whatever even hands these have, the closed schedule on
-- the cable is what they do. In aperiodic mode they may wake up to d later too.
abbrev pub KeepsOrderIn : Mode → Table → ℕ → Type 0
KeepsOrderIn Aperiodic table d =
    (hands : List Hand) (delay : Delays) (wake : Wakes) → IsTrue (are_even table hands) → AreDelays d (sender_numbers table) delay
    → AreWakes d table.senders wake → IsCableRun table hands d delay wake (cable_closed delay wake table hands)
KeepsOrderIn Periodic table d =
    (hands : List Hand) (delay : Delays) → IsTrue (are_even table hands) → AreDelays d (sender_numbers table) delay
    → IsRunOnCable table hands d delay (closed table hands)

-- There is a straight cable of length d on which a table of this mode doesn't.
abbrev pub LosesOrderIn : Mode → Table → ℕ → Type 0
LosesOrderIn Aperiodic table d = FailsOnCable table d
LosesOrderIn Periodic table d = BreaksOnCable table d

-- Without delays the order of the table comes about whenever its senders are powered up, as long as they have messages left.
abbrev pub SettlesFromAnyStart : Table → Type 0
SettlesFromAnyStart table =
    (hands : List Hand) (wake : Wakes) (up horizon : ℕ) (list : List Entry) → IsTrue (are_hands table.senders hands)
    → ArePoweredUp table wake up
    → HaveLeft table hands horizon list → up + most_cycle table + table.sg ≤ horizon
    → IsLawfulOnCable (quiet_of table) at_once wake (stations_of table hands) horizon list → HasSettled table hands up horizon list

-- So it does with delays between its senders up to d.
abbrev pub SettlesOnCable : Table → ℕ → Type 0
SettlesOnCable table d =
    (hands : List Hand) (delay : Delays) (wake : Wakes) (up horizon : ℕ) (list : List Entry) → IsTrue (are_hands table.senders hands)
    → AreDelays d (sender_numbers table) delay → ArePoweredUp table wake up → HaveLeft table hands horizon list
    → up + most_cycle table + table.sg + cycle_delay table d ≤ horizon
    → IsLawfulOnCable (quiet_of table) delay wake (stations_of table hands) horizon list → HasSettledOnCable table delay d up horizon list

-- The table is aperiodic, and starts itself.
abbrev pub StartsItself : Table → Type 0
StartsItself table = (table.mode ≡ Aperiodic) × IsTrue (starts_itself table)

-- What is answered of a table with this verdict: its tolerance, how far apart two starts of a sender are, and whether its order comes about
-- from any start; of a refused one the verdict.
abbrev pub tolerance_reply : TableVerdict → Table → Reply
tolerance_reply (Accept mode least most) table =
    TheTolerance table.mode (tolerance_of table) least (most_apart table.mode (length table.senders) (tolerance_of table) most)
    (starts_in table.mode table)
tolerance_reply (ShortCycle least ti) table = TheVerdict (ShortCycle least ti)
tolerance_reply (SmallGap terminal gap needed) table = TheVerdict (SmallGap terminal gap needed)
tolerance_reply (NoSync terminal gap needed) table = TheVerdict (NoSync terminal gap needed)

-- What the answer of an accepted table tells:
--   number   with delays up to it the table keeps its order, and there is a straight cable one bit time longer on which it doesn't
--   alone    where there is none, there is one sender, which keeps its order with all delays
--   told     that the order comes about from any start is told exactly of a table that starts itself
--   start    of such a one it does
--   cable    and with all delays that the table bears
pub record TellsTolerance (table : Table) : Type 0 where
  pub number : (d : ℕ) → tolerance_of table ≡ Some d → KeepsOrderIn table.mode table d × LosesOrderIn table.mode table (d + 1)
  pub alone : tolerance_of table ≡ None → (d : ℕ) → KeepsOrderIn table.mode table d
  pub told : IsTrue (starts_in table.mode table) ↔ StartsItself table
  pub start : StartsItself table → SettlesFromAnyStart table
  pub cable : (d : ℕ) → StartsItself table → IsTrue (bears table d) → SettlesOnCable table d

-- The text has this end.
abbrev pub EndsIn : List ℕ → List ℕ → Type 0
EndsIn end text = (front : List ℕ) × (text ≡ front ++ end)

-- The last word of the line is `any` exactly where the table starts itself, and `settled` exactly where it doesn't.
pub record TellsStart (table : Table) (text : List ℕ) : Type 0 where
  pub any : EndsIn (codes " any\n") text ↔ StartsItself table
  pub settled : EndsIn (codes " settled\n") text ↔ (StartsItself table → ⊥)
