-- What advices are good for: each works, no number nearer to the one that stands does, and where any number does there is an advice.
use Rattle.bus_table.specs.declared.mode.Mode.TheVariants.{Aperiodic, Periodic}
use Rattle.std.specs.Prelude.{◌≡◌, ℕ, suc, ◌+◌, ◌<◌, ◌≤◌, false, List, Some, IsTrue, slice_get}
use Rattle.std.specs.Int.{abs_diff}
use Rattle.bus_strings.specs.Members.{In}
use Rattle.bus_table.specs.Offsets.{with_offsets}
use Rattle.bus_table.specs.declared.line.SendLine.{SendLine}
use Rattle.bus_table.specs.Periodic.{as_periodic}
use Rattle.bus_table.specs.Tables.{Sender, Table}
use Rattle.bus_table.specs.Valid.{is_valid}
use Rattle.bus_regime.specs.Verdicts.{verdict_of, is_accepted}
use Rattle.bus_plan.specs.Plans.{planned_table}
use Rattle.bus_advice.specs.declared.advice.Advice.{Advice}
use Rattle.bus_advice.specs.declared.advice.Advice.TheVariants.{Interval, Synchronization, Gap, Least, Plan, AsPeriodic, Start}
use Rattle.bus_advice.specs.Changes.{with_interval, with_synchronization, with_gap, with_least}
use Rattle.bus_advice.specs.Advices.{works, starts, lacks_start, advices_of, periodic_table}

-- A number is a smaller change of the table's own than the advised one, in either direction; the table's own is no change at all.
abbrev pub IsNearer : ℕ → ℕ → ℕ → Type 0
IsNearer own advised n = abs_diff n own < abs_diff advised own

-- The table works with the advised number in place of its own, and with no nearer number, greater or lesser.
pub record IsNearest (change : ℕ → Table) (own advised : ℕ) : Type 0 where
  pub helps : IsTrue (works (change advised))
  pub nearest : (n : ℕ) → IsNearer own advised n → works (change n) ≡ false

-- The sender whose terminal gap is advised, and that the advised gap works.
pub record GapWorks (table : Table) (terminal tg : ℕ) : Type 0 where
  pub sender : Sender
  pub among : In sender table.senders
  pub named : sender.number ≡ terminal
  pub nearest : IsNearest (λ n. with_gap terminal n table) sender.tg tg

-- The SEND line that the advice names, from 1, and that the advised number of data words works.
pub record LeastWorks (table : Table) (terminal line least : ℕ) : Type 0 where
  pub sender : Sender
  pub among : In sender table.senders
  pub named : sender.number ≡ terminal
  pub place : ℕ
  pub counted : line ≡ suc place
  pub sends : SendLine
  pub stands : slice_get sender.sends place ≡ Some sends
  pub nearest : IsNearest (λ n. with_least terminal place n table) sends.least least

-- A table that is another at each transmit interval works with the offsets of its plan at the advised one, and at no interval from the
-- table's own up to that does any choice of offsets.
pub record PlanWorks (change : ℕ → Table) (own advised : ℕ) : Type 0 where
  pub helps : IsTrue (works (planned_table (change advised)))
  pub nearest : (n : ℕ) (offsets : List ℕ) → own ≤ n → n < advised → is_accepted (verdict_of (with_offsets offsets (change n))) ≡ false

-- In periodic mode it does, and the planned table that is told of is that one.
pub record PeriodicWorks (table : Table) (ti : ℕ) : Type 0 where
  pub planned : PlanWorks (λ n. as_periodic n table) table.ti ti
  pub told : periodic_table table ≡ Some (planned_table (as_periodic ti table))

-- With the advised transmit interval the table, which is aperiodic, starts, and with no greater one does it.
pub record StartWorks (table : Table) (ti : ℕ) : Type 0 where
  pub aperiodic : table.mode ≡ Aperiodic
  pub helps : IsTrue (starts (with_interval ti table))
  pub greatest : (n : ℕ) → IsTrue (starts (with_interval n table)) → n ≤ ti

-- What an advice means.
abbrev pub AdviceWorks : Table → Advice → Type 0
AdviceWorks table (Interval ti) = IsNearest (λ n. with_interval n table) table.ti ti
AdviceWorks table (Synchronization sg) = IsNearest (λ n. with_synchronization n table) table.sg sg
AdviceWorks table (Gap terminal tg) = GapWorks table terminal tg
AdviceWorks table (Least terminal line least) = LeastWorks table terminal line least
AdviceWorks table (Plan ti) = PlanWorks (λ n. with_interval n table) table.ti ti
AdviceWorks table (AsPeriodic ti) = PeriodicWorks table ti
AdviceWorks table (Start ti) = StartWorks table ti

-- Every advice on a valid table works.
abbrev pub AdvicesWork : Type 0
AdvicesWork = (table : Table) (advice : Advice) → IsTrue (is_valid table) → In advice (advices_of table) → AdviceWorks table advice

-- Where a change of one number works, greater or lesser, there is an advice of that kind. In periodic mode advices are of the transmit
-- interval and of offsets alone.
--   offsets     any, at a transmit interval from the table's own on
--   periodic    the same of an aperiodic table in periodic mode
pub record AreComplete (table : Table) (advices : List Advice) : Type 0 where
  pub interval : (n : ℕ) → IsTrue (works (with_interval n table)) → (best : ℕ) × In (Interval best) advices
  pub synchronization : table.mode ≡ Aperiodic → (n : ℕ) → IsTrue (works (with_synchronization n table))
      → (best : ℕ) × In (Synchronization best) advices
  pub gap : table.mode ≡ Aperiodic → (sender : Sender) (n : ℕ) → In sender table.senders
      → IsTrue (works (with_gap sender.number n table)) → (best : ℕ) × In (Gap sender.number best) advices
  pub least : table.mode ≡ Aperiodic → (sender : Sender) (place : ℕ) (line : SendLine) (n : ℕ) → In sender table.senders
      → slice_get sender.sends place ≡ Some line → IsTrue (works (with_least sender.number place n table))
      → (best : ℕ) × In (Least sender.number (place + 1) best) advices
  pub offsets : table.mode ≡ Periodic → (n : ℕ) (offsets : List ℕ) → table.ti ≤ n
      → IsTrue (works (with_offsets offsets (with_interval n table)))
      → (best : ℕ) × In (Plan best) advices
  pub periodic : table.mode ≡ Aperiodic → (n : ℕ) (offsets : List ℕ) → table.ti ≤ n
      → IsTrue (works (with_offsets offsets (as_periodic n table)))
      → (best : ℕ) × In (AsPeriodic best) advices

-- No advice on a refused table is missing.
abbrev pub NoneMissing : Type 0
NoneMissing = (table : Table) → IsTrue (is_valid table) → is_accepted (verdict_of table) ≡ false → AreComplete table (advices_of table)

-- Where an accepted aperiodic table that doesn't start itself does so at some transmit interval, there is an advice that names one.
abbrev pub StartIsAdvised : Table → List Advice → Type 0
StartIsAdvised table advices =
    IsTrue (lacks_start table.mode table) → (n : ℕ) → IsTrue (starts (with_interval n table)) → (best : ℕ) × In (Start best) advices

-- Nor is an advice to start missing on an accepted table.
abbrev pub NoStartMissing : Type 0
NoStartMissing = (table : Table) → IsTrue (is_valid table) → IsTrue (is_accepted (verdict_of table))
    → StartIsAdvised table (advices_of table)
