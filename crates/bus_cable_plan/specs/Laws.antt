-- What a planner of periodic tables that bear a delay rests on.
use Rattle.std.specs.Prelude.{ℕ, ◌+◌, ◌*◌, ◌≡◌, ◌<◌, ◌≤◌, ◌↔◌, false, IsTrue, List, length, map}
use Rattle.bus_strings.specs.Members.{In}
use Rattle.bus_table.specs.declared.mode.Mode.TheVariants.{Periodic}
use Rattle.bus_table.specs.Tables.{Sender, Table}
use Rattle.bus_table.specs.Offsets.{with_offsets}
use Rattle.bus_table.specs.Turns.{turn_order}
use Rattle.bus_table.specs.Valid.{is_valid}
use Rattle.bus_regime.specs.Gaps.{Gap, gaps}
use Rattle.bus_regime.specs.Verdicts.{verdict_of, is_accepted}
use Rattle.bus_plan.specs.Plans.{least_interval}
use Rattle.bus_reach.specs.Bearing.{bears}
use Rattle.bus_cable_plan.specs.Plans.{turns_for, least_in_order, least_interval_for, share, offsets_in_order, offsets_by_gap}
use Rattle.bus_cable_plan.specs.Plans.{planned_in_order}
use Rattle.bus_cable_plan.specs.Known.{is_known}
use Rattle.bus_cable_plan.specs.Shares.{gaps_hold, AreShorter}
use Rattle.bus_cable_plan.specs.Answers.{fits, is_refuted}

-- These are offsets for each sender, each below the transmit interval; the table with them is valid, accepted, and bears delays up to d.
pub record AreBorne (d : ℕ) (table : Table) (offsets : List ℕ) : Type 0 where
  pub count : length offsets ≡ length table.senders
  pub below : (at : ℕ) → In at offsets → at < table.ti
  pub valid : IsTrue (is_valid (with_offsets offsets table))
  pub accepted : IsTrue (is_accepted (verdict_of (with_offsets offsets table)))
  pub borne : IsTrue (bears (with_offsets offsets table) d)

-- Whatever the delay: where the transmit interval is at least the least one in turn order, the offsets planned in that order are accepted
-- and bear d, and the senders keep their order.
abbrev pub OrderIsPlanned : Type 0
OrderIsPlanned =
    (d : ℕ) (table : Table) → IsTrue (is_valid table) → table.mode ≡ Periodic → 1 < length table.senders
    → least_in_order d table ≤ table.ti → AreBorne d table (offsets_in_order d table)

abbrev pub OrderIsKept : Type 0
OrderIsKept =
    (d : ℕ) (table : Table) → IsTrue (is_valid table) → table.mode ≡ Periodic
    → map (λ (s : Sender). s.number) (turn_order (planned_in_order d table)) ≡ map (λ (s : Sender). s.number) (turn_order table)

-- And where it is at least the least interval for d, those planned by terminal gaps do.
abbrev pub PlannedBears : Type 0
PlannedBears =
    (d : ℕ) (table : Table) → IsTrue (is_valid table) → table.mode ≡ Periodic → 1 < length table.senders
    → least_interval_for d table ≤ table.ti → AreBorne d table (offsets_by_gap d table)

-- Where it is known, no offsets bear d in an interval below the least one for d, whether they are below the interval or not.
abbrev pub BorneHasLeast : Type 0
BorneHasLeast =
    (d : ℕ) (table : Table) (offsets : List ℕ) → IsTrue (is_valid table) → table.mode ≡ Periodic → 1 < length table.senders
    → IsTrue (is_known d table) → IsTrue (bears (with_offsets offsets table) d) → least_interval_for d table ≤ table.ti

-- So there some offsets bear d exactly where the transmit interval is at least the least interval for d.
abbrev pub FeasibleForExactly : Type 0
FeasibleForExactly =
    (d : ℕ) (table : Table) → IsTrue (is_valid table) → table.mode ≡ Periodic → 1 < length table.senders → IsTrue (is_known d table)
    → (least_interval_for d table ≤ table.ti) ↔ ((offsets : List ℕ) × AreBorne d table offsets)

-- There no offsets with which the senders keep their turn order bear d in an interval below the least one in that order.
abbrev pub BorneInOrder : Type 0
BorneInOrder =
    (d : ℕ) (table : Table) (offsets : List ℕ) → IsTrue (is_valid table) → table.mode ≡ Periodic → 1 < length table.senders
    → IsTrue (is_known d table)
    → map (λ (s : Sender). s.number) (turn_order (with_offsets offsets table)) ≡ map (λ (s : Sender). s.number) (turn_order table)
    → IsTrue (bears (with_offsets offsets table) d) → least_in_order d table ≤ table.ti

-- Whatever the delay, known or not: where offsets bear d, the transmit interval has room for each sender's terminal gap, d and its longest
-- message.
abbrev pub BorneFitsTurns : Type 0
BorneFitsTurns =
    (d : ℕ) (table : Table) (offsets : List ℕ) → IsTrue (is_valid table) → table.mode ≡ Periodic → 1 < length table.senders
    → IsTrue (bears (with_offsets offsets table) d) → turns_for d table ≤ table.ti

-- Where a plan for d fits, some offsets bear every delay up to d; where none for d fits and d is refuted, none bear d or more.
abbrev pub FittingIsBorne : Type 0
FittingIsBorne =
    (d : ℕ) (table : Table) → IsTrue (is_valid table) → table.mode ≡ Periodic → 1 < length table.senders → IsTrue (fits d table)
    → (e : ℕ) → e ≤ d → (offsets : List ℕ) × AreBorne e table offsets

abbrev pub RefutedIsNotBorne : Type 0
RefutedIsNotBorne =
    (d : ℕ) (table : Table) → IsTrue (is_valid table) → table.mode ≡ Periodic → 1 < length table.senders
    → fits d table ≡ false → IsTrue (is_refuted d table) → (e : ℕ) → d ≤ e → (offsets : List ℕ) → AreBorne e table offsets → ⊥

-- Without delay the least interval is that in which some offsets are accepted.
abbrev pub WithoutDelay : Type 0
WithoutDelay =
    (table : Table) → IsTrue (is_valid table) → table.mode ≡ Periodic → 1 < length table.senders
    → least_interval_for 0 table ≡ least_interval table

-- The plan in turn order bears d also where each gap is shorter by up to the share.
abbrev pub SharedBears : Type 0
SharedBears =
    (d : ℕ) (table : Table) (shorter : List Gap) → IsTrue (is_valid table) → table.mode ≡ Periodic → 1 < length table.senders
    → least_in_order d table ≤ table.ti → AreShorter (share d table) shorter (gaps (planned_in_order d table))
    → IsTrue (gaps_hold d table.sg shorter)

-- Where it is known, offsets that bear d where each gap is shorter by up to n leave the least interval for d and n for each sender. So no
-- offsets do for more than an even share of what that interval leaves.
abbrev pub NoneShareMore : Type 0
NoneShareMore =
    (d n : ℕ) (table : Table) (offsets : List ℕ) → IsTrue (is_valid table) → table.mode ≡ Periodic → 1 < length table.senders
    → IsTrue (is_known d table)
    → ((shorter : List Gap) → AreShorter n shorter (gaps (with_offsets offsets table)) → IsTrue (gaps_hold d table.sg shorter))
    → least_interval_for d table + n * length table.senders ≤ table.ti

-- Nor do any that keep the turn order do for more than an even share of what the least one in that order leaves: that of the plan in it.
abbrev pub NoneShareMoreInOrder : Type 0
NoneShareMoreInOrder =
    (d n : ℕ) (table : Table) (offsets : List ℕ) → IsTrue (is_valid table) → table.mode ≡ Periodic → 1 < length table.senders
    → IsTrue (is_known d table)
    → map (λ (s : Sender). s.number) (turn_order (with_offsets offsets table)) ≡ map (λ (s : Sender). s.number) (turn_order table)
    → ((shorter : List Gap) → AreShorter n shorter (gaps (with_offsets offsets table)) → IsTrue (gaps_hold d table.sg shorter))
    → least_in_order d table + n * length table.senders ≤ table.ti
