-- What is seen of a bus is a trace.
use Rattle.std.specs.Prelude.{◌≡◌, ℕ, ◌≤◌, ◌<◌, List, [], ◌∷◌}
use Rattle.std.specs.List.{AllByRecursion}
use Rattle.std.proofs.Common.{refl, sym, inl, inr, subst}
use Rattle.bus_strings.specs.Members.{In}
use Rattle.bus_strings.specs.Messages.{Entry}
use Rattle.bus_table.specs.Tables.{Table, Hand}
use Rattle.bus_medium.specs.Lawful.{Station, IsLawful}
use Rattle.bus_medium.specs.Timings.{quiet_of, stations_of}
use Rattle.bus_trace.specs.declared.hold.Hold.{Hold}
use Rattle.bus_trace.specs.Traces.{Recording, AscendAbove, IsHold, IsBelow, IsTrace}
use Rattle.bus_strings.specs.Limits.{horizon_limit}
use Rattle.bus_hands.specs.Holds.{hand_holds}
use Rattle.bus_strings.specs.Transmissions.{IsByMoment, IsAscending, IsTransmission}
use Rattle.bus_strings.proofs.OverlapLemmas.{behind_by_moment}
use Rattle.bus_command.proofs.FewHands.{AreFew}
use Rattle.bus_tool.proofs.HoldLemmas.{holds_ascend, holds_ranged}

pub below : (horizon : ℕ) (list : List Entry) → ((x : Entry) → In x list → x.moment < horizon) → AllByRecursion IsTransmission list → AllByRecursion (IsBelow horizon) list
below horizon [] early ranged = tt
below horizon (x ∷ list) early ranged =
    (record { moment = early x (inl refl); positive = ranged.0.positive; low = ranged.0.low; message = ranged.0.message }, below horizon list (λ y i. early y (inr i)) ranged.1)

-- the lawful list of what the bus keeps
pub lawful_of : (table : Table) (hands : List Hand) (quiet : ℕ) (stations : List Station) (horizon : ℕ) (list : List Entry) → quiet ≡ quiet_of table → stations ≡ stations_of table hands → IsLawful quiet stations horizon list → IsLawful (quiet_of table) (stations_of table hands) horizon list
lawful_of table hands quiet stations horizon list q s h = subst (λ n. IsLawful n (stations_of table hands) horizon list) q (subst (λ all. IsLawful quiet all horizon list) s h)

-- a list that ascends and starts below the horizon
pub ascending_is_trace : (hands : List Hand) (horizon : ℕ) (holds : List Hold) (list : List Entry) → horizon ≤ horizon_limit → AreFew hands → holds ≡ hand_holds hands
    → ((x : Entry) → In x list → x.moment < horizon) → IsAscending list → AllByRecursion IsTransmission list → IsTrace (record { horizon = horizon; holds = holds; list = list })
ascending_is_trace hands horizon holds list within few same early ordered ranged = record {
  horizon = within;
  holds = subst (AllByRecursion IsHold) (sym same) (holds_ranged hands few);
  terminals = subst (AscendAbove 0) (sym same) (holds_ascend hands);
  list = below horizon list early ranged;
  order = ordered;
}

pub observed_is_trace : (table : Table) (hands : List Hand) (horizon : ℕ) (holds : List Hold) (list : List Entry) → horizon ≤ horizon_limit → AreFew hands → holds ≡ hand_holds hands → IsLawful (quiet_of table) (stations_of table hands) horizon list → AllByRecursion IsTransmission list → IsTrace (record { horizon = horizon; holds = holds; list = list })
observed_is_trace table hands horizon holds list within few same lawful ranged =
    ascending_is_trace hands horizon holds list within few same (λ x i. (lawful.sent x i).0) lawful.ordered ranged

-- ---- a trace goes by moment
pub by_moment : (list : List Entry) → IsAscending list → IsByMoment list
by_moment [] h = tt
by_moment (x ∷ list) h = (behind_by_moment x list h.0, by_moment list h.1)

pub trace_by_moment : (t : Recording) → IsTrace t → IsByMoment t.list
trace_by_moment t h = by_moment t.list h.order
