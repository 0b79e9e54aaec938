-- Who is silent at the end.
use Rattle.std.specs.Prelude.{slice_get}
use Rattle.std.specs.Option.{option_map_or}
use Rattle.std.proofs.Common.{◌≡◌, ℕ, ◌<◌, length, Some, None, arith, ap}
use Rattle.bus_strings.specs.Messages.{Entry}
use Rattle.bus_strings.proofs.MemberLaws.{of_each, at_in}
use Rattle.bus_table.specs.Tables.{Sender, Table}
use Rattle.bus_trace.specs.Traces.{Recording, IsTrace, IsBelow}
use Rattle.bus_bounds.specs.Bounds.{Bounds}
use Rattle.bus_recording.specs.Seen.{Seen}
use Rattle.bus_findings.specs.declared.watch.Last.{Last}
use Rattle.bus_findings.specs.Dues.{due_of}
use Rattle.bus_findings.specs.Recorded.{seen, recorded, timers_of, monitor_of}
use Rattle.bus_findings.specs.Silences.{silence_of}
use Rattle.bus_findings.specs.inside.Standing.{IsLast, IsLastTo, IsStretch}
use Rattle.bus_findings.proofs.PlaceLemmas.{in_take, drop_past}
use Rattle.bus_findings.proofs.JudgeLemmas.{last_at, last_never}

-- up to the horizon there is a stretch too
pub stretch_end : (bounds : Bounds) (trace : Recording) (number : ℕ) (last : Last) → IsTrace trace → IsLastTo bounds trace.list number (length trace.list) last
    → IsStretch trace.list number last.place (length trace.list) trace.horizon
stretch_end bounds trace number last t l = record {
  order = t.order;
  within = l.within;
  short = omega arith;
  none = l.none;
  before = λ x inside.
      let b = of_each (IsBelow trace.horizon) trace.list t.list x (in_take trace.list (length trace.list) x inside) in
      let low : x.moment < trace.horizon = b.moment in
      omega (arith, low);
  behind = λ x inside. absurd (drop_past trace.list (length trace.list) x (omega arith) inside);
}

-- who hasn't started isn't silent
pub never_silent : (bounds : Bounds) (table : Table) (trace : Recording) (sender : Sender)
    → IsLast bounds trace.list sender.number (length trace.list) None → silence_of bounds table trace sender ≡ None
unfolding silence_of
never_silent bounds table trace sender never =
    ap (λ o. option_map_or (λ (r : Seen). due_of (timers_of bounds table sender) (monitor_of bounds table) (recorded bounds trace.list) r trace.horizon) o None)
    (last_never bounds trace.list sender.number (length trace.list) trace.horizon never
    (λ z inside. absurd (drop_past trace.list (length trace.list) z (omega arith) inside)))

pub silent_since : (bounds : Bounds) (table : Table) (trace : Recording) (sender : Sender) (last : Last) (o : Entry) → IsTrace trace
    → IsLastTo bounds trace.list sender.number (length trace.list) last → slice_get trace.list last.place ≡ Some o → o.terminal ≡ sender.number
    → silence_of bounds table trace sender ≡ due_of (timers_of bounds table sender) (monitor_of bounds table) (recorded bounds trace.list) (seen bounds o) trace.horizon
unfolding silence_of
silent_since bounds table trace sender last o t l there mine =
    let b = of_each (IsBelow trace.horizon) trace.list t.list o (at_in trace.list last.place o there) in
    ap (λ w. option_map_or (λ (r : Seen). due_of (timers_of bounds table sender) (monitor_of bounds table) (recorded bounds trace.list) r trace.horizon) w None)
    (last_at bounds trace.list sender.number last.place (length trace.list) trace.horizon o (stretch_end bounds trace sender.number last t l) there mine b.moment)
