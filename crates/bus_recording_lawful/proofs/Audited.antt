-- Why an audit finds no breach exactly where a trace is told to be lawful.
use Rattle.std.proofs.Common.{◌<◌, ◌≤◌, List, arith}
use Rattle.std.specs.Prelude.{IsTrue, ◌↔◌}
use Rattle.bus_timers.specs.Timings.{IsSound}
use Rattle.bus_strings.specs.Limits.{inner_gap}
use Rattle.bus_strings.specs.Members.{In}
use Rattle.bus_strings.specs.Messages.{Entry}
use Rattle.bus_strings.proofs.MemberLaws.{of_each}
use Rattle.bus_table.specs.Hands.{are_hands}
use Rattle.bus_table.specs.Tables.{Hand, Table}
use Rattle.bus_table.specs.Valid.{is_valid}
use Rattle.bus_trace.specs.Traces.{IsBelow, IsTrace, Recording}
use Rattle.bus_medium.specs.Lawful.{IsLawful, IsNext, Station}
use Rattle.bus_medium.specs.Timings.{quiet_of, stations_of}
use Rattle.bus_medium.proofs.StationLaws.{HasSender, stations_are_of_senders, stations_have_own_numbers}
use Rattle.bus_audit.specs.Meaning.{hands_of}
use Rattle.bus_audit.specs.Observed.{IsOfItsHands, LawfulIsObserved, ObservedIsClean}
use Rattle.bus_recording_lawful.specs.Whole.{AuditIsTold, IsToldLawful, IsToldWith, LawfulIsTold}

module _ (told : LawfulIsTold) (table : Table) (trace : Recording) (hands : List Hand) (valid : IsTrue (is_valid table)) (is : IsTrace trace)
    (dealt : IsTrue (are_hands table.senders hands)) (next : (x : Entry) → In x trace.list → IsNext (stations_of table hands) trace.list x) where
  below : (x : Entry) → In x trace.list → IsBelow trace.horizon x
  below x i = of_each (IsBelow trace.horizon) trace.list is.list x i

  gaps : (s : Station) → In s (stations_of table hands) → (inner_gap < s.timing.sg) × (inner_gap < s.timing.tg)
  gaps s i =
      let h : HasSender table hands s = stations_are_of_senders table hands s valid dealt i in
      let sound : IsSound s.timing = h.is.sound in
      let sg : 9 ≤ s.timing.sg = sound.sg_least in
      let tg : 8 ≤ s.timing.tg = sound.tg_least in
      (omega arith, omega arith)

  with : IsLawful (quiet_of table) (stations_of table hands) trace.horizon trace.list
      ↔ ((s : Station) → In s (stations_of table hands) → IsToldLawful (quiet_of table) trace.horizon trace.list s)
  with = told (quiet_of table) (stations_of table hands) trace.horizon trace.list is.order (stations_have_own_numbers table hands valid dealt)
      (λ x i. ((below x i).moment, next x i)) (λ x i. (below x i).message.some) gaps

pub audit_told : LawfulIsTold → LawfulIsObserved → ObservedIsClean → AuditIsTold
audit_told told observed clean table trace valid is = (
  λ none.
      let o : IsOfItsHands table trace = observed table trace valid is none in
      let next : (x : Entry) → In x trace.list → IsNext (stations_of table (hands_of table trace)) trace.list x = λ x i. (o.lawful.sent x i).1 in (
        hands_of table trace,
        record {
          fitting = o.fitting;
          stated = o.stated;
          next = next;
          told = (with told table trace (hands_of table trace) valid is o.fitting next).0 o.lawful;
        },
      ),
  λ w.
      let t : IsToldWith table trace w.0 = w.1 in
      clean table w.0 trace valid t.fitting is t.stated ((with told table trace w.0 valid is t.fitting t.next).1 t.told),
)
