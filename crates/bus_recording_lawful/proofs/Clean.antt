-- So a sender of a lawful list has no finding.
use Rattle.std.proofs.Common.{◌≡◌, ℕ, ◌+◌, ◌-◌, ◌<◌, ◌≤◌, true, false, cond, List, [], ◌∷◌, length, inl, inr, arith, sym, refl, ap, ◌∙◌, subst, le-leb, leb-true}
use Rattle.std.specs.Prelude.{nat_le}
use Rattle.bus_strings.specs.Members.{In}
use Rattle.bus_strings.specs.Messages.{Entry, bits}
use Rattle.bus_strings.specs.Transmissions.{end_of}
use Rattle.bus_medium.specs.Lawful.{IsLawful, Station}
use Rattle.bus_medium.specs.BusyLaws.{IsBusy}
use Rattle.bus_timers.specs.Timings.{IsSound}
use Rattle.bus_strings.proofs.MemberLaws.{of_each}
use Rattle.bus_trace.specs.Traces.{IsBelow}
use Rattle.bus_medium.specs.Timings.{quiet_of, stations_of}
use Rattle.bus_medium.proofs.StationLaws.{HasStation, IsStationOf, senders_have_stations}
use Rattle.bus_audit.specs.Meaning.{hands_of}
use Rattle.bus_audit.specs.Observed.{IsOfItsHands, LawfulIsObserved}
use Rattle.bus_clocks.specs.Entries.{Entry as Sending, In as Among}
use Rattle.bus_clocks.specs.Hearing.{Hears}
use Rattle.bus_recording.specs.Seen.{IsIn, Seen}
use Rattle.bus_recording.specs.Findings.{IsClean}
use Rattle.bus_recording.specs.Monitors.{IsFrom, IsPlaced, IsSettled, monitor_of, seen_by}
use Rattle.bus_recording.specs.Alarms.{PlacedIsClean}
use Rattle.bus_recording.specs.Shifts.{CountsFromAnywhere, all_later, later}
use Rattle.bus_recording_lawful.specs.Lawful.{AuditedIsClean, IsOver, LawfulIsClean, TableIsClean, bounds_of, recorded, seen, table_bounds}
use Rattle.bus_recording_lawful.proofs.Keeping.{keeps}
use Rattle.bus_recording_lawful.proofs.Ticks.{busy, course, filled, from_among, off, on, tick, to_among}

same : (q x : ℕ) (a b c d : ℕ) → a ≡ c → b ≡ d → (let s : Seen = record { moment = a; sender = x; soonest = b; latest = b } in s) ≡ (let s : Seen = record { moment = c; sender = x; soonest = d; latest = d } in s)
same q x a b c d e f =
    ap (λ m. let s : Seen = record { moment = m; sender = x; soonest = b; latest = b } in s) e
    ∙ ap (λ n. let s : Seen = record { moment = c; sender = x; soonest = n; latest = n } in s) f

-- counted in ticks, what is recorded is what a monitor hears at once
ticked : (quiet : ℕ) (x : Entry) → later quiet (seen x) ≡ seen_by (λ y. y.moment) (tick quiet x)
ticked quiet x = same quiet x.terminal (x.moment + quiet) (x.moment + bits x.message + quiet) (quiet + x.moment) (quiet + x.moment + bits x.message) (omega arith) (omega arith)

module _ (quiet start : ℕ) where
  each : (list : List Entry) (r : Seen) → IsIn r (all_later quiet (recorded start list))
      → (x : Entry) × In x list × (r ≡ seen_by (λ y. y.moment) (tick quiet x)) × (start ≤ x.moment)
  each [] r i = absurd i
  each (y ∷ list) r i =
      (elim (nat_le start y.moment) as
      (λ b. nat_le start y.moment ≡ b → IsIn r (all_later quiet (cond b (seen y ∷ recorded start list) (recorded start list)))
      → (x : Entry) × In x (y ∷ list) × (r ≡ seen_by (λ z. z.moment) (tick quiet x)) × (start ≤ x.moment)) [
        | true ↦ λ e j. elim j [
          | inl is ↦ (y, inl refl, is ∙ ticked quiet y, leb-true start y.moment e)
          | inr k ↦ (let w = each list r k in (w.0, inr w.1, w.2, w.3))
        ]
        | false ↦ λ e j. (let w = each list r j in (w.0, inr w.1, w.2, w.3))
      ]) refl i

  all : (list : List Entry) (x : Entry) → In x list → start ≤ x.moment → IsIn (seen_by (λ y. y.moment) (tick quiet x)) (all_later quiet (recorded start list))
  all [] x i low = i
  all (y ∷ list) x (inl is) low =
      let e : nat_le start y.moment ≡ true = le-leb start y.moment (subst (λ (w : Entry). start ≤ w.moment) is low) in
      subst (λ b. IsIn (seen_by (λ z. z.moment) (tick quiet x)) (all_later quiet (cond b (seen y ∷ recorded start list) (recorded start list)))) (sym e)
      (inl (sym (ticked quiet x) ∙ ap (λ w. later quiet (seen w)) is))
  all (y ∷ list) x (inr i) low =
      (elim (nat_le start y.moment) as
      (λ b. IsIn (seen_by (λ z. z.moment) (tick quiet x)) (all_later quiet (cond b (seen y ∷ recorded start list) (recorded start list)))) [
        | true ↦ inr (all list x i low)
        | false ↦ all list x i low
      ])

  from : (list : List Entry) → IsFrom (λ y. y.moment) (quiet + start) (course quiet list).list (all_later quiet (recorded start list))
  from list = record {
    each = λ r i. (let w = each list r i in (tick quiet w.0, to_among quiet list w.0 w.1, w.2));
    all = λ y i low.
        let x = from_among quiet list y i in
        let m : y.moment ≡ quiet + x.0.moment = ap (λ (v : Sending). v.moment) x.2 in
        subst (λ v. IsIn (seen_by (λ z. z.moment) v) (all_later quiet (recorded start list))) (sym x.2) (all list x.0 x.1 (omega arith));
    since = λ y i there.
        let w = each list (seen_by (λ z. z.moment) y) there in
        let m : y.moment ≡ quiet + w.0.moment = ap (λ (v : Seen). v.moment) w.2 in
        let low : start ≤ w.0.moment = w.3 in
        omega arith;
  }

module _ (quiet : ℕ) (stations : List Station) (s : Station) (horizon start settled : ℕ) (list : List Entry) (law : IsLawful quiet stations horizon list)
    (there : In s stations) (some : (x : Entry) → In x list → 0 < length x.message) where
  heard : (x : Entry) (n : ℕ) → In x list → Hears (course quiet list).hears 0 5 (tick quiet x) n
  heard x n i =
      let b : IsBusy (x ∷ []) x.moment (end_of x) = busy quiet list law.ordered x i (some x i) in
      let lasts : x.moment < end_of x = b.some in
      record {
        within = λ t h. (
          (off quiet list law.ordered x n t i h).0,
          (let high : t < quiet + end_of x = (off quiet list law.ordered x n t i h).1 in omega arith),
        );
        first = quiet + x.moment;
        last = quiet + (end_of x - 1);
        first_heard = on quiet list law.ordered x n x.moment i b.first;
        first_soon = omega arith;
        last_heard = on quiet list law.ordered x n (end_of x - 1) i b.final;
        last_late = omega arith;
        filled = λ t low high. filled quiet list law.ordered x n t i (some x i) low (omega arith);
      }

  hears : (y : Sending) (n : ℕ) → Among y (course quiet list).list → Hears (course quiet list).hears 0 5 y n
  hears y n i = (let x = from_among quiet list y i in subst (λ v. Hears (course quiet list).hears 0 5 v n) (sym x.2) (heard x.0 n x.1))

  at_once : IsPlaced (course quiet list) 5 (λ y. y.moment) s.number 0
  at_once = record {
    steady = λ y i mine. (let e : y.moment ≡ y.moment + 0 = omega arith in e);
    itself = λ y i mine. hears y s.number i;
    near = λ y i foreign.
        let h : Hears (course quiet list).hears 0 5 y s.number = hears y s.number i in
        let soon : h.first ≤ y.moment + 0 = h.first_soon in
        let late : y.moment + y.length ≤ h.last + 1 = h.last_late in
        record {
          within = λ t g. (
            (let low : y.moment ≤ t = (h.within t g).0 in omega arith),
            (let high : t < y.moment + y.length + 0 = (h.within t g).1 in omega arith),
          );
          first = h.first;
          last = h.last;
          first_heard = h.first_heard;
          first_soon = omega arith;
          last_heard = h.last_heard;
          last_late = omega arith;
          filled = h.filled;
        };
  }

  settles : (longest : ℕ) → IsOver start longest settled list → IsSettled (course quiet list) (λ y. y.moment) s.number 0 (quiet + start) longest (settled + quiet)
  settles longest before =
      let over : start + longest ≤ settled + 1 = before.over in
      record {
        most = λ y i early.
            let x = from_among quiet list y i in
            let m : y.moment ≡ quiet + x.0.moment = ap (λ (v : Sending). v.moment) x.2 in
            let l : y.length ≡ bits x.0.message = ap (λ (v : Sending). v.length) x.2 in
            let most : bits x.0.message ≤ longest = before.most x.0 x.1 (omega arith) in
            omega arith;
        over = omega arith;
        still = λ t low. refl;
      }

pub lawful_clean : PlacedIsClean → CountsFromAnywhere → LawfulIsClean
lawful_clean placed counts quiet stations s horizon start longest settled list law there some sg tg before =
    (counts (bounds_of s.timing) (monitor_of 0 5 settled) quiet s.number (recorded start list)).0
    (placed (course quiet list) s.number 0 0 0 5 (quiet + start) longest (settled + quiet) (λ y. y.moment) (all_later quiet (recorded start list))
    (bounds_of s.timing) (bounds_of s.timing) (keeps quiet stations s horizon list law there (omega arith))
    (record {
      short_ti = omega arith;
      short_sg = omega arith;
      short_tg = omega arith;
      long_ti = omega arith;
      long_sg = omega arith;
      long_tg = omega arith;
    })
    (at_once quiet stations s horizon start settled list law there some) (omega arith) (from quiet start list)
    (settles quiet stations s horizon start settled list law there some longest before) (omega arith))

pub table_clean : LawfulIsClean → TableIsClean
table_clean lawful table hands sender horizon start longest settled list valid dealt law there some before =
    let h : HasStation table hands sender = senders_have_stations table hands sender valid dealt there in
    let is : IsStationOf table hands sender h.station = h.is in
    let sound : IsSound h.station.timing = is.sound in
    let sg : 9 ≤ h.station.timing.sg = sound.sg_least in
    let tg : 8 ≤ h.station.timing.tg = sound.tg_least in
    subst (λ n. IsClean (table_bounds table sender) (monitor_of 0 5 settled) (recorded start list) n) is.number
    (subst (λ t. IsClean (bounds_of t) (monitor_of 0 5 settled) (recorded start list) h.station.number) is.timing
    (lawful (quiet_of table) (stations_of table hands) h.station horizon start longest settled list law h.there some (omega arith) (omega arith) before))

pub audited_clean : TableIsClean → LawfulIsObserved → AuditedIsClean
audited_clean clean observed table trace sender start longest settled valid is none there before =
    let o : IsOfItsHands table trace = observed table trace valid is none in
    clean table (hands_of table trace) sender trace.horizon start longest settled trace.list valid o.fitting o.lawful there
    (λ x i. (let b : IsBelow trace.horizon x = of_each (IsBelow trace.horizon) trace.list is.list x i in b.message.some))
    before
