-- A start without a finding is one that is allowed, and that nothing allowed before.
use Rattle.std.proofs.Common.{◌≡◌, ℕ, ◌+◌, ◌-◌, ◌<◌, ◌≤◌, true, false, cond, List, [], ◌∷◌, length, get_or, Some, inl, inr, arith, sym, refl, ap, ◌∙◌, subst, le-leb}
use Rattle.std.specs.Prelude.{nat_le}
use Rattle.std.proofs.lemmas.Bool.{cases_Bool, true≢false}
use Rattle.bus_timers.specs.declared.timing.Timing.{Timing}
use Rattle.bus_timers.specs.MayStart.{MayStart, IsSync, IsQuiet as IsStill}
use Rattle.bus_strings.specs.Members.{In}
use Rattle.bus_strings.specs.Messages.{Entry, bits}
use Rattle.bus_strings.specs.Transmissions.{carrier, end_of}
use Rattle.bus_medium.specs.Past.{own, past, last_place}
use Rattle.bus_medium.specs.BusyLaws.{IsBusy}
use Rattle.bus_medium.proofs.PastLaws.{length_past, past_at, one_at}
use Rattle.bus_clocks.specs.Courses.{IsQuiet, carrier as carrier_at}
use Rattle.bus_clocks.specs.Entries.{Entry as Sending, In as Among}
use Rattle.bus_clocks.specs.Hearing.{Hears}
use Rattle.bus_recording.specs.Seen.{IsIn, Seen, Timers}
use Rattle.bus_recording.specs.Exact.{IsExact, CleanStartIsDue}
use Rattle.bus_recording.specs.Findings.{HasNoFinding}
use Rattle.bus_recording.specs.Keeping.{AreInRow as Row, AreOver}
use Rattle.bus_recording.specs.Monitors.{IsFrom, monitor_of, seen_by}
use Rattle.bus_recording_lawful.specs.Lawful.{AreOwnInRow, MayAt, CleanStartIsAllowed, bounds_of, recorded, seen}
use Rattle.bus_recording_lawful.proofs.Ticks.{busy, carrier_from, carrier_to, course, filled, from_among, last_is, off, on, tick, to_among}

-- here ticks are moments
abbrev pub now : Entry → Seen
now x = seen_by (λ (y : Sending). y.moment) (tick 0 x)

pub is_now : (x : Entry) → now x ≡ seen x
is_now x =
    ap (λ m. let s : Seen = record { moment = m; sender = x.terminal; soonest = 0 + x.moment + bits x.message; latest = 0 + x.moment + bits x.message } in s) (let e : 0 + x.moment ≡ x.moment = omega arith in e)
    ∙ ap (λ n. let s : Seen = record { moment = x.moment; sender = x.terminal; soonest = n; latest = n } in s) (let e : 0 + x.moment + bits x.message ≡ x.moment + bits x.message = omega arith in e)

pub each : (list : List Entry) (r : Seen) → IsIn r (recorded 0 list) → (x : Entry) × In x list × (r ≡ now x)
each [] r i = absurd i
each (y ∷ list) r i =
    (elim (nat_le 0 y.moment) as (λ b. IsIn r (cond b (seen y ∷ recorded 0 list) (recorded 0 list)) → (x : Entry) × In x (y ∷ list) × (r ≡ now x)) [
      | true ↦ λ j. elim j [
        | inl same ↦ (y, inl refl, same ∙ sym (is_now y))
        | inr k ↦ (let w = each list r k in (w.0, inr w.1, w.2))
      ]
      | false ↦ λ j. (let w = each list r j in (w.0, inr w.1, w.2))
    ]) i

pub all : (list : List Entry) (x : Entry) → In x list → IsIn (now x) (recorded 0 list)
all [] x i = i
all (y ∷ list) x (inl same) =
    subst (λ b. IsIn (now x) (cond b (seen y ∷ recorded 0 list) (recorded 0 list))) (sym (le-leb 0 y.moment (omega arith))) (inl (is_now x ∙ ap seen same))
all (y ∷ list) x (inr i) =
    elim (nat_le 0 y.moment) as (λ b. IsIn (now x) (cond b (seen y ∷ recorded 0 list) (recorded 0 list))) [ true ↦ inr (all list x i) | false ↦ all list x i ]

from : (list : List Entry) → IsFrom (λ y. y.moment) 0 (course 0 list).list (recorded 0 list)
from list = record {
  each = λ r i. (let w = each list r i in (tick 0 w.0, to_among 0 list w.0 w.1, w.2));
  all = λ y i low. (let x = from_among 0 list y i in subst (λ v. IsIn (seen_by (λ z. z.moment) v) (recorded 0 list)) (sym x.2) (all list x.0 x.1));
  since = λ y i there. omega arith;
}

module _ (timing : Timing) (quiet : ℕ) (list : List Entry) (n : ℕ) (x z : Entry) (row : AreOwnInRow list n x z) where
  abbrev timers : Timers
  timers = record { ti = timing.ti; sg = timing.sg; tg = timing.tg }

  hears : (y : Sending) → Among y (course 0 list).list → Hears (course 0 list).hears 0 5 y n
  hears y i =
      let e = from_among 0 list y i in
      let b : IsBusy (e.0 ∷ []) e.0.moment (end_of e.0) = busy 0 list row.ordered e.0 e.1 (row.some e.0 e.1) in
      let lasts : e.0.moment < end_of e.0 = b.some in
      subst (λ v. Hears (course 0 list).hears 0 5 v n) (sym e.2) (record {
        within = λ t h. (
          (off 0 list row.ordered e.0 n t e.1 h).0,
          (let high : t < 0 + end_of e.0 = (off 0 list row.ordered e.0 n t e.1 h).1 in omega arith),
        );
        first = 0 + e.0.moment;
        last = 0 + (end_of e.0 - 1);
        first_heard = on 0 list row.ordered e.0 n e.0.moment e.1 b.first;
        first_soon = omega arith;
        last_heard = on 0 list row.ordered e.0 n (end_of e.0 - 1) e.1 b.final;
        last_late = omega arith;
        filled = λ t low high. filled 0 list row.ordered e.0 n t e.1 (row.some e.0 e.1) low (omega arith);
      })

  exact : IsExact (course 0 list) n 5 (recorded 0 list)
  exact = record {
    hears = hears;
    still = λ t. refl;
    apart = λ y w i j e f less.
        let a = from_among 0 list y i in
        let b = from_among 0 list w j in
        let am : y.moment ≡ 0 + a.0.moment = ap (λ (v : Sending). v.moment) a.2 in
        let al : y.length ≡ bits a.0.message = ap (λ (v : Sending). v.length) a.2 in
        let bm : w.moment ≡ 0 + b.0.moment = ap (λ (v : Sending). v.moment) b.2 in
        let gone : end_of a.0 ≤ b.0.moment =
        row.apart a.0 b.0 a.1 b.1 (sym (ap (λ (v : Sending). v.sender) a.2) ∙ e) (sym (ap (λ (v : Sending). v.sender) b.2) ∙ f) (omega arith) in
        omega arith;
    once = λ y w i j e f same.
        let a = from_among 0 list y i in
        let b = from_among 0 list w j in
        let am : y.moment ≡ 0 + a.0.moment = ap (λ (v : Sending). v.moment) a.2 in
        let bm : w.moment ≡ 0 + b.0.moment = ap (λ (v : Sending). v.moment) b.2 in
        let one : a.0 ≡ b.0 = one_at list a.0 b.0 row.ordered a.1 b.1 (omega arith) (sym (ap (λ (v : Sending). v.sender) a.2) ∙ e ∙ sym f ∙ ap (λ (v : Sending). v.sender) b.2) in
        a.2 ∙ ap (tick 0) one ∙ sym b.2;
    recorded = from list;
  }

  in_row : Row (course 0 list).list n (tick 0 x) (tick 0 z)
  in_row =
      let behind : x.moment < z.moment = row.behind in
      record {
        there = to_among 0 list x row.there;
        here = to_among 0 list z row.here;
        mine = row.mine;
        own = row.own;
        behind = omega arith;
        next = λ y i its less.
            let a = from_among 0 list y i in
            let am : y.moment ≡ 0 + a.0.moment = ap (λ (v : Sending). v.moment) a.2 in
            let k : a.0.moment ≤ x.moment = row.next a.0 a.1 (sym (ap (λ (v : Sending). v.sender) a.2) ∙ its) (omega arith) in
            omega arith;
      }

  -- ---- quiet, told by moments and by places

  from_still : (t i j : ℕ) → j ≤ t → IsStill (past quiet list t) (quiet + i) (quiet + j) → IsQuiet (course 0 list) n i j
  from_still t i j fits still u low high = elim (cases_Bool (carrier_at (course 0 list) n u)) [
    | inr rests ↦ rests
    | inl loud ↦
        let w : carrier list (u - 0) ≡ true = (carrier_from 0 list row.ordered n u loud).1 in
        let e : u - 0 ≡ u = omega arith in
        absurd (true≢false (sym (past_at quiet list t u (omega arith) ∙ ap (carrier list) (sym e) ∙ w) ∙ still (quiet + u) (omega arith) (omega arith)))
  ]

  to_still : (t i j : ℕ) → j ≤ t → IsQuiet (course 0 list) n i j → IsStill (past quiet list t) (quiet + i) (quiet + j)
  to_still t i j fits rests p low high =
      let e : p ≡ quiet + (p - quiet) = omega arith in
      let f : p - quiet - 0 ≡ p - quiet = omega arith in
      ap (λ v. get_or (past quiet list t) v true) e ∙ past_at quiet list t (p - quiet) (omega arith) ∙ (elim (cases_Bool (carrier list (p - quiet))) [
        | inr silent ↦ silent
        | inl loud ↦ absurd (true≢false (sym (carrier_to 0 list row.ordered n (p - quiet) (omega arith) (ap (carrier list) f ∙ loud)) ∙ rests (p - quiet) (omega arith) (omega arith)))
      ])

  over : (t : ℕ) → MayStart timing (past quiet list t) (Some (quiet + x.moment)) → AreOver (course 0 list) n timers (tick 0 x) t
  over t m =
      let e : length (past quiet list t) ≡ quiet + t = length_past quiet list t in
      let passed : quiet + x.moment + timing.ti ≤ length (past quiet list t) = m.interval in
      let fits : m.synchronized.0 + timing.tg ≤ length (past quiet list t) = m.synchronized.1 in
      let sync : IsSync timing.sg (past quiet list t) (Some (quiet + x.moment)) m.synchronized.0 = m.synchronized.2 in
      let long : timing.sg ≤ m.synchronized.0 = sync.long in
      let behind : quiet + x.moment ≤ m.synchronized.0 - timing.sg = sync.own in
      let a : m.synchronized.0 - timing.sg ≡ quiet + (m.synchronized.0 - quiet - timing.sg) = omega arith in
      let b : m.synchronized.0 ≡ quiet + (m.synchronized.0 - quiet) = omega arith in
      let c : length (past quiet list t) - timing.tg ≡ quiet + (t - timing.tg) = omega arith in
      record {
        interval = omega arith;
        elapsed = m.synchronized.0 - quiet;
        behind = omega arith;
        synchronized = (
          omega arith,
          from_still t (m.synchronized.0 - quiet - timing.sg) (m.synchronized.0 - quiet) (omega arith)
              (subst (λ v. IsStill (past quiet list t) v (quiet + (m.synchronized.0 - quiet))) a
              (subst (λ v. IsStill (past quiet list t) (m.synchronized.0 - timing.sg) v) b sync.quiet)),
        );
        room = omega arith;
        gap = (
          omega arith,
          from_still t (t - timing.tg) t (omega arith)
              (subst (λ v. IsStill (past quiet list t) v (quiet + t)) c (subst (λ v. IsStill (past quiet list t) (length (past quiet list t) - timing.tg) v) e m.gap)),
        );
      }

  may : (t : ℕ) → AreOver (course 0 list) n timers (tick 0 x) t → MayStart timing (past quiet list t) (Some (quiet + x.moment))
  may t o =
      let e : length (past quiet list t) ≡ quiet + t = length_past quiet list t in
      let passed : 0 + x.moment + timing.ti ≤ t = o.interval in
      let behind : 0 + x.moment + timing.sg ≤ o.elapsed = o.behind in
      let room : o.elapsed + timing.tg ≤ t = o.room in
      let a : quiet + (o.elapsed - timing.sg) ≡ quiet + o.elapsed - timing.sg = omega arith in
      let c : quiet + (t - timing.tg) ≡ length (past quiet list t) - timing.tg = omega arith in
      record {
        interval = (let goal : quiet + x.moment + timing.ti ≤ length (past quiet list t) = omega arith in goal);
        synchronized = (
          quiet + o.elapsed,
          omega arith,
          record {
            long = omega arith;
            quiet = subst (λ v. IsStill (past quiet list t) v (quiet + o.elapsed)) a (to_still t (o.elapsed - timing.sg) o.elapsed (omega arith) o.synchronized.1);
            own = (let goal : quiet + x.moment ≤ quiet + o.elapsed - timing.sg = omega arith in goal);
          },
        );
        gap_fits = omega arith;
        gap = subst (λ v. IsStill (past quiet list t) (length (past quiet list t) - timing.tg) v) (sym e)
            (subst (λ v. IsStill (past quiet list t) v (quiet + t)) c (to_still t (t - timing.tg) t (omega arith) o.gap.1));
      }

  place : (t : ℕ) → x.moment < t → t ≤ z.moment → last_place quiet (own list n t) ≡ Some (quiet + x.moment)
  place t low high = last_is quiet list row.ordered n t x row.there row.mine low (λ y i its less. row.next y i its (omega arith))

  may_at : (t : ℕ) → x.moment < t → t ≤ z.moment → AreOver (course 0 list) n timers (tick 0 x) t → MayAt timing quiet list n t
  may_at t low high o = subst (MayStart timing (past quiet list t)) (sym (place t low high)) (may t o)

  over_at : (t : ℕ) → x.moment < t → t ≤ z.moment → MayAt timing quiet list n t → AreOver (course 0 list) n timers (tick 0 x) t
  over_at t low high m = over t (subst (MayStart timing (past quiet list t)) (place t low high) m)

pub clean_starts_are_allowed : CleanStartIsDue → CleanStartIsAllowed
clean_starts_are_allowed due timing quiet list n x z row sg tg =
    let law = due (course 0 list) n 5 (recorded 0 list) (timers timing quiet list n x z row) (tick 0 x) (tick 0 z) (exact timing quiet list n x z row)
    (in_row timing quiet list n x z row) (omega arith) (omega arith) (omega arith) in
    let behind : x.moment < z.moment = row.behind in (
      λ none.
          let w = law.0 (subst (λ v. HasNoFinding (bounds_of timing) (monitor_of 0 5 0) (recorded 0 list) v (now z)) (sym (is_now x))
          (subst (λ v. HasNoFinding (bounds_of timing) (monitor_of 0 5 0) (recorded 0 list) (seen x) v) (sym (is_now z)) none)) in
          let e : 0 + z.moment ≡ z.moment = omega arith in (
            may_at timing quiet list n x z row z.moment behind (omega arith) (subst (AreOver (course 0 list) n (timers timing quiet list n x z row) (tick 0 x)) e w.0),
            λ t low high m. w.1 t (omega arith) (over_at timing quiet list n x z row t low (omega arith) m),
          ),
      λ allowed.
          let e : z.moment ≡ 0 + z.moment = omega arith in
          subst (λ v. HasNoFinding (bounds_of timing) (monitor_of 0 5 0) (recorded 0 list) v (seen z)) (is_now x)
          (subst (λ v. HasNoFinding (bounds_of timing) (monitor_of 0 5 0) (recorded 0 list) (now x) v) (is_now z)
          (law.1 (
            subst (AreOver (course 0 list) n (timers timing quiet list n x z row) (tick 0 x)) e (over_at timing quiet list n x z row z.moment behind (omega arith) allowed.0),
            λ t before o.
                let after : 0 + x.moment + timing.sg ≤ o.elapsed = o.behind in
                let room : o.elapsed + timing.tg ≤ t = o.room in
                allowed.1 t (omega arith) (omega arith) (may_at timing quiet list n x z row t (omega arith) (omega arith) o),
          ))),
    )
