-- Why findings of a recording that counts from elsewhere are findings.
use Rattle.std.proofs.Common.{◌≡◌, ℕ, ◌+◌, ◌-◌, ◌<◌, ◌≤◌, List, inl, inr, arith, sym, ap, ◌∙◌, subst}
use Rattle.bus_recording.specs.Seen.{Bounds, IsIn, IsNext, Monitor, Seen}
use Rattle.bus_recording.specs.Findings.{HasNoFinding, IsClean, IsEarlyByGap, IsEarlyByInterval, IsEarlyBySync, IsLate, IsQuietForCertain}
use Rattle.bus_recording.specs.Shifts.{CountsFromAnywhere, GapLater, IntervalLater, LateLater, NextLater, SyncLater, all_later, later, settled_later}
use Rattle.bus_recording.proofs.Parts.{same_moment, same_sender, same_soonest}
use Rattle.bus_recording.proofs.Shifted.{from_later, gap_later, in_later, interval_later, late_later, next_later, sync_later}

abbrev sooner : ℕ → Seen → Seen
sooner start r = record { moment = r.moment - start; sender = r.sender; soonest = r.soonest - start; latest = r.latest - start }

there_and_back : (start : ℕ) (r : Seen) → sooner start (later start r) ≡ r
there_and_back start r =
    let m : r.moment + start - start ≡ r.moment = omega arith in
    let s : r.soonest + start - start ≡ r.soonest = omega arith in
    let l : r.latest + start - start ≡ r.latest = omega arith in
    ap (λ w. let v : Seen = record { moment = w; sender = r.sender; soonest = r.soonest + start - start; latest = r.latest + start - start } in v) m
    ∙ ap (λ w. let v : Seen = record { moment = r.moment; sender = r.sender; soonest = w; latest = r.latest + start - start } in v) s
    ∙ ap (λ w. let v : Seen = record { moment = r.moment; sender = r.sender; soonest = r.soonest; latest = w } in v) l

same_later : (start : ℕ) (r o : Seen) → later start r ≡ later start o → r ≡ o
same_later start r o same = sym (there_and_back start r) ∙ ap (sooner start) same ∙ there_and_back start o

in_back : (start : ℕ) (l : List Seen) (r : Seen) → IsIn (later start r) (all_later start l) → IsIn r l
in_back start l r i = (let g = from_later start l (later start r) i in subst (λ v. IsIn v l) (sym (same_later start r g.0 g.2)) g.1)

next_back : (start : ℕ) (recording : List Seen) (o y : Seen) → IsNext (all_later start recording) (later start o) (later start y) → IsNext recording o y
next_back start recording o y n =
    let behind : o.moment + start < y.moment + start = n.behind in
    record {
      there = in_back start recording o n.there;
      here = in_back start recording y n.here;
      same = n.same;
      behind = omega arith;
      next = λ z i e less.
          let k : y.moment + start ≤ z.moment + start = n.next (later start z) (in_later start recording z i) e (let l : o.moment + start < z.moment + start = omega arith in l) in
          omega arith;
    }

module _ (bounds : Bounds) (monitor : Monitor) (start n : ℕ) (recording : List Seen) where
  interval_back : (o y : Seen) → IsEarlyByInterval bounds n (later start o) (later start y) → IsEarlyByInterval bounds n o y
  interval_back o y f = (let k : y.moment + start + n ≤ o.moment + start + bounds.short.ti = f in omega arith)

  gap_back : (y : Seen) → IsEarlyByGap bounds (settled_later start monitor) n (all_later start recording) (later start y) → IsEarlyByGap bounds monitor n recording y
  gap_back y f =
      let g = from_later start recording f.other f.there in
      let m : f.other.moment ≡ g.0.moment + start = same_moment f.other (later start g.0) g.2 in
      let s : f.other.soonest ≡ g.0.soonest + start = same_soonest f.other (later start g.0) g.2 in
      let early : y.moment + start + n ≤ f.other.soonest + bounds.short.tg = f.early in
      record {
        wide = f.wide;
        other = g.0;
        there = g.1;
        begun = elim f.begun [
          | inl far ↦ inl (omega arith)
          | inr near ↦
              let k : f.other.moment < y.moment + start = near.1 in
              inr (sym (same_sender f.other (later start g.0) g.2) ∙ near.0, omega arith)
        ];
        early = omega arith;
      }

  sync_back : (o y : Seen) → IsEarlyBySync bounds (settled_later start monitor) n (all_later start recording) (later start o) (later start y)
      → IsEarlyBySync bounds monitor n recording o y
  sync_back o y f = record {
    wide = f.wide;
    met = λ a length long own fits.
        let t = f.met (a + start) length long (let l : o.soonest + start ≤ a + start = omega arith in l)
        (let l : a + start + length + bounds.short.tg ≤ y.moment + start = omega arith in l) in
        let g = from_later start recording t.other t.there in
        let m : t.other.moment ≡ g.0.moment + start = same_moment t.other (later start g.0) g.2 in
        let s : t.other.soonest ≡ g.0.soonest + start = same_soonest t.other (later start g.0) g.2 in
        let begun : t.other.moment + monitor.reach < a + start + length = t.begun in
        let ended : a + start < t.other.soonest = t.ended in
        record {
          other = g.0;
          there = g.1;
          foreign = λ same. t.foreign (same_sender t.other (later start g.0) g.2 ∙ same);
          begun = omega arith;
          ended = omega arith;
        };
  }

  quiet_back : (o : Seen) (a b c d : ℕ) → a ≡ c + start → b ≡ d + start
      → IsQuietForCertain (settled_later start monitor) (all_later start recording) (later start o) a b → IsQuietForCertain monitor recording o c d
  quiet_back o a b c d is_a is_b q =
      let recorded : monitor.settled + start ≤ a = q.recorded in
      let own : o.latest + start ≤ a = q.own in
      record {
        recorded = omega arith;
        own = omega arith;
        others = λ r i. elim (q.others (later start r) (in_later start recording r i)) [
          | inl same ↦ inl (same_later start r o same)
          | inr apart ↦ elim apart [
            | inl behind ↦ (let l : b ≤ r.moment + start = behind in inr (inl (omega arith)))
            | inr before ↦ (let l : r.latest + start + monitor.rest ≤ a = before in inr (inr (omega arith)))
          ]
        ];
      }

  late_back : (o y : Seen) → IsLate bounds (settled_later start monitor) n (all_later start recording) (later start o) (later start y)
      → IsLate bounds monitor n recording o y
  late_back o y f =
      let early : f.due + n ≤ y.moment + start = f.early in
      let interval : o.moment + start + bounds.long.ti ≤ f.due = f.over.interval in
      let fits : bounds.long.sg ≤ f.over.elapsed = f.over.fits in
      let low : monitor.settled + start ≤ f.over.elapsed - bounds.long.sg = f.over.synchronized.recorded in
      let low_gap : monitor.settled + start ≤ f.due - bounds.long.tg = f.over.gap.recorded in
      let room : f.over.elapsed + bounds.long.tg ≤ f.due = f.over.room in
      record {
        due = f.due - start;
        early = omega arith;
        over = record {
          interval = omega arith;
          elapsed = f.over.elapsed - start;
          fits = omega arith;
          synchronized = quiet_back o (f.over.elapsed - bounds.long.sg) f.over.elapsed (f.over.elapsed - start - bounds.long.sg) (f.over.elapsed - start) (omega arith) (omega arith)
              f.over.synchronized;
          room = omega arith;
          gap = quiet_back o (f.due - bounds.long.tg) f.due (f.due - start - bounds.long.tg) (f.due - start) (omega arith) (omega arith) f.over.gap;
        };
      }

pub next_same : NextLater
next_same start recording o y = (next_later start recording o y, next_back start recording o y)

pub interval_same : IntervalLater
interval_same bounds start n o y = (
  λ f. (let k : y.moment + n ≤ o.moment + bounds.short.ti = f in let g : y.moment + start + n ≤ o.moment + start + bounds.short.ti = omega arith in g),
  λ f. (let k : y.moment + start + n ≤ o.moment + start + bounds.short.ti = f in let g : y.moment + n ≤ o.moment + bounds.short.ti = omega arith in g),
)

pub gap_same : GapLater
gap_same bounds monitor start n recording y = (gap_later bounds monitor start n recording y, gap_back bounds monitor start n recording y)

pub sync_same : SyncLater
sync_same bounds monitor start n recording o y = (sync_later bounds monitor start n recording o y, sync_back bounds monitor start n recording o y)

pub late_same : LateLater
late_same bounds monitor start n recording o y = (late_later bounds monitor start n recording o y, late_back bounds monitor start n recording o y)

module _ (bounds : Bounds) (monitor : Monitor) (start k : ℕ) (recording : List Seen) where
  clean_back : IsClean bounds (settled_later start monitor) (all_later start recording) k → IsClean bounds monitor recording k
  clean_back clean = record {
    next = λ o y n e.
        let none = clean.next (later start o) (later start y) (next_later start recording o y n) e in
        record {
          by_interval = λ f. none.by_interval (interval_later bounds monitor start 1 recording o y f);
          by_sync = λ f. none.by_sync (sync_later bounds monitor start 1 recording o y f);
          by_gap = λ f. none.by_gap (gap_later bounds monitor start 1 recording y f);
          late = λ f. none.late (late_later bounds monitor start 1 recording o y f);
        };
    each = λ y i e f. clean.each (later start y) (in_later start recording y i) e (gap_later bounds monitor start 1 recording y f);
  }

  none_later : (o y : Seen) → HasNoFinding bounds monitor recording o y
      → HasNoFinding bounds (settled_later start monitor) (all_later start recording) (later start o) (later start y)
  none_later o y none = record {
    by_interval = λ f. none.by_interval (interval_back bounds monitor start 1 recording o y f);
    by_sync = λ f. none.by_sync (sync_back bounds monitor start 1 recording o y f);
    by_gap = λ f. none.by_gap (gap_back bounds monitor start 1 recording y f);
    late = λ f. none.late (late_back bounds monitor start 1 recording o y f);
  }

  clean_later : IsClean bounds monitor recording k → IsClean bounds (settled_later start monitor) (all_later start recording) k
  clean_later clean = record {
    next = λ o y n e.
        let go = from_later start recording o n.there in
        let gy = from_later start recording y n.here in
        let so : IsNext (all_later start recording) (later start go.0) (later start gy.0) =
        subst (λ v. IsNext (all_later start recording) v (later start gy.0)) go.2 (subst (λ v. IsNext (all_later start recording) o v) gy.2 n) in
        let mine : gy.0.sender ≡ k = sym (same_sender y (later start gy.0) gy.2) ∙ e in
        let none = none_later go.0 gy.0 (clean.next go.0 gy.0 (next_back start recording go.0 gy.0 so) mine) in
        subst (λ v. HasNoFinding bounds (settled_later start monitor) (all_later start recording) v y) (sym go.2)
        (subst (λ v. HasNoFinding bounds (settled_later start monitor) (all_later start recording) (later start go.0) v) (sym gy.2) none);
    each = λ y i e f.
        let gy = from_later start recording y i in
        let mine : gy.0.sender ≡ k = sym (same_sender y (later start gy.0) gy.2) ∙ e in
        clean.each gy.0 gy.1 mine
        (gap_back bounds monitor start 1 recording gy.0
        (subst (λ v. IsEarlyByGap bounds (settled_later start monitor) 1 (all_later start recording) v) gy.2 f));
  }

pub counts_from_anywhere : CountsFromAnywhere
counts_from_anywhere bounds monitor start k recording = (clean_back bounds monitor start k recording, clean_later bounds monitor start k recording)
