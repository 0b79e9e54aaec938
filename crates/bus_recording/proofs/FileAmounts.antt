-- Why the amounts that are found in a file are true of the bus that was recorded.
use Rattle.std.proofs.Common.{◌≡◌, ℕ, ◌+◌, ◌-◌, ◌*◌, ◌<◌, ◌≤◌, List, inl, inr, arith, sym, ap, ◌∙◌, subst}
use Rattle.std.proofs.Math.Nat.{mul-le-mul_right}
use Rattle.bus_clocks.specs.Entries.{Entry, In}
use Rattle.bus_clocks.specs.Courses.{Course}
use Rattle.bus_recording.specs.Seen.{Bounds, IsIn, IsNext, Monitor, Seen}
use Rattle.bus_recording.specs.Findings.{IsEarlyByGap, IsEarlyByInterval, IsEarlyBySync, IsLate}
use Rattle.bus_recording.specs.Amounts.{AreNext}
use Rattle.bus_recording.specs.FileAmounts.{FileAmountsAreTrue, FileGapIsTrue, LacksGap, LacksInterval, LacksSync, StartsApart, WasDue}
use Rattle.bus_recording.specs.Files.{IsFile, IsToldOf, until}
use Rattle.bus_recording.specs.Keeping.{AreInRow, HasBeenQuiet}
use Rattle.bus_recording.specs.Monitors.{IsPlaced}
use Rattle.bus_recording.specs.Names.{all_renamed, renamed}
use Rattle.bus_recording.specs.Recordings.{IsRecording}
use Rattle.bus_recording.specs.Rounding.{all_in_ticks, bounds_in_ticks, finer, in_ticks}
use Rattle.bus_recording.specs.Shifts.{all_later, later, settled_later}
use Rattle.bus_recording.proofs.Amounts.{gap_true, in_row, interval_true, late_true, sync_true}
use Rattle.bus_recording.proofs.Filed.{file_recorded, in_time}
use Rattle.bus_recording.proofs.Finer.{gap_in_ticks, interval_up, late_in_ticks, next_in_ticks, sync_in_ticks, ticks_in}
use Rattle.bus_recording.proofs.Names.{from_named, gap_back, late_back, next_back, sync_back}
use Rattle.bus_recording.proofs.Parts.{same_sender}
use Rattle.bus_recording.proofs.Shifted.{in_later, next_later}
use Rattle.bus_recording.proofs.Unshifted.{gap_same, interval_same, late_same, sync_same}
use Rattle.bus_recording.proofs.Until.{arrived_in, heard_in_time, in_arrived, over_in, quieter}

-- what holds of two holds of their equals
both : (P : Seen → Seen → Type 0) (a b o y : Seen) → a ≡ o → b ≡ y → P a b → P o y
both P a b o y e g h = subst (λ v. P o v) g (subst (λ v. P v b) e h)

module _ (c : Course) (k away reach drop bit start end longest : ℕ) (arrives : Entry → ℕ) (noted : Entry → Seen) (file : List Seen)
    (monitor : Monitor) (one : 1 ≤ bit) (p : IsPlaced c drop arrives k away) (near : away ≤ reach) (f : IsFile bit arrives noted start end c.list file)
    (told : IsToldOf c arrives k reach drop bit start longest monitor) (apart : StartsApart bit k c.list) where
  abbrev heard : Course
  heard = until arrives (end * bit) c

  abbrev fine : Monitor
  fine = finer bit drop (settled_later start monitor)

  abbrev shown : Entry → Seen
  shown x = in_ticks bit (noted x)

  abbrev all : List Seen
  all = all_in_ticks bit (all_later start file)

  recorded : IsRecording heard fine k 0 away (bit - 1) shown all
  recorded = file_recorded c k away reach drop bit start end longest arrives noted file monitor one p near f told apart

  -- what stands in the file
  stands : (y : Seen) → IsIn y file → (z : Entry) × In z heard.list × (later start y ≡ noted z)
  stands y i =
      let w = f.each y i in
      (w.0, in_arrived arrives (end * bit) c.list w.0 w.1 (in_time bit end (noted w.0).moment (arrives w.0) (f.so w.0 w.1).begun w.3), w.2)

  whose : (y : Seen) (z : Entry) → In z heard.list → later start y ≡ noted z → y.sender ≡ k → z.sender ≡ k
  whose y z i same mine =
      let at = (arrived_in arrives (end * bit) c.list z i).0 in
      sym (f.so z at).sender ∙ sym (same_sender (later start y) (noted z) same) ∙ mine

  there : (y : Seen) (z : Entry) → IsIn y file → later start y ≡ noted z → IsIn (shown z) all
  there y z i same = subst (λ (v : Seen). IsIn (in_ticks bit v) all) same (ticks_in bit (all_later start file) (later start y) (in_later start file y i))

  quiet_there : (quiet t : ℕ) → HasBeenQuiet c k quiet t → HasBeenQuiet heard k quiet t
  quiet_there quiet t q = (q.0, quieter c arrives (end * bit) k (t - quiet) t q.1)

  pub gap_meant : (bounds : Bounds) (n : ℕ) (y : Seen) (z : Entry) → In z heard.list → z.sender ≡ k → IsIn y file → later start y ≡ noted z
      → IsEarlyByGap bounds monitor n file y → LacksGap c k drop bit bounds.short n z
  gap_meant bounds n y z i own h same found quiet q =
      gap_true heard fine k 0 away (bit - 1) shown all (bounds_in_ticks bit bounds) (n * bit) z quiet recorded i own (there y z h same)
      (subst (λ (v : Seen). IsEarlyByGap (bounds_in_ticks bit bounds) fine (n * bit) all (in_ticks bit v)) same
      (gap_in_ticks bit drop n (settled_later start monitor) bounds (all_later start file) (later start y) one told.quiet
      ((gap_same bounds monitor start n file y).0 found)))
      (quiet_there quiet z.moment q)

  module _ (bounds : Bounds) (o y : Seen) (x z : Entry) (xi : In x heard.list) (zi : In z heard.list) (ex : later start o ≡ noted x) (ez : later start y ≡ noted z)
      (n : IsNext file o y) (mine : x.sender ≡ k) (own : z.sender ≡ k) where
    next : AreNext heard.list k shown all x z
    next = record {
      there = xi;
      here = zi;
      mine = mine;
      own = own;
      next = both (λ a b. IsNext all (in_ticks bit a) (in_ticks bit b)) (later start o) (later start y) (noted x) (noted z) ex ez
          (next_in_ticks bit (all_later start file) (later start o) (later start y) one (next_later start file o y n));
    }

    row : AreInRow c.list k x z
    row =
        let r = in_row heard fine k 0 away (bit - 1) shown all recorded x z next in
        let xa = arrived_in arrives (end * bit) c.list x xi in
        let za = arrived_in arrives (end * bit) c.list z zi in
        record {
          there = xa.0;
          here = za.0;
          mine = mine;
          own = own;
          behind = r.behind;
          next = λ w i e before.
              let a : arrives w ≡ w.moment + away = p.steady w i e in
              let b : arrives z ≡ z.moment + away = p.steady z za.0 own in
              let less : arrives z < end * bit = za.1 in
              r.next w (in_arrived arrives (end * bit) c.list w i (omega arith)) e before;
        }

    interval : (m : ℕ) → IsEarlyByInterval bounds m o y → LacksInterval bit bounds.short m x z
    interval m found =
        interval_true heard fine k 0 away (bit - 1) shown all (bounds_in_ticks bit bounds) (m * bit) x z recorded next
        (both (λ a b. IsEarlyByInterval (bounds_in_ticks bit bounds) (m * bit) (in_ticks bit a) (in_ticks bit b)) (later start o) (later start y) (noted x) (noted z) ex ez
        (interval_up bit m bounds (later start o) (later start y) ((interval_same bounds start m o y).0 found)))

    sync : (m : ℕ) → 0 < m → IsEarlyBySync bounds monitor m file o y → LacksSync c k drop bit bounds.short m x z
    sync m some found quiet t behind q room =
        let low : 1 * bit ≤ m * bit = mul-le-mul_right bit some in
        elim (sync_true heard fine k 0 away (bit - 1) shown all (bounds_in_ticks bit bounds) (m * bit - (bit - 1)) x z quiet t recorded next
        (both (λ a b. IsEarlyBySync (bounds_in_ticks bit bounds) fine (m * bit - (bit - 1)) all (in_ticks bit a) (in_ticks bit b)) (later start o) (later start y) (noted x) (noted z) ex ez
        (sync_in_ticks bit drop m (settled_later start monitor) bounds (all_later start file) (later start o) (later start y) one told.quiet some
        ((sync_same bounds monitor start m file o y).0 found)))
        behind (quiet_there quiet t q) room) [
          | inl lacks ↦
              let so : quiet + (m * bit - (bit - 1)) ≤ bounds.short.sg * bit + (bit - 1) = lacks in
              inl (omega arith)
          | inr short ↦ inr short
        ]

    late : (m : ℕ) → IsLate bounds monitor m file o y → WasDue c k bit bounds.long m x z
    late m found long ti sg tg =
        let za = arrived_in arrives (end * bit) c.list z zi in
        let w = late_true heard fine k 0 away (bit - 1) shown all (bounds_in_ticks bit bounds) long (m * bit) x z recorded next ti sg tg
        (both (λ a b. IsLate (bounds_in_ticks bit bounds) fine (m * bit) all (in_ticks bit a) (in_ticks bit b)) (later start o) (later start y) (noted x) (noted z) ex ez
        (late_in_ticks bit drop m (settled_later start monitor) bounds (all_later start file) (later start o) (later start y) one
        ((late_same bounds monitor start m file o y).0 found))) in
        let due : w.0 + m * bit ≤ z.moment = w.1 in
        (w.0, due, over_in c arrives (end * bit) k 0 (heard_in_time c k away drop (end * bit) arrives p 0) z x long w.0 za.0 own (omega arith) za.1 (omega arith) w.2)

-- in a file whose terminals have other numbers
pub file_amounts_true : FileAmountsAreTrue
file_amounts_true c k away reach drop bit start end longest arrives noted file monitor name bounds o y one p near f told apart free n mine =
    let go = from_named name file o n.there in
    let gy = from_named name file y n.here in
    let named : IsNext (all_renamed name file) (renamed name go.0) (renamed name gy.0) =
    both (λ a b. IsNext (all_renamed name file) a b) o y (renamed name go.0) (renamed name gy.0) go.2 gy.2 n in
    let back : IsNext file go.0 gy.0 = next_back bounds monitor name file free go.0 gy.0 go.1 gy.1 named in
    let x = stands c k away reach drop bit start end longest arrives noted file monitor one p near f told apart go.0 go.1 in
    let z = stands c k away reach drop bit start end longest arrives noted file monitor one p near f told apart gy.0 gy.1 in
    let own_y : gy.0.sender ≡ k = free gy.0.sender k (sym (same_sender y (renamed name gy.0) gy.2) ∙ mine) in
    let own_o : go.0.sender ≡ k = back.same ∙ own_y in
    let xs : x.0.sender ≡ k = whose c k away reach drop bit start end longest arrives noted file monitor one p near f told apart go.0 x.0 x.1 x.2 own_o in
    let zs : z.0.sender ≡ k = whose c k away reach drop bit start end longest arrives noted file monitor one p near f told apart gy.0 z.0 z.1 z.2 own_y in (
      x.0,
      z.0,
      record { here = (arrived_in arrives (end * bit) c.list x.0 x.1).0; own = xs; noted_so = sym (ap (renamed name) x.2) ∙ ap (later start) (sym go.2) },
      record { here = (arrived_in arrives (end * bit) c.list z.0 z.1).0; own = zs; noted_so = sym (ap (renamed name) z.2) ∙ ap (later start) (sym gy.2) },
      record {
        row = row c k away reach drop bit start end longest arrives noted file monitor one p near f told apart bounds go.0 gy.0 x.0 z.0 x.1 z.1 x.2 z.2 back xs zs;
        interval = λ m h.
            interval c k away reach drop bit start end longest arrives noted file monitor one p near f told apart bounds go.0 gy.0 x.0 z.0 x.1 z.1 x.2 z.2 back xs zs m
            (both (λ a b. IsEarlyByInterval bounds m a b) o y (renamed name go.0) (renamed name gy.0) go.2 gy.2 h);
        gap = λ m h.
            gap_meant c k away reach drop bit start end longest arrives noted file monitor one p near f told apart bounds m gy.0 z.0 z.1 zs gy.1 z.2
            (gap_back bounds monitor name file free m gy.0 (subst (λ v. IsEarlyByGap bounds monitor m (all_renamed name file) v) gy.2 h));
        sync = λ m some h.
            sync c k away reach drop bit start end longest arrives noted file monitor one p near f told apart bounds go.0 gy.0 x.0 z.0 x.1 z.1 x.2 z.2 back xs zs m some
            (sync_back bounds monitor name file free m go.0 gy.0
            (both (λ a b. IsEarlyBySync bounds monitor m (all_renamed name file) a b) o y (renamed name go.0) (renamed name gy.0) go.2 gy.2 h));
        late = λ m h.
            late c k away reach drop bit start end longest arrives noted file monitor one p near f told apart bounds go.0 gy.0 x.0 z.0 x.1 z.1 x.2 z.2 back xs zs m
            (late_back bounds monitor name file free m go.0 gy.0
            (both (λ a b. IsLate bounds monitor m (all_renamed name file) a b) o y (renamed name go.0) (renamed name gy.0) go.2 gy.2 h));
      },
    )

pub file_gap_true : FileGapIsTrue
file_gap_true c k away reach drop bit start end longest arrives noted file monitor name bounds n y one p near f told apart free i mine h =
    let gy = from_named name file y i in
    let z = stands c k away reach drop bit start end longest arrives noted file monitor one p near f told apart gy.0 gy.1 in
    let own_y : gy.0.sender ≡ k = free gy.0.sender k (sym (same_sender y (renamed name gy.0) gy.2) ∙ mine) in
    let zs : z.0.sender ≡ k = whose c k away reach drop bit start end longest arrives noted file monitor one p near f told apart gy.0 z.0 z.1 z.2 own_y in (
      z.0,
      record { here = (arrived_in arrives (end * bit) c.list z.0 z.1).0; own = zs; noted_so = sym (ap (renamed name) z.2) ∙ ap (later start) (sym gy.2) },
      gap_meant c k away reach drop bit start end longest arrives noted file monitor one p near f told apart bounds n gy.0 z.0 z.1 zs gy.1 z.2
          (gap_back bounds monitor name file free n gy.0 (subst (λ v. IsEarlyByGap bounds monitor n (all_renamed name file) v) gy.2 h)),
    )
