-- Why a recording in whole bit times is one in ticks, whose bounds are wider.
use Rattle.std.proofs.Common.{◌≡◌, ℕ, ◌+◌, ◌-◌, ◌*◌, ◌<◌, ◌≤◌, List, arith, refl, ap, ◌∙◌, subst}
use Rattle.bus_clocks.specs.Entries.{Entry, In}
use Rattle.bus_clocks.specs.Courses.{Course}
use Rattle.bus_recording.specs.Seen.{IsIn, Monitor, Seen}
use Rattle.bus_recording.specs.Findings.{IsEarlyBySync}
use Rattle.bus_recording.specs.Recordings.{IsRecording}
use Rattle.bus_recording.specs.Rounding.{EndsAreNoted, IsCoarser, IsRounded, RoundedIsClean, RoundedIsRecorded, all_in_ticks, bounds_in_ticks, finer, in_ticks}
use Rattle.bus_recording.proofs.Just.{just}
use Rattle.bus_recording.proofs.Recorded.{in_order}
use Rattle.bus_recording.proofs.Finer.{from_ticks, gap_up, in_ticks_from, interval_up, late_up, next_up, one_gap, same_bit, sync_up, ticks_in, two}

module _ (c : Course) (fine coarse : Monitor) (k from ahead sway bit : ℕ) (seen noted : Entry → Seen) (recording rounded : List Seen)
    (rec : IsRecording c fine k from ahead sway seen recording) (same : IsRounded bit c.list seen noted recording rounded)
    (one : 1 ≤ bit) (coarser : IsCoarser bit fine coarse)
    (spaced : (x z : Entry) → In x c.list → In z c.list → x.sender ≡ k → z.sender ≡ k → x.moment < z.moment → IsIn (seen x) recording
    → (seen x).moment + bit ≤ (seen z).moment) where
  noted_in : (x : Entry) → In x c.list → IsIn (in_ticks bit (noted x)) (all_in_ticks bit rounded) → IsIn (seen x) recording
  noted_in x i there = same.back x i (from_ticks bit rounded (noted x) one there)

  seen_in : (x : Entry) → In x c.list → IsIn (seen x) recording → IsIn (in_ticks bit (noted x)) (all_in_ticks bit rounded)
  seen_in x i there = ticks_in bit rounded (noted x) (same.all x i there)

  noted_order : (x z : Entry) → In x c.list → In z c.list → x.sender ≡ k → z.sender ≡ k → x.moment < z.moment → IsIn (seen x) recording
      → (noted x).moment * bit < (noted z).moment * bit
  noted_order x z i j e g less there =
      let apart : (seen x).moment + bit ≤ (seen z).moment = spaced x z i j e g less there in
      let d : (noted x).moment * bit ≤ (seen x).moment = (same.so x i).begins in
      let h : (seen z).moment < (noted z).moment * bit + bit = (same.so z j).begun in
      omega arith

  in_ticks_too : IsRecording c (finer bit fine.drop coarse) k from ahead (sway + (bit - 1)) (λ x. in_ticks bit (noted x)) (all_in_ticks bit rounded)
  in_ticks_too =
      let reach : fine.reach ≤ coarse.reach * bit = coarser.reach in
      let rest : fine.rest ≤ coarse.rest * bit = coarser.rest in
      let settled : fine.settled < coarse.settled * bit + bit = coarser.settled in
      record {
        each = λ r i.
            let g = in_ticks_from bit rounded r i in
            let h = same.each g.0 g.1 in
            (h.0, h.1, g.2 ∙ ap (in_ticks bit) h.2);
        whole = λ t loud late. (let w = rec.whole t loud (omega arith) in (w.0, w.1, w.2, seen_in w.0 w.1 w.3));
        own = λ x i own.
            let n = same.so x i in
            let o = rec.own x i own in
            let a : (noted x).moment * bit ≤ (seen x).moment = n.begins in
            let b : (seen x).moment < (noted x).moment * bit + bit = n.begun in
            let d : (noted x).soonest * bit ≤ (seen x).soonest = n.ends in
            let h : (seen x).latest < (noted x).latest * bit + bit = n.ended in
            let oa : (seen x).moment ≤ x.moment + ahead = o.begins in
            let ob : x.moment + ahead ≤ (seen x).moment + sway = o.begun in
            let oc : (seen x).soonest ≤ x.moment + x.length + ahead = o.ends in
            let od : x.moment + x.length + ahead ≤ (seen x).latest + sway = o.ended in
            record { sender = n.sender ∙ o.sender; begins = omega arith; begun = omega arith; ends = omega arith; ended = omega arith };
        others = λ x i foreign.
            let n = same.so x i in
            let o = rec.others x i foreign in
            let a : (noted x).moment * bit ≤ (seen x).moment = n.begins in
            let b : (seen x).moment < (noted x).moment * bit + bit = n.begun in
            let d : (noted x).soonest * bit ≤ (seen x).soonest = n.ends in
            let h : (seen x).latest < (noted x).latest * bit + bit = n.ended in
            let soon : o.first + ahead ≤ (seen x).moment + fine.reach = o.first_soon in
            let late : (seen x).soonest ≤ o.last + 1 + ahead = o.last_late in
            record {
              sender = n.sender ∙ o.sender;
              within = λ t loud. (
                (let low : (seen x).moment ≤ t + ahead = (o.within t loud).0 in omega arith),
                (let high : t + ahead < (seen x).latest + fine.rest + sway = (o.within t loud).1 in omega arith),
              );
              first = o.first;
              last = o.last;
              first_heard = o.first_heard;
              first_soon = omega arith;
              last_heard = o.last_heard;
              last_late = omega arith;
              filled = o.filled;
            };
        itself = rec.itself;
        since = λ x i own there. rec.since x i own (noted_in x i there);
        order = λ x z i j e g less there.
            let here : IsIn (seen x) recording = noted_in x i there in
            (seen_in z j (rec.order x z i j e g less here).0, noted_order x z i j e g less here);
        together = λ x z i j e g at.
            let nx = same.so x i in
            let nz = same.so z j in
            let q : (seen x).moment ≡ (seen z).moment = rec.together x z i j e g at in
            let a : (noted x).moment * bit ≤ (seen x).moment = nx.begins in
            let b : (seen x).moment < (noted x).moment * bit + bit = nx.begun in
            let d : (noted z).moment * bit ≤ (seen z).moment = nz.begins in
            let h : (seen z).moment < (noted z).moment * bit + bit = nz.begun in
            ap (λ m. m * bit) (same_bit bit (noted x).moment (noted z).moment (seen x).moment a b (omega arith) (omega arith));
      }

pub rounded_recorded : RoundedIsRecorded
rounded_recorded c fine coarse k from ahead sway bit seen noted recording rounded rec same one coarser spaced =
    in_ticks_too c fine coarse k from ahead sway bit seen noted recording rounded rec same one coarser spaced

pub rounded_clean : RoundedIsClean
rounded_clean c fine coarse k from ahead sway bit seen noted recording rounded kept bounds keeps rec same one coarser within wide room =
    let all = just c (finer bit fine.drop coarse) k from ahead (sway + (bit - 1)) (λ x. in_ticks bit (noted x)) (all_in_ticks bit rounded) kept
    (bounds_in_ticks bit bounds) keeps within
    (rounded_recorded c fine coarse k from ahead sway bit seen noted recording rounded rec same one coarser (λ x z i j e g less there.
    let low : from ≤ x.moment = rec.since x i e there in
    let apart : x.moment + x.length + kept.short.tg ≤ z.moment =
    in_order c k from fine.drop kept keeps wide x z i j g (rec.itself x i e) (omega arith) less in
    let long : sway + bit ≤ x.length + kept.short.tg = room x i e in
    let a : (seen x).moment ≤ x.moment + ahead = (rec.own x i e).begins in
    let b : z.moment + ahead ≤ (seen z).moment + sway = (rec.own z j g).begun in
    omega arith)) in
    record {
      next = λ o y n e.
          let none = all.next (in_ticks bit o) (in_ticks bit y) (next_up bit fine.drop coarse rounded o y one n) e in
          record {
            by_interval = λ f. (let g : (in_ticks bit y).moment + 1 * bit ≤ (in_ticks bit o).moment + bounds.short.ti * bit = interval_up bit 1 bounds o y f in
                none.by_interval (let h : (in_ticks bit y).moment + 1 ≤ (in_ticks bit o).moment + bounds.short.ti * bit = omega arith in h));
            by_sync = λ f. none.by_sync (subst (λ m. IsEarlyBySync (bounds_in_ticks bit bounds) (finer bit fine.drop coarse) m (all_in_ticks bit rounded) (in_ticks bit o) (in_ticks bit y))
                (let e : 1 * bit - (bit - 1) ≡ 1 = omega arith in e) (sync_up bit fine.drop coarse rounded one coarser.drop 1 bounds o y (omega arith) f));
            by_gap = λ f. none.by_gap (one_gap bit coarse rounded y bounds fine.drop one (gap_up bit fine.drop coarse rounded one coarser.drop 1 bounds y f));
            late = λ f.
                let g = late_up bit fine.drop coarse rounded 1 bounds o y f in
                let early : g.due + 1 * bit ≤ (in_ticks bit y).moment = g.early in
                none.late (record { due = g.due; early = omega arith; over = g.over });
          };
      each = λ y i e f.
          all.each (in_ticks bit y) (ticks_in bit rounded y i) e
          (one_gap bit coarse rounded y bounds fine.drop one (gap_up bit fine.drop coarse rounded one coarser.drop 1 bounds y f));
    }

pub ends_noted : EndsAreNoted
ends_noted bit moment bits error arrives x begins begun short long =
    let sum : (moment + (bits - error)) * bit ≡ moment * bit + (bits - error) * bit = two bit moment (bits - error) in
    let part : (moment + (bits + error)) * bit ≡ moment * bit + (bits + error) * bit = two bit moment (bits + error) in
    record { sender = refl; begins = begins; begun = begun; ends = omega arith; ended = omega arith }
