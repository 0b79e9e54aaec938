-- Why findings are the same from wherever ticks are counted.
use Rattle.std.proofs.Common.{◌≡◌, ℕ, ◌+◌, ◌-◌, ◌<◌, ◌≤◌, List, [], ◌∷◌, inl, inr, arith, sym, refl, ap, ◌∙◌, subst}
use Rattle.bus_recording.specs.Seen.{Bounds, IsIn, IsNext, Monitor, Seen}
use Rattle.bus_recording.specs.Findings.{IsEarlyByGap, IsEarlyByInterval, IsEarlyBySync, IsLate, IsQuietForCertain}
use Rattle.bus_recording.specs.Shifts.{all_later, later, settled_later}

pub in_later : (start : ℕ) (l : List Seen) (r : Seen) → IsIn r l → IsIn (later start r) (all_later start l)
in_later start [] r i = i
in_later start (y ∷ l) r (inl same) = inl (ap (later start) same)
in_later start (y ∷ l) r (inr i) = inr (in_later start l r i)

pub from_later : (start : ℕ) (l : List Seen) (q : Seen) → IsIn q (all_later start l) → (r : Seen) × IsIn r l × (q ≡ later start r)
from_later start [] q i = absurd i
from_later start (y ∷ l) q (inl same) = (y, inl refl, same)
from_later start (y ∷ l) q (inr i) = (let w = from_later start l q i in (w.0, inr w.1, w.2))

module _ (bounds : Bounds) (monitor : Monitor) (start n : ℕ) (recording : List Seen) where
  pub interval_later : (o y : Seen) → IsEarlyByInterval bounds n o y → IsEarlyByInterval bounds n (later start o) (later start y)
  interval_later o y f = (let k : y.moment + n ≤ o.moment + bounds.short.ti = f in omega arith)

  pub gap_later : (y : Seen) → IsEarlyByGap bounds monitor n recording y → IsEarlyByGap bounds (settled_later start monitor) n (all_later start recording) (later start y)
  gap_later y f =
      let early : y.moment + n ≤ f.other.soonest + bounds.short.tg = f.early in
      record {
        wide = f.wide;
        other = later start f.other;
        there = in_later start recording f.other f.there;
        begun = elim f.begun [
          | inl far ↦ inl (omega arith)
          | inr near ↦ (let k : f.other.moment < y.moment = near.1 in inr (near.0, omega arith))
        ];
        early = omega arith;
      }

  pub sync_later : (o y : Seen) → IsEarlyBySync bounds monitor n recording o y
      → IsEarlyBySync bounds (settled_later start monitor) n (all_later start recording) (later start o) (later start y)
  sync_later o y f = record {
    wide = f.wide;
    met = λ a length long own fits.
        let m = f.met (a - start) length long (omega arith) (omega arith) in
        let b : m.other.moment + monitor.reach < a - start + length = m.begun in
        let e : a - start < m.other.soonest = m.ended in
        record {
          other = later start m.other;
          there = in_later start recording m.other m.there;
          foreign = m.foreign;
          begun = omega arith;
          ended = omega arith;
        };
  }

  quiet_later : (o : Seen) (a b : ℕ) → IsQuietForCertain monitor recording o a b
      → IsQuietForCertain (settled_later start monitor) (all_later start recording) (later start o) (a + start) (b + start)
  quiet_later o a b q =
      let recorded : monitor.settled ≤ a = q.recorded in
      let own : o.latest ≤ a = q.own in
      record {
        recorded = omega arith;
        own = omega arith;
        others = λ r i.
            let g = from_later start recording r i in
            let rm : r.moment ≡ g.0.moment + start = ap (λ (v : Seen). v.moment) g.2 in
            let rl : r.latest ≡ g.0.latest + start = ap (λ (v : Seen). v.latest) g.2 in
            elim (q.others g.0 g.1) [
              | inl same ↦ inl (g.2 ∙ ap (later start) same)
              | inr apart ↦ elim apart [ inl behind ↦ inr (inl (omega arith)) | inr before ↦ inr (inr (omega arith)) ]
            ];
      }

  pub late_later : (o y : Seen) → IsLate bounds monitor n recording o y
      → IsLate bounds (settled_later start monitor) n (all_later start recording) (later start o) (later start y)
  late_later o y f =
      let early : f.due + n ≤ y.moment = f.early in
      let interval : o.moment + bounds.long.ti ≤ f.due = f.over.interval in
      let fits : bounds.long.sg ≤ f.over.elapsed = f.over.fits in
      let room : f.over.elapsed + bounds.long.tg ≤ f.due = f.over.room in
      record {
        due = f.due + start;
        early = omega arith;
        over = record {
          interval = omega arith;
          elapsed = f.over.elapsed + start;
          fits = omega arith;
          synchronized = subst (λ v. IsQuietForCertain (settled_later start monitor) (all_later start recording) (later start o) v (f.over.elapsed + start))
              (let k : f.over.elapsed - bounds.long.sg + start ≡ f.over.elapsed + start - bounds.long.sg = omega arith in k)
              (quiet_later o (f.over.elapsed - bounds.long.sg) f.over.elapsed f.over.synchronized);
          room = omega arith;
          gap = subst (λ v. IsQuietForCertain (settled_later start monitor) (all_later start recording) (later start o) v (f.due + start))
              (let k : f.due - bounds.long.tg + start ≡ f.due + start - bounds.long.tg = omega arith in k)
              (quiet_later o (f.due - bounds.long.tg) f.due f.over.gap);
        };
      }

pub next_later : (start : ℕ) (recording : List Seen) (o y : Seen) → IsNext recording o y → IsNext (all_later start recording) (later start o) (later start y)
next_later start recording o y n =
    let behind : o.moment < y.moment = n.behind in
    record {
      there = in_later start recording o n.there;
      here = in_later start recording y n.here;
      same = n.same;
      behind = omega arith;
      next = λ z i e less.
          let g = from_later start recording z i in
          let zm : z.moment ≡ g.0.moment + start = ap (λ (v : Seen). v.moment) g.2 in
          let zt : z.sender ≡ g.0.sender = ap (λ (v : Seen). v.sender) g.2 in
          let k : y.moment ≤ g.0.moment = n.next g.0 g.1 (sym zt ∙ e) (omega arith) in
          omega arith;
    }
