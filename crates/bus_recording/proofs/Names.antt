-- Why terminals may be told by any numbers.
use Rattle.std.proofs.Common.{◌≡◌, ℕ, ◌+◌, ◌-◌, ◌<◌, ◌≤◌, List, [], ◌∷◌, inl, inr, sym, refl, ap, ◌∙◌, subst}
use Rattle.bus_recording.specs.Seen.{Bounds, IsIn, IsNext, Monitor, Seen}
use Rattle.bus_recording.specs.Findings.{HasNoFinding, IsEarlyByGap, IsEarlyBySync, IsLate, IsQuietForCertain}
use Rattle.bus_recording.specs.Names.{NamesAreFree, all_renamed, renamed}
use Rattle.bus_recording.proofs.Parts.{same_moment, same_sender, same_soonest}

to_named : (name : ℕ → ℕ) (l : List Seen) (r : Seen) → IsIn r l → IsIn (renamed name r) (all_renamed name l)
to_named name [] r i = i
to_named name (y ∷ l) r (inl same) = inl (ap (renamed name) same)
to_named name (y ∷ l) r (inr i) = inr (to_named name l r i)

pub from_named : (name : ℕ → ℕ) (l : List Seen) (q : Seen) → IsIn q (all_renamed name l) → (r : Seen) × IsIn r l × (q ≡ renamed name r)
from_named name [] q i = absurd i
from_named name (y ∷ l) q (inl same) = (y, inl refl, same)
from_named name (y ∷ l) q (inr i) = (let w = from_named name l q i in (w.0, inr w.1, w.2))

module _ (bounds : Bounds) (monitor : Monitor) (name : ℕ → ℕ) (recording : List Seen) (one : (a b : ℕ) → name a ≡ name b → a ≡ b) where
  pub gap_back : (n : ℕ) (y : Seen) → IsEarlyByGap bounds monitor n (all_renamed name recording) (renamed name y) → IsEarlyByGap bounds monitor n recording y
  gap_back n y f =
      let g = from_named name recording f.other f.there in
      let m : f.other.moment ≡ g.0.moment = same_moment f.other (renamed name g.0) g.2 in
      let e : f.other.soonest ≡ g.0.soonest = same_soonest f.other (renamed name g.0) g.2 in
      record {
        wide = f.wide;
        other = g.0;
        there = g.1;
        begun = elim f.begun [
          | inl far ↦ inl (subst (λ v. v + monitor.reach < y.moment) m far)
          | inr near ↦ inr (one g.0.sender y.sender (sym (same_sender f.other (renamed name g.0) g.2) ∙ near.0), subst (λ v. v < y.moment) m near.1)
        ];
        early = subst (λ v. y.moment + n ≤ v + bounds.short.tg) e f.early;
      }

  pub sync_back : (n : ℕ) (o y : Seen) → IsEarlyBySync bounds monitor n (all_renamed name recording) (renamed name o) (renamed name y)
      → IsEarlyBySync bounds monitor n recording o y
  sync_back n o y f = record {
    wide = f.wide;
    met = λ a length short own fits.
        let t = f.met a length short own fits in
        let g = from_named name recording t.other t.there in
        record {
          other = g.0;
          there = g.1;
          foreign = λ same. t.foreign (same_sender t.other (renamed name g.0) g.2 ∙ ap name same);
          begun = subst (λ v. v + monitor.reach < a + length) (same_moment t.other (renamed name g.0) g.2) t.begun;
          ended = subst (λ v. a < v) (same_soonest t.other (renamed name g.0) g.2) t.ended;
        };
  }

  same_back : (r o : Seen) → renamed name r ≡ renamed name o → r ≡ o
  same_back r o same =
      let s : r.sender ≡ o.sender = one r.sender o.sender (same_sender (renamed name r) (renamed name o) same) in
      let back : Seen → Seen = λ v. record { moment = v.moment; sender = r.sender; soonest = v.soonest; latest = v.latest } in
      ap back same ∙ ap (λ n. let v : Seen = record { moment = o.moment; sender = n; soonest = o.soonest; latest = o.latest } in v) s

  quiet_back : (o : Seen) (a b : ℕ) → IsQuietForCertain monitor (all_renamed name recording) (renamed name o) a b → IsQuietForCertain monitor recording o a b
  quiet_back o a b q = record {
    recorded = q.recorded;
    own = q.own;
    others = λ r i. elim (q.others (renamed name r) (to_named name recording r i)) [ inl same ↦ inl (same_back r o same) | inr apart ↦ inr apart ];
  }

  pub late_back : (n : ℕ) (o y : Seen) → IsLate bounds monitor n (all_renamed name recording) (renamed name o) (renamed name y) → IsLate bounds monitor n recording o y
  late_back n o y f = record {
    due = f.due;
    early = f.early;
    over = record {
      interval = f.over.interval;
      elapsed = f.over.elapsed;
      fits = f.over.fits;
      synchronized = quiet_back o (f.over.elapsed - bounds.long.sg) f.over.elapsed f.over.synchronized;
      room = f.over.room;
      gap = quiet_back o (f.due - bounds.long.tg) f.due f.over.gap;
    };
  }

  pub next_back : (o y : Seen) → IsIn o recording → IsIn y recording → IsNext (all_renamed name recording) (renamed name o) (renamed name y) → IsNext recording o y
  next_back o y i j n = record {
    there = i;
    here = j;
    same = one o.sender y.sender n.same;
    behind = n.behind;
    next = λ z k e less. n.next (renamed name z) (to_named name recording z k) (ap name e) less;
  }

pub names_free : NamesAreFree
names_free bounds monitor name k recording one clean = record {
  next = λ o y n e.
      let go = from_named name recording o n.there in
      let gy = from_named name recording y n.here in
      let named : IsNext (all_renamed name recording) (renamed name go.0) (renamed name gy.0) =
      subst (λ v. IsNext (all_renamed name recording) v (renamed name gy.0)) go.2 (subst (λ v. IsNext (all_renamed name recording) o v) gy.2 n) in
      let mine : gy.0.sender ≡ k = one gy.0.sender k (sym (same_sender y (renamed name gy.0) gy.2) ∙ e) in
      let none = clean.next go.0 gy.0 (next_back bounds monitor name recording one go.0 gy.0 go.1 gy.1 named) mine in
      let found : HasNoFinding bounds monitor (all_renamed name recording) (renamed name go.0) (renamed name gy.0) = record {
        by_interval = none.by_interval;
        by_sync = λ f. none.by_sync (sync_back bounds monitor name recording one 1 go.0 gy.0 f);
        by_gap = λ f. none.by_gap (gap_back bounds monitor name recording one 1 gy.0 f);
        late = λ f. none.late (late_back bounds monitor name recording one 1 go.0 gy.0 f);
      } in
      subst (λ v. HasNoFinding bounds monitor (all_renamed name recording) v y) (sym go.2)
      (subst (λ v. HasNoFinding bounds monitor (all_renamed name recording) (renamed name go.0) v) (sym gy.2) found);
  each = λ y i e f.
      let gy = from_named name recording y i in
      let mine : gy.0.sender ≡ k = one gy.0.sender k (sym (same_sender y (renamed name gy.0) gy.2) ∙ e) in
      clean.each gy.0 gy.1 mine (gap_back bounds monitor name recording one 1 gy.0 (subst (λ v. IsEarlyByGap bounds monitor 1 (all_renamed name recording) v) gy.2 f));
}
