-- Why findings are just.
use Rattle.std.proofs.Common.{◌≡◌, ℕ, ◌+◌, ◌≤◌, List, inl, inr, arith, sym, ap, ◌∙◌, subst}
use Rattle.bus_clocks.specs.Entries.{Entry, In}
use Rattle.bus_clocks.specs.Courses.{Course}
use Rattle.bus_recording.specs.Seen.{Bounds, IsIn, IsNext, Monitor, Seen}
use Rattle.bus_recording.specs.Findings.{HasNoFinding, IsClean, IsEarlyByGap}
use Rattle.bus_recording.specs.Keeping.{KeepsBounds}
use Rattle.bus_recording.specs.Recordings.{IsRecording}
use Rattle.bus_recording.specs.Amounts.{AreNext}
use Rattle.bus_recording.specs.Just.{AreWithin, FindingsAreJust}
use Rattle.bus_recording.proofs.Amounts.{gap, in_row, interval, late, near, seen_sender, sync}

module _ (c : Course) (monitor : Monitor) (k from ahead sway : ℕ) (seen : Entry → Seen) (recording : List Seen) (kept bounds : Bounds)
    (keeps : KeepsBounds c kept k from) (within : AreWithin sway kept bounds) (rec : IsRecording c monitor k from ahead sway seen recording) where
  by_gap : (z : Entry) → In z c.list → z.sender ≡ k → IsIn (seen z) recording → IsEarlyByGap bounds monitor 1 recording (seen z) → ⊥
  by_gap z i mine there f =
      let wide : monitor.drop ≤ bounds.short.tg = f.wide in
      let tg : bounds.short.tg + sway ≤ kept.short.tg = within.short_tg in
      let h = (near c monitor k from ahead sway seen recording rec bounds 1 z i mine there f).0 in
      elim (gap c monitor k from ahead sway seen recording rec bounds 1 z kept.short.tg i mine there f
      (keeps.gap z h.other h.first i mine (rec.since z i mine there) h.there h.first_heard h.begun)) [
        | inl much ↦ omega arith
        | inr short ↦ omega arith
      ]

  none_found : (x z : Entry) → AreNext c.list k seen recording x z → HasNoFinding bounds monitor recording (seen x) (seen z)
  none_found x z p =
      let row = in_row c monitor k from ahead sway seen recording rec x z p in
      let since : from ≤ x.moment = rec.since x p.there p.mine p.next.there in
      let over = keeps.early x z row since in
      record {
        by_interval = λ f.
            let ti : bounds.short.ti + sway ≤ kept.short.ti = within.short_ti in
            let passed : x.moment + kept.short.ti ≤ z.moment = over.interval in
            let few : z.moment + 1 ≤ x.moment + bounds.short.ti + sway = interval c monitor k from ahead sway seen recording rec bounds 1 x z p f in
            omega arith;
        by_sync = λ f.
            let wide : monitor.drop + 1 ≤ bounds.short.sg + 1 = f.wide in
            let sg : bounds.short.sg + sway ≤ kept.short.sg = within.short_sg in
            let tg : bounds.short.tg + sway ≤ kept.short.tg = within.short_tg in
            let room : over.elapsed + kept.short.tg ≤ z.moment = over.room in
            elim (sync c monitor k from ahead sway seen recording rec bounds 1 x z kept.short.sg over.elapsed p f over.behind over.synchronized (omega arith)) [
              | inl much ↦ omega arith
              | inr short ↦ omega arith
            ];
        by_gap = by_gap z p.here p.own p.next.here;
        late = λ f.
            let w = late c monitor k from ahead sway seen recording rec bounds kept.long 1 x z p within.long_ti within.long_sg within.long_tg f in
            let early : w.0 + 1 ≤ z.moment = w.1 in
            let started : z.moment ≤ w.0 = keeps.late x z w.0 row since w.2 in
            omega arith;
      }

  pub clean : IsClean bounds monitor recording k
  clean = record {
    next = λ o y n mine.
        let gx = rec.each o n.there in
        let gz = rec.each y n.here in
        let next : IsNext recording (seen gx.0) (seen gz.0) =
        subst (λ v. IsNext recording v (seen gz.0)) gx.2 (subst (λ v. IsNext recording o v) gz.2 n) in
        let ez : (seen gz.0).sender ≡ k = sym (ap (λ (v : Seen). v.sender) gz.2) ∙ mine in
        let p : AreNext c.list k seen recording gx.0 gz.0 = record {
          there = gx.1;
          here = gz.1;
          mine = sym (seen_sender c monitor k from ahead sway seen recording rec gx.0 gx.1) ∙ next.same ∙ ez;
          own = sym (seen_sender c monitor k from ahead sway seen recording rec gz.0 gz.1) ∙ ez;
          next = next;
        } in
        subst (λ v. HasNoFinding bounds monitor recording v y) (sym gx.2)
        (subst (λ v. HasNoFinding bounds monitor recording (seen gx.0) v) (sym gz.2) (none_found gx.0 gz.0 p));
    each = λ y i mine f.
        let gz = rec.each y i in
        let ez : (seen gz.0).sender ≡ k = sym (ap (λ (v : Seen). v.sender) gz.2) ∙ mine in
        by_gap gz.0 gz.1 (sym (seen_sender c monitor k from ahead sway seen recording rec gz.0 gz.1) ∙ ez) (subst (λ v. IsIn v recording) gz.2 i)
        (subst (λ v. IsEarlyByGap bounds monitor 1 recording v) gz.2 f);
  }

pub just : FindingsAreJust
just c monitor k from ahead sway seen recording kept bounds keeps within rec = clean c monitor k from ahead sway seen recording kept bounds keeps within rec
