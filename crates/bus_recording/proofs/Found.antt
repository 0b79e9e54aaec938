-- Why great faults are found.
use Rattle.std.proofs.Common.{◌≡◌, ℕ, ◌+◌, ◌-◌, ◌<◌, ◌≤◌, List, inl, inr, arith, sym, refl, ap, ◌∙◌, subst}
use Rattle.std.proofs.lemmas.Bool.{cases_lt, cases_eq}
use Rattle.bus_clocks.specs.Entries.{Entry, In, end_of}
use Rattle.bus_clocks.specs.Courses.{Course, IsQuiet}
use Rattle.bus_recording.specs.Seen.{Monitor, Seen}
use Rattle.bus_recording.specs.Findings.{IsQuietForCertain}
use Rattle.bus_recording.specs.Found.{IsSteady, LateStartIsFound, PlacedIsSteady, ShortGapIsFound, ShortIntervalIsFound, ShortSyncIsFound}
use Rattle.bus_recording.proofs.Quiet.{quiet_behind}
use Rattle.bus_recording.proofs.Recorded.{placed}

pub placed_steady : PlacedIsSteady
placed_steady c k from away reach drop start longest settled arrives recording p near f done since = record {
  kept = placed c k from away reach drop start longest settled arrives recording p near f done since;
  exact = λ x i. refl;
}

pub interval_found : ShortIntervalIsFound
interval_found c monitor k from ahead n seen recording bounds x z s p less =
    let a : x.moment + ahead ≤ (seen x).moment + 0 = (s.kept.own x p.there p.mine).begun in
    let b : (seen z).moment ≤ z.moment + ahead = (s.kept.own z p.here p.own).begins in
    omega arith

pub gap_found : ShortGapIsFound
gap_found c monitor k from ahead n seen recording bounds z b t s i own wide h far near =
    let q = s.kept.others h.other h.there h.foreign in
    let begins : (seen h.other).moment ≤ b + ahead = (q.within b h.one).0 in
    let ended : t + ahead < (seen h.other).latest + monitor.rest + 0 = (q.within t h.two).1 in
    let same : (seen h.other).soonest ≡ (seen h.other).latest = s.exact h.other h.there in
    let zb : (seen z).moment ≤ z.moment + ahead = (s.kept.own z i own).begins in
    let ze : z.moment + ahead ≤ (seen z).moment + 0 = (s.kept.own z i own).begun in
    record { wide = wide; other = seen h.other; there = h.recorded; begun = inl (omega arith); early = omega arith }

pub sync_found : ShortSyncIsFound
sync_found c monitor k from ahead n seen recording bounds x z s p wide full = record {
  wide = wide;
  met = λ a length short own fits.
      let xe : end_of x + ahead ≤ (seen x).latest + 0 = (s.kept.own x p.there p.mine).ended in
      let xs : (seen x).soonest ≡ (seen x).latest = s.exact x p.there in
      let zb : (seen z).moment ≤ z.moment + ahead = (s.kept.own z p.here p.own).begins in
      let w = full (a - ahead) length short (omega arith) (omega arith) in
      let from' : a - ahead + monitor.rest ≤ w.0 = w.1 in
      let to : w.0 + monitor.reach < a - ahead + length = w.2 in
      let h = w.3 in
      let q = s.kept.others h.other h.there h.foreign in
      let begins : (seen h.other).moment ≤ w.0 + ahead = (q.within w.0 h.one).0 in
      let ended : w.0 + ahead < (seen h.other).latest + monitor.rest + 0 = (q.within w.0 h.two).1 in
      let same : (seen h.other).soonest ≡ (seen h.other).latest = s.exact h.other h.there in
      record {
        other = seen h.other;
        there = h.recorded;
        foreign = λ e. h.foreign (sym q.sender ∙ e ∙ (s.kept.own z p.here p.own).sender ∙ p.own);
        begun = omega arith;
        ended = omega arith;
      };
}

-- quiet that is heard for long enough is quiet for certain without `rest` before it and the reach behind it
quiet_found : (c : Course) (monitor : Monitor) (k from ahead : ℕ) (seen : Entry → Seen) (recording : List Seen) (x : Entry) (a b : ℕ)
    → IsSteady c monitor k from ahead seen recording → In x c.list → x.sender ≡ k → monitor.rest ≤ a → a + monitor.drop ≤ b
    → end_of x ≤ a → monitor.settled ≤ a + ahead → IsQuiet c k (a - monitor.rest) (b + monitor.reach)
    → IsQuietForCertain monitor recording (seen x) (a + ahead) (b + ahead)
quiet_found c monitor k from ahead seen recording x a b s i mine low long own over quiet =
    let xs : (seen x).soonest ≡ (seen x).latest = s.exact x i in
    let xe : (seen x).soonest ≤ end_of x + ahead = (s.kept.own x i mine).ends in
    record {
      recorded = over;
      own = omega arith;
      others = λ r there.
          let g = s.kept.each r there in
          let w = g.0 in
          let rm : r.moment ≡ (seen w).moment = ap (λ (v : Seen). v.moment) g.2 in
          let rl : r.latest ≡ (seen w).latest = ap (λ (v : Seen). v.latest) g.2 in
          let same : (seen w).soonest ≡ (seen w).latest = s.exact w g.1 in
          elim (cases_eq w.sender k) [
            | inl its ↦
                let ear = s.kept.itself w g.1 its in
                let soon : ear.first ≤ w.moment + 0 = ear.first_soon in
                let late : end_of w ≤ ear.last + 1 = ear.last_late in
                let begun : w.moment + ahead ≤ (seen w).moment + 0 = (s.kept.own w g.1 its).begun in
                let ends : (seen w).soonest ≤ end_of w + ahead = (s.kept.own w g.1 its).ends in
                elim (cases_lt ear.first (b + monitor.reach)) [
                  | inl near ↦
                      let gone : ear.last + 1 ≤ a - monitor.rest =
                      quiet_behind c k monitor.drop w ear.first ear.last (a - monitor.rest) (b + monitor.reach) g.1 ear.first_heard ear.filled (omega arith) quiet near in
                      inr (inr (omega arith))
                  | inr far ↦ inr (inl (omega arith))
                ]
            | inr foreign ↦
                let q = s.kept.others w g.1 foreign in
                let begun : q.first + ahead ≤ (seen w).moment + monitor.reach = q.first_soon in
                let ends : (seen w).soonest ≤ q.last + 1 + ahead = q.last_late in
                elim (cases_lt q.first (b + monitor.reach)) [
                  | inl near ↦
                      let gone : q.last + 1 ≤ a - monitor.rest =
                      quiet_behind c k monitor.drop w q.first q.last (a - monitor.rest) (b + monitor.reach) g.1 q.first_heard q.filled (omega arith) quiet near in
                      inr (inr (omega arith))
                  | inr far ↦ inr (inl (omega arith))
                ]
          ];
    }

pub late_found : LateStartIsFound
late_found c monitor k from ahead n seen recording bounds x z elapsed t s p wide_sg wide_tg before interval own over low room sync tail =
    let xb : (seen x).moment ≤ x.moment + ahead = (s.kept.own x p.there p.mine).begins in
    let ze : z.moment + ahead ≤ (seen z).moment + 0 = (s.kept.own z p.here p.own).begun in
    record {
      due = t + ahead;
      early = omega arith;
      over = record {
        interval = omega arith;
        elapsed = elapsed + ahead;
        fits = omega arith;
        synchronized = subst (λ v. IsQuietForCertain monitor recording (seen x) v (elapsed + ahead))
            (let e : elapsed - bounds.long.sg + ahead ≡ elapsed + ahead - bounds.long.sg = omega arith in e)
            (quiet_found c monitor k from ahead seen recording x (elapsed - bounds.long.sg) elapsed s p.there p.mine (omega arith) (omega arith) (omega arith) (omega arith) sync);
        room = omega arith;
        gap = subst (λ v. IsQuietForCertain monitor recording (seen x) v (t + ahead))
            (let e : t - bounds.long.tg + ahead ≡ t + ahead - bounds.long.tg = omega arith in e)
            (quiet_found c monitor k from ahead seen recording x (t - bounds.long.tg) t s p.there p.mine (omega arith) (omega arith) (omega arith) (omega arith) tail);
      };
    }
