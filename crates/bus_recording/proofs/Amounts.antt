-- Why the amounts are true.
use Rattle.std.proofs.Common.{◌≡◌, ◌≢◌, ◌⊎◌, ℕ, ◌+◌, ◌-◌, ◌<◌, ◌≤◌, true, false, List, inl, inr, arith, sym, ◌∙◌}
use Rattle.std.proofs.lemmas.Bool.{cases_lt, cases_eq}
use Rattle.bus_clocks.specs.Entries.{Entry, In, end_of}
use Rattle.bus_clocks.specs.Courses.{Course, carrier}
use Rattle.bus_recording.specs.Seen.{Bounds, IsIn, Monitor, Seen, Timers}
use Rattle.bus_recording.specs.Findings.{IsEarlyByGap, IsEarlyByInterval, IsEarlyBySync, IsLate, IsMet, IsQuietForCertain}
use Rattle.bus_recording.specs.Keeping.{AreInRow, AreOver, HasBeenQuiet}
use Rattle.bus_recording.specs.Recordings.{IsRecording}
use Rattle.bus_recording.specs.Amounts.{AreNext, GapIsNear, GapIsTrue, HasHeardNear, IntervalIsExact, IntervalIsTrue, LateIsTrue, NextAreInRow, SyncIsTrue}
use Rattle.bus_recording.proofs.Parts.{same_latest, same_moment, same_sender, same_soonest}
use Rattle.bus_recording.proofs.Quiet.{hush, quiet_behind}

module _ (c : Course) (monitor : Monitor) (k from ahead sway : ℕ) (seen : Entry → Seen) (recording : List Seen) (rec : IsRecording c monitor k from ahead sway seen recording) where
  -- what is recorded behind was sent behind
  sent_before : (x z : Entry) → In x c.list → In z c.list → x.sender ≡ k → z.sender ≡ k → IsIn (seen z) recording → (seen x).moment < (seen z).moment → x.moment < z.moment
  sent_before x z i j e f there less =
      elim (cases_lt x.moment z.moment) [
        | inl done ↦ done
        | inr back ↦ elim (cases_lt z.moment x.moment) [
          | inl strict ↦ (let w = rec.order z x j i f e strict there in let low : (seen z).moment < (seen x).moment = w.1 in absurd (omega arith))
          | inr other ↦ (let same : (seen x).moment ≡ (seen z).moment = rec.together x z i j e f (omega arith) in absurd (omega arith))
        ]
      ]

  pub seen_sender : (x : Entry) → In x c.list → (seen x).sender ≡ x.sender
  seen_sender x i = elim (cases_eq x.sender k) [ inl mine ↦ (rec.own x i mine).sender | inr foreign ↦ (rec.others x i foreign).sender ]

  pub in_row : (x z : Entry) → AreNext c.list k seen recording x z → AreInRow c.list k x z
  in_row x z p = record {
    there = p.there;
    here = p.here;
    mine = p.mine;
    own = p.own;
    behind = sent_before x z p.there p.here p.mine p.own p.next.here p.next.behind;
    next = λ y i e before. elim (cases_lt x.moment y.moment) [
      | inr fine ↦ fine
      | inl between ↦
          let w = rec.order x y p.there i p.mine e between p.next.there in
          let v = rec.order y z i p.here e p.own before w.0 in
          let low : (seen x).moment < (seen y).moment = w.1 in
          let high : (seen y).moment < (seen z).moment = v.1 in
          let far : (seen z).moment ≤ (seen y).moment = p.next.next (seen y) w.0 (seen_sender y i ∙ e ∙ sym p.own ∙ sym (seen_sender z p.here)) low in
          absurd (omega arith)
    ];
  }

  pub interval : (bounds : Bounds) (n : ℕ) (x z : Entry) → AreNext c.list k seen recording x z → IsEarlyByInterval bounds n (seen x) (seen z)
      → z.moment + n ≤ x.moment + bounds.short.ti + sway
  interval bounds n x z p f =
      let a : (seen x).moment ≤ x.moment + ahead = (rec.own x p.there p.mine).begins in
      let b : z.moment + ahead ≤ (seen z).moment + sway = (rec.own z p.here p.own).begun in
      let d : (seen z).moment + n ≤ (seen x).moment + bounds.short.ti = f in
      omega arith

  -- the transmission that is found to be near
  pub near : (bounds : Bounds) (n : ℕ) (z : Entry) → In z c.list → z.sender ≡ k → IsIn (seen z) recording → IsEarlyByGap bounds monitor n recording (seen z)
      → (heard : HasHeardNear c k (bounds.short.tg + sway) n z)
      × ((t : ℕ) → heard.first ≤ t → t ≤ heard.last → (u : ℕ) × (t ≤ u) × (u < t + monitor.drop) × (c.hears heard.other k u ≡ true))
  near bounds n z i mine there f =
      let o = rec.own z i mine in
      let begins : (seen z).moment ≤ z.moment + ahead = o.begins in
      let begun : z.moment + ahead ≤ (seen z).moment + sway = o.begun in
      let early : (seen z).moment + n ≤ f.other.soonest + bounds.short.tg = f.early in
      let g = rec.each f.other f.there in
      let w = g.0 in
      let rm : f.other.moment ≡ (seen w).moment = same_moment f.other (seen w) g.2 in
      let rs : f.other.soonest ≡ (seen w).soonest = same_soonest f.other (seen w) g.2 in
      let rt : f.other.sender ≡ (seen w).sender = same_sender f.other (seen w) g.2 in
      elim (cases_eq w.sender k) [
        | inl own ↦
            let less : f.other.moment < (seen z).moment = elim f.begun [ inl far ↦ omega arith | inr near' ↦ near'.1 ] in
            let before : w.moment < z.moment = sent_before w z g.1 i own mine there (omega arith) in
            let ear = rec.itself w g.1 own in
            let soon : ear.first ≤ w.moment + 0 = ear.first_soon in
            let late : end_of w ≤ ear.last + 1 = ear.last_late in
            let ends : (seen w).soonest ≤ end_of w + ahead = (rec.own w g.1 own).ends in (
              record { other = w; there = g.1; first = ear.first; last = ear.last; first_heard = ear.first_heard; last_heard = ear.last_heard; begun = omega arith; near = omega arith },
              ear.filled,
            )
        | inr foreign ↦
            let q = rec.others w g.1 foreign in
            let far : f.other.moment + monitor.reach < (seen z).moment = elim f.begun [
              | inl far ↦ far
              | inr near' ↦ absurd (foreign (sym q.sender ∙ sym rt ∙ near'.0 ∙ o.sender ∙ mine))
            ] in
            let soon : q.first + ahead ≤ (seen w).moment + monitor.reach = q.first_soon in
            let late : (seen w).soonest ≤ q.last + 1 + ahead = q.last_late in (
              record { other = w; there = g.1; first = q.first; last = q.last; first_heard = q.first_heard; last_heard = q.last_heard; begun = omega arith; near = omega arith },
              q.filled,
            )
      ]

  pub gap : (bounds : Bounds) (n : ℕ) (z : Entry) (quiet : ℕ) → In z c.list → z.sender ≡ k → IsIn (seen z) recording
      → IsEarlyByGap bounds monitor n recording (seen z) → HasBeenQuiet c k quiet z.moment → (quiet + n ≤ bounds.short.tg + sway) ⊎ (quiet < monitor.drop)
  gap bounds n z quiet i mine there f been =
      let w = near bounds n z i mine there f in
      let h = w.0 in
      let begun : h.first < z.moment = h.begun in
      let close : z.moment + n ≤ h.last + 1 + (bounds.short.tg + sway) = h.near in
      let fits : quiet ≤ z.moment = been.0 in
      elim (cases_lt quiet monitor.drop) [
        | inl short ↦ inr short
        | inr long ↦
            let behind : h.last + 1 ≤ z.moment - quiet =
            quiet_behind c k monitor.drop h.other h.first h.last (z.moment - quiet) z.moment h.there h.first_heard w.1 (omega arith) been.1 begun in
            inl (omega arith)
      ]

  -- who is met in a stretch
  who_is_met : (z : Entry) → In z c.list → z.sender ≡ k → (a b : ℕ) → IsMet monitor recording (seen z).sender a b
      → (w : Entry) × In w c.list × (w.sender ≢ k) × ((seen w).moment + monitor.reach < b) × (a < (seen w).soonest)
  who_is_met z i mine a b met =
      let g = rec.each met.other met.there in
      let rm : met.other.moment ≡ (seen g.0).moment = same_moment met.other (seen g.0) g.2 in
      let rs : met.other.soonest ≡ (seen g.0).soonest = same_soonest met.other (seen g.0) g.2 in
      let begun : met.other.moment + monitor.reach < b = met.begun in
      let ended : a < met.other.soonest = met.ended in (
        g.0,
        g.1,
        λ own. met.foreign (same_sender met.other (seen g.0) g.2 ∙ (rec.own g.0 g.1 own).sender ∙ own ∙ sym mine ∙ sym (rec.own z i mine).sender),
        omega arith,
        omega arith,
      )

  pub sync : (bounds : Bounds) (n : ℕ) (x z : Entry) (quiet t : ℕ) → AreNext c.list k seen recording x z
      → IsEarlyBySync bounds monitor n recording (seen x) (seen z) → x.moment + quiet ≤ t → HasBeenQuiet c k quiet t
      → t + bounds.short.tg + sway ≤ z.moment → (quiet + n ≤ bounds.short.sg + sway) ⊎ (quiet < monitor.drop)
  sync bounds n x z quiet t p f behind been room =
      elim (cases_lt quiet monitor.drop) [
        | inl short ↦ inr short
        | inr long ↦ elim (cases_lt (bounds.short.sg + sway) (quiet + n)) [
          | inr fine ↦ inl fine
          | inl much ↦
              let wide : monitor.drop + n ≤ bounds.short.sg + 1 = f.wide in
              let ear = rec.itself x p.there p.mine in
              let soon : ear.first ≤ x.moment + 0 = ear.first_soon in
              let late : end_of x ≤ ear.last + 1 = ear.last_late in
              let fits : quiet ≤ t = been.0 in
              let last : ear.last + 1 ≤ t - quiet = elim (cases_lt 0 quiet) [
                | inl some ↦ quiet_behind c k monitor.drop x ear.first ear.last (t - quiet) t p.there ear.first_heard ear.filled (omega arith) been.1 (omega arith)
                | inr none ↦
                    let low : x.moment ≤ ear.last = (ear.within ear.last ear.last_heard).0 in
                    let w = ear.filled ear.first (omega arith) (omega arith) in
                    let from' : ear.first ≤ w.0 = w.1 in
                    let to : w.0 < ear.first + monitor.drop = w.2 in
                    absurd (omega arith)
              ] in
              let ends : (seen x).soonest ≤ end_of x + ahead = (rec.own x p.there p.mine).ends in
              let begun : z.moment + ahead ≤ (seen z).moment + sway = (rec.own z p.here p.own).begun in
              let m = who_is_met z p.here p.own (t - quiet + ahead) (t - quiet + ahead + quiet) (f.met (t - quiet + ahead) quiet (omega arith) (omega arith) (omega arith)) in
              let q = rec.others m.0 m.1 m.2 in
              let first : q.first + ahead ≤ (seen m.0).moment + monitor.reach = q.first_soon in
              let near : (seen m.0).moment + monitor.reach < t - quiet + ahead + quiet = m.3 in
              let far : t - quiet + ahead < (seen m.0).soonest = m.4 in
              let gone : q.last + 1 ≤ t - quiet =
              quiet_behind c k monitor.drop m.0 q.first q.last (t - quiet) t m.1 q.first_heard q.filled (omega arith) been.1 (omega arith) in
              let over : (seen m.0).soonest ≤ q.last + 1 + ahead = q.last_late in
              absurd (omega arith)
        ]
      ]

  -- what is quiet for certain is quiet
  pub certain : (x : Entry) (a b t : ℕ) → IsQuietForCertain monitor recording (seen x) a b → x.sender ≡ k → In x c.list → a + sway ≤ t + ahead → t + ahead < b
      → carrier c k t ≡ false
  certain x a b t q mine i low high =
      let recorded : monitor.settled ≤ a = q.recorded in
      let last_end : (seen x).latest ≤ a = q.own in
      hush c k t (λ loud.
      let h = rec.whole t loud (omega arith) in
      let w = h.0 in
      elim (cases_eq w.sender k) [
        | inl own ↦
            let ear = rec.itself w h.1 own in
            let o = rec.own w h.1 own in
            let n = ear.within t h.2 in
            let from' : w.moment ≤ t = n.0 in
            let to : t < end_of w + 0 = n.1 in
            let begins : (seen w).moment ≤ w.moment + ahead = o.begins in
            let ended : end_of w + ahead ≤ (seen w).latest + sway = o.ended in
            elim (q.others (seen w) h.3) [
              | inl same ↦ (let e : (seen w).latest ≡ (seen x).latest = same_latest (seen w) (seen x) same in omega arith)
              | inr apart ↦ elim apart [ inl behind ↦ omega arith | inr before ↦ omega arith ]
            ]
        | inr foreign ↦
            let o = rec.others w h.1 foreign in
            let n = o.within t h.2 in
            let from' : (seen w).moment ≤ t + ahead = n.0 in
            let to : t + ahead < (seen w).latest + monitor.rest + sway = n.1 in
            elim (q.others (seen w) h.3) [
              | inl same ↦ foreign (sym o.sender ∙ same_sender (seen w) (seen x) same ∙ (rec.own x i mine).sender ∙ mine)
              | inr apart ↦ elim apart [ inl behind ↦ omega arith | inr before ↦ omega arith ]
            ]
      ])

  pub late : (bounds : Bounds) (long : Timers) (n : ℕ) (x z : Entry) → AreNext c.list k seen recording x z
      → long.ti + sway ≤ bounds.long.ti → long.sg + sway ≤ bounds.long.sg → long.tg + sway ≤ bounds.long.tg
      → IsLate bounds monitor n recording (seen x) (seen z) → (t : ℕ) × (t + n ≤ z.moment) × AreOver c k long x t
  late bounds long n x z p ti sg tg f =
      let ox = rec.own x p.there p.mine in
      let oz = rec.own z p.here p.own in
      let early : f.due + n ≤ (seen z).moment = f.early in
      let zb : (seen z).moment ≤ z.moment + ahead = oz.begins in
      let xb : x.moment + ahead ≤ (seen x).moment + sway = ox.begun in
      let xe : end_of x + ahead ≤ (seen x).latest + sway = ox.ended in
      let over = f.over in
      let passed : (seen x).moment + bounds.long.ti ≤ f.due = over.interval in
      let fits : bounds.long.sg ≤ over.elapsed = over.fits in
      let room : over.elapsed + bounds.long.tg ≤ f.due = over.room in
      let s_own : (seen x).latest ≤ over.elapsed - bounds.long.sg = over.synchronized.own in
      let g_own : (seen x).latest ≤ f.due - bounds.long.tg = over.gap.own in (
        f.due - ahead,
        omega arith,
        record {
          interval = omega arith;
          elapsed = over.elapsed - ahead;
          behind = omega arith;
          synchronized = (omega arith, λ t low high. certain x (over.elapsed - bounds.long.sg) over.elapsed t over.synchronized p.mine p.there (omega arith) (omega arith));
          room = omega arith;
          gap = (omega arith, λ t low high. certain x (f.due - bounds.long.tg) f.due t over.gap p.mine p.there (omega arith) (omega arith));
        },
      )

pub next_in_row : NextAreInRow
next_in_row c monitor k from ahead sway seen recording x z rec = in_row c monitor k from ahead sway seen recording rec x z

pub interval_true : IntervalIsTrue
interval_true c monitor k from ahead sway seen recording bounds n x z rec = interval c monitor k from ahead sway seen recording rec bounds n x z

pub interval_exact : IntervalIsExact
interval_exact c monitor k from ahead seen recording bounds n x z rec p f =
    let a : (seen x).moment ≤ x.moment + ahead = (rec.own x p.there p.mine).begins in
    let a' : x.moment + ahead ≤ (seen x).moment + 0 = (rec.own x p.there p.mine).begun in
    let b : (seen z).moment ≤ z.moment + ahead = (rec.own z p.here p.own).begins in
    let b' : z.moment + ahead ≤ (seen z).moment + 0 = (rec.own z p.here p.own).begun in
    let so : (seen z).moment + n ≤ (seen x).moment + bounds.short.ti = f.so in
    elim (cases_lt ((seen z).moment + n) ((seen x).moment + bounds.short.ti)) [
      | inl less ↦ (let more : n + 1 ≤ n = f.most (n + 1) (omega arith) in absurd (omega arith))
      | inr fine ↦ omega arith
    ]

pub gap_near : GapIsNear
gap_near c monitor k from ahead sway seen recording bounds n z rec i mine there f = (near c monitor k from ahead sway seen recording rec bounds n z i mine there f).0

pub gap_true : GapIsTrue
gap_true c monitor k from ahead sway seen recording bounds n z quiet rec = gap c monitor k from ahead sway seen recording rec bounds n z quiet

pub sync_true : SyncIsTrue
sync_true c monitor k from ahead sway seen recording bounds n x z quiet t rec = sync c monitor k from ahead sway seen recording rec bounds n x z quiet t

pub late_true : LateIsTrue
late_true c monitor k from ahead sway seen recording bounds long n x z rec = late c monitor k from ahead sway seen recording rec bounds long n x z
