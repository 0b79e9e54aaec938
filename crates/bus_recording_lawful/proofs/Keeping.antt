-- A sender of a lawful list keeps the bounds of timers that take exactly their lengths.
use Rattle.std.proofs.Common.{◌≡◌, ℕ, ◌+◌, ◌-◌, ◌<◌, ◌≤◌, List, length, Option, Some, inl, inr, arith, sym, refl, ap, ◌∙◌, subst}
use Rattle.std.proofs.lemmas.Bool.{cases_lt}
use Rattle.bus_timers.specs.MayStart.{MayStart, IsSync, IsQuiet as IsStill}
use Rattle.bus_strings.specs.Members.{In}
use Rattle.bus_strings.specs.Messages.{Entry}
use Rattle.bus_medium.specs.Past.{own, past, last_place}
use Rattle.bus_medium.specs.Lawful.{HasEntry, IsDue, IsLawful, Station}
use Rattle.bus_medium.proofs.PastLaws.{length_past, own_later}
use Rattle.bus_clocks.specs.Courses.{IsQuiet}
use Rattle.bus_clocks.specs.Entries.{Entry as Sending}
use Rattle.bus_recording.specs.Keeping.{AreInRow, AreOver, HasBeenQuiet, KeepsBounds}
use Rattle.bus_recording_lawful.specs.Lawful.{bounds_of}
use Rattle.bus_recording_lawful.proofs.Ticks.{course, from_among, from_still, last_is, tick, to_among, to_still}

module _ (quiet : ℕ) (stations : List Station) (s : Station) (horizon : ℕ) (list : List Entry) (law : IsLawful quiet stations horizon list) (there : In s stations)
    (some : 0 < s.timing.sg) where
  due : (x : Entry) → In x list → x.terminal ≡ s.number → IsDue quiet list s x.moment
  due x i mine = (law.exact x.moment s (law.sent x i).0 there).0 (record { entry = x; there = i; moment = refl; terminal = mine })

  len : (t : ℕ) → length (past quiet list t) ≡ quiet + t
  len t = length_past quiet list t

  gap_of : (t : ℕ) (last : Option ℕ) → MayStart s.timing (past quiet list t) last → HasBeenQuiet (course quiet list) s.number s.timing.tg (quiet + t)
  gap_of t last m =
      let e : length (past quiet list t) ≡ quiet + t = len t in
      let fits : s.timing.tg ≤ length (past quiet list t) = m.gap_fits in (
        omega arith,
        subst (λ n. IsQuiet (course quiet list) s.number (n - s.timing.tg) n) e
            (from_still quiet list law.ordered s.number t (length (past quiet list t) - s.timing.tg) (length (past quiet list t)) (omega arith) m.gap),
      )

  over : (x : Entry) (t : ℕ) → MayStart s.timing (past quiet list t) (Some (quiet + x.moment))
      → AreOver (course quiet list) s.number (bounds_of s.timing).short (tick quiet x) (quiet + t)
  over x t m =
      let e : length (past quiet list t) ≡ quiet + t = len t in
      let passed : quiet + x.moment + s.timing.ti ≤ length (past quiet list t) = m.interval in
      let fits : m.synchronized.0 + s.timing.tg ≤ length (past quiet list t) = m.synchronized.1 in
      let sync : IsSync s.timing.sg (past quiet list t) (Some (quiet + x.moment)) m.synchronized.0 = m.synchronized.2 in
      let long : s.timing.sg ≤ m.synchronized.0 = sync.long in
      let behind : quiet + x.moment ≤ m.synchronized.0 - s.timing.sg = sync.own in
      record {
        interval = omega arith;
        elapsed = m.synchronized.0;
        behind = omega arith;
        synchronized = (long, from_still quiet list law.ordered s.number t (m.synchronized.0 - s.timing.sg) m.synchronized.0 (omega arith) sync.quiet);
        room = omega arith;
        gap = gap_of t (Some (quiet + x.moment)) m;
      }

  may : (x : Entry) (t : ℕ) → AreOver (course quiet list) s.number (bounds_of s.timing).long (tick quiet x) (quiet + t)
      → MayStart s.timing (past quiet list t) (Some (quiet + x.moment))
  may x t o =
      let e : length (past quiet list t) ≡ quiet + t = len t in
      let passed : quiet + x.moment + s.timing.ti ≤ quiet + t = o.interval in
      let behind : quiet + x.moment + s.timing.sg ≤ o.elapsed = o.behind in
      let room : o.elapsed + s.timing.tg ≤ quiet + t = o.room in
      record {
        interval = (let goal : quiet + x.moment + s.timing.ti ≤ length (past quiet list t) = omega arith in goal);
        synchronized = (
          o.elapsed,
          omega arith,
          record {
            long = o.synchronized.0;
            quiet = to_still quiet list law.ordered s.number t (o.elapsed - s.timing.sg) o.elapsed (omega arith) (omega arith) o.synchronized.1;
            own = (let goal : quiet + x.moment ≤ o.elapsed - s.timing.sg = omega arith in goal);
          },
        );
        gap_fits = omega arith;
        gap = subst (λ n. IsStill (past quiet list t) (n - s.timing.tg) n) (sym e)
            (to_still quiet list law.ordered s.number t (quiet + t - s.timing.tg) (quiet + t) (omega arith) (omega arith) o.gap.1);
      }

  -- two transmissions in a row, in bit times
  record Row (y w : Sending) : Type 0 where
    x : Entry
    z : Entry
    i : In x list
    j : In z list
    x_is : y ≡ tick quiet x
    z_is : w ≡ tick quiet z
    mine : x.terminal ≡ s.number
    own : z.terminal ≡ s.number
    behind : x.moment < z.moment
    next : (e : Entry) → In e list → e.terminal ≡ s.number → e.moment < z.moment → e.moment ≤ x.moment

  row : (y w : Sending) → AreInRow (course quiet list).list s.number y w → Row y w
  row y w r =
      let x = from_among quiet list y r.there in
      let z = from_among quiet list w r.here in
      let xm : y.moment ≡ quiet + x.0.moment = ap (λ (v : Sending). v.moment) x.2 in
      let zm : w.moment ≡ quiet + z.0.moment = ap (λ (v : Sending). v.moment) z.2 in
      let behind : y.moment < w.moment = r.behind in
      record {
        x = x.0;
        z = z.0;
        i = x.1;
        j = z.1;
        x_is = x.2;
        z_is = z.2;
        mine = sym (ap (λ (v : Sending). v.sender) x.2) ∙ r.mine;
        own = sym (ap (λ (v : Sending). v.sender) z.2) ∙ r.own;
        behind = omega arith;
        next = λ e k its less. (let m : quiet + e.moment ≤ y.moment = r.next (tick quiet e) (to_among quiet list e k) its (let l : quiet + e.moment < w.moment = omega arith in l) in omega arith);
      }

  early : (y w : Sending) → AreInRow (course quiet list).list s.number y w → AreOver (course quiet list) s.number (bounds_of s.timing).short y w.moment
  early y w r =
      let p = row y w r in
      let m = subst (MayStart s.timing (past quiet list p.z.moment)) (last_is quiet list law.ordered s.number p.z.moment p.x p.i p.mine p.behind p.next) (due p.z p.j p.own).may in
      subst (λ v. AreOver (course quiet list) s.number (bounds_of s.timing).short v w.moment) (sym p.x_is)
      (subst (λ t. AreOver (course quiet list) s.number (bounds_of s.timing).short (tick quiet p.x) t) (sym (ap (λ (v : Sending). v.moment) p.z_is)) (over p.x p.z.moment m))

  -- no start is missing between two in a row
  missing : (y w : Sending) (p : Row y w) (t : ℕ) → p.x.moment < t → t < p.z.moment → MayStart s.timing (past quiet list t) (Some (quiet + p.x.moment)) → ⊥
  missing y w p t low high m =
      let d : IsDue quiet list s p.z.moment = due p.z p.j p.own in
      let same : own list s.number p.z.moment ≡ own list s.number t =
      own_later list s.number t p.z.moment (omega arith) (λ e k its from' to. (let last : e.moment ≤ p.x.moment = p.next e k its to in omega arith)) in
      let place : last_place quiet (own list s.number t) ≡ Some (quiet + p.x.moment) =
      last_is quiet list law.ordered s.number t p.x p.i p.mine low (λ e k its less. p.next e k its (omega arith)) in
      let below : p.z.moment < horizon = (law.sent p.z p.j).0 in
      let e : HasEntry list s.number t = (law.exact t s (omega arith) there).1 (record {
        may = subst (MayStart s.timing (past quiet list t)) (sym place) m;
        left = subst (λ l. length l < length s.hand) same d.left;
      }) in
      let at : e.entry.moment ≡ t = e.moment in
      let last : e.entry.moment ≤ p.x.moment = p.next e.entry e.there e.terminal (omega arith) in
      omega arith

  late : (y w : Sending) (t : ℕ) → AreInRow (course quiet list).list s.number y w → AreOver (course quiet list) s.number (bounds_of s.timing).long y t → w.moment ≤ t
  late y w t r o = elim (cases_lt t w.moment) [
    | inr fine ↦ fine
    | inl sooner ↦
        let p = row y w r in
        let xm : y.moment ≡ quiet + p.x.moment = ap (λ (v : Sending). v.moment) p.x_is in
        let zm : w.moment ≡ quiet + p.z.moment = ap (λ (v : Sending). v.moment) p.z_is in
        let behind : y.moment + s.timing.sg ≤ o.elapsed = o.behind in
        let room : o.elapsed + s.timing.tg ≤ t = o.room in
        let e : t ≡ quiet + (t - quiet) = omega arith in
        absurd (missing y w p (t - quiet) (omega arith) (omega arith)
        (may p.x (t - quiet)
        (subst (λ v. AreOver (course quiet list) s.number (bounds_of s.timing).long v (quiet + (t - quiet))) p.x_is
        (subst (λ u. AreOver (course quiet list) s.number (bounds_of s.timing).long y u) e o))))
  ]

  pub keeps : KeepsBounds (course quiet list) (bounds_of s.timing) s.number 0
  keeps = record {
    gap = λ w v t i self since j heard before.
        let z = from_among quiet list w i in
        let its : z.0.terminal ≡ s.number = sym (ap (λ (v : Sending). v.sender) z.2) ∙ self in
        subst (λ t. HasBeenQuiet (course quiet list) s.number s.timing.tg t) (sym (ap (λ (v : Sending). v.moment) z.2))
        (gap_of z.0.moment (last_place quiet (own list s.number z.0.moment)) (due z.0 z.1 its).may);
    early = λ y w r since. early y w r;
    late = λ y w t r since o. late y w t r o;
  }
