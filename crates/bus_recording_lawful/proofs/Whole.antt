-- Why what is lawful is what is told, and how each begins and ends.
use Rattle.std.proofs.Common.{◌≡◌, ℕ, ◌+◌, ◌<◌, ◌≤◌, List, length, inl, inr, arith, sym, refl, ap, ◌∙◌, subst}
use Rattle.std.proofs.lemmas.Bool.{cases_lt}
use Rattle.std.proofs.lemmas.Option.{slice_get_within}
use Rattle.bus_strings.specs.Limits.{inner_gap}
use Rattle.bus_strings.specs.Members.{In}
use Rattle.bus_strings.specs.Messages.{Entry}
use Rattle.bus_strings.specs.Transmissions.{IsAscending, end_of}
use Rattle.bus_medium.specs.Lawful.{HasEntry, IsDue, IsLawful, IsNext as IsHeld, Station}
use Rattle.bus_medium.specs.Past.{own}
use Rattle.bus_medium.proofs.PastLaws.{own_later}
use Rattle.bus_recording.specs.Seen.{IsIn, IsNext, Seen}
use Rattle.bus_recording.specs.Findings.{IsClean}
use Rattle.bus_recording.specs.Monitors.{monitor_of}
use Rattle.bus_recording_lawful.specs.Lawful.{AreOwnInRow, CleanStartIsAllowed, LawfulIsClean, MayAt, bounds_of, recorded, seen}
use Rattle.bus_recording_lawful.specs.Whole.{BeginsInTime, EndsInTime, IsToldLawful, LawfulIsTold}
use Rattle.bus_recording_lawful.proofs.Firsts.{First, first_from, last_before}
use Rattle.bus_recording_lawful.proofs.Local.{all, each, is_now}

-- ---- what is told is lawful

module _ (allowed : CleanStartIsAllowed) (quiet : ℕ) (list : List Entry) (ordered : IsAscending list) (some : (x : Entry) → In x list → 0 < length x.message)
    (s : Station) (sg : inner_gap < s.timing.sg) (tg : inner_gap < s.timing.tg)
    (clean : IsClean (bounds_of s.timing) (monitor_of 0 (inner_gap + 1) 0) (recorded 0 list) s.number) where
  is_there : (x : Entry) → In x list → IsIn (seen x) (recorded 0 list)
  is_there x i = subst (λ v. IsIn v (recorded 0 list)) (is_now x) (all list x i)

  apart : (y w : Entry) → In y list → In w list → y.terminal ≡ s.number → w.terminal ≡ s.number → y.moment < w.moment → end_of y ≤ w.moment
  apart y w i j mine own' less = elim (cases_lt w.moment (end_of y)) [
    | inr fine ↦ fine
    | inl over ↦ absurd (clean.each (seen w) (is_there w j) own' (record {
      wide = omega arith;
      other = seen y;
      there = is_there y i;
      begun = inr (mine ∙ sym own', less);
      early = omega arith;
    }))
  ]

  row : (x z : Entry) → In x list → In z list → x.terminal ≡ s.number → z.terminal ≡ s.number → x.moment < z.moment
      → ((y : Entry) → In y list → y.terminal ≡ s.number → y.moment < z.moment → y.moment ≤ x.moment) → AreOwnInRow list s.number x z
  row x z i j mine own' less next = record {
    ordered = ordered;
    some = some;
    apart = apart;
    there = i;
    here = j;
    mine = mine;
    own = own';
    behind = less;
    next = next;
  }

  told : (x z : Entry) → AreOwnInRow list s.number x z
      → MayAt s.timing quiet list s.number z.moment × ((t : ℕ) → x.moment < t → t < z.moment → MayAt s.timing quiet list s.number t → ⊥)
  told x z r =
      let next : IsNext (recorded 0 list) (seen x) (seen z) = record {
        there = is_there x r.there;
        here = is_there z r.here;
        same = r.mine ∙ sym r.own;
        behind = r.behind;
        next = λ q i e less.
            let g = each list q i in
            let at : q ≡ seen g.0 = g.2 ∙ is_now g.0 in
            let m : q.moment ≡ g.0.moment = ap (λ (v : Seen). v.moment) at in
            elim (cases_lt g.0.moment z.moment) [
              | inr fine ↦ (let goal : z.moment ≤ q.moment = omega arith in goal)
              | inl sooner ↦
                  let k : g.0.moment ≤ x.moment = r.next g.0 g.1 (sym (ap (λ (v : Seen). v.sender) at) ∙ e ∙ r.own) sooner in
                  let l : x.moment < q.moment = less in
                  absurd (omega arith)
            ];
      } in
      (allowed s.timing quiet list s.number x z r sg tg).0 (clean.next (seen x) (seen z) next r.own)

  module _ (begins : BeginsInTime quiet list s) where
    may : (z : Entry) → In z list → z.terminal ≡ s.number → MayAt s.timing quiet list s.number z.moment
    may z j own' = elim (last_before list s.number z.moment) [
      | inr l ↦ (told l.x z (row l.x z l.there j l.mine own' l.before l.last)).0
      | inl none ↦ (begins z j own' (λ y i mine. elim (cases_lt y.moment z.moment) [ inl less ↦ absurd (none y i mine less) | inr fine ↦ fine ])).0
    ]

    -- where it may start, and will once more, it starts
    at_once : (t : ℕ) → MayAt s.timing quiet list s.number t → (f : First list s.number t) → HasEntry list s.number t
    at_once t m f =
        let from : t ≤ f.z.moment = f.from in
        elim (cases_lt t f.z.moment) [
          | inr fine ↦ record { entry = f.z; there = f.there; moment = omega arith; terminal = f.mine }
          | inl later ↦ elim (last_before list s.number t) [
            | inr l ↦
                let before : l.x.moment < t = l.before in
                absurd ((told l.x f.z (row l.x f.z l.there f.there l.mine f.mine (omega arith) (λ y i mine less. elim (cases_lt y.moment t) [
                  | inl low ↦ l.last y i mine low
                  | inr high ↦ (let k : f.z.moment ≤ y.moment = f.first y i mine high in absurd (omega arith))
                ]))).1 t before later m)
            | inl none ↦ absurd ((begins f.z f.there f.mine (λ y i mine. elim (cases_lt y.moment t) [
              | inl low ↦ absurd (none y i mine low)
              | inr high ↦ f.first y i mine high
            ])).1 t later m)
          ]
        ]

-- ---- what is lawful is told

module _ (quiet : ℕ) (stations : List Station) (horizon : ℕ) (list : List Entry) (law : IsLawful quiet stations horizon list) (s : Station) (there : In s stations) where
  due : (z : Entry) → In z list → z.terminal ≡ s.number → IsDue quiet list s z.moment
  due z i mine = (law.exact z.moment s (law.sent z i).0 there).0 (record { entry = z; there = i; moment = refl; terminal = mine })

  begins : BeginsInTime quiet list s
  begins z i mine first = (
    (due z i mine).may,
    λ t less m.
        let d : IsDue quiet list s z.moment = due z i mine in
        let same : own list s.number z.moment ≡ own list s.number t =
        own_later list s.number t z.moment (omega arith) (λ e k its from to. (let l : z.moment ≤ e.moment = first e k its in omega arith)) in
        let below : z.moment < horizon = (law.sent z i).0 in
        let e : HasEntry list s.number t =
        (law.exact t s (omega arith) there).1 (record { may = m; left = subst (λ l. length l < length s.hand) same d.left }) in
        let at : e.entry.moment ≡ t = e.moment in
        let l : z.moment ≤ e.entry.moment = first e.entry e.there e.terminal in
        omega arith,
  )

  ends : EndsInTime quiet horizon list s
  ends t below over left m =
      let e : HasEntry list s.number t = (law.exact t s below there).1 (record { may = m; left = left }) in
      let at : e.entry.moment ≡ t = e.moment in
      let l : e.entry.moment < t = over e.entry e.there e.terminal in
      omega arith

pub lawful_told : LawfulIsClean → CleanStartIsAllowed → LawfulIsTold
lawful_told lawful allowed quiet stations horizon list ordered once sent some long = (
  λ law s there. record {
    clean = lawful quiet stations s horizon 0 0 0 list law there some (long s there).0 (long s there).1
        (record { most = λ x i low. absurd (omega arith); over = omega arith });
    begins = begins quiet stations horizon list law s there;
    ends = ends quiet stations horizon list law s there;
  },
  λ told. record {
    ordered = ordered;
    sent = sent;
    exact = λ t s below there.
        let w : IsToldLawful quiet horizon list s = told s there in (
          λ e.
              let at : e.entry.moment ≡ t = e.moment in
              let h : IsHeld stations list e.entry = (sent e.entry e.there).1 in
              let same : h.sender ≡ s = once h.sender s h.there there (h.number ∙ e.terminal) in
              let left : length (own list h.sender.number e.entry.moment) < length h.sender.hand =
              slice_get_within h.sender.hand (length (own list h.sender.number e.entry.moment)) e.entry.message h.message in
              record {
                may = subst (MayAt s.timing quiet list s.number) at
                    (may allowed quiet list ordered some s (long s there).0 (long s there).1 w.clean w.begins e.entry e.there e.terminal);
                left = subst (λ u. length (own list s.number u) < length s.hand) at
                    (subst (λ (v : Station). length (own list v.number e.entry.moment) < length v.hand) same left);
              },
          λ d. elim (first_from list s.number t) [
            | inl over ↦ absurd (w.ends t below over d.left d.may)
            | inr f ↦ at_once allowed quiet list ordered some s (long s there).0 (long s there).1 w.clean w.begins t d.may f
          ],
        );
  },
)
