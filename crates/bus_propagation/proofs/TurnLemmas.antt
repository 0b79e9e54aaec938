-- The list grows by the next start of all.
use Rattle.std.proofs.Common.{◌≡◌, ◌≢◌, ℕ, ◌+◌, ◌-◌, ◌<◌, ◌≤◌, ◌⊎◌, List, [], ◌∷◌, ◌++◌, length, set, drop, map, Some, None, inl, inr, arith, sym, refl, ap, ◌∙◌, subst}
use Rattle.std.specs.Prelude.{slice_get}
use Rattle.std.specs.Option.{MatchOption, option_map}
use Rattle.std.proofs.lemmas.Bool.{cases_lt, cases_eq}
use Rattle.std.proofs.lemmas.List.{length_push, drop_all}
use Rattle.std.proofs.lemmas.Option.{slice_get_within, get_or_from_slice_get}
use Rattle.bus_timers.specs.Timings.{IsSound, due_place}
use Rattle.bus_timers.specs.GapPlace.{GapFrom}
use Rattle.bus_timers.proofs.TimingLaws.{sound_tg}
use Rattle.bus_strings.specs.Members.{In}
use Rattle.bus_strings.proofs.MemberLaws.{in_push, in_push_cases, in_append_left}
use Rattle.bus_strings.specs.Messages.{Entry}
use Rattle.bus_strings.proofs.ListLaws.{get_left, some_at}
use Rattle.bus_medium.specs.Past.{past, own}
use Rattle.bus_medium.specs.Jumps.{Each}
use Rattle.bus_medium.specs.Lawful.{Station, HaveOwnNumbers, HasEntry, IsBefore, IsRuledTo}
use Rattle.bus_medium.specs.Delays.{Delays, heard, heard_end}
use Rattle.bus_medium.specs.Wakes.{Wakes, woken_past, woken_place}
use Rattle.bus_medium.specs.Clocks.{GapAt}
use Rattle.bus_medium.specs.CableLawful.{IsDueOnCable, IsLawfulOnCable, IsLawfulOnCableTo}
use Rattle.bus_medium.proofs.PastLaws.{length_past, own_push, own_push_other, last_push}
use Rattle.bus_medium.proofs.Hearing.{cable_looks, not_before, past_heard_push}
use Rattle.bus_medium.proofs.Ruled.{ruled_none, ruled_start, ruled_whole}
use Rattle.bus_medium.specs.inside.Seating.{AreDistinct}
use Rattle.bus_medium.proofs.Seats.{get_set_same, get_set_other, same_some, map_at, map_set_same, from_map, in_map}
use Rattle.bus_medium.proofs.Waking.{at_start, at_power_up, at_settled}
use Rattle.bus_medium.proofs.Reaching.{each_rest}
use Rattle.bus_propagation.specs.declared.seat.Seat.{Seat}
use Rattle.bus_propagation.specs.inside.Hearing.{HaveBegun, RestsUntil, IsNextStart, HaveWords}
use Rattle.bus_propagation.specs.inside.Seats.{station_of}
use Rattle.bus_propagation.specs.inside.Turns.{IsSeated, KeepsPlace, Listens, Rests, Awaits, HasAttended, Follows, GoesTo, NoLater, NobodyBefore, Begun}
use Rattle.bus_propagation.proofs.RestLemmas.{rests_first, still_rests}

place_kept : (delay : Delays) (list : List Entry) (e : Entry) (z : Seat) → KeepsPlace delay list z → KeepsPlace delay (list ++ e ∷ []) z
place_kept delay list e z p =
    let within : z.cursor ≤ length list = p.within in
    record {
      within = omega (arith, length_push list e);
      passed = λ i x low at. p.passed i x low (sym (get_left list (e ∷ []) i (omega arith)) ∙ at);
    }

-- whether a moment and a number come before others
before_or_not : (u k t n : ℕ) → IsBefore u k t n ⊎ NoLater t n u k
before_or_not u k t n = elim (cases_lt u t) [
  | inl less ↦ inl (inl less)
  | inr low ↦ elim (cases_lt t u) [
    | inl more ↦ inr (inl more)
    | inr high ↦
        let same : u ≡ t = omega arith in
        elim (cases_lt k n) [ inl below ↦ inl (inr (same, below)) | inr above ↦ inr (inr (sym same, above)) ]
  ]
]

not_both : (u k t n : ℕ) → IsBefore u k t n → NoLater t n u k → ⊥
not_both u k t n (inl a) (inl b) = omega arith
not_both u k t n (inl a) (inr b) = let e : t ≡ u = b.0 in omega arith
not_both u k t n (inr a) (inl b) = let e : u ≡ t = a.0 in omega arith
not_both u k t n (inr a) (inr b) = let h : k < n = a.1 in let l : n ≤ k = b.1 in omega arith

before_later : (u k t n m j : ℕ) → IsBefore u k t n → NoLater t n m j → IsBefore u k m j
before_later u k t n m j (inl a) (inl b) = inl (omega arith)
before_later u k t n m j (inl a) (inr b) = let e : t ≡ m = b.0 in inl (omega arith)
before_later u k t n m j (inr a) (inl b) = let e : u ≡ t = a.0 in inl (omega arith)
before_later u k t n m j (inr a) (inr b) =
    let e : u ≡ t = a.0 in let h : k < n = a.1 in let f : t ≡ m = b.0 in let l : n ≤ j = b.1 in inr (omega arith, omega arith)

late_moment : (t n u k : ℕ) → NoLater t n u k → t ≤ u
late_moment t n u k (inl a) = omega arith
late_moment t n u k (inr a) = let e : t ≡ u = a.0 in omega arith

-- a list that a rule makes goes on to where the next could be due
pub ruled_reach : (due : List Entry → Station → ℕ → Type 0) (ss : List Station) (t n m j : ℕ) (l : List Entry) → IsRuledTo due ss t n l → NoLater t n m j
    → ((u : ℕ) (r : Station) → In r ss → NoLater t n u r.number → IsBefore u r.number m j → due l r u → ⊥) → IsRuledTo due ss m j l
ruled_reach due ss t n m j l law low idle = record {
  ordered = law.ordered;
  sent = λ x i. let w = law.sent x i in (before_later x.moment x.terminal t n m j w.0 low, w.1);
  exact = λ u r there b. elim (before_or_not u r.number t n) [
    | inl old ↦ law.exact u r there old
    | inr new ↦ (
      (λ h.
          let x : Entry = h.entry in
          let at : x.moment ≡ u = h.moment in
          let of : x.terminal ≡ r.number = h.terminal in
          absurd (not_both u r.number t n (subst (λ k. IsBefore u k t n) of (subst (λ v. IsBefore v x.terminal t n) at (law.sent x h.there).0)) new)),
      (λ d. absurd (idle u r there new b d)),
    )
  ];
}

-- what a terminal has sent began before a moment that is no earlier
own_begun : (due : List Entry → Station → ℕ → Type 0) (ss : List Station) (t n u k : ℕ) (l : List Entry) → IsRuledTo due ss t n l → NoLater t n u k → HaveBegun l k u
own_begun due ss t n u k l law low x there mine = elim (cases_lt x.moment u) [
  | inl before ↦ before
  | inr late ↦
      let b : IsBefore x.moment k t n = subst (λ j. IsBefore x.moment j t n) mine (law.sent x there).0 in
      absurd (not_both u k t n (elim b [ inl less ↦ inl (omega arith) | inr same ↦ let e : x.moment ≡ t = same.0 in let w : t ≤ u = late_moment t n u k low in inr (omega arith, same.1) ]) low)
]

-- senders that follow stay who they are
followed_stations : (delay : Delays) (list : List Entry) (t : ℕ) (xs ys : List Seat) → Each (Follows delay list t) xs ys → map station_of ys ≡ map station_of xs
followed_stations delay list t [] [] e = refl
followed_stations delay list t [] (y ∷ ys) e = absurd (let k : length (y ∷ ys) ≡ 0 = e.same_length in omega arith)
followed_stations delay list t (x ∷ xs) [] e = absurd (let k : 0 ≡ length (x ∷ xs) = e.same_length in omega arith)
followed_stations delay list t (x ∷ xs) (y ∷ ys) e =
    ap (λ s. s ∷ map station_of ys) (e.each 0 x y refl refl).station
    ∙ ap (λ ss. station_of x ∷ ss) (followed_stations delay list t xs ys (each_rest (Follows delay list t) x y xs ys e))

-- two places whose senders have the same number are one
one_place : (seats : List Seat) (ss : List Station) (i j : ℕ) (x y : Seat) → map station_of seats ≡ ss → AreDistinct (map (λ s. s.number) ss) → slice_get seats i ≡ Some x → slice_get seats j ≡ Some y
    → x.terminal ≡ y.terminal → i ≡ j
one_place seats ss i j x y same apart at y_at e =
    let number : Station → ℕ = λ s. s.number in
    let x_there : slice_get (map number ss) i ≡ Some x.terminal = ap (λ l. slice_get (map number l) i) (sym same) ∙ map_at number (map station_of seats) i (station_of x) (map_at station_of seats i x at) in
    let y_there : slice_get (map number ss) j ≡ Some y.terminal = ap (λ l. slice_get (map number l) j) (sym same) ∙ map_at number (map station_of seats) j (station_of y) (map_at station_of seats j y y_at) in
    apart i j (slice_get_within (map number ss) i x.terminal x_there) (slice_get_within (map number ss) j y.terminal y_there)
    (get_or_from_slice_get (map number ss) i x.terminal 0 x_there ∙ e ∙ sym (get_or_from_slice_get (map number ss) j y.terminal 0 y_there))

-- where a moment with a number comes before a turn, and a sender of this number starts no earlier than at that turn, it starts later
before_next : (v r u k m : ℕ) → IsBefore v r u k → NoLater u k m r → v < m
before_next v r u k m (inl a) (inl b) = omega arith
before_next v r u k m (inl a) (inr b) = let e : u ≡ m = b.0 in omega arith
before_next v r u k m (inr a) (inl b) = let e : v ≡ u = a.0 in omega arith
before_next v r u k m (inr a) (inr b) = let h : r < k = a.1 in let l : k ≤ r = b.1 in absurd (omega arith)

module _ (quiet : ℕ) (delay : Delays) (wake : Wakes) where
  -- while it rests a sender isn't due
  idle_until : (list : List Entry) (t n u : ℕ) (ss : List Station) (y : Seat) → IsLawfulOnCableTo quiet delay wake ss t n list → y.timing.quiet ≡ quiet → Listens delay wake list t y → Rests delay wake list y
      → NoLater t n u y.terminal → ((m : ℕ) → y.next ≡ Some m → u < m) → IsDueOnCable quiet delay wake list (station_of y) u → ⊥
  idle_until list t n u ss y law q_is lis rests low early due =
      let begun : HaveBegun list y.terminal u = own_begun (IsDueOnCable quiet delay wake) ss t n u y.terminal list law low in
      let count : length (own list y.terminal u) ≡ y.sent = lis.count u begun in
      let left : length (own list y.terminal u) < length y.messages.items = due.left in
      let after : t ≤ u = late_moment t n u y.terminal low in
      elim y.next as (λ next. y.next ≡ next → ⊥) [
        | None ↦ λ e. let k : length y.messages.items ≤ y.sent = subst (λ next. MatchOption next (length y.messages.items ≤ y.sent) (λ v. (y.sent < length y.messages.items) × RestsUntil delay wake (station_of y) list y.timers.moment v)) e rests in omega arith
        | Some m ↦ λ e.
            let k = subst (λ next. MatchOption next (length y.messages.items ≤ y.sent) (λ v. (y.sent < length y.messages.items) × RestsUntil delay wake (station_of y) list y.timers.moment v)) e rests in
            let due_too : IsDueOnCable y.timing.quiet delay wake list (station_of y) u = subst (λ q. IsDueOnCable q delay wake list (station_of y) u) (sym q_is) due in
            elim (cases_lt u y.timers.moment) [
              | inr from ↦ k.1 u from (early m e) begun due_too
              | inl before ↦ elim lis.sure [
                | inl sure ↦ omega arith
                | inr to_come ↦ not_before y.timing.quiet delay wake list (station_of y) u (sound_tg y.timing lis.sender.sound) (omega arith) due_too
              ]
            ]
      ] refl

  -- one more transmission, of another, changes nothing of what a sender has heard for certain
  listens_other : (list : List Entry) (t : ℕ) (e : Entry) (z : Seat) → Listens delay wake list t z → e.terminal ≢ z.terminal → t ≤ e.moment → Listens delay wake (list ++ e ∷ []) e.moment z
  listens_other list t e z lis apart low =
      let h = lis.hears in
      let same_own : (u : ℕ) → own (list ++ e ∷ []) z.terminal u ≡ own list z.terminal u = λ u. own_push_other list z.terminal u e (λ p. apart p.0) in
      let begun : (u : ℕ) → HaveBegun list z.terminal u → HaveBegun (list ++ e ∷ []) z.terminal u = λ u old x there mine. elim (in_push_cases list e x there) [
        | inl in_list ↦ old x in_list mine
        | inr is ↦ absurd (apart (sym (ap (λ (y : Entry). y.terminal) is) ∙ mine))
      ] in
      let pasts : woken_past z.timing.quiet (wake z.terminal) (heard delay z.terminal list) z.timers.moment ≡ woken_past z.timing.quiet (wake z.terminal) (heard delay z.terminal (list ++ e ∷ [])) z.timers.moment = elim lis.sure [
        | inl sure ↦ ap (drop (wake z.terminal)) (sym (past_heard_push delay z.timing.quiet z.terminal z.timers.moment list e (omega arith)))
        | inr to_come ↦
            drop_all (wake z.terminal) (past z.timing.quiet (heard delay z.terminal list) z.timers.moment) (omega (arith, length_past z.timing.quiet (heard delay z.terminal list) z.timers.moment))
            ∙ sym (drop_all (wake z.terminal) (past z.timing.quiet (heard delay z.terminal (list ++ e ∷ [])) z.timers.moment) (omega (arith, length_past z.timing.quiet (heard delay z.terminal (list ++ e ∷ [])) z.timers.moment)))
      ] in
      record {
        sender = lis.sender;
        place = place_kept delay list e z lis.place;
        count = λ u all. ap length (same_own u) ∙ lis.count u (λ x there mine. all x (in_append_left list (e ∷ []) x there) mine);
        hears = record {
          powered = h.powered;
          begun = begun (z.timers.moment + 1) h.begun;
          interval = ap (λ o. due_place z.timing (woken_place z.timing.quiet (wake z.terminal) o) + wake z.terminal) (same_own (z.timers.moment + 1)) ∙ h.interval;
          gap = subst (λ o. GapAt z.timing.sg z.timing.quiet (wake z.terminal) (heard delay z.terminal (list ++ e ∷ [])) z.timers.moment (woken_place z.timing.quiet (wake z.terminal) o) z.timers.gap_from) (sym (same_own (z.timers.moment + 1)))
              (record {
                g = h.gap.g;
                is = h.gap.is;
                from = subst (λ p. GapFrom z.timing.sg p (woken_place z.timing.quiet (wake z.terminal) (own list z.terminal (z.timers.moment + 1))) h.gap.g) pasts h.gap.from;
              });
          fresh = elim h.fresh [
            | inl ended ↦ inl ended
            | inr other ↦ elim other [ inl waits ↦ inr (inl waits) | inr start ↦ inr (inr (start.0, begun 0 start.1)) ]
          ];
        };
        sure = elim lis.sure [ inl sure ↦ inl (omega arith) | inr to_come ↦ inr to_come ];
      }

  -- a sender that has begun
  listens_begun : (list : List Entry) (t u : ℕ) (e : Entry) (x y : Seat) → y.timing ≡ x.timing → y.terminal ≡ x.terminal → Listens delay wake list t x → IsNextStart delay wake (station_of x) list x.timers.moment u
      → wake x.terminal ≤ x.timing.quiet + u → Begun u x y e → Listens delay wake (list ++ e ∷ []) e.moment y
  listens_begun list t u e x y timing terminal lis next powered b =
      let at : e.moment ≡ u = b.moment in
      let q_is : y.timing.quiet ≡ x.timing.quiet = ap (λ s. s.quiet) timing in
      let sg_is : y.timing.sg ≡ x.timing.sg = ap (λ s. s.sg) timing in
      let ti_is : y.timing.ti ≡ x.timing.ti = ap (λ s. s.ti) timing in
      let w_is : wake y.terminal ≡ wake x.terminal = ap wake terminal in
      let sg_some : 9 ≤ x.timing.sg = lis.sender.sound.sg_least in
      let timers_moment : y.timers.moment ≡ u = b.timers_moment in
      let timers_due : y.timers.due ≡ x.timing.quiet + u + x.timing.ti = b.timers_due in
      let timers_gap : y.timers.gap_from ≡ x.timing.quiet + u + x.timing.sg = b.timers_gap in
      let mine : e.terminal ≡ y.terminal = b.terminal ∙ sym terminal in
      let least : 1 ≤ x.terminal = lis.sender.least in
      let most : x.terminal ≤ 128 = lis.sender.most in
      let own_more : (m : ℕ) → u < m → own (list ++ e ∷ []) y.terminal m ≡ own list y.terminal m ++ e ∷ [] = λ m more. own_push list y.terminal m e mine (omega arith) in
      let last : woken_place y.timing.quiet (wake y.terminal) (own (list ++ e ∷ []) y.terminal (y.timers.moment + 1)) ≡ Some (y.timing.quiet + y.timers.moment - wake y.terminal) =
      ap (woken_place y.timing.quiet (wake y.terminal)) (own_more (y.timers.moment + 1) (omega arith))
      ∙ ap (option_map (λ p. p - wake y.terminal)) (last_push y.timing.quiet (own list y.terminal (y.timers.moment + 1)) e)
      ∙ ap (λ m. Some (y.timing.quiet + m - wake y.terminal)) (let same : e.moment ≡ y.timers.moment = omega arith in same) in
      record {
        sender = record { sound = subst IsSound (sym timing) lis.sender.sound; least = omega arith; most = omega arith };
        place = record {
          within = let within : x.cursor ≤ length list = lis.place.within in let same : y.cursor ≡ x.cursor = b.cursor in omega (arith, length_push list e);
          passed = λ i z low z_at.
              let same : y.cursor ≡ x.cursor = b.cursor in
              let within : x.cursor ≤ length list = lis.place.within in
              let over : heard_end delay z x.terminal ≤ x.timers.moment = lis.place.passed i z (omega arith) (sym (get_left list (e ∷ []) i (omega arith)) ∙ z_at) in
              let before : x.timers.moment ≤ u = next.low in
              subst (λ k. heard_end delay z k ≤ y.timers.moment) (sym terminal) (omega arith);
        };
        count = λ m all.
            let e_before : e.moment < m = all e (in_push list e) mine in
            let old : HaveBegun list x.terminal m = λ z there z_mine. all z (in_append_left list (e ∷ []) z there) (z_mine ∙ sym terminal) in
            let counted : length (own list x.terminal m) ≡ x.sent = lis.count m old in
            let sent : y.sent ≡ x.sent + 1 = b.sent in
            let here : length (own list y.terminal m) ≡ length (own list x.terminal m) = ap (λ k. length (own list k m)) terminal in
            ap length (own_more m (omega arith)) ∙ length_push (own list y.terminal m) e ∙ (let k : length (own list y.terminal m) + 1 ≡ y.sent = omega arith in k);
        hears = record {
          powered = omega arith;
          begun = λ z there z_mine. elim (in_push_cases list e z there) [
            | inl old ↦ let k : z.moment < u = next.begun z old (z_mine ∙ terminal) in omega arith
            | inr is ↦ let k : z.moment ≡ e.moment = ap (λ (v : Entry). v.moment) is in omega arith
          ];
          interval = ap (λ o. due_place y.timing o + wake y.terminal) last ∙ (let k : y.timing.quiet + y.timers.moment - wake y.terminal + y.timing.ti + wake y.terminal ≡ y.timers.due = omega arith in k);
          gap = subst (λ o. GapAt y.timing.sg y.timing.quiet (wake y.terminal) (heard delay y.terminal (list ++ e ∷ [])) y.timers.moment o y.timers.gap_from) (sym last)
              (subst (λ g. GapAt y.timing.sg y.timing.quiet (wake y.terminal) (heard delay y.terminal (list ++ e ∷ [])) y.timers.moment (Some (y.timing.quiet + y.timers.moment - wake y.terminal)) g)
              (let k : y.timing.quiet + y.timers.moment + y.timing.sg ≡ y.timers.gap_from = omega arith in k)
              (at_start y.timing.sg y.timing.quiet (wake y.terminal) (heard delay y.terminal (list ++ e ∷ [])) y.timers.moment (omega arith) (omega arith)));
          fresh = inr (inl (omega arith));
        };
        sure = inl (omega arith);
      }

  -- a sender before anything is sent
  pub listens_none : (x : Seat) → IsSeated quiet wake x → Listens delay wake [] 0 x
  listens_none x s =
      let sg_some : 9 ≤ x.timing.sg = s.sender.sound.sg_least in
      let timers_moment : x.timers.moment ≡ wake x.terminal - x.timing.quiet = s.timers_moment in
      let timers_due : x.timers.due ≡ x.timing.quiet + x.timing.due + wake x.terminal = s.timers_due in
      let timers_gap : x.timers.gap_from ≡ x.timing.sg + wake x.terminal = s.timers_gap in
      let cursor : x.cursor ≡ 0 = s.cursor in
      record {
        sender = s.sender;
        place = record { within = omega arith; passed = λ i z low. absurd (omega arith) };
        count = λ m all. sym s.sent;
        hears = record {
          powered = omega arith;
          begun = λ z there. absurd there;
          interval = omega arith;
          gap = elim (cases_lt x.timing.quiet (wake x.terminal)) [
            | inl late ↦
                subst (GapAt x.timing.sg x.timing.quiet (wake x.terminal) [] x.timers.moment None) (let k : x.timing.quiet + x.timers.moment + x.timing.sg ≡ x.timers.gap_from = omega arith in k)
                (at_power_up x.timing.sg x.timing.quiet (wake x.terminal) [] x.timers.moment (omega arith) (omega arith))
            | inr early ↦
                subst (λ v. GapAt x.timing.sg x.timing.quiet (wake x.terminal) [] v None x.timers.gap_from) (let k : 0 ≡ x.timers.moment = omega arith in k)
                (subst (GapAt x.timing.sg x.timing.quiet (wake x.terminal) [] 0 None) (let k : x.timing.sg + wake x.terminal ≡ x.timers.gap_from = omega arith in k)
                (at_settled x.timing.sg x.timing.quiet (wake x.terminal) [] (omega arith) early))
          ];
          fresh = elim (cases_lt x.timing.quiet (wake x.terminal)) [
            | inl late ↦ inr (inl (omega arith))
            | inr early ↦ inr (inr (omega arith, (λ z there. absurd there)))
          ];
        };
        sure = elim (cases_lt x.timing.quiet (wake x.terminal)) [ inl late ↦ inr (omega arith) | inr early ↦ inl (omega arith) ];
      }

  -- who follows goes with the list as before
  pub goes_on : (ss : List Station) (list : List Entry) (xs ys : List Seat) (t n : ℕ) → GoesTo quiet delay wake ss list xs t n → Each (Follows delay list t) xs ys → GoesTo quiet delay wake ss list ys t n
  goes_on ss list xs ys t n g e =
      let old : (j : ℕ) (y : Seat) → slice_get ys j ≡ Some y → (x : Seat) × (slice_get xs j ≡ Some x) = λ j y at.
      let within : j < length ys = slice_get_within ys j y at in
      let long : length ys ≡ length xs = e.same_length in
      some_at xs j (omega arith) in
      record {
        same = followed_stations delay list t xs ys e ∙ g.same;
        lawful = g.lawful;
        words = g.words;
        quiet_is = λ j y at.
            let x = old j y at in
            ap (λ (s : Station). s.timing.quiet) (e.each j x.0 y x.1 at).station ∙ g.quiet_is j x.0 x.1;
        listen = λ j y at. let x = old j y at in ((e.each j x.0 y x.1 at).on wake (g.listen j x.0 x.1) (g.rest j x.0 x.1)).0;
        rest = λ j y at. let x = old j y at in ((e.each j x.0 y x.1 at).on wake (g.listen j x.0 x.1) (g.rest j x.0 x.1)).1;
      }

  -- who has attended knows its next start
  pub awaits_turn : (ss : List Station) (list : List Entry) (xs ys : List Seat) (t n p : ℕ) (y : Seat) → GoesTo quiet delay wake ss list xs t n → Each (Follows delay list t) xs ys → HasAttended delay list t xs ys p
      → slice_get ys p ≡ Some y → Awaits delay wake list y
  awaits_turn ss list xs ys t n p y g e attended at =
      let within : p < length ys = slice_get_within ys p y at in
      let long : length ys ≡ length xs = e.same_length in
      let x = some_at xs p (omega arith) in
      ((attended x.0 y x.1 at).on wake (g.listen p x.0 x.1)).1

  pub goes_start : (ss : List Station) (xs : List Seat) → map station_of xs ≡ ss → ((j : ℕ) (x : Seat) → slice_get xs j ≡ Some x → IsSeated quiet wake x) → GoesTo quiet delay wake ss [] xs 0 0
  goes_start ss xs same seated = record {
    same = same;
    lawful = ruled_none (IsDueOnCable quiet delay wake) (cable_looks quiet delay wake) ss;
    words = λ x there. absurd there;
    quiet_is = λ j x at. (seated j x at).quiet_is;
    listen = λ j x at. listens_none x (seated j x at);
    rest = λ j x at. rests_first delay wake [] 0 x (listens_none x (seated j x at)) (seated j x at).next;
  }

  -- what is known of the sender whose turn it is
  record KnownTurn (ss : List Station) (list : List Entry) (x : Seat) (u t n : ℕ) : Type 0 where
    there : In (station_of x) ss
    next : IsNextStart delay wake (station_of x) list x.timers.moment u
    count : length (own list x.terminal u) ≡ x.sent
    due : IsDueOnCable quiet delay wake list (station_of x) u
    low : NoLater t n u x.terminal
    powered : wake x.terminal ≤ x.timing.quiet + u

  known_turn : (ss : List Station) (list : List Entry) (seats : List Seat) (t n p u : ℕ) (x : Seat) → GoesTo quiet delay wake ss list seats t n → slice_get seats p ≡ Some x → Awaits delay wake list x → x.next ≡ Some u → KnownTurn ss list x u t n
  known_turn ss list seats t n p u x g at awaits is =
      let there : In (station_of x) ss = subst (In (station_of x)) g.same (in_map station_of seats p x at) in
      let aw = subst (λ next. MatchOption next (length x.messages.items ≤ x.sent) (λ v. (x.sent < length x.messages.items) × IsNextStart delay wake (station_of x) list x.timers.moment v)) is awaits in
      let next : IsNextStart delay wake (station_of x) list x.timers.moment u = aw.1 in
      let left : x.sent < length x.messages.items = aw.0 in
      let count : length (own list x.terminal u) ≡ x.sent = (g.listen p x at).count u next.begun in
      let due : IsDueOnCable quiet delay wake list (station_of x) u = subst (λ q. IsDueOnCable q delay wake list (station_of x) u) (g.quiet_is p x at) (next.due (omega arith)) in
      let q_is : x.timing.quiet ≡ quiet = g.quiet_is p x at in
      record {
        there = there;
        next = next;
        count = count;
        due = due;
        low = elim (before_or_not u x.terminal t n) [
          | inr low ↦ low
          | inl before ↦
              let h : HasEntry list x.terminal u = (g.lawful.exact u (station_of x) there before).1 due in
              let early : h.entry.moment < u = next.begun h.entry h.there h.terminal in
              let moment : h.entry.moment ≡ u = h.moment in
              absurd (omega arith)
        ];
        powered = elim (cases_lt (x.timing.quiet + u) (wake x.terminal)) [
          | inl before ↦ absurd (not_before quiet delay wake list (station_of x) u (sound_tg x.timing (g.listen p x at).sender.sound) (omega arith) due)
          | inr powered ↦ powered
        ];
      }

  -- no turn comes before the list
  pub turn_low : (ss : List Station) (list : List Entry) (seats : List Seat) (t n p u : ℕ) (x : Seat) → GoesTo quiet delay wake ss list seats t n → slice_get seats p ≡ Some x → Awaits delay wake list x → x.next ≡ Some u → NoLater t n u x.terminal
  turn_low ss list seats t n p u x g at awaits is = (known_turn ss list seats t n p u x g at awaits is).low

  -- the list up to that turn
  lawful_turn : (ss : List Station) (list : List Entry) (seats : List Seat) (t n u k : ℕ) → GoesTo quiet delay wake ss list seats t n → NoLater t n u k
      → ((j : ℕ) (y : Seat) (m : ℕ) → slice_get seats j ≡ Some y → y.next ≡ Some m → NoLater u k m y.terminal) → IsLawfulOnCableTo quiet delay wake ss u k list
  lawful_turn ss list seats t n u k g low first =
      ruled_reach (IsDueOnCable quiet delay wake) ss t n u k list g.lawful low (λ v r there late before due.
      let m = from_map station_of seats r (subst (In r) (sym g.same) there) in
      let number : m.element.terminal ≡ r.number = ap (λ (s : Station). s.number) m.same in
      idle_until list t n v ss m.element g.lawful (g.quiet_is m.place m.element m.at) (g.listen m.place m.element m.at) (g.rest m.place m.element m.at)
      (subst (NoLater t n v) (sym number) late)
      (λ next e. before_next v r.number u k next before (subst (NoLater u k next) number (first m.place m.element next m.at e)))
      (subst (λ s. IsDueOnCable quiet delay wake list s v) (sym m.same) due))

  -- what the senders know when one of them has begun
  pub listen_after : (ss : List Station) (list : List Entry) (seats : List Seat) (t n p u : ℕ) (x y : Seat) (e : Entry) → AreDistinct (map (λ s. s.number) ss) → GoesTo quiet delay wake ss list seats t n
      → slice_get seats p ≡ Some x → Awaits delay wake list x → x.next ≡ Some u → Begun u x y e → (j : ℕ) (z : Seat) → slice_get (set seats p y) j ≡ Some z
      → (z.timing.quiet ≡ quiet) × Listens delay wake (list ++ e ∷ []) u z × Rests delay wake (list ++ e ∷ []) z
  listen_after ss list seats t n p u x y e apart g at awaits is b j z z_at =
      let k : KnownTurn ss list x u t n = known_turn ss list seats t n p u x g at awaits is in
      let within : p < length seats = slice_get_within seats p x at in
      let em : e.moment ≡ u = b.moment in
      let timing : y.timing ≡ x.timing = ap (λ (s : Station). s.timing) b.station in
      let terminal : y.terminal ≡ x.terminal = ap (λ (s : Station). s.number) b.station in
      elim (cases_eq p j) [
        | inl same ↦
            let z_is : y ≡ z = same_some y z (sym (get_set_same seats p y within) ∙ ap (slice_get (set seats p y)) same ∙ z_at) in
            let listens : Listens delay wake (list ++ e ∷ []) u y = subst (λ m. Listens delay wake (list ++ e ∷ []) m y) em (listens_begun list t u e x y timing terminal (g.listen p x at) k.next k.powered b) in
            subst (λ (v : Seat). (v.timing.quiet ≡ quiet) × Listens delay wake (list ++ e ∷ []) u v × Rests delay wake (list ++ e ∷ []) v) z_is
            (ap (λ s. s.quiet) timing ∙ g.quiet_is p x at, listens, rests_first delay wake (list ++ e ∷ []) u y listens b.next)
        | inr other ↦
            let old : slice_get seats j ≡ Some z = sym (get_set_other seats p j y other) ∙ z_at in
            let differs : e.terminal ≢ z.terminal = λ same. other (one_place seats ss p j x z g.same apart at old (sym b.terminal ∙ same)) in
            let t_low : t ≤ u = late_moment t n u x.terminal k.low in
            (g.quiet_is j z old, subst (λ m. Listens delay wake (list ++ e ∷ []) m z) em (listens_other list t e z (g.listen j z old) differs (omega arith)), still_rests delay wake list e z differs (g.rest j z old))
      ]

  pub words_after : (list : List Entry) (u : ℕ) (x y : Seat) (e : Entry) → HaveWords list → Begun u x y e → HaveWords (list ++ e ∷ [])
  words_after list u x y e words b z there = elim (in_push_cases list e z there) [ inl old ↦ words z old | inr same ↦ subst (λ (v : Entry). 0 < length v.message) (sym same) b.words ]

  pub took_turn : (ss : List Station) (list : List Entry) (seats : List Seat) (t n p u : ℕ) (x y : Seat) (e : Entry) → HaveOwnNumbers ss → AreDistinct (map (λ s. s.number) ss) → GoesTo quiet delay wake ss list seats t n
      → slice_get seats p ≡ Some x → Awaits delay wake list x → x.next ≡ Some u → ((j : ℕ) (z : Seat) (m : ℕ) → slice_get seats j ≡ Some z → z.next ≡ Some m → NoLater u x.terminal m z.terminal)
      → Begun u x y e → GoesTo quiet delay wake ss (list ++ e ∷ []) (set seats p y) u (x.terminal + 1)
  took_turn ss list seats t n p u x y e own_n apart g at awaits is first b =
      let k : KnownTurn ss list x u t n = known_turn ss list seats t n p u x g at awaits is in
      let to : IsLawfulOnCableTo quiet delay wake ss u x.terminal list = lawful_turn ss list seats t n u x.terminal g k.low first in
      let all = listen_after ss list seats t n p u x y e apart g at awaits is b in
      record {
        same = map_set_same station_of seats p x y at b.station ∙ g.same;
        lawful = ruled_start (IsDueOnCable quiet delay wake) (cable_looks quiet delay wake) ss u x.terminal list (station_of x) e own_n to k.there refl k.due b.moment b.terminal (ap (slice_get x.messages.items) k.count ∙ b.message);
        words = words_after list u x y e g.words b;
        quiet_is = λ j z z_at. (all j z z_at).0;
        listen = λ j z z_at. (all j z z_at).1;
        rest = λ j z z_at. (all j z z_at).2;
      }

  pub turn_left : (list : List Entry) (u : ℕ) (x : Seat) → Awaits delay wake list x → x.next ≡ Some u → x.sent < length x.messages.items
  turn_left list u x awaits is =
      (subst (λ next. MatchOption next (length x.messages.items ≤ x.sent) (λ v. (x.sent < length x.messages.items) × IsNextStart delay wake (station_of x) list x.timers.moment v)) is awaits).0

  -- nobody starts before the horizon any more
  pub goes_whole : (ss : List Station) (list : List Entry) (seats : List Seat) (t n horizon : ℕ) → GoesTo quiet delay wake ss list seats t n → (t < horizon) ⊎ ((t ≡ 0) × (n ≡ 0)) → NobodyBefore seats horizon
      → IsLawfulOnCable quiet delay wake ss horizon list
  goes_whole ss list seats t n horizon g early none =
      let low : NoLater t n horizon 0 = elim early [
        | inl less ↦ inl less
        | inr start ↦ let z : t ≡ 0 = start.0 in let m : n ≡ 0 = start.1 in elim (cases_lt 0 horizon) [ inl some ↦ inl (omega arith) | inr none_left ↦ inr (omega arith, omega arith) ]
      ] in
      ruled_whole (IsDueOnCable quiet delay wake) (cable_looks quiet delay wake) ss horizon list
      (lawful_turn ss list seats t n horizon 0 g low (λ j y m at next. let k : horizon ≤ m = none j y m at next in
      elim (cases_lt horizon m) [ inl less ↦ inl less | inr same ↦ inr (omega arith, omega arith) ]))
