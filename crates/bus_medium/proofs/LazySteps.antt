-- From one start to the next: the bus is quiet, and then it is busy.
use Rattle.std.proofs.Common.{◌≡◌, ℕ, zero, suc, ◌+◌, ◌-◌, ◌^◌, ◌<◌, ◌≤◌, ◌++◌, ◌∷◌, [], false, cond, ltb, min, List, length, map, take, replicate, Option, Some, None, inl, inr, arith, sym, refl, ap, ◌∙◌, subst}
use Rattle.std.specs.Prelude.{slice_get}
use Rattle.std.specs.Option.{option_and_then}
use Rattle.std.proofs.lemmas.Bool.{cases_lt, lt-ltb, le-ltb, lt-leb, le-leb}
use Rattle.std.proofs.lemmas.List.{take-append-le}
use Rattle.std.proofs.lemmas.Option.{slice_get_within}
use Rattle.bus_timers.specs.declared.timing.Timing.{Timing}
use Rattle.bus_timers.specs.declared.cores.Core.{Ghosts}
use Rattle.bus_timers.specs.Timings.{IsSound}
use Rattle.bus_timers.specs.MayStart.{MayStart}
use Rattle.bus_timers.specs.GapPlace.{GapFrom}
use Rattle.bus_timers.proofs.TimingLaws.{sound_sg}
use Rattle.bus_timers.proofs.GapStretchLaws.{gap_quiets}
use Rattle.bus_strings.specs.Members.{In}
use Rattle.bus_strings.specs.Messages.{Message, Entry, bits}
use Rattle.bus_strings.specs.Transmissions.{carrier, end_of}
use Rattle.bus_strings.proofs.MessageLaws.{bits_some}
use Rattle.bus_strings.proofs.MemberLaws.{in_append_cases}
use Rattle.bus_strings.proofs.ListLaws.{some_at}
use Rattle.bus_medium.specs.Terminals.{last_begun}
use Rattle.bus_medium.specs.MessageStretches.{later_place}
use Rattle.bus_medium.specs.Past.{past, own, last_place}
use Rattle.bus_medium.specs.BusyLaws.{IsBusy}
use Rattle.bus_medium.specs.Lawful.{HasEntry, IsDue, IsLawfulTo}
use Rattle.bus_medium.specs.Buses.{Seat, station_of, number_of}
use Rattle.bus_medium.specs.Jumps.{Each}
use Rattle.bus_medium.specs.inside.Following.{Follows, FollowsAt}
use Rattle.bus_medium.specs.inside.Runs.{RunsTo, Grown, Decided}
use Rattle.bus_medium.specs.inside.Lazy.{Clock, Clocked, StandsLazily, lazy, lazy_seat, lazy_seats, RestsAt, NextPlace, EndsAt, IsReady}
use Rattle.bus_medium.specs.inside.Lazy.{clock_after, gap_after, HaveEnded}
use Rattle.bus_medium.proofs.PastLaws.{length_past, no_carrier, own_after}
use Rattle.bus_medium.proofs.BusyLaws.{entry_is_busy, busy_elapsed, busy_waiting, busy_nobody}
use Rattle.bus_medium.proofs.Steps.{idle_stretch}
use Rattle.bus_medium.proofs.Following.{follows_on}
use Rattle.bus_medium.proofs.Jumping.{begun_by, past_steady, grown_past, grown_own}
use Rattle.bus_medium.proofs.Seats.{from_map, in_map}
use Rattle.bus_medium.proofs.LazySeats.{lazy_stations, lazy_at, lazy_from}
use Rattle.bus_medium.proofs.LazyLaws.{not_ready, is_ready}

-- further in a message, and further still
later_later : (m : Message) (a b : ℕ) (o : Option ℕ) → option_and_then (later_place m b) (option_and_then (later_place m a) o) ≡ option_and_then (later_place m (a + b)) o
later_later m a b None = refl
later_later m a b (Some d) = elim (cases_lt (d + a) (bits m)) [
  | inl inside ↦
      let first : later_place m a d ≡ Some (d + a) = rw (lt-ltb (d + a) (bits m) inside) refl in
      ap (option_and_then (later_place m b)) first ∙ ap (λ i. cond (ltb i (bits m)) (Some i) None) (let e : d + a + b ≡ d + (a + b) = omega arith in e)
  | inr over ↦
      let first : later_place m a d ≡ None = rw (le-ltb (d + a) (bits m) over) refl in
      let last : later_place m (a + b) d ≡ None = rw (le-ltb (d + (a + b)) (bits m) (let k : bits m ≤ d + (a + b) = omega arith in k)) refl in
      ap (option_and_then (later_place m b)) first ∙ sym last
]

-- the beginning of a past is that of a longer one
take_past : (q : ℕ) (l : List Entry) (t n told : ℕ) → told ≤ q + t → take told (past q l (t + n)) ≡ take told (past q l t)
take_past q l t zero told h = ap (λ i. take told (past q l i)) (let e : t + 0 ≡ t = omega arith in e)
take_past q l t (suc n) told h =
    ap (λ i. take told (past q l i)) (let e : t + suc n ≡ suc (t + n) = omega arith in e)
    ∙ take-append-le told (past q l (t + n)) (carrier l (t + n) ∷ []) (let k : told ≤ length (past q l (t + n)) = omega (arith, length_past q l (t + n)) in k)
    ∙ take_past q l t n told h

take_to : (q : ℕ) (l : List Entry) (t r told : ℕ) → told ≤ q + t → t ≤ r → take told (past q l r) ≡ take told (past q l t)
take_to q l t r told h order = ap (λ i. take told (past q l i)) (let e : r ≡ t + (r - t) = omega arith in e) ∙ take_past q l t (r - t) told h

-- quiet leaves the place from which the terminal gap counts
quiet_gap : (q : ℕ) (l : List Entry) (sg a b g : ℕ) (last : Option ℕ) → 0 < sg → a ≤ b → ((u : ℕ) → a ≤ u → u < b → carrier l u ≡ false) → GapFrom sg (past q l a) last g → GapFrom sg (past q l b) last g
quiet_gap q l sg a b g last pos order quiet from =
    let pasts : past q l b ≡ past q l a ++ replicate (b - a) false =
    ap (past q l) (let e : b ≡ a + (b - a) = omega arith in e) ∙ past_steady q l a false (b - a) (λ k below. quiet (a + k) (omega arith) (omega arith)) in
    subst (λ p. GapFrom sg p last g) (sym pasts) (gap_quiets sg (past q l a) last g (b - a) pos from)

-- a sender whose clock went on stands as lazily
stands_later : {C : Type 0} (core : Ghosts C) (q t r : ℕ) (x : Seat C) (k c : Clock) (l : List Entry) (timing : Timing) (last : Option ℕ) → t ≤ r
    → StandsLazily core q (q + t) (record { seat = x; clock = k }) timing (past q l t) last → GapFrom timing.sg (past q l r) last c.gap_from
    → c.sg ≡ k.sg → c.tg ≡ k.tg → c.told ≡ k.told → c.due ≡ k.due → IsReady c → StandsLazily core q (q + r) (record { seat = x; clock = c }) timing (past q l r) last
stands_later core q t r x k c l timing last order s gap sgs tgs tolds dues ready =
    let from : q ≤ k.told = s.from in
    let told : k.told ≤ q + t = s.told in
    record {
      sound = s.sound;
      same = s.same;
      at = length_past q l r;
      sg = sgs ∙ s.sg;
      tg = tgs ∙ s.tg;
      gap = gap;
      due = dues ∙ s.due;
      ready = ready;
      from = omega arith;
      told = omega arith;
      stands = subst (λ i. core.stands x.terminal.core timing (take i (past q l r)) last) (sym tolds)
          (subst (λ p. core.stands x.terminal.core timing p last) (sym (take_to q l t r k.told told order)) s.stands);
      room = let d : 2 ^ 62 + q ≤ core.room x.terminal.core + k.told = s.room in omega arith;
    }

-- and follows the list
lazy_later : {C : Type 0} (core : Ghosts C) (q t r cut : ℕ) (x : Seat C) (k c : Clock) (l : List Entry) → t ≤ r → c.told ≡ k.told → k.told ≤ q + t
    → FollowsAt (lazy core q (q + t)) q (lazy_seat (q + t) x k) l t cut
    → StandsLazily core q (q + r) (record { seat = x; clock = c }) x.timing (past q l r) (last_place q (own l (number_of x) cut))
    → own l (number_of x) r ≡ own l (number_of x) cut → FollowsAt (lazy core q (q + r)) q (lazy_seat (q + r) x c) l r r
lazy_later {C} core q t r cut x k c l order tolds told f s owns =
    let before : Clocked C = record { seat = x; clock = k } in
    let after : Clocked C = record { seat = x; clock = c } in
    let on : Follows (StandsLazily core q (q + r) after) q x.timing x.terminal.hand x.terminal.sent
    (option_and_then (later_place (last_begun x.terminal.hand x.terminal.sent) (r - t)) (option_and_then (later_place (last_begun x.terminal.hand x.terminal.sent) (q + t - k.told)) x.terminal.running))
    (past q l r) (own l (number_of x) cut) (t + (r - t)) =
    follows_on {stands = StandsLazily core q (q + t) before} {stands' = StandsLazily core q (q + r) after} q x.timing x.terminal.hand x.terminal.sent
    (option_and_then (later_place (last_begun x.terminal.hand x.terminal.sent) (q + t - k.told)) x.terminal.running) (past q l t) (past q l r) (own l (number_of x) cut) t (r - t) f s in
    let runs : option_and_then (later_place (last_begun x.terminal.hand x.terminal.sent) (r - t)) (option_and_then (later_place (last_begun x.terminal.hand x.terminal.sent) (q + t - k.told)) x.terminal.running)
    ≡ option_and_then (later_place (last_begun x.terminal.hand x.terminal.sent) (q + r - c.told)) x.terminal.running =
    later_later (last_begun x.terminal.hand x.terminal.sent) (q + t - k.told) (r - t) x.terminal.running
    ∙ ap (λ n. option_and_then (later_place (last_begun x.terminal.hand x.terminal.sent) n) x.terminal.running) (let e : q + t - k.told + (r - t) ≡ q + r - c.told = omega arith in e) in
    subst (λ w. Follows (StandsLazily core q (q + r) after) q x.timing x.terminal.hand x.terminal.sent (option_and_then (later_place (last_begun x.terminal.hand x.terminal.sent) (q + r - c.told)) x.terminal.running) (past q l r) w r) (sym owns)
    (subst (λ o. Follows (StandsLazily core q (q + r) after) q x.timing x.terminal.hand x.terminal.sent o (past q l r) (own l (number_of x) cut) r) runs
    (subst (λ v. Follows (StandsLazily core q (q + r) after) q x.timing x.terminal.hand x.terminal.sent
    (option_and_then (later_place (last_begun x.terminal.hand x.terminal.sent) (r - t)) (option_and_then (later_place (last_begun x.terminal.hand x.terminal.sent) (q + t - k.told)) x.terminal.running))
    (past q l r) (own l (number_of x) cut) v) (let e : t + (r - t) ≡ r = omega arith in e) on))

-- while the bus is quiet the clocks stay
idle_stands : {C : Type 0} (core : Ghosts C) (q t u : ℕ) (x : Seat C) (k : Clock) (l : List Entry) → t ≤ u → HaveEnded l t → FollowsAt (lazy core q (q + t)) q (lazy_seat (q + t) x k) l t t
    → StandsLazily core q (q + u) (record { seat = x; clock = k }) x.timing (past q l u) (last_place q (own l (number_of x) t))
idle_stands core q t u x k l order ended f =
    let s : StandsLazily core q (q + t) (record { seat = x; clock = k }) x.timing (past q l t) (last_place q (own l (number_of x) t)) = f.core in
    stands_later core q t u x k k l x.timing (last_place q (own l (number_of x) t)) order s
    (quiet_gap q l x.timing.sg t u k.gap_from (last_place q (own l (number_of x) t)) (sound_sg x.timing s.sound) order
    (λ v low high. no_carrier l v (λ y i. inl (let e : end_of y ≤ t = ended y i in omega arith))) s.gap) refl refl refl refl s.ready

idle_not_due : {C : Type 0} (core : Ghosts C) (q t u : ℕ) (x : Seat C) (k : Clock) (l : List Entry) → t ≤ u → HaveEnded l t → FollowsAt (lazy core q (q + t)) q (lazy_seat (q + t) x k) l t t
    → own l (number_of x) u ≡ own l (number_of x) t → q + u < k.ready → IsDue q l (station_of x) u → ⊥
idle_not_due core q t u x k l order ended f owns early due =
    let lengths : length (own l (number_of x) u) ≡ length (own l (number_of x) t) = ap length owns in
    let left : length (own l (number_of x) u) < length x.terminal.hand.messages = due.left in
    let count : x.terminal.sent ≡ length (own l (number_of x) t) = f.count in
    not_ready core q (q + u) (record { seat = x; clock = k }) x.timing (past q l u) (last_place q (own l (number_of x) t)) (idle_stands core q t u x k l order ended f) early
    (subst (λ o. MayStart x.timing (past q l u) (last_place q o)) owns due.may) (omega arith)

pub rests_ended : {C : Type 0} (core : Ghosts C) (q h t : ℕ) (seats : List (Seat C)) (clocks : List Clock) (l : List Entry) → RestsAt core q h seats clocks l t → t < h → HaveEnded l t
rests_ended core q h t seats clocks l r below = elim r.ended [ inl e ↦ e | inr at ↦ absurd (omega arith) ]

-- nobody is due before the first clock is ready
pub rests_idle : {C : Type 0} (core : Ghosts C) (q h t s : ℕ) (seats : List (Seat C)) (clocks : List Clock) (l : List Entry) → RestsAt core q h seats clocks l t → t < h → NextPlace (q + t) (q + h) clocks (q + s)
    → RunsTo (lazy core q (q + s)) q (lazy_seats (q + s) seats clocks) l s
rests_idle {C} core q h t s seats clocks l r below next =
    let low : q + t ≤ q + s = next.low in
    let ended : HaveEnded l t = rests_ended core q h t seats clocks l r below in
    let begun : (x : Entry) → In x l → x.moment < t = λ x i. begun_by x.moment x.terminal t (r.to.lawful.sent x i).0 in
    record {
      lawful = subst (λ ss. IsLawfulTo q ss s 0 l) (lazy_stations (q + t) seats clocks r.same_length ∙ sym (lazy_stations (q + s) seats clocks r.same_length))
          (subst (λ v. IsLawfulTo q (map station_of (lazy_seats (q + t) seats clocks)) v 0 l) (let e : t + (s - t) ≡ s = omega arith in e)
          (idle_stretch q (map station_of (lazy_seats (q + t) seats clocks)) t (s - t) l r.to.lawful (λ u sender from to there due.
          let m = from_map station_of (lazy_seats (q + t) seats clocks) sender there in
          let w = lazy_from (q + t) seats clocks m.place m.element r.same_length m.at in
          let f : FollowsAt (lazy core q (q + t)) q (lazy_seat (q + t) w.seat w.clock) l t t = r.to.follow m.place (lazy_seat (q + t) w.seat w.clock) (lazy_at (q + t) seats clocks m.place w.seat w.clock w.seat_at w.clock_at) in
          let same : station_of w.seat ≡ sender = ap station_of w.is ∙ m.same in
          let early : q + u < w.clock.ready = elim (next.before m.place w.clock w.clock_at) [ inl late ↦ omega arith | inr now ↦ absurd (omega arith) ] in
          idle_not_due core q t u w.seat w.clock l from ended f (own_after l (number_of w.seat) t u begun from) early (subst (λ a. IsDue q l a u) (sym same) due))));
      follow = λ j y at.
          let w = lazy_from (q + s) seats clocks j y r.same_length at in
          let f : FollowsAt (lazy core q (q + t)) q (lazy_seat (q + t) w.seat w.clock) l t t = r.to.follow j (lazy_seat (q + t) w.seat w.clock) (lazy_at (q + t) seats clocks j w.seat w.clock w.seat_at w.clock_at) in
          let told : w.clock.told ≤ q + t = f.core.told in
          let order : t ≤ s = omega arith in
          subst (λ z. FollowsAt (lazy core q (q + s)) q z l s s) w.is
          (lazy_later core q t s t w.seat w.clock w.clock l order refl told f (idle_stands core q t s w.seat w.clock l order ended f) (own_after l (number_of w.seat) t s begun order));
      room = λ j y at. let k : 2 ^ 62 - s ≤ 2 ^ 62 = omega arith in k;
    }

-- a message in the list has a wordstring, where those before had one
pub grown_some : (t : ℕ) (l m : List Entry) → Grown t l m → ((x : Entry) → In x l → 0 < length x.message) → (x : Entry) → In x m → 0 < length x.message
grown_some t l m g some x i = elim (in_append_cases l g.more x (subst (In x) g.is i)) [ inl old ↦ some x old | inr new ↦ g.some x new ]

-- a sender whose clock is ready when all decide starts
ready_starts : {C : Type 0} (core : Ghosts C) (q s : ℕ) (x : Seat C) (k : Clock) (xs ys : List (Seat (Clocked C))) (j : ℕ) (l m : List Entry) → slice_get xs j ≡ Some (lazy_seat (q + s) x k) → FollowsAt (lazy core q (q + s)) q (lazy_seat (q + s) x k) l s s
    → k.ready ≤ q + s → q + s < 2 ^ 62 → Decided (lazy core q (q + s)) q s xs ys l m → HasEntry m (number_of x) s
ready_starts {C} core q s x k xs ys j l m at f ready small d =
    let g = d.grown in
    let due = is_ready core q (q + s) (record { seat = x; clock = k }) x.timing (past q l s) (last_place q (own l (number_of x) s)) f.core ready small in
    let pasts : past q m s ≡ past q l s = ap (λ w. past q w s) g.is ∙ grown_past q l g.more s g.at in
    let owns : own m (number_of x) s ≡ own l (number_of x) s = ap (λ w. own w (number_of x) s) g.is ∙ grown_own l g.more (number_of x) s g.at in
    let lengths : length (own m (number_of x) s) ≡ length (own l (number_of x) s) = ap length owns in
    let count : x.terminal.sent ≡ length (own l (number_of x) s) = f.count in
    let left : x.terminal.sent < length x.terminal.hand.messages = due.1 in
    let is_due : IsDue q m (station_of x) s = record {
      may = subst (λ p. MayStart x.timing p (last_place q (own m (number_of x) s))) (sym pasts) (subst (λ o. MayStart x.timing (past q l s) (last_place q o)) (sym owns) due.0);
      left = let n : length (own m (number_of x) s) < length x.terminal.hand.messages = omega arith in n;
    } in
    let there : In (station_of x) (map station_of ys) = subst (λ ss. In (station_of x) ss) (sym d.stations) (in_map station_of xs j (lazy_seat (q + s) x k) at) in
    (d.lawful.exact s (station_of x) there (inl (let n : s < s + 1 = omega arith in n))).1 is_due

-- so the bus is busy to the end of the longest
pub starts_busy : {C : Type 0} (core : Ghosts C) (q h t s e : ℕ) (seats : List (Seat C)) (clocks : List Clock) (ys : List (Seat (Clocked C))) (l m : List Entry) → length clocks ≡ length seats
    → RunsTo (lazy core q (q + s)) q (lazy_seats (q + s) seats clocks) l s → NextPlace (q + t) (q + h) clocks (q + s) → s < h → q + s < 2 ^ 62
    → Decided (lazy core q (q + s)) q s (lazy_seats (q + s) seats clocks) ys l m → EndsAt s l m e → HaveEnded l s → ((x : Entry) → In x l → 0 < length x.message) → IsBusy m s e
starts_busy {C} core q h t s e seats clocks ys l m long run next below small d ends ended some =
    elim ends.last [
      | inr x ↦
          let busy : IsBusy m x.0.moment (end_of x.0) = entry_is_busy m x.0 x.1 (grown_some s l m d.grown some x.0 x.1) in
          subst (λ v. IsBusy m v e) x.2 (subst (λ v. IsBusy m x.0.moment v) x.3 busy)
      | inl none ↦ elim next.found [
        | inl at ↦ absurd (omega arith)
        | inr w ↦
            let j : ℕ = w.0 in
            let k : Clock = w.1 in
            let k_at : slice_get clocks w.0 ≡ Some w.1 = w.2 in
            let within : w.0 < length clocks = slice_get_within clocks w.0 w.1 k_at in
            let x = some_at seats w.0 (omega arith) in
            let at = lazy_at (q + s) seats clocks w.0 x.0 w.1 x.1 k_at in
            let entry : HasEntry m (number_of x.0) s = ready_starts core q s x.0 w.1 (lazy_seats (q + s) seats clocks) ys w.0 l m at (run.follow w.0 (lazy_seat (q + s) x.0 w.1) at) w.3 small d in
            let over : end_of entry.entry ≤ e = ends.ended ended entry.entry entry.there in
            let bit : 0 < bits entry.entry.message = bits_some entry.entry.message (grown_some s l m d.grown some entry.entry entry.there) in
            let moment : entry.entry.moment ≡ s = entry.moment in
            absurd (omega arith)
      ]
    ]

-- where the terminal gap counts from behind that
busy_gap : (q : ℕ) (m : List Entry) (timing : Timing) (s b r g : ℕ) (last : Option ℕ) → IsSound timing → IsBusy m s b → b ≤ r → ((u : ℕ) → b ≤ u → u < r → carrier m u ≡ false) → GapFrom timing.sg (past q m s) last g
    → GapFrom timing.sg (past q m r) last (gap_after timing.sg g (q + s) (q + b))
busy_gap q m timing s b r g last sound busy order quiet from =
    let sg : 9 ≤ timing.sg = sound.sg_least in
    quiet_gap q m timing.sg b r (gap_after timing.sg g (q + s) (q + b)) last (sound_sg timing sound) order quiet
    (elim (cases_lt (q + s) g) [
      | inl ahead ↦
          let e : gap_after timing.sg g (q + s) (q + b) ≡ q + b + timing.sg = ap (λ v. cond v (q + b) (q + b + timing.sg)) (lt-leb g (q + s) ahead) in
          subst (λ w. GapFrom timing.sg (past q m b) last w) (sym e) (busy_waiting q m timing.sg last s b g (omega arith) busy from ahead)
      | inr reached ↦
          let e : gap_after timing.sg g (q + s) (q + b) ≡ q + b = ap (λ v. cond v (q + b) (q + b + timing.sg)) (le-leb g (q + s) reached) in
          subst (λ w. GapFrom timing.sg (past q m b) last w) (sym e) (busy_elapsed q m timing.sg last s b g (omega arith) busy from reached)
    ])

-- behind what is sent, or at the horizon
pub busy_rests : {C : Type 0} (core : Ghosts C) (q h s e b r : ℕ) (seats : List (Seat C)) (clocks after : List Clock) (xs : List (Seat (Clocked C))) (l m : List Entry) → length clocks ≡ length seats
    → Each (λ k c. c ≡ clock_after (q + s) (q + b) k) clocks after → Decided (lazy core q (q + s)) q s xs (lazy_seats (q + s) seats clocks) l m → EndsAt s l m e → HaveEnded l s
    → ((x : Entry) → In x l → 0 < length x.message) → IsBusy m s e → IsBusy m s b → s < h → r ≡ min e h → b ≤ r → ((u : ℕ) → b ≤ u → u < r → carrier m u ≡ false) → RestsAt core q h seats after m r
busy_rests {C} core q h s e b r seats clocks after xs l m long clocks_after d ends ended some busy part below r_is order quiet =
    let longs : length after ≡ length clocks = clocks_after.same_length in
    let same_length : length after ≡ length seats = longs ∙ long in
    let some_bits : s < e = busy.some in
    let begun : (x : Entry) → In x m → x.moment < s + 1 = λ x i. begun_by x.moment x.terminal (s + 1) (d.lawful.sent x i).0 in
    record {
      same_length = same_length;
      to = record {
        lawful = subst (λ ss. IsLawfulTo q ss r 0 m) (lazy_stations (q + s) seats clocks long ∙ sym (lazy_stations (q + r) seats after same_length))
            (subst (λ v. IsLawfulTo q (map station_of (lazy_seats (q + s) seats clocks)) v 0 m) (let w : s + 1 + (r - (s + 1)) ≡ r = omega arith in w)
            (idle_stretch q (map station_of (lazy_seats (q + s) seats clocks)) (s + 1) (r - (s + 1)) m d.lawful (λ u sender from to there due.
            let w = from_map station_of (lazy_seats (q + s) seats clocks) sender there in
            let f = d.follow w.place w.element w.at in
            let mine : IsDue q m (station_of w.element) u = subst (λ a. IsDue q m a u) (sym w.same) due in
            busy_nobody q m w.element.timing (last_place q (own m (number_of w.element) u)) s e u f.sound busy (omega arith) (omega arith) mine.may)));
        follow = λ j y at.
            let w = lazy_from (q + r) seats after j y same_length at in
            let within : j < length after = slice_get_within after j w.clock w.clock_at in
            let k = some_at clocks j (omega arith) in
            let is : w.clock ≡ clock_after (q + s) (q + b) k.0 = clocks_after.each j k.0 w.clock k.1 w.clock_at in
            let f : FollowsAt (lazy core q (q + s)) q (lazy_seat (q + s) w.seat k.0) m s (s + 1) = d.follow j (lazy_seat (q + s) w.seat k.0) (lazy_at (q + s) seats clocks j w.seat k.0 w.seat_at k.1) in
            let st : StandsLazily core q (q + s) (record { seat = w.seat; clock = k.0 }) w.seat.timing (past q m s) (last_place q (own m (number_of w.seat) (s + 1))) = f.core in
            let sgs : k.0.sg ≡ w.seat.timing.sg = st.sg in
            let gap : GapFrom w.seat.timing.sg (past q m r) (last_place q (own m (number_of w.seat) (s + 1))) (gap_after k.0.sg k.0.gap_from (q + s) (q + b)) =
            subst (λ v. GapFrom w.seat.timing.sg (past q m r) (last_place q (own m (number_of w.seat) (s + 1))) (gap_after v k.0.gap_from (q + s) (q + b))) (sym sgs)
            (busy_gap q m w.seat.timing s b r k.0.gap_from (last_place q (own m (number_of w.seat) (s + 1))) st.sound part order quiet st.gap) in
            let up : s ≤ r = omega arith in
            let made : FollowsAt (lazy core q (q + r)) q (lazy_seat (q + r) w.seat (clock_after (q + s) (q + b) k.0)) m r r =
            lazy_later core q s r (s + 1) w.seat k.0 (clock_after (q + s) (q + b) k.0) m up refl st.told f
            (stands_later core q s r w.seat k.0 (clock_after (q + s) (q + b) k.0) m w.seat.timing (last_place q (own m (number_of w.seat) (s + 1))) up st gap refl refl refl refl refl)
            (own_after m (number_of w.seat) (s + 1) r begun (omega arith)) in
            subst (λ z. FollowsAt (lazy core q (q + r)) q z m r r) w.is (subst (λ c. FollowsAt (lazy core q (q + r)) q (lazy_seat (q + r) w.seat c) m r r) (sym is) made);
        room = λ j y at. let n : 2 ^ 62 - r ≤ 2 ^ 62 = omega arith in n;
      };
      ended = elim (cases_lt h e) [
        | inl over ↦ inr (let w : r ≡ h = omega arith in w)
        | inr whole ↦ inl (subst (HaveEnded m) (let w : e ≡ r = omega arith in w) (ends.ended ended))
      ];
      some = grown_some s l m d.grown some;
      within = omega arith;
    }
