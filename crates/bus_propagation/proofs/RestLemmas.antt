-- Who rests until a moment: nothing that others send brings a start forward, and none comes before the transmit interval elapses.
use Rattle.std.proofs.Common.{◌≡◌, ◌≢◌, ℕ, zero, suc, ◌+◌, ◌-◌, ◌<◌, ◌≤◌, ◌||◌, true, false, List, [], ◌∷◌, ◌++◌, length, Option, Some, None, get_or, inl, inr, arith, refl, sym, ap, ◌∙◌, subst}
use Rattle.std.specs.Prelude.{nat_lt}
use Rattle.std.specs.List.{list_any}
use Rattle.std.specs.Option.{MatchOption, option_map_or}
use Rattle.std.proofs.lemmas.Bool.{cases_lt, cases_eq, cases_Bool, lt-ltb, true≢false}
use Rattle.std.proofs.lemmas.List.{get_or-drop, get_or_append_left, get_or_push, get_or_past, length-drop, length_push}
use Rattle.std.proofs.lemmas.List.Folds.{list_any-append}
use Rattle.bus_timers.specs.MayStart.{IsQuiet, MayStart}
use Rattle.bus_timers.specs.Timings.{due_place}
use Rattle.bus_timers.specs.declared.timing.Timing.{Timing}
use Rattle.bus_strings.specs.Messages.{Entry}
use Rattle.bus_strings.specs.Transmissions.{carrier, pulses}
use Rattle.bus_strings.proofs.MemberLaws.{in_append_left}
use Rattle.bus_medium.specs.Past.{past, own}
use Rattle.bus_medium.specs.Lawful.{Station}
use Rattle.bus_medium.specs.Delays.{Delays, later, heard}
use Rattle.bus_medium.specs.Wakes.{Wakes, woken_past, woken_place}
use Rattle.bus_medium.specs.CableLawful.{IsDueOnCable}
use Rattle.bus_medium.proofs.PastLaws.{length_past, own_push_other}
use Rattle.bus_medium.proofs.Hearing.{heard_push}
use Rattle.bus_propagation.specs.declared.seat.Seat.{Seat}
use Rattle.bus_propagation.specs.inside.Hearing.{RestsUntil, IsNextStart}
use Rattle.bus_propagation.specs.inside.Seats.{station_of}
use Rattle.bus_propagation.specs.inside.Turns.{KeepsPlace, Listens, Rests, Awaits, Attended, Follows, EndsInterval}
use Rattle.bus_propagation.proofs.HearingLemmas.{rests_interval}

-- ---- a transmission more leaves no bit time quiet that wasn't
carrier_less : (l : List Entry) (x : Entry) (u : ℕ) → carrier (l ++ x ∷ []) u ≡ false → carrier l u ≡ false
carrier_less l x u e = elim (cases_Bool (carrier l u)) [
  | inl sounds ↦ absurd (true≢false (sym (list_any-append (pulses u) l (x ∷ []) ∙ ap (λ b. b || list_any (pulses u) (x ∷ [])) sounds) ∙ e))
  | inr rests ↦ rests
]

past_less : (q : ℕ) (l : List Entry) (x : Entry) (u k : ℕ) → get_or (past q (l ++ x ∷ []) u) k true ≡ false → get_or (past q l u) k true ≡ false
past_less q l x zero k e = e
past_less q l x (suc u) k e =
    let more : List Entry = l ++ x ∷ [] in
    let old : length (past q l u) ≡ q + u = length_past q l u in
    let new : length (past q more u) ≡ q + u = length_past q more u in
    elim (cases_lt k (q + u)) [
      | inl below ↦
          get_or_append_left (past q l u) (carrier l u ∷ []) true k (omega arith)
          ∙ past_less q l x u k (sym (get_or_append_left (past q more u) (carrier more u ∷ []) true k (omega arith)) ∙ e)
      | inr from ↦ elim (cases_eq k (q + u)) [
        | inl here ↦
            get_or_push (past q l u) (carrier l u) true k (omega arith)
            ∙ carrier_less l x u (sym (get_or_push (past q more u) (carrier more u) true k (omega arith)) ∙ e)
        | inr beyond ↦ absurd (true≢false (sym (get_or_past (past q more u ++ carrier more u ∷ []) k true (omega (arith, length_push (past q more u) (carrier more u)))) ∙ e))
      ]
    ]

quiet_less : (q w : ℕ) (l : List Entry) (x : Entry) (t i j : ℕ) → IsQuiet (woken_past q w (l ++ x ∷ []) t) i j → IsQuiet (woken_past q w l t) i j
quiet_less q w l x t i j quiet k low high =
    get_or-drop w (past q l t) k true
    ∙ past_less q l x t (w + k) (sym (get_or-drop w (past q (l ++ x ∷ []) t) k true) ∙ quiet k low high)

length_less : (q w : ℕ) (l : List Entry) (x : Entry) (t : ℕ) → length (woken_past q w (l ++ x ∷ []) t) ≡ length (woken_past q w l t)
length_less q w l x t =
    length-drop w (past q (l ++ x ∷ []) t) ∙ ap (λ n. n - w) (length_past q (l ++ x ∷ []) t ∙ sym (length_past q l t)) ∙ sym (length-drop w (past q l t))

may_less : (timing : Timing) (q w : ℕ) (l : List Entry) (x : Entry) (t : ℕ) (last : Option ℕ) → MayStart timing (woken_past q w (l ++ x ∷ []) t) last → MayStart timing (woken_past q w l t) last
may_less timing q w l x t last may =
    let same : length (woken_past q w (l ++ x ∷ []) t) ≡ length (woken_past q w l t) = length_less q w l x t in
    let sync = may.synchronized in
    record {
      interval = subst (λ n. due_place timing last ≤ n) same may.interval;
      synchronized = (sync.0, subst (λ n. sync.0 + timing.tg ≤ n) same sync.1, record { long = sync.2.long; quiet = quiet_less q w l x t (sync.0 - timing.sg) sync.0 sync.2.quiet; own = sync.2.own });
      gap_fits = subst (λ n. timing.tg ≤ n) same may.gap_fits;
      gap = subst (λ n. IsQuiet (woken_past q w l t) (n - timing.tg) n) same
          (quiet_less q w l x t (length (woken_past q w (l ++ x ∷ []) t) - timing.tg) (length (woken_past q w (l ++ x ∷ []) t)) may.gap);
    }

-- who is due though another sends was due
due_less : (q : ℕ) (delay : Delays) (wake : Wakes) (list : List Entry) (e : Entry) (s : Station) (t : ℕ) → e.terminal ≢ s.number
    → IsDueOnCable q delay wake (list ++ e ∷ []) s t → IsDueOnCable q delay wake list s t
due_less q delay wake list e s t apart due =
    let w : ℕ = wake s.number in
    let owns : own (list ++ e ∷ []) s.number t ≡ own list s.number t = own_push_other list s.number t e (λ p. apart p.0) in
    record {
      may = may_less s.timing q w (heard delay s.number list) (later (delay e s.number) e) t (woken_place q w (own list s.number t))
          (subst (λ l. MayStart s.timing (woken_past q w l t) (woken_place q w (own list s.number t))) (heard_push delay s.number list e)
          (subst (λ o. MayStart s.timing (woken_past q w (heard delay s.number (list ++ e ∷ [])) t) (woken_place q w o)) owns due.may));
      left = subst (λ o. length o < length s.hand) owns due.left;
    }

rests_other : (delay : Delays) (wake : Wakes) (s : Station) (list : List Entry) (e : Entry) (v u : ℕ) → e.terminal ≢ s.number → RestsUntil delay wake s list v u → RestsUntil delay wake s (list ++ e ∷ []) v u
rests_other delay wake s list e v u apart rests m low high begun due =
    rests m low high (λ x there mine. begun x (in_append_left list (e ∷ []) x there) mine) (due_less s.timing.quiet delay wake list e s m apart due)

module _ (delay : Delays) (wake : Wakes) where
  -- when another has begun
  pub still_rests : (list : List Entry) (e : Entry) (x : Seat) → e.terminal ≢ x.terminal → Rests delay wake list x → Rests delay wake (list ++ e ∷ []) x
  still_rests list e x apart rests = of x.next rests
    where
      of : (next : Option ℕ) → MatchOption next (length x.messages.items ≤ x.sent) (λ u. (x.sent < length x.messages.items) × RestsUntil delay wake (station_of x) list x.timers.moment u)
          → MatchOption next (length x.messages.items ≤ x.sent) (λ u. (x.sent < length x.messages.items) × RestsUntil delay wake (station_of x) (list ++ e ∷ []) x.timers.moment u)
      of None none = none
      of (Some u) some = (some.0, rests_other delay wake (station_of x) list e x.timers.moment u apart some.1)

  -- until its transmit interval elapses
  pub rests_first : (list : List Entry) (t : ℕ) (x : Seat) → Listens delay wake list t x → EndsInterval x.next x → Rests delay wake list x
  rests_first list t x lis ends = of x.next ends
    where
      of : (next : Option ℕ) → MatchOption next (length x.messages.items ≤ x.sent) (λ u. (x.sent < length x.messages.items) × (u ≡ x.timers.due - x.timing.quiet))
          → MatchOption next (length x.messages.items ≤ x.sent) (λ u. (x.sent < length x.messages.items) × RestsUntil delay wake (station_of x) list x.timers.moment u)
      of None none = none
      of (Some u) some = (
        some.0,
        subst (RestsUntil delay wake (station_of x) list x.timers.moment) (sym some.1)
            (rests_interval delay wake (station_of x) lis.sender.sound list x.timers.moment x.timers.due x.timers.gap_from lis.hears),
      )

  -- up to the next start that it knows
  pub awaits_rests : (list : List Entry) (x : Seat) → Awaits delay wake list x → Rests delay wake list x
  awaits_rests list x awaits = of x.next awaits
    where
      of : (next : Option ℕ) → MatchOption next (length x.messages.items ≤ x.sent) (λ u. (x.sent < length x.messages.items) × IsNextStart delay wake (station_of x) list x.timers.moment u)
          → MatchOption next (length x.messages.items ≤ x.sent) (λ u. (x.sent < length x.messages.items) × RestsUntil delay wake (station_of x) list x.timers.moment u)
      of None none = none
      of (Some u) some = (some.0, some.1.rests)

-- who attends follows, and so does who doesn't
pub attended_follows : (delay : Delays) (list : List Entry) (t : ℕ) (x y : Seat) → Attended delay list t x y → Follows delay list t x y
attended_follows delay list t x y a = record {
  station = a.station;
  place = a.place;
  on = λ wake lis rests. let o = a.on wake lis in (o.0, awaits_rests delay wake list y o.1);
}

pub rests_follows : (delay : Delays) (list : List Entry) (t : ℕ) (x : Seat) → KeepsPlace delay list x → Follows delay list t x x
rests_follows delay list t x place = record { station = refl; place = place; on = λ wake lis rests. (lis, rests) }

-- who doesn't start before a moment isn't about to
pub not_about : (next : Option ℕ) (until u : ℕ) → option_map_or (λ m. nat_lt m until) next false ≡ false → next ≡ Some u → u < until → ⊥
not_about next until u late is early =
    true≢false (sym (lt-ltb u until early) ∙ sym (ap (λ o. option_map_or (λ m. nat_lt m until) o false) is) ∙ late)
