-- A schedule so far on a cable, whenever its senders were powered up: lawful up to its last start, with the numbers of each sender. One
-- transmission more is lawful where its sender's timers allow it, and no other's do before it hears that one.
use Rattle.std.proofs.Common.{◌≡◌, ◌≢◌, ℕ, ◌+◌, ◌-◌, ◌<◌, ◌≤◌, ◌⊎◌, List, [], ◌∷◌, ◌++◌, length, inl, inr, arith, sym, refl, ap, ◌∙◌, subst}
use Rattle.std.specs.Prelude.{slice_get}
use Rattle.std.proofs.lemmas.Bool.{cases_lt, cases_eq, eq-eqb, ne_eqb}
use Rattle.bus_strings.specs.Members.{In}
use Rattle.bus_strings.proofs.MemberLaws.{in_push, in_map}
use Rattle.bus_strings.proofs.MessageLaws.{bits_some}
use Rattle.bus_strings.specs.Messages.{Entry, bits}
use Rattle.bus_strings.specs.Transmissions.{end_of}
use Rattle.bus_medium.specs.Past.{own}
use Rattle.bus_medium.specs.Lawful.{Station}
use Rattle.bus_medium.specs.Delays.{Delays, later, heard, heard_end}
use Rattle.bus_medium.specs.Wakes.{Wakes, woken_place}
use Rattle.bus_medium.specs.CableLawful.{IsDueOnCable, IsLawfulOnCableTo}
pub use Rattle.bus_medium.specs.Clocks.{put, AreTimed, ScheduledSoFar, StartsNext, due_behind, gap_from_behind, sent_behind}
use Rattle.bus_medium.specs.Clocks.{HasTimers, gap_behind}
use Rattle.bus_medium.specs.inside.Lazy.{IsLate}
use Rattle.bus_medium.proofs.BusyLaws.{entry_is_busy}
use Rattle.bus_medium.proofs.CableClocks.{timers_other, timers_own, timers_start, timers_not_due, timers_due}
use Rattle.bus_medium.proofs.Hearing.{IsUnheard, cable_looks, due_unheard}
use Rattle.bus_medium.proofs.Ruled.{ruled_none, idle_stretch, lone_start}
use Rattle.bus_medium.proofs.Waking.{woken_nobody}

-- the numbers of a terminal that started, and of the others
pub put_here : (f : ℕ → ℕ) (n v i : ℕ) → i ≡ n → put f n v i ≡ v
put_here f n v i e = rw (eq-eqb i n e) refl

pub put_other : (f : ℕ → ℕ) (n v i : ℕ) → i ≢ n → put f n v i ≡ f i
put_other f n v i e = rw (ne_eqb i n e) refl

split_at : (l u : ℕ) → l ≤ u → l + (u - l) ≡ u
split_at l u h = omega arith

pub gap_from_here : (quiet sg : ℕ) (delay : Delays) (wake : Wakes) (gap_from : ℕ → ℕ) (number : ℕ) (x : Entry) (k : ℕ) → k ≡ number
    → gap_from_behind quiet sg delay wake gap_from number x k ≡ quiet + heard_end delay x k + sg
gap_from_here quiet sg delay wake gap_from number x k e = rw (eq-eqb k number e) refl

pub gap_from_other : (quiet sg : ℕ) (delay : Delays) (wake : Wakes) (gap_from : ℕ → ℕ) (number : ℕ) (x : Entry) (k : ℕ) → k ≢ number
    → gap_from_behind quiet sg delay wake gap_from number x k ≡ gap_behind quiet sg (wake k) (gap_from k) (x.moment + delay x k) (heard_end delay x k)
gap_from_other quiet sg delay wake gap_from number x k e = rw (ne_eqb k number e) refl

-- who is late is so up to each earlier moment
late_before : (quiet gap_from due tg sent h m u : ℕ) → u ≤ m → (quiet + m < gap_from + tg) ⊎ ((quiet + m < due) ⊎ (h ≤ sent)) → (quiet + u < gap_from + tg) ⊎ ((quiet + u < due) ⊎ (h ≤ sent))
late_before quiet gap_from due tg sent h m u low (inl gap) = inl (omega arith)
late_before quiet gap_from due tg sent h m u low (inr (inl early)) = inr (inl (omega arith))
late_before quiet gap_from due tg sent h m u low (inr (inr none)) = inr (inr none)

-- before its start a sender is late
first_late : (quiet gap_from due tg sent h m u : ℕ) → u < m → (quiet + m ≤ due) ⊎ (quiet + m ≤ gap_from + tg) → (quiet + u < gap_from + tg) ⊎ ((quiet + u < due) ⊎ (h ≤ sent))
first_late quiet gap_from due tg sent h m u low (inl early) = inr (inl (omega arith))
first_late quiet gap_from due tg sent h m u low (inr gap) = inl (omega arith)

module _ (quiet sg : ℕ) (delay : Delays) (wake : Wakes) (stations : List Station) (are : AreTimed sg stations) (zeros : (x : Entry) → delay x x.terminal ≡ 0) where
  module _ (list : List Entry) (t last : ℕ) (heard_all due gap_from sent : ℕ → ℕ) (a : Station) (x : Entry)
      (so : ScheduledSoFar quiet delay wake stations list t last heard_all due gap_from sent) (starts : StartsNext quiet delay stations last heard_all due gap_from sent a x) where
    same : (b : Station) → In b stations → b.number ≡ a.number → b ≡ a
    same b i is = are.numbers b a i starts.there is

    no_lag : delay x a.number ≡ 0
    no_lag = ap (delay x) (sym starts.mine) ∙ zeros x

    silent : (b : Station) (u : ℕ) → In b stations → t ≤ u → (u < x.moment) ⊎ ((b.number ≢ a.number) × (u ≤ x.moment + delay x b.number))
        → IsDueOnCable quiet delay wake list b u → ⊥
    silent b u i low high d =
        elim (cases_lt u (heard_all b.number)) [
          | inl hears ↦ so.rests b u i low hears d
          | inr heard ↦ timers_not_due quiet delay wake b (are.sound b i) list (heard_all b.number) (due b.number) (gap_from b.number) (sent b.number) u (so.timers b i) heard
              (elim (cases_eq b.number a.number) [
                | inl here ↦ elim high [
                  | inl before ↦ subst (λ (c : Station). IsLate quiet c (due c.number) (gap_from c.number) (sent c.number) u) (sym (same b i here))
                      (first_late quiet (gap_from a.number) (due a.number) a.timing.tg (sent a.number) (length a.hand) x.moment u before starts.first)
                  | inr other ↦ absurd (other.0 here)
                ]
                | inr apart ↦ late_before quiet (gap_from b.number) (due b.number) b.timing.tg (sent b.number) (length b.hand) (x.moment + delay x b.number) u
                    (elim high [ inl before ↦ omega arith | inr other ↦ other.1 ]) (starts.slow b i apart)
              ]) d
        ]

    due_then : IsDueOnCable quiet delay wake list a x.moment
    due_then = timers_due quiet delay wake a (are.sound a starts.there) list (heard_all a.number) (due a.number) (gap_from a.number) (sent a.number) x.moment (so.timers a starts.there)
        (starts.ready a starts.there) starts.terminal starts.interval starts.left

    law_then : IsLawfulOnCableTo quiet delay wake stations (x.moment + 1) 0 (list ++ x ∷ [])
    law_then =
        let decided : t ≤ last = so.decided in
        let behind : last ≤ x.moment = starts.behind in
        let so_far : t + (x.moment - t) ≡ x.moment = split_at t x.moment (omega arith) in
        let to_start : IsLawfulOnCableTo quiet delay wake stations x.moment 0 list =
        subst (λ v. IsLawfulOnCableTo quiet delay wake stations v 0 list) so_far
        (idle_stretch (IsDueOnCable quiet delay wake) (cable_looks quiet delay wake) stations t (x.moment - t) list so.law (λ u s low_u high i d.
        let w : u < x.moment = omega arith in
        silent s u i low_u (inl w) d)) in
        let count : length (own list a.number x.moment) ≡ sent a.number = (so.timers a starts.there).counts x.moment (starts.ready a starts.there) in
        lone_start (IsDueOnCable quiet delay wake) (cable_looks quiet delay wake) stations list a x are.numbers to_start starts.there due_then
        (λ s i apart d. silent s x.moment i (omega arith) (inr (apart, omega arith)) d)
        starts.mine (ap (slice_get a.hand) count ∙ starts.message)

    timers_then : (b : Station) → In b stations → HasTimers quiet delay wake b (list ++ x ∷ []) (heard_end delay x b.number) (due_behind quiet due a x b.number)
        (gap_from_behind quiet sg delay wake gap_from a.number x b.number) (sent_behind sent a.number b.number)
    timers_then b i =
        let ready : heard_all b.number ≤ x.moment = starts.ready b i in
        let e : ℕ = heard_end delay x b.number in
        elim (cases_eq b.number a.number) [
          | inl here ↦
              let is : a ≡ b = sym (same b i here) in
              let k = so.timers a starts.there in
              let woken : a.timing.sg + wake a.number ≤ gap_from a.number = k.woken in
              let terminal : gap_from a.number + a.timing.tg ≤ quiet + x.moment = starts.terminal in
              let own : HasTimers quiet delay wake a (list ++ x ∷ []) (heard_end delay x a.number) (quiet + x.moment + a.timing.ti) (quiet + heard_end delay x a.number + a.timing.sg) (sent a.number + 1) =
              timers_own quiet delay wake a (are.sound a starts.there) list x (heard_all a.number) (due a.number) (gap_from a.number) (sent a.number) k (starts.ready a starts.there) starts.mine no_lag
              (omega arith) starts.some in
              let gap : quiet + heard_end delay x a.number + a.timing.sg ≡ gap_from_behind quiet sg delay wake gap_from a.number x a.number =
              ap (λ g. quiet + heard_end delay x a.number + g) (are.same_sg a starts.there) ∙ sym (gap_from_here quiet sg delay wake gap_from a.number x a.number refl) in
              subst (λ (c : Station). HasTimers quiet delay wake c (list ++ x ∷ []) (heard_end delay x c.number) (due_behind quiet due a x c.number)
              (gap_from_behind quiet sg delay wake gap_from a.number x c.number) (sent_behind sent a.number c.number)) is
              (subst (λ v. HasTimers quiet delay wake a (list ++ x ∷ []) (heard_end delay x a.number) v (gap_from_behind quiet sg delay wake gap_from a.number x a.number) (sent_behind sent a.number a.number))
              (sym (put_here due a.number (quiet + x.moment + a.timing.ti) a.number refl))
              (subst (λ v. HasTimers quiet delay wake a (list ++ x ∷ []) (heard_end delay x a.number) (quiet + x.moment + a.timing.ti) v (sent_behind sent a.number a.number)) gap
              (subst (λ v. HasTimers quiet delay wake a (list ++ x ∷ []) (heard_end delay x a.number) (quiet + x.moment + a.timing.ti) (quiet + heard_end delay x a.number + a.timing.sg) v)
              (sym (put_here sent a.number (sent a.number + 1) a.number refl)) own)))
          | inr apart ↦
              let begin : ℕ = x.moment + delay x b.number in
              let other : HasTimers quiet delay wake b (list ++ x ∷ []) e (due b.number) (gap_behind quiet b.timing.sg (wake b.number) (gap_from b.number) begin e) (sent b.number) =
              timers_other quiet delay wake b (are.sound b i) list x (heard_all b.number) (due b.number) (gap_from b.number) (sent b.number) (so.timers b i) (omega arith)
              (λ same. apart (sym same ∙ starts.mine)) starts.some in
              let gap : gap_behind quiet b.timing.sg (wake b.number) (gap_from b.number) begin e ≡ gap_from_behind quiet sg delay wake gap_from a.number x b.number =
              ap (λ g. gap_behind quiet g (wake b.number) (gap_from b.number) begin e) (are.same_sg b i) ∙ sym (gap_from_other quiet sg delay wake gap_from a.number x b.number apart) in
              subst (λ v. HasTimers quiet delay wake b (list ++ x ∷ []) e v (gap_from_behind quiet sg delay wake gap_from a.number x b.number) (sent_behind sent a.number b.number))
              (sym (put_other due a.number (quiet + x.moment + a.timing.ti) b.number apart))
              (subst (λ v. HasTimers quiet delay wake b (list ++ x ∷ []) e (due b.number) v (sent_behind sent a.number b.number)) gap
              (subst (λ v. HasTimers quiet delay wake b (list ++ x ∷ []) e (due b.number) (gap_behind quiet b.timing.sg (wake b.number) (gap_from b.number) begin e) v)
              (sym (put_other sent a.number (sent a.number + 1) b.number apart)) other))
        ]

    rests_then : (b : Station) (u : ℕ) → In b stations → x.moment + 1 ≤ u → u < heard_end delay x b.number → IsDueOnCable quiet delay wake (list ++ x ∷ []) b u → ⊥
    rests_then b u i low high d =
        let ready : heard_all b.number ≤ x.moment = starts.ready b i in
        let begin : ℕ = x.moment + delay x b.number in
        let hears : List Entry = heard delay b.number (list ++ x ∷ []) in
        elim (cases_lt (x.moment + delay x b.number) u) [
          | inl inside ↦
              woken_nobody quiet (wake b.number) hears b.timing (woken_place quiet (wake b.number) (own (list ++ x ∷ []) b.number u))
              begin (begin + bits x.message) u (are.sound b i)
              (entry_is_busy hears (later (delay x b.number) x)
              (in_map (λ (z : Entry). later (delay z b.number) z) (list ++ x ∷ []) x (in_push list x)) starts.some)
              inside (omega arith) d.may
          | inr sooner ↦
              let apart : b.number ≢ a.number = λ e. let none : delay x b.number ≡ 0 = ap (delay x) e ∙ no_lag in omega arith in
              let unheard : IsUnheard delay b.number u (x ∷ []) = record {
                heard = λ y j. elim j [
                  | inl is ↦ subst (λ (v : Entry). u ≤ v.moment + delay v b.number) (sym is) sooner
                  | inr nothing ↦ absurd nothing
                ];
                own = λ y j mine. elim j [
                  | inl is ↦ absurd (apart (sym mine ∙ ap (λ (v : Entry). v.terminal) is ∙ starts.mine))
                  | inr nothing ↦ absurd nothing
                ];
              } in
              timers_not_due quiet delay wake b (are.sound b i) list (heard_all b.number) (due b.number) (gap_from b.number) (sent b.number) u (so.timers b i) (omega arith)
              (late_before quiet (gap_from b.number) (due b.number) b.timing.tg (sent b.number) (length b.hand) (x.moment + delay x b.number) u sooner (starts.slow b i apart))
              ((due_unheard quiet delay wake list (x ∷ []) b u unheard).0 d)
        ]

    pub known_step : ScheduledSoFar quiet delay wake stations (list ++ x ∷ []) (x.moment + 1) (end_of x)
        (heard_end delay x) (due_behind quiet due a x) (gap_from_behind quiet sg delay wake gap_from a.number x) (sent_behind sent a.number)
    known_step =
        let bit : 0 < bits x.message = bits_some x.message starts.some in
        record {
          law = law_then;
          timers = timers_then;
          rests = rests_then;
          decided = omega arith;
          heard = λ b i. omega arith;
        }

  -- before anything is sent, for numbers that tell when each interval elapses first
  pub known_start : (due : ℕ → ℕ) → ((s : Station) → In s stations → s.timing.quiet + s.timing.due + wake s.number ≡ due s.number)
      → ScheduledSoFar quiet delay wake stations [] 0 0 (λ _. 0) due (λ k. sg + wake k) (λ _. 0)
  known_start due due_is = record {
    law = ruled_none (IsDueOnCable quiet delay wake) (cable_looks quiet delay wake) stations;
    timers = λ s i.
        subst (λ v. HasTimers quiet delay wake s [] 0 v (sg + wake s.number) 0) (due_is s i)
        (subst (λ g. HasTimers quiet delay wake s [] 0 (s.timing.quiet + s.timing.due + wake s.number) (g + wake s.number) 0) (are.same_sg s i)
        (timers_start quiet delay wake s (are.sound s i)));
    rests = λ s u i low high d. absurd (omega arith);
    decided = omega arith;
    heard = λ s i. omega arith;
  }

  -- it is lawful up to its end
  pub known_lawful : (list : List Entry) (t last : ℕ) (heard_all due gap_from sent : ℕ → ℕ) → ScheduledSoFar quiet delay wake stations list t last heard_all due gap_from sent
      → IsLawfulOnCableTo quiet delay wake stations last 0 list
  known_lawful list t last heard_all due gap_from sent so =
      subst (λ v. IsLawfulOnCableTo quiet delay wake stations v 0 list) (split_at t last so.decided)
      (idle_stretch (IsDueOnCable quiet delay wake) (cable_looks quiet delay wake) stations t (last - t) list so.law (λ u s low high i d.
      let ends : last ≤ heard_all s.number = so.heard s i in
      let decided : t ≤ last = so.decided in
      let w : u < last = omega arith in
      so.rests s u i low (omega arith) d))
