-- How a sender's numbers go with what it hears, and that they tell when it is due.
use Rattle.std.proofs.Common.{◌≡◌, ◌≢◌, ℕ, ◌+◌, ◌-◌, ◌<◌, ◌≤◌, ◌⊎◌, max, false, List, [], ◌∷◌, ◌++◌, length, drop, Option, Some, None, inl, inr, arith, sym, refl, ap, ◌∙◌, subst}
use Rattle.std.specs.Option.{option_map}
use Rattle.std.proofs.lemmas.Bool.{cases_lt, le-leb, lt-leb}
use Rattle.std.proofs.lemmas.List.{length_push}
use Rattle.bus_timers.specs.Timings.{IsSound, due_place}
use Rattle.bus_timers.specs.GapPlace.{GapFrom}
use Rattle.bus_timers.proofs.GapStepLaws.{gap_ready}
use Rattle.bus_timers.proofs.TimingLaws.{sound_sg, sound_tg}
use Rattle.bus_strings.specs.Members.{In}
use Rattle.bus_strings.proofs.MemberLaws.{in_push, in_push_cases, from_map}
use Rattle.bus_strings.proofs.MessageLaws.{bits_some}
use Rattle.bus_strings.specs.Messages.{Entry, bits}
use Rattle.bus_strings.specs.Transmissions.{carrier, end_of}
use Rattle.bus_medium.specs.Past.{own}
use Rattle.bus_medium.specs.BusyLaws.{IsBusy}
use Rattle.bus_medium.specs.Lawful.{Station}
use Rattle.bus_medium.specs.Delays.{Delays, later, heard, heard_end}
use Rattle.bus_medium.specs.Wakes.{Wakes, woken_past, woken_place}
use Rattle.bus_medium.specs.CableLawful.{IsDueOnCable}
use Rattle.bus_medium.proofs.BusyLaws.{entry_is_busy}
use Rattle.bus_medium.proofs.PastLaws.{past_push, own_later, own_push, own_push_other, last_push, no_carrier}
use Rattle.bus_medium.proofs.Hearing.{heard_push, not_before, own_none}
use Rattle.bus_medium.specs.Clocks.{GapAt, HasTimers, gap_behind, ClockTells}
use Rattle.bus_medium.specs.inside.Lazy.{IsLate}
use Rattle.bus_medium.proofs.Waking.{length_woken, at_quiets, busy_elapsed_at, busy_waiting_at, busy_waiting_whole, at_power_up, at_settled, at_start}

pub gap_elapsed : (quiet sg wake gap_from m e : ℕ) → gap_from ≤ quiet + m → gap_behind quiet sg wake gap_from m e ≡ quiet + e
gap_elapsed quiet sg wake gap_from m e h = rw (le-leb gap_from (quiet + m) h) refl

pub gap_waiting : (quiet sg wake gap_from m e : ℕ) → quiet + m < gap_from → gap_behind quiet sg wake gap_from m e ≡ max (quiet + e + sg) (sg + wake)
gap_waiting quiet sg wake gap_from m e h = rw (lt-leb gap_from (quiet + m) h) refl

pub max_first : (a b : ℕ) → b ≤ a → a ≡ max a b
max_first a b h = grind arith

max_second : (a b : ℕ) → a ≤ b → b ≡ max a b
max_second a b h = grind arith

module _ (quiet : ℕ) (delay : Delays) (wake : Wakes) (s : Station) (sound : IsSound s.timing) where
  abbrev n : ℕ
  n = s.number

  abbrev woke : ℕ
  woke = wake s.number

  abbrev gap_sg : ℕ
  gap_sg = s.timing.sg

  some_sg : 5 ≤ gap_sg
  some_sg = let k : 9 ≤ gap_sg = sound.sg_least in omega arith

  -- its own transmissions are the same from there on
  own_same : (list : List Entry) (heard_all m : ℕ) → ((x : Entry) → In x list → x.terminal ≡ n → x.moment < heard_all) → heard_all ≤ m → own list n m ≡ own list n heard_all
  own_same list heard_all m begun low = own_later list n heard_all m low (λ x i mine from to. let k : x.moment < heard_all = begun x i mine in omega arith)

  -- the gap that stands at one moment, with nothing more heard
  later_gap : (l : List Entry) (last : Option ℕ) (v m gap_from : ℕ) → woke ≤ quiet + v → v ≤ m → ((u : ℕ) → v ≤ u → carrier l u ≡ false)
      → GapAt gap_sg quiet woke l v last gap_from → GapAt gap_sg quiet woke l m last gap_from
  later_gap l last v m gap_from h low silent at =
      subst (λ u. GapAt gap_sg quiet woke l u last gap_from) (let e : v + (m - v) ≡ m = omega arith in e)
      (at_quiets gap_sg quiet woke some_sg l last v (m - v) gap_from h silent at)

  -- nothing is heard when all has ended
  silent_behind : (list : List Entry) (x : Entry) (heard_all : ℕ) → ((y : Entry) → In y list → end_of y + delay y n ≤ heard_all) → heard_all ≤ x.moment + delay x n
      → (u : ℕ) → end_of x + delay x n ≤ u → carrier (heard delay n list ++ later (delay x n) x ∷ []) u ≡ false
  silent_behind list x heard_all ended low u over =
      no_carrier (heard delay n list ++ later (delay x n) x ∷ []) u (λ y i. elim (in_push_cases (heard delay n list) (later (delay x n) x) y i) [
        | inl old ↦
            let f = from_map (λ (z : Entry). later (delay z n) z) list y old in
            let k : end_of f.0 + delay f.0 n ≤ heard_all = ended f.0 f.1 in
            let e : f.0.moment + delay f.0 n + bits f.0.message ≡ end_of y = ap end_of f.2 in
            inl (omega arith)
        | inr is ↦ let e : end_of y ≡ x.moment + delay x n + bits x.message = ap end_of is in inl (omega arith)
      ])

  -- what it has heard before is no other
  same_before : (list : List Entry) (x : Entry) (last : Option ℕ) (u gap_from : ℕ) → u ≤ x.moment + delay x n
      → GapAt gap_sg quiet woke (heard delay n list) u last gap_from
      → GapAt gap_sg quiet woke (heard delay n list ++ later (delay x n) x ∷ []) u last gap_from
  same_before list x last u gap_from low at = record {
    g = at.g;
    is = at.is;
    from = subst (λ p. GapFrom gap_sg (drop woke p) last at.g) (sym (past_push quiet (heard delay n list) (later (delay x n) x) u low)) at.from;
  }

  -- a transmission of another
  pub timers_other : (list : List Entry) (x : Entry) (heard_all due gap_from sent : ℕ) → HasTimers quiet delay wake s list heard_all due gap_from sent → heard_all ≤ x.moment + delay x n → x.terminal ≢ n → 0 < length x.message
      → HasTimers quiet delay wake s (list ++ x ∷ []) (heard_end delay x n) due (gap_behind quiet gap_sg woke gap_from (x.moment + delay x n) (heard_end delay x n)) sent
  timers_other list x heard_all due gap_from sent k low apart some =
      let bit : 0 < bits x.message = bits_some x.message some in
      let begin : ℕ = x.moment + delay x n in
      let end : ℕ = heard_end delay x n in
      let l : List Entry = heard delay n list ++ later (delay x n) x ∷ [] in
      let busy : IsBusy l (x.moment + delay x n) (x.moment + delay x n + bits x.message) =
      entry_is_busy l (later (delay x n) x) (in_push (heard delay n list) (later (delay x n) x)) some in
      let end_is : x.moment + delay x n + bits x.message ≡ heard_end delay x n = omega arith in
      let kept : (m : ℕ) → heard_all ≤ m → own (list ++ x ∷ []) n m ≡ own list n (x.moment + delay x n) = λ m at.
      own_push_other list n m x (λ p. apart p.0) ∙ own_same list heard_all m k.begun at ∙ sym (own_same list heard_all (x.moment + delay x n) k.begun low) in
      let no_more : (u : ℕ) → heard_end delay x n ≤ u → carrier l u ≡ false = λ u over. silent_behind list x heard_all k.ended low u over in
      let woken : gap_sg + woke ≤ gap_from = k.woken in
      let at_end : (m : ℕ) → heard_end delay x n ≤ m → woke ≤ quiet + m
      → GapAt gap_sg quiet woke l m (woken_place quiet woke (own list n (x.moment + delay x n)))
      (gap_behind quiet gap_sg woke gap_from (x.moment + delay x n) (heard_end delay x n)) = λ m over powered.
      elim (cases_lt (quiet + (x.moment + delay x n)) woke) [
        | inr before ↦
            let at : GapAt gap_sg quiet woke l (x.moment + delay x n) (woken_place quiet woke (own list n (x.moment + delay x n))) gap_from =
            same_before list x (woken_place quiet woke (own list n (x.moment + delay x n))) (x.moment + delay x n) gap_from (omega arith) (k.gap (x.moment + delay x n) low before) in
            elim (cases_lt (quiet + (x.moment + delay x n)) gap_from) [
              | inl waits ↦
                  later_gap l (woken_place quiet woke (own list n (x.moment + delay x n))) (heard_end delay x n) m
                  (gap_behind quiet gap_sg woke gap_from (x.moment + delay x n) (heard_end delay x n)) (omega arith) over no_more
                  (subst (λ v. GapAt gap_sg quiet woke l (heard_end delay x n) (woken_place quiet woke (own list n (x.moment + delay x n))) v)
                  (max_first (quiet + heard_end delay x n + gap_sg) (gap_sg + woke) (omega arith) ∙ sym (gap_waiting quiet gap_sg woke gap_from (x.moment + delay x n) (heard_end delay x n) waits))
                  (subst (λ v. GapAt gap_sg quiet woke l v (woken_place quiet woke (own list n (x.moment + delay x n))) (quiet + v + gap_sg)) end_is
                  (busy_waiting_whole gap_sg quiet woke some_sg l (woken_place quiet woke (own list n (x.moment + delay x n))) (x.moment + delay x n) (x.moment + delay x n + bits x.message) gap_from before busy waits at)))
              | inr elapsed ↦
                  later_gap l (woken_place quiet woke (own list n (x.moment + delay x n))) (heard_end delay x n) m
                  (gap_behind quiet gap_sg woke gap_from (x.moment + delay x n) (heard_end delay x n)) (omega arith) over no_more
                  (subst (λ v. GapAt gap_sg quiet woke l (heard_end delay x n) (woken_place quiet woke (own list n (x.moment + delay x n))) v)
                  (sym (gap_elapsed quiet gap_sg woke gap_from (x.moment + delay x n) (heard_end delay x n) elapsed))
                  (subst (λ v. GapAt gap_sg quiet woke l v (woken_place quiet woke (own list n (x.moment + delay x n))) (quiet + v)) end_is
                  (busy_elapsed_at gap_sg quiet woke some_sg l (woken_place quiet woke (own list n (x.moment + delay x n))) (x.moment + delay x n) (x.moment + delay x n + bits x.message) gap_from before busy elapsed at)))
            ]
        | inl after ↦
            let nothing : own list n (x.moment + delay x n) ≡ [] = own_none list n (x.moment + delay x n) (λ y i mine.
            let w : woke ≤ quiet + y.moment = k.owns y i mine in
            let v : y.moment < heard_all = k.begun y i mine in
            absurd (omega arith)) in
            let p : ℕ = woke - quiet in
            let p_is : quiet + (woke - quiet) ≡ woke = omega arith in
            let started : GapAt gap_sg quiet woke l (woke - quiet) (woken_place quiet woke (own list n (x.moment + delay x n))) (quiet + (woke - quiet) + gap_sg) =
            subst (λ o. GapAt gap_sg quiet woke l (woke - quiet) (woken_place quiet woke o) (quiet + (woke - quiet) + gap_sg)) (sym nothing)
            (at_power_up gap_sg quiet woke l (woke - quiet) (omega (arith, some_sg)) p_is) in
            let waits : quiet + (x.moment + delay x n) < gap_from = omega arith in
            elim (cases_lt (woke - quiet) (heard_end delay x n)) [
              | inl inside ↦
                  later_gap l (woken_place quiet woke (own list n (x.moment + delay x n))) (heard_end delay x n) m
                  (gap_behind quiet gap_sg woke gap_from (x.moment + delay x n) (heard_end delay x n)) (omega arith) over no_more
                  (subst (λ v. GapAt gap_sg quiet woke l (heard_end delay x n) (woken_place quiet woke (own list n (x.moment + delay x n))) v)
                  (max_first (quiet + heard_end delay x n + gap_sg) (gap_sg + woke) (omega arith) ∙ sym (gap_waiting quiet gap_sg woke gap_from (x.moment + delay x n) (heard_end delay x n) waits))
                  (subst (λ v. GapAt gap_sg quiet woke l v (woken_place quiet woke (own list n (x.moment + delay x n))) (quiet + v + gap_sg)) end_is
                  (busy_waiting_at gap_sg quiet woke some_sg l (woken_place quiet woke (own list n (x.moment + delay x n))) (x.moment + delay x n) (x.moment + delay x n + bits x.message) (woke - quiet)
                  (omega arith) busy (omega arith) (omega arith) started)))
              | inr behind ↦
                  later_gap l (woken_place quiet woke (own list n (x.moment + delay x n))) (woke - quiet) m
                  (gap_behind quiet gap_sg woke gap_from (x.moment + delay x n) (heard_end delay x n)) (omega arith) (omega arith) (λ u at. no_more u (omega arith))
                  (subst (λ v. GapAt gap_sg quiet woke l (woke - quiet) (woken_place quiet woke (own list n (x.moment + delay x n))) v)
                  ((let e : quiet + (woke - quiet) + gap_sg ≡ gap_sg + woke = omega arith in e)
                  ∙ max_second (quiet + heard_end delay x n + gap_sg) (gap_sg + woke) (omega arith) ∙ sym (gap_waiting quiet gap_sg woke gap_from (x.moment + delay x n) (heard_end delay x n) waits))
                  started)
            ]
      ] in
      record {
        ended = λ y i. elim (in_push_cases list x y i) [
          | inl old ↦ let w : end_of y + delay y n ≤ heard_all = k.ended y old in omega arith
          | inr is ↦ let w : end_of y + delay y n ≡ end_of x + delay x n = ap (λ (v : Entry). end_of v + delay v n) is in omega arith
        ];
        begun = λ y i mine. elim (in_push_cases list x y i) [
          | inl old ↦ let w : y.moment < heard_all = k.begun y old mine in omega arith
          | inr is ↦ absurd (apart (sym (ap (λ (v : Entry). v.terminal) is) ∙ mine))
        ];
        owns = λ y i mine. elim (in_push_cases list x y i) [
          | inl old ↦ k.owns y old mine
          | inr is ↦ absurd (apart (sym (ap (λ (v : Entry). v.terminal) is) ∙ mine))
        ];
        woken = elim (cases_lt (quiet + (x.moment + delay x n)) gap_from) [
          | inl waits ↦ omega (arith, gap_waiting quiet gap_sg woke gap_from (x.moment + delay x n) (heard_end delay x n) waits)
          | inr elapsed ↦ omega (arith, gap_elapsed quiet gap_sg woke gap_from (x.moment + delay x n) (heard_end delay x n) elapsed)
        ];
        gap = λ m over powered.
            subst (λ v. GapAt gap_sg quiet woke v m (woken_place quiet woke (own (list ++ x ∷ []) n m)) (gap_behind quiet gap_sg woke gap_from (x.moment + delay x n) (heard_end delay x n)))
            (sym (heard_push delay n list x))
            (subst (λ o. GapAt gap_sg quiet woke l m (woken_place quiet woke o) (gap_behind quiet gap_sg woke gap_from (x.moment + delay x n) (heard_end delay x n)))
            (sym (kept m (omega arith))) (at_end m over powered));
        interval = λ m over. ap (λ o. due_place s.timing (woken_place quiet woke o) + woke) (kept m (omega arith)) ∙ k.interval (x.moment + delay x n) low;
        counts = λ m over. ap length (kept m (omega arith)) ∙ k.counts (x.moment + delay x n) low;
      }

  -- a transmission of its own
  pub timers_own : (list : List Entry) (x : Entry) (heard_all due gap_from sent : ℕ) → HasTimers quiet delay wake s list heard_all due gap_from sent → heard_all ≤ x.moment → x.terminal ≡ n → delay x n ≡ 0 → woke ≤ quiet + x.moment
      → 0 < length x.message
      → HasTimers quiet delay wake s (list ++ x ∷ []) (heard_end delay x n) (quiet + x.moment + s.timing.ti) (quiet + heard_end delay x n + gap_sg) (sent + 1)
  timers_own list x heard_all due gap_from sent k low mine none powered some =
      let bit : 0 < bits x.message = bits_some x.message some in
      let l : List Entry = heard delay n list ++ later (delay x n) x ∷ [] in
      let busy : IsBusy l (x.moment + delay x n) (x.moment + delay x n + bits x.message) =
      entry_is_busy l (later (delay x n) x) (in_push (heard delay n list) (later (delay x n) x)) some in
      let end_is : x.moment + delay x n + bits x.message ≡ heard_end delay x n = omega arith in
      let pushed : (m : ℕ) → heard_end delay x n ≤ m → own (list ++ x ∷ []) n m ≡ own list n heard_all ++ x ∷ [] = λ m over.
      own_push list n m x mine (omega arith) ∙ ap (λ o. o ++ x ∷ []) (own_same list heard_all m k.begun (omega arith)) in
      let place : (m : ℕ) → heard_end delay x n ≤ m → woken_place quiet woke (own (list ++ x ∷ []) n m) ≡ Some (quiet + x.moment - woke) = λ m over.
      ap (woken_place quiet woke) (pushed m over) ∙ ap (option_map (λ p. p - woke)) (last_push quiet (own list n heard_all) x) in
      let at_here : quiet + (x.moment + delay x n) - woke ≡ quiet + x.moment - woke = omega arith in
      let started : GapAt gap_sg quiet woke l (x.moment + delay x n) (Some (quiet + x.moment - woke)) (quiet + (x.moment + delay x n) + gap_sg) =
      subst (λ o. GapAt gap_sg quiet woke l (x.moment + delay x n) (Some o) (quiet + (x.moment + delay x n) + gap_sg)) at_here
      (at_start gap_sg quiet woke l (x.moment + delay x n) (omega (arith, some_sg)) (omega arith)) in
      let at_end : GapAt gap_sg quiet woke l (heard_end delay x n) (Some (quiet + x.moment - woke)) (quiet + heard_end delay x n + gap_sg) =
      subst (λ v. GapAt gap_sg quiet woke l v (Some (quiet + x.moment - woke)) (quiet + v + gap_sg)) end_is
      (busy_waiting_at gap_sg quiet woke some_sg l (Some (quiet + x.moment - woke)) (x.moment + delay x n) (x.moment + delay x n + bits x.message) (x.moment + delay x n)
      (omega arith) busy (omega arith) (omega arith) started) in
      record {
        ended = λ y i. elim (in_push_cases list x y i) [
          | inl old ↦ let w : end_of y + delay y n ≤ heard_all = k.ended y old in omega arith
          | inr is ↦ let w : end_of y + delay y n ≡ end_of x + delay x n = ap (λ (v : Entry). end_of v + delay v n) is in omega arith
        ];
        begun = λ y i own. elim (in_push_cases list x y i) [
          | inl old ↦ let w : y.moment < heard_all = k.begun y old own in omega arith
          | inr is ↦ let w : y.moment ≡ x.moment = ap (λ (v : Entry). v.moment) is in omega arith
        ];
        owns = λ y i own. elim (in_push_cases list x y i) [
          | inl old ↦ k.owns y old own
          | inr is ↦ let w : y.moment ≡ x.moment = ap (λ (v : Entry). v.moment) is in omega arith
        ];
        woken = omega arith;
        gap = λ m over later_powered.
            subst (λ v. GapAt gap_sg quiet woke v m (woken_place quiet woke (own (list ++ x ∷ []) n m)) (quiet + heard_end delay x n + gap_sg))
            (sym (heard_push delay n list x))
            (subst (λ o. GapAt gap_sg quiet woke l m o (quiet + heard_end delay x n + gap_sg)) (sym (place m over))
            (later_gap l (Some (quiet + x.moment - woke)) (heard_end delay x n) m (quiet + heard_end delay x n + gap_sg) (omega arith) over
            (λ u at. silent_behind list x heard_all k.ended (omega arith) u at) at_end));
        interval = λ m over. ap (λ o. due_place s.timing o + woke) (place m over) ∙ omega arith;
        counts = λ m over. ap length (pushed m over) ∙ length_push (own list n heard_all) x ∙ ap (λ c. c + 1) (k.counts heard_all (omega arith));
      }

  -- before anything is sent
  pub timers_start : HasTimers quiet delay wake s [] 0 (s.timing.quiet + s.timing.due + woke) (gap_sg + woke) 0
  timers_start = record {
    ended = λ x i. absurd i;
    begun = λ x i mine. absurd i;
    owns = λ x i mine. absurd i;
    woken = omega arith;
    gap = λ m over powered. elim (cases_lt quiet woke) [
      | inl after ↦
          later_gap [] None (woke - quiet) m (gap_sg + woke) (omega arith) (omega arith) (λ u at. refl)
          (subst (λ v. GapAt gap_sg quiet woke [] (woke - quiet) None v) (let e : quiet + (woke - quiet) + gap_sg ≡ gap_sg + woke = omega arith in e)
          (at_power_up gap_sg quiet woke [] (woke - quiet) (omega (arith, some_sg)) (omega arith)))
      | inr before ↦
          later_gap [] None 0 m (gap_sg + woke) (omega arith) (omega arith) (λ u at. refl)
          (at_settled gap_sg quiet woke [] (omega (arith, some_sg)) before)
    ];
    interval = λ m over. refl;
    counts = λ m over. refl;
  }

  pub timers_not_due : (list : List Entry) (heard_all due gap_from sent u : ℕ) → HasTimers quiet delay wake s list heard_all due gap_from sent → heard_all ≤ u
      → IsLate quiet s due gap_from sent u → IsDueOnCable quiet delay wake list s u → ⊥
  timers_not_due list heard_all due gap_from sent u k low slow d =
      elim (cases_lt (quiet + u) woke) [
        | inl before ↦ not_before quiet delay wake list s u (sound_tg s.timing sound) (omega arith) d
        | inr powered ↦
            let at = k.gap u low powered in
            let p = (gap_ready s.timing (woken_past quiet woke (heard delay n list) u) (woken_place quiet woke (own list n u)) at.g
            (sound_sg s.timing sound) (sound_tg s.timing sound) at.from).1 d.may in
            let due_over : due_place s.timing (woken_place quiet woke (own list n u)) ≤ length (woken_past quiet woke (heard delay n list) u) = p.0 in
            let gap_over : at.g + s.timing.tg ≤ length (woken_past quiet woke (heard delay n list) u) = p.1 in
            let left : length (own list n u) < length s.hand = d.left in
            not_both (length (woken_past quiet woke (heard delay n list) u)) woke (quiet + u)
            (due_place s.timing (woken_place quiet woke (own list n u))) due at.g gap_from s.timing.tg (length (own list n u)) sent (length s.hand)
            (length_woken quiet woke (heard delay n list) u powered) (k.interval u low) at.is (k.counts u low) due_over gap_over left slow
      ]
    where
      not_both : (len w m own_due due own_gap gap_from tg own_sent sent h : ℕ) → len + w ≡ m → own_due + w ≡ due → own_gap + w ≡ gap_from → own_sent ≡ sent → own_due ≤ len → own_gap + tg ≤ len → own_sent < h → (m < gap_from + tg) ⊎ ((m < due) ⊎ (h ≤ sent)) → ⊥
      not_both len w m own_due due own_gap gap_from tg own_sent sent h a p r s x y z (inl t) = omega arith
      not_both len w m own_due due own_gap gap_from tg own_sent sent h a p r s x y z (inr (inl t)) = omega arith
      not_both len w m own_due due own_gap gap_from tg own_sent sent h a p r s x y z (inr (inr t)) = omega arith

  -- it is
  pub timers_due : (list : List Entry) (heard_all due gap_from sent u : ℕ) → HasTimers quiet delay wake s list heard_all due gap_from sent → heard_all ≤ u
      → gap_from + s.timing.tg ≤ quiet + u → due ≤ quiet + u → sent < length s.hand → IsDueOnCable quiet delay wake list s u
  timers_due list heard_all due gap_from sent u k low gap_over due_over left =
      let woken : gap_sg + woke ≤ gap_from = k.woken in
      let powered : woke ≤ quiet + u = omega arith in
      let at = k.gap u low powered in
      record {
        may = (gap_ready s.timing (woken_past quiet woke (heard delay n list) u) (woken_place quiet woke (own list n u)) at.g
            (sound_sg s.timing sound) (sound_tg s.timing sound) at.from).0 (
              due_within (length (woken_past quiet woke (heard delay n list) u)) woke (quiet + u) (due_place s.timing (woken_place quiet woke (own list n u))) due
                  (length_woken quiet woke (heard delay n list) u powered) (k.interval u low) due_over,
              gap_within (length (woken_past quiet woke (heard delay n list) u)) woke (quiet + u) at.g gap_from s.timing.tg
                  (length_woken quiet woke (heard delay n list) u powered) at.is gap_over,
            );
        left = omega (arith, k.counts u low);
      }
    where
      due_within : (len w m own_due due : ℕ) → len + w ≡ m → own_due + w ≡ due → due ≤ m → own_due ≤ len
      due_within len w m own_due due a p h = omega arith

      gap_within : (len w m own_gap gap_from tg : ℕ) → len + w ≡ m → own_gap + w ≡ gap_from → gap_from + tg ≤ m → own_gap + tg ≤ len
      gap_within len w m own_gap gap_from tg a p h = omega arith

pub clock_tells : ClockTells
clock_tells quiet delay wake s list heard_all due gap_from sent t sound k low = (
  (λ p. timers_due quiet delay wake s sound list heard_all due gap_from sent t k low p.1 p.0 p.2),
  (λ d. (
    at_least due (λ h. timers_not_due quiet delay wake s sound list heard_all due gap_from sent t k low (inr (inl h)) d),
    at_least (gap_from + s.timing.tg) (λ h. timers_not_due quiet delay wake s sound list heard_all due gap_from sent t k low (inl h) d),
    elim (cases_lt sent (length s.hand)) [ inl left ↦ left | inr none ↦ absurd (timers_not_due quiet delay wake s sound list heard_all due gap_from sent t k low (inr (inr none)) d) ],
  )),
)
  where
    at_least : (a : ℕ) → (quiet + t < a → ⊥) → a ≤ quiet + t
    at_least a h = elim (cases_lt (quiet + t) a) [ inl less ↦ absurd (h less) | inr more ↦ more ]
