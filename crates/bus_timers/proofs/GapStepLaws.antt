-- How the place from which the terminal gap counts moves, and that it says when a terminal may start.
use Rattle.std.proofs.Common.{◌≡◌, ℕ, ◌+◌, ◌-◌, ◌<◌, ◌≤◌, ◌⊎◌, ◌++◌, ◌∷◌, [], Bool, true, false, List, length, replicate, Option, Some}
use Rattle.std.proofs.Common.{None, unwrap_or, inl, inr, arith, sym, refl, ◌∙◌}
use Rattle.std.proofs.lemmas.List.{get_or_append_left, get_or_push, length_push, get_or_past, get_or-replicate, length-replicate}
use Rattle.std.proofs.lemmas.Bool.{cases_lt, true≢false}
use Rattle.bus_timers.specs.MayStart.{IsQuiet, IsSync}
use Rattle.bus_timers.specs.GapPlace.{GapFrom}
use Rattle.bus_timers.specs.GapLaws.{SettledPlace, StartedPlace, QuietPlace, CarrierPlace, WaitingCarrierPlace, OnePlace, PlaceDecides}

-- a quiet stretch stays within the past
quiet_within : (past : List Bool) (i e : ℕ) → IsQuiet past i e → i < e → e ≤ length past
quiet_within past i e q h =
    elim (cases_lt (length past) e) [
      | inl over ↦ absurd (true≢false (sym (get_or_past past (e - 1) true (omega arith)) ∙ q (e - 1) (omega arith) (omega arith)))
      | inr fits ↦ fits
    ]

-- a stretch of the past is as quiet once a bit time more has passed
quiet_pushed : (past : List Bool) (b : Bool) (i j : ℕ) → IsQuiet past i j → j ≤ length past → IsQuiet (past ++ b ∷ []) i j
quiet_pushed past b i j q h k low high = get_or_append_left past (b ∷ []) true k (omega arith) ∙ q k low high

-- and as quiet without the last bit time
quiet_popped : (past : List Bool) (b : Bool) (i j : ℕ) → IsQuiet (past ++ b ∷ []) i j → j ≤ length past → IsQuiet past i j
quiet_popped past b i j q h k low high = sym (get_or_append_left past (b ∷ []) true k (omega arith)) ∙ q k low high

-- one more quiet bit time
quiet_more : (past : List Bool) (i : ℕ) → IsQuiet past i (length past) → IsQuiet (past ++ false ∷ []) i (length past + 1)
quiet_more past i q k low high =
    elim (cases_lt k (length past)) [
      | inl below ↦ get_or_append_left past (false ∷ []) true k below ∙ q k low below
      | inr at ↦ get_or_push past false true k (omega arith)
    ]

-- a quiet stretch to the end begins behind the last carrier
quiet_behind : (past : List Bool) (m : ℕ) → IsQuiet (past ++ true ∷ []) m (length past + 1) → length past + 1 ≤ m
quiet_behind past m q =
    elim (cases_lt m (length past + 1)) [
      | inl below ↦ absurd (true≢false (sym (get_or_push past true true (length past) refl) ∙ q (length past) (omega arith) (omega arith)))
      | inr behind ↦ behind
    ]

-- the last start lies at least sg before a place of synchronization
sync_after : (sg : ℕ) (past : List Bool) (last : Option ℕ) (e : ℕ) → IsSync sg past last e → unwrap_or last 0 + sg ≤ e
sync_after sg past None e s = let h : sg ≤ e = s.long in omega arith
sync_after sg past (Some start) e s = let h : sg ≤ e = s.long in let k : start ≤ e - sg = s.own in omega arith

-- a place of synchronization lies within the past
sync_within : (sg : ℕ) (past : List Bool) (last : Option ℕ) (e : ℕ) → 0 < sg → IsSync sg past last e → e ≤ length past
sync_within sg past last e h s = let l : sg ≤ e = s.long in quiet_within past (e - sg) e s.quiet (omega arith)

-- it stays one once a bit time more has passed
sync_pushed : (sg : ℕ) (past : List Bool) (b : Bool) (last : Option ℕ) (e : ℕ) → IsSync sg past last e → e ≤ length past
    → IsSync sg (past ++ b ∷ []) last e
sync_pushed sg past b last e s h = record { long = s.long; quiet = quiet_pushed past b (e - sg) e s.quiet h; own = s.own }

-- and was one before the last bit time
sync_popped : (sg : ℕ) (past : List Bool) (b : Bool) (last : Option ℕ) (e : ℕ) → IsSync sg (past ++ b ∷ []) last e → e ≤ length past
    → IsSync sg past last e
sync_popped sg past b last e s h = record { long = s.long; quiet = quiet_popped past b (e - sg) e s.quiet h; own = s.own }

-- what is after the start is told by places alone
sync_own : (sg : ℕ) (last : Option ℕ) (e : ℕ) → unwrap_or last 0 + sg ≤ e → (past : List Bool) → IsQuiet past (e - sg) e
    → IsSync sg past last e
sync_own sg None e h past q = record { long = omega arith; quiet = q; own = tt }
sync_own sg (Some start) e h past q = record { long = omega arith; quiet = q; own = let k : start ≤ e - sg = omega arith in k }

-- the same of the lengths that lists show
quiet_more_at : (past : List Bool) (i : ℕ) → IsQuiet past i (length past) → IsQuiet (past ++ false ∷ []) i (length (past ++ false ∷ []))
quiet_more_at past i q k low high = quiet_more past i q k low (omega (arith, length_push past false))

-- the same behind the last carrier
quiet_behind_at : (past : List Bool) (m : ℕ) → IsQuiet (past ++ true ∷ []) m (length (past ++ true ∷ [])) → length past + 1 ≤ m
quiet_behind_at past m q = quiet_behind past m (λ k low high. q k low (omega (arith, length_push past true)))

-- what is quiet to the end was so a bit time before
quiet_less : (past : List Bool) (b : Bool) (m : ℕ) → IsQuiet (past ++ b ∷ []) m (length (past ++ b ∷ [])) → IsQuiet past m (length past)
quiet_less past b m q = quiet_popped past b m (length past) (λ k low high. q k low (omega (arith, length_push past b))) (omega arith)

-- no bit time lies between a place and one before it
no_quiet : (past : List Bool) (i j : ℕ) → j ≤ i → IsQuiet past i j
no_quiet past i j h k low high = absurd (omega arith)

-- a place of synchronization of a longer past is one of the shorter past, or its end
sync_cases : (sg : ℕ) (past : List Bool) (b : Bool) (last : Option ℕ) (e : ℕ) → 0 < sg → IsSync sg (past ++ b ∷ []) last e
    → IsSync sg past last e ⊎ (e ≡ length past + 1)
sync_cases sg past b last e pos s =
    let within : e ≤ length (past ++ b ∷ []) = sync_within sg (past ++ b ∷ []) last e pos s in
    elim (cases_lt (length past) e) [
      | inl over ↦ inr (omega (arith, length_push past b))
      | inr fits ↦ inl (sync_popped sg past b last e s fits)
    ]

-- carrier ends no synchronization gap
sync_carrier : (sg : ℕ) (past : List Bool) (last : Option ℕ) (e : ℕ) → 0 < sg → IsSync sg (past ++ true ∷ []) last e → IsSync sg past last e
sync_carrier sg past last e pos s =
    elim (sync_cases sg past true last e pos s) [
      | inl old ↦ old
      | inr at ↦
          let long : sg ≤ e = s.long in
          let behind : length past + 1 ≤ e - sg = quiet_behind past (e - sg) (λ k low high. s.quiet k low (omega arith)) in
          absurd (omega arith)
    ]

-- a quiet bit time leaves the place
pub gap_quiet : QuietPlace
gap_quiet sg past last g pos (inl x) =
    let reached : g ≤ length past = x.reached in
    inl (record {
      reached = omega (arith, length_push past false);
      sync = (x.sync.0, x.sync.1, sync_pushed sg past false last x.sync.0 x.sync.2 (sync_within sg past last x.sync.0 pos x.sync.2));
      quiet = quiet_more_at past g x.quiet;
      least = λ e m s low q. elim (sync_cases sg past false last e pos s) [
        | inl old ↦ x.least e m old low (quiet_less past false m q)
        | inr at ↦ omega arith
      ];
    })
gap_quiet sg past last g pos (inr w) =
    let ahead : length past < g = w.ahead in
    let near : g ≤ length past + sg = w.near in
    let own : unwrap_or last 0 + sg ≤ g = w.own in
    elim (cases_lt (length past + 1) g) [
      | inl later ↦ inr (record {
        ahead = omega (arith, length_push past false);
        near = omega (arith, length_push past false);
        own = own;
        quiet = quiet_more_at past (g - sg) w.quiet;
        none = λ e s. elim (sync_cases sg past false last e pos s) [
          | inl old ↦ w.none e old
          | inr at ↦
              let long : sg ≤ e = s.long in
              let k : g ≤ (e - sg) + sg = w.least (e - sg) (omega (arith, sync_after sg (past ++ false ∷ []) last e s))
              (quiet_popped past false (e - sg) (length past) (λ k low high. s.quiet k low (omega arith)) (omega arith)) in
              absurd (omega arith)
        ];
        least = λ m low q. w.least m low (quiet_less past false m q);
      })
      | inr now ↦ inl (record {
        reached = omega (arith, length_push past false);
        sync = (
          g,
          omega arith,
          sync_own sg last g own (past ++ false ∷ [])
              (λ k low high. quiet_more past (g - sg) w.quiet k low (omega arith)),
        );
        quiet = no_quiet (past ++ false ∷ []) g (length (past ++ false ∷ [])) (omega (arith, length_push past false));
        least = λ e m s low q. elim (sync_cases sg past false last e pos s) [
          | inl old ↦ absurd (w.none e old)
          | inr at ↦ omega arith
        ];
      })
    ]

-- carrier moves it
pub gap_carrier_elapsed : CarrierPlace
gap_carrier_elapsed sg past last g pos (inl x) h =
    inl (record {
      reached = omega (arith, length_push past true);
      sync = (
        x.sync.0,
        let k : x.sync.0 ≤ g = x.sync.1 in
            omega arith,
        sync_pushed sg past true last x.sync.0 x.sync.2 (sync_within sg past last x.sync.0 pos x.sync.2),
      );
      quiet = no_quiet (past ++ true ∷ []) (length past + 1) (length (past ++ true ∷ [])) (omega (arith, length_push past true));
      least = λ e m s low q. quiet_behind_at past m q;
    })
gap_carrier_elapsed sg past last g pos (inr w) h = let k : length past < g = w.ahead in absurd (omega arith)

-- and before the synchronization gap has elapsed
pub gap_carrier_waiting : WaitingCarrierPlace
gap_carrier_waiting sg past last g pos (inl x) h = let k : g ≤ length past = x.reached in absurd (omega arith)
gap_carrier_waiting sg past last g pos (inr w) h =
    let near : g ≤ length past + sg = w.near in
    let own : unwrap_or last 0 + sg ≤ g = w.own in
    inr (record {
      ahead = omega (arith, length_push past true);
      near = omega (arith, length_push past true);
      own = omega arith;
      quiet = no_quiet (past ++ true ∷ []) (length past + 1 + sg - sg) (length (past ++ true ∷ [])) (omega (arith, length_push past true));
      none = λ e s. w.none e (sync_carrier sg past last e pos s);
      least = λ m low q. let k : length past + 1 ≤ m = quiet_behind_at past m q in omega arith;
    })

-- an own start
pub gap_started : StartedPlace
gap_started sg past pos =
    inr (record {
      ahead = omega arith;
      near = omega arith;
      own = omega arith;
      quiet = no_quiet past (length past + sg - sg) (length past) (omega arith);
      none = λ e s. let k : e ≤ length past = sync_within sg past (Some (length past)) e pos s in
          let l : length past + sg ≤ e = sync_after sg past (Some (length past)) e s in absurd (omega arith);
      least = λ m low q. omega arith;
    })

-- the settled start
pub gap_settled : SettledPlace
gap_settled sg quiet pos h =
    let all : IsQuiet (replicate quiet false) 0 quiet = λ k low high. get_or-replicate quiet k false true high in
    inl (record {
      reached = omega (arith, length-replicate quiet false);
      sync = (sg, omega arith, record { long = omega arith; quiet = λ k low high. all k (omega arith) (omega arith); own = tt });
      quiet = λ k low high. all k (omega arith) (omega (arith, length-replicate quiet false));
      least = λ e m s low q. let k : sg ≤ e = s.long in omega arith;
    })

-- there is one place
gap_least : (sg : ℕ) (past : List Bool) (last : Option ℕ) (g h : ℕ) → GapFrom sg past last g → GapFrom sg past last h → g ≤ h
gap_least sg past last g h (inl a) (inl b) = a.least b.sync.0 h b.sync.2 b.sync.1 b.quiet
gap_least sg past last g h (inl a) (inr b) = absurd (b.none a.sync.0 a.sync.2)
gap_least sg past last g h (inr a) (inl b) = absurd (a.none b.sync.0 b.sync.2)
gap_least sg past last g h (inr a) (inr b) =
    let own : unwrap_or last 0 + sg ≤ h = b.own in
    let k : g ≤ h - sg + sg = a.least (h - sg) (omega arith) b.quiet in
    omega arith

-- there is one such place
pub gap_one : OnePlace
gap_one sg past last g h a b =
    let up : g ≤ h = gap_least sg past last g h a b in
    let down : h ≤ g = gap_least sg past last h g b a in
    omega arith

-- the place says when a terminal may start
pub gap_ready : PlaceDecides
gap_ready timing past last g pos tpos (inl x) =
    let reached : g ≤ length past = x.reached in (
      (λ p.
          let fits : g + timing.tg ≤ length past = p.1 in
          let before : x.sync.0 ≤ g = x.sync.1 in
          record {
            interval = p.0;
            synchronized = (x.sync.0, omega arith, x.sync.2);
            gap_fits = omega arith;
            gap = λ k low high. x.quiet k (omega arith) high;
          }),
      (λ may.
          let fits : timing.tg ≤ length past = may.gap_fits in
          let room : may.synchronized.0 + timing.tg ≤ length past = may.synchronized.1 in
          let k : g ≤ length past - timing.tg = x.least may.synchronized.0 (length past - timing.tg) may.synchronized.2
          (omega arith) may.gap in
          (may.interval, omega arith)),
    )
gap_ready timing past last g pos tpos (inr w) = (
  (λ p. let ahead : length past < g = w.ahead in let fits : g + timing.tg ≤ length past = p.1 in absurd (omega arith)),
  (λ may. absurd (w.none may.synchronized.0 may.synchronized.2)),
)
