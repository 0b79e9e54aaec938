-- The place from which the terminal gap counts, in the past of a terminal since its power-up, whenever that is: in the middle of a message too.
-- Places are counted as in the past of the bus, so that they go on for all terminals alike.
use Rattle.std.proofs.Common.{◌≡◌, ℕ, zero, suc, ◌+◌, ◌-◌, ◌<◌, ◌≤◌, true, false, List, [], ◌∷◌, ◌++◌, length, drop, get_or, replicate, Option, Some, None, inl, inr, arith, sym, refl, ap, ◌∙◌, subst}
use Rattle.std.proofs.lemmas.Bool.{cases_lt, cases_Bool, true≢false}
use Rattle.std.proofs.lemmas.List.{length-drop, drop-append-le, drop-replicate, drop_all, get_or-drop}
use Rattle.bus_timers.specs.declared.timing.Timing.{Timing}
use Rattle.bus_timers.specs.Timings.{IsSound}
use Rattle.bus_timers.specs.MayStart.{MayStart}
use Rattle.bus_timers.specs.GapPlace.{GapFrom}
use Rattle.bus_timers.proofs.GapStepLaws.{gap_quiet, gap_carrier_elapsed, gap_carrier_waiting, gap_started}
use Rattle.bus_timers.proofs.GapStretchLaws.{gap_quiets}
use Rattle.bus_strings.specs.Messages.{Entry}
use Rattle.bus_strings.specs.Transmissions.{carrier}
use Rattle.bus_medium.specs.Past.{past}
use Rattle.bus_medium.proofs.PastLaws.{length_past, past_at}
use Rattle.bus_medium.specs.BusyLaws.{Heard, IsBusy}
use Rattle.bus_medium.specs.Wakes.{woken_past}
pub use Rattle.bus_medium.specs.Clocks.{GapAt}

pub length_woken : (q w : ℕ) (l : List Entry) (v : ℕ) → w ≤ q + v → length (woken_past q w l v) + w ≡ q + v
length_woken q w l v h = omega (arith, length-drop w (past q l v), length_past q l v)

pub woken_more : (q w : ℕ) (l : List Entry) (v : ℕ) → w ≤ q + v → woken_past q w l (suc v) ≡ woken_past q w l v ++ carrier l v ∷ []
woken_more q w l v h = drop-append-le w (past q l v) (carrier l v ∷ []) (omega (arith, length_past q l v))

module _ (sg q w : ℕ) (some : 5 ≤ sg) (l : List Entry) (last : Option ℕ) where
  pub at_quiet : (v G : ℕ) → w ≤ q + v → carrier l v ≡ false → GapAt sg q w l v last G → GapAt sg q w l (suc v) last G
  at_quiet v G h silent a = record {
    g = a.g;
    is = a.is;
    from = subst (λ p. GapFrom sg p last a.g) (sym (woken_more q w l v h ∙ ap (λ b. woken_past q w l v ++ b ∷ []) silent))
        (gap_quiet sg (woken_past q w l v) last a.g (omega arith) a.from);
  }

  pub at_elapsed : (v G : ℕ) → w ≤ q + v → carrier l v ≡ true → G ≤ q + v → GapAt sg q w l v last G → GapAt sg q w l (suc v) last (q + suc v)
  at_elapsed v G h sounds low a =
      let g_is : a.g + w ≡ G = a.is in
      record {
        g = length (woken_past q w l v) + 1;
        is = omega (arith, length_woken q w l v h);
        from = subst (λ p. GapFrom sg p last (length (woken_past q w l v) + 1)) (sym (woken_more q w l v h ∙ ap (λ b. woken_past q w l v ++ b ∷ []) sounds))
            (gap_carrier_elapsed sg (woken_past q w l v) last a.g (omega arith) a.from (omega (arith, length_woken q w l v h)));
      }

  pub at_waiting : (v G : ℕ) → w ≤ q + v → carrier l v ≡ true → q + v < G → GapAt sg q w l v last G → GapAt sg q w l (suc v) last (q + suc v + sg)
  at_waiting v G h sounds high a =
      let g_is : a.g + w ≡ G = a.is in
      record {
        g = length (woken_past q w l v) + 1 + sg;
        is = omega (arith, length_woken q w l v h);
        from = subst (λ p. GapFrom sg p last (length (woken_past q w l v) + 1 + sg)) (sym (woken_more q w l v h ∙ ap (λ b. woken_past q w l v ++ b ∷ []) sounds))
            (gap_carrier_waiting sg (woken_past q w l v) last a.g (omega arith) a.from (omega (arith, length_woken q w l v h)));
      }

  -- a quiet stretch leaves it
  pub at_quiets : (v n G : ℕ) → w ≤ q + v → ((u : ℕ) → v ≤ u → carrier l u ≡ false) → GapAt sg q w l v last G → GapAt sg q w l (v + n) last G
  at_quiets v zero G h silent a = subst (λ u. GapAt sg q w l u last G) (let e : v ≡ v + 0 = omega arith in e) a
  at_quiets v (suc n) G h silent a =
      subst (λ u. GapAt sg q w l u last G) (let e : suc (v + n) ≡ v + suc n = omega arith in e)
      (at_quiet (v + n) G (omega arith) (silent (v + n) (omega arith)) (at_quiets v n G h silent a))

  -- in a busy stretch, behind an elapsed synchronization gap
  record Reached (v : ℕ) : Type 0 where
    G : ℕ
    low : G ≤ q + v
    at : GapAt sg q w l v last G

  reached_on : (v n : ℕ) → w ≤ q + v → Reached v → Reached (v + n)
  reached_on v zero h r = subst Reached (let e : v ≡ v + 0 = omega arith in e) r
  reached_on v (suc n) h r =
      let so : Reached (v + n) = reached_on v n h r in
      let low : so.G ≤ q + (v + n) = so.low in
      subst Reached (let e : suc (v + n) ≡ v + suc n = omega arith in e) (elim (cases_Bool (carrier l (v + n))) [
        | inl sounds ↦ record { G = q + suc (v + n); low = omega arith; at = at_elapsed (v + n) so.G (omega arith) sounds so.low so.at }
        | inr rests ↦ record { G = so.G; low = omega arith; at = at_quiet (v + n) so.G (omega arith) rests so.at }
      ])

  pub busy_elapsed_at : (a b G : ℕ) → w ≤ q + a → IsBusy l a b → G ≤ q + a → GapAt sg q w l a last G → GapAt sg q w l b last (q + b)
  busy_elapsed_at a b G h busy low at =
      let more : a < b = busy.some in
      let before : Reached (b - 1) = subst Reached (let e : a + (b - 1 - a) ≡ b - 1 = omega arith in e) (reached_on a (b - 1 - a) h (record { G = G; low = low; at = at })) in
      subst (λ v. GapAt sg q w l v last (q + v)) (let e : suc (b - 1) ≡ b = omega arith in e)
      (at_elapsed (b - 1) before.G (omega arith) busy.final before.low before.at)

  -- and before it has elapsed, also from the middle of it: the quiet inside is too short
  record Held (from v : ℕ) : Type 0 where
    behind : ℕ
    after : from ≤ behind
    within : behind ≤ v
    quiet : (k : ℕ) → behind ≤ k → k < v → carrier l k ≡ false
    at : GapAt sg q w l v last (q + behind + sg)

  near_by : (a b from v : ℕ) → IsBusy l a b → a ≤ from → v < b → (held : Held from v) → v ≤ held.behind + 4
  near_by a b from v busy low inside held =
      let after : from ≤ held.behind = held.after in
      elim (cases_lt (held.behind + 4) v) [
        | inl far ↦
            let p : Heard l held.behind = busy.soon held.behind (omega arith) (omega arith) in
            let p_low : held.behind ≤ p.at = p.low in let p_high : p.at ≤ held.behind + 4 = p.high in
            absurd (true≢false (sym p.on ∙ held.quiet p.at p_low (omega arith)))
        | inr close ↦ close
      ]

  held_more : (a b from v : ℕ) → w ≤ q + v → IsBusy l a b → a ≤ from → v < b → Held from v → Held from (suc v)
  held_more a b from v h busy low inside held =
      let within : held.behind ≤ v = held.within in
      let after : from ≤ held.behind = held.after in
      elim (cases_Bool (carrier l v)) [
        | inl sounds ↦
            let near : v ≤ held.behind + 4 = near_by a b from v busy low inside held in
            record {
              behind = suc v;
              after = omega arith;
              within = omega arith;
              quiet = λ k p r. absurd (omega arith);
              at = at_waiting v (q + held.behind + sg) h sounds (omega arith) held.at;
            }
        | inr rests ↦ record {
          behind = held.behind;
          after = after;
          within = omega arith;
          quiet = λ k p r. elim (cases_lt k v) [
            | inl old ↦ held.quiet k p old
            | inr now ↦ let e : k ≡ v = omega arith in ap (carrier l) e ∙ rests
          ];
          at = at_quiet v (q + held.behind + sg) h rests held.at;
        }
      ]

  held_on : (a b from n : ℕ) → w ≤ q + from → IsBusy l a b → a ≤ from → from + n < b → Held from from → Held from (from + n)
  held_on a b from zero h busy low inside held = subst (Held from) (let e : from ≡ from + 0 = omega arith in e) held
  held_on a b from (suc n) h busy low inside held =
      subst (Held from) (let e : suc (from + n) ≡ from + suc n = omega arith in e)
      (held_more a b from (from + n) (omega arith) busy low (omega arith) (held_on a b from n h busy low (omega arith) held))

  pub busy_waiting_at : (a b from : ℕ) → w ≤ q + from → IsBusy l a b → a ≤ from → from < b → GapAt sg q w l from last (q + from + sg) → GapAt sg q w l b last (q + b + sg)
  busy_waiting_at a b from h busy low inside at =
      let first : Held from from = record { behind = from; after = omega arith; within = omega arith; quiet = λ k p r. absurd (omega arith); at = at } in
      let e : from + (b - 1 - from) ≡ b - 1 = omega arith in
      let held : Held from (b - 1) = subst (Held from) e (held_on a b from (b - 1 - from) h busy low (omega arith) first) in
      let near : b - 1 ≤ held.behind + 4 = near_by a b from (b - 1) busy low (omega arith) held in
      subst (λ v. GapAt sg q w l v last (q + v + sg)) (let f : suc (b - 1) ≡ b = omega arith in f)
      (at_waiting (b - 1) (q + held.behind + sg) (omega arith) busy.final (omega arith) held.at)

  -- the whole of it
  pub busy_waiting_whole : (a b G : ℕ) → w ≤ q + a → IsBusy l a b → q + a < G → GapAt sg q w l a last G → GapAt sg q w l b last (q + b + sg)
  busy_waiting_whole a b G h busy high at =
      let more : a < b = busy.some in
      let first : GapAt sg q w l (suc a) last (q + suc a + sg) = at_waiting a G h busy.first high at in
      elim (cases_lt (suc a) b) [
        | inl longer ↦ busy_waiting_at a b (suc a) (omega arith) busy (omega arith) longer first
        | inr one ↦ subst (λ v. GapAt sg q w l v last (q + v + sg)) (let e : suc a ≡ b = omega arith in e) first
      ]

-- from a power-up on, the terminal gap counts from one synchronization gap on, for as long as it is quiet
pub woken_gap : (sg : ℕ) → 0 < sg → GapFrom sg [] None sg
woken_gap sg some = inr (record {
  ahead = some;
  near = omega arith;
  own = omega arith;
  quiet = λ k low high. absurd (omega arith);
  none = λ e s. let long : sg ≤ e = s.long in true_false (s.quiet (e - sg) (omega arith) (omega arith));
  least = λ m low q. omega arith;
})
  where
    true_false : true ≡ false → ⊥
    true_false h = cc

pub woken_quiet : (sg n : ℕ) → 0 < sg → GapFrom sg (replicate n false) None sg
woken_quiet sg n some = gap_quiets sg [] None sg n some (woken_gap sg some)

-- from its power-up on
pub at_power_up : (sg q w : ℕ) (l : List Entry) (p : ℕ) → 0 < sg → q + p ≡ w → GapAt sg q w l p None (q + p + sg)
at_power_up sg q w l p some is =
    let none : woken_past q w l p ≡ [] = drop_all w (past q l p) (omega (arith, length_past q l p)) in
    record {
      g = sg;
      is = omega arith;
      from = subst (λ v. GapFrom sg v None sg) (sym none) (woken_quiet sg 0 some);
    }

-- and from its power-up in the quiet before the settled start
pub at_settled : (sg q w : ℕ) (l : List Entry) → 0 < sg → w ≤ q → GapAt sg q w l 0 None (sg + w)
at_settled sg q w l some h = record {
  g = sg;
  is = refl;
  from = subst (λ v. GapFrom sg v None sg) (sym (drop-replicate w q false)) (woken_quiet sg (q - w) some);
}

-- an own start
pub at_start : (sg q w : ℕ) (l : List Entry) (v : ℕ) → 0 < sg → w ≤ q + v → GapAt sg q w l v (Some (q + v - w)) (q + v + sg)
at_start sg q w l v some h =
    let long : length (woken_past q w l v) + w ≡ q + v = length_woken q w l v h in
    let place : length (woken_past q w l v) ≡ q + v - w = omega arith in
    record {
      g = length (woken_past q w l v) + sg;
      is = omega arith;
      from = subst (λ o. GapFrom sg (woken_past q w l v) (Some o) (length (woken_past q w l v) + sg)) place (gap_started sg (woken_past q w l v) some);
    }

-- behind the first bit time of a message and before its end nobody may start
pub woken_nobody : (q w : ℕ) (l : List Entry) (timing : Timing) (last : Option ℕ) (a b u : ℕ) → IsSound timing → IsBusy l a b → a < u → u < b
    → MayStart timing (woken_past q w l u) last → ⊥
woken_nobody q w l timing last a b u sound busy low high may =
    let tg : 8 ≤ timing.tg = sound.tg_least in
    let fits : timing.tg ≤ length (woken_past q w l u) = may.gap_fits in
    let long : length (drop w (past q l u)) ≡ length (past q l u) - w = length-drop w (past q l u) in
    let len : length (past q l u) ≡ q + u = length_past q l u in
    let silent : (v : ℕ) → u ≤ v + timing.tg → v < u → carrier l v ≡ false = λ v near before.
    let at : w + (q + v - w) ≡ q + v = omega arith in
    sym (past_at q l u v before) ∙ ap (λ i. get_or (past q l u) i true) (sym at) ∙ sym (get_or-drop w (past q l u) (q + v - w) true)
    ∙ may.gap (q + v - w) (omega arith) (omega arith) in
    elim (cases_lt u (a + 5)) [
      | inl soon ↦ true≢false (sym busy.first ∙ silent a (omega arith) low)
      | inr late ↦
          let p : Heard l (u - 5) = busy.soon (u - 5) (omega arith) (omega arith) in
          let from : u - 5 ≤ p.at = p.low in let to : p.at ≤ u - 5 + 4 = p.high in
          true≢false (sym p.on ∙ silent p.at (omega arith) (omega arith))
    ]
