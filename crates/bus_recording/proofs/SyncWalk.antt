-- Why the walk finds how much of a synchronization gap is missing.
use Rattle.std.specs.Prelude.{max, min}
use Rattle.std.proofs.Common.{◌≡◌, ℕ, ◌+◌, ◌-◌, ◌<◌, ◌≤◌, ◌⊎◌, List, [], ◌∷◌, inl, inr, arith, refl, ap}
use Rattle.std.proofs.lemmas.Bool.{cases_lt}
use Rattle.bus_recording.specs.Seen.{Bounds, IsIn, Monitor, Seen}
use Rattle.bus_recording.specs.Findings.{IsEarlyBySync}
use Rattle.bus_recording.specs.Walk.{Ascends, GapAmount, IsSyncWalk, WalkFindsNoSync, WalkFindsSync, longest_room}

-- a stretch that is longer meets somebody
met : (reach tg start a : ℕ) (l : List Seen) (b s : ℕ) → longest_room reach tg start a l < s → a ≤ b → b + s + tg ≤ start
    → (r : Seen) × IsIn r l × (r.moment + reach < b + s) × (b < r.soonest)
met reach tg start a [] b s long low fits = absurd (omega arith)
met reach tg start a (r ∷ l) b s long low fits =
    let one : min (r.moment + reach) (start - tg) - a < s = omega arith in
    let two : longest_room reach tg start (max a r.soonest) l < s = omega arith in
    elim (cases_lt b r.soonest) [
      | inl here ↦ (r, inl refl, omega arith, here)
      | inr over ↦
          let w = met reach tg start (max a r.soonest) l b s two (omega arith) fits in
          (w.0, inr w.1, w.2, w.3)
    ]

-- one that is no longer is there, and meets nobody
free : (reach tg start a : ℕ) (l : List Seen) (s : ℕ) → Ascends l → 0 < s → s ≤ longest_room reach tg start a l
    → (b : ℕ) × (a ≤ b) × (b + s + tg ≤ start) × ((r : Seen) → IsIn r l → (r.soonest ≤ b) ⊎ (b + s ≤ r.moment + reach))
free reach tg start a [] s up some fits = (a, omega arith, omega arith, λ r i. absurd i)
free reach tg start a (r ∷ l) s up some fits =
    elim (cases_lt (longest_room reach tg start (max a r.soonest) l) s) [
      | inl here ↦
          let room : s ≤ min (r.moment + reach) (start - tg) - a = omega arith in (
            a,
            omega arith,
            omega arith,
            λ q i. elim i [
              | inl same ↦ (let e : q.moment ≡ r.moment = ap (λ (v : Seen). v.moment) same in inr (omega arith))
              | inr j ↦ (let e : r.moment ≤ q.moment = up.0 q j in inr (omega arith))
            ],
          )
      | inr later ↦
          let w = free reach tg start (max a r.soonest) l s up.1 some later in
          let low : max a r.soonest ≤ w.0 = w.1 in (
            w.0,
            omega arith,
            w.2,
            λ q i. elim i [
              | inl same ↦ (let e : q.soonest ≡ r.soonest = ap (λ (v : Seen). v.soonest) same in inl (omega arith))
              | inr j ↦ w.3 q j
            ],
          )
    ]

-- so a start isn't too early that has room for the gap
room : (bounds : Bounds) (monitor : Monitor) (recording : List Seen) (o y : Seen) (a : ℕ) (between : List Seen) (m s : ℕ)
    → IsSyncWalk monitor recording o y a between → 0 < s → s ≤ longest_room monitor.reach bounds.short.tg y.moment a between → bounds.short.sg < s + m
    → IsEarlyBySync bounds monitor m recording o y → ⊥
room bounds monitor recording o y a between m s w some fits short f =
    let g = free monitor.reach bounds.short.tg y.moment a between s w.ascends some fits in
    let low : a ≤ g.0 = g.1 in
    let behind : o.soonest ≤ a = w.behind in
    let far : g.0 + s + bounds.short.tg ≤ y.moment = g.2 in
    let t = f.met g.0 s short (omega arith) far in
    let begun : t.other.moment + monitor.reach < g.0 + s = t.begun in
    let ended : g.0 < t.other.soonest = t.ended in
    elim (w.others t.other t.there t.foreign) [
      | inl inside ↦ elim (g.3 t.other inside) [ inl over ↦ omega arith | inr after ↦ omega arith ]
      | inr outside ↦ elim outside [ inl over ↦ omega arith | inr after ↦ omega arith ]
    ]

pub walk_finds_no_sync : WalkFindsNoSync
walk_finds_no_sync bounds monitor recording o y a between w drop fits f =
    let wide : monitor.drop + 1 ≤ bounds.short.sg + 1 = f.wide in
    room bounds monitor recording o y a between 1 bounds.short.sg w (omega arith) (omega arith) (omega arith) f

pub walk_finds_sync : WalkFindsSync
walk_finds_sync bounds monitor recording o y a between n w drop some is = record {
  so = record {
    wide = omega arith;
    met = λ b s long own fits. elim (cases_lt b a) [
      | inr low ↦
          let m = met monitor.reach bounds.short.tg y.moment a between b s (omega arith) low fits in
          let f = w.foreign m.0 m.1 in
          record { other = m.0; there = f.0; foreign = f.1; begun = m.2; ended = m.3 }
      | inl high ↦ elim w.of_one [
        | inl same ↦ absurd (omega arith)
        | inr one ↦
            let lasts : o.moment + monitor.reach ≤ o.soonest = w.long in
            let early : one.0.moment ≤ o.moment = one.3 in
            let end' : a ≡ one.0.soonest = one.4 in
            record { other = one.0; there = one.1; foreign = one.2; begun = omega arith; ended = omega arith }
      ]
    ];
  };
  most = λ m f. elim (cases_lt n m) [
    | inr fine ↦ fine
    | inl more ↦
        let wide : monitor.drop + m ≤ bounds.short.sg + 1 = f.wide in
        absurd (room bounds monitor recording o y a between m (longest_room monitor.reach bounds.short.tg y.moment a between) w (omega arith) (omega arith) (omega arith) f)
  ];
}

pub gap_amount : GapAmount
gap_amount bounds monitor recording y w n wide i begun last is = record {
  so = record { wide = wide; other = w; there = i; begun = begun; early = omega arith };
  most = λ m f.
      let early : y.moment + m ≤ f.other.soonest + bounds.short.tg = f.early in
      let most : f.other.soonest ≤ w.soonest = last f.other f.there f.begun in
      omega arith;
}
