-- The ticks of offsets stand at the moments at which a sender should start.
use Rattle.std.proofs.Common.{◌≡◌, ℕ, zero, suc, ◌+◌, ◌-◌, ◌*◌, ◌<◌, ◌≤◌, List, [], ◌∷◌, ◌++◌, map, append-nil, inl, inr, arith, refl, sym, ap, subst, ◌∙◌}
use Rattle.std.specs.List.{flat_map, range_with_len}
use Rattle.std.proofs.lemmas.Grind.{flat_map-append}
use Rattle.std.proofs.lemmas.List.FromFn.{map-range_with_len_more}
use Rattle.std.proofs.Math.Nat.{le-div_iff_mul-le}
use Rattle.std.proofs.lemmas.Bool.{cases_lt}
use Rattle.bus_strings.specs.Members.{In}
use Rattle.bus_pen.specs.declared.scale.Scale.{Scale}
use Rattle.bus_timers.specs.Timings.{IsSound}
use Rattle.bus_table.specs.Timers.{due_for, due_of}
use Rattle.bus_medium.specs.Timings.{timing_of}
use Rattle.bus_medium.proofs.StationLaws.{timings_are_sound}
use Rattle.bus_picture.specs.OffsetLaws.{OffsetsAreMarked}
use Rattle.bus_picture.specs.Offsets.{offset_moment, offset_moments, rounds_before, rounds_in, tick_text}

-- The same of a sender that is due at a moment.
record IsOffsetOf (scale : Scale) (due ti held : ℕ) (t : ℕ) : Type 0 where
  round : ℕ
  left : round < held
  at : t ≡ due + round * ti
  from : scale.from ≤ t
  to : t < scale.to

-- Round k lies before a moment exactly where it is below so many.
pub round_below : (ti at t k : ℕ) → 0 < ti → k < rounds_before ti at t → at + k * ti < t
round_below ti at t k some low =
    let h : (k + 1) * ti ≤ t - at + (ti - 1) = (le-div_iff_mul-le some).0 (omega arith) in
    let e : (k + 1) * ti ≡ k * ti + ti = grind arith in
    omega arith

below_round : (ti at t k : ℕ) → 0 < ti → at + k * ti < t → k < rounds_before ti at t
below_round ti at t k some low =
    let e : (k + 1) * ti ≡ k * ti + ti = grind arith in
    let h : (k + 1) * ti ≤ t - at + (ti - 1) = omega arith in
    let g : k + 1 ≤ rounds_before ti at t = (le-div_iff_mul-le some).1 h in
    omega arith

-- What is in a list of rounds.
in_rounds : (f : ℕ → ℕ) (a n t : ℕ) → In t (map f (range_with_len a n)) → (k : ℕ) × (a ≤ k) × (k < a + n) × (t ≡ f k)
in_rounds f a zero t i = absurd i
in_rounds f a (suc n) t (inl e) = (a, omega arith, omega arith, e)
in_rounds f a (suc n) t (inr i) =
    let r = in_rounds f (a + 1) n t i in
    let low : a + 1 ≤ r.0 = r.1 in
    let high : r.0 < a + 1 + n = r.2 in
    (r.0, omega arith, omega arith, r.3)

rounds_in_list : (f : ℕ → ℕ) (a n k : ℕ) → a ≤ k → k < a + n → In (f k) (map f (range_with_len a n))
rounds_in_list f a zero k low high = absurd (omega arith)
rounds_in_list f a (suc n) k low high =
    elim (cases_lt a k) [
      | inl less ↦ inr (rounds_in_list f (a + 1) n k (omega arith) (omega arith))
      | inr most ↦ inl (ap f (let e : k ≡ a = omega arith in e))
    ]

offsets_in : (scale : Scale) (ti at held t : ℕ) → 0 < ti → In t (offset_moments scale ti at held) → IsOffsetOf scale at ti held t
offsets_in scale ti at held t some i =
    let r = in_rounds (offset_moment ti at) (rounds_before ti at scale.from) (rounds_in scale ti at held) t i in
    let is : t ≡ at + r.0 * ti = r.3 in
    let low : rounds_before ti at scale.from ≤ r.0 = r.1 in
    let high : r.0 < rounds_before ti at scale.from + rounds_in scale ti at held = r.2 in
    let before : at + r.0 * ti < scale.to = round_below ti at scale.to r.0 some (omega arith) in
    record {
      round = r.0;
      left = omega arith;
      at = is;
      from = elim (cases_lt t scale.from) [
        | inr more ↦ more
        | inl less ↦ let k : r.0 < rounds_before ti at scale.from = below_round ti at scale.from r.0 some (omega arith) in absurd (omega arith)
      ];
      to = omega arith;
    }

offsets_all : (scale : Scale) (ti at held t : ℕ) → 0 < ti → IsOffsetOf scale at ti held t → In t (offset_moments scale ti at held)
offsets_all scale ti at held t some o =
    let few : o.round < held = o.left in
    let is : t ≡ at + o.round * ti = o.at in
    let from : scale.from ≤ t = o.from in
    let to : t < scale.to = o.to in
    let low : rounds_before ti at scale.from ≤ o.round = elim (cases_lt o.round (rounds_before ti at scale.from)) [
      | inr more ↦ more
      | inl less ↦ let k : at + o.round * ti < scale.from = round_below ti at scale.from o.round some less in absurd (omega arith)
    ] in
    let high : o.round < rounds_before ti at scale.to = below_round ti at scale.to o.round some (omega arith) in
    subst (λ u. In u (offset_moments scale ti at held)) (sym is)
    (rounds_in_list (offset_moment ti at) (rounds_before ti at scale.from) (rounds_in scale ti at held) o.round low (omega arith))

pub offsets_are_marked : OffsetsAreMarked
offsets_are_marked scale table held sender t valid there periodic =
    let sound : IsSound (timing_of table sender) = timings_are_sound table sender valid there in
    let least : 1000 ≤ table.ti = sound.ti_least in
    let some : 0 < table.ti = omega arith in
    let due : due_of table sender ≡ sender.at = ap (λ m. due_for m sender) periodic in (
      λ i. let o = offsets_in scale table.ti sender.at held t some i in record {
        round = o.round;
        left = o.left;
        at = o.at ∙ ap (λ d. d + o.round * table.ti) (sym due);
        from = o.from;
        to = o.to;
      },
      λ o. offsets_all scale table.ti sender.at held t some (record {
        round = o.round;
        left = o.left;
        at = o.at ∙ ap (λ d. d + o.round * table.ti) due;
        from = o.from;
        to = o.to;
      }),
    )

-- One tick more.
pub ticks_more : (scale : Scale) (top ti at a n : ℕ) → flat_map (tick_text scale top) (map (offset_moment ti at) (range_with_len a (n + 1)))
    ≡ flat_map (tick_text scale top) (map (offset_moment ti at) (range_with_len a n)) ++ tick_text scale top (offset_moment ti at (a + n))
ticks_more scale top ti at a n =
    ap (flat_map (tick_text scale top)) (map-range_with_len_more (offset_moment ti at) a n (a + n) refl)
    ∙ flat_map-append (tick_text scale top) (map (offset_moment ti at) (range_with_len a n)) (offset_moment ti at (a + n) ∷ [])
    ∙ ap (λ (t : List ℕ). flat_map (tick_text scale top) (map (offset_moment ti at) (range_with_len a n)) ++ t) (append-nil (tick_text scale top (offset_moment ti at (a + n))))
