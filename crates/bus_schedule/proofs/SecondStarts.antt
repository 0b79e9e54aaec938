-- What a second start meets: the quiet that it needs lies behind what is busy, and no two transmissions overlap.
use Rattle.std.proofs.Common.{◌≡◌, ◌≢◌, ℕ, ◌+◌, ◌-◌, ◌<◌, ◌≤◌, true, false, List, [], ◌∷◌, inl, inr, arith, sym, ◌∙◌, subst}
use Rattle.std.proofs.lemmas.Bool.{cases_lt, true≢false}
use Rattle.bus_timers.specs.MayStart.{MayStart}
use Rattle.bus_strings.specs.Members.{In}
use Rattle.bus_strings.proofs.MemberLaws.{of_each}
use Rattle.bus_strings.specs.Messages.{Entry}
use Rattle.bus_strings.specs.Transmissions.{carrier, overlaps}
use Rattle.bus_medium.specs.BusyLaws.{Heard, IsBusy}
use Rattle.bus_medium.specs.CableLawful.{IsDueOnCable}
use Rattle.bus_medium.specs.Delays.{Delays, heard}
use Rattle.bus_medium.specs.Lawful.{Station}
use Rattle.bus_medium.specs.Past.{past, own, last_place}
use Rattle.bus_medium.specs.Wakes.{settled}
use Rattle.bus_medium.proofs.Hearing.{place_none}
use Rattle.bus_schedule.specs.Runs.{IsClear}

-- ---- a stretch of quiet behind a busy one
pub busy_before : (l : List Entry) (a b f n : ℕ) → IsBusy l a b → 5 ≤ n → a < f + n → ((u : ℕ) → f ≤ u → u < f + n → carrier l u ≡ false) → b ≤ f
busy_before l a b f n busy long near quiet =
    let some : a < b = busy.some in
    elim (cases_lt f b) [
      | inr behind ↦ omega arith
      | inl inside ↦ absurd (elim (cases_lt a f) [
        | inr first ↦ true≢false (sym busy.first ∙ quiet a (omega arith) near)
        | inl begun ↦ elim (cases_lt (f + 4) b) [
          | inl further ↦
              let p : Heard l f = busy.soon f (omega arith) further in
              let low : f ≤ p.at = p.low in let high : p.at ≤ f + 4 = p.high in
              true≢false (sym p.on ∙ quiet p.at low (omega arith))
          | inr over ↦ true≢false (sym busy.final ∙ quiet (b - 1) (omega arith) (omega arith))
        ]
      ])
    ]

-- who wakes at the settled start may start after the past as a whole
pub may_settled : (q : ℕ) (delay : Delays) (list : List Entry) (s : Station) (t : ℕ) → IsDueOnCable q delay settled list s t
    → MayStart s.timing (past q (heard delay s.number list) t) (last_place q (own list s.number t))
may_settled q delay list s t d =
    subst (λ o. MayStart s.timing (past q (heard delay s.number list) t) o) (place_none (last_place q (own list s.number t))) d.may

-- two different transmissions of a list without overlaps
pub clear_apart : (list : List Entry) (x y : Entry) → IsClear list → In x list → In y list → x ≢ y → overlaps x y ≡ true → overlaps y x ≡ true → ⊥
clear_apart [] x y h i j apart a b = i
clear_apart (z ∷ list) x y h (inl p) (inl q) apart a b = apart (p ∙ sym q)
clear_apart (z ∷ list) x y h (inl p) (inr j) apart a b =
    true≢false (sym a ∙ subst (λ w. overlaps w y ≡ false) (sym p) (of_each (λ w. overlaps z w ≡ false) list h.0 y j))
clear_apart (z ∷ list) x y h (inr i) (inl q) apart a b =
    true≢false (sym b ∙ subst (λ w. overlaps w x ≡ false) (sym q) (of_each (λ w. overlaps z w ≡ false) list h.0 x i))
clear_apart (z ∷ list) x y h (inr i) (inr j) apart a b = clear_apart list x y h.1 i j apart a b
