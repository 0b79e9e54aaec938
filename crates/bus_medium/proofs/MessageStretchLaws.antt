-- What follows of the stretches of a message, whatever its words.
-- The contract of `laws::stretches_are_bit_times` says that each of these holds; the proofs are for the crates above to cite.
use Rattle.std.proofs.Common.{◌≡◌, ℕ, ◌+◌, ◌-◌, ◌<◌, ◌≤◌, Bool, true, false, not, cond, ltb, [], ◌∷◌, length, Some, None}
use Rattle.std.proofs.Common.{inl, inr, arith, sym, refl, ap, ◌∙◌}
use Rattle.std.specs.Option.{option_and_then}
use Rattle.std.proofs.lemmas.Bool.{lt-ltb, le-ltb, cases_lt, true≢false}
use Rattle.bus_strings.specs.Messages.{Message, bits}
use Rattle.bus_strings.specs.Pulses.{is_on}
use Rattle.bus_strings.proofs.PulsesAlongLaws.{quiet_behind, last_is_on}
use Rattle.bus_medium.specs.Terminals.{next_place}
use Rattle.bus_medium.specs.MessageStretches.{IsSteady, IsStretch, later_place}
use Rattle.bus_medium.specs.MessageStretchLaws.{LaterIsStepByStep, OneStretch, SteadyWithin}

-- one more bit time behind n of them
step_more : (m : Message) (n d : ℕ) → later_place m (n + 1) d ≡ option_and_then (next_place m) (later_place m n d)
step_more m n d = elim (cases_lt (d + n) (bits m)) [
  | inl inside ↦
      let before : later_place m n d ≡ Some (d + n) = rw (lt-ltb (d + n) (bits m) inside) refl in
      ap (λ i. cond (ltb i (bits m)) (Some i) None) (let e : d + (n + 1) ≡ d + n + 1 = omega arith in e)
      ∙ ap (option_and_then (next_place m)) (sym before)
  | inr over ↦
      let before : later_place m n d ≡ None = rw (le-ltb (d + n) (bits m) over) refl in
      let after : later_place m (n + 1) d ≡ None =
      rw (le-ltb (d + (n + 1)) (bits m) (let k : bits m ≤ d + (n + 1) = omega arith in k)) refl in
      after ∙ ap (option_and_then (next_place m)) (sym before)
]

-- a stretch leads where as many single bit times do
pub later_is_step_by_step : LaterIsStepByStep
later_is_step_by_step m n d = (refl, step_more m n d)

-- a truth value isn't its opposite
not_itself : (b : Bool) → b ≡ not b → ⊥
not_itself true h = true≢false h
not_itself false h = true≢false (sym h)

-- what is steady for n bit times goes no further than a stretch
pub steady_most : (m : Message) (d n s : ℕ) → IsStretch m d s → IsSteady m d n → n ≤ s
steady_most m d n s stretch steady = elim (cases_lt s n) [
  | inl beyond ↦ absurd (not_itself (is_on m d) (sym (steady s beyond) ∙ stretch.changes))
  | inr within ↦ within
]

-- a stretch is as long as any other from the same bit time
pub one_stretch : OneStretch
one_stretch m d n k a b =
    let p : n ≤ k = steady_most m d n k b a.steady in
    let q : k ≤ n = steady_most m d k n a b.steady in
    omega arith

-- a message with bit times has a wordstring
pub some_of_bits : (m : Message) (d : ℕ) → d < bits m → 0 < length m
some_of_bits [] d h = absurd (let z : bits [] ≡ 0 = refl in omega arith)
some_of_bits (s ∷ m) d h = omega arith

-- a message stays as it is no further than to its end
pub steady_within : SteadyWithin
steady_within m d n inside steady = elim (cases_lt (bits m) (d + n)) [
  | inr within ↦ within
  | inl beyond ↦
      let off : is_on m (bits m) ≡ is_on m d =
      ap (is_on m) (let e : bits m ≡ d + (bits m - d) = omega arith in e) ∙ steady (bits m - d) (omega arith) in
      let on : is_on m (bits m - 1) ≡ is_on m d =
      ap (is_on m) (let e : bits m - 1 ≡ d + (bits m - 1 - d) = omega arith in e) ∙ steady (bits m - 1 - d) (omega arith) in
      absurd (true≢false (sym (last_is_on m (some_of_bits m d inside)) ∙ on ∙ sym off ∙ quiet_behind m (bits m) (omega arith)))
]
