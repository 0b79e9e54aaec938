-- Stretches of a running message: its pulses, and the quiet between them.
use Rattle.std.proofs.Common.{◌≡◌, ℕ, ◌+◌, ◌-◌, ◌*◌, ◌<◌, ◌≤◌, true, false, not, cond, ltb, length, get_or, Option, Some, None, inl, inr, arith, sym, refl, ap, ◌∙◌, subst}
use Rattle.std.specs.Option.{MatchOption, option_map}
use Rattle.std.proofs.lemmas.Bool.{lt-ltb, le-ltb, cases_lt}
use Rattle.bus_strings.specs.Messages.{Message, word_count, bits}
use Rattle.bus_strings.specs.Pulses.{pulse_start, pulse_length, is_on}
use Rattle.bus_strings.proofs.PulsesAlongLaws.{next_pulse, length_at, on_within_pulse}
use Rattle.bus_table.specs.Tables.{Hand}
use Rattle.bus_medium.specs.declared.place.Place.{Place}
use Rattle.bus_medium.specs.inside.Places.{place_of, IsPlace}
use Rattle.bus_medium.specs.Terminals.{last_begun}
use Rattle.bus_medium.specs.inside.Standing.{place_in, IsStanding}
use Rattle.bus_medium.specs.MessageStretches.{IsSteady, IsStretch, later_place}
use Rattle.bus_medium.proofs.MessageStretchLaws.{steady_most}
use Rattle.bus_medium.proofs.PlaceLemmas.{InPulse, InQuiet, in_pulse, in_quiet, place_within, no_words}

-- in a pulse, and from its end on
on_in_pulse : (m : Message) (p : Place) → IsPlace m p → p.on ≡ true → (k : ℕ) → k ≤ p.left → is_on m (place_of m p + k) ≡ ltb k p.left
on_in_pulse m p i on k below =
    let q : InPulse m p = in_pulse m p i on in
    let some : 1 ≤ p.left = q.some in
    let most : p.left ≤ pulse_length m p.pulse = q.most in
    let at : place_of m p ≡ pulse_start m p.pulse + pulse_length m p.pulse - p.left = q.at in
    ap (is_on m) (let e : place_of m p + k ≡ pulse_start m p.pulse + (pulse_length m p.pulse - p.left + k) = omega arith in e)
    ∙ on_within_pulse m p.pulse (pulse_length m p.pulse - p.left + k) i.pulse (omega arith)
    ∙ elim (cases_lt k p.left) [
      | inl less ↦ lt-ltb (pulse_length m p.pulse - p.left + k) (pulse_length m p.pulse) (omega arith) ∙ sym (lt-ltb k p.left less)
      | inr more ↦ le-ltb (pulse_length m p.pulse - p.left + k) (pulse_length m p.pulse) (omega arith) ∙ sym (le-ltb k p.left more)
    ]

-- in the quiet behind a pulse, and from its end on
on_in_quiet : (m : Message) (p : Place) → IsPlace m p → p.on ≡ false → (k : ℕ) → k ≤ p.left → is_on m (place_of m p + k) ≡ not (ltb k p.left)
on_in_quiet m p i off k below =
    let q : InQuiet m p = in_quiet m p i off in
    let inside : p.pulse + 1 < length m = q.pulse in
    let some : 1 ≤ p.left = q.some in
    let most : p.left ≤ 4 = q.most in
    let at : place_of m p ≡ pulse_start m p.pulse + pulse_length m p.pulse + 4 - p.left = q.at in
    elim (cases_lt k p.left) [
      | inl less ↦
          ap (is_on m) (let e : place_of m p + k ≡ pulse_start m p.pulse + (pulse_length m p.pulse + 4 - p.left + k) = omega arith in e)
          ∙ on_within_pulse m p.pulse (pulse_length m p.pulse + 4 - p.left + k) i.pulse (omega arith)
          ∙ le-ltb (pulse_length m p.pulse + 4 - p.left + k) (pulse_length m p.pulse) (omega arith) ∙ ap not (sym (lt-ltb k p.left less))
      | inr more ↦
          let next : pulse_start m (p.pulse + 1) ≡ pulse_start m p.pulse + pulse_length m p.pulse + 4 = next_pulse m p.pulse i.pulse in
          let long : pulse_length m (p.pulse + 1) ≡ 20 * word_count (get_or m (p.pulse + 1) no_words) = length_at m (p.pulse + 1) no_words inside in
          ap (is_on m) (let e : place_of m p + k ≡ pulse_start m (p.pulse + 1) + 0 = omega arith in e)
          ∙ on_within_pulse m (p.pulse + 1) 0 inside (omega arith)
          ∙ lt-ltb 0 (pulse_length m (p.pulse + 1)) (omega arith) ∙ ap not (sym (le-ltb k p.left more))
    ]

none_later : (d : ℕ) → d + 0 ≡ d
none_later d = omega arith

-- what is left of a pulse, or of the quiet behind it, is a stretch
pub place_stretch : (m : Message) (p : Place) → IsPlace m p → IsStretch m (place_of m p) p.left
place_stretch m p i =
    let some : 1 ≤ p.left = i.some in
    elim p.on as (λ b. p.on ≡ b → IsStretch m (place_of m p) p.left) [
      | true ↦ λ on.
          let here : is_on m (place_of m p) ≡ true = ap (is_on m) (sym (none_later (place_of m p))) ∙ on_in_pulse m p i on 0 (omega arith) ∙ lt-ltb 0 p.left (omega arith) in
          record {
            some = some;
            steady = λ k h. on_in_pulse m p i on k (omega arith) ∙ lt-ltb k p.left h ∙ sym here;
            changes = on_in_pulse m p i on p.left (omega arith) ∙ le-ltb p.left p.left (omega arith) ∙ ap not (sym here);
          }
      | false ↦ λ off.
          let here : is_on m (place_of m p) ≡ false = ap (is_on m) (sym (none_later (place_of m p))) ∙ on_in_quiet m p i off 0 (omega arith) ∙ ap not (lt-ltb 0 p.left (omega arith)) in
          record {
            some = some;
            steady = λ k h. on_in_quiet m p i off k (omega arith) ∙ ap not (lt-ltb k p.left h) ∙ sym here;
            changes = on_in_quiet m p i off p.left (omega arith) ∙ ap not (le-ltb p.left p.left (omega arith)) ∙ ap not (sym here);
          }
    ] refl

-- how long what runs stays as it is
pub stretch_is : (hand : Hand) (sent : ℕ) (running : Option Place) (p : Place) → IsStanding hand sent running → running ≡ Some p → (d : ℕ) × (place_in hand sent running ≡ Some d) × IsStretch (last_begun hand sent) d p.left
stretch_is hand sent None p s e = cc
stretch_is hand sent (Some q) p s e =
    let same : q ≡ p = cc in
    subst (λ (r : Place). (d : ℕ) × (place_in hand sent (Some q) ≡ Some d) × IsStretch (last_begun hand sent) d r.left) same
    (place_of (last_begun hand sent) q, refl, place_stretch (last_begun hand sent) q s.place.1)

pub steady_left : (hand : Hand) (sent : ℕ) (running : Option Place) (p : Place) (n : ℕ) → IsStanding hand sent running → running ≡ Some p → MatchOption (place_in hand sent running) (Unit {0}) (λ d. IsSteady (last_begun hand sent) d n) → n ≤ p.left
steady_left hand sent None p n s e h = cc
steady_left hand sent (Some q) p n s e h =
    let same : q ≡ p = cc in
    subst (λ (r : Place). n ≤ r.left) same (steady_most (last_begun hand sent) (place_of (last_begun hand sent) q) n q.left (place_stretch (last_begun hand sent) q s.place.1) h)

-- the last bit time but n - 1 of the pulse or the quiet
pub shorter : (m : Message) (p : Place) (n : ℕ) (q : Place) → IsPlace m p → 1 ≤ n → n ≤ p.left → q.pulse ≡ p.pulse → q.on ≡ p.on → q.left ≡ p.left - (n - 1) → IsPlace m q × (place_of m q ≡ place_of m p + (n - 1))
shorter m p n q i some few pulse on left =
    let made : IsPlace m (record { pulse = p.pulse; on = p.on; left = p.left - (n - 1) }) = record {
      pulse = i.pulse;
      some = omega arith;
      most = let h : p.left ≤ cond p.on (pulse_length m p.pulse) 4 = i.most in omega arith;
      more = i.more;
    } in
    let same : q ≡ record { pulse = p.pulse; on = p.on; left = p.left - (n - 1) } =
    ap (λ v. record { pulse = v; on = q.on; left = q.left }) pulse ∙ ap (λ v. record { pulse = p.pulse; on = v; left = q.left }) on ∙ ap (λ v. record { pulse = p.pulse; on = p.on; left = v }) left in
    let at : place_of m (record { pulse = p.pulse; on = p.on; left = p.left - (n - 1) }) ≡ place_of m p + (n - 1) =
    elim p.on as (λ b. p.on ≡ b → place_of m (record { pulse = p.pulse; on = p.on; left = p.left - (n - 1) }) ≡ place_of m p + (n - 1)) [
      | true ↦ λ e.
          let w : InPulse m p = in_pulse m p i e in let most : p.left ≤ pulse_length m p.pulse = w.most in
          let a : place_of m p ≡ pulse_start m p.pulse + pulse_length m p.pulse - p.left = w.at in
          let b : place_of m (record { pulse = p.pulse; on = p.on; left = p.left - (n - 1) }) ≡ pulse_start m p.pulse + pulse_length m p.pulse - (p.left - (n - 1)) = (in_pulse m (record { pulse = p.pulse; on = p.on; left = p.left - (n - 1) }) made e).at in
          omega arith
      | false ↦ λ e.
          let w : InQuiet m p = in_quiet m p i e in let most : p.left ≤ 4 = w.most in
          let a : place_of m p ≡ pulse_start m p.pulse + pulse_length m p.pulse + 4 - p.left = w.at in
          let b : place_of m (record { pulse = p.pulse; on = p.on; left = p.left - (n - 1) }) ≡ pulse_start m p.pulse + pulse_length m p.pulse + 4 - (p.left - (n - 1)) = (in_quiet m (record { pulse = p.pulse; on = p.on; left = p.left - (n - 1) }) made e).at in
          omega arith
    ] refl in
    (subst (IsPlace m) (sym same) made, ap (place_of m) same ∙ at)

-- a bit time behind that
pub later_than : (m : Message) (d at n : ℕ) (o : Option Place) → at ≡ d + (n - 1) → 1 ≤ n → MatchOption o (at + 1 ≡ bits m) (λ r. IsPlace m r × (place_of m r ≡ at + 1)) → MatchOption o (d + n ≡ bits m) (λ r. IsPlace m r × (place_of m r ≡ d + n))
later_than m d at n None e some h = omega arith
later_than m d at n (Some r) e some h = let k : place_of m r ≡ at + 1 = h.1 in (h.0, omega arith)

pub later_is : (m : Message) (d n : ℕ) (o : Option Place) → MatchOption o (d + n ≡ bits m) (λ r. IsPlace m r × (place_of m r ≡ d + n)) → option_map (place_of m) o ≡ later_place m n d
later_is m d n None h = rw (le-ltb (d + n) (bits m) (let k : bits m ≤ d + n = omega arith in k)) refl
later_is m d n (Some r) h =
    let inside : place_of m r < bits m = place_within m r h.0 in
    let at : place_of m r ≡ d + n = h.1 in
    rw (lt-ltb (d + n) (bits m) (let k : d + n < bits m = omega arith in k)) (ap (λ w. Some w) at)

-- however far
pub far_is : (m : Message) (d n : ℕ) (o : Option Place) → MatchOption o (bits m ≤ d + n) (λ r. IsPlace m r × (place_of m r ≡ d + n)) → option_map (place_of m) o ≡ later_place m n d
far_is m d n None h = rw (le-ltb (d + n) (bits m) h) refl
far_is m d n (Some r) h =
    let inside : place_of m r < bits m = place_within m r h.0 in
    let at : place_of m r ≡ d + n = h.1 in
    rw (lt-ltb (d + n) (bits m) (let k : d + n < bits m = omega arith in k)) (ap (λ w. Some w) at)
