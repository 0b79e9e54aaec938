-- Places in a running message.
use Rattle.std.proofs.Common.{◌≡◌, ℕ, ◌+◌, ◌-◌, ◌*◌, ◌<◌, ◌≤◌, true, false, cond, [], length, get_or, Option, Some, None, arith, sym, refl, ap, ◌∙◌, subst}
use Rattle.std.specs.Bool.{MatchBool}
use Rattle.std.specs.Option.{MatchOption, option_map, option_map_or}
use Rattle.std.proofs.lemmas.Bool.{lt-ltb, le-ltb}
use Rattle.std.proofs.lemmas.List.Sums.{sum_by-take-le}
use Rattle.bus_strings.specs.Messages.{Wordstring, Message, word_count, bits}
use Rattle.bus_strings.specs.Pulses.{pulse_start, pulse_length, is_on}
use Rattle.bus_strings.proofs.PulsesAlongLaws.{next_pulse, last_pulse_ends, length_at, on_within_pulse}
use Rattle.bus_medium.specs.declared.place.Place.{Place}
use Rattle.bus_table.specs.Tables.{Hand}
use Rattle.bus_medium.specs.inside.Places.{place_of, IsPlace}
use Rattle.bus_medium.specs.Terminals.{last_begun, next_place}
use Rattle.bus_medium.specs.inside.Standing.{place_in, IsStanding}

-- a place in a pulse, and one in the quiet behind it
pub record InPulse (m : Message) (p : Place) : Type 0 where
  pub pulse : p.pulse < length m
  pub some : 1 ≤ p.left
  pub most : p.left ≤ pulse_length m p.pulse
  pub at : place_of m p ≡ pulse_start m p.pulse + pulse_length m p.pulse - p.left

pub record InQuiet (m : Message) (p : Place) : Type 0 where
  pub pulse : p.pulse + 1 < length m
  pub some : 1 ≤ p.left
  pub most : p.left ≤ 4
  pub at : place_of m p ≡ pulse_start m p.pulse + pulse_length m p.pulse + 4 - p.left

pub in_pulse : (m : Message) (p : Place) → IsPlace m p → p.on ≡ true → InPulse m p
in_pulse m p i on =
    let most : p.left ≤ cond p.on (pulse_length m p.pulse) 4 = i.most in
    record {
      pulse = i.pulse;
      some = i.some;
      most = subst (λ b. p.left ≤ cond b (pulse_length m p.pulse) 4) on most;
      at = ap (λ b. pulse_start m p.pulse + pulse_length m p.pulse + cond b 0 4 - p.left) on ∙ (omega arith);
    }

pub in_quiet : (m : Message) (p : Place) → IsPlace m p → p.on ≡ false → InQuiet m p
in_quiet m p i off =
    let most : p.left ≤ cond p.on (pulse_length m p.pulse) 4 = i.most in
    record {
      pulse = subst (λ b. MatchBool b (Unit {0}) (p.pulse + 1 < length m)) off i.more;
      some = i.some;
      most = subst (λ b. p.left ≤ cond b (pulse_length m p.pulse) 4) off most;
      at = ap (λ b. pulse_start m p.pulse + pulse_length m p.pulse + cond b 0 4 - p.left) off;
    }

made_in_pulse : (m : Message) (n : Place) → n.pulse < length m → n.on ≡ true → 1 ≤ n.left → n.left ≤ pulse_length m n.pulse → IsPlace m n
made_in_pulse m n pulse on some most = record {
  pulse = pulse;
  some = some;
  most = subst (λ b. n.left ≤ cond b (pulse_length m n.pulse) 4) (sym on) most;
  more = subst (λ b. MatchBool b (Unit {0}) (n.pulse + 1 < length m)) (sym on) tt;
}

-- behind the quiet comes the next pulse
pub after_quiet : (m : Message) (p : Place) (s : Wordstring) (n : Place) → IsPlace m p → p.on ≡ false → p.left ≤ 1 → s ≡ get_or m (p.pulse + 1) s → n.pulse ≡ p.pulse + 1 → n.on ≡ true → n.left ≡ 20 * word_count s → IsPlace m n × (place_of m n ≡ place_of m p + 1)
after_quiet m p s n i off last read pulse on left =
    let q : InQuiet m p = in_quiet m p i off in
    let inside : p.pulse + 1 < length m = q.pulse in
    let some : 1 ≤ p.left = q.some in
    let at : place_of m p ≡ pulse_start m p.pulse + pulse_length m p.pulse + 4 - p.left = q.at in
    let next : pulse_start m (p.pulse + 1) ≡ pulse_start m p.pulse + pulse_length m p.pulse + 4 = next_pulse m p.pulse i.pulse in
    let long : pulse_length m (p.pulse + 1) ≡ 20 * word_count s = length_at m (p.pulse + 1) s inside ∙ ap (λ w. 20 * word_count w) (sym read) in
    let start_n : pulse_start m n.pulse ≡ pulse_start m (p.pulse + 1) = ap (pulse_start m) pulse in
    let long_n : pulse_length m n.pulse ≡ pulse_length m (p.pulse + 1) = ap (pulse_length m) pulse in
    let made : IsPlace m n = made_in_pulse m n (omega arith) on (omega arith) (omega arith) in
    let at_n : place_of m n ≡ pulse_start m n.pulse + pulse_length m n.pulse - n.left = (in_pulse m n made on).at in
    (made, omega arith)

-- behind the last pulse comes nothing
pub after_all : (m : Message) (p : Place) → IsPlace m p → p.on ≡ true → p.left ≤ 1 → p.pulse + 1 ≡ length m → place_of m p + 1 ≡ bits m
after_all m p i on last all =
    let q : InPulse m p = in_pulse m p i on in
    let some : 1 ≤ p.left = q.some in
    let most : p.left ≤ pulse_length m p.pulse = q.most in
    let at : place_of m p ≡ pulse_start m p.pulse + pulse_length m p.pulse - p.left = q.at in
    let ends : pulse_start m p.pulse + pulse_length m p.pulse ≡ bits m = last_pulse_ends m p.pulse all in
    omega arith

-- what is on at a place is its pulse
pub on_at : (m : Message) (p : Place) → IsPlace m p → is_on m (place_of m p) ≡ p.on
on_at m p i =
    let start : ℕ = pulse_start m p.pulse in
    let long : ℕ = pulse_length m p.pulse in
    elim p.on as (λ b. p.on ≡ b → is_on m (place_of m p) ≡ b) [
      | true ↦ λ on.
          let q : InPulse m p = in_pulse m p i on in
          let some : 1 ≤ p.left = q.some in
          let most : p.left ≤ pulse_length m p.pulse = q.most in
          let at : place_of m p ≡ pulse_start m p.pulse + pulse_length m p.pulse - p.left = q.at in
          ap (is_on m) (let e : place_of m p ≡ pulse_start m p.pulse + (pulse_length m p.pulse - p.left) = omega arith in e)
          ∙ on_within_pulse m p.pulse (pulse_length m p.pulse - p.left) i.pulse (omega arith) ∙ lt-ltb (pulse_length m p.pulse - p.left) (pulse_length m p.pulse) (omega arith)
      | false ↦ λ off.
          let q : InQuiet m p = in_quiet m p i off in
          let some : 1 ≤ p.left = q.some in
          let most : p.left ≤ 4 = q.most in
          let at : place_of m p ≡ pulse_start m p.pulse + pulse_length m p.pulse + 4 - p.left = q.at in
          ap (is_on m) (let e : place_of m p ≡ pulse_start m p.pulse + (pulse_length m p.pulse + 4 - p.left) = omega arith in e)
          ∙ on_within_pulse m p.pulse (pulse_length m p.pulse + 4 - p.left) i.pulse (omega arith) ∙ le-ltb (pulse_length m p.pulse + 4 - p.left) (pulse_length m p.pulse) (omega arith)
    ] refl

-- a pulse ends within its message
pub pulse_within : (m : Message) (k : ℕ) → k < length m → pulse_start m k + pulse_length m k ≤ bits m
pulse_within m k h =
    let next : pulse_start m (k + 1) ≡ pulse_start m k + pulse_length m k + 4 = next_pulse m k h in
    omega (arith, sum_by-take-le word_count m (k + 1))

pub no_words : Wordstring
no_words = record { label = 0; ext = 0; words = [] }

-- a place lies within its message
pub place_within : (m : Message) (p : Place) → IsPlace m p → place_of m p < bits m
place_within m p i =
    let ends : pulse_start m p.pulse + pulse_length m p.pulse ≤ bits m = pulse_within m p.pulse i.pulse in
    elim p.on as (λ b. p.on ≡ b → place_of m p < bits m) [
      | true ↦ λ on.
          let q : InPulse m p = in_pulse m p i on in
          let some : 1 ≤ p.left = q.some in
          let most : p.left ≤ pulse_length m p.pulse = q.most in
          let at : place_of m p ≡ pulse_start m p.pulse + pulse_length m p.pulse - p.left = q.at in
          omega arith
      | false ↦ λ off.
          let q : InQuiet m p = in_quiet m p i off in
          let some : 1 ≤ p.left = q.some in
          let more : p.pulse + 1 < length m = q.pulse in
          let at : place_of m p ≡ pulse_start m p.pulse + pulse_length m p.pulse + 4 - p.left = q.at in
          let next : pulse_start m (p.pulse + 1) ≡ pulse_start m p.pulse + pulse_length m p.pulse + 4 = next_pulse m p.pulse i.pulse in
          let long : pulse_start m (p.pulse + 1) + pulse_length m (p.pulse + 1) ≤ bits m = pulse_within m (p.pulse + 1) more in
          let some_next : pulse_length m (p.pulse + 1) ≡ 20 * word_count (get_or m (p.pulse + 1) no_words) = length_at m (p.pulse + 1) no_words more in
          omega arith
    ] refl

-- the next bit time of a message, as a terminal tells it
pub next_is : (m : Message) (p : Place) (o : Option Place) → MatchOption o (place_of m p + 1 ≡ bits m) (λ n. IsPlace m n × (place_of m n ≡ place_of m p + 1)) → option_map (place_of m) o ≡ next_place m (place_of m p)
next_is m p None h = rw (le-ltb (place_of m p + 1) (bits m) (let k : bits m ≤ place_of m p + 1 = omega arith in k)) refl
next_is m p (Some n) h =
    let inside : place_of m n < bits m = place_within m n h.0 in
    let at : place_of m n ≡ place_of m p + 1 = h.1 in
    rw (lt-ltb (place_of m p + 1) (bits m) (let k : place_of m p + 1 < bits m = omega arith in k)) (ap (λ d. Some d) at)

-- whether a terminal sounds is whether its place is in a pulse
pub sounds_is : (hand : Hand) (sent : ℕ) (running : Option Place) (p : Place) → IsStanding hand sent running → running ≡ Some p → p.on ≡ option_map_or (λ d. is_on (last_begun hand sent) d) (place_in hand sent running) false
sounds_is hand sent None p s e = cc
sounds_is hand sent (Some q) p s e = let same : q ≡ p = cc in sym (ap (λ (w : Place). w.on) same) ∙ sym (on_at (last_begun hand sent) q s.place.1)

-- what runs was begun
pub running_begun : (hand : Hand) (sent : ℕ) (running : Option Place) (p : Place) → IsStanding hand sent running → running ≡ Some p → 0 < sent
running_begun hand sent None p s e = cc
running_begun hand sent (Some q) p s e = s.place.0
