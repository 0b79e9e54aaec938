-- The pulses of a message, wordstring by wordstring: laws with their proofs, for the lemmas of the crates above to cite.
use Rattle.std.proofs.Common.{◌≡◌, ℕ, zero, suc, ◌+◌, ◌-◌, ◌*◌, ◌<◌, ◌≤◌, Bool, true, false, ◌&&◌, ◌||◌, ltb, leb, [], ◌∷◌, length, take}
use Rattle.std.proofs.Common.{get_or, inl, inr, arith, sym, refl, ap, ◌∙◌}
use Rattle.std.specs.List.{sum_by, list_any, range_with_len}
use Rattle.std.proofs.lemmas.Bool.{cases_lt, lt-ltb, le-ltb, le-leb, lt-leb}
use Rattle.std.proofs.lemmas.List.{take_all}
use Rattle.std.proofs.lemmas.List.Sums.{sum_by-cons}
use Rattle.bus_strings.specs.Messages.{Wordstring, Message, word_count, bits}
use Rattle.bus_strings.specs.Pulses.{pulse_start, pulse_length, is_covered, is_on}
use Rattle.bus_strings.specs.PulseLaws.{FirstIsOn, LastIsOn, QuietBehind, PulseSoon, OnWithinPulse, LastPulseEnds, NextPulse}

-- how long the first pulse and the quiet behind it last
abbrev first_part : Wordstring → ℕ
first_part s = 20 * word_count s + 4

-- the same as `is_on`, along the message
abbrev pub on_along : Message → ℕ → Bool
on_along [] d = false
on_along (s ∷ m) d = ltb d (20 * word_count s) || (leb (first_part s) d && on_along m (d - first_part s))

-- a later pulse is a pulse of the rest, as much earlier
start_later : (s : Wordstring) (m : Message) (k : ℕ) → pulse_start (s ∷ m) (suc k) ≡ first_part s + pulse_start m k
start_later s m k = omega (arith, sum_by-cons word_count s (take k m))

-- both sides of a comparison, less the same number
leb_less : (a x d : ℕ) → a ≤ d → leb (a + x) d ≡ leb x (d - a)
leb_less a x d h =
    elim (cases_lt d (a + x)) [
      | inl l ↦ lt-leb (a + x) d l ∙ sym (lt-leb x (d - a) (omega arith))
      | inr l ↦ le-leb (a + x) d l
          ∙ sym (le-leb x (d - a) (omega arith))
    ]

ltb_less : (a y d : ℕ) → a ≤ d → ltb d (a + y) ≡ ltb (d - a) y
ltb_less a y d h =
    elim (cases_lt d (a + y)) [
      | inl l ↦ lt-ltb d (a + y) l ∙ sym (lt-ltb (d - a) y (omega arith))
      | inr l ↦ le-ltb d (a + y) l
          ∙ sym (le-ltb (d - a) y (omega arith))
    ]

covered_later : (s : Wordstring) (m : Message) (d k : ℕ)
    → is_covered (s ∷ m) d (suc k) ≡ (leb (first_part s) d && is_covered m (d - first_part s) k)
covered_later s m d k =
    let a : ℕ = pulse_start m k in
    let l : ℕ = pulse_length m k in
    let later : pulse_start (s ∷ m) (suc k) ≡ first_part s + a = start_later s m k in
    let begin : leb (pulse_start (s ∷ m) (suc k)) d ≡ leb (first_part s + a) d = ap (λ n. leb n d) later in
    let end : ltb d (pulse_start (s ∷ m) (suc k) + l) ≡ ltb d (first_part s + (a + l)) = ap (λ n. ltb d n)
    (let e : pulse_start (s ∷ m) (suc k) + l ≡ first_part s + (a + l) = omega arith in e) in
    ap (λ b. b && ltb d (pulse_start (s ∷ m) (suc k) + l)) begin ∙ ap (λ b. leb (first_part s + a) d && b) end
    ∙ elim (cases_lt d (first_part s)) [
      | inl before ↦ rw (lt-leb (first_part s) d before, lt-leb (first_part s + a) d (let e : d < first_part s + a = omega arith in e)) refl
      | inr behind ↦ rw (le-leb (first_part s) d behind, leb_less (first_part s) a d behind, ltb_less (first_part s) (a + l) d behind) refl
    ]

-- so are they all
any_later : (s : Wordstring) (m : Message) (d a n : ℕ)
    → list_any (is_covered (s ∷ m) d) (range_with_len (suc a) n) ≡
    (leb (first_part s) d && list_any (is_covered m (d - first_part s)) (range_with_len a n))
any_later s m d a zero = elim (leb (first_part s) d) as (λ b. false ≡ (b && false)) [ true ↦ refl | false ↦ refl ]
any_later s m d a (suc n) =
    ap (λ b. b || list_any (is_covered (s ∷ m) d) (range_with_len (suc a + 1) n)) (covered_later s m d a)
    ∙ ap (λ b. (leb (first_part s) d && is_covered m (d - first_part s) a) || b)
    (ap (λ i. list_any (is_covered (s ∷ m) d) (range_with_len i n)) (let e : suc a + 1 ≡ suc (a + 1) = omega arith in e)
    ∙ any_later s m d (a + 1) n)
    ∙ elim (leb (first_part s) d) as (λ b. ((b && is_covered m (d - first_part s) a) ||
    (b && list_any (is_covered m (d - first_part s)) (range_with_len (a + 1) n))) ≡ (b &&
    (is_covered m (d - first_part s) a || list_any (is_covered m (d - first_part s))
    (range_with_len (a + 1) n)))) [ true ↦ refl | false ↦ refl ]

pub on_is : (m : Message) (d : ℕ) → is_on m d ≡ on_along m d
on_is [] d = refl
on_is (s ∷ m) d =
    let first : is_covered (s ∷ m) d 0 ≡ ltb d (20 * word_count s) = ap (λ b. b && ltb d (0 + 20 * word_count s)) (le-leb 0 d (omega arith))
    ∙ ap (λ n. ltb d n) (let e : 0 + 20 * word_count s ≡ 20 * word_count s = omega arith in e) in
    ap (λ b. b || list_any (is_covered (s ∷ m) d) (range_with_len 1 (length m))) first
    ∙ ap (λ b. ltb d (20 * word_count s) || b) (any_later s m d 0 (length m))
    ∙ ap (λ b. ltb d (20 * word_count s) || (leb (first_part s) d && b)) (on_is m (d - first_part s))

-- the length of a message, wordstring by wordstring
pub bits_one : (s : Wordstring) → bits (s ∷ []) ≡ 20 * word_count s
bits_one s = omega (arith, sum_by-cons word_count s [])

bits_more : (s t : Wordstring) (m : Message) → bits (s ∷ (t ∷ m)) ≡ first_part s + bits (t ∷ m)
bits_more s t m = omega (arith, sum_by-cons word_count s (t ∷ m))

-- within the first pulse, in the quiet behind it, and behind that
on_first : (s : Wordstring) (m : Message) (d : ℕ) → d < 20 * word_count s → on_along (s ∷ m) d ≡ true
on_first s m d h = rw (lt-ltb d (20 * word_count s) h) refl

on_quiet : (s : Wordstring) (m : Message) (d : ℕ) → 20 * word_count s ≤ d → d < first_part s → on_along (s ∷ m) d ≡ false
on_quiet s m d h k = rw (le-ltb d (20 * word_count s) h, lt-leb (first_part s) d k) refl

on_behind : (s : Wordstring) (m : Message) (d : ℕ) → first_part s ≤ d → on_along (s ∷ m) d ≡ on_along m (d - first_part s)
on_behind s m d h = let k : 20 * word_count s ≤ d = omega arith in rw (le-ltb d (20 * word_count s) k, le-leb (first_part s) d h) refl

along_past : (m : Message) (d : ℕ) → bits m ≤ d → on_along m d ≡ false
along_past [] d h = refl
along_past (s ∷ []) d h =
    elim (cases_lt d (first_part s)) [
      | inl k ↦ on_quiet s [] d (omega (arith, bits_one s)) k
      | inr k ↦ on_behind s [] d k
    ]
along_past (s ∷ (t ∷ m)) d h =
    let more : bits (s ∷ (t ∷ m)) ≡ first_part s + bits (t ∷ m) = bits_more s t m in
    on_behind s (t ∷ m) d (omega arith) ∙ along_past (t ∷ m) (d - first_part s) (omega arith)

along_last : (s : Wordstring) (m : Message) → on_along (s ∷ m) (bits (s ∷ m) - 1) ≡ true
along_last s [] = on_first s [] (bits (s ∷ []) - 1) (omega (arith, bits_one s))
along_last s (t ∷ m) =
    let more : bits (s ∷ (t ∷ m)) ≡ first_part s + bits (t ∷ m) = bits_more s t m in
    let some : 20 ≤ bits (t ∷ m) = omega (arith, sum_by-cons word_count t m) in
    let at : bits (s ∷ (t ∷ m)) - 1 - first_part s ≡ bits (t ∷ m) - 1 = omega arith in
    on_behind s (t ∷ m) (bits (s ∷ (t ∷ m)) - 1) (omega arith) ∙ ap (on_along (t ∷ m)) at ∙ along_last t m

along_within : (m : Message) (k d : ℕ) → k < length m → d < pulse_length m k + 4
    → on_along m (pulse_start m k + d) ≡ ltb d (pulse_length m k)
along_within [] k d h w = absurd (omega arith)
along_within (s ∷ m) zero d h w =
    ap (on_along (s ∷ m)) (let e : pulse_start (s ∷ m) 0 + d ≡ d = omega arith in e) ∙ elim (cases_lt d (20 * word_count s)) [
      | inl l ↦ on_first s m d l ∙ sym (lt-ltb d (20 * word_count s) l)
      | inr l ↦ on_quiet s m d l w ∙ sym (le-ltb d (20 * word_count s) l)
    ]
along_within (s ∷ m) (suc k) d h w =
    let later : pulse_start (s ∷ m) (suc k) ≡ first_part s + pulse_start m k = start_later s m k in
    on_behind s m (pulse_start (s ∷ m) (suc k) + d) (omega arith)
    ∙ ap (on_along m) (let e : pulse_start (s ∷ m) (suc k) + d - first_part s ≡ pulse_start m k + d = omega arith in e)
    ∙ along_within m k d (omega arith) w

along_soon : (m : Message) (k : ℕ) → k + 4 < bits m → (at : ℕ) × (k ≤ at) × (at ≤ k + 4) × (on_along m at ≡ true)
along_soon [] k b = absurd (omega arith)
along_soon (s ∷ []) k b = (k, omega arith, omega arith, on_first s [] k (omega (arith, bits_one s)))
along_soon (s ∷ (t ∷ m)) k b =
    let more : bits (s ∷ (t ∷ m)) ≡ first_part s + bits (t ∷ m) = bits_more s t m in
    elim (cases_lt k (20 * word_count s)) [
      | inl first ↦ (k, omega arith, omega arith, on_first s (t ∷ m) k first)
      | inr behind ↦ elim (cases_lt k (first_part s)) [
        | inl quiet ↦ (
          first_part s,
          omega arith,
          omega arith,
          on_behind s (t ∷ m) (first_part s) (omega arith)
              ∙ ap (on_along (t ∷ m)) (let e : first_part s - first_part s ≡ 0 = omega arith in e) ∙ on_first t m 0 (omega arith),
        )
        | inr later ↦
            let p = along_soon (t ∷ m) (k - first_part s) (omega arith) in
            let low : k - first_part s ≤ p.0 = p.1 in
            let high : p.0 ≤ k - first_part s + 4 = p.2 in (
              p.0 + first_part s,
              omega arith,
              omega arith,
              on_behind s (t ∷ m) (p.0 + first_part s) (omega arith)
                  ∙ ap (on_along (t ∷ m)) (let e : p.0 + first_part s - first_part s ≡ p.0 = omega arith in e) ∙ p.3,
            )
      ]
    ]

-- the laws
pub first_is_on : FirstIsOn
first_is_on [] h = absurd (omega arith)
first_is_on (s ∷ m) h = on_is (s ∷ m) 0 ∙ on_first s m 0 (omega arith)

pub last_is_on : LastIsOn
last_is_on [] h = absurd (omega arith)
last_is_on (s ∷ m) h = on_is (s ∷ m) (bits (s ∷ m) - 1) ∙ along_last s m

pub quiet_behind : QuietBehind
quiet_behind m d h = on_is m d ∙ along_past m d h

pub pulse_soon : PulseSoon
pulse_soon m k h = let p = along_soon m k h in record { at = p.0; low = p.1; high = p.2; is_on = on_is m p.0 ∙ p.3 }

pub on_within_pulse : OnWithinPulse
on_within_pulse m k d h w = on_is m (pulse_start m k + d) ∙ along_within m k d h w

pub last_pulse_ends : LastPulseEnds
last_pulse_ends [] k h = absurd (omega arith)
last_pulse_ends (s ∷ []) zero h = omega (arith, bits_one s)
last_pulse_ends (s ∷ []) (suc k) h = absurd (omega arith)
last_pulse_ends (s ∷ (t ∷ m)) zero h = absurd (omega arith)
last_pulse_ends (s ∷ (t ∷ m)) (suc k) h =
    let later : pulse_start (s ∷ (t ∷ m)) (suc k) ≡ first_part s + pulse_start (t ∷ m) k = start_later s (t ∷ m) k in
    let rest : pulse_start (t ∷ m) k + pulse_length (t ∷ m) k ≡ bits (t ∷ m) = last_pulse_ends (t ∷ m) k (omega arith) in
    omega (arith, bits_more s t m)

next_along : (m : Message) (k : ℕ) → k < length m → pulse_start m (suc k) ≡ pulse_start m k + pulse_length m k + 4
next_along [] k h = absurd (omega arith)
next_along (s ∷ m) zero h = omega (arith, start_later s m 0)
next_along (s ∷ m) (suc k) h =
    let here : pulse_start (s ∷ m) (suc k) ≡ first_part s + pulse_start m k = start_later s m k in
    let next : pulse_start (s ∷ m) (suc (suc k)) ≡ first_part s + pulse_start m (suc k) = start_later s m (suc k) in
    let rest : pulse_start m (suc k) ≡ pulse_start m k + pulse_length m k + 4 = next_along m k (omega arith) in
    omega arith

pub next_pulse : NextPulse
next_pulse m k h = ap (pulse_start m) (let e : k + 1 ≡ suc k = omega arith in e) ∙ next_along m k h

pub length_at : (m : Message) (k : ℕ) (d : Wordstring) → k < length m → pulse_length m k ≡ 20 * word_count (get_or m k d)
length_at [] k d h = absurd (omega arith)
length_at (s ∷ m) zero d h = refl
length_at (s ∷ m) (suc k) d h = length_at m k d (omega arith)

-- what a loop over the wordstrings knows once the first k pulses don't cover bit time d
pub record IsSearched (m : Message) (k begin d : ℕ) : Type 0 where
  pub begun : begin ≡ pulse_start m k
  pub none : d < begin → is_on m d ≡ false

pub none_searched : (m : Message) (d : ℕ) → IsSearched m 0 0 d
none_searched m d = record { begun = refl; none = λ h. absurd (omega arith) }

pub one_searched : (m : Message) (k begin d : ℕ) (s : Wordstring) (begin' : ℕ) → k < length m → s ≡ get_or m k s → IsSearched m k begin d
    → begin ≤ d → 20 * word_count s ≤ d - begin → begin' ≡ begin + (20 * word_count s + 4) → IsSearched m (k + 1) begin' d
one_searched m k begin d s begin' h same i low behind e =
    let begun : begin ≡ pulse_start m k = i.begun in
    let next : pulse_start m (k + 1) ≡ pulse_start m k + pulse_length m k + 4 = next_pulse m k h in
    let long : pulse_length m k ≡ 20 * word_count s = length_at m k s h ∙ ap (λ w. 20 * word_count w) (sym same) in
    record {
      begun = omega arith;
      none = λ before.
          let at : pulse_start m k + (d - begin) ≡ d = omega arith in
          ap (is_on m) (sym at) ∙ on_within_pulse m k (d - begin) h (omega arith) ∙ le-ltb (d - begin) (pulse_length m k) (omega arith);
    }

pub found : (m : Message) (k begin d : ℕ) (s : Wordstring) → k < length m → s ≡ get_or m k s → IsSearched m k begin d → begin ≤ d
    → d - begin < 20 * word_count s → is_on m d ≡ true
found m k begin d s h same i low inside =
    let begun : begin ≡ pulse_start m k = i.begun in
    let long : pulse_length m k ≡ 20 * word_count s = length_at m k s h ∙ ap (λ w. 20 * word_count w) (sym same) in
    let at : pulse_start m k + (d - begin) ≡ d = omega arith in
    ap (is_on m) (sym at) ∙ on_within_pulse m k (d - begin) h (omega arith) ∙ lt-ltb (d - begin) (pulse_length m k) (omega arith)

pub all_searched : (m : Message) (k begin d : ℕ) → length m ≤ k → IsSearched m k begin d → is_on m d ≡ false
all_searched m k begin d h i =
    elim (cases_lt d begin) [
      | inl before ↦ i.none before
      | inr behind ↦ let begun : begin ≡ pulse_start m k =
          i.begun in quiet_behind m d (omega (arith, ap (sum_by word_count) (take_all k m h)))
    ]
