-- The pulses of a message, wordstring by wordstring.
use Rattle.std.proofs.Common.{◌≡◌, ℕ, suc, ◌+◌, ◌-◌, ◌*◌, ◌<◌, ◌≤◌, Bool, true, false, ◌&&◌, ◌||◌, ltb, leb, List, ◌∷◌, length, drop}
use Rattle.std.proofs.Common.{get_or, inl, inr, arith, sym, refl, ap, ◌∙◌, add-one}
use Rattle.std.proofs.lemmas.Bool.{cases_lt, lt-ltb, le-ltb, le-leb, lt-leb, and_right}
use Rattle.std.proofs.Math.Seq.{drop-cons}
use Rattle.std.proofs.Math.ListN.{drop_of_length-le}
use Rattle.bus_strings.specs.Messages.{Wordstring, Message, Entry, word_count}
use Rattle.bus_strings.specs.Transmissions.{pulses}
use Rattle.bus_strings.proofs.PulsesAlongLaws.{on_along, on_is}
use Rattle.bus_load.specs.Loads.{Stretch, has, is_within}

-- whether a message of these wordstrings, which begins at bit time b, has a pulse at bit time t
abbrev pub on_from : Message → ℕ → ℕ → Bool
on_from strings b t = leb b t && on_along strings (t - b)

-- the first pulse, or a later one
first_or_later : (s : Wordstring) (m : Message) (b t : ℕ)
    → on_from (s ∷ m) b t ≡ ((leb b t && ltb t (b + 20 * word_count s)) || on_from m (b + 20 * word_count s + 4) t)
first_or_later s m b t =
    elim (cases_lt t b) [
      | inl before ↦ rw (lt-leb b t before, lt-leb (b + 20 * word_count s + 4) t (let e : t < b + 20 * word_count s + 4 = omega arith in e)) refl
      | inr begun ↦ elim (cases_lt t (b + 20 * word_count s)) [
        | inl first ↦ rw (le-leb b t begun, lt-ltb t (b + 20 * word_count s) first, lt-ltb (t - b) (20 * word_count s) (let e : t - b < 20 * word_count s = omega arith in e)) refl
        | inr behind ↦ elim (cases_lt t (b + 20 * word_count s + 4)) [
          | inl quiet ↦ rw (
            le-leb b t begun,
            le-ltb t (b + 20 * word_count s) behind,
            le-ltb (t - b) (20 * word_count s) (let e : 20 * word_count s ≤ t - b = omega arith in e),
            lt-leb (20 * word_count s + 4) (t - b) (let e : t - b < 20 * word_count s + 4 = omega arith in e),
            lt-leb (b + 20 * word_count s + 4) t quiet,
          ) refl
          | inr later ↦ rw (
            le-leb b t begun,
            le-ltb t (b + 20 * word_count s) behind,
            le-ltb (t - b) (20 * word_count s) (let e : 20 * word_count s ≤ t - b = omega arith in e),
            le-leb (20 * word_count s + 4) (t - b) (let e : 20 * word_count s + 4 ≤ t - b = omega arith in e),
            le-leb (b + 20 * word_count s + 4) t later,
          ) (ap (on_along m) (let e : t - b - (20 * word_count s + 4) ≡ t - (b + 20 * word_count s + 4) = omega arith in e))
        ]
      ]
    ]

or_moved : (a b c d : Bool) → d ≡ (b || c) → ((a || b) || c) ≡ (a || d)
or_moved true b c d e = refl
or_moved false b c d e = sym e

-- what the stretches have so far and what is to come make these
abbrev pub Makes : List Stretch → Message → ℕ → List Stretch → Message → ℕ → Type 0
Makes stretches rest from whole strings moment =
    (t : ℕ) → (is_within stretches t || on_from rest from t) ≡ (is_within whole t || on_from strings moment t)

pub one_more : (was now whole : List Stretch) (m strings : Message) (k b to b' moment : ℕ) (s : Wordstring) → k < length m → s ≡ get_or m k s
    → to ≡ b + 20 * word_count s → b' ≡ to + 4 → ((t : ℕ) → is_within now t ≡ (is_within was t || has t (record { from = b; to = to })))
    → Makes was (drop k m) b whole strings moment → Makes now (drop (k + 1) m) b' whole strings moment
one_more was now whole m strings k b to b' moment s h at e f added i t =
    let rest : drop k m ≡ s ∷ drop (k + 1) m = drop-cons m k s h ∙ ap (λ w. w ∷ drop (suc k) m) (sym at) ∙ ap (λ n. s ∷ drop n m) (sym (add-one k)) in
    ap (λ b. b || on_from (drop (k + 1) m) b' t) (added t)
    ∙ or_moved (is_within was t) (has t (record { from = b; to = to })) (on_from (drop (k + 1) m) b' t) (on_from (drop k m) b t)
    (ap (λ w. on_from w b t) rest ∙ first_or_later s (drop (k + 1) m) b t
    ∙ ap (λ n. (leb b t && ltb t n) || on_from (drop (k + 1) m) (n + 4) t) (sym e)
    ∙ ap (λ n. (leb b t && ltb t to) || on_from (drop (k + 1) m) n t) (sym f))
    ∙ i t

or_false : (a b : Bool) → b ≡ false → (a || b) ≡ a
or_false true b e = refl
or_false false b e = e

pub all_made : (stretches whole : List Stretch) (m strings : Message) (k b : ℕ) (x : Entry) → length m ≤ k → strings ≡ x.message
    → Makes stretches (drop k m) b whole strings x.moment → (t : ℕ) → is_within stretches t ≡ (is_within whole t || pulses t x)
all_made stretches whole m strings k b x h e i t =
    sym (or_false (is_within stretches t) (on_from (drop k m) b t) (ap (λ w. on_from w b t) (drop_of_length-le m {i = k} h) ∙ and_right (leb b t) false refl))
    ∙ i t
    ∙ ap (λ b. is_within whole t || (leb x.moment t && b)) (ap (λ w. on_along w (t - x.moment)) e ∙ sym (on_is x.message (t - x.moment)))
