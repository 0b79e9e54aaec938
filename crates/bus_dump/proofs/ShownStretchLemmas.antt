-- What a message shows from a bit time on, wordstring by wordstring.
use Rattle.std.proofs.Common.{◌≡◌, ℕ, suc, ◌+◌, ◌-◌, ◌*◌, ◌/◌, ◌%◌, ◌<◌, ◌≤◌, Bool, ltb, [], ◌∷◌, length, drop, get_or, Some, None}
use Rattle.std.proofs.Common.{inl, inr, arith, sym, refl, ap, subst, ◌∙◌, drop-cons}
use Rattle.std.proofs.lemmas.Bool.{cases_lt, lt-ltb, le-ltb}
use Rattle.std.proofs.lemmas.List.{length-drop}
use Rattle.std.proofs.lemmas.List.Sums.{sum_by-cons}
use Rattle.bus_strings.specs.Messages.{Wordstring, Message, word_count, bits}
use Rattle.bus_strings.proofs.PulsesAlongLaws.{bits_one}
use Rattle.bus_dump.specs.declared.shown_stretch.ShownStretch.{ShownStretch}
use Rattle.bus_dump.specs.OnBus.{label_value, word_at, shown_of, shown_at}
use Rattle.bus_dump.specs.inside.Walks.{IsShownStretch, stretch_in, left_of}
use Rattle.bus_dump.specs.declared.shown.Shown.{Shown}

-- how long a word stays as it is
pub record IsLeft (b left : ℕ) : Type 0 where
  pub some : 1 ≤ left
  pub within : b + left ≤ 20
  pub steady : (more : ℕ) → more < left → ltb (b + more) 3 ≡ ltb b 3

left_is : (b : ℕ) → b < 20 → IsLeft b (left_of b)
left_is b h =
    elim (cases_lt b 3) [
      | inl low ↦ rw (lt-ltb b 3 low) (record {
        some = omega arith;
        within = omega arith;
        steady = λ more m. lt-ltb (b + more) 3 (omega arith) ∙ sym (lt-ltb b 3 low);
      })
      | inr high ↦ rw (le-ltb b 3 high) (record {
        some = omega arith;
        within = omega arith;
        steady = λ more m. le-ltb (b + more) 3 (omega arith) ∙ sym (le-ltb b 3 high);
      })
    ]

-- what is at a bit time of a message whose first wordstring is s
pub first_at : (s : Wordstring) (m : Message) (d : ℕ) → d < 20 * word_count s → shown_at (s ∷ m) d ≡ Some (shown_of (record { string = s; at = d }))
first_at s m d h = rw (lt-ltb d (20 * word_count s) h) refl

pub quiet_at : (s : Wordstring) (m : Message) (d : ℕ) → 20 * word_count s ≤ d → d < 20 * word_count s + 4 → shown_at (s ∷ m) d ≡ None
quiet_at s m d h k = rw (le-ltb d (20 * word_count s) h, lt-ltb d (20 * word_count s + 4) k) refl

pub later_at : (s : Wordstring) (m : Message) (d : ℕ) → 20 * word_count s + 4 ≤ d → shown_at (s ∷ m) d ≡ shown_at m (d - (20 * word_count s + 4))
later_at s m d h =
    let k : 20 * word_count s ≤ d = omega arith in
    rw (le-ltb d (20 * word_count s) k, le-ltb d (20 * word_count s + 4) h) refl

bits_more : (s t : Wordstring) (m : Message) → bits (s ∷ (t ∷ m)) ≡ 20 * word_count s + 4 + bits (t ∷ m)
bits_more s t m = omega (arith, sum_by-cons word_count s (t ∷ m))

pub bits_least : (s : Wordstring) (m : Message) → 20 * word_count s ≤ bits (s ∷ m)
bits_least s m = omega (arith, sum_by-cons word_count s m)

-- the same wordstring as many bit times later shows the same
same_shown : (s : Wordstring) (d e : ℕ) → d / 20 ≡ e / 20 → ltb (d % 20) 3 ≡ ltb (e % 20) 3
    → shown_of (record { string = s; at = d }) ≡ shown_of (record { string = s; at = e })
same_shown s d e w b =
    ap (λ k. made s (word_at s k) (ltb (d % 20) 3)) w ∙ ap (made s (word_at s (e / 20))) b where
      made : Wordstring → ℕ → Bool → Shown
      made s word sync = record { label = label_value s; word = word; sync = sync }

-- in the first wordstring, in the quiet behind it, and behind that
pub stretch_first : (s : Wordstring) (m : Message) (d : ℕ) → d < 20 * word_count s → IsShownStretch (s ∷ m) d (stretch_in s d)
stretch_first s m d h =
    let l : IsLeft (d % 20) (left_of (d % 20)) = left_is (d % 20) (omega arith) in
    let some : 1 ≤ left_of (d % 20) = l.some in
    let within : d % 20 + left_of (d % 20) ≤ 20 = l.within in
    let behind : d + left_of (d % 20) ≤ 20 * word_count s = omega arith in
    record {
      some = some;
      short = omega arith;
      within = omega (arith, bits_least s m);
      steady = λ more k.
          let inside : d + more < 20 * word_count s = omega arith in
          let place : (d + more) % 20 ≡ d % 20 + more = omega arith in
          let word : (d + more) / 20 ≡ d / 20 = omega arith in
          first_at s m (d + more) inside
          ∙ ap Some (same_shown s (d + more) d word (ap (λ b. ltb b 3) place ∙ l.steady more k));
    }

pub stretch_quiet : (s : Wordstring) (m : Message) (d : ℕ) → 20 * word_count s ≤ d → d < 20 * word_count s + 4 → d < bits (s ∷ m)
    → IsShownStretch (s ∷ m) d (record { shown = None; left = 20 * word_count s + 4 - d })
stretch_quiet s [] d h k b = absurd (omega (arith, bits_one s))
stretch_quiet s (t ∷ m) d h k b = record {
  some = omega arith;
  short = omega arith;
  within = omega (arith, bits_more s t m);
  steady = λ more e. quiet_at s (t ∷ m) (d + more) (omega arith) (omega arith);
}

pub stretch_later : (s : Wordstring) (m : Message) (d : ℕ) (g : ShownStretch) → 20 * word_count s + 4 ≤ d → IsShownStretch m (d - (20 * word_count s + 4)) g
    → IsShownStretch (s ∷ m) d g
stretch_later s [] d g h i = let some : 1 ≤ g.left = i.some in let within : d - (20 * word_count s + 4) + g.left ≤ bits [] = i.within in absurd (omega arith)
stretch_later s (t ∷ m) d g h i =
    let within : d - (20 * word_count s + 4) + g.left ≤ bits (t ∷ m) = i.within in
    record {
      some = i.some;
      short = i.short;
      within = omega (arith, bits_more s t m);
      steady = λ more e.
          let same : d + more - (20 * word_count s + 4) ≡ d - (20 * word_count s + 4) + more = omega arith in
          later_at s (t ∷ m) (d + more) (omega arith) ∙ ap (shown_at (t ∷ m)) same ∙ i.steady more e;
    }

-- what a loop knows that has passed k wordstrings: bit time d is bit time `rest` of the others
pub record IsSought (m : Message) (k d rest : ℕ) : Type 0 where
  pub inside : rest < bits (drop k m)
  pub found : (g : ShownStretch) → IsShownStretch (drop k m) rest g → IsShownStretch m d g

pub sought_first : (m : Message) (d : ℕ) → d < bits m → IsSought m 0 d d
sought_first m d h = record { inside = h; found = λ g i. i }

next_is : (m : Message) (k : ℕ) (s : Wordstring) → k < length m → s ≡ get_or m k s → drop k m ≡ s ∷ drop (suc k) m
next_is m k s h e = drop-cons m k s h ∙ ap (λ x. x ∷ drop (suc k) m) (sym e)

more_inside : (s : Wordstring) (m : Message) (d : ℕ) → 20 * word_count s + 4 ≤ d → d < bits (s ∷ m) → d - (20 * word_count s + 4) < bits m
more_inside s [] d h b = absurd (omega (arith, bits_one s))
more_inside s (t ∷ m) d h b = omega (arith, bits_more s t m)

pub sought_next : (m : Message) (k d rest : ℕ) (s : Wordstring) → k < length m → s ≡ get_or m k s → IsSought m k d rest
    → 20 * word_count s + 4 ≤ rest → IsSought m (k + 1) d (rest - (20 * word_count s + 4))
sought_next m k d rest s h e i low =
    let one : k + 1 ≡ suc k = omega arith in
    let here : drop k m ≡ s ∷ drop (suc k) m = next_is m k s h e in
    subst (λ n. IsSought m n d (rest - (20 * word_count s + 4))) (sym one) (record {
      inside = more_inside s (drop (suc k) m) rest low (subst (λ x. rest < bits x) here i.inside);
      found = λ g j. i.found g (subst (λ x. IsShownStretch x rest g) (sym here) (stretch_later s (drop (suc k) m) rest g low j));
    })

pub found_first : (m : Message) (k d rest : ℕ) (s : Wordstring) → k < length m → s ≡ get_or m k s → IsSought m k d rest
    → rest < 20 * word_count s → IsShownStretch m d (stretch_in s rest)
found_first m k d rest s h e i low =
    i.found (stretch_in s rest) (subst (λ x. IsShownStretch x rest (stretch_in s rest)) (sym (next_is m k s h e)) (stretch_first s (drop (suc k) m) rest low))

pub found_quiet : (m : Message) (k d rest : ℕ) (s : Wordstring) → k < length m → s ≡ get_or m k s → IsSought m k d rest
    → 20 * word_count s ≤ rest → rest < 20 * word_count s + 4 → IsShownStretch m d (record { shown = None; left = 20 * word_count s + 4 - rest })
found_quiet m k d rest s h e i low high =
    let here : drop k m ≡ s ∷ drop (suc k) m = next_is m k s h e in
    i.found _ (subst (λ x. IsShownStretch x rest (record { shown = None; left = 20 * word_count s + 4 - rest })) (sym here)
    (stretch_quiet s (drop (suc k) m) rest low high (subst (λ x. rest < bits x) here i.inside)))

pub not_behind : (m : Message) (k d rest : ℕ) → length m ≤ k → IsSought m k d rest → ⊥
not_behind m k d rest h i = none (drop k m) (omega (arith, length-drop k m)) i.inside where
  none : (x : Message) → length x ≡ 0 → rest < bits x → ⊥
  none [] e b = omega arith
  none (s ∷ x) e b = omega arith
