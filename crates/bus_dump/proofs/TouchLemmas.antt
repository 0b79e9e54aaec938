-- Which terminals are touched, one after another.
use Rattle.std.proofs.Common.{◌≡◌, ℕ, ◌+◌, ◌<◌, Bool, true, false, ◌||◌, eqb, List, [], ◌∷◌, length, take, get_or, set, inl, inr, sym, ap, ◌∙◌, refl}
use Rattle.std.specs.List.{find, list_any}
use Rattle.std.specs.Option.{option_or}
use Rattle.std.proofs.lemmas.Bool.{cases_eq, ne_eqb, true≢false}
use Rattle.std.proofs.lemmas.List.{get_or-set_same, get_or-set_other, take_more}
use Rattle.std.proofs.lemmas.List.Folds.{find-append, list_any_more}
use Rattle.bus_dump.specs.Seen.{Seen}
use Rattle.bus_dump.specs.Signals.{is_of, tells_of}
use Rattle.bus_dump.specs.Timers.{Elapsed}

-- a terminal that isn't touched, where another is, was not before
pub record Untouched (touched : List Bool) (n m : ℕ) : Type 0 where
  pub other : eqb m n ≡ false
  pub was : get_or touched n false ≡ false

pub untouched : (touched : List Bool) (n m : ℕ) → m < length touched → get_or (set touched m true) n false ≡ false → Untouched touched n m
untouched touched n m within h = elim (cases_eq n m) [
  | inl same ↦ absurd (true≢false (sym (ap (λ j. get_or (set touched m true) j false) same ∙ get_or-set_same touched m true false within) ∙ h))
  | inr other ↦ record {
    other = ne_eqb m n (λ e. other (sym e));
    was = sym (get_or-set_other touched m n true false other) ∙ h;
  }
]

-- what holds of each terminal that isn't touched, of the first i that are seen
abbrev pub SeenTouched : List Bool → List Bool → List Seen → ℕ → Type 0
SeenTouched old touched seen i =
    (n : ℕ) → n < 256 → get_or touched n false ≡ false → (get_or old n false ≡ false) × (list_any (is_of n) (take i seen) ≡ false)

pub seen_more : (old touched : List Bool) (seen : List Seen) (i : ℕ) (d : Seen) → i < length seen → (get_or seen i d).terminal < length touched
    → SeenTouched old touched seen i → SeenTouched old (set touched (get_or seen i d).terminal true) seen (i + 1)
seen_more old touched seen i d within fits so n h e =
    let u = untouched touched n (get_or seen i d).terminal fits e in
    let before = so n h u.was in (
      before.0,
      list_any_more (is_of n) seen i d within ∙ ap (λ b. b || is_of n (get_or seen i d)) before.1 ∙ u.other,
    )

-- the same of the first k senders' timers
abbrev pub TimersTouched : List Bool → List Bool → List Elapsed → List Elapsed → ℕ → Type 0
TimersTouched old touched before now k =
    (n : ℕ) → n < 256 → get_or touched n false ≡ false
    → (get_or old n false ≡ false) × (find (tells_of n) (take k before) ≡ find (tells_of n) (take k now))

pub timers_more : (old touched touched' : List Bool) (before now : List Elapsed) (k : ℕ) (d e : Elapsed) → k < length before → k < length now
    → TimersTouched old touched before now k
    → ((n : ℕ) → n < 256 → get_or touched' n false ≡ false → (get_or touched n false ≡ false)
    × (find (tells_of n) (get_or before k d ∷ []) ≡ find (tells_of n) (get_or now k e ∷ [])))
    → TimersTouched old touched' before now (k + 1)
timers_more old touched touched' before now k d e a b so step n h f =
    let p = tells_of n in
    let x : Elapsed = get_or before k d in
    let y : Elapsed = get_or now k e in
    let one = step n h f in
    let rest = so n h one.0 in (
      rest.0,
      ap (find p) (take_more before k d a) ∙ find-append p (take k before) (x ∷ [])
          ∙ ap (λ o. option_or o (find p (x ∷ []))) rest.1 ∙ ap (option_or (find p (take k now))) one.1
          ∙ sym (ap (find p) (take_more now k e b) ∙ find-append p (take k now) (y ∷ [])),
    )

-- no timers are found where both are of others
pub none_tells : (n : ℕ) (x y : Elapsed) → eqb x.terminal n ≡ false → eqb y.terminal n ≡ false → find (tells_of n) (x ∷ []) ≡ find (tells_of n) (y ∷ [])
none_tells n x y h k = rw (h, k) refl
