-- What the signals are in the words of pulses and carrier.
use Rattle.std.proofs.Common.{◌≡◌, ℕ, zero, suc, ◌+◌, ◌-◌, ◌*◌, ◌≤◌, Bool, true, false, cond, ◌&&◌, ◌||◌, ltb, leb, eqb, List, [], ◌∷◌, length, Option, Some, None}
use Rattle.std.proofs.Common.{inl, inr, arith, sym, refl, ap, ◌∙◌}
use Rattle.std.specs.Prelude.{slice_get}
use Rattle.std.specs.List.{count_by, cons_option, filter, filter_map, list_any, range_with_len}
use Rattle.std.specs.Option.{is_some, option_map_or}
use Rattle.std.proofs.lemmas.Bool.{cases_lt, cases_Bool, lt-ltb, le-ltb, le-leb, lt-leb, or_left, or_from, and_left, eq-eqb, eqb-true, and_right}
use Rattle.std.proofs.lemmas.List.Sums.{length-filter}
use Rattle.bus_strings.proofs.MemberLaws.{filter_same}
use Rattle.bus_strings.specs.Messages.{Message, Entry, word_count}
use Rattle.bus_strings.specs.Pulses.{is_on as is_on_bus}
use Rattle.bus_strings.proofs.PulsesAlongLaws.{on_is, quiet_behind}
use Rattle.bus_strings.specs.Transmissions.{carrier, end_of, garbled, pulses}
use Rattle.bus_dump.specs.OnBus.{shown_at}
use Rattle.bus_dump.specs.Seen.{Seen, holds, seen_of, seen_entry, seen_at}
use Rattle.bus_dump.specs.Signals.{is_of, is_on}
use Rattle.bus_dump.proofs.LiveLemmas.{absent, present, at_place, held_from, not_held, seen_none, seen_some}

-- a message shows something exactly where a pulse is on
later_is : (x y z : Bool) → x ≡ false → y ≡ true → (x || (y && z)) ≡ z
later_is x y z p q = rw (p, q) refl

pub shown_is_on : (m : Message) (d : ℕ) → is_some (shown_at m d) ≡ is_on_bus m d
shown_is_on [] d = refl
shown_is_on (s ∷ m) d =
    let a : ℕ = 20 * word_count s in
    elim (cases_lt d a) [
      | inl on ↦ rw (lt-ltb d (20 * word_count s) on) (sym (on_is (s ∷ m) d ∙ or_left (ltb d a) _ (lt-ltb d a on)))
      | inr behind ↦ elim (cases_lt d (a + 4)) [
        | inl quiet ↦ rw (le-ltb d (20 * word_count s) behind, lt-ltb d (20 * word_count s + 4) quiet)
            (sym (on_is (s ∷ m) d ∙ or_from (ltb d a) _ (le-ltb d a behind) (and_left (leb (a + 4) d) _ (lt-leb (a + 4) d quiet))))
        | inr later ↦ rw (le-ltb d (20 * word_count s) behind, le-ltb d (20 * word_count s + 4) later)
            (shown_is_on m (d - (a + 4)) ∙ on_is m (d - (a + 4))
            ∙ sym (on_is (s ∷ m) d ∙ later_is (ltb d a) (leb (a + 4) d) _ (le-ltb d a behind) (le-leb (a + 4) d later)))
      ]
    ]

-- what is seen along a list
pub any_given : {Y : Type 0} (p : Y → Bool) (f : ℕ → Option Y) (a n : ℕ)
    → list_any p (filter_map f (range_with_len a n)) ≡ list_any (λ k. option_map_or p (f k) false) (range_with_len a n)
any_given p f a zero = refl
any_given p f a (suc n) = by_option (f a) ∙ ap (λ b. option_map_or p (f a) false || b) (any_given p f (a + 1) n) where
  by_option : (o : Option _) → list_any p (cons_option o (filter_map f (range_with_len (a + 1) n)))
      ≡ (option_map_or p o false || list_any p (filter_map f (range_with_len (a + 1) n)))
  by_option None = refl
  by_option (Some y) = refl

pub any_same : (p q : ℕ → Bool) (a n : ℕ) → ((k : ℕ) → p k ≡ q k) → list_any p (range_with_len a n) ≡ list_any q (range_with_len a n)
any_same p q a zero h = refl
any_same p q a (suc n) h = ap (λ b. b || list_any p (range_with_len (a + 1) n)) (h a) ∙ ap (λ b. q a || b) (any_same p q (a + 1) n h)

any_later : (p : ℕ → Bool) (a n : ℕ) → list_any p (range_with_len (a + 1) n) ≡ list_any (λ k. p (suc k)) (range_with_len a n)
any_later p a zero = refl
any_later p a (suc n) =
    ap (λ k. p k || list_any p (range_with_len (a + 1 + 1) n)) (let e : a + 1 ≡ suc a = omega arith in e)
    ∙ ap (λ b. p (suc a) || b) (any_later p (a + 1) n)

pub any_places : (p : Entry → Bool) (list : List Entry) → list_any (λ k. option_map_or p (slice_get list k) false) (range_with_len 0 (length list)) ≡ list_any p list
any_places p [] = refl
any_places p (x ∷ list) =
    ap (λ b. p x || b) (any_later (λ k. option_map_or p (slice_get (x ∷ list) k) false) 0 (length list) ∙ any_places p list)

-- an entry is seen with a pulse exactly where it has one
pub entry_pulse : (list : List Entry) (t k : ℕ) (x : Entry)
    → option_map_or is_on (cond (holds t x) (Some (seen_of list t k x)) None) false ≡ pulses t x
entry_pulse list t k x = elim (cases_Bool (holds t x)) [
  | inl on ↦ ap (λ b. option_map_or is_on (cond b (Some (seen_of list t k x)) None) false) on
      ∙ shown_is_on x.message (t - x.moment)
      ∙ sym (ap (λ b. b && is_on_bus x.message (t - x.moment)) (le-leb x.moment t (held_from t x on)))
  | inr off ↦ ap (λ b. option_map_or is_on (cond b (Some (seen_of list t k x)) None) false) off
      ∙ sym (elim (cases_lt t x.moment) [
        | inl before ↦ ap (λ b. b && is_on_bus x.message (t - x.moment)) (lt-leb x.moment t before)
        | inr begun ↦
            let ended : end_of x ≤ t = not_held t x begun off in
            ap (λ b. leb x.moment t && b) (quiet_behind x.message (t - x.moment) (omega arith)) ∙ and_right (leb x.moment t) false refl
      ])
]

-- what a test of what is seen says along a list
pub seen_any : (list : List Entry) (t : ℕ) (p : Seen → Bool) (q : ℕ → Entry → Bool)
    → ((k : ℕ) (x : Entry) → option_map_or p (cond (holds t x) (Some (seen_of list t k x)) None) false ≡ q k x)
    → list_any p (seen_at list t) ≡ list_any (λ k. option_map_or (q k) (slice_get list k) false) (range_with_len 0 (length list))
seen_any list t p q h =
    any_given p (seen_entry list t) 0 (length list)
    ∙ any_same (λ k. option_map_or p (seen_entry list t k) false) (λ k. option_map_or (q k) (slice_get list k) false) 0 (length list) (λ k. elim (at_place list k) [
      | absent e ↦ ap (λ o. option_map_or p o false) (seen_none list t k e) ∙ sym (ap (λ o. option_map_or (q k) o false) e)
      | present x e ↦ ap (λ o. option_map_or p o false) (seen_some list t k x e) ∙ h k x ∙ sym (ap (λ o. option_map_or (q k) o false) e)
    ])

-- some pulse is seen exactly where the list has carrier
pub carrier_seen : (list : List Entry) (t : ℕ) → list_any is_on (seen_at list t) ≡ carrier list t
carrier_seen list t = seen_any list t is_on (λ k. pulses t) (λ k x. entry_pulse list t k x) ∙ any_places (pulses t) list

-- a pulse of a terminal is seen exactly where it has one
of_pulse : (n : ℕ) (o : Option Seen) (m : ℕ) → option_map_or (λ (s : Seen). eqb s.terminal m) o true ≡ true
    → option_map_or (λ s. is_of n s && is_on s) o false ≡ (eqb m n && option_map_or is_on o false)
of_pulse n None m h = sym (and_right (eqb m n) false refl)
of_pulse n (Some s) m h = ap (λ k. eqb k n && is_on s) (eqb-true s.terminal m h)

entry_of : (list : List Entry) (t k : ℕ) (x : Entry) → option_map_or (λ (s : Seen). eqb s.terminal x.terminal) (cond (holds t x) (Some (seen_of list t k x)) None) true ≡ true
entry_of list t k x =
    elim (holds t x) as (λ b. option_map_or (λ (s : Seen). eqb s.terminal x.terminal) (cond b (Some (seen_of list t k x)) None) true ≡ true) [
      | true ↦ eq-eqb x.terminal x.terminal refl
      | false ↦ refl
    ]

pub pulse_seen : (list : List Entry) (t n : ℕ) → list_any (λ s. is_of n s && is_on s) (seen_at list t) ≡ list_any (λ (x : Entry). eqb x.terminal n && pulses t x) list
pulse_seen list t n =
    seen_any list t (λ s. is_of n s && is_on s) (λ k (x : Entry). eqb x.terminal n && pulses t x) (λ k x.
    of_pulse n (cond (holds t x) (Some (seen_of list t k x)) None) x.terminal (entry_of list t k x) ∙ ap (λ b. eqb x.terminal n && b) (entry_pulse list t k x))
    ∙ any_places (λ (x : Entry). eqb x.terminal n && pulses t x) list

-- a garbled one of a terminal is seen exactly where the span of a garbled one of it is
pub garbled_seen : (list : List Entry) (t n : ℕ)
    → list_any (λ s. is_of n s && s.garbled) (seen_at list t)
    ≡ list_any (λ k. option_map_or (λ (x : Entry). holds t x && eqb x.terminal n && garbled list k) (slice_get list k) false) (range_with_len 0 (length list))
garbled_seen list t n =
    seen_any list t (λ s. is_of n s && s.garbled) (λ k (x : Entry). holds t x && eqb x.terminal n && garbled list k) (λ k x.
    elim (holds t x) as (λ b. option_map_or (λ s. is_of n s && s.garbled) (cond b (Some (seen_of list t k x)) None) false ≡ (b && eqb x.terminal n && garbled list k)) [
      | true ↦ refl
      | false ↦ refl
    ])

-- as many are seen as spans hold the bit time
length_given : {Y : Type 0} (f : ℕ → Option Y) (a n : ℕ) → length (filter_map f (range_with_len a n)) ≡ length (filter (λ k. is_some (f k)) (range_with_len a n))
length_given f a zero = refl
length_given f a (suc n) = by_option (f a) (length_given f (a + 1) n) where
  by_option : (o : Option _) → length (filter_map f (range_with_len (a + 1) n)) ≡ length (filter (λ k. is_some (f k)) (range_with_len (a + 1) n))
      → length (cons_option o (filter_map f (range_with_len (a + 1) n)))
      ≡ length (cond (is_some o) (a ∷ filter (λ k. is_some (f k)) (range_with_len (a + 1) n)) (filter (λ k. is_some (f k)) (range_with_len (a + 1) n)))
  by_option None e = e
  by_option (Some y) e = ap suc e

filter_later : (p : ℕ → Bool) (a n : ℕ) → length (filter p (range_with_len (a + 1) n)) ≡ length (filter (λ k. p (suc k)) (range_with_len a n))
filter_later p a zero = refl
filter_later p a (suc n) =
    let one : a + 1 ≡ suc a = omega arith in
    let e = filter_later p (a + 1) n in
    ap (λ k. length (cond (p k) (k ∷ filter p (range_with_len (a + 1 + 1) n)) (filter p (range_with_len (a + 1 + 1) n)))) one
    ∙ elim (p (suc a)) as (λ b. length (cond b (suc a ∷ filter p (range_with_len (a + 1 + 1) n)) (filter p (range_with_len (a + 1 + 1) n)))
    ≡ length (cond b (a ∷ filter (λ k. p (suc k)) (range_with_len (a + 1) n)) (filter (λ k. p (suc k)) (range_with_len (a + 1) n)))) [
      | true ↦ ap suc e
      | false ↦ e
    ]

pub filter_places : (p : Entry → Bool) (list : List Entry)
    → length (filter (λ k. option_map_or p (slice_get list k) false) (range_with_len 0 (length list))) ≡ length (filter p list)
filter_places p [] = refl
filter_places p (x ∷ list) =
    let f : ℕ → Bool = λ k. option_map_or p (slice_get (x ∷ list) k) false in
    let e : length (filter f (range_with_len (0 + 1) (length list))) ≡ length (filter p list) = filter_later f 0 (length list) ∙ filter_places p list in
    elim (p x) as (λ b. length (cond b (0 ∷ filter f (range_with_len (0 + 1) (length list))) (filter f (range_with_len (0 + 1) (length list))))
    ≡ length (cond b (x ∷ filter p list) (filter p list))) [
      | true ↦ ap suc e
      | false ↦ e
    ]

pub held_seen : (list : List Entry) (t : ℕ) → length (seen_at list t) ≡ count_by (holds t) list
held_seen list t =
    length_given (seen_entry list t) 0 (length list)
    ∙ ap length (filter_same (λ k. is_some (seen_entry list t k)) (λ k. option_map_or (holds t) (slice_get list k) false) (range_with_len 0 (length list)) (λ k i. elim (at_place list k) [
      | absent e ↦ ap is_some (seen_none list t k e) ∙ sym (ap (λ o. option_map_or (holds t) o false) e)
      | present x e ↦ ap is_some (seen_some list t k x e) ∙ some_if (holds t x) (seen_of list t k x) ∙ sym (ap (λ o. option_map_or (holds t) o false) e)
    ]))
    ∙ filter_places (holds t) list
    ∙ length-filter (holds t) list
  where
    some_if : {Y : Type 0} (b : Bool) (y : Y) → is_some (cond b (Some y) None) ≡ b
    some_if true y = refl
    some_if false y = refl
