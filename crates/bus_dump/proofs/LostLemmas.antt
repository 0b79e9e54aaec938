-- A list is told by the values of the signals of its dump.
use Rattle.std.proofs.Common.{◌≡◌, ℕ, zero, suc, ◌+◌, ◌-◌, ◌<◌, ◌≤◌, Bool, true, false, cond, ◌&&◌, eqb, leb, List, [], ◌∷◌, length, take, Option, Some, None}
use Rattle.std.proofs.Common.{inl, inr, arith, sym, refl, ap, subst, ◌∙◌}
use Rattle.std.specs.Prelude.{slice_get}
use Rattle.std.specs.List.{AllByRecursion, count_by, filter, list_any}
use Rattle.std.specs.Option.{is_some, option_and_then, option_map, option_map_or}
use Rattle.std.proofs.lemmas.Bool.{and_parts, cases_Bool, cases_lt, eq-eqb, eqb-true, true≢false}
use Rattle.std.proofs.lemmas.List.Sums.{length-filter}
use Rattle.std.proofs.lemmas.Option.{slice_get_within}
use Rattle.bus_medium.proofs.Ruled.{same_entry}
use Rattle.bus_strings.proofs.MemberLaws.{at_in, in_at, none_any, of_each, any_found}
use Rattle.bus_strings.specs.Members.{In}
use Rattle.bus_strings.specs.Messages.{Entry, Message as AnyMessage, bits, word_count}
use Rattle.bus_strings.specs.Pulses.{is_on as is_on_bus}
use Rattle.bus_strings.proofs.PulsesAlongLaws.{quiet_behind}
use Rattle.bus_strings.specs.Transmissions.{IsOrdered, end_of, pulses}
use Rattle.bus_trace.specs.Traces.{IsBelow}
use Rattle.bus_dump.specs.Doubled.{doubled}
use Rattle.bus_dump.specs.OnBus.{Shown, shown_at}
use Rattle.bus_dump.specs.Seen.{Seen, holds, is_sent_by, number_of, seen_at, seen_entry, seen_of}
use Rattle.bus_dump.specs.Signals.{Floating, Number, Value, is_of, is_on, label, message, shown_label, shown_word, word_value, words}
use Rattle.bus_dump.proofs.ClearLemmas.{AreApart, few_seen}
use Rattle.bus_dump.proofs.GarbleLemmas.{in_take, some_kept}
use Rattle.bus_dump.proofs.LawLemmas.{shown_is_on}
use Rattle.bus_dump.proofs.LiveLemmas.{held_from, held_to, holds_true, seen_some}
use Rattle.bus_dump.proofs.ShownStretchLemmas.{bits_least}
use Rattle.bus_dump.proofs.MessageLemmas.{Alike, AreAlike, same_message}
use Rattle.bus_dump.proofs.NumberLemmas.{apart, bit_off, bit_pulse, find_seen, is_none, label_floating, message_floating, message_number, one_word}
use Rattle.bus_dump.proofs.RangeLemmas.{given_along, given_in}
use Rattle.bus_dump.proofs.WordLemmas.{few_words}

-- ---- numbers tell entries apart
none_taken : (p : Entry → Bool) (xs : List Entry) → length (filter p (take zero xs)) ≡ 0
none_taken p [] = refl
none_taken p (x ∷ xs) = refl

number_rises : (p : Entry → Bool) (xs : List Entry) (i k : ℕ) (y : Entry) → i < k → slice_get xs k ≡ Some y → p y ≡ true
    → length (filter p (take (suc i) xs)) < length (filter p (take (suc k) xs))
number_rises p [] i k y h e yes' = absurd (let w : None ≡ Some y = e in cc)
number_rises p (x ∷ xs) zero zero y h e yes' = absurd (omega arith)
number_rises p (x ∷ xs) (suc i) zero y h e yes' = absurd (omega arith)
number_rises p (x ∷ xs) zero (suc k) y h e yes' =
    let none : length (filter p (take zero xs)) ≡ 0 = none_taken p xs in
    let some : 0 < length (filter p (take (suc k) xs)) = some_kept p (take (suc k) xs) y (in_take xs k y e) yes' in
    elim (p x) as (λ b. length (cond b (x ∷ filter p (take zero xs)) (filter p (take zero xs)))
    < length (cond b (x ∷ filter p (take (suc k) xs)) (filter p (take (suc k) xs)))) [
      | true ↦ omega (arith, none, some)
      | false ↦ omega (arith, none, some)
    ]
number_rises p (x ∷ xs) (suc i) (suc k) y h e yes' =
    let rest : length (filter p (take (suc i) xs)) < length (filter p (take (suc k) xs)) = number_rises p xs i k y (omega arith) e yes' in
    elim (p x) as (λ b. length (cond b (x ∷ filter p (take (suc i) xs)) (filter p (take (suc i) xs)))
    < length (cond b (x ∷ filter p (take (suc k) xs)) (filter p (take (suc k) xs)))) [
      | true ↦ omega (arith, rest)
      | false ↦ rest
    ]

number_kept : (list : List Entry) (k n : ℕ) → number_of list k n ≡ length (filter (is_sent_by n) (take (suc k) list))
number_kept list k n =
    let one : k + 1 ≡ suc k = omega arith in
    ap (λ j. count_by (is_sent_by n) (take j list)) one ∙ sym (length-filter (is_sent_by n) (take (suc k) list))

same_place : (list : List Entry) (i k n : ℕ) (x y : Entry) → slice_get list i ≡ Some x → slice_get list k ≡ Some y → x.terminal ≡ n
    → y.terminal ≡ n → number_of list i n ≡ number_of list k n → i ≡ k
same_place list i k n x y p q s r e =
    let a = number_kept list i n in
    let b = number_kept list k n in
    elim (cases_lt i k) [
      | inl less ↦ absurd (omega (arith, a, b, e, number_rises (is_sent_by n) list i k y less q (eq-eqb y.terminal n r)))
      | inr more ↦ elim (cases_lt k i) [
        | inl less ↦ absurd (omega (arith, a, b, e, number_rises (is_sent_by n) list k i x less p (eq-eqb x.terminal n s)))
        | inr same ↦ omega arith
      ]
    ]

-- the transmission that a message number tells of
pub record IsTold (list : List Entry) (t n m : ℕ) : Type 0 where
  pub place : ℕ
  pub entry : Entry
  pub at : slice_get list place ≡ Some entry
  pub own : entry.terminal ≡ n
  pub held : holds t entry ≡ true
  pub number : number_of list place n ≡ m

told : (list : List Entry) (t n m : ℕ) → doubled list ≡ None → message n (seen_at list t) ≡ Number m → IsTold list t n m
told list t n m single e =
    let p : Entry → Bool = λ x. eqb x.terminal n && holds t x in
    elim (cases_Bool (list_any p list)) [
      | inr none ↦ absurd (let w : Floating ≡ Number m = sym (message_floating list t n none) ∙ e in cc)
      | inl some ↦
          let found = any_found p list some in
          let x : Entry = found.0 in
          let both = and_parts (eqb x.terminal n) (holds t x) found.2 in
          let own : x.terminal ≡ n = eqb-true x.terminal n both.0 in
          let at = in_at list x found.1 in
          let same : Number (number_of list at.0 n) ≡ Number m = sym (message_number list t n at.0 x single at.1 own both.1) ∙ e in
          record { place = at.0; entry = x; at = at.1; own = own; held = both.1; number = cc }
    ]

-- ---- two lists whose dumps show the same of a terminal
pub record IsSame (a b : List Entry) (horizon n : ℕ) : Type 0 where
  pub message : (t : ℕ) → t < horizon → message n (seen_at a t) ≡ message n (seen_at b t)
  pub label : (t : ℕ) → t < horizon → label n (seen_at a t) ≡ label n (seen_at b t)
  pub word : (t : ℕ) → t < horizon → word_value (words (seen_at a t)) ≡ word_value (words (seen_at b t))

-- and each of which has a dump, in which nothing overlaps
pub record IsClear (list : List Entry) : Type 0 where
  pub single : doubled list ≡ None
  pub apart : IsOrdered AreApart list

-- a transmission with the same number in the other list
pub record IsTwin (a b : List Entry) (n : ℕ) (x y : Entry) : Type 0 where
  pub place : ℕ
  pub at : slice_get a place ≡ Some x
  pub own : x.terminal ≡ n
  pub other_place : ℕ
  pub other_at : slice_get b other_place ≡ Some y
  pub other_own : y.terminal ≡ n
  pub number : number_of a place n ≡ number_of b other_place n

turned : (a b : List Entry) (n : ℕ) (x y : Entry) → IsTwin a b n x y → IsTwin b a n y x
turned a b n x y w = record {
  place = w.other_place;
  at = w.other_at;
  own = w.other_own;
  other_place = w.place;
  other_at = w.at;
  other_own = w.own;
  number = sym w.number;
}

back : (a b : List Entry) (horizon n : ℕ) → IsSame a b horizon n → IsSame b a horizon n
back a b horizon n s = record {
  message = λ t h. sym (s.message t h);
  label = λ t h. sym (s.label t h);
  word = λ t h. sym (s.word t h);
}

twin_held : (a b : List Entry) (horizon n t : ℕ) (x y : Entry) → IsSame a b horizon n → IsClear a → IsClear b → IsTwin a b n x y → t < horizon
    → holds t x ≡ true → holds t y ≡ true
twin_held a b horizon n t x y same c d w low on =
    let other = told b t n (number_of a w.place n) d.single
    (sym (same.message t low) ∙ message_number a t n w.place x c.single w.at w.own on) in
    let place : other.place ≡ w.other_place =
    same_place b other.place w.other_place n other.entry y other.at w.other_at other.own w.other_own (other.number ∙ w.number) in
    let is : Some other.entry ≡ Some y = sym other.at ∙ ap (slice_get b) place ∙ w.other_at in
    let entry : other.entry ≡ y = cc in
    subst (λ z. holds t z ≡ true) entry other.held

pub twin_of : (a b : List Entry) (horizon n k : ℕ) (x : Entry) → IsSame a b horizon n → IsClear a → IsClear b → slice_get a k ≡ Some x → x.terminal ≡ n
    → x.moment < end_of x → end_of x ≤ horizon → (y : Entry) × IsTwin a b n x y
twin_of a b horizon n k x same c d at own some low =
    let t : ℕ = x.moment in
    let on : holds t x ≡ true = holds_true t x (omega arith) some in
    let other = told b t n (number_of a k n) d.single
    (sym (same.message t (omega (arith, some, low))) ∙ message_number a t n k x c.single at own on) in (
      other.entry,
      record {
        place = k;
        at = at;
        own = own;
        other_place = other.place;
        other_at = other.at;
        other_own = other.own;
        number = sym other.number;
      },
    )

-- so it does not begin later, and lasts as long at least
record IsAround (x y : Entry) : Type 0 where
  from : y.moment ≤ x.moment
  to : end_of x ≤ end_of y

around : (a b : List Entry) (horizon n : ℕ) (x y : Entry) → IsSame a b horizon n → IsClear a → IsClear b → IsTwin a b n x y → x.moment < end_of x
    → end_of x ≤ horizon → IsAround x y
around a b horizon n x y same c d w some low =
    let last : ℕ = end_of x - 1 in
    let first_on : holds x.moment y ≡ true =
    twin_held a b horizon n x.moment x y same c d w (omega (arith, some, low)) (holds_true x.moment x (omega arith) some) in
    let last_on : holds last y ≡ true =
    twin_held a b horizon n last x y same c d w (omega (arith, some, low)) (holds_true last x (omega (arith, some)) (omega (arith, some))) in
    let behind : last < end_of y = held_to last y last_on in
    record { from = held_from x.moment y first_on; to = omega (arith, some, behind) }

-- ---- what is shown of a transmission
shown_off : (m : AnyMessage) (d : ℕ) → bits m ≤ d → shown_at m d ≡ None
shown_off m d h = is_none (shown_at m d) (shown_is_on m d ∙ quiet_behind m d h)

label_some : (list : List Entry) (t n k : ℕ) (x : Entry) (s : Shown) → IsClear list → slice_get list k ≡ Some x → x.terminal ≡ n
    → holds t x ≡ true → shown_at x.message (t - x.moment) ≡ Some s → label n (seen_at list t) ≡ Number s.label
label_some list t n k x s c at own on shown =
    let p : Seen → Bool = λ s. is_of n s && is_on s in
    let passes : p (seen_of list t k x) ≡ true =
    ap (λ b. b && is_some (shown_at x.message (t - x.moment))) (eq-eqb x.terminal n own) ∙ ap (λ (o : Option Shown). is_some o) shown in
    ap (λ o. option_map_or shown_label o Floating)
    (find_seen list t k n x p c.single at own on (λ s h. eqb-true s.terminal n (and_parts (is_of n s) (is_on s) h).0) passes)
    ∙ ap (λ o. option_map_or (λ (s : Shown). Number s.label) o Floating) shown

pulse_held : (t : ℕ) (z : Entry) → pulses t z ≡ true → holds t z ≡ true
pulse_held t z h = elim (cases_Bool (holds t z)) [
  | inl on ↦ on
  | inr off ↦ absurd (true≢false (sym h ∙ sym (bit_pulse t z) ∙ ap (λ o. is_some o) (bit_off t z off)))
]

no_pulse : (t : ℕ) (x : Entry) → shown_at x.message (t - x.moment) ≡ None → pulses t x ≡ false
no_pulse t x none =
    let off : is_on_bus x.message (t - x.moment) ≡ false = sym (shown_is_on x.message (t - x.moment)) ∙ ap (λ (o : Option Shown). is_some o) none in
    ap (λ b. leb x.moment t && b) off ∙ never (leb x.moment t)
  where
    never : (b : Bool) → (b && false) ≡ false
    never true = refl
    never false = refl

label_none : (list : List Entry) (t n k : ℕ) (x : Entry) → IsClear list → slice_get list k ≡ Some x → x.terminal ≡ n
    → holds t x ≡ true → shown_at x.message (t - x.moment) ≡ None → label n (seen_at list t) ≡ Floating
label_none list t n k x c at own on none =
    label_floating list t n (none_any (λ (z : Entry). eqb z.terminal n && pulses t z) list (λ z i. not_one z i))
  where
    not_one : (z : Entry) → In z list → (eqb z.terminal n && pulses t z) ≡ false
    not_one z i = elim (cases_Bool (eqb z.terminal n && pulses t z)) [
      | inr no' ↦ no'
      | inl yes' ↦
          let both = and_parts (eqb z.terminal n) (pulses t z) yes' in
          let terminal : z.terminal ≡ x.terminal = eqb-true z.terminal n both.0 ∙ sym own in
          let held : holds t z ≡ true = pulse_held t z both.1 in
          let place = in_at list z i in
          elim (cases_lt place.0 k) [
            | inl before ↦ absurd (true≢false (sym held ∙ apart list t place.0 k z x c.single before place.1 at terminal on))
            | inr more ↦ elim (cases_lt k place.0) [
              | inl behind ↦ absurd (true≢false (sym on ∙ apart list t k place.0 x z c.single behind at place.1 (sym terminal) held))
              | inr same ↦
                  let here : place.0 ≡ k = omega arith in
                  let one : Some z ≡ Some x = sym place.1 ∙ ap (slice_get list) here ∙ at in
                  let is : z ≡ x = cc in
                  absurd (true≢false (sym both.1 ∙ ap (pulses t) is ∙ no_pulse t x none))
            ]
          ]
    ]

word_some : (list : List Entry) (t k : ℕ) (x : Entry) (s : Shown) → IsClear list → slice_get list k ≡ Some x
    → holds t x ≡ true → shown_at x.message (t - x.moment) ≡ Some s → word_value (words (seen_at list t)) ≡ Number s.word
word_some list t k x s c at on shown =
    let within : k < length list = slice_get_within list k x at in
    let given : ℕ → Option ℕ = λ j. option_and_then shown_word (seen_entry list t j) in
    let here : given k ≡ Some s.word =
    ap (option_and_then shown_word) (seen_some list t k x at ∙ ap (λ b. cond b (Some (seen_of list t k x)) None) on)
    ∙ ap (option_map (λ (r : Shown). r.word)) shown in
    let there : In s.word (words (seen_at list t)) =
    subst (In s.word) (sym (given_along shown_word (seen_entry list t) given 0 (length list) (λ j. refl)))
    (given_in given 0 (length list) k s.word (omega arith) (omega (arith, within)) here) in
    one_word (words (seen_at list t)) s.word
    (only (words (seen_at list t)) s.word there (omega (arith, few_words (seen_at list t), few_seen list t c.apart))) there
  where
    only : (ws : List ℕ) (w : ℕ) → In w ws → length ws ≤ 1 → length ws ≡ 1
    only [] w i h = absurd i
    only (v ∷ []) w i h = refl
    only (v ∷ (u ∷ ws)) w i h = absurd (omega arith)

-- ---- the same is shown of both
alike_by : (o p : Option Shown) (v w : Value) → ((s : Shown) → o ≡ Some s → v ≡ Number s.label) → (o ≡ None → v ≡ Floating)
    → ((s : Shown) → p ≡ Some s → w ≡ Number s.label) → (p ≡ None → w ≡ Floating) → v ≡ w
    → ((s r : Shown) → o ≡ Some s → p ≡ Some r → s.word ≡ r.word) → Alike o p
alike_by None None v w a b c d e f = tt
alike_by None (Some r) v w a b c d e f = (let z : Floating ≡ Number r.label = sym (b refl) ∙ e ∙ c r refl in absurd cc)
alike_by (Some s) None v w a b c d e f = (let z : Number s.label ≡ Floating = sym (a s refl) ∙ e ∙ d refl in absurd cc)
alike_by (Some s) (Some r) v w a b c d e f = ((let z : Number s.label ≡ Number r.label = sym (a s refl) ∙ e ∙ c r refl in cc), f s r refl refl)

alike_at : (a b : List Entry) (horizon n t : ℕ) (x y : Entry) → IsSame a b horizon n → IsClear a → IsClear b → IsTwin a b n x y → t < horizon
    → holds t x ≡ true → Alike (shown_at x.message (t - x.moment)) (shown_at y.message (t - y.moment))
alike_at a b horizon n t x y same c d w low on =
    let other : holds t y ≡ true = twin_held a b horizon n t x y same c d w low on in
    alike_by (shown_at x.message (t - x.moment)) (shown_at y.message (t - y.moment)) (label n (seen_at a t)) (label n (seen_at b t))
    (λ s e. label_some a t n w.place x s c w.at w.own on e)
    (λ e. label_none a t n w.place x c w.at w.own on e)
    (λ s e. label_some b t n w.other_place y s d w.other_at w.other_own other e)
    (λ e. label_none b t n w.other_place y d w.other_at w.other_own other e)
    (same.label t low)
    (λ s r e f. words_same (s.word) (r.word) (sym (word_some a t w.place x s c w.at on e) ∙ same.word t low ∙ word_some b t w.other_place y r d w.other_at other f))
  where
    words_same : (v u : ℕ) → Number v ≡ Number u → v ≡ u
    words_same v u e = cc

alike_all : (a b : List Entry) (horizon n : ℕ) (x y : Entry) → IsSame a b horizon n → IsClear a → IsClear b → IsTwin a b n x y
    → end_of x ≤ horizon → x.moment ≡ y.moment → end_of x ≡ end_of y → AreAlike x.message y.message
alike_all a b horizon n x y same c d w low moments ends k = elim (cases_lt (x.moment + k) (end_of x)) [
  | inl on ↦
      let t : ℕ = x.moment + k in
      let left : t - x.moment ≡ k = omega arith in
      let right : t - y.moment ≡ k = omega (arith, moments) in
      subst (λ j. Alike (shown_at x.message k) (shown_at y.message j)) right
      (subst (λ j. Alike (shown_at x.message j) (shown_at y.message (t - y.moment))) left
      (alike_at a b horizon n t x y same c d w (omega (arith, on, low)) (holds_true t x (omega arith) on)))
  | inr off ↦
      subst (λ o. Alike o (shown_at y.message k)) (sym (shown_off x.message k (omega (arith, off))))
      (subst (λ o. Alike None o) (sym (shown_off y.message k (omega (arith, off, moments, ends)))) tt)
]

-- ---- each transmission is in the other list
pub bits_some : (m : AnyMessage) → 0 < length m → 0 < bits m
bits_some [] some = absurd (omega arith)
bits_some (s ∷ m) some = let count : word_count s ≡ 1 + length s.words = refl in omega (arith, count, bits_least s m)

-- what is asked of each list
pub record IsRight (list : List Entry) (horizon : ℕ) : Type 0 where
  pub clear : IsClear list
  pub below : AllByRecursion (IsBelow horizon) list
  pub ended : AllByRecursion (λ x. end_of x ≤ horizon) list

pub in_other : (a b : List Entry) (horizon : ℕ) → IsRight a horizon → IsRight b horizon
    → ((x : Entry) → In x a → IsSame a b horizon x.terminal) → (x : Entry) → In x a → In x b
in_other a b horizon c d sames x i =
    let n : ℕ = x.terminal in
    let same = sames x i in
    let at = in_at a x i in
    let x_is = of_each (IsBelow horizon) a c.below x i in
    let x_some : 0 < bits x.message = bits_some x.message x_is.message.some in
    let x_low : end_of x ≤ horizon = of_each (λ z. end_of z ≤ horizon) a c.ended x i in
    let twin = twin_of a b horizon n at.0 x same c.clear d.clear at.1 refl (omega (arith, x_some)) x_low in
    let y : Entry = twin.0 in
    let w = twin.1 in
    let j : In y b = at_in b w.other_place y w.other_at in
    let y_is = of_each (IsBelow horizon) b d.below y j in
    let y_some : 0 < bits y.message = bits_some y.message y_is.message.some in
    let y_low : end_of y ≤ horizon = of_each (λ z. end_of z ≤ horizon) b d.ended y j in
    let first = around a b horizon n x y same c.clear d.clear w (omega (arith, x_some)) x_low in
    let second = around b a horizon n y x (back a b horizon n same) d.clear c.clear (turned a b n x y w) (omega (arith, y_some)) y_low in
    let first_from : y.moment ≤ x.moment = first.from in
    let first_to : end_of x ≤ end_of y = first.to in
    let second_from : x.moment ≤ y.moment = second.from in
    let second_to : end_of y ≤ end_of x = second.to in
    let moments : x.moment ≡ y.moment = omega (arith, first_from, second_from) in
    let ends : end_of x ≡ end_of y = omega (arith, first_to, second_to) in
    let messages : x.message ≡ y.message = same_message x.message y.message x_is.message.strings y_is.message.strings
    (alike_all a b horizon n x y same c.clear d.clear w x_low moments ends) in
    subst (λ z. In z b) (sym (same_entry x y moments (sym w.other_own) messages)) j
