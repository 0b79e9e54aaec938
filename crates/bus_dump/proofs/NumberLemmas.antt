-- Which words, labels and numbers are told.
use Rattle.std.proofs.Common.{◌≡◌, ℕ, zero, suc, ◌+◌, ◌-◌, ◌/◌, ◌<◌, ◌≤◌, Bool, true, false, cond, ◌&&◌, eqb, leb, List, [], ◌∷◌, length, Option, Some, None}
use Rattle.std.proofs.Common.{inl, inr, arith, sym, refl, ap, subst, ◌∙◌}
use Rattle.std.specs.Prelude.{slice_get}
use Rattle.std.specs.List.{cons_option, count_by, filter_map, find, list_any, range_with_len}
use Rattle.std.specs.Option.{is_some, option_and_then, option_map, option_map_or}
use Rattle.std.proofs.lemmas.Bool.{and_parts, cases_Bool, cases_lt, eq-eqb, eqb-true, le-leb, lt-leb, true≢false}
use Rattle.std.proofs.lemmas.Option.{slice_get_within}
use Rattle.bus_strings.specs.Limits.{word_bits}
use Rattle.bus_strings.proofs.MemberLaws.{in_at}
use Rattle.bus_strings.specs.Members.{In}
use Rattle.bus_strings.specs.Messages.{Entry}
use Rattle.bus_strings.specs.Pulses.{is_on as is_on_bus}
use Rattle.bus_strings.proofs.PulsesAlongLaws.{quiet_behind}
use Rattle.bus_strings.specs.Transmissions.{end_of, pulses}
use Rattle.bus_dump.specs.Doubled.{doubled}
use Rattle.bus_dump.specs.Laws.{bit_on, is_in_sync}
use Rattle.bus_dump.specs.OnBus.{Bit as StringBit, Shown, bit_at, label_value, shown_at, shown_of, word_at}
use Rattle.bus_dump.specs.Seen.{Seen, holds, number_of, seen_at, seen_entry, seen_of}
use Rattle.bus_dump.specs.Signals.{Floating, Number, is_of, is_on, is_sync, label, message, shown_label, shown_word, word_value, words}
use Rattle.bus_dump.proofs.FewLemmas.{ended_before}
use Rattle.bus_dump.proofs.LaneLemmas.{found_none}
use Rattle.bus_dump.proofs.LawLemmas.{any_places, pulse_seen, seen_any, shown_is_on}
use Rattle.bus_dump.proofs.LiveLemmas.{absent, present, at_place, held_from, held_to, not_held, seen_none, seen_some}
use Rattle.bus_dump.proofs.RangeLemmas.{given_along, given_in}
use Rattle.bus_dump.proofs.WordLemmas.{words_seen}

-- ---- what an entry has on the bus
some_mapped : {X Y : Type 0} (f : X → Y) (o : Option X) → is_some (option_map f o) ≡ is_some o
some_mapped f None = refl
some_mapped f (Some x) = refl

pub is_none : {X : Type 0} (o : Option X) → is_some o ≡ false → o ≡ None
is_none None h = refl
is_none (Some x) h = absurd (true≢false h)

pub bit_pulse : (t : ℕ) (x : Entry) → is_some (bit_on t x) ≡ pulses t x
bit_pulse t x =
    elim (leb x.moment t) as (λ b. is_some (cond b (bit_at x.message (t - x.moment)) None) ≡ (b && is_on_bus x.message (t - x.moment))) [
      | true ↦ sym (some_mapped shown_of (bit_at x.message (t - x.moment))) ∙ shown_is_on x.message (t - x.moment)
      | false ↦ refl
    ]

bit_begun : (t : ℕ) (x : Entry) → x.moment ≤ t → bit_on t x ≡ bit_at x.message (t - x.moment)
bit_begun t x h = ap (λ b. cond b (bit_at x.message (t - x.moment)) None) (le-leb x.moment t h)

pub bit_off : (t : ℕ) (x : Entry) → holds t x ≡ false → bit_on t x ≡ None
bit_off t x off = elim (cases_lt t x.moment) [
  | inl before ↦ ap (λ b. cond b (bit_at x.message (t - x.moment)) None) (lt-leb x.moment t before)
  | inr begun ↦
      let ended : end_of x ≤ t = not_held t x begun off in
      let quiet : is_on_bus x.message (t - x.moment) ≡ false = quiet_behind x.message (t - x.moment) (omega arith) in
      bit_begun t x begun
      ∙ is_none (bit_at x.message (t - x.moment))
      (sym (some_mapped shown_of (bit_at x.message (t - x.moment))) ∙ shown_is_on x.message (t - x.moment) ∙ quiet)
]

bit_held : (t : ℕ) (x : Entry) (bit : StringBit) → bit_on t x ≡ Some bit → holds t x ≡ true
bit_held t x bit e = elim (cases_Bool (holds t x)) [
  | inl on ↦ on
  | inr off ↦ absurd (let w : None ≡ Some bit = sym (bit_off t x off) ∙ e in cc)
]

-- and what is seen of it
seen_shown : (list : List Entry) (t k : ℕ) (x : Entry)
    → option_and_then (λ (s : Seen). s.shown) (cond (holds t x) (Some (seen_of list t k x)) None) ≡ option_map shown_of (bit_on t x)
seen_shown list t k x = elim (cases_Bool (holds t x)) [
  | inl on ↦ ap (λ b. option_and_then (λ (s : Seen). s.shown) (cond b (Some (seen_of list t k x)) None)) on
      ∙ sym (ap (option_map shown_of) (bit_begun t x (held_from t x on)))
  | inr off ↦ ap (λ b. option_and_then (λ (s : Seen). s.shown) (cond b (Some (seen_of list t k x)) None)) off
      ∙ sym (ap (option_map shown_of) (bit_off t x off))
]

-- ---- sync
sync_then : (o : Option Seen) → option_map_or is_sync o false ≡ option_map_or (λ (s : Shown). s.sync) (option_and_then (λ (s : Seen). s.shown) o) false
sync_then None = refl
sync_then (Some s) = refl

sync_mapped : (o : Option StringBit)
    → option_map_or (λ (s : Shown). s.sync) (option_map shown_of o) false ≡ option_map_or (λ (bit : StringBit). (shown_of bit).sync) o false
sync_mapped None = refl
sync_mapped (Some bit) = refl

pub sync_seen : (list : List Entry) (t : ℕ) → list_any is_sync (seen_at list t) ≡ list_any (is_in_sync t) list
sync_seen list t =
    seen_any list t is_sync (λ k. is_in_sync t) (λ k x.
    sync_then (cond (holds t x) (Some (seen_of list t k x)) None)
    ∙ ap (λ o. option_map_or (λ (s : Shown). s.sync) o false) (seen_shown list t k x)
    ∙ sync_mapped (bit_on t x))
    ∙ any_places (is_in_sync t) list

-- ---- the word
word_then : (o : Option Seen) → option_and_then shown_word o ≡ option_map (λ (s : Shown). s.word) (option_and_then (λ (s : Seen). s.shown) o)
word_then None = refl
word_then (Some s) = refl

word_in : (list : List Entry) (t : ℕ) (x : Entry) (bit : StringBit) → In x list → bit_on t x ≡ Some bit
    → In (word_at bit.string (bit.at / word_bits)) (words (seen_at list t))
word_in list t x bit i e =
    let at = in_at list x i in
    let k : ℕ = at.0 in
    let within : k < length list = slice_get_within list k x at.1 in
    let given : ℕ → Option ℕ = λ j. option_and_then shown_word (seen_entry list t j) in
    let w : ℕ = word_at bit.string (bit.at / word_bits) in
    let here : given k ≡ Some w =
    ap (option_and_then shown_word) (seen_some list t k x at.1)
    ∙ word_then (cond (holds t x) (Some (seen_of list t k x)) None)
    ∙ ap (option_map (λ (s : Shown). s.word)) (seen_shown list t k x ∙ ap (option_map shown_of) e) in
    subst (In w) (sym (given_along shown_word (seen_entry list t) given 0 (length list) (λ j. refl)))
    (given_in given 0 (length list) k w (omega arith) (omega (arith, within)) here)

pub one_word : (ws : List ℕ) (w : ℕ) → length ws ≡ 1 → In w ws → word_value ws ≡ Number w
one_word [] w e i = absurd i
one_word (v ∷ []) w e (inl same) = ap Number (sym same)
one_word (v ∷ []) w e (inr none) = absurd none
one_word (v ∷ (u ∷ ws)) w e i = absurd (omega (arith, e))

pub word_number : (list : List Entry) (t : ℕ) (x : Entry) (bit : StringBit) → In x list → bit_on t x ≡ Some bit → count_by (pulses t) list ≡ 1
    → word_value (words (seen_at list t)) ≡ Number (word_at bit.string (bit.at / word_bits))
word_number list t x bit i e one =
    one_word (words (seen_at list t)) (word_at bit.string (bit.at / word_bits)) (words_seen list t ∙ one) (word_in list t x bit i e)

-- ---- one of a terminal at a time
skipped : {Y : Type 0} (p : Y → Bool) (o : Option Y) (ys : List Y) → option_map_or p o false ≡ false → find p (cons_option o ys) ≡ find p ys
skipped p None ys h = refl
skipped p (Some z) ys h = ap (λ b. cond b (Some z) (find p ys)) h

find_given : {Y : Type 0} (p : Y → Bool) (f : ℕ → Option Y) (a n k : ℕ) (y : Y) → a ≤ k → k < a + n → f k ≡ Some y → p y ≡ true
    → ((i : ℕ) → a ≤ i → i < k → option_map_or p (f i) false ≡ false) → find p (filter_map f (range_with_len a n)) ≡ Some y
find_given p f a zero k y l u e yes' none = absurd (omega arith)
find_given p f a (suc n) k y l u e yes' none = elim (cases_lt a k) [
  | inl later ↦
      skipped p (f a) (filter_map f (range_with_len (a + 1) n)) (none a (omega arith) later)
      ∙ find_given p f (a + 1) n k y (omega arith) (omega arith) e yes' (λ i low high. none i (omega arith) high)
  | inr here ↦
      let same : a ≡ k = omega arith in
      ap (λ o. find p (cons_option o (filter_map f (range_with_len (a + 1) n)))) (ap f same ∙ e)
      ∙ ap (λ b. cond b (Some y) (find p (filter_map f (range_with_len (a + 1) n)))) yes'
]

pub apart : (list : List Entry) (t i k : ℕ) (y x : Entry) → doubled list ≡ None → i < k → slice_get list i ≡ Some y → slice_get list k ≡ Some x
    → y.terminal ≡ x.terminal → holds t x ≡ true → holds t y ≡ false
apart list t i k y x single h p q same on = elim (cases_Bool (holds t y)) [
  | inr no' ↦ no'
  | inl both ↦
      let ended : end_of y ≤ x.moment = ended_before list single i k y x h p q same in
      let still : t < end_of y = held_to t y both in
      let begun : x.moment ≤ t = held_from t x on in
      absurd (omega arith)
]

pub find_seen : (list : List Entry) (t k n : ℕ) (x : Entry) (p : Seen → Bool) → doubled list ≡ None → slice_get list k ≡ Some x → x.terminal ≡ n
    → holds t x ≡ true → ((s : Seen) → p s ≡ true → s.terminal ≡ n) → p (seen_of list t k x) ≡ true
    → find p (seen_at list t) ≡ Some (seen_of list t k x)
find_seen list t k n x p single at own on of yes' =
    let within : k < length list = slice_get_within list k x at in
    find_given p (seen_entry list t) 0 (length list) k (seen_of list t k x) (omega arith) (omega (arith, within))
    (seen_some list t k x at ∙ ap (λ b. cond b (Some (seen_of list t k x)) None) on) yes' (λ i low high. earlier i high)
  where
    earlier : (i : ℕ) → i < k → option_map_or p (seen_entry list t i) false ≡ false
    earlier i h = elim (at_place list i) [
      | absent e ↦ ap (λ o. option_map_or p o false) (seen_none list t i e)
      | present y e ↦ ap (λ o. option_map_or p o false) (seen_some list t i y e) ∙ elim (cases_Bool (holds t y)) [
        | inr off ↦ ap (λ b. option_map_or p (cond b (Some (seen_of list t i y)) None) false) off
        | inl both ↦ ap (λ b. option_map_or p (cond b (Some (seen_of list t i y)) None) false) both ∙ elim (cases_Bool (p (seen_of list t i y))) [
          | inr no' ↦ no'
          | inl found ↦ absurd
              (true≢false (sym both ∙ apart list t i k y x single h e at (of (seen_of list t i y) found ∙ sym own) on))
        ]
      ]
    ]

-- ---- labels
pub label_number : (list : List Entry) (t n : ℕ) (x : Entry) (bit : StringBit) → doubled list ≡ None → In x list → x.terminal ≡ n
    → bit_on t x ≡ Some bit → label n (seen_at list t) ≡ Number (label_value bit.string)
label_number list t n x bit single i own e =
    let at = in_at list x i in
    let k : ℕ = at.0 in
    let on : holds t x ≡ true = bit_held t x bit e in
    let shown : shown_at x.message (t - x.moment) ≡ Some (shown_of bit) =
    ap (option_map shown_of) (sym (bit_begun t x (held_from t x on)) ∙ e) in
    let p : Seen → Bool = λ s. is_of n s && is_on s in
    let passes : p (seen_of list t k x) ≡ true =
    ap (λ b. b && is_some (shown_at x.message (t - x.moment))) (eq-eqb x.terminal n own) ∙ ap (λ (o : Option Shown). is_some o) shown in
    let found : find p (seen_at list t) ≡ Some (seen_of list t k x) =
    find_seen list t k n x p single at.1 own on (λ s h. eqb-true s.terminal n (and_parts (is_of n s) (is_on s) h).0) passes in
    ap (λ o. option_map_or shown_label o Floating) found
    ∙ ap (λ o. option_map_or (λ (s : Shown). Number s.label) o Floating) shown

pub label_floating : (list : List Entry) (t n : ℕ) → list_any (λ (x : Entry). eqb x.terminal n && pulses t x) list ≡ false
    → label n (seen_at list t) ≡ Floating
label_floating list t n h =
    ap (λ o. option_map_or shown_label o Floating) (found_none (λ s. is_of n s && is_on s) (seen_at list t) (pulse_seen list t n ∙ h))

-- ---- numbers
pub message_number : (list : List Entry) (t n k : ℕ) (x : Entry) → doubled list ≡ None → slice_get list k ≡ Some x → x.terminal ≡ n
    → holds t x ≡ true → message n (seen_at list t) ≡ Number (number_of list k n)
message_number list t n k x single at own on =
    ap (λ o. option_map_or (λ (s : Seen). Number s.number) o Floating)
    (find_seen list t k n x (is_of n) single at own on (λ s h. eqb-true s.terminal n h) (eq-eqb x.terminal n own))
    ∙ ap (λ m. Number (number_of list k m)) own

held_of : (list : List Entry) (t n : ℕ) → list_any (is_of n) (seen_at list t) ≡ list_any (λ (x : Entry). eqb x.terminal n && holds t x) list
held_of list t n =
    seen_any list t (is_of n) (λ k (x : Entry). eqb x.terminal n && holds t x) (λ k x.
    elim (holds t x) as (λ b. option_map_or (is_of n) (cond b (Some (seen_of list t k x)) None) false ≡ (eqb x.terminal n && b)) [
      | true ↦ all_of (eqb x.terminal n)
      | false ↦ none_of (eqb x.terminal n)
    ])
    ∙ any_places (λ (x : Entry). eqb x.terminal n && holds t x) list
  where
    all_of : (b : Bool) → b ≡ (b && true)
    all_of true = refl
    all_of false = refl

    none_of : (b : Bool) → false ≡ (b && false)
    none_of true = refl
    none_of false = refl

pub message_floating : (list : List Entry) (t n : ℕ) → list_any (λ (x : Entry). eqb x.terminal n && holds t x) list ≡ false
    → message n (seen_at list t) ≡ Floating
message_floating list t n h =
    ap (λ o. option_map_or (λ (s : Seen). Number s.number) o Floating) (found_none (is_of n) (seen_at list t) (held_of list t n ∙ h))
