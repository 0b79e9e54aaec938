-- How many words are on the bus.
use Rattle.std.proofs.Common.{◌≡◌, ℕ, zero, suc, ◌+◌, ◌<◌, ◌≤◌, Bool, false, cond, List, [], ◌∷◌, length, Option, Some, None}
use Rattle.std.proofs.Common.{arith, sym, refl, ap, ◌∙◌}
use Rattle.std.specs.Prelude.{slice_get, ◌↔◌}
use Rattle.std.specs.List.{count_by, cons_option, filter, filter_map, range_with_len}
use Rattle.std.specs.Option.{is_some, option_map, option_map_or}
use Rattle.std.proofs.lemmas.List.Sums.{length-filter}
use Rattle.bus_strings.proofs.MemberLaws.{filter_same}
use Rattle.bus_strings.specs.Messages.{Entry}
use Rattle.bus_strings.specs.Transmissions.{pulses}
use Rattle.bus_dump.specs.OnBus.{Shown}
use Rattle.bus_dump.specs.Seen.{Seen, holds, seen_of, seen_entry, seen_at}
use Rattle.bus_dump.specs.Signals.{Floating, Unknown, Number, is_on, shown_word, word_value, words}
use Rattle.bus_dump.proofs.LawLemmas.{entry_pulse, filter_places}
use Rattle.bus_dump.proofs.LiveLemmas.{absent, present, at_place, seen_none, seen_some}

-- what is given of what is given
more_given : {Z : Type 0} (w : Option Z) (ws : List Z) (a : ℕ) (ks : List ℕ) → length ws ≡ length ks
    → length (cons_option w ws) ≡ length (cond (is_some w) (a ∷ ks) ks)
more_given None ws a ks e = e
more_given (Some z) ws a ks e = ap suc e

more_twice : {Y Z : Type 0} (g : Y → Option Z) (o : Option Y) (ys : List Y) (a : ℕ) (ks : List ℕ) → length (filter_map g ys) ≡ length ks
    → length (filter_map g (cons_option o ys)) ≡ length (cond (option_map_or (λ y. is_some (g y)) o false) (a ∷ ks) ks)
more_twice g None ys a ks e = e
more_twice g (Some y) ys a ks e = more_given (g y) (filter_map g ys) a ks e

length_twice : {Y Z : Type 0} (g : Y → Option Z) (f : ℕ → Option Y) (a n : ℕ)
    → length (filter_map g (filter_map f (range_with_len a n)))
    ≡ length (filter (λ k. option_map_or (λ y. is_some (g y)) (f k) false) (range_with_len a n))
length_twice g f a zero = refl
length_twice g f a (suc n) =
    more_twice g (f a) (filter_map f (range_with_len (a + 1) n)) a
    (filter (λ k. option_map_or (λ y. is_some (g y)) (f k) false) (range_with_len (a + 1) n)) (length_twice g f (a + 1) n)

-- a transmission has a word on the bus exactly where it has a pulse
some_word : (o : Option Shown) → is_some (option_map (λ (shown : Shown). shown.word) o) ≡ is_some o
some_word None = refl
some_word (Some shown) = refl

has_word : (o : Option Seen) → option_map_or (λ (s : Seen). is_some (shown_word s)) o false ≡ option_map_or is_on o false
has_word None = refl
has_word (Some s) = some_word s.shown

-- as many words are on the bus as transmissions have a pulse
pub words_seen : (list : List Entry) (t : ℕ) → length (words (seen_at list t)) ≡ count_by (pulses t) list
words_seen list t =
    let test : Option Seen → Bool = λ o. option_map_or (λ (s : Seen). is_some (shown_word s)) o false in
    let pulse : Option Entry → Bool = λ o. option_map_or (pulses t) o false in
    length_twice shown_word (seen_entry list t) 0 (length list)
    ∙ ap length (filter_same (λ k. test (seen_entry list t k)) (λ k. pulse (slice_get list k)) (range_with_len 0 (length list)) (λ k i. elim (at_place list k) [
      | absent e ↦ ap test (seen_none list t k e) ∙ sym (ap pulse e)
      | present x e ↦ ap test (seen_some list t k x e) ∙ has_word (cond (holds t x) (Some (seen_of list t k x)) None) ∙ entry_pulse list t k x
          ∙ sym (ap pulse e)
    ]))
    ∙ filter_places (pulses t) list
    ∙ length-filter (pulses t) list

-- what so many words are
pub word_floating : (ws : List ℕ) (n : ℕ) → length ws ≡ n → (word_value ws ≡ Floating) ↔ (n ≡ 0)
word_floating [] n e = (λ h. sym e, λ h. refl)
word_floating (w ∷ []) n e = (λ h. absurd (let k : Number w ≡ Floating = h in cc), λ h. absurd (omega arith))
word_floating (w ∷ (v ∷ ws)) n e = (λ h. absurd (let k : Unknown ≡ Floating = h in cc), λ h. absurd (omega arith))

pub word_unknown : (ws : List ℕ) (n : ℕ) → length ws ≡ n → (word_value ws ≡ Unknown) ↔ (1 < n)
word_unknown [] n e = (λ h. absurd (let k : Floating ≡ Unknown = h in cc), λ h. absurd (omega arith))
word_unknown (w ∷ []) n e = (λ h. absurd (let k : Number w ≡ Unknown = h in cc), λ h. absurd (omega arith))
word_unknown (w ∷ (v ∷ ws)) n e = (λ h. omega arith, λ h. refl)

-- no more words are on the bus than transmissions are seen
pub few_words : (seen : List Seen) → length (words seen) ≤ length seen
few_words [] = omega arith
few_words (s ∷ seen) = by_word (shown_word s) (few_words seen) where
  by_word : (o : Option ℕ) → length (words seen) ≤ length seen → length (cons_option o (words seen)) ≤ suc (length seen)
  by_word None h = omega arith
  by_word (Some w) h = omega arith
