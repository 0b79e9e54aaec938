-- The word on the bus and the lane of a terminal, as loops find them.
use Rattle.std.proofs.Common.{◌≡◌, ℕ, zero, suc, ◌+◌, ◌<◌, ◌≤◌, Bool, true, false, cond, List, [], ◌∷◌, ◌++◌, length, take, get_or, Option, Some, None}
use Rattle.std.proofs.Common.{arith, sym, refl, ap, ◌∙◌, append-nil}
use Rattle.std.specs.List.{find, cons_option}
use Rattle.std.proofs.lemmas.List.{take_more, take_all}
use Rattle.std.proofs.lemmas.List.Elements.{filter_map-append}
use Rattle.bus_dump.specs.Seen.{Seen}
use Rattle.bus_dump.specs.Signals.{shown_word, word_value, words}
use Rattle.bus_dump.specs.inside.Walks.{one_more, with_word}

more_words : (ws : List ℕ) (o : Option ℕ) → one_more (word_value ws) o ≡ word_value (ws ++ cons_option o [])
more_words ws None = ap word_value (sym (append-nil ws))
more_words [] (Some w) = refl
more_words (v ∷ []) (Some w) = refl
more_words (v ∷ (u ∷ ws)) (Some w) = refl

-- what a list has where it has nothing
abbrev pub no_seen : Seen
no_seen = record { terminal = 0; number = 0; garbled = false; shown = None }

pub next_word : (seen : List Seen) (i : ℕ) → i < length seen
    → with_word (word_value (words (take i seen))) (get_or seen i no_seen) ≡ word_value (words (take (i + 1) seen))
next_word seen i h =
    more_words (words (take i seen)) (shown_word (get_or seen i no_seen))
    ∙ ap word_value (sym (ap words (take_more seen i no_seen h) ∙ filter_map-append shown_word (take i seen) (get_or seen i no_seen ∷ [])))

-- the first that passes a test
pub found_at : {X : Type 0} (p : X → Bool) (xs : List X) (i : ℕ) (d : X) → i < length xs → find p (take i xs) ≡ None → p (get_or xs i d) ≡ true
    → find p xs ≡ Some (get_or xs i d)
found_at p [] i d h n t = absurd (omega arith)
found_at p (y ∷ xs) zero d h n t = ap (λ b. cond b (Some y) (find p xs)) t
found_at p (y ∷ xs) (suc i) d h n t = by_test (p y) n (λ w. found_at p xs i d (omega arith) w t) where
  by_test : (b : Bool) → cond b (Some y) (find p (take i xs)) ≡ None → (find p (take i xs) ≡ None → find p xs ≡ Some (get_or xs i d))
      → cond b (Some y) (find p xs) ≡ Some (get_or xs i d)
  by_test true w more = absurd cc
  by_test false w more = more w

none_next : {X : Type 0} (p : X → Bool) (xs : List X) (i : ℕ) (d : X) → i < length xs → find p (take i xs) ≡ None → p (get_or xs i d) ≡ false
    → find p (take (suc i) xs) ≡ None
none_next p [] i d h n t = absurd (omega arith)
none_next p (y ∷ xs) zero d h n t = ap (λ b. cond b (Some y) None) t
none_next p (y ∷ xs) (suc i) d h n t = by_test (p y) n (λ w. none_next p xs i d (omega arith) w t) where
  by_test : (b : Bool) → cond b (Some y) (find p (take i xs)) ≡ None → (find p (take i xs) ≡ None → find p (take (suc i) xs) ≡ None)
      → cond b (Some y) (find p (take (suc i) xs)) ≡ None
  by_test true w more = absurd cc
  by_test false w more = more w

pub none_more : {X : Type 0} (p : X → Bool) (xs : List X) (i : ℕ) (d : X) → i < length xs → find p (take i xs) ≡ None → p (get_or xs i d) ≡ false
    → find p (take (i + 1) xs) ≡ None
none_more p xs i d h n t = let one : i + 1 ≡ suc i = omega arith in ap (λ k. find p (take k xs)) one ∙ none_next p xs i d h n t

pub none_all : {X : Type 0} (p : X → Bool) (xs : List X) (i : ℕ) → length xs ≤ i → find p (take i xs) ≡ None → find p xs ≡ None
none_all p xs i h n = ap (find p) (sym (take_all i xs h)) ∙ n
