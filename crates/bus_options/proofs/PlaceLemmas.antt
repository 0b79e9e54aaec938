-- The words of a command line, by their places.
use Rattle.std.specs.Prelude.{◌≡◌, ℕ, suc, ◌+◌, ◌<◌, ◌≤◌, Bool, true, false, not, nat_lt, map, drop, List, [], ◌∷◌, length, slice_index_or, Some, None, String}
use Rattle.std.specs.declared.alloc.Global.{Global}
use Rattle.std.specs.List.{position, position_or_len, prefix_len}
use Rattle.std.specs.String.{string_bytes}
use Rattle.std.proofs.Common.{arith, refl, sym, ap, ◌∙◌, cond, drop-cons}
use Rattle.std.proofs.lemmas.Bool.Decides.{nat_tests}
use Rattle.std.proofs.lemmas.List.{drop-map}
use Rattle.std.proofs.lemmas.List.Sums.{prefix_len-le-length}
use Rattle.bus_options.specs.Words.{words_of}

prefix_len-map : {X Y : Type 0} (f : X → Y) (p : Y → Bool) (xs : List X) → prefix_len p (map f xs) ≡ prefix_len (λ x. p (f x)) xs
prefix_len-map f p [] = refl
prefix_len-map f p (x ∷ xs) = ap (λ n. cond (p (f x)) (1 + n) 0) (prefix_len-map f p xs)

found_by : (b : Bool) (n : ℕ) → cond b (Some n) None ≡ None → b ≡ false
found_by true n h = grind arith
found_by false n h = refl

found_at : (b : Bool) (n at : ℕ) → cond b (Some n) None ≡ Some at → at ≡ n
found_at true n at h = grind arith
found_at false n at h = grind arith

-- the first option is where the first word is that begins so
pub first_is : (p : List ℕ → Bool) (words : List (String Global)) (at : ℕ) → position (λ word. p (string_bytes word)) words ≡ Some at
    → at ≡ position_or_len p (words_of words)
first_is p words at h =
    found_at (nat_lt (position_or_len (λ word. p (string_bytes word)) words) (length words)) (position_or_len (λ word. p (string_bytes word)) words) at h
    ∙ sym (prefix_len-map string_bytes (λ word. not (p word)) words)

-- where no word begins so, all words are plain
pub all_before : (p : List ℕ → Bool) (words : List (String Global)) → position (λ word. p (string_bytes word)) words ≡ None
    → length words ≡ position_or_len p (words_of words)
all_before p words h =
    let place : ℕ = position_or_len (λ word. p (string_bytes word)) words in
    let behind : nat_lt (position_or_len (λ word. p (string_bytes word)) words) (length words) ≡ false =
    found_by _ (position_or_len (λ word. p (string_bytes word)) words) h in
    let within : position_or_len (λ word. p (string_bytes word)) words ≤ length words = prefix_len-le-length (λ word. not (p (string_bytes word))) words in
    let same : length words ≡ position_or_len (λ word. p (string_bytes word)) words = grind (arith, nat_tests) in
    same ∙ sym (prefix_len-map string_bytes (λ word. not (p word)) words)

-- the words from a place on are the one there and those behind it
pub from_place : (words : List (String Global)) (place : ℕ) (word : String Global) → place < length words → word ≡ slice_index_or words place word
    → drop place (words_of words) ≡ string_bytes word ∷ drop (place + 1) (words_of words)
from_place words place word within is =
    let one : suc place ≡ place + 1 = omega arith in
    drop-map string_bytes place words ∙ ap (map string_bytes) (drop-cons words place word within)
    ∙ ap (λ first. string_bytes first ∷ map string_bytes (drop (suc place) words)) (sym is)
    ∙ ap (λ n. string_bytes word ∷ map string_bytes (drop n words)) one
    ∙ ap (λ rest. string_bytes word ∷ rest) (sym (drop-map string_bytes (place + 1) words))
