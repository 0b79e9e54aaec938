-- Words that are put four at a time.
use Rattle.std.proofs.Common.{arith, ◌≡◌, ℕ, ◌+◌, ◌-◌, ◌*◌, ◌<◌, ◌≤◌, List, ◌++◌, length, take, drop, get_or, ap, sym, ◌∙◌, append_assoc}
use Rattle.std.specs.List.{flat_map, slice_range}
use Rattle.std.proofs.lemmas.Grind.{get_or_default_zero}
use Rattle.std.proofs.lemmas.List.{take_all, take-append-drop, length-drop}
use Rattle.std.proofs.lemmas.List.Concat.{flat_map-append}
use Rattle.bus_strings.proofs.ListLaws.{flat_map-take}
use Rattle.bus_filter.specs.ReceivedTexts.{word_text}

-- one word more
one_more : (words : List ℕ) (i j : ℕ) → j ≡ i + 1 → i < length words → flat_map word_text (take i words) ++ word_text (get_or words i 0) ≡ flat_map word_text (take j words)
one_more words i j next within =
    sym (ap (λ n. flat_map word_text (take n words)) next
    ∙ flat_map-take word_text words i (get_or words i 0) within (sym (get_or_default_zero words i (get_or words i 0) within)))

pub four_more : (words : List ℕ) (k : ℕ) → 4 * (k + 1) ≤ length words
    → flat_map word_text (take (4 * k) words)
    ++ (word_text (get_or words (4 * k) 0) ++ word_text (get_or words (4 * k + 1) 0) ++ word_text (get_or words (4 * k + 2) 0) ++ word_text (get_or words (4 * k + 3) 0))
    ≡ flat_map word_text (take (4 * (k + 1)) words)
four_more words k within =
    let put : List ℕ = flat_map word_text (take (4 * k) words) in
    let a : List ℕ = word_text (get_or words (4 * k) 0) in
    let b : List ℕ = word_text (get_or words (4 * k + 1) 0) in
    let c : List ℕ = word_text (get_or words (4 * k + 2) 0) in
    let d : List ℕ = word_text (get_or words (4 * k + 3) 0) in
    sym (append_assoc put (a ++ b ++ c) d)
    ∙ ap (λ t. t ++ d) (sym (append_assoc put (a ++ b) c) ∙ ap (λ t. t ++ c) (sym (append_assoc put a b)
    ∙ ap (λ t. t ++ b) (one_more words (4 * k) (4 * k + 1) (omega arith) (omega (arith, within)))
    ∙ one_more words (4 * k + 1) (4 * k + 2) (omega arith) (omega (arith, within)))
    ∙ one_more words (4 * k + 2) (4 * k + 3) (omega arith) (omega (arith, within)))
    ∙ one_more words (4 * k + 3) (4 * (k + 1)) (omega arith) (omega (arith, within))

pub two_parts : (words : List ℕ) (n : ℕ) → flat_map word_text (take n words) ++ flat_map word_text (slice_range words n (length words)) ≡ flat_map word_text words
two_parts words n =
    ap (λ t. flat_map word_text (take n words) ++ flat_map word_text t) (take_all (length words - n) (drop n words) (omega (arith, length-drop n words)))
    ∙ sym (flat_map-append word_text (take n words) (drop n words)) ∙ ap (flat_map word_text) (take-append-drop n words)
