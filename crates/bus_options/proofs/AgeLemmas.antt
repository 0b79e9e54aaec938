-- The ages that words write, word for word.
use Rattle.std.specs.Prelude.{◌≡◌, ℕ, suc, ◌+◌, ◌<◌, ◌++◌, drop, List, [], length, slice_index_or}
use Rattle.std.specs.Option.{option_to_list}
use Rattle.std.proofs.Common.{arith, sym, ap, ◌∙◌, append_assoc, drop-cons}
use Rattle.std.proofs.lemmas.List.{get_or-drop}
use Rattle.bus_options.specs.Ages.{age_at, ages_in}
use Rattle.bus_options.specs.Settings.{Age}

-- the ages from a place on
ages_from : (words : List (List ℕ)) (place : ℕ) → place < length words
    → ages_in (drop place words) ≡ option_to_list (age_at (slice_index_or words place []) (slice_index_or words (place + 1) [])) ++ ages_in (drop (place + 1) words)
ages_from words place within =
    let one : suc place ≡ place + 1 = omega arith in
    let behind : suc place + 0 ≡ place + 1 = omega arith in
    ap ages_in (drop-cons words place [] within)
    ∙ ap (λ next. option_to_list (age_at (slice_index_or words place []) next) ++ ages_in (drop (suc place) words))
    (get_or-drop (suc place) words 0 [] ∙ ap (λ n. slice_index_or words n []) behind)
    ∙ ap (λ n. option_to_list (age_at (slice_index_or words place []) (slice_index_or words (place + 1) [])) ++ ages_in (drop n words)) one

-- with the age at a place, those behind it are wanting still
pub age_adds : (words : List (List ℕ)) (place : ℕ) (old new all : List Age) → place < length words
    → new ≡ old ++ option_to_list (age_at (slice_index_or words place []) (slice_index_or words (place + 1) []))
    → old ++ ages_in (drop place words) ≡ all → new ++ ages_in (drop (place + 1) words) ≡ all
age_adds words place old new all within added known =
    let one : List Age = option_to_list (age_at (slice_index_or words place []) (slice_index_or words (place + 1) [])) in
    ap (λ ages. ages ++ ages_in (drop (place + 1) words)) added
    ∙ append_assoc old one (ages_in (drop (place + 1) words))
    ∙ ap (λ rest. old ++ rest) (sym (ages_from words place within)) ∙ known
