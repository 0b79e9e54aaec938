-- Reading the wordstrings of a line, field by field.
use Rattle.std.proofs.Common.{◌≡◌, ℕ, Bool, true, false, cond, ◌&&◌, ◌||◌, List, [], ◌∷◌, ◌++◌, map, Ok, Err, refl, sym, ap, ◌∙◌, append_assoc, append-nil}
use Rattle.std.specs.List.{slice_split, onto_first}
use Rattle.bus_text.specs.Numbers.{is_hexadecimal, hexadecimal_value}
use Rattle.bus_text.specs.declared.reason.Reason.TheVariants.{Spelling}
use Rattle.bus_strings.specs.Reading.{is_colon, are_spelled, strings_of}
use Rattle.bus_strings.specs.inside.Building.{onto, with_strings}

-- some piece comes first
abbrev pub Begins : List (List (List ℕ)) → Type 0
Begins pieces = (first : List (List ℕ)) × (others : List (List (List ℕ))) × (pieces ≡ first ∷ others)

piece_step : (t : Bool) (x : List ℕ) (pieces : List (List (List ℕ))) → Begins pieces → Begins (cond t ([] ∷ pieces) (onto_first x pieces))
piece_step true x pieces h = ([], pieces, refl)
piece_step false x pieces h = (x ∷ h.0, h.1, ap (onto_first x) h.2)

pub some_piece : (fields : List (List ℕ)) → Begins (slice_split is_colon fields)
some_piece [] = ([], [], refl)
some_piece (x ∷ xs) = piece_step (is_colon x) x (slice_split is_colon xs) (some_piece xs)

abbrev pub values : List (List (List ℕ)) → List (List ℕ)
values pieces = map (map hexadecimal_value) pieces

onto-nil : (pieces : List (List (List ℕ))) → Begins pieces → onto [] (values pieces) ≡ values pieces
onto-nil pieces h = ap (λ ps. onto [] (values ps)) h.2 ∙ ap values (sym h.2)

pub begun : (fields : List (List ℕ)) → with_strings [] [] fields ≡ cond (are_spelled fields) (Ok (strings_of fields)) (Err Spelling)
begun fields = ap (λ ss. cond (are_spelled fields) (Ok ss) (Err Spelling)) (onto-nil (slice_split is_colon fields) (some_piece fields))

pub ended : (whole : List (List ℕ)) (words : List ℕ) → with_strings whole words [] ≡ Ok (whole ++ words ∷ [])
ended whole words = ap (λ ws. Ok (whole ++ ws ∷ [])) (append-nil words)

-- a colon ends a wordstring
pub at_colon : (whole : List (List ℕ)) (words : List ℕ) (field : List ℕ) (fields : List (List ℕ)) → is_colon field ≡ true → with_strings whole words (field ∷ fields) ≡ with_strings (whole ++ words ∷ []) [] fields
at_colon whole words field fields h =
    ap (λ t. cond ((t || is_hexadecimal 4 field) && are_spelled fields) (Ok (whole ++ onto words (values (cond t ([] ∷ slice_split is_colon fields) (onto_first field (slice_split is_colon fields)))))) (Err Spelling)) h
    ∙ ap (λ ss. cond (are_spelled fields) (Ok ss) (Err Spelling))
    (ap (λ ws. whole ++ ws ∷ strings_of fields) (append-nil words) ∙ sym (append_assoc whole (words ∷ []) (strings_of fields)) ∙ ap (λ ss. (whole ++ words ∷ []) ++ ss) (sym (onto-nil (slice_split is_colon fields) (some_piece fields))))

onto_word : (words : List ℕ) (field : List ℕ) (pieces : List (List (List ℕ))) → Begins pieces → onto words (values (onto_first field pieces)) ≡ onto (words ++ hexadecimal_value field ∷ []) (values pieces)
onto_word words field pieces h =
    ap (λ ps. onto words (values (onto_first field ps))) h.2
    ∙ ap (λ ws. ws ∷ values h.1) (sym (append_assoc words (hexadecimal_value field ∷ []) (map hexadecimal_value h.0)))
    ∙ ap (λ ps. onto (words ++ hexadecimal_value field ∷ []) (values ps)) (sym h.2)

-- a data word goes on with one
pub at_word : (whole : List (List ℕ)) (words : List ℕ) (field : List ℕ) (fields : List (List ℕ)) → is_colon field ≡ false → is_hexadecimal 4 field ≡ true
    → with_strings whole words (field ∷ fields) ≡ with_strings whole (words ++ hexadecimal_value field ∷ []) fields
at_word whole words field fields h k =
    ap (λ t. cond ((t || is_hexadecimal 4 field) && are_spelled fields) (Ok (whole ++ onto words (values (cond t ([] ∷ slice_split is_colon fields) (onto_first field (slice_split is_colon fields)))))) (Err Spelling)) h
    ∙ ap (λ t. cond (t && are_spelled fields) (Ok (whole ++ onto words (values (onto_first field (slice_split is_colon fields))))) (Err Spelling)) k
    ∙ ap (λ ss. cond (are_spelled fields) (Ok (whole ++ ss)) (Err Spelling)) (onto_word words field (slice_split is_colon fields) (some_piece fields))

-- another field is refused
pub at_other : (whole : List (List ℕ)) (words : List ℕ) (field : List ℕ) (fields : List (List ℕ)) → is_colon field ≡ false → is_hexadecimal 4 field ≡ false → with_strings whole words (field ∷ fields) ≡ Err Spelling
at_other whole words field fields h k =
    ap (λ t. cond ((t || is_hexadecimal 4 field) && are_spelled fields) (Ok (whole ++ onto words (strings_of (field ∷ fields)))) (Err Spelling)) h
    ∙ ap (λ t. cond (t && are_spelled fields) (Ok (whole ++ onto words (strings_of (field ∷ fields)))) (Err Spelling)) k
