-- The words of a form.
use Rattle.std.specs.Prelude.{◌≡◌, ◌≢◌, ℕ, ◌≤◌, take, List, [], ◌∷◌, Option, None, Ok, length, slice_index_or, String}
use Rattle.std.specs.declared.alloc.Global.{Global}
use Rattle.std.specs.Option.{option_map}
use Rattle.std.specs.String.{string_bytes}
use Rattle.std.proofs.Common.{arith, refl, sym, ap, ◌∙◌}
use Rattle.std.proofs.lemmas.List.{length-map, length-take-le}
use Rattle.bus_options.specs.Words.{words_of}
use Rattle.bus_options.specs.declared.line.Line.{Line}
use Rattle.bus_options.specs.declared.options.Options.{Options}
use Rattle.bus_options.specs.Options.{line_of}
use Rattle.bus_view.specs.Forms.{OnTrace, form_by, form_of, form_with, one_word, page_of, view_of}

-- ---- plain words by their number
take_none : {X : Type 0} (xs : List X) → take 0 xs ≡ []
take_none [] = refl
take_none (x ∷ xs) = refl

pub with_two : (words : List (String Global)) (a : String Global) (options : Options) → 2 ≤ length words → a ≡ slice_index_or words 0 a
    → form_with (take 2 (words_of words)) options ≡ page_of (string_bytes a) options
with_two [] a options h i = absurd (omega arith)
with_two (p ∷ []) a options h i = absurd (omega arith)
with_two (p ∷ q ∷ rest) a options h i =
    let first : a ≡ p = i in
    ap (λ behind. form_with (string_bytes p ∷ string_bytes q ∷ behind) options) (take_none (words_of rest))
    ∙ ap (λ word. page_of (string_bytes word) options) (sym first)

pub with_three : (words : List (String Global)) (a : String Global) (options : Options) → 3 ≤ length words → a ≡ slice_index_or words 0 a
    → form_with (take 3 (words_of words)) options ≡ option_map OnTrace (view_of (string_bytes a) options)
with_three [] a options h i = absurd (omega arith)
with_three (p ∷ []) a options h i = absurd (omega arith)
with_three (p ∷ q ∷ []) a options h i = absurd (omega arith)
with_three (p ∷ q ∷ r ∷ rest) a options h i =
    let first : a ≡ p = i in
    ap (λ behind. form_with (string_bytes p ∷ string_bytes q ∷ string_bytes r ∷ behind) options) (take_none (words_of rest))
    ∙ ap (λ word. option_map OnTrace (view_of (string_bytes word) options)) (sym first)

-- other numbers of plain words are no form
no_form : (words : List (List ℕ)) (options : Options) → length words ≢ 2 → length words ≢ 3 → form_with words options ≡ None
no_form [] options two three = refl
no_form (a ∷ []) options two three = refl
no_form (a ∷ b ∷ []) options two three = absurd (two refl)
no_form (a ∷ b ∷ c ∷ []) options two three = absurd (three refl)
no_form (a ∷ b ∷ c ∷ d ∷ rest) options two three = refl

pub with_others : (words : List (String Global)) (plain : ℕ) (options : Options) → plain ≤ length words → plain ≢ 2 → plain ≢ 3
    → form_with (take plain (words_of words)) options ≡ None
with_others words plain options within two three =
    let same : length (take plain (words_of words)) ≡ plain = length-take-le plain (words_of words) (grind (arith, length-map)) in
    no_form (take plain (words_of words)) options (λ h. two (sym same ∙ h)) (λ h. three (sym same ∙ h))

-- ---- the words of a command line
pub of_none : (words : List (String Global)) → length words ≡ 0 → form_of (words_of words) ≡ None
of_none [] h = refl
of_none (p ∷ rest) h = absurd (omega arith)

pub of_one : (words : List (String Global)) (a : String Global) → length words ≡ 1 → a ≡ slice_index_or words 0 a
    → form_of (words_of words) ≡ one_word (string_bytes a)
of_one [] a h i = absurd (omega arith)
of_one (p ∷ []) a h i = ap (λ word. one_word (string_bytes word)) (sym i)
of_one (p ∷ q ∷ rest) a h i = absurd (omega arith)

pub of_more : (words : List (String Global)) → length words ≢ 0 → length words ≢ 1
    → form_of (words_of words) ≡ form_by (words_of words) (line_of (words_of words))
of_more [] none one = absurd (none refl)
of_more (p ∷ []) none one = absurd (one refl)
of_more (p ∷ q ∷ rest) none one = refl

-- a line with options behind two plain words, and behind three
pub with_options : (a b : List ℕ) (behind words : List (List ℕ)) (line : Line) → words ≡ a ∷ b ∷ behind → line_of words ≡ Ok line
    → form_of words ≡ form_with (take line.plain (a ∷ b ∷ behind)) line.options
with_options a b behind words line h known = ap form_of h ∙ ap (form_by (a ∷ b ∷ behind)) (ap line_of (sym h) ∙ known)

pub front_two : (a b : List ℕ) (behind : List (List ℕ)) (options : Options) → form_with (take 2 (a ∷ b ∷ behind)) options ≡ page_of a options
front_two a b behind options = ap (λ rest. form_with (a ∷ b ∷ rest) options) (take_none behind)

pub front_three : (a b c : List ℕ) (behind : List (List ℕ)) (options : Options)
    → form_with (take 3 (a ∷ b ∷ c ∷ behind)) options ≡ option_map OnTrace (view_of a options)
front_three a b c behind options = ap (λ rest. form_with (a ∷ b ∷ c ∷ rest) options) (take_none behind)
