-- The words of a form.
use Rattle.std.specs.Prelude.{◌≡◌, ◌≢◌, ℕ, ◌≤◌, Bool, true, false, ◌&&◌, nat_eq, take, List, [], ◌∷◌, None, Ok, length, slice_index_or, String}
use Rattle.std.specs.Char.{is_ascii_digit}
use Rattle.std.specs.declared.alloc.Global.{Global}
use Rattle.std.specs.String.{string_bytes}
use Rattle.std.proofs.Common.{arith, refl, sym, ap, ◌∙◌}
use Rattle.std.proofs.Math.Seq.{take-length}
use Rattle.std.proofs.lemmas.Bool.{and_parts}
use Rattle.std.proofs.lemmas.Bool.Decides.{nat_tests}
use Rattle.std.proofs.lemmas.List.{length-map, length-take-le}
use Rattle.bus_text.specs.Numbers.{is_plain_decimal}
use Rattle.bus_options.proofs.PlainLaws.{plain_line}
use Rattle.bus_options.specs.declared.line.Line.{Line}
use Rattle.bus_options.specs.declared.options.Options.{Options}
use Rattle.bus_options.specs.Options.{ArePlain, is_option, line_of, no_options}
use Rattle.bus_command.specs.Words.{words_of}
use Rattle.bus_tool.specs.Forms.{form_by, form_of, form_with, four_words, one_word, three_words, two_words}

-- ---- plain words by their number
take_none : {X : Type 0} (xs : List X) → take 0 xs ≡ []
take_none [] = refl
take_none (x ∷ xs) = refl

pub with_two : (words : List (String Global)) (a b : String Global) (options : Options) → 2 ≤ length words → a ≡ slice_index_or words 0 a
    → b ≡ slice_index_or words 1 b → form_with (take 2 (words_of words)) options ≡ two_words (string_bytes a) (string_bytes b) options
with_two [] a b options h i j = absurd (omega arith)
with_two (p ∷ []) a b options h i j = absurd (omega arith)
with_two (p ∷ q ∷ rest) a b options h i j =
    let first : a ≡ p = i in
    let second : b ≡ q = j in
    ap (λ behind. form_with (string_bytes p ∷ string_bytes q ∷ behind) options) (take_none (words_of rest))
    ∙ ap (λ word. two_words (string_bytes word) (string_bytes q) options) (sym first) ∙ ap (λ word. two_words (string_bytes a) (string_bytes word) options) (sym second)

pub with_three : (words : List (String Global)) (a c : String Global) (options : Options) → 3 ≤ length words → a ≡ slice_index_or words 0 a
    → c ≡ slice_index_or words 2 c → form_with (take 3 (words_of words)) options ≡ three_words (string_bytes a) (string_bytes c) options
with_three [] a c options h i j = absurd (omega arith)
with_three (p ∷ []) a c options h i j = absurd (omega arith)
with_three (p ∷ q ∷ []) a c options h i j = absurd (omega arith)
with_three (p ∷ q ∷ r ∷ rest) a c options h i j =
    let first : a ≡ p = i in
    let third : c ≡ r = j in
    ap (λ behind. form_with (string_bytes p ∷ string_bytes q ∷ string_bytes r ∷ behind) options) (take_none (words_of rest))
    ∙ ap (λ word. three_words (string_bytes word) (string_bytes r) options) (sym first)
    ∙ ap (λ word. three_words (string_bytes a) (string_bytes word) options) (sym third)

pub with_four : (words : List (String Global)) (a d : String Global) (options : Options) → 4 ≤ length words → a ≡ slice_index_or words 0 a
    → d ≡ slice_index_or words 3 d → form_with (take 4 (words_of words)) options ≡ four_words (string_bytes a) (string_bytes d) options
with_four [] a d options h i j = absurd (omega arith)
with_four (p ∷ []) a d options h i j = absurd (omega arith)
with_four (p ∷ q ∷ []) a d options h i j = absurd (omega arith)
with_four (p ∷ q ∷ r ∷ []) a d options h i j = absurd (omega arith)
with_four (p ∷ q ∷ r ∷ s ∷ rest) a d options h i j =
    let first : a ≡ p = i in
    let fourth : d ≡ s = j in
    ap (λ behind. form_with (string_bytes p ∷ string_bytes q ∷ string_bytes r ∷ string_bytes s ∷ behind) options) (take_none (words_of rest))
    ∙ ap (λ word. four_words (string_bytes word) (string_bytes s) options) (sym first)
    ∙ ap (λ word. four_words (string_bytes a) (string_bytes word) options) (sym fourth)

-- other numbers of plain words are no form
no_form : (words : List (List ℕ)) (options : Options) → length words ≢ 2 → length words ≢ 3 → length words ≢ 4 → form_with words options ≡ None
no_form [] options two three four = refl
no_form (a ∷ []) options two three four = refl
no_form (a ∷ b ∷ []) options two three four = absurd (two refl)
no_form (a ∷ b ∷ c ∷ []) options two three four = absurd (three refl)
no_form (a ∷ b ∷ c ∷ d ∷ []) options two three four = absurd (four refl)
no_form (a ∷ b ∷ c ∷ d ∷ e ∷ rest) options two three four = refl

pub with_others : (words : List (String Global)) (plain : ℕ) (options : Options) → plain ≤ length words → plain ≢ 2 → plain ≢ 3 → plain ≢ 4
    → form_with (take plain (words_of words)) options ≡ None
with_others words plain options within two three four =
    let same : length (take plain (words_of words)) ≡ plain = length-take-le plain (words_of words) (grind (arith, length-map)) in
    no_form (take plain (words_of words)) options (λ h. two (sym same ∙ h)) (λ h. three (sym same ∙ h)) (λ h. four (sym same ∙ h))

-- ---- the words of a command line
pub of_none : (words : List (String Global)) → length words ≡ 0 → form_of (words_of words) ≡ None
of_none [] h = refl
of_none (p ∷ rest) h = absurd (omega arith)

pub of_one : (words : List (String Global)) (a : String Global) → length words ≡ 1 → a ≡ slice_index_or words 0 a
    → form_of (words_of words) ≡ one_word (string_bytes a)
of_one [] a h i = absurd (omega arith)
of_one (p ∷ []) a h i = ap (λ word. one_word (string_bytes word)) (sym i)
of_one (p ∷ q ∷ rest) a h i = absurd (omega arith)

pub of_more : (words : List (String Global)) → length words ≢ 0 → length words ≢ 1
    → form_of (words_of words) ≡ form_by (words_of words) (line_of (words_of words))
of_more [] none one = absurd (none refl)
of_more (p ∷ []) none one = absurd (one refl)
of_more (p ∷ q ∷ rest) none one = refl

-- what a line is that is read as plain words and options
pub of_line : (a b : List ℕ) (further : List (List ℕ)) (line : Line) → line_of (a ∷ b ∷ further) ≡ Ok line
    → form_of (a ∷ b ∷ further) ≡ form_with (take line.plain (a ∷ b ∷ further)) line.options
of_line a b further line h = ap (form_by (a ∷ b ∷ further)) h

-- a line of plain words
pub of_plain : (a b : List ℕ) (further words : List (List ℕ)) → words ≡ a ∷ b ∷ further → ArePlain (a ∷ b ∷ further)
    → form_of words ≡ form_with (a ∷ b ∷ further) no_options
of_plain a b further words h plain =
    ap form_of h ∙ of_line a b further (record { plain = length (a ∷ b ∷ further); options = no_options }) (plain_line (a ∷ b ∷ further) plain)
    ∙ ap (λ front. form_with front no_options) (take-length (a ∷ b ∷ further))

-- a line with options behind two plain words, and behind three
pub with_options : (a b : List ℕ) (behind words : List (List ℕ)) (line : Line) → words ≡ a ∷ b ∷ behind → line_of words ≡ Ok line
    → form_of words ≡ form_with (take line.plain (a ∷ b ∷ behind)) line.options
with_options a b behind words line h known = ap form_of h ∙ of_line a b behind line (ap line_of (sym h) ∙ known)

pub front_two : (a b : List ℕ) (behind : List (List ℕ)) (options : Options) → form_with (take 2 (a ∷ b ∷ behind)) options ≡ two_words a b options
front_two a b behind options = ap (λ rest. form_with (a ∷ b ∷ rest) options) (take_none behind)

pub front_three : (a b c : List ℕ) (behind : List (List ℕ)) (options : Options)
    → form_with (take 3 (a ∷ b ∷ c ∷ behind)) options ≡ three_words a c options
front_three a b c behind options = ap (λ rest. form_with (a ∷ b ∷ c ∷ rest) options) (take_none behind)

-- ---- plain words
-- more of them behind some
pub plain_with : (a b c : List ℕ) (further : List (List ℕ)) → ArePlain (a ∷ b ∷ c ∷ []) → ArePlain further → ArePlain (a ∷ b ∷ c ∷ further)
plain_with a b c further p q = (p.0, (p.1.0, (p.1.1.0, q)))

digit_is : (byte : ℕ) → is_ascii_digit byte ≡ true → nat_eq 45 byte ≡ false
digit_is byte h = grind (arith, nat_tests)

and_no : (b : Bool) → (b && false) ≡ false
and_no true = refl
and_no false = refl

-- a plain decimal is one
pub decimal_plain : (word : List ℕ) → is_plain_decimal word ≡ true → is_option word ≡ false
decimal_plain [] h = refl
decimal_plain (a ∷ []) h = and_no (nat_eq 45 a)
decimal_plain (a ∷ b ∷ rest) h =
    let digits : is_ascii_digit a ≡ true = (and_parts _ _ (and_parts _ _ h).1).0 in
    ap (λ x. x && (nat_eq 45 b && true)) (digit_is a digits)
