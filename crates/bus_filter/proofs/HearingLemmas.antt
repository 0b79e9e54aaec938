-- What a receiver keeps of the words of one wordstring.
use Rattle.std.proofs.Common.{arith, zero, suc, ◌≡◌, ℕ, ◌+◌, ◌*◌, ◌/◌, ◌%◌, ◌<◌, ◌≤◌, Bool, true, false, cond, List, [], ◌∷◌, map, take, drop, Option, Some, None, refl, ap, sym, ◌∙◌}
use Rattle.std.specs.List.{cons_option}
use Rattle.std.proofs.lemmas.Bool.Decides.{nat_tests}
use Rattle.bus_words.specs.declared.word.Kind.TheVariants.{Label}
use Rattle.bus_strings.specs.Messages.{Wordstring, words_of}
use Rattle.bus_table.specs.declared.line.TakeLine.{TakeLine}
use Rattle.bus_filter.specs.declared.receiver.Heard.TheVariants.{Skipped, Begins, Kept}
use Rattle.bus_filter.specs.Received.{matches, selection}
use Rattle.bus_words.specs.Words.{data_word}
use Rattle.bus_filter.specs.Hearing.{unmatched, is_taken, next_position, answers, kept_of, kept}

-- what is kept of data words from a position on
abbrev data_of : TakeLine → Option ℕ → List ℕ → List ℕ
data_of line position words = kept (answers (record { line = line; position = position }) (map data_word words))

-- a wordstring that doesn't match is skipped
none_kept : (line : TakeLine) (words : List ℕ) → data_of line None words ≡ []
none_kept line [] = refl
none_kept line (w ∷ words) = none_kept line words

is_before : (line : TakeLine) (position : ℕ) → position < line.first → is_taken line position ≡ false
is_before line position h = grind (arith, nat_tests)

is_within : (line : TakeLine) (position : ℕ) → line.first ≤ position → position < line.first + line.count → is_taken line position ≡ true
is_within line position h k = grind (arith, nat_tests)

is_behind : (line : TakeLine) (position : ℕ) → line.first + line.count ≤ position → is_taken line position ≡ false
is_behind line position h = grind (arith, nat_tests)

-- a data word at a position that isn't one of the line's, and at one that is
skips : (line : TakeLine) (position w : ℕ) (words : List ℕ) (next : ℕ) → is_taken line position ≡ false → next_position line position ≡ next → data_of line (Some position) (w ∷ words) ≡ data_of line (Some next) words
skips line position w words next h e =
    ap (λ t. cons_option (kept_of (cond t (Kept w) Skipped)) (data_of line (Some (next_position line position)) words)) h ∙ ap (λ n. data_of line (Some n) words) e

keeps : (line : TakeLine) (position w : ℕ) (words : List ℕ) (next : ℕ) → is_taken line position ≡ true → next_position line position ≡ next → data_of line (Some position) (w ∷ words) ≡ w ∷ data_of line (Some next) words
keeps line position w words next h e =
    ap (λ t. cons_option (kept_of (cond t (Kept w) Skipped)) (data_of line (Some (next_position line position)) words)) h ∙ ap (λ n. w ∷ data_of line (Some n) words) e

-- behind the last position nothing is kept
behind : (line : TakeLine) (position : ℕ) (words : List ℕ) → position ≡ line.first + line.count → data_of line (Some position) words ≡ []
behind line position [] h = refl
behind line position (w ∷ words) h = skips line position w words position (is_behind line position (omega arith)) (omega arith) ∙ behind line position words h

-- from a position of the line's on, so many words are kept
inside : (line : TakeLine) (position left : ℕ) (words : List ℕ) → line.first ≤ position → position + left ≡ line.first + line.count → data_of line (Some position) words ≡ take left words
inside line position zero words h e = behind line position words (omega arith)
inside line position (suc left) [] h e = refl
inside line position (suc left) (w ∷ words) h e =
    keeps line position w words (position + 1) (is_within line position h (omega arith)) (omega arith) ∙ ap (λ ws. w ∷ ws) (inside line (position + 1) left words (omega arith) (omega arith))

take_of_none : (n : ℕ) → take {A = ℕ} n [] ≡ []
take_of_none zero = refl
take_of_none (suc n) = refl

-- before the first position, so many words are skipped
before : (line : TakeLine) (position ahead : ℕ) (words : List ℕ) → position + ahead ≡ line.first → data_of line (Some position) words ≡ take line.count (drop ahead words)
before line position zero words e = inside line position line.count words (omega arith) (omega arith)
before line position (suc ahead) [] e = sym (take_of_none line.count)
before line position (suc ahead) (w ∷ words) e =
    skips line position w words (position + 1) (is_before line position (omega arith)) (omega arith) ∙ before line (position + 1) ahead words (omega arith)

-- the words behind the label word
data_kept : (line : TakeLine) (words : List ℕ) (t : Bool) → data_of line (cond t (Some 0) None) words ≡ cond t (selection line words) []
data_kept line words true = before line 0 line.first words (omega arith)
data_kept line words false = none_kept line words

-- the label word itself is never kept
label_kept : (t : Bool) (label ext : ℕ) (rest : List ℕ) → cons_option (kept_of (cond t (Begins label ext) Skipped)) rest ≡ rest
label_kept true label ext rest = refl
label_kept false label ext rest = refl

-- a label word by its value
by_value : (line : TakeLine) (value : ℕ) (words : List ℕ) → kept (answers (unmatched line) (record { kind = Label; value = value } ∷ map data_word words)) ≡ cond (matches line (value / 16) (value % 16)) (selection line words) []
by_value line value words =
    let t = matches line (value / 16) (value % 16) in
    label_kept t (value / 16) (value % 16) (data_of line (cond t (Some 0) None) words) ∙ data_kept line words t

pub string_kept : (line : TakeLine) (string : Wordstring) → string.ext < 16 → kept (answers (unmatched line) (words_of string)) ≡ cond (matches line string.label string.ext) (selection line string.words) []
string_kept line string h =
    by_value line (16 * string.label + string.ext) string.words
    ∙ ap (λ l. cond (matches line l ((16 * string.label + string.ext) % 16)) (selection line string.words) []) (omega arith)
    ∙ ap (λ e. cond (matches line string.label e) (selection line string.words) []) (omega arith)
