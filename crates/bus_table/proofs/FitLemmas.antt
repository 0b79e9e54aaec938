-- Items and the lines of their senders.
use Rattle.std.proofs.Common.{arith, ◌≡◌, ◌≢◌, ℕ, ◌+◌, ◌<◌, ◌≤◌, Bool, true, false, ◌&&◌, ◌==◌, List, [], ◌∷◌, ◌++◌, length, get_or, drop, Option, Some, None, refl, sym, ap, ◌∙◌}
use Rattle.std.proofs.lemmas.List.{drop_all, append-nil}
use Rattle.std.specs.Prelude.{IfSome, nat_le}
use Rattle.std.specs.Int.{is_in_range}
use Rattle.std.proofs.lemmas.Bool.{and_parts}
use Rattle.std.proofs.lemmas.Bool.Decides.{nat_tests}
use Rattle.bus_table.specs.Ranges.{are_send_lines}
use Rattle.bus_table.specs.Tables.{SendLine}
use Rattle.bus_strings.specs.Messages.{Message}
use Rattle.bus_strings.proofs.ListLaws.{drop_read}
use Rattle.bus_table.specs.Fits.{allows, matches, has_shape}
use Rattle.bus_table.specs.Hands.{message_of}

-- another number of strings than of lines
pub shape_length : (sends : List SendLine) (strings : List (List ℕ)) → length sends ≢ length strings → has_shape sends strings ≡ false
shape_length [] [] h = absurd (h refl)
shape_length [] (string ∷ strings) h = refl
shape_length (line ∷ sends) [] h = refl
shape_length (line ∷ sends) (string ∷ strings) h = ap (λ b. allows line (length string) && b) (shape_length sends strings (λ e. h (omega arith))) ∙ no_more (allows line (length string)) where
  no_more : (b : Bool) → (b && false) ≡ false
  no_more true = refl
  no_more false = refl

-- one line and its string
pub shape_step : (sends : List SendLine) (strings : List (List ℕ)) (k : ℕ) (line : SendLine) (string : List ℕ) → k < length sends → k < length strings → line ≡ get_or sends k line → string ≡ get_or strings k string
    → has_shape (drop k sends) (drop k strings) ≡ (allows line (length string) && has_shape (drop (k + 1) sends) (drop (k + 1) strings))
shape_step sends strings k line string h m e f =
    ap (λ ls. has_shape ls (drop k strings)) (drop_read sends k line h e) ∙ ap (λ ss. has_shape (line ∷ drop (k + 1) sends) ss) (drop_read strings k string m f)

-- no line is left
pub shape_end : (sends : List SendLine) (strings : List (List ℕ)) (k : ℕ) → length sends ≤ k → length strings ≤ k → has_shape (drop k sends) (drop k strings) ≡ true
shape_end sends strings k h m = ap (λ ls. has_shape ls (drop k strings)) (drop_all k sends h) ∙ ap (has_shape []) (drop_all k strings m)

-- no string is left
pub shape_over : (sends : List SendLine) (strings : List (List ℕ)) → strings ≡ [] → has_shape sends strings ≡ true → sends ≡ []
shape_over [] strings e h = refl
shape_over (line ∷ sends) strings e h = let none = ap (has_shape (line ∷ sends)) (sym e) ∙ h in absurd cc

-- all that is made is the message
pub all_made : (sends : List SendLine) (front : Message) (strings : List (List ℕ)) (whole : Message) → strings ≡ [] → has_shape sends strings ≡ true → front ++ message_of sends strings ≡ whole → front ≡ whole
all_made sends front strings whole e h made =
    sym (append-nil front) ∙ ap (λ ls. front ++ message_of ls strings) (sym (shape_over sends strings e h)) ∙ made

-- 1 to 31 lines
pub line_count : (sends : List SendLine) → are_send_lines sends ≡ true → (0 < length sends) × (length sends ≤ 31)
line_count sends h =
    let range = (and_parts (is_in_range 1 31 (length sends)) _ h).0 in
    let parts = and_parts (nat_le 1 (length sends)) _ range in
    (grind (arith, nat_tests, parts.0), grind (arith, nat_tests, parts.1))

-- the value of a `Some`
pub some_of : {A : Type 0} (o : Option A) (found value : A) → o ≡ Some found → IfSome o (λ x. x ≡ value) → found ≡ value
some_of None found value e h = absurd cc
some_of (Some x) found value e h = let same : x ≡ found = cc in sym same ∙ h

-- ---- messages
-- wordstrings of another number than the lines aren't theirs
all_false : (a b c : Bool) → (a && (b && (c && false))) ≡ false
all_false true true true = refl
all_false true true false = refl
all_false true false c = refl
all_false false b c = refl

pub matches_length : (sends : List SendLine) (strings : Message) → length sends ≢ length strings → matches allows sends strings ≡ false
matches_length [] [] h = absurd (h refl)
matches_length [] (string ∷ strings) h = refl
matches_length (line ∷ sends) [] h = refl
matches_length (line ∷ sends) (string ∷ strings) h =
    ap (λ b. string.label == line.label && (string.ext == line.ext && (allows line (length string.words) && b)))
    (matches_length sends strings (λ e. h (omega arith)))
    ∙ all_false (string.label == line.label) (string.ext == line.ext) (allows line (length string.words))
