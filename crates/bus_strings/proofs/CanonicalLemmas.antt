-- The canonical text of items is what is put, and stands for them.
use Rattle.std.proofs.Common.{arith, ◌≡◌, ℕ, ◌+◌, ◌<◌, ◌^◌, true, ◌&&◌, List, [], ◌∷◌, ◌++◌, map, refl, sym, ap, subst, ◌∙◌, codes, lit<, append-nil}
use Rattle.std.specs.Prelude.{decimal}
use Rattle.std.specs.List.{flat_map, AllByRecursion}
use Rattle.std.specs.Int.{is_in_range as is_between}
use Rattle.std.proofs.lemmas.Bool.{and_parts}
use Rattle.std.proofs.lemmas.Bool.Decides.{nat_tests}
use Rattle.std.proofs.lemmas.Grind.{flat_map-append}
use Rattle.std.proofs.lemmas.List.Folds.{flat_map-map}
use Rattle.bus_text.specs.Canonical.{spelled_line, spelled_lines}
use Rattle.bus_text.specs.inside.Spelled.{IsField, AreFields, numbered}
use Rattle.bus_text.proofs.CanonicalLaws.{entries_of-spelled_lines, constant_field, spelled_line-cons}
use Rattle.bus_text.specs.Digits.{hexadecimal}
use Rattle.bus_text.proofs.DigitLaws.{hexadecimal_is, hexadecimal_field}
use Rattle.bus_text.specs.Headers.{header_fields}
use Rattle.bus_text.specs.Lines.{Entry}
use Rattle.bus_text.proofs.NumberLaws.{decimal_is, decimal_field}
use Rattle.bus_strings.specs.Items.{Item, IsItem}
use Rattle.bus_strings.specs.Canonical.{string_fields, item_fields, messages_text}
use Rattle.bus_strings.specs.Grammar.{AreWords, AreStrings, IsItemLine, AreItemLines, AreMessageLines, IsMessagesText}
use Rattle.bus_strings.specs.inside.Puts.{string_bytes, item_bytes, messages_bytes}

-- ---- what is put
strings_put : (strings : List (List ℕ)) → flat_map (λ field. 32 ∷ field) (flat_map string_fields strings) ≡ flat_map string_bytes strings
strings_put [] = refl
strings_put (string ∷ strings) =
    flat_map-append (λ field. 32 ∷ field) (string_fields string) (flat_map string_fields strings)
    ∙ ap (λ bytes. (codes " :" ++ bytes) ++ flat_map (λ field. 32 ∷ field) (flat_map string_fields strings)) (flat_map-map (λ field. 32 ∷ field) (hexadecimal 4) string)
    ∙ ap (λ bytes. string_bytes string ++ bytes) (strings_put strings)

item_put : (item : Item) → spelled_line (item_fields item) ≡ item_bytes item
item_put item =
    spelled_line-cons (codes "MSG") (decimal item.terminal ∷ flat_map string_fields item.strings)
    ∙ ap (λ bytes. codes "MSG " ++ decimal item.terminal ++ bytes ++ codes "\n") (strings_put item.strings)

pub items_put : (items : List Item) → spelled_lines (map item_fields items) ≡ flat_map item_bytes items
items_put [] = refl
items_put (item ∷ items) = ap (λ bytes. bytes ++ spelled_lines (map item_fields items)) (item_put item) ∙ ap (λ bytes. item_bytes item ++ bytes) (items_put items)

pub messages_put : (items : List Item) → messages_bytes items ≡ messages_text items
messages_put items = ap (λ bytes. codes "MESSAGES 1\n" ++ bytes) (sym (items_put items))

-- ---- what it stands for
abbrev Words : List ℕ → Type 0
Words string = AllByRecursion (λ word. word < 2 ^ 16) string

words_are : (string : List ℕ) → Words string → AreWords string (map (hexadecimal 4) string)
words_are [] h = tt
words_are (word ∷ words) h = (hexadecimal_is 4 word h.0, words_are words h.1)

word_fields : (string : List ℕ) → AllByRecursion IsField (map (hexadecimal 4) string)
word_fields [] = tt
word_fields (word ∷ words) = (hexadecimal_field 4 word (lit< tt), word_fields words)

all_append : (xs ys : List (List ℕ)) → AllByRecursion IsField xs → AllByRecursion IsField ys → AllByRecursion IsField (xs ++ ys)
all_append [] ys h k = k
all_append (x ∷ xs) ys h k = (h.0, all_append xs ys h.1 k)

strings_fields : (strings : List (List ℕ)) → AllByRecursion IsField (flat_map string_fields strings)
strings_fields [] = tt
strings_fields (string ∷ strings) = (constant_field (codes ":") (lit< tt) refl, all_append (map (hexadecimal 4) string) (flat_map string_fields strings) (word_fields string) (strings_fields strings))

strings_are : (string : List ℕ) (strings : List (List ℕ)) → AllByRecursion Words (string ∷ strings) → AreStrings (string ∷ strings) (map (hexadecimal 4) string ++ flat_map string_fields strings)
strings_are string [] h = subst (λ (fs : List (List ℕ)). AreWords string fs) (sym (append-nil (map (hexadecimal 4) string))) (words_are string h.0)
strings_are string (next ∷ strings) h = (map (hexadecimal 4) string, map (hexadecimal 4) next ++ flat_map string_fields strings, refl, words_are string h.0, strings_are next strings h.1)

has_room : (n : ℕ) → is_between 1 128 n ≡ true → n < 2 ^ 64
has_room n h = grind (arith, nat_tests)

line_is : (terminal : ℕ) (strings : List (List ℕ)) → let item : Item = record { terminal = terminal; strings = strings } in IsItem item → IsItemLine item (item_fields item) × AreFields (item_fields item)
line_is terminal [] h = let p = (and_parts (is_between 1 31 0) true (and_parts (is_between 1 128 terminal) (is_between 1 31 0 && true) h.ranges).1).0 in absurd cc
line_is terminal (string ∷ strings) h =
    let room = has_room terminal (and_parts (is_between 1 128 terminal) _ h.ranges).0 in (
      record {
        number = decimal terminal;
        words = map (hexadecimal 4) string ++ flat_map string_fields strings;
        parts = refl;
        terminal = decimal_is terminal room;
        strings = strings_are string strings h.words;
        ranges = h.ranges;
      },
      (λ e. absurd (omega (arith, e)), (constant_field (codes "MSG") (lit< tt) refl, (decimal_field terminal room, strings_fields (string ∷ strings)))),
    )

pub lines_are : (n : ℕ) (items : List Item) → AllByRecursion IsItem items → AreItemLines items (numbered n (map item_fields items)) × AllByRecursion AreFields (map item_fields items)
lines_are n [] h = (tt, tt)
lines_are n (item ∷ items) h =
    let first = line_is item.terminal item.strings h.0 in
    let others = lines_are (n + 1) items h.1 in
    ((first.0, others.0), (first.1, others.1))

header_are : AreFields (header_fields (codes "MESSAGES"))
header_are = ((λ e. absurd (omega (arith, e))), (constant_field (codes "MESSAGES") (lit< tt) refl, (constant_field (codes "1") (lit< tt) refl, tt)))

-- the canonical text of items stands for them
pub messages_text_is : (items : List Item) → AllByRecursion IsItem items → IsMessagesText items (messages_text items)
messages_text_is items h =
    let k = lines_are 2 items h in
    subst (λ (es : List Entry). AreMessageLines items es) (sym (entries_of-spelled_lines (header_fields (codes "MESSAGES") ∷ map item_fields items) (header_are, k.1))) (refl, k.0)
