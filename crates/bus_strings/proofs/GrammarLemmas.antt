-- What is read is in the grammar, and what is in the grammar is read.
use Rattle.std.proofs.Common.{◌≡◌, ℕ, ◌≤◌, Bool, true, false, cond, ◌&&◌, ◌||◌, List, [], ◌∷◌, ◌++◌, length, map, drop, Result, Ok, Err, arith, refl, sym, ap, subst, ◌∙◌, codes}
use Rattle.std.specs.Prelude.{IfOk}
use Rattle.std.specs.List.{slice_split, onto_first, AllByRecursion}
use Rattle.std.proofs.lemmas.Bool.{and_parts}
use Rattle.std.proofs.lemmas.List.Elements.{All-from_recursion}
use Rattle.std.proofs.lemmas.List.Splits.{slice_split_at, slice_split_none}
use Rattle.bus_text.specs.AllOf.{◌>>=◌, all_of}
use Rattle.bus_text.proofs.AllOfLaws.{bind_ok, length-all_of}
use Rattle.bus_text.specs.Gives.{Gives}
use Rattle.bus_text.specs.Headers.{behind_header, headed}
use Rattle.bus_text.proofs.HeaderLaws.{behind_found, behind_again}
use Rattle.bus_text.specs.Lines.{Entry, entries_of, line_after_of}
use Rattle.bus_text.proofs.LineLaws.{length-entries_of-le}
use Rattle.bus_text.specs.Fields.{is_at}
use Rattle.bus_text.specs.Numbers.{is_plain_decimal, is_hexadecimal, hexadecimal_value, IsHexadecimal}
use Rattle.bus_text.specs.Refusals.{at_line}
use Rattle.bus_text.specs.declared.error.TextError.{TextError}
use Rattle.bus_text.specs.declared.reason.Reason.{Reason}
use Rattle.bus_text.proofs.FieldLemmas.{same_bytes}
use Rattle.bus_strings.specs.Items.{Item, is_in_range}
use Rattle.bus_strings.specs.Reading.{is_colon, number_of, strings_of, item_of, are_spelled, item_reading, item_line, messages_reading}
use Rattle.bus_strings.specs.Grammar.{AreWords, AreStrings, IsItemLine, AreItemLines, AreMessageLines, IsMessagesText}
use Rattle.bus_strings.proofs.StringLemmas.{Begins, some_piece, values}
use Rattle.bus_strings.proofs.ItemLemmas.{reads, item_parts}

-- ---- found
one_colon : (field : List ℕ) (fields : List (List ℕ)) (first : List (List ℕ)) (others : List (List (List ℕ))) → field ≡ codes ":" → AreStrings (values (first ∷ others)) fields → AreStrings ([] ∷ values (first ∷ others)) (field ∷ fields)
one_colon field fields first others e h = ([], fields, ap (λ f. f ∷ fields) e, tt, h)

one_word : (field : List ℕ) (fields : List (List ℕ)) (first : List (List ℕ)) (others : List (List (List ℕ))) → IsHexadecimal 4 field (hexadecimal_value field) → AreStrings (values (first ∷ others)) fields → AreStrings (values ((field ∷ first) ∷ others)) (field ∷ fields)
one_word field fields first [] w h = (w, h)
one_word field fields first (next ∷ others) w h = (field ∷ h.0, h.1, ap (λ fs. field ∷ fs) h.2, (w, h.3), h.4)

string_step : (t : Bool) (field : List ℕ) (fields : List (List ℕ)) (pieces : List (List (List ℕ))) → is_colon field ≡ t → (t || is_hexadecimal 4 field) ≡ true → Begins pieces → AreStrings (values pieces) fields → AreStrings (values (cond t ([] ∷ pieces) (onto_first field pieces))) (field ∷ fields)
string_step true field fields pieces e w begins h = subst (λ (ps : List (List (List ℕ))). AreStrings ([] ∷ values ps) (field ∷ fields)) (sym begins.2) (one_colon field fields begins.0 begins.1 (same_bytes field (codes ":") e) (subst (λ (ps : List (List (List ℕ))). AreStrings (values ps) fields) begins.2 h))
string_step false field fields pieces e w begins h = subst (λ (ps : List (List (List ℕ))). AreStrings (values (onto_first field ps)) (field ∷ fields)) (sym begins.2) (one_word field fields begins.0 begins.1 (record { digits = w; value = refl }) (subst (λ (ps : List (List (List ℕ))). AreStrings (values ps) fields) begins.2 h))

strings_found : (fields : List (List ℕ)) → are_spelled fields ≡ true → AreStrings (strings_of fields) fields
strings_found [] h = tt
strings_found (field ∷ fields) h =
    let parts = and_parts (is_colon field || is_hexadecimal 4 field) _ h in
    string_step (is_colon field) field fields (slice_split is_colon fields) refl parts.0 (some_piece fields) (strings_found fields parts.1)

line_found : (fields : List (List ℕ)) → is_at fields 0 (codes "MSG") ≡ true → is_at fields 2 (codes ":") ≡ true → (is_plain_decimal (number_of fields) && are_spelled (drop 3 fields)) ≡ true → is_in_range (item_of fields) ≡ true → IsItemLine (item_of fields) fields
line_found [] p q r s = absurd cc
line_found (keyword ∷ []) p q r s = absurd cc
line_found (keyword ∷ number ∷ []) p q r s = absurd cc
line_found (keyword ∷ number ∷ colon ∷ words) p q r s =
    let parts = and_parts (is_plain_decimal number) _ r in
    record {
      number = number;
      words = words;
      parts = ap (λ f. f ∷ number ∷ colon ∷ words) (same_bytes keyword (codes "MSG") p) ∙ ap (λ f. codes "MSG" ∷ number ∷ f ∷ words) (same_bytes colon (codes ":") q);
      terminal = record { plain = parts.0; value = refl };
      strings = strings_found words parts.1;
      ranges = s;
    }

item_found : (fields : List (List ℕ)) (item : Item) → item_reading fields ≡ Ok item → IsItemLine item fields
item_found fields item h = let k = item_parts fields item h in subst (λ (i : Item). IsItemLine i fields) k.4 (line_found fields k.0 k.1 k.2 k.3)

pub line_ok : {A : Type 0} (line : ℕ) (r : Result A Reason) (x : A) → at_line line r ≡ Ok x → r ≡ Ok x
line_ok line (Ok y) x h = ap Ok cc
line_ok line (Err e) x h = absurd cc

pub items_found : (entries : List Entry) (items : List Item) → all_of item_line entries ≡ Ok items → AreItemLines items entries
items_found [] items h = let none : List Item = [] in let e : none ≡ items = cc in subst (λ (is : List Item). AreItemLines is []) e tt
items_found (entry ∷ entries) items h =
    let a = bind_ok (item_line entry) (λ y. all_of item_line entries >>= λ ys. Ok (y ∷ ys)) items h in
    let b = bind_ok (all_of item_line entries) (λ ys. Ok (a.0 ∷ ys)) items a.2 in
    let e : a.0 ∷ b.0 ≡ items = let k = b.2 in cc in
    subst (λ (is : List Item). AreItemLines is (entry ∷ entries)) e (item_found entry.fields a.0 (line_ok entry.number (item_reading entry.fields) a.0 a.1), items_found entries b.0 b.1)

text_found : (text : List ℕ) (items : List Item) → messages_reading text ≡ Ok items → IsMessagesText items text
text_found text items h =
    let a = bind_ok (headed (codes "MESSAGES") text) (all_of item_line) items h in
    let f = behind_found (codes "MESSAGES") (entries_of text) (line_after_of text) a.0 a.1 in
    subst (AreMessageLines items) (sym f.1) (f.2, items_found a.0 items a.2)

pub is_found : (text : List ℕ) (r : Result (List Item) (TextError Reason)) → Gives (λ v. v) r (messages_reading text) → IfOk r (λ items. IsMessagesText items text)
is_found text (Ok items) h = text_found text items h
is_found text (Err e) h = tt

few_lines : (text : List ℕ) (items : List Item) → messages_reading text ≡ Ok items → length items ≤ length text
few_lines text items h =
    let a = bind_ok (headed (codes "MESSAGES") text) (all_of item_line) items h in
    let f = behind_found (codes "MESSAGES") (entries_of text) (line_after_of text) a.0 a.1 in
    omega (arith, length-all_of item_line a.0 items a.2, ap length f.1, length-entries_of-le text)

pub is_few : (text : List ℕ) (r : Result (List Item) (TextError Reason)) → Gives (λ v. v) r (messages_reading text) → IfOk r (λ items. length items ≤ length text)
is_few text (Ok items) h = few_lines text items h
is_few text (Err e) h = tt

-- ---- and again
words_again : (string : List ℕ) (fields : List (List ℕ)) → AreWords string fields → (are_spelled fields ≡ true) × (map hexadecimal_value fields ≡ string) × AllByRecursion (λ field. is_colon field ≡ false) fields
words_again [] [] h = (refl, refl, tt)
words_again [] (field ∷ fields) h = absurd h
words_again (word ∷ words) [] h = absurd h
words_again (word ∷ words) (field ∷ fields) h =
    let k = words_again words fields h.1 in
    let c = not_colon (is_colon field) refl h.0.digits in (
      ap (λ b. (b || is_hexadecimal 4 field) && are_spelled fields) c ∙ ap (λ b. b && are_spelled fields) h.0.digits ∙ k.0,
      ap (λ w. w ∷ map hexadecimal_value fields) h.0.value ∙ ap (λ ws. word ∷ ws) k.1,
      (c, k.2),
    ) where
      not_colon : (t : Bool) → is_colon field ≡ t → is_hexadecimal 4 field ≡ true → is_colon field ≡ false
      not_colon true e h = let wrong : is_hexadecimal 4 (codes ":") ≡ true = subst (λ (f : List ℕ). is_hexadecimal 4 f ≡ true) (same_bytes field (codes ":") e) h in absurd cc
      not_colon false e h = e

spelled_both : (front rest : List (List ℕ)) → are_spelled front ≡ true → are_spelled rest ≡ true → are_spelled (front ++ codes ":" ∷ rest) ≡ true
spelled_both [] rest h k = k
spelled_both (field ∷ front) rest h k =
    let parts = and_parts (is_colon field || is_hexadecimal 4 field) _ h in
    ap (λ b. b && are_spelled (front ++ codes ":" ∷ rest)) parts.0 ∙ spelled_both front rest parts.1 k

strings_again : (strings : List (List ℕ)) (fields : List (List ℕ)) → AreStrings strings fields → (are_spelled fields ≡ true) × (strings_of fields ≡ strings)
strings_again [] fields h = absurd h
strings_again (string ∷ []) fields h =
    let w = words_again string fields h in
    (w.0, ap values (slice_split_none is_colon fields (All-from_recursion _ fields w.2)) ∙ ap (λ s. s ∷ []) w.1)
strings_again (string ∷ next ∷ strings) fields (front, rest, parts, h, others) =
    let w = words_again string front h in
    let k = strings_again (next ∷ strings) rest others in (
      ap are_spelled parts ∙ spelled_both front rest w.0 k.0,
      ap strings_of parts ∙ ap values (slice_split_at is_colon front (codes ":") rest (All-from_recursion _ front w.2) refl) ∙ ap (λ s. s ∷ strings_of rest) w.1 ∙ ap (λ ss. string ∷ ss) k.1,
    )

item_again : (item : Item) (fields : List (List ℕ)) → IsItemLine item fields → item_reading fields ≡ Ok item
item_again item fields line =
    let k = strings_again item.strings line.words line.strings in
    let whole = codes "MSG" ∷ line.number ∷ codes ":" ∷ line.words in
    let same : item_of whole ≡ item =
    ap (λ (n : ℕ). record { terminal = n; strings = strings_of line.words }) line.terminal.value
    ∙ ap (λ (ss : List (List ℕ)). record { terminal = item.terminal; strings = ss }) k.1 in
    let spelled : (is_plain_decimal (number_of whole) && are_spelled (drop 3 whole)) ≡ true = ap (λ b. b && are_spelled line.words) line.terminal.plain ∙ k.0 in
    ap item_reading line.parts ∙ reads whole true true true true refl refl spelled (ap is_in_range same ∙ line.ranges) ∙ ap Ok same

pub items_again : (items : List Item) (entries : List Entry) → AreItemLines items entries → all_of item_line entries ≡ Ok items
items_again [] [] h = refl
items_again [] (entry ∷ entries) h = absurd h
items_again (item ∷ items) [] h = absurd h
items_again (item ∷ items) (entry ∷ entries) h =
    ap (λ r. at_line entry.number r >>= λ y. all_of item_line entries >>= λ ys. Ok (y ∷ ys)) (item_again item entry.fields h.0)
    ∙ ap (λ r. r >>= λ ys. Ok (item ∷ ys)) (items_again items entries h.1)

pub messages_again : (items : List Item) (text : List ℕ) → IsMessagesText items text → messages_reading text ≡ Ok items
messages_again items text h = by_lines (entries_of text) (line_after_of text) h where
  by_lines : (entries : List Entry) (after : ℕ) → AreMessageLines items entries → (behind_header (codes "MESSAGES") entries after >>= all_of item_line) ≡ Ok items
  by_lines [] after h = absurd h
  by_lines (first ∷ others) after h = ap (λ r. r >>= all_of item_line) (behind_again (codes "MESSAGES") first others after h.0) ∙ items_again items others h.1
