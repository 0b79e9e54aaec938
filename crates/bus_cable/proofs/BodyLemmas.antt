-- What is read is in the grammar, and what is in the grammar is read.
use Rattle.std.proofs.Common.{arith, ◌≡◌, ℕ, ◌≤◌, Bool, true, false, cond, ◌&&◌, ◌==◌, List, [], ◌∷◌, ◌++◌, length, Option, Some, None, Result, Ok, Err, refl, sym, ap, subst, ◌∙◌, codes}
use Rattle.std.specs.Prelude.{IfOk}
use Rattle.std.specs.Iterator.{YieldsFirstBy}
use Rattle.std.specs.Str.{bytes_eq}
use Rattle.std.proofs.lemmas.Bool.{and_parts, eqb-true}
use Rattle.bus_text.specs.AllOf.{◌>>=◌, all_of}
use Rattle.bus_text.proofs.AllOfLaws.{bind_ok, length-all_of}
use Rattle.bus_text.specs.Entries.{entry as line_entry}
use Rattle.bus_text.specs.Headers.{header_fields, behind_header, headed}
use Rattle.bus_text.proofs.HeaderLaws.{behind_found, behind_again}
use Rattle.bus_text.specs.Lines.{Entry, entries_of, line_after_of}
use Rattle.bus_text.proofs.LineLaws.{length-entries_of-le}
use Rattle.bus_text.specs.Fields.{is_at}
use Rattle.bus_text.specs.Numbers.{is_plain_decimal, decimal_value}
use Rattle.bus_text.specs.Refusals.{Refusal, at_line}
use Rattle.bus_text.specs.declared.cursor.Line.{Line}
use Rattle.bus_text.specs.declared.reason.Reason.{Reason}
use Rattle.bus_text.proofs.FieldLemmas.{same_bytes}
use Rattle.bus_strings.specs.Items.{Item}
use Rattle.bus_strings.specs.Reading.{number_of, item_line}
use Rattle.bus_strings.specs.Grammar.{AreItemLines}
use Rattle.bus_strings.proofs.GrammarLemmas.{line_ok, items_found, items_again}
use Rattle.bus_cable.specs.declared.cable.Named.{Named}
use Rattle.bus_text.specs.declared.error.TextError.{TextError}
use Rattle.bus_text.specs.declared.error.TextError.TheVariants.{Text, Memory}
use Rattle.bus_cable.specs.Cables.{Cable, most_wake, may_name, may_name_all, is_cable}
use Rattle.bus_propagation.specs.Numbered.{most_place}
use Rattle.bus_cable.specs.Grammar.{IsNamedLine, AreNamedLines, AreCableLines, IsCableText}
use Rattle.bus_cable.specs.Reading.{bits_field, named_of, named_reading, begins_with, front_of, behind, named_lines, body_reading, cable_reading}
use Rattle.bus_text.specs.Gives.{Fails, Gives, Refuses}
use Rattle.bus_cable.specs.inside.Ahead.{ahead}
use Rattle.bus_cable.proofs.FieldLemmas.{staged, reads}
use Rattle.bus_cable.proofs.BlockLemmas.{front_more, front_none, behind_more, behind_none}

-- ---- the lines ahead
pub ahead_is : (old new : List Entry) (next : Option Line) → YieldsFirstBy line_entry (λ (s : List Entry). s) old next new → ahead next new ≡ old
ahead_is old new None h = sym h.0
ahead_is old new (Some line) h = sym h

-- ---- the body, step by step
abbrev places_of : List Entry → Result (List Named) Refusal
places_of entries = named_lines most_place 0 (front_of (codes "PLACE") entries)

abbrev wakes_of : List Entry → Result (List Named) Refusal
wakes_of entries = named_lines most_wake 0 (front_of (codes "WAKE") (behind (codes "PLACE") entries))

abbrev items_of : List Entry → Result (List Item) Refusal
items_of entries = all_of item_line (behind (codes "WAKE") (behind (codes "PLACE") entries))

abbrev whole : Result (List Named) Refusal → Result (List Named) Refusal → Result (List Item) Refusal → Result (Cable × List Item) Refusal
whole p w i = p >>= λ places. w >>= λ wakes. i >>= λ items. Ok (record { places = places; wakes = wakes }, items)

body_is : (entries : List Entry) → body_reading entries ≡ whole (places_of entries) (wakes_of entries) (items_of entries)
unfolding body_reading
body_is entries = refl

whole_places : (error : TextError Reason) (p w : Result (List Named) Refusal) (i : Result (List Item) Refusal) → Fails error p → Fails error (whole p w i)
whole_places Memory p w i h = tt
whole_places (Text line reason) p w i h = ap (λ r. whole r w i) h

whole_wakes : (error : TextError Reason) (p w : Result (List Named) Refusal) (i : Result (List Item) Refusal) (places : List Named) → p ≡ Ok places → Fails error w → Fails error (whole p w i)
whole_wakes Memory p w i places e h = tt
whole_wakes (Text line reason) p w i places e h = ap (λ r. whole r w i) e ∙ ap (λ r. whole (Ok places) r i) h

whole_items : (error : TextError Reason) (p w : Result (List Named) Refusal) (i : Result (List Item) Refusal) (places wakes : List Named) → p ≡ Ok places → w ≡ Ok wakes → Fails error i → Fails error (whole p w i)
whole_items Memory p w i places wakes e f h = tt
whole_items (Text line reason) p w i places wakes e f h = ap (λ r. whole r w i) e ∙ ap (λ r. whole (Ok places) r i) f ∙ ap (λ r. whole (Ok places) (Ok wakes) r) h

pub places_fail : (error : TextError Reason) (entries : List Entry) → Fails error (places_of entries) → Fails error (body_reading entries)
places_fail error entries h = subst (λ r. Fails error r) (sym (body_is entries)) (whole_places error (places_of entries) (wakes_of entries) (items_of entries) h)

pub wakes_fail : (error : TextError Reason) (entries : List Entry) (places : List Named) → places_of entries ≡ Ok places → Fails error (wakes_of entries) → Fails error (body_reading entries)
wakes_fail error entries places e h = subst (λ r. Fails error r) (sym (body_is entries)) (whole_wakes error (places_of entries) (wakes_of entries) (items_of entries) places e h)

pub items_fail : (error : TextError Reason) (entries : List Entry) (places wakes : List Named) → places_of entries ≡ Ok places → wakes_of entries ≡ Ok wakes → Fails error (items_of entries) → Fails error (body_reading entries)
items_fail error entries places wakes e f h = subst (λ r. Fails error r) (sym (body_is entries)) (whole_items error (places_of entries) (wakes_of entries) (items_of entries) places wakes e f h)

pub body_read : (entries : List Entry) (places wakes : List Named) (items : List Item) → places_of entries ≡ Ok places → wakes_of entries ≡ Ok wakes → items_of entries ≡ Ok items
    → body_reading entries ≡ Ok (record { places = places; wakes = wakes }, items)
body_read entries places wakes items e f g =
    body_is entries ∙ ap (λ r. whole r (wakes_of entries) (items_of entries)) e ∙ ap (λ r. whole (Ok places) r (items_of entries)) f ∙ ap (λ r. whole (Ok places) (Ok wakes) r) g

-- ---- ranges of what is read
staged_ok : (a b c : Bool) (v named : Named) → staged a b c v ≡ Ok named → (a ≡ true) × (b ≡ true) × (c ≡ true) × (v ≡ named)
staged_ok true true true v named h = (refl, refl, refl, cc)
staged_ok true true false v named h = absurd cc
staged_ok true false c v named h = absurd cc
staged_ok false b c v named h = absurd cc

parts_of : (most last : ℕ) (fields : List (List ℕ)) (named : Named) → named_reading most last fields ≡ Ok named
    → ((length fields == 3) ≡ true) × ((is_plain_decimal (number_of fields) && is_plain_decimal (bits_field fields)) ≡ true) × (may_name most last (named_of fields) ≡ true) × (named_of fields ≡ named)
parts_of most last fields named h =
    staged_ok (length fields == 3) (is_plain_decimal (number_of fields) && is_plain_decimal (bits_field fields)) (may_name most last (named_of fields)) (named_of fields) named
    (sym (reads most last fields _ _ _ refl refl refl) ∙ h)

pub named_ranges : (most last : ℕ) (entries : List Entry) (named : List Named) → named_lines most last entries ≡ Ok named → may_name_all most last named ≡ true
named_ranges most last [] named h = let none : List Named = [] in let e : none ≡ named = cc in subst (λ (ns : List Named). may_name_all most last ns ≡ true) e refl
named_ranges most last (entry ∷ entries) named h =
    let a = bind_ok (at_line entry.number (named_reading most last entry.fields)) (λ n. named_lines most n.terminal entries >>= λ others. Ok (n ∷ others)) named h in
    let b = bind_ok (named_lines most a.0.terminal entries) (λ others. Ok (a.0 ∷ others)) named a.2 in
    let e : a.0 ∷ b.0 ≡ named = let k = b.2 in cc in
    let p = parts_of most last entry.fields a.0 (line_ok entry.number (named_reading most last entry.fields) a.0 a.1) in
    let first : may_name most last a.0 ≡ true = ap (may_name most last) (sym p.3) ∙ p.2 in
    subst (λ (ns : List Named). may_name_all most last ns ≡ true) e
    (ap (λ t. t && may_name_all most a.0.terminal b.0) first ∙ named_ranges most a.0.terminal entries b.0 b.1)

pub cable_ranges : (entries : List Entry) (places wakes : List Named) → places_of entries ≡ Ok places → wakes_of entries ≡ Ok wakes → is_cable (record { places = places; wakes = wakes }) ≡ true
cable_ranges entries places wakes e f =
    ap (λ t. t && may_name_all most_wake 0 wakes) (named_ranges most_place 0 (front_of (codes "PLACE") entries) places e) ∙ named_ranges most_wake 0 _ wakes f

-- ---- found
word_first : (word : List ℕ) (fields : List (List ℕ)) (named : Named) → is_at fields 0 word ≡ true → (length fields == 3) ≡ true
    → (is_plain_decimal (number_of fields) && is_plain_decimal (bits_field fields)) ≡ true → named_of fields ≡ named → IsNamedLine word named fields
word_first word [] named p n q e = absurd (omega (arith, eqb-true 0 3 n))
word_first word (a ∷ []) named p n q e = absurd (omega (arith, eqb-true 1 3 n))
word_first word (a ∷ b ∷ []) named p n q e = absurd (omega (arith, eqb-true 2 3 n))
word_first word (a ∷ b ∷ c ∷ []) named p n q e =
    let k = and_parts (is_plain_decimal b) (is_plain_decimal c) q in
    record {
      number = b;
      bits = c;
      parts = ap (λ f. f ∷ b ∷ c ∷ []) (same_bytes a word p);
      terminal = record { plain = k.0; value = ap (λ (n : Named). n.terminal) e };
      value = record { plain = k.1; value = ap (λ (n : Named). n.bits) e };
    }
word_first word (a ∷ b ∷ c ∷ d ∷ more) named p n q e = absurd (omega (arith, eqb-true (length (a ∷ b ∷ c ∷ d ∷ more)) 3 n))

abbrev Begin : List ℕ → List Entry → Type 0
Begin word [] = Unit {0}
Begin word (entry ∷ entries) = (begins_with word entry ≡ true) × Begin word entries

front_begins : (word : List ℕ) (entries : List Entry) → Begin word (front_of word entries)
front_begins word [] = tt
front_begins word (line ∷ entries) = by_test (begins_with word line) refl (front_begins word entries) where
  by_test : (t : Bool) → begins_with word line ≡ t → Begin word (front_of word entries) → Begin word (cond t (line ∷ front_of word entries) [])
  by_test true e h = (e, h)
  by_test false e h = tt

named_found : (word : List ℕ) (most last : ℕ) (entries : List Entry) (named : List Named) → Begin word entries → named_lines most last entries ≡ Ok named → AreNamedLines word named entries
named_found word most last [] named w h = let none : List Named = [] in let e : none ≡ named = cc in subst (λ (ns : List Named). AreNamedLines word ns []) e tt
named_found word most last (entry ∷ entries) named w h =
    let a = bind_ok (at_line entry.number (named_reading most last entry.fields)) (λ n. named_lines most n.terminal entries >>= λ others. Ok (n ∷ others)) named h in
    let b = bind_ok (named_lines most a.0.terminal entries) (λ others. Ok (a.0 ∷ others)) named a.2 in
    let e : a.0 ∷ b.0 ≡ named = let k = b.2 in cc in
    let p = parts_of most last entry.fields a.0 (line_ok entry.number (named_reading most last entry.fields) a.0 a.1) in
    subst (λ (ns : List Named). AreNamedLines word ns (entry ∷ entries)) e (word_first word entry.fields a.0 w.0 p.0 p.1 p.3, named_found word most a.0.terminal entries b.0 w.1 b.1)

split_at : (word : List ℕ) (entries : List Entry) → entries ≡ front_of word entries ++ behind word entries
split_at word [] = refl
split_at word (line ∷ entries) = by_test (begins_with word line) (split_at word entries) where
  by_test : (t : Bool) → entries ≡ front_of word entries ++ behind word entries → line ∷ entries ≡ cond t (line ∷ front_of word entries) [] ++ cond t (behind word entries) (line ∷ entries)
  by_test true h = ap (λ es. line ∷ es) h
  by_test false h = refl

abbrev pair_is : Cable × List Item → List Entry → Type 0
pair_is read entries = AreCableLines read.0 read.1 entries

body_found : (header : Entry) (others : List Entry) (read : Cable × List Item) → header.fields ≡ header_fields (codes "CABLE") → body_reading others ≡ Ok read → AreCableLines read.0 read.1 (header ∷ others)
body_found header others read e h =
    let all : whole (places_of others) (wakes_of others) (items_of others) ≡ Ok read = sym (body_is others) ∙ h in
    let a = bind_ok (places_of others) (λ places. wakes_of others >>= λ wakes. items_of others >>= λ items. Ok (record { places = places; wakes = wakes }, items)) read all in
    let b = bind_ok (wakes_of others) (λ wakes. items_of others >>= λ items. Ok (record { places = a.0; wakes = wakes }, items)) read a.2 in
    let i = bind_ok (items_of others) (λ items. Ok (record { places = a.0; wakes = b.0 }, items)) read b.2 in
    let cable : Cable = record { places = a.0; wakes = b.0 } in
    let same : (cable, i.0) ≡ read = (let k : Ok (cable, i.0) ≡ Ok read = i.2 in cc) in
    subst (λ (r : Cable × List Item). pair_is r (header ∷ others)) same
    (record {
      header = header;
      place_lines = front_of (codes "PLACE") others;
      wake_lines = front_of (codes "WAKE") (behind (codes "PLACE") others);
      item_lines = behind (codes "WAKE") (behind (codes "PLACE") others);
      parts = ap (λ es. header ∷ es)
          (split_at (codes "PLACE") others ∙ ap (λ es. front_of (codes "PLACE") others ++ es) (split_at (codes "WAKE") (behind (codes "PLACE") others)));
      begins = e;
      places_are = named_found (codes "PLACE") most_place 0 _ a.0 (front_begins (codes "PLACE") others) a.1;
      wakes_are = named_found (codes "WAKE") most_wake 0 _ b.0 (front_begins (codes "WAKE") (behind (codes "PLACE") others)) b.1;
      items_are = items_found (behind (codes "WAKE") (behind (codes "PLACE") others)) i.0 i.1;
      ranges = cable_ranges others a.0 b.0 a.1 b.1;
    })

text_found : (text : List ℕ) (read : Cable × List Item) → cable_reading text ≡ Ok read → IsCableText read.0 read.1 text
text_found text read h =
    let a = bind_ok (headed (codes "CABLE") text) body_reading read h in
    let f = behind_found (codes "CABLE") (entries_of text) (line_after_of text) a.0 a.1 in
    subst (AreCableLines read.0 read.1) (sym f.1) (body_found f.0 a.0 read f.2 a.2)

pub is_found : (text : List ℕ) (r : Result (Cable × List Item) (TextError Reason)) → Gives (λ v. v) r (cable_reading text) → IfOk r (λ read. IsCableText read.0 read.1 text)
is_found text (Ok read) h = text_found text read h
is_found text (Err e) h = tt

behind_few : (word : List ℕ) (entries : List Entry) → length (behind word entries) ≤ length entries
behind_few word [] = omega arith
behind_few word (entry ∷ entries) = by_test (begins_with word entry) (behind_few word entries) where
  by_test : (t : Bool) → length (behind word entries) ≤ length entries → length (cond t (behind word entries) (entry ∷ entries)) ≤ length (entry ∷ entries)
  by_test true h = omega (arith, h)
  by_test false h = omega arith

body_few : (others : List Entry) (read : Cable × List Item) → body_reading others ≡ Ok read → length read.1 ≤ length others
body_few others read h =
    let all : whole (places_of others) (wakes_of others) (items_of others) ≡ Ok read = sym (body_is others) ∙ h in
    let a = bind_ok (places_of others) (λ places. wakes_of others >>= λ wakes. items_of others >>= λ items. Ok (record { places = places; wakes = wakes }, items)) read all in
    let b = bind_ok (wakes_of others) (λ wakes. items_of others >>= λ items. Ok (record { places = a.0; wakes = wakes }, items)) read a.2 in
    let i = bind_ok (items_of others) (λ items. Ok (record { places = a.0; wakes = b.0 }, items)) read b.2 in
    let cable : Cable = record { places = a.0; wakes = b.0 } in
    let same : (cable, i.0) ≡ read = (let k : Ok (cable, i.0) ≡ Ok read = i.2 in cc) in
    let items : i.0 ≡ read.1 = ap (λ (r : Cable × List Item). r.1) same in
    let as_many : length i.0 ≡ length (behind (codes "WAKE") (behind (codes "PLACE") others)) = length-all_of item_line _ i.0 i.1 in
    let one = behind_few (codes "WAKE") (behind (codes "PLACE") others) in
    let two = behind_few (codes "PLACE") others in
    subst (λ (is : List Item). length is ≤ length others) items (omega (arith, as_many, one, two))

few_lines : (text : List ℕ) (read : Cable × List Item) → cable_reading text ≡ Ok read → length read.1 ≤ length text
few_lines text read h =
    let a = bind_ok (headed (codes "CABLE") text) body_reading read h in
    let f = behind_found (codes "CABLE") (entries_of text) (line_after_of text) a.0 a.1 in
    omega (arith, body_few a.0 read a.2, ap length f.1, length-entries_of-le text)

pub is_few : (text : List ℕ) (r : Result (Cable × List Item) (TextError Reason)) → Gives (λ v. v) r (cable_reading text) → IfOk r (λ read. length read.1 ≤ length text)
is_few text (Ok read) h = few_lines text read h
is_few text (Err e) h = tt

-- ---- and again
-- no line is at hand, or one without this keyword
abbrev Others : List ℕ → List Entry → Type 0
Others word entries = (front_of word entries ≡ []) × (behind word entries ≡ entries)

others_by : (word : List ℕ) (entry : Entry) (entries : List Entry) → begins_with word entry ≡ false → Others word (entry ∷ entries)
others_by word entry entries h = (front_none word entry entries h, behind_none word entry entries h)

same_word : (word : List ℕ) (entry : Entry) (named : Named) → bytes_eq word word ≡ true → IsNamedLine word named entry.fields → begins_with word entry ≡ true
same_word word entry named h line = ap (λ fs. is_at fs 0 word) line.parts ∙ h

fronts : (word : List ℕ) (named : List Named) (lines rest : List Entry) → bytes_eq word word ≡ true → AreNamedLines word named lines → Others word rest
    → (front_of word (lines ++ rest) ≡ lines) × (behind word (lines ++ rest) ≡ rest)
fronts word [] [] rest w h o = o
fronts word [] (entry ∷ entries) rest w h o = absurd h
fronts word (one ∷ others) [] rest w h o = absurd h
fronts word (one ∷ others) (entry ∷ entries) rest w h o =
    let k = fronts word others entries rest w h.1 o in
    let first = same_word word entry one w h.0 in (
      front_more word entry (entries ++ rest) first ∙ ap (λ es. entry ∷ es) k.0,
      behind_more word entry (entries ++ rest) first ∙ k.1,
    )

items_others : (items : List Item) (lines : List Entry) → AreItemLines items lines → Others (codes "WAKE") lines × Others (codes "PLACE") lines
items_others [] [] h = ((refl, refl), (refl, refl))
items_others [] (entry ∷ entries) h = absurd h
items_others (item ∷ items) [] h = absurd h
items_others (item ∷ items) (entry ∷ entries) h = (
  others_by (codes "WAKE") entry entries (ap (λ fs. is_at fs 0 (codes "WAKE")) h.0.parts),
  others_by (codes "PLACE") entry entries (ap (λ fs. is_at fs 0 (codes "PLACE")) h.0.parts),
)

wakes_others : (wakes : List Named) (lines rest : List Entry) → AreNamedLines (codes "WAKE") wakes lines → Others (codes "PLACE") rest → Others (codes "PLACE") (lines ++ rest)
wakes_others [] [] rest h o = o
wakes_others [] (entry ∷ entries) rest h o = absurd h
wakes_others (one ∷ others) [] rest h o = absurd h
wakes_others (one ∷ others) (entry ∷ entries) rest h o = others_by (codes "PLACE") entry (entries ++ rest) (ap (λ fs. is_at fs 0 (codes "PLACE")) h.0.parts)

named_again_line : (word : List ℕ) (most last : ℕ) (named : Named) (fields : List (List ℕ)) → IsNamedLine word named fields → may_name most last named ≡ true → named_reading most last fields ≡ Ok named
named_again_line word most last named fields line m =
    let parts = word ∷ line.number ∷ line.bits ∷ [] in
    let same : named_of parts ≡ named =
    ap (λ (n : ℕ). record { terminal = n; bits = decimal_value line.bits }) line.terminal.value
    ∙ ap (λ (n : ℕ). record { terminal = named.terminal; bits = n }) line.value.value in
    ap (named_reading most last) line.parts
    ∙ reads most last parts true true true refl (ap (λ b. b && is_plain_decimal line.bits) line.terminal.plain ∙ line.value.plain) (ap (may_name most last) same ∙ m) ∙ ap Ok same

named_again : (word : List ℕ) (most last : ℕ) (named : List Named) (lines : List Entry) → AreNamedLines word named lines → may_name_all most last named ≡ true → named_lines most last lines ≡ Ok named
named_again word most last [] [] h m = refl
named_again word most last [] (entry ∷ entries) h m = absurd h
named_again word most last (one ∷ others) [] h m = absurd h
named_again word most last (one ∷ others) (entry ∷ entries) h m =
    let p = and_parts (may_name most last one) _ m in
    ap (λ r. at_line entry.number r >>= λ n. named_lines most n.terminal entries >>= λ ns. Ok (n ∷ ns)) (named_again_line word most last one entry.fields h.0 p.0)
    ∙ ap (λ r. r >>= λ ns. Ok (one ∷ ns)) (named_again word most one.terminal others entries h.1 p.1)

body_again : (cable : Cable) (items : List Item) (places wakes lines : List Entry) → AreNamedLines (codes "PLACE") cable.places places → AreNamedLines (codes "WAKE") cable.wakes wakes → AreItemLines items lines → is_cable cable ≡ true
    → body_reading (places ++ (wakes ++ lines)) ≡ Ok (cable, items)
body_again cable items places wakes lines p w i r =
    let ranges = and_parts (may_name_all most_place 0 cable.places) _ r in
    let o = items_others items lines i in
    let front_places = fronts (codes "PLACE") cable.places places (wakes ++ lines) refl p (wakes_others cable.wakes wakes lines w o.1) in
    let front_wakes = fronts (codes "WAKE") cable.wakes wakes lines refl w o.0 in
    body_read (places ++ (wakes ++ lines)) cable.places cable.wakes items
    (ap (named_lines most_place 0) front_places.0 ∙ named_again (codes "PLACE") most_place 0 cable.places places p ranges.0)
    (ap (λ es. named_lines most_wake 0 (front_of (codes "WAKE") es)) front_places.1 ∙ ap (named_lines most_wake 0) front_wakes.0 ∙ named_again (codes "WAKE") most_wake 0 cable.wakes wakes w ranges.1)
    (ap (λ es. all_of item_line (behind (codes "WAKE") es)) front_places.1 ∙ ap (all_of item_line) front_wakes.1 ∙ items_again items lines i)

pub cable_again : (cable : Cable) (items : List Item) (text : List ℕ) → IsCableText cable items text → cable_reading text ≡ Ok (cable, items)
cable_again cable items text h =
    ap (λ es. behind_header (codes "CABLE") es (line_after_of text) >>= body_reading) h.parts
    ∙ ap (λ r. r >>= body_reading) (behind_again (codes "CABLE") h.header (h.place_lines ++ (h.wake_lines ++ h.item_lines)) (line_after_of text) h.begins)
    ∙ body_again cable items h.place_lines h.wake_lines h.item_lines h.places_are h.wakes_are h.items_are h.ranges

-- ---- the text
pub header_fails : (error : TextError Reason) (text : List ℕ) → Refuses error (headed (codes "CABLE") text) → Fails error (cable_reading text)
header_fails Memory text h = tt
header_fails (Text line reason) text h = ap (λ r. r >>= body_reading) h

pub body_left : (text : List ℕ) (lines : List Entry) → headed (codes "CABLE") text ≡ Ok lines → cable_reading text ≡ body_reading lines
body_left text lines h = ap (λ r. r >>= body_reading) h
