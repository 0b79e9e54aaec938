-- The canonical text is what is put, and stands for its cable and items.
use Rattle.std.proofs.Common.{arith, ◌≡◌, ℕ, ◌+◌, ◌<◌, ◌≤◌, ◌^◌, true, List, [], ◌∷◌, ◌++◌, length, map, refl, sym, ap, subst, ◌∙◌, codes, lit<, append_assoc, append-nil}
use Rattle.std.specs.Prelude.{decimal, nat_le}
use Rattle.std.specs.List.{flat_map, AllByRecursion}
use Rattle.std.specs.Int.{is_in_range as is_between}
use Rattle.std.proofs.lemmas.Bool.{and_parts}
use Rattle.std.proofs.lemmas.Bool.Decides.{nat_tests}
use Rattle.std.proofs.lemmas.List.Concat.{flat_map-append}
use Rattle.bus_text.specs.Canonical.{spelled_line, spelled_lines}
use Rattle.bus_text.specs.inside.Spelled.{IsField, AreFields, numbered}
use Rattle.bus_text.proofs.CanonicalLaws.{entries_of-spelled_lines, constant_field, spelled_line-cons}
use Rattle.bus_text.specs.Headers.{header_fields}
use Rattle.bus_text.specs.Lines.{Entry}
use Rattle.bus_text.proofs.NumberLaws.{decimal_is, decimal_field}
use Rattle.bus_strings.specs.Items.{Item, IsItem}
use Rattle.bus_strings.specs.Canonical.{item_fields}
use Rattle.bus_strings.proofs.CanonicalLemmas.{lines_are}
use Rattle.bus_cable.specs.declared.cable.Named.{Named}
use Rattle.bus_cable.specs.Cables.{Cable, most_wake, may_name, may_name_all, is_cable}
use Rattle.bus_propagation.specs.Numbered.{most_place}
use Rattle.bus_cable.specs.Grammar.{AreNamedLines, AreCableLines, IsCableText}
use Rattle.bus_cable.specs.Canonical.{named_fields, cable_text}
use Rattle.bus_cable.specs.inside.Puts.{named_bytes}

-- ---- what is put
named_put : (word : List ℕ) (named : Named) → named_bytes word named ≡ spelled_line (named_fields word named)
named_put word named =
    let d = decimal named.terminal in
    let e = decimal named.bits in
    ap (λ (b : List ℕ). b ++ codes " " ++ e ++ codes "\n") (append_assoc word (codes " ") d)
    ∙ ap (λ (b : List ℕ). b ++ codes "\n") (append_assoc (word ++ (32 ∷ d)) (codes " ") e ∙ append_assoc word (32 ∷ d) (32 ∷ e) ∙ ap (λ (b : List ℕ). word ++ ((32 ∷ d) ++ b)) (sym (append-nil (32 ∷ e))))
    ∙ sym (spelled_line-cons word (d ∷ e ∷ []))

all_put : (word : List ℕ) (named : List Named) → flat_map (named_bytes word) named ≡ spelled_lines (map (named_fields word) named)
all_put word [] = refl
all_put word (one ∷ others) = ap (λ bytes. bytes ++ flat_map (named_bytes word) others) (named_put word one) ∙ ap (λ bytes. spelled_line (named_fields word one) ++ bytes) (all_put word others)

pub cable_put : (cable : Cable) (items : List Item)
    → codes "CABLE 1\n" ++ flat_map (named_bytes (codes "PLACE")) cable.places ++ flat_map (named_bytes (codes "WAKE")) cable.wakes ++ spelled_lines (map item_fields items) ≡ cable_text cable items
cable_put cable items =
    let places = map (named_fields (codes "PLACE")) cable.places in
    let wakes = map (named_fields (codes "WAKE")) cable.wakes in
    let lines = map item_fields items in
    ap (λ (b : List ℕ). codes "CABLE 1\n" ++ b ++ flat_map (named_bytes (codes "WAKE")) cable.wakes ++ spelled_lines lines) (all_put (codes "PLACE") cable.places)
    ∙ ap (λ (b : List ℕ). codes "CABLE 1\n" ++ spelled_lines places ++ b ++ spelled_lines lines) (all_put (codes "WAKE") cable.wakes)
    ∙ append_assoc (codes "CABLE 1\n" ++ spelled_lines places) (spelled_lines wakes) (spelled_lines lines)
    ∙ append_assoc (codes "CABLE 1\n") (spelled_lines places) (spelled_lines wakes ++ spelled_lines lines)
    ∙ ap (λ (b : List ℕ). codes "CABLE 1\n" ++ (spelled_lines places ++ b)) (sym (flat_map-append spelled_line wakes lines))
    ∙ ap (λ (b : List ℕ). codes "CABLE 1\n" ++ b) (sym (flat_map-append spelled_line places (wakes ++ lines)))

-- ---- what it stands for
numbered_append : (n : ℕ) (xs ys : List (List (List ℕ))) → numbered n (xs ++ ys) ≡ numbered n xs ++ numbered (n + length xs) ys
numbered_append n [] ys = ap (λ k. numbered k ys) (let e : n ≡ n + 0 = omega arith in e)
numbered_append n (x ∷ xs) ys =
    ap (λ (es : List Entry). record { number = n; fields = x } ∷ es)
    (numbered_append (n + 1) xs ys ∙ ap (λ k. numbered (n + 1) xs ++ numbered k ys) (let e : n + 1 + length xs ≡ n + length (x ∷ xs) = omega arith in e))

fields_append : (xs ys : List (List (List ℕ))) → AllByRecursion AreFields xs → AllByRecursion AreFields ys → AllByRecursion AreFields (xs ++ ys)
fields_append [] ys h k = k
fields_append (x ∷ xs) ys h k = (h.0, fields_append xs ys h.1 k)

-- a keyword, as it stands at the front of a line
abbrev IsKeyword : List ℕ → Type 0
IsKeyword word = (fields : List (List ℕ)) → AllByRecursion IsField fields → AreFields (word ∷ fields)

place_word : IsKeyword (codes "PLACE")
place_word fields h = ((λ e. absurd (omega (arith, e))), (constant_field (codes "PLACE") (lit< tt) refl, h))

wake_word : IsKeyword (codes "WAKE")
wake_word fields h = ((λ e. absurd (omega (arith, e))), (constant_field (codes "WAKE") (lit< tt) refl, h))

small : (most last : ℕ) (named : Named) → most ≤ most_wake → may_name most last named ≡ true → (named.terminal < 2 ^ 64) × (named.bits < 2 ^ 64)
small most last named h m =
    let p = and_parts (is_between (last + 1) 128 named.terminal) (nat_le named.bits most) m in
    let low : named.terminal ≤ 128 = grind (arith, nat_tests, p.0) in
    let few : named.bits ≤ most = grind (arith, nat_tests, p.1) in
    (omega (arith, low), omega (arith, few, h))

named_lines_are : (word : List ℕ) (most last n : ℕ) (named : List Named) → IsKeyword word → most ≤ most_wake → may_name_all most last named ≡ true
    → AreNamedLines word named (numbered n (map (named_fields word) named)) × AllByRecursion AreFields (map (named_fields word) named)
named_lines_are word most last n [] w h m = (tt, tt)
named_lines_are word most last n (one ∷ others) w h m =
    let p = and_parts (may_name most last one) _ m in
    let s = small most last one h p.0 in
    let k = named_lines_are word most one.terminal (n + 1) others w h p.1 in (
      (record { number = decimal one.terminal; bits = decimal one.bits; parts = refl; terminal = decimal_is one.terminal s.0; value = decimal_is one.bits s.1 }, k.0),
      (w (decimal one.terminal ∷ decimal one.bits ∷ []) (decimal_field one.terminal s.0, (decimal_field one.bits s.1, tt)), k.1),
    )

header_are : AreFields (header_fields (codes "CABLE"))
header_are = ((λ e. absurd (omega (arith, e))), (constant_field (codes "CABLE") (lit< tt) refl, (constant_field (codes "1") (lit< tt) refl, tt)))

-- the canonical text of a cable and items stands for them
pub cable_text_is : (cable : Cable) (items : List Item) → is_cable cable ≡ true → AllByRecursion IsItem items → IsCableText cable items (cable_text cable items)
cable_text_is cable items r h =
    let places = map (named_fields (codes "PLACE")) cable.places in
    let wakes = map (named_fields (codes "WAKE")) cable.wakes in
    let lines = map item_fields items in
    let ranges = and_parts (may_name_all most_place 0 cable.places) _ r in
    let p = named_lines_are (codes "PLACE") most_place 0 2 cable.places place_word (omega arith) ranges.0 in
    let w = named_lines_are (codes "WAKE") most_wake 0 (2 + length places) cable.wakes wake_word (omega arith) ranges.1 in
    let i = lines_are (2 + length places + length wakes) items h in
    let all : AllByRecursion AreFields (header_fields (codes "CABLE") ∷ places ++ (wakes ++ lines)) = (header_are, fields_append places (wakes ++ lines) p.1 (fields_append wakes lines w.1 i.1)) in
    subst (λ (es : List Entry). AreCableLines cable items es) (sym (entries_of-spelled_lines (header_fields (codes "CABLE") ∷ places ++ (wakes ++ lines)) all))
    (record {
      header = record { number = 1; fields = header_fields (codes "CABLE") };
      place_lines = numbered 2 places;
      wake_lines = numbered (2 + length places) wakes;
      item_lines = numbered (2 + length places + length wakes) lines;
      parts = ap (λ (es : List Entry). record { number = 1; fields = header_fields (codes "CABLE") } ∷ es)
          (numbered_append 2 places (wakes ++ lines) ∙ ap (λ (es : List Entry). numbered 2 places ++ es) (numbered_append (2 + length places) wakes lines));
      begins = refl;
      places_are = p.0;
      wakes_are = w.0;
      items_are = i.0;
      ranges = r;
    })
