-- The numbers of an item that was read are in their ranges.
use Rattle.std.specs.Prelude.{Ok, Err, not, ◌==◌, drop}
use Rattle.std.specs.Int.{is_in_range}
use Rattle.std.specs.Str.{bytes_eq}
use Rattle.std.proofs.Common.{◌≡◌, ℕ, ◌^◌, ◌<◌, ◌≤◌, Bool, true, false, cond, ◌&&◌, nat_lt, List, [], ◌∷◌, codes, length, Option, Some, None, arith, refl, subst}
use Rattle.std.proofs.lemmas.Bool.{and_parts}
use Rattle.bus_strings.specs.Limits.{most_terminal}
use Rattle.bus_text.specs.Refusals.{first_of, unless}
use Rattle.bus_trace.specs.States.{spaced_fields, field, is_number, number}
use Rattle.bus_trace.specs.WordFields.{have_parity}
use Rattle.bus_stream.specs.declared.item.Item.{Item}
use Rattle.bus_stream.specs.declared.item.Item.TheVariants.{Sent, Told, Lost}
use Rattle.bus_stream.specs.declared.reason.StreamReason.{StreamReason}
use Rattle.bus_stream.specs.declared.reason.StreamReason.TheVariants as reason
use Rattle.bus_stream.specs.Items.{are_words, fits, is_time, item_of, lost_in, message_of, most_time, sent_in, told_in}
use Rattle.bus_watch.specs.Standing.{IsItem}

-- A row of reasons that doesn't apply.
passes : {A R : Type 0} (b : Bool) (r : R) (rows : List (Bool × R)) (v x : A) → unless (first_of ((b, r) ∷ rows)) v ≡ Ok x
    → (b ≡ false) × (unless (first_of rows) v ≡ Ok x)
passes true r rows v x h = absurd (grind (arith, h))
passes false r rows v x h = (refl, h)

is_value : {A R : Type 0} (reason : Option R) (v x : A) → reason ≡ None → unless reason v ≡ Ok x → v ≡ x
is_value None v x none h = grind (arith, h)
is_value (Some r) v x none h = absurd (grind (arith, h))

not_false : (b : Bool) → not b ≡ false → b ≡ true
not_false true h = refl
not_false false h = absurd (grind (arith, h))

low_time : (n : ℕ) → is_in_range 0 most_time n ≡ true → n < 2 ^ 64
low_time n h = grind (arith, h)

in_range : (least most n : ℕ) → is_in_range least most n ≡ true → (least ≤ n) × (n ≤ most)
in_range least most n h = (grind (arith, h), grind (arith, h))

sent_item : (fields : List (List ℕ)) (item : Item) → sent_in fields ≡ Ok item → IsItem item
sent_item fields item h =
    let value : Item = Sent (number fields 1) (number fields 2) (message_of (drop 3 fields)) in
    let in_reach : Bool = is_in_range 1 most_terminal (number fields 2) && fits (message_of (drop 3 fields)) in
    let few : Bool = nat_lt (length fields) 4 in
    let spelled : Bool = not (is_number fields 1 && (is_number fields 2 && are_words (drop 3 fields))) in
    let parity : Bool = not (have_parity (drop 3 fields)) in
    let range : Bool = not (is_time fields 1 && in_reach) in
    let last : List (Bool × StreamReason) = (range, reason.Range) ∷ [] in
    let third : List (Bool × StreamReason) = (parity, reason.Parity) ∷ last in
    let second : List (Bool × StreamReason) = (spelled, reason.Spelling) ∷ third in
    let a = passes few reason.Fields second value item h in
    let b = passes spelled reason.Spelling third value item a.1 in
    let c = passes parity reason.Parity last value item b.1 in
    let d = passes range reason.Range [] value item c.1 in
    let e = and_parts (is_time fields 1) in_reach (not_false (is_time fields 1 && in_reach) d.0) in
    let t = (and_parts (is_in_range 1 most_terminal (number fields 2)) (fits (message_of (drop 3 fields))) e.1).0 in
    let f = in_range 1 most_terminal (number fields 2) t in
    subst IsItem (is_value None value item refl d.1) (f.0, f.1, low_time (number fields 1) e.0)

told_item : (fields : List (List ℕ)) (item : Item) → told_in fields ≡ Ok item → IsItem item
told_item fields item h =
    let value : Item = Told (number fields 1) in
    let many : Bool = not (length fields == 2) in
    let spelled : Bool = not (is_number fields 1) in
    let range : Bool = not (is_time fields 1) in
    let last : List (Bool × StreamReason) = (range, reason.Range) ∷ [] in
    let second : List (Bool × StreamReason) = (spelled, reason.Spelling) ∷ last in
    let a = passes many reason.Fields second value item h in
    let b = passes spelled reason.Spelling last value item a.1 in
    let c = passes range reason.Range [] value item b.1 in
    subst IsItem (is_value None value item refl c.1) (low_time (number fields 1) (not_false (is_time fields 1) c.0))

lost_item : (fields : List (List ℕ)) (item : Item) → lost_in fields ≡ Ok item → IsItem item
lost_item fields item h =
    let value : Item = Lost (number fields 1) (number fields 2) in
    let many : Bool = not (length fields == 4) in
    let spelled : Bool = not (is_number fields 1 && (is_number fields 2 && nat_lt 0 (length (field fields 3)))) in
    let range : Bool = not (is_time fields 1 && is_time fields 2) in
    let order : Bool = nat_lt (number fields 2) (number fields 1) in
    let last : List (Bool × StreamReason) = (order, reason.Order) ∷ [] in
    let third : List (Bool × StreamReason) = (range, reason.Range) ∷ last in
    let second : List (Bool × StreamReason) = (spelled, reason.Spelling) ∷ third in
    let a = passes many reason.Fields second value item h in
    let b = passes spelled reason.Spelling third value item a.1 in
    let c = passes range reason.Range last value item b.1 in
    let d = passes order reason.Order [] value item c.1 in
    let e = and_parts (is_time fields 1) (is_time fields 2) (not_false (is_time fields 1 && is_time fields 2) c.0) in
    subst IsItem (is_value None value item refl d.1) (low_time (number fields 1) e.0, low_time (number fields 2) e.1)

by_keyword : (sent told lost : Bool) (fields : List (List ℕ)) (item : Item)
    → cond sent (sent_in fields) (cond told (told_in fields) (cond lost (lost_in fields) (Err reason.Keyword))) ≡ Ok item → IsItem item
by_keyword true told lost fields item h = sent_item fields item h
by_keyword false true lost fields item h = told_item fields item h
by_keyword false false true fields item h = lost_item fields item h
by_keyword false false false fields item h = absurd (grind (arith, h))

pub item_fits : (line : List ℕ) (item : Item) → item_of line ≡ Ok item → IsItem item
item_fits line item h =
    let fields = spaced_fields line in
    by_keyword (bytes_eq (field fields 0) (codes "TX")) (bytes_eq (field fields 0) (codes "TIME")) (bytes_eq (field fields 0) (codes "GAP")) fields item h
