-- There is an overlap somewhere exactly where a terminal is garbled somewhere.
use Rattle.std.proofs.Common.{◌≡◌, ℕ, zero, suc, ◌+◌, ◌<◌, ◌≤◌, Bool, true, false, cond, ◌&&◌, eqb, ltb, max, List, [], ◌∷◌, length, take, drop, Option, Some, None}
use Rattle.std.proofs.Common.{inl, inr, arith, sym, refl, ap, ◌∙◌}
use Rattle.std.specs.Prelude.{slice_get, remove, IsTrue}
use Rattle.std.specs.List.{AllByRecursion, count_by, filter, list_any, range_with_len}
use Rattle.std.specs.Option.{option_map_or}
use Rattle.std.proofs.lemmas.Bool.{and_parts, cases_Bool, eq-eqb, lt-ltb, ltb-true, true≢false}
use Rattle.std.proofs.lemmas.List.{length-append, take-append-drop}
use Rattle.std.proofs.lemmas.List.Elements.{filter-append}
use Rattle.std.proofs.lemmas.List.Sums.{length-filter}
use Rattle.std.proofs.lemmas.Option.{slice_get_within}
use Rattle.bus_timers.proofs.TestLemmas.{any_range}
use Rattle.bus_strings.specs.Members.{In}
use Rattle.bus_strings.proofs.MemberLaws.{of_each, at_in, in_append_cases, in_append_right, any_in, any_found}
use Rattle.bus_strings.specs.Messages.{Entry}
use Rattle.bus_strings.specs.OverlapLaws.{OverlapsMeet}
use Rattle.bus_strings.specs.Transmissions.{end_of, garbled, overlaps}
use Rattle.bus_table.specs.Tables.{Table}
use Rattle.bus_table.specs.Valid.{is_valid}
use Rattle.bus_trace.specs.Traces.{IsBelow, IsTrace, Recording}
use Rattle.bus_dump.specs.declared.dump.Dump.{Dump}
use Rattle.bus_dump.specs.Laws.{GarbledIsShown, OverlapIsShown, OverlapsGarble}
use Rattle.bus_dump.specs.Scenes.{scene_at}
use Rattle.bus_dump.specs.Seen.{Seen, holds, seen_at}
use Rattle.bus_dump.specs.Signals.{Bit, Garbled, is_of, value}
use Rattle.bus_dump.proofs.ClearLemmas.{both_overlap}
use Rattle.bus_dump.proofs.LaneLawLemmas.{lane_of}
use Rattle.bus_dump.proofs.LawLemmas.{garbled_seen, held_seen}
use Rattle.bus_dump.proofs.LiveLemmas.{absent, present, at_place, holds_true}

-- ---- from an overlap to a garbled terminal
record Held (t : ℕ) (list : List Entry) : Type 0 where
  place : ℕ
  entry : Entry
  at : slice_get list place ≡ Some entry
  held : holds t entry ≡ true

one_held : (t : ℕ) (list : List Entry) → 0 < length (filter (holds t) list) → Held t list
one_held t [] some = absurd (omega arith)
one_held t (x ∷ list) some = elim (cases_Bool (holds t x)) [
  | inl on ↦ record { place = 0; entry = x; at = refl; held = on }
  | inr off ↦
      let rest : length (filter (holds t) (x ∷ list)) ≡ length (filter (holds t) list) =
      ap (λ b. length (cond b (x ∷ filter (holds t) list) (filter (holds t) list))) off in
      let more = one_held t list (omega (arith, some, rest)) in
      record { place = suc more.place; entry = more.entry; at = more.at; held = more.held }
]

record TwoHeld (t : ℕ) (list : List Entry) : Type 0 where
  place : ℕ
  entry : Entry
  at : slice_get list place ≡ Some entry
  held : holds t entry ≡ true
  other : Entry
  behind : In other (drop (suc place) list)
  other_held : holds t other ≡ true

two_held : (t : ℕ) (list : List Entry) → 1 < length (filter (holds t) list) → TwoHeld t list
two_held t [] some = absurd (omega arith)
two_held t (x ∷ list) some = elim (cases_Bool (holds t x)) [
  | inl on ↦
      let rest : length (filter (holds t) (x ∷ list)) ≡ suc (length (filter (holds t) list)) =
      ap (λ b. length (cond b (x ∷ filter (holds t) list) (filter (holds t) list))) on in
      let more = one_held t list (omega (arith, some, rest)) in
      record {
        place = 0;
        entry = x;
        at = refl;
        held = on;
        other = more.entry;
        behind = at_in list more.place more.entry more.at;
        other_held = more.held;
      }
  | inr off ↦
      let rest : length (filter (holds t) (x ∷ list)) ≡ length (filter (holds t) list) =
      ap (λ b. length (cond b (x ∷ filter (holds t) list) (filter (holds t) list))) off in
      let more = two_held t list (omega (arith, some, rest)) in
      record {
        place = suc more.place;
        entry = more.entry;
        at = more.at;
        held = more.held;
        other = more.other;
        behind = more.behind;
        other_held = more.other_held;
      }
]

-- whether a garbled entry of terminal n is held
abbrev is_garbled : List Entry → ℕ → ℕ → ℕ → Bool
is_garbled list t n k = option_map_or (λ (x : Entry). holds t x && eqb x.terminal n && garbled list k) (slice_get list k) false

garbled_at : (list : List Entry) (t k : ℕ) (x : Entry) → slice_get list k ≡ Some x → holds t x ≡ true → garbled list k ≡ true
    → is_garbled list t x.terminal k ≡ true
garbled_at list t k x at on bad =
    ap (λ o. option_map_or (λ (y : Entry). holds t y && eqb y.terminal x.terminal && garbled list k) o false) at
    ∙ ap (λ b. b && eqb x.terminal x.terminal && garbled list k) on
    ∙ ap (λ b. b && garbled list k) (eq-eqb x.terminal x.terminal refl) ∙ bad

overlap_garbles : (list : List Entry) (k : ℕ) (x y : Entry) → slice_get list k ≡ Some x → In y (remove list k) → overlaps x y ≡ true
    → garbled list k ≡ true
overlap_garbles list k x y at i over =
    ap (λ o. option_map_or (λ z. list_any (overlaps z) (remove list k)) o false) at ∙ any_in (overlaps x) (remove list k) y i over

pub overlap_is_garbled : (list : List Entry) (t : ℕ) → 1 < count_by (holds t) list
    → (x : Entry) × In x list × (list_any (is_garbled list t x.terminal) (range_with_len 0 (length list)) ≡ true)
overlap_is_garbled list t some =
    let two = two_held t list (omega (arith, some, length-filter (holds t) list)) in
    let i : In two.other (remove list two.place) = in_append_right (take two.place list) (drop (suc two.place) list) two.other two.behind in
    let bad = overlap_garbles list two.place two.entry two.other two.at i (both_overlap two.entry two.other t two.held two.other_held) in (
      two.entry,
      at_in list two.place two.entry two.at,
      any_range (is_garbled list t two.entry.terminal) 0 (length list) two.place (omega arith)
          (let h : two.place < length list = slice_get_within list two.place two.entry two.at in omega arith)
          (garbled_at list t two.place two.entry two.at two.held bad),
    )

-- two that are held overlap, so that one is garbled
overlap_place : (list : List Entry) (t : ℕ) → 1 < count_by (holds t) list → (k : ℕ) × (garbled list k ≡ true)
overlap_place list t some =
    let two = two_held t list (omega (arith, some, length-filter (holds t) list)) in
    let i : In two.other (remove list two.place) = in_append_right (take two.place list) (drop (suc two.place) list) two.other two.behind in
    (two.place, overlap_garbles list two.place two.entry two.other two.at i (both_overlap two.entry two.other t two.held two.other_held))

-- ---- from a garbled terminal to an overlap
pub some_kept : (p : Entry → Bool) (xs : List Entry) (x : Entry) → In x xs → p x ≡ true → 0 < length (filter p xs)
some_kept p [] x i h = absurd i
some_kept p (y ∷ xs) x (inl same) h =
    let one : length (filter p (y ∷ xs)) ≡ suc (length (filter p xs)) = ap (λ b. length (cond b (y ∷ filter p xs) (filter p xs))) (ap p (sym same) ∙ h) in
    omega (arith, one)
some_kept p (y ∷ xs) x (inr i) h = more (p y) (some_kept p xs x i h) where
  more : (b : Bool) → 0 < length (filter p xs) → 0 < length (cond b (y ∷ filter p xs) (filter p xs))
  more true w = omega arith
  more false w = w

two_kept : (p : Entry → Bool) (list : List Entry) (n : ℕ) (x y : Entry) → In x (take n list) → In y (drop n list) → p x ≡ true → p y ≡ true
    → 1 < count_by p list
two_kept p list n x y i k h w =
    let parts : length (filter p list) ≡ length (filter p (take n list)) + length (filter p (drop n list)) =
    ap (λ l. length (filter p l)) (sym (take-append-drop n list)) ∙ ap length (filter-append p (take n list) (drop n list))
    ∙ length-append (filter p (take n list)) (filter p (drop n list)) in
    omega (arith, parts, some_kept p (take n list) x i h, some_kept p (drop n list) y k w, length-filter p list)

pub in_take : (list : List Entry) (k : ℕ) (x : Entry) → slice_get list k ≡ Some x → In x (take (suc k) list)
in_take [] k x e = absurd (let w : None ≡ Some x = e in cc)
in_take (z ∷ list) zero x e = inl (let w : Some z ≡ Some x = e in cc)
in_take (z ∷ list) (suc k) x e = inr (in_take list k x e)

in_drop : (list : List Entry) (k : ℕ) (x : Entry) → slice_get list k ≡ Some x → In x (drop k list)
in_drop [] k x e = absurd (let w : None ≡ Some x = e in cc)
in_drop (z ∷ list) zero x e = inl (let w : Some z ≡ Some x = e in cc)
in_drop (z ∷ list) (suc k) x e = in_drop list k x e

in_list : (list : List Entry) (k : ℕ) (y : Entry) → In y (remove list k) → In y list
in_list list k y i = elim (in_append_cases (take k list) (drop (suc k) list) y i) [
  | inl before ↦ front list k before
  | inr behind ↦ back list (suc k) behind
] where
  front : (xs : List Entry) (n : ℕ) → In y (take n xs) → In y xs
  front [] zero w = absurd w
  front [] (suc n) w = absurd w
  front (x ∷ xs) zero w = absurd w
  front (x ∷ xs) (suc n) (inl same) = inl same
  front (x ∷ xs) (suc n) (inr w) = inr (front xs n w)

  back : (xs : List Entry) (n : ℕ) → In y (drop n xs) → In y xs
  back [] zero w = absurd w
  back [] (suc n) w = absurd w
  back (x ∷ xs) zero w = w
  back (x ∷ xs) (suc n) w = inr (back xs n w)

record OverlapsThere (horizon : ℕ) (list : List Entry) : Type 0 where
  time : ℕ
  below : time < horizon
  two : 1 < count_by (holds time) list

-- where two overlap, the later one begins in the spans of both
garbled_overlaps : OverlapsMeet → (horizon : ℕ) (list : List Entry) (k : ℕ) (x : Entry) → AllByRecursion (IsBelow horizon) list
    → slice_get list k ≡ Some x → garbled list k ≡ true → OverlapsThere horizon list
garbled_overlaps meet horizon list k x all at bad =
    let over : list_any (overlaps x) (remove list k) ≡ true =
    sym (ap (λ o. option_map_or (λ z. list_any (overlaps z) (remove list k)) o false) at) ∙ bad in
    let found = any_found (overlaps x) (remove list k) over in
    let y : Entry = found.0 in
    let there : In y (remove list k) = found.1 in
    let each : (z : Entry) → In z list → IsBelow horizon z = of_each (IsBelow horizon) list all in
    let x_is = each x (at_in list k x at) in
    let y_is = each y (in_list list k y there) in
    let met = (meet x y x_is.message.some y_is.message.some).0 found.2 in
    let t : ℕ = met.0 in
    let x_from : x.moment ≤ t = met.1.from in
    let x_to : t < end_of x = met.1.to in
    let y_from : y.moment ≤ t = met.2.from in
    let y_to : t < end_of y = met.2.to in
    let x_low : x.moment < horizon = x_is.moment in
    let y_low : y.moment < horizon = y_is.moment in
    let first : ℕ = max x.moment y.moment in
    let on : holds first x ≡ true = holds_true first x (omega arith) (omega (arith, x_from, x_to, y_from)) in
    let other_on : holds first y ≡ true = holds_true first y (omega arith) (omega (arith, y_from, y_to, x_from)) in
    let low : first < horizon = omega (arith, x_low, y_low) in
    elim (in_append_cases (take k list) (drop (suc k) list) y there) [
      | inl before ↦ record { time = first; below = low; two = two_kept (holds first) list k y x before (in_drop list k x at) other_on on }
      | inr behind ↦ record { time = first; below = low; two = two_kept (holds first) list (suc k) x y (in_take list k x at) behind on other_on }
    ]

garbled_there : OverlapsMeet → (horizon : ℕ) (list : List Entry) (t n k : ℕ) → AllByRecursion (IsBelow horizon) list
    → is_garbled list t n k ≡ true → OverlapsThere horizon list
garbled_there meet horizon list t n k all bad = elim (at_place list k) [
  | absent e ↦ absurd (true≢false (sym bad ∙ ap (λ o. option_map_or (λ (x : Entry). holds t x && eqb x.terminal n && garbled list k) o false) e))
  | present x e ↦
      garbled_overlaps meet horizon list k x all e
      (and_parts (holds t x && eqb x.terminal n) (garbled list k)
      (sym (ap (λ o. option_map_or (λ (y : Entry). holds t y && eqb y.terminal n && garbled list k) o false) e) ∙ bad)).1
]

-- ---- the wires
same_bit : (a b : Bool) → Bit a ≡ Bit b → a ≡ b
same_bit a b h = cc

shown_garbled : (dump : Dump) (breach : Option ℕ) (table : Table) (trace : Recording) → IsTrue (is_valid table) → IsTrace trace
    → OverlapIsShown dump breach table trace → GarbledIsShown dump breach table trace
shown_garbled dump breach table trace valid is h =
    let list : List Entry = trace.list in
    let t : ℕ = h.time in
    let many : ltb 1 (length (seen_at list t)) ≡ true = same_bit (ltb 1 (length (seen_at list t))) true h.overlap in
    let two : 1 < length (seen_at list t) = ltb-true 1 (length (seen_at list t)) many in
    let bad = overlap_is_garbled list t (omega (arith, two, held_seen list t)) in
    let x : Entry = bad.0 in
    let own = lane_of table trace valid is x bad.1 in
    record {
      time = t;
      below = h.below;
      lane = own.0;
      there = own.1;
      garbled = ap (λ n. value (Garbled n) (scene_at dump breach table list t)) own.2 ∙ ap Bit (garbled_seen list t x.terminal ∙ bad.2);
    }

overlap_shown : (dump : Dump) (breach : Option ℕ) (table : Table) (trace : Recording) → OverlapsThere trace.horizon trace.list → OverlapIsShown dump breach table trace
overlap_shown dump breach table trace over = record {
  time = over.time;
  below = over.below;
  overlap = ap Bit (lt-ltb 1 (length (seen_at trace.list over.time)) (omega (arith, over.two, held_seen trace.list over.time)));
}

shown_overlap : OverlapsMeet → (dump : Dump) (breach : Option ℕ) (table : Table) (trace : Recording) → IsTrace trace
    → GarbledIsShown dump breach table trace → OverlapIsShown dump breach table trace
shown_overlap meet dump breach table trace is h =
    let list : List Entry = trace.list in
    let n : ℕ = h.lane.terminal in
    let bad = any_found (is_garbled list h.time n) (range_with_len 0 (length list))
    (sym (garbled_seen list h.time n) ∙ same_bit (list_any (λ (s : Seen). is_of n s && s.garbled) (seen_at list h.time)) true h.garbled) in
    overlap_shown dump breach table trace (garbled_there meet trace.horizon list h.time n bad.0 is.list bad.2)

-- ---- the list
shown_place : (dump : Dump) (breach : Option ℕ) (table : Table) (trace : Recording) → OverlapIsShown dump breach table trace → (k : ℕ) × (garbled trace.list k ≡ true)
shown_place dump breach table trace h =
    let list : List Entry = trace.list in
    let many : ltb 1 (length (seen_at list h.time)) ≡ true = same_bit (ltb 1 (length (seen_at list h.time))) true h.overlap in
    let two : 1 < length (seen_at list h.time) = ltb-true 1 (length (seen_at list h.time)) many in
    overlap_place list h.time (omega (arith, two, held_seen list h.time))

place_shown : OverlapsMeet → (dump : Dump) (breach : Option ℕ) (table : Table) (trace : Recording) → IsTrace trace → (k : ℕ) → garbled trace.list k ≡ true
    → OverlapIsShown dump breach table trace
place_shown meet dump breach table trace is k bad = elim (at_place trace.list k) [
  | absent e ↦
      absurd (true≢false (sym bad ∙ ap (λ o. option_map_or (λ (z : Entry). list_any (overlaps z) (remove trace.list k)) o false) e))
  | present x e ↦ overlap_shown dump breach table trace (garbled_overlaps meet trace.horizon trace.list k x is.list e bad)
]

pub overlaps_garble : OverlapsMeet → OverlapsGarble
overlaps_garble meet dump breach table trace valid is = record {
  shown = (shown_garbled dump breach table trace valid is, shown_overlap meet dump breach table trace is);
  there = (shown_place dump breach table trace, λ some. place_shown meet dump breach table trace is some.0 some.1);
}
