-- What follows of rows.
use Rattle.std.proofs.Common.{◌≡◌, ℕ, zero, suc, ◌+◌, ◌*◌, ◌/◌, ◌%◌, ◌<◌, ◌≤◌, Bool, true, false, cond, eqb, ltb, List, [], ◌∷◌, ◌++◌, get_or, inl, inr, arith, sym, refl, ap, subst, ◌∙◌, append_assoc}
use Rattle.std.specs.Prelude.{not, slice_get}
use Rattle.std.specs.List.{AllByRecursion, flat_map}
use Rattle.std.proofs.lemmas.Bool.{eqb-true, ne_eqb, not-false}
use Rattle.std.proofs.lemmas.Nat.{div-add-mod'}
use Rattle.std.proofs.Math.Nat.{mod-lt}
use Rattle.bus_strings.proofs.ListLaws.{all_push}
use Rattle.bus_strings.proofs.MemberLaws.{from_filter, in_append_left, in_append_right, of_each}
use Rattle.bus_strings.specs.Members.{In}
use Rattle.bus_strings.specs.Messages.{Entry}
use Rattle.bus_strings.specs.Transmissions.{garbled}
use Rattle.bus_table.specs.declared.mode.Mode.TheVariants.{Periodic}
use Rattle.bus_table.specs.Tables.{Table}
use Rattle.bus_table.proofs.ValidLaws.{valid_facts}
use Rattle.bus_pen.specs.declared.class.Class.TheVariants.{Garbled, GarbledNarrow, Other, Wordstring}
use Rattle.bus_pen.specs.Classes.{is_hatched}
use Rattle.bus_shapes.specs.declared.sent.Sent.{Sent}
use Rattle.bus_trace.specs.Windows.{Window}
use Rattle.bus_cycles.specs.Laws.{HatchedAreDrawnLast, HatchedAreGarbled, RowsAreAPartition, RowsAreIntervals}
use Rattle.bus_cycles.specs.Rows.{Cycle, Row, begin_in, cycle_of, interval_of, is_new, is_new_in, origin_offset_of, row_at, rows, rows_from, rows_of, with_sent}
use Rattle.bus_cycles.specs.Pages.{Page}
use Rattle.bus_cycles.specs.RowTexts.{Shaded, class_of, garbled_class, shade, slot_of}
use Rattle.bus_shapes.specs.Sending.{sent_of, sents}
use Rattle.bus_shapes.specs.SendingLaws.{IsToldOf}
use Rattle.bus_shapes.proofs.SendingLaws.{told_from}
use Rattle.bus_cycles.specs.Sents.{is_shown, shown}

-- ---- a partition

pub parts_from : (cycle : Cycle) (row : Row) (xs : List Sent) → flat_map (λ (r : Row). r.sents) (rows_from cycle row xs) ≡ row.sents ++ xs
parts_from cycle row [] = refl
parts_from cycle row (x ∷ xs) =
    elim (is_new cycle row.begin x) as (λ b. flat_map (λ (r : Row). r.sents) (cond b (row ∷ rows_from cycle (row_at cycle (row.place + 1) x) xs) (rows_from cycle (with_sent row x) xs)) ≡ row.sents ++ x ∷ xs) [
      | true ↦ ap (λ t. row.sents ++ t) (parts_from cycle (row_at cycle (row.place + 1) x) xs)
      | false ↦ parts_from cycle (with_sent row x) xs ∙ append_assoc row.sents (x ∷ []) xs
    ]

pub parts_of : (cycle : Cycle) (xs : List Sent) → flat_map (λ (r : Row). r.sents) (rows_of cycle xs) ≡ xs
parts_of cycle [] = refl
parts_of cycle (x ∷ xs) = parts_from cycle (row_at cycle 0 x) xs

pub partition : RowsAreAPartition
partition table window list = parts_of (cycle_of table) (shown window list)

-- ---- each transmission of a row is one of those that are shown
in_flat : (rows : List Row) (row : Row) (sent : Sent) → In row rows → In sent row.sents → In sent (flat_map (λ (r : Row). r.sents) rows)
in_flat [] row sent i j = absurd i
in_flat (r ∷ rs) row sent (inl same) j = in_append_left r.sents (flat_map (λ (r : Row). r.sents) rs) sent (subst (λ (r : Row). In sent r.sents) same j)
in_flat (r ∷ rs) row sent (inr i) j = in_append_right r.sents (flat_map (λ (r : Row). r.sents) rs) sent (in_flat rs row sent i j)

pub told : (table : Table) (window : Window) (list : List Entry) (row : Row) (sent : Sent) → In row (rows table window list) → In sent row.sents → IsToldOf list sent
told table window list row sent i j =
    let all : In sent (shown window list) = subst (In sent) (partition table window list) (in_flat (rows table window list) row sent i j) in
    let r = told_from list 0 list sent (from_filter (is_shown window) (sents list) sent all).0 in
    let none : 0 + r.0 ≡ r.0 = omega arith in
    let same : sent ≡ sent_of list r.0 r.1 = r.3 ∙ ap (λ m. sent_of list m r.1) none in
    let at : sent.at ≡ r.0 = ap (λ (s : Sent). s.at) same in
    record {
      entry = r.1;
      at = ap (slice_get list) at ∙ r.2;
      told = same ∙ ap (λ m. sent_of list m r.1) (sym at);
    }

garbled_hatched : (width : ℕ) → is_hatched (garbled_class width) ≡ true
garbled_hatched width =
    elim (ltb width 60) as (λ b. is_hatched (cond b GarbledNarrow Garbled) ≡ true) [ true ↦ refl | false ↦ refl ]

slot_class : (width slot : ℕ) → class_of width (2 + slot) ≡ garbled_class width
slot_class width slot =
    let none : eqb (2 + slot) 0 ≡ false = ne_eqb (2 + slot) 0 (λ e. omega arith) in
    let other : eqb (2 + slot) 1 ≡ false = ne_eqb (2 + slot) 1 (λ e. omega arith) in
    ap (λ b. cond b Other (cond (eqb (2 + slot) 1) Wordstring (garbled_class width))) none ∙ ap (λ b. cond b Wordstring (garbled_class width)) other

hatched_at : (width : ℕ) (garbled : Bool) (slot lane : ℕ) → lane < 2 → is_hatched (class_of width (cond garbled (2 + slot) lane)) ≡ garbled
hatched_at width true slot lane low = ap is_hatched (slot_class width slot) ∙ garbled_hatched width
hatched_at width false slot zero low = refl
hatched_at width false slot (suc zero) low = refl
hatched_at width false slot (suc (suc lane)) low = absurd (omega arith)

hatched_of : (page : Page) (begin : ℕ) (earlier : List Shaded) (sent : Sent) (width : ℕ)
    → is_hatched (class_of width (shade page begin earlier sent)) ≡ sent.garbled
hatched_of page begin earlier sent width =
    let lane : get_or page.lanes sent.terminal 0 % 2 < 2 = omega arith in
    hatched_at width sent.garbled (slot_of page begin earlier sent) (get_or page.lanes sent.terminal 0 % 2) lane

pub hatched : HatchedAreGarbled
hatched page table window list row earlier sent width i j =
    let t = told table window list row sent i j in
    let mark : sent.garbled ≡ garbled list sent.at = ap (λ (s : Sent). s.garbled) t.told in
    (t, hatched_of page row.begin earlier sent width ∙ mark)

pub drawn_last : HatchedAreDrawnLast
drawn_last page true begin earlier sent width due = hatched_of page begin earlier sent width ∙ due
drawn_last page false begin earlier sent width due = hatched_of page begin earlier sent width ∙ none sent.garbled due where
  none : (b : Bool) → not b ≡ true → b ≡ false
  none true e = absurd cc
  none false e = refl

-- ---- intervals
pub within_interval : (ti t : ℕ) → 0 < ti → (t / ti * ti ≤ t) × (t < t / ti * ti + ti)
within_interval ti t some =
    let whole : t / ti * ti + t % ti ≡ t = div-add-mod' t ti in
    let short : t % ti < ti = mod-lt t some in
    (omega arith, omega arith)

abbrev IsWhole : Cycle → Row → Type 0
IsWhole cycle row = AllByRecursion (λ (sent : Sent). interval_of cycle.ti sent.moment + cycle.origin_offset ≡ row.begin) row.sents

whole_row : (cycle : Cycle) (place : ℕ) (sent : Sent) → cycle.mode ≡ Periodic → IsWhole cycle (row_at cycle place sent)
whole_row cycle place sent e = (sym (ap (λ m. begin_in m cycle sent) e), tt)

whole_step : (cycle : Cycle) (row : Row) (x : Sent) (xs : List Sent) (b : Bool) → cycle.mode ≡ Periodic → IsWhole cycle row → is_new cycle row.begin x ≡ b
    → AllByRecursion (IsWhole cycle) (rows_from cycle (row_at cycle (row.place + 1) x) xs)
    → (IsWhole cycle (with_sent row x) → AllByRecursion (IsWhole cycle) (rows_from cycle (with_sent row x) xs))
    → AllByRecursion (IsWhole cycle) (cond b (row ∷ rows_from cycle (row_at cycle (row.place + 1) x) xs) (rows_from cycle (with_sent row x) xs))
whole_step cycle row x xs true e w n new more = (w, new)
whole_step cycle row x xs false e w n new more =
    let same : is_new cycle row.begin x ≡ not (eqb (interval_of cycle.ti x.moment + cycle.origin_offset) row.begin) = ap (λ m. is_new_in m cycle row.begin x) e in
    let here : interval_of cycle.ti x.moment + cycle.origin_offset ≡ row.begin = eqb-true (interval_of cycle.ti x.moment + cycle.origin_offset) row.begin (not-false (eqb (interval_of cycle.ti x.moment + cycle.origin_offset) row.begin) (sym same ∙ n)) in
    more (all_push (λ (sent : Sent). interval_of cycle.ti sent.moment + cycle.origin_offset ≡ row.begin) row.sents x w here)

whole_from : (cycle : Cycle) (row : Row) (xs : List Sent) → cycle.mode ≡ Periodic → IsWhole cycle row → AllByRecursion (IsWhole cycle) (rows_from cycle row xs)
whole_from cycle row [] e w = (w, tt)
whole_from cycle row (x ∷ xs) e w =
    whole_step cycle row x xs (is_new cycle row.begin x) e w refl (whole_from cycle (row_at cycle (row.place + 1) x) xs e (whole_row cycle (row.place + 1) x e))
    (λ h. whole_from cycle (with_sent row x) xs e h)

whole_rows : (cycle : Cycle) (xs : List Sent) → cycle.mode ≡ Periodic → AllByRecursion (IsWhole cycle) (rows_of cycle xs)
whole_rows cycle [] e = tt
whole_rows cycle (x ∷ xs) e = whole_from cycle (row_at cycle 0 x) xs e (whole_row cycle 0 x e)

pub no_origin_offset : (table : Table) → table.mode ≡ Periodic → (cycle_of table).origin_offset ≡ 0
no_origin_offset table mode = ap (λ m. origin_offset_of m table.sg) mode

pub intervals : RowsAreIntervals
intervals table window list row sent valid mode i j =
    let cycle : Cycle = cycle_of table in
    let whole : IsWhole cycle row = of_each (IsWhole cycle) (rows table window list) (whole_rows cycle (shown window list) mode) row i in
    let from_origin : interval_of table.ti sent.moment + cycle.origin_offset ≡ row.begin = of_each (λ (s : Sent). interval_of cycle.ti s.moment + cycle.origin_offset ≡ row.begin) row.sents whole sent j in
    let none : cycle.origin_offset ≡ 0 = no_origin_offset table mode in
    let at : interval_of table.ti sent.moment ≡ row.begin = plain (interval_of table.ti sent.moment) cycle.origin_offset row.begin none from_origin in
    let some : 0 < table.ti = (let f = valid_facts table valid in omega (arith, f.ti_least)) in
    let parts = within_interval table.ti sent.moment some in
    (sym at, subst (λ b. b ≤ sent.moment) at parts.0, subst (λ b. sent.moment < b + table.ti) at parts.1)
  where
    plain : (a origin_offset b : ℕ) → origin_offset ≡ 0 → a + origin_offset ≡ b → a ≡ b
    plain a origin_offset b e f = omega arith
