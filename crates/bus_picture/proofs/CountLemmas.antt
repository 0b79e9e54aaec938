-- Which rows show a transmission, and how many they show.
use Rattle.std.proofs.Common.{◌≡◌, ℕ, ◌+◌, ◌≤◌, Bool, true, false, cond, List, [], ◌∷◌, length, filter, Option, Some, None, inl, inr, arith, refl, sym, ap, ◌∙◌}
use Rattle.std.specs.Prelude.{◌-◌, ◌&&◌, ◌||◌, ◌==◌, ◌⊎◌, nat_lt}
use Rattle.std.specs.Bool.{beq}
use Rattle.std.specs.List.{AllByRecursion, count_by, flat_map, list_any, sum_by}
use Rattle.std.specs.Option.{option_map_or}
use Rattle.std.proofs.lemmas.Bool.{cases_eq, eq-eqb, ne_eqb, true≢false, or_parts}
use Rattle.std.proofs.lemmas.List.Sums.{length-filter, sum_by-append, sum_by-cons}
use Rattle.bus_strings.proofs.MemberLaws.{any_in, at_in, in_filter}
use Rattle.bus_strings.specs.Members.{In}
use Rattle.bus_strings.specs.Messages.{Entry}
use Rattle.bus_strings.specs.Transmissions.{end_of}
use Rattle.bus_shapes.specs.declared.told.Told.{Told}
use Rattle.bus_trace.specs.Traces.{Recording}
use Rattle.bus_dump.specs.declared.lane.Lane.{Lane}
use Rattle.bus_dump.specs.Lanes.{lanes}
use Rattle.bus_dump.specs.Laws.{LanesAreTerminals, lane_count}
use Rattle.bus_pen.specs.declared.scale.Scale.{Scale}
use Rattle.bus_shapes.specs.declared.sent.Sent.{Sent}
use Rattle.bus_shapes.specs.Laws.{SentsAreTold}
use Rattle.bus_shapes.specs.Sending.{sents}
use Rattle.bus_shapes.specs.SendingLaws.{IsToldOf}
use Rattle.bus_picture.specs.Boxes.{boxes, members}
use Rattle.bus_picture.specs.Rows.{Row, is_of, shown, shows}
use Rattle.bus_picture.specs.Lanes.{drawn_lanes, has_some, is_in, is_named, lanes_with_some, most_empty}
use Rattle.bus_picture.specs.Strings.{meets}
use Rattle.bus_picture.specs.TimeLines.{bus_rows, each_lane, is_shown, lane_rows, lane_top, lanes_in, rows_at, rows_of_lanes}
use Rattle.bus_picture.specs.declared.measures.TheConstants.{PLOT_TOP as plot_top, ROW_HEIGHT as row_height}
use Rattle.bus_picture.specs.Laws.{AreCounted, AreUncovered, BusIsCounted, EachIsInOneLane, EachIsOnTheBus, GarbledAreUncovered, IsSilent, LanesAreCounted, LeftOutAreSilent, in_boxes, rows_with}
use Rattle.bus_picture.proofs.LawLemmas.{as_row, boxes_hold_rows}

-- ---- what is drawn behind a garbled row
lower : (k t : ℕ) (lanes : List Lane) → t ≤ lane_top k → AllByRecursion (λ (next : Row). t ≤ next.top) (each_lane lane_rows k lanes)
lower k t [] h = tt
lower k t (lane ∷ lanes) h = (h, (h, lower (k + 1) t lanes (omega arith)))

uncovered : (k : ℕ) (lanes : List Lane) → AreUncovered (each_lane lane_rows k lanes)
uncovered k [] = tt
uncovered k (lane ∷ lanes) =
    (λ h. absurd (true≢false (sym h)), (λ h. lower (k + 1) (lane_top k + row_height) lanes (omega arith), uncovered (k + 1) lanes))

pub garbled_are_uncovered : GarbledAreUncovered
garbled_are_uncovered lanes =
    (λ h. absurd (true≢false (sym h)), (λ h. lower 0 (plot_top + row_height) lanes (omega arith), uncovered 0 lanes))

-- ---- the rows that show a transmission
abbrev one_if : Bool → ℕ
one_if b = cond b 1 0

-- One of the two rows of a place shows what is of its terminal.
two : (own mark meets : Bool) → 0 + cond (own && beq mark false && meets) 1 0 + cond (own && beq mark true && meets) 1 0 ≡ cond (own && meets) 1 0
two true true true = refl
two true true false = refl
two true false true = refl
two true false false = refl
two false true true = refl
two false true false = refl
two false false true = refl
two false false false = refl

at_place : (scale : Scale) (x : Sent) (terminal : Option ℕ) (top : ℕ)
    → rows_with scale (rows_at terminal top) x ≡ cond (option_map_or (λ n. x.terminal == n) terminal true && is_shown scale x) 1 0
at_place scale x terminal top = two (option_map_or (λ n. x.terminal == n) terminal true) x.garbled (is_shown scale x)

both_true : (own : Bool) → one_if (own && true) ≡ one_if own
both_true true = refl
both_true false = refl

both_false : (own : Bool) → one_if (own && false) ≡ 0
both_false true = refl
both_false false = refl

pub each_is_on_the_bus : EachIsOnTheBus
each_is_on_the_bus scale x h = at_place scale x None plot_top ∙ ap (λ b. one_if (true && b)) h

-- As many rows of lanes as lanes of its terminal.
abbrev is_lane : Sent → Lane → Bool
is_lane x lane = lane.terminal == x.terminal

turned : (a b : ℕ) → (a == b) ≡ (b == a)
turned a b = elim (cases_eq a b) [ inl same ↦ eq-eqb a b same ∙ sym (eq-eqb b a (sym same)) | inr other ↦ ne_eqb a b other ∙ sym (ne_eqb b a (λ same. other (sym same))) ]

by_lanes : (scale : Scale) (k : ℕ) (x : Sent) (lanes : List Lane) → is_shown scale x ≡ true
    → rows_with scale (each_lane lane_rows k lanes) x ≡ count_by (is_lane x) lanes
by_lanes scale k x [] h = refl
by_lanes scale k x (lane ∷ lanes) h =
    let here : rows_with scale (lane_rows k lane) x ≡ cond (is_lane x lane) 1 0 =
    at_place scale x (Some lane.terminal) (lane_top k) ∙ ap (λ b. one_if ((x.terminal == lane.terminal) && b)) h
    ∙ both_true (x.terminal == lane.terminal) ∙ ap one_if (turned x.terminal lane.terminal) in
    sum_by-append (λ (row : Row). cond (shows scale row x) 1 0) (lane_rows k lane) (each_lane lane_rows (k + 1) lanes)
    ∙ ap (λ n. n + rows_with scale (each_lane lane_rows (k + 1) lanes) x) here
    ∙ ap (λ n. cond (is_lane x lane) 1 0 + n) (by_lanes scale (k + 1) x lanes h)
    ∙ sym (sum_by-cons (λ (l : Lane). cond (is_lane x l) 1 0) lane lanes)

pub in_lanes : (scale : Scale) (x : Sent) (lanes : List Lane) → is_shown scale x ≡ true
    → rows_with scale (rows_of_lanes lanes) x ≡ count_by (is_lane x) lanes
in_lanes scale x lanes h = by_lanes scale 0 x lanes h

-- No row shows what doesn't meet the window.
none_with : (scale : Scale) (x : Sent) (rows : List Row) → is_shown scale x ≡ false → rows_with scale rows x ≡ 0
none_with scale x [] h = refl
none_with scale x (row ∷ rows) h =
    let here : cond (shows scale row x) 1 0 ≡ 0 =
    ap (λ b. one_if (is_of row x && beq x.garbled row.garbled && b)) h ∙ both_false (is_of row x && beq x.garbled row.garbled) in
    omega (arith, sum_by-cons (λ (r : Row). cond (shows scale r x) 1 0) row rows, here, none_with scale x rows h)

-- ---- how many they show
abbrev of_row : Scale → List Sent → Row → ℕ
of_row scale xs row = count_by (shows scale row) xs

same_sums : (f g : Row → ℕ) (rows : List Row) → ((row : Row) → f row ≡ g row) → sum_by f rows ≡ sum_by g rows
same_sums f g [] h = refl
same_sums f g (row ∷ rows) h = omega (arith, sum_by-cons f row rows, sum_by-cons g row rows, h row, same_sums f g rows h)

in_sums : (scale : Scale) (list : List Entry) (rows : List Row) → in_boxes scale list rows ≡ sum_by (of_row scale (sents list)) rows
in_sums scale list rows =
    same_sums (λ (row : Row). length (flat_map members (boxes scale (shown scale row list)))) (of_row scale (sents list)) rows
    (λ row. ap length (boxes_hold_rows scale row list) ∙ length-filter (shows scale row) (sents list))

no_more : (scale : Scale) (rows : List Row) → sum_by (of_row scale []) rows ≡ 0
no_more scale [] = refl
no_more scale (row ∷ rows) = omega (arith, sum_by-cons (of_row scale []) row rows, no_more scale rows)

one_more : (scale : Scale) (x : Sent) (xs : List Sent) (rows : List Row) → sum_by (of_row scale (x ∷ xs)) rows ≡ rows_with scale rows x + sum_by (of_row scale xs) rows
one_more scale x xs [] = refl
one_more scale x xs (row ∷ rows) =
    omega (
      arith,
      sum_by-cons (of_row scale (x ∷ xs)) row rows,
      sum_by-cons (of_row scale xs) row rows,
      sum_by-cons (λ (r : Row). cond (shows scale r x) 1 0) row rows,
      sum_by-cons (λ (y : Sent). cond (shows scale row y) 1 0) x xs,
      one_more scale x xs rows,
    )

summed : (scale : Scale) (rows : List Row) (q : Sent → Bool) (xs : List Sent) → ((x : Sent) → In x xs → rows_with scale rows x ≡ cond (q x) 1 0)
    → sum_by (of_row scale xs) rows ≡ count_by q xs
summed scale rows q [] h = no_more scale rows
summed scale rows q (x ∷ xs) h =
    omega (arith, one_more scale x xs rows, h x (inl refl), summed scale rows q xs (λ y i. h y (inr i)), sum_by-cons (λ (y : Sent). cond (q y) 1 0) x xs)

-- Of what is garbled the garbled rows show all, and of what isn't they show nothing.
hurt_by : (p : Row → Bool) (row : Row) (some rows : List Row) (of mark takes : Bool) → p row ≡ takes → (takes ≡ true → of ≡ mark)
    → count_by p some ≡ cond mark (count_by p rows) 0 → count_by p (cond of (row ∷ some) some) ≡ cond mark (count_by p (row ∷ rows)) 0
hurt_by p row some rows true true takes is alike h =
    omega (arith, sum_by-cons (λ (r : Row). cond (p r) 1 0) row some, sum_by-cons (λ (r : Row). cond (p r) 1 0) row rows, h)
hurt_by p row some rows false false takes is alike h = h
hurt_by p row some rows true false true is alike h = absurd (true≢false (alike refl))
hurt_by p row some rows true false false is alike h =
    omega (arith, sum_by-cons (λ (r : Row). cond (p r) 1 0) row some, ap one_if is, h)
hurt_by p row some rows false true true is alike h = absurd (true≢false (sym (alike refl)))
hurt_by p row some rows false true false is alike h =
    omega (arith, sum_by-cons (λ (r : Row). cond (p r) 1 0) row rows, ap one_if is, h)

none_hurt : (mark : Bool) (n : ℕ) → n ≡ 0 → n ≡ cond mark n 0
none_hurt true n none = refl
none_hurt false n none = none

hurt_with : (scale : Scale) (x : Sent) (rows : List Row)
    → rows_with scale (filter (λ (row : Row). row.garbled) rows) x ≡ cond x.garbled (rows_with scale rows x) 0
hurt_with scale x [] = none_hurt x.garbled 0 refl
hurt_with scale x (row ∷ rows) =
    hurt_by (λ (r : Row). shows scale r x) row (filter (λ (r : Row). r.garbled) rows) rows row.garbled x.garbled (shows scale row x) refl (as_row scale row x)
    (hurt_with scale x rows)

hurt_one : (mark meets : Bool) → cond mark (one_if meets) 0 ≡ one_if (meets && mark)
hurt_one true true = refl
hurt_one true false = refl
hurt_one false true = refl
hurt_one false false = refl

pub counted : (scale : Scale) (trace : Recording) (rows : List Row)
    → ((x : Sent) → In x (sents trace.list) → is_shown scale x ≡ true → rows_with scale rows x ≡ 1) → AreCounted scale trace rows
counted scale trace rows h =
    let one : (x : Sent) → In x (sents trace.list) → rows_with scale rows x ≡ cond (is_shown scale x) 1 0 =
    λ x i. elim (is_shown scale x) as (λ b. is_shown scale x ≡ b → rows_with scale rows x ≡ cond b 1 0) [
      | true ↦ λ e. h x i e
      | false ↦ λ e. none_with scale x rows e
    ] refl in
    record {
      all = sym (in_sums scale trace.list rows ∙ summed scale rows (is_shown scale) (sents trace.list) one);
      hurt = sym (in_sums scale trace.list (filter (λ (row : Row). row.garbled) rows)
          ∙ summed scale (filter (λ (row : Row). row.garbled) rows) (λ (x : Sent). is_shown scale x && x.garbled) (sents trace.list)
          (λ x i. hurt_with scale x rows ∙ ap (λ n. cond x.garbled n 0) (one x i) ∙ hurt_one x.garbled (is_shown scale x)));
    }

pub bus_is_counted : BusIsCounted
bus_is_counted scale trace = counted scale trace bus_rows (λ x i h. each_is_on_the_bus scale x h)

-- ---- lanes
-- As many of what is kept pass a test, where all that passes it is kept.
pub kept_count : (p q : Lane → Bool) (xs : List Lane) → ((lane : Lane) → p lane ≡ true → q lane ≡ true) → count_by p (filter q xs) ≡ count_by p xs
kept_count p q [] h = refl
kept_count p q (x ∷ xs) h =
    (elim (q x) as (λ b. q x ≡ b → count_by p (cond b (x ∷ filter q xs) (filter q xs)) ≡ count_by p (x ∷ xs)) [
      | true ↦ λ e.
          omega (arith, sum_by-cons (λ (l : Lane). cond (p l) 1 0) x (filter q xs), sum_by-cons (λ (l : Lane). cond (p l) 1 0) x xs, kept_count p q xs h)
      | false ↦ λ e.
          let out : p x ≡ false = elim (p x) as (λ b. p x ≡ b → b ≡ false) [ true ↦ λ k. absurd (true≢false (sym (h x k) ∙ e)) | false ↦ λ k. refl ] refl in
          omega (arith, sum_by-cons (λ (l : Lane). cond (p l) 1 0) x xs, ap one_if out, kept_count p q xs h)
    ]) refl

pub drawn_count : (b : Bool) (p : Lane → Bool) (some lanes : List Lane) → count_by p some ≡ count_by p lanes → count_by p (cond b some lanes) ≡ count_by p lanes
drawn_count true p some lanes h = h
drawn_count false p some lanes h = refl

-- The lane of what meets the window has something to show.
has_its : (scale : Scale) (told : Told) (list : List Entry) (x : Sent) (t : IsToldOf list x) → is_shown scale x ≡ true → (lane : Lane)
    → is_lane x lane ≡ true → has_some scale told list lane ≡ true
has_its scale told list x t h lane own =
    let terminal : x.terminal ≡ t.entry.terminal = ap (λ (s : Sent). s.terminal) t.told in
    let meets_it : meets scale t.entry.moment (end_of t.entry) ≡ true = sym (ap (λ (s : Sent). meets scale s.moment s.end) t.told) ∙ h in
    let same : (t.entry.terminal == lane.terminal) ≡ true =
    ap (λ n. n == lane.terminal) (sym terminal) ∙ turned x.terminal lane.terminal ∙ own in
    let here : is_in scale lane t.entry ≡ true = ap (λ b. b && meets scale t.entry.moment (end_of t.entry)) same ∙ meets_it in
    ap (λ b. b || is_named told lane.terminal) (any_in (is_in scale lane) list t.entry (at_in list x.at t.entry t.at) here)

all_drawn : (scale : Scale) (told : Told) (list : List Entry) (x : Sent) → IsToldOf list x → is_shown scale x ≡ true → (lanes : List Lane)
    → count_by (is_lane x) (drawn_lanes scale told list lanes) ≡ count_by (is_lane x) lanes
all_drawn scale told list x t h lanes =
    drawn_count (nat_lt most_empty (length lanes - length (lanes_with_some scale told list lanes))) (is_lane x) (lanes_with_some scale told list lanes) lanes
    (kept_count (is_lane x) (has_some scale told list) lanes (has_its scale told list x t h))

-- A lane is kept, or it is silent.
silent_by : (scale : Scale) (told : Told) (list : List Entry) (lane : Lane) → has_some scale told list lane ≡ false → IsSilent scale told list lane
silent_by scale told list lane none =
    let parts = or_parts (list_any (is_in scale lane) list) (is_named told lane.terminal) none in
    record {
      sends = λ x i own. elim (meets scale x.moment (end_of x)) as (λ b. meets scale x.moment (end_of x) ≡ b → b ≡ false) [
        | true ↦ λ e.
            let here : is_in scale lane x ≡ true =
            ap (λ b. b && meets scale x.moment (end_of x)) (eq-eqb x.terminal lane.terminal own) ∙ e in
            absurd (true≢false (sym (any_in (is_in scale lane) list x i here) ∙ parts.0))
        | false ↦ λ e. refl
      ] refl;
      unnamed = parts.1;
    }

kept_or_silent : (b : Bool) (scale : Scale) (told : Told) (list : List Entry) (lanes : List Lane) (lane : Lane) → In lane lanes
    → In lane (cond b (lanes_with_some scale told list lanes) lanes) ⊎ IsSilent scale told list lane
kept_or_silent true scale told list lanes lane i =
    elim (has_some scale told list lane) as (λ b. has_some scale told list lane ≡ b
    → In lane (lanes_with_some scale told list lanes) ⊎ IsSilent scale told list lane) [
      | true ↦ λ e. inl (in_filter (has_some scale told list) lanes lane i e)
      | false ↦ λ e. inr (silent_by scale told list lane e)
    ] refl
kept_or_silent false scale told list lanes lane i = inl i

pub left_out_are_silent : LeftOutAreSilent
left_out_are_silent scale told table list lane i =
    kept_or_silent (nat_lt most_empty (length (lanes table list) - length (lanes_with_some scale told list (lanes table list)))) scale told list
    (lanes table list) lane i

pub each_is_in_one_lane : LanesAreTerminals → SentsAreTold → EachIsInOneLane
each_is_in_one_lane agree each_told scale told table trace x valid is i h =
    let t : IsToldOf trace.list x = each_told trace.list x i in
    let terminal : x.terminal ≡ t.entry.terminal = ap (λ (s : Sent). s.terminal) t.told in
    let one : lane_count table trace.list t.entry.terminal ≡ 1 = (agree table trace valid is).sending t.entry (at_in trace.list x.at t.entry t.at) in
    in_lanes scale x (lanes_in scale told table trace.list) h ∙ all_drawn scale told trace.list x t h (lanes table trace.list)
    ∙ ap (λ n. lane_count table trace.list n) terminal ∙ one

pub lanes_are_counted : EachIsInOneLane → LanesAreCounted
lanes_are_counted each scale told table trace valid is =
    counted scale trace (rows_of_lanes (lanes_in scale told table trace.list)) (λ x i h. each scale told table trace x valid is i h)
