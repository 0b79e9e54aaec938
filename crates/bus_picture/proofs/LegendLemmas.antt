-- The legend lists each kind of marks exactly where the picture has one.
use Rattle.std.proofs.Common.{◌≡◌, ◌↔◌, ℕ, zero, suc, ◌+◌, Bool, true, false, cond, List, [], ◌∷◌, ◌++◌, filter, map, Option, Some, None, eqb, inl, inr, arith, refl, sym, ap, ◌∙◌}
use Rattle.std.specs.Prelude.{◌≢◌, ◌-◌, ◌&&◌, ◌||◌, ◌⊎◌, codes, decimal, nat_lt, take}
use Rattle.std.specs.List.{flat_map, list_any, range_with_len}
use Rattle.std.specs.Option.{option_map_or}
use Rattle.std.proofs.lemmas.Bool.{and_from, and_parts, eq-eqb, eqb-true, lt-ltb, or_left, or_right, true≢false}
use Rattle.bus_strings.proofs.MemberLaws.{any_found, any_in, at_in, in_at}
use Rattle.bus_strings.specs.Members.{In}
use Rattle.bus_strings.specs.Messages.{Entry}
use Rattle.bus_table.specs.Fits.{sender_of}
use Rattle.bus_table.specs.Tables.{Sender, Table}
use Rattle.bus_table.specs.declared.mode.Mode.{Mode}
use Rattle.bus_table.specs.declared.mode.Mode.TheVariants.{Aperiodic, Periodic}
use Rattle.bus_trace.specs.Traces.{Recording}
use Rattle.bus_dump.specs.declared.lane.Lane.{Lane}
use Rattle.bus_pen.specs.declared.area.Area.{Area}
use Rattle.bus_pen.specs.declared.class.Class.{Class}
use Rattle.bus_pen.specs.declared.class.Class.TheVariants.{Gap, Mark, Overlap, Unobserved}
use Rattle.bus_pen.specs.declared.scale.Scale.{Scale}
use Rattle.bus_shapes.specs.declared.sent.Sent.{Sent}
use Rattle.bus_shapes.specs.Sending.{sents}
use Rattle.bus_pen.specs.Scales.{extent, place}
use Rattle.bus_pen.specs.Shapes.{box_text, titled_text}
use Rattle.bus_picture.specs.Gaps as gaps
use Rattle.bus_picture.specs.Gaps.{is_first}
use Rattle.bus_picture.specs.Intervals.{interval_to, last_start}
use Rattle.bus_picture.specs.Kinds.{TimerMark, has_gap, has_gap_before, has_interval, has_interval_before, has_sync, has_tick, has_timed, is_gap}
use Rattle.bus_picture.specs.Kinds.{is_interval, is_sync, kinds_of, lane_has, lanes_have, sender_has}
use Rattle.bus_picture.specs.declared.kinds.TimerMark.TheVariants.{Gaps, Intervals, Offsets}
use Rattle.bus_picture.specs.LegendLaws.{HasTimer, LegendListsWhatIsDrawn, WritesGap, WritesInterval, WritesSync, WritesTicks}
use Rattle.bus_picture.specs.declared.measures.TheConstants.{GAP_BELOW as gap_below, GAP_ROOM as gap_room, PLOT_TOP as plot_top}
use Rattle.bus_picture.specs.Offsets.{offset_moment, offsets_text, rounds_before, rounds_in, tick_area, tick_text}
use Rattle.bus_picture.specs.TimeLines.{goes_behind}
use Rattle.bus_picture.specs.Timers.{LaneTimings, gap_at, interval_behind, interval_end, interval_text, interval_words, is_behind_gap, is_drawn, is_near, lane_gap, last_lane_gap, line_area, line_before, sync_before, timings_of}
use Rattle.bus_picture.specs.OverlapBands.{OverlapBand, is_overlapped, joined, overlap_of, overlap_band_text, bands_from, touches, widened}
use Rattle.bus_picture.proofs.ShownLemmas.{hurt_shown, marked_boxes, plain_shown, thin_boxes}

-- ---- what is written
some_text : (n : ℕ) (t : List ℕ) → n ∷ t ≢ []
some_text n t h = cc

-- What begins with a box isn't empty.
box_written : (class : Class) (area : Area) (rest : List ℕ) → box_text class area ++ rest ≢ []
box_written class area rest = some_text 60 _

through : {A B C : Type 0} → (A ↔ B) → (B ↔ C) → (A ↔ C)
through f g = (λ a. g.0 (f.0 a), λ c. f.1 (g.1 c))

turned : {A B : Type 0} → (A ↔ B) → (B ↔ A)
turned f = (f.1, f.0)

-- Something is written exactly where a test passes.
if_written : (b : Bool) (t : List ℕ) → t ≢ [] → (cond b t [] ≢ []) ↔ (b ≡ true)
if_written true t some = (λ h. refl, λ e. some)
if_written false t some = (λ h. absurd (h refl), λ e. absurd (true≢false (sym e)))

-- The same of two tests.
both_written : (a b : Bool) (t : List ℕ) → t ≢ [] → (cond a (cond b t []) [] ≢ []) ↔ ((a && b) ≡ true)
both_written true b t some = if_written b t some
both_written false b t some = (λ h. absurd (h refl), λ e. absurd (true≢false (sym e)))

any_written : (test : Sent → Bool) (text : Sent → List ℕ) (xs : List Sent) → ((x : Sent) → (text x ≢ []) ↔ (test x ≡ true))
    → (list_any test xs ≡ true) ↔ ((x : Sent) × In x xs × (text x ≢ []))
any_written test text xs same =
    (λ h. let r = any_found test xs h in (r.0, r.1, (same r.0).1 r.2), λ r. any_in test xs r.0 r.1 ((same r.0).0 r.2))

either : (a b : Bool) (A B : Type 0) → ((a ≡ true) ↔ A) → ((b ≡ true) ↔ B) → ((a || b) ≡ true) ↔ (A ⊎ B)
either true b A B f g = (λ h. inl (f.0 refl), λ h. refl)
either false b A B f g =
    (λ h. inr (g.0 h), λ h. elim h [ inl a ↦ absurd (true≢false (sym (f.1 a))) | inr y ↦ g.1 y ])

-- ---- overlap bands
banded : (scale : Scale) (bottom : ℕ) (band : OverlapBand) (xs : List OverlapBand) → flat_map (overlap_band_text scale bottom) (bands_from scale band xs) ≢ []
banded scale bottom band [] = box_written Overlap _ _
banded scale bottom band (next ∷ others) =
    elim (touches scale band next) as (λ b. flat_map (overlap_band_text scale bottom)
    (cond b (bands_from scale (widened band next) others) (band ∷ bands_from scale next others)) ≢ []) [
      | true ↦ banded scale bottom (widened band next) others
      | false ↦ box_written Overlap _ _
    ]

any_banded : (scale : Scale) (bottom : ℕ) (xs : List Sent) → (list_any (is_overlapped scale) xs ≡ true)
    ↔ (flat_map (overlap_band_text scale bottom) (joined scale (map overlap_of (filter (is_overlapped scale) xs))) ≢ [])
any_banded scale bottom [] = (λ h. absurd (true≢false (sym h)), λ h. absurd (h refl))
any_banded scale bottom (x ∷ xs) =
    elim (is_overlapped scale x) as (λ b. ((b || list_any (is_overlapped scale) xs) ≡ true)
    ↔ (flat_map (overlap_band_text scale bottom) (joined scale (map overlap_of (cond b (x ∷ filter (is_overlapped scale) xs) (filter (is_overlapped scale) xs)))) ≢ [])) [
      | true ↦ (λ h. banded scale bottom (overlap_of x) (map overlap_of (filter (is_overlapped scale) xs)), λ h. refl)
      | false ↦ any_banded scale bottom xs
    ]

-- ---- timers
abbrev gap_line : Scale → LaneTimings → gaps.Gap → List ℕ
gap_line scale timings gap = box_text Gap (line_area scale (timings.top + gap_below) gap.from gap.to)

gap_written : (scale : Scale) (trace : Recording) (timings : LaneTimings) (sender : Sender) → (has_gap scale trace.list timings ≡ true) ↔ WritesGap scale trace timings sender
gap_written scale trace timings sender =
    either (list_any (has_gap_before scale trace.list timings) (sents trace.list)) (is_gap scale (last_lane_gap trace.list timings)) _ _
    (any_written (has_gap_before scale trace.list timings) (line_before scale trace.list timings) (sents trace.list)
    (λ x. both_written (is_first trace.list x) (is_gap scale (lane_gap trace.list timings x)) (gap_line scale timings (lane_gap trace.list timings x)) (some_text 60 _)))
    (turned (if_written (is_gap scale (last_lane_gap trace.list timings)) (gap_line scale timings (last_lane_gap trace.list timings)) (some_text 60 _)))

is_interval_written : (scale : Scale) (timings : LaneTimings) (last next : Option ℕ)
    → (interval_behind scale timings last next ≢ []) ↔ (is_interval scale timings last next ≡ true)
is_interval_written scale timings None next = (λ h. absurd (h refl), λ e. absurd (true≢false (sym e)))
is_interval_written scale timings (Some moment) next =
    let to : ℕ = interval_to timings.ti moment next in
    if_written (is_drawn scale moment to)
    (interval_text scale timings.top moment to ++ interval_end scale timings.top timings.ti moment to ++ interval_words scale timings.k timings.top timings.ti moment to)
    (some_text 60 _)

interval_written : (scale : Scale) (trace : Recording) (timings : LaneTimings) (sender : Sender)
    → (has_interval scale trace.list timings ≡ true) ↔ WritesInterval scale trace timings sender
interval_written scale trace timings sender =
    let last : Sent → Option ℕ = λ x. last_start timings.terminal (take x.at trace.list) in
    either (list_any (has_interval_before scale trace.list timings) (sents trace.list)) (is_interval scale timings (last_start timings.terminal trace.list) None) _ _ (
      λ h.
          let r = any_found (has_interval_before scale trace.list timings) (sents trace.list) h in
          let parts = and_parts (eqb r.0.terminal timings.terminal) (is_interval scale timings (last r.0) (Some r.0.moment)) r.2 in
          (r.0, r.1, eqb-true r.0.terminal timings.terminal parts.0, (is_interval_written scale timings (last r.0) (Some r.0.moment)).1 parts.1),
      λ r.
          any_in (has_interval_before scale trace.list timings) (sents trace.list) r.0 r.1
          (and_from (eqb r.0.terminal timings.terminal) (is_interval scale timings (last r.0) (Some r.0.moment)) (eq-eqb r.0.terminal timings.terminal r.2)
          ((is_interval_written scale timings (last r.0) (Some r.0.moment)).0 r.3)),
    )
    (turned (is_interval_written scale timings (last_start timings.terminal trace.list) None))

rounds_written : (scale : Scale) (top : ℕ) (f : ℕ → ℕ) (a n : ℕ)
    → (nat_lt 0 n ≡ true) ↔ (flat_map (tick_text scale top) (map f (range_with_len a n)) ≢ [])
rounds_written scale top f a zero = (λ h. absurd (true≢false (sym h)), λ h. absurd (h refl))
rounds_written scale top f a (suc n) = (λ h. box_written Mark (tick_area scale top (f a)) _, λ h. lt-ltb 0 (suc n) (omega arith))

ticks_written : (mode : Mode) (scale : Scale) (top ti at held : ℕ) → (has_tick mode scale ti at held ≡ true) ↔ (offsets_text mode scale top ti at held ≢ [])
ticks_written Aperiodic scale top ti at held = (λ h. absurd (true≢false (sym h)), λ h. absurd (h refl))
ticks_written Periodic scale top ti at held =
    rounds_written scale top (offset_moment ti at) (rounds_before ti at scale.from) (rounds_in scale ti at held)

some_of : (f : Sender → Bool) (o : Option Sender) → option_map_or f o false ≡ true → (s : Sender) × (o ≡ Some s) × (f s ≡ true)
some_of f None h = absurd (true≢false (sym h))
some_of f (Some s) h = (s, refl, h)

-- A mark of this kind is in one of these lanes.
timers_have : (scale : Scale) (lanes : List Lane) (table : Table) (trace : Recording) (mark : TimerMark) (of : LaneTimings → Sender → Type 0)
    → ((k : ℕ) (lane : Lane) (sender : Sender)
    → (sender_has scale table trace mark lane sender ≡ true) ↔ of (timings_of table trace.horizon k lane.terminal sender.tg) sender)
    → (has_timed scale table trace mark lanes ≡ true) ↔ HasTimer scale lanes table trace of
timers_have scale lanes table trace mark of same = (
  λ h.
      let parts = and_parts (is_near scale table.ti) (lanes_have scale table trace mark lanes) h in
      let r = any_found (lane_has scale table trace mark) lanes parts.1 in
      let at = in_at lanes r.0 r.1 in
      let s = some_of (sender_has scale table trace mark r.0) (sender_of table.senders r.0.terminal) r.2 in
      record { k = at.0; lane = r.0; sender = s.0; near = parts.0; drawn = at.1; sends = s.1; is = (same at.0 r.0 s.0).0 s.2 },
  λ t.
      let has : lane_has scale table trace mark t.lane ≡ true =
      ap (λ (o : Option Sender). option_map_or (sender_has scale table trace mark t.lane) o false) t.sends ∙ (same t.k t.lane t.sender).1 t.is in
      and_from (is_near scale table.ti) (lanes_have scale table trace mark lanes) t.near
      (any_in (lane_has scale table trace mark) lanes t.lane (at_in lanes t.k t.lane t.drawn) has),
)

sync_written : (scale : Scale) (sg : ℕ) (list : List Entry)
    → (has_sync scale sg list ≡ true) ↔ ((x : Sent) × In x (sents list) × (sync_before scale plot_top sg x ≢ []))
sync_written scale sg list =
    any_written (is_sync scale sg) (sync_before scale plot_top sg) (sents list)
    (λ x. both_written (is_behind_gap scale sg x) (is_drawn scale x.before (x.before + sg))
    (gap_at scale plot_top gap_room x.before (x.before + sg) (codes "SG " ++ decimal sg)) (some_text 60 _))

gaps_written : (scale : Scale) (lanes : List Lane) (table : Table) (trace : Recording)
    → ((is_near scale table.ti && (lanes_have scale table trace Gaps lanes || has_sync scale table.sg trace.list)) ≡ true)
    ↔ (HasTimer scale lanes table trace (WritesGap scale trace) ⊎ WritesSync scale table trace)
gaps_written scale lanes table trace =
    let near : Bool = is_near scale table.ti in
    let have : Bool = lanes_have scale table trace Gaps lanes in
    let sync : Bool = has_sync scale table.sg trace.list in
    let timers = timers_have scale lanes table trace Gaps (WritesGap scale trace)
    (λ k lane sender. gap_written scale trace (timings_of table trace.horizon k lane.terminal sender.tg) sender) in (
      λ h.
          let parts = and_parts near (have || sync) h in
          elim ((either have sync (have ≡ true) (sync ≡ true) (λ e. e, λ e. e) (λ e. e, λ e. e)).0 parts.1) [
            | inl there ↦ inl (timers.0 (and_from near have parts.0 there))
            | inr there ↦
                let r = (sync_written scale table.sg trace.list).0 there in
                inr (record { sent = r.0; there = r.1; near = parts.0; line = r.2 })
          ],
      λ h. elim h [
        | inl t ↦
            let parts = and_parts near have (timers.1 t) in
            and_from near (have || sync) parts.0 (or_left have sync parts.1)
        | inr w ↦ and_from near (have || sync) w.near (or_right have sync ((sync_written scale table.sg trace.list).1 (w.sent, w.there, w.line)))
      ],
    )

-- ---- behind the horizon
abbrev unseen : Scale → ℕ → ℕ → List ℕ
unseen scale bottom horizon =
    titled_text Unobserved (record { left = place scale horizon; top = plot_top; width = extent scale horizon scale.to; height = bottom - plot_top })
    (codes "not observed: the horizon is " ++ decimal horizon)

-- ---- the law
pub legend_lists_what_is_drawn : LegendListsWhatIsDrawn
legend_lists_what_is_drawn scale lanes table trace bottom top =
    let kinds = kinds_of scale lanes table trace in
    record {
      messages = through (if_written kinds.messages _ (some_text 60 _)) (through (plain_shown scale trace) (marked_boxes scale lanes trace false));
      garbled = through (if_written kinds.garbled _ (some_text 60 _)) (through (hurt_shown scale trace) (marked_boxes scale lanes trace true));
      overlap_bands = through (if_written kinds.overlap_bands _ (some_text 60 _)) (any_banded scale bottom (sents trace.list));
      unobserved = through (if_written kinds.unobserved _ (some_text 60 _)) (turned (if_written (goes_behind scale trace.horizon) (unseen scale bottom trace.horizon) (some_text 60 _)));
      gaps = through (if_written kinds.gaps _ (some_text 60 _)) (gaps_written scale lanes table trace);
      intervals = through (if_written kinds.intervals _ (some_text 60 _))
          (timers_have scale lanes table trace Intervals (WritesInterval scale trace)
          (λ k lane sender. interval_written scale trace (timings_of table trace.horizon k lane.terminal sender.tg) sender));
      offsets = through (if_written kinds.offsets _ (some_text 60 _))
          (timers_have scale lanes table trace Offsets (WritesTicks scale table trace)
          (λ k lane sender. ticks_written table.mode scale _ table.ti sender.at _));
      thin = through (if_written kinds.thin _ (some_text 60 _)) (thin_boxes scale lanes trace);
    }
