-- How the begins of rows are told, and how rows are looked through, transmission by transmission.
use Rattle.std.proofs.Common.{◌≡◌, ℕ, ◌+◌, Bool, true, false, cond, ◌||◌, ◌&&◌, map, List, [], ◌∷◌, ◌++◌, sym, refl, ap, ◌∙◌, append_assoc, append-nil}
use Rattle.std.specs.Prelude.{filter}
use Rattle.std.specs.List.{list_any}
use Rattle.std.proofs.lemmas.List.Folds.{list_any-append}
use Rattle.bus_strings.proofs.TestLaws.{or_false}
use Rattle.bus_findings.specs.declared.judgement.Judgement.{Judgement}
use Rattle.bus_shapes.specs.declared.sent.Sent.{Sent}
use Rattle.bus_cycles.specs.Dues.{begins_of}
use Rattle.bus_cycles.specs.Faults.{any_marked, has_fault, is_marked}
use Rattle.bus_cycles.specs.inside.Beginning.{Begins, begin_where}
use Rattle.bus_cycles.specs.inside.Marking.{Holds}
use Rattle.bus_cycles.specs.inside.Seeking.{Seeks}
use Rattle.bus_cycles.specs.Rows.{Cycle, Extent, Row, extent_of, is_new, row_at, rows_from, rows_of, with_sent}
use Rattle.bus_cycles.specs.Surveys.{is_drawn}
use Rattle.bus_cycles.proofs.FaultLemmas.{holds_more}

-- ---- the begins of drawn rows
pub begins_cons : (row : Row) (rest : List Row) → begins_of (row ∷ rest) ≡ begin_where row.place row.begin ++ begins_of rest
begins_cons row rest =
    elim (is_drawn row.place) as (λ b. map (λ (r : Row). r.begin) (cond b (row ∷ filter (λ (r : Row). is_drawn r.place) rest) (filter (λ (r : Row). is_drawn r.place) rest))
    ≡ cond b (row.begin ∷ []) [] ++ begins_of rest) [ true ↦ refl | false ↦ refl ]

pub begins_first : (cycle : Cycle) (extent : Extent) (first : Sent) (left : List Sent) → extent ≡ extent_of (row_at cycle 0 first)
    → Begins cycle (begins_of (rows_of cycle (first ∷ left))) [] extent left
begins_first cycle extent first left is = record {
  row = row_at cycle 0 first;
  place = ap (λ (e : Extent). e.place) is;
  begin = ap (λ (e : Extent). e.begin) is;
  whole_is = refl;
}

-- the rows from one on, by whether the next transmission begins another
rows_next : (cycle : Cycle) (row : Row) (extent : Extent) (sent : Sent) (left : List Sent) (b : Bool) → extent.begin ≡ row.begin → is_new cycle extent.begin sent ≡ b
    → rows_from cycle row (sent ∷ left) ≡ cond b (row ∷ rows_from cycle (row_at cycle (row.place + 1) sent) left) (rows_from cycle (with_sent row sent) left)
rows_next cycle row extent sent left b at new =
    ap (λ t. cond t (row ∷ rows_from cycle (row_at cycle (row.place + 1) sent) left) (rows_from cycle (with_sent row sent) left))
    (ap (λ n. is_new cycle n sent) (sym at) ∙ new)

pub begins_new : (cycle : Cycle) (whole begins begins' : List ℕ) (extent extent' : Extent) (sent : Sent) (left : List Sent)
    → Begins cycle whole begins extent (sent ∷ left) → is_new cycle extent.begin sent ≡ true
    → begins' ≡ begins ++ begin_where extent.place extent.begin → extent' ≡ extent_of (row_at cycle (extent.place + 1) sent)
    → Begins cycle whole begins' extent' left
begins_new cycle whole begins begins' extent extent' sent left was new added is =
    let row : Row = was.row in
    let next : Row = row_at cycle (row.place + 1) sent in
    let next_is : extent' ≡ extent_of next = is ∙ ap (λ n. extent_of (row_at cycle (n + 1) sent)) was.place in
    let here : begin_where extent.place extent.begin ≡ begin_where row.place row.begin =
    ap (λ n. begin_where n extent.begin) was.place ∙ ap (begin_where row.place) was.begin in
    record {
      row = next;
      place = ap (λ (e : Extent). e.place) next_is;
      begin = ap (λ (e : Extent). e.begin) next_is;
      whole_is = ap (λ t. t ++ begins_of (rows_from cycle next left)) (added ∙ ap (λ t. begins ++ t) here)
          ∙ append_assoc begins (begin_where row.place row.begin) (begins_of (rows_from cycle next left))
          ∙ ap (λ t. begins ++ t) (sym (begins_cons row (rows_from cycle next left)))
          ∙ ap (λ l. begins ++ begins_of l) (sym (rows_next cycle row extent sent left true was.begin new))
          ∙ was.whole_is;
    }

pub begins_more : (cycle : Cycle) (whole begins : List ℕ) (extent : Extent) (sent : Sent) (left : List Sent) → Begins cycle whole begins extent (sent ∷ left)
    → is_new cycle extent.begin sent ≡ false → Begins cycle whole begins extent left
begins_more cycle whole begins extent sent left was new = record {
  row = with_sent was.row sent;
  place = was.place;
  begin = was.begin;
  whole_is = ap (λ l. begins ++ begins_of l) (sym (rows_next cycle was.row extent sent left false was.begin new)) ∙ was.whole_is;
}

pub begins_end : (cycle : Cycle) (whole begins begins' : List ℕ) (extent : Extent) (left : List Sent) → Begins cycle whole begins extent left → left ≡ []
    → begins' ≡ begins ++ begin_where extent.place extent.begin → begins' ≡ whole
begins_end cycle whole begins begins' extent left was none added =
    added
    ∙ ap (λ n. begins ++ begin_where n extent.begin) was.place
    ∙ ap (λ n. begins ++ begin_where was.row.place n) was.begin
    ∙ ap (λ t. begins ++ t) (sym (begins_cons was.row [] ∙ append-nil (begin_where was.row.place was.row.begin)))
    ∙ ap (λ l. begins ++ begins_of (rows_from cycle was.row l)) (sym none)
    ∙ was.whole_is

-- ---- faults of drawn rows
pub seeks_first : (cycle : Cycle) (found : List Judgement) (any : Bool) (extent : Extent) (first : Sent) (left : List Sent)
    → extent ≡ extent_of (row_at cycle 0 first) → any ≡ has_fault found first
    → Seeks cycle found (any_marked found (rows_of cycle (first ∷ left))) false any extent left
seeks_first cycle found any extent first left is e = record {
  row = row_at cycle 0 first;
  holds = record { extent_is = is; any_is = e ∙ sym (or_false (has_fault found first)) };
  whole_is = refl;
}

or_assoc : (a b c : Bool) → ((a || b) || c) ≡ (a || (b || c))
or_assoc true b c = refl
or_assoc false b c = refl

-- whether one is marked in the row that has been looked through
here_is : (found : List Judgement) (row : Row) (extent : Extent) (any : Bool) → Holds found row extent any
    → (is_drawn extent.place && any) ≡ is_marked found row
here_is found row extent any holds =
    ap (λ (e : Extent). is_drawn e.place && any) holds.extent_is ∙ ap (λ b. is_drawn row.place && b) holds.any_is

pub seeks_new : (cycle : Cycle) (found : List Judgement) (whole marked marked' any any' : Bool) (extent extent' : Extent) (sent : Sent) (left : List Sent)
    → Seeks cycle found whole marked any extent (sent ∷ left) → is_new cycle extent.begin sent ≡ true
    → marked' ≡ (marked || (is_drawn extent.place && any)) → extent' ≡ extent_of (row_at cycle (extent.place + 1) sent) → any' ≡ has_fault found sent
    → Seeks cycle found whole marked' any' extent' left
seeks_new cycle found whole marked marked' any any' extent extent' sent left was new m is e =
    let row : Row = was.row in
    let next : Row = row_at cycle (row.place + 1) sent in
    let place_is : extent.place ≡ row.place = ap (λ (x : Extent). x.place) was.holds.extent_is in
    let begin_is : extent.begin ≡ row.begin = ap (λ (x : Extent). x.begin) was.holds.extent_is in
    record {
      row = next;
      holds = record {
        extent_is = is ∙ ap (λ n. extent_of (row_at cycle (n + 1) sent)) place_is;
        any_is = e ∙ sym (or_false (has_fault found sent));
      };
      whole_is = ap (λ b. b || any_marked found (rows_from cycle next left)) (m ∙ ap (λ b. marked || b) (here_is found row extent any was.holds))
          ∙ or_assoc marked (is_marked found row) (any_marked found (rows_from cycle next left))
          ∙ ap (λ l. marked || any_marked found l) (sym (rows_next cycle row extent sent left true begin_is new))
          ∙ was.whole_is;
    }

pub seeks_more : (cycle : Cycle) (found : List Judgement) (whole marked any any' : Bool) (extent extent' : Extent) (sent : Sent) (left : List Sent)
    → Seeks cycle found whole marked any extent (sent ∷ left) → is_new cycle extent.begin sent ≡ false
    → ((row : Row) → extent ≡ extent_of row → extent' ≡ extent_of (with_sent row sent)) → any' ≡ (any || has_fault found sent)
    → Seeks cycle found whole marked any' extent' left
seeks_more cycle found whole marked any any' extent extent' sent left was new is e =
    let begin_is : extent.begin ≡ was.row.begin = ap (λ (x : Extent). x.begin) was.holds.extent_is in
    record {
      row = with_sent was.row sent;
      holds = holds_more found was.row extent extent' any any' sent was.holds (is was.row was.holds.extent_is) e;
      whole_is = ap (λ l. marked || any_marked found l) (sym (rows_next cycle was.row extent sent left false begin_is new)) ∙ was.whole_is;
    }

pub seeks_end : (cycle : Cycle) (found : List Judgement) (whole marked marked' any : Bool) (extent : Extent) (left : List Sent)
    → Seeks cycle found whole marked any extent left → left ≡ [] → marked' ≡ (marked || (is_drawn extent.place && any)) → marked' ≡ whole
seeks_end cycle found whole marked marked' any extent left was none m =
    m ∙ ap (λ b. marked || b) (here_is found was.row extent any was.holds)
    ∙ ap (λ b. marked || b) (sym (or_false (is_marked found was.row)))
    ∙ ap (λ l. marked || any_marked found (rows_from cycle was.row l)) (sym none)
    ∙ was.whole_is

-- ---- the kinds of a row with one transmission more
pub any_more : (test : Sent → Bool) (sents : List Sent) (sent : Sent) → list_any test (sents ++ sent ∷ []) ≡ (list_any test sents || test sent)
any_more test sents sent = list_any-append test sents (sent ∷ []) ∙ ap (λ b. list_any test sents || b) (or_false (test sent))
