-- How a survey goes on, transmission by transmission.
use Rattle.std.proofs.Common.{◌≡◌, ℕ, ◌+◌, ◌^◌, ◌≤◌, Bool, true, false, cond, max, List, [], ◌∷◌, Option, arith, sym, ap, ◌∙◌}
use Rattle.std.proofs.lemmas.List.Sums.{fold-append}
use Rattle.bus_shapes.specs.declared.sent.Sent.{Sent}
use Rattle.bus_cycles.specs.Rows.{Cycle, Extent, Row, end_of_all, extent_of, is_new, row_at, rows_from, with_sent}
use Rattle.bus_cycles.specs.Cuts.{Seen, is_whole}
use Rattle.bus_cycles.specs.inside.Surveying.{Surveys, rest_of}
use Rattle.bus_cycles.specs.Surveys.{Survey, is_drawn, last_end_of, longest_with, nothing, told_of, whole_with, with_row}

pub longest_most : (origin_offset longest : ℕ) (row : Extent) (limit : ℕ) → longest ≤ limit → row.end + origin_offset ≤ limit
    → (longest_with origin_offset longest row ≤ limit) × (longest ≤ longest_with origin_offset longest row)
longest_most origin_offset longest row limit low ends =
    elim (is_drawn row.place) as (λ b. (cond b (max longest (last_end_of origin_offset row)) longest ≤ limit) × (longest ≤ cond b (max longest (last_end_of origin_offset row)) longest)) [
      | true ↦ (omega arith, omega arith)
      | false ↦ (omega arith, omega arith)
    ]

-- no more are whole than there are
pub whole_most : (t : Bool) (whole count : ℕ) → whole ≤ count → cond t (whole + 1) whole ≤ count + 1
whole_most true whole count h = omega arith
whole_most false whole count h = omega arith

-- an end is within its limit
pub end_with : (row : Row) (sent : Sent) → end_of_all (with_sent row sent).sents ≡ max (end_of_all row.sents) sent.end
end_with row sent = fold-append (λ end (s : Sent). max end s.end) 0 row.sents (sent ∷ [])

pub surveys_new : (seen : Seen) (breach : Option ℕ) (cycle : Cycle) (whole survey survey' : Survey) (extent extent' : Extent) (sent : Sent) (left : List Sent)
    → Surveys seen breach cycle whole survey extent (sent ∷ left) → sent.end + cycle.origin_offset ≤ 2 ^ 41 → is_new cycle extent.begin sent ≡ true
    → survey' ≡ with_row cycle seen breach survey extent → extent' ≡ extent_of (row_at cycle (extent.place + 1) sent) → Surveys seen breach cycle whole survey' extent' left
surveys_new seen breach cycle whole survey survey' extent extent' sent left s low new survey_is extent_is =
    let row : Row = s.row in
    let next : Row = row_at cycle (row.place + 1) sent in
    let place_is : extent.place ≡ row.place = ap (λ (e : Extent). e.place) s.extent_is in
    let begin_is : extent.begin ≡ row.begin = ap (λ (e : Extent). e.begin) s.extent_is in
    let now : is_new cycle row.begin sent ≡ true = ap (λ b. is_new cycle b sent) (sym begin_is) ∙ new in
    let now_is : extent' ≡ extent_of next = extent_is ∙ ap (λ p. extent_of (row_at cycle (p + 1) sent)) place_is in
    let longest = longest_most cycle.origin_offset survey.longest extent (2 ^ 41) s.low s.ends in
    let more : survey'.longest ≡ longest_with cycle.origin_offset survey.longest extent = ap (λ (v : Survey). v.longest) survey_is in
    let end_is : extent'.end ≡ max 0 sent.end = ap (λ (e : Extent). e.end) now_is in
    let counted : survey'.count ≡ survey.count + 1 = ap (λ (v : Survey). v.count) survey_is in
    let whole_is : survey'.whole ≡ whole_with cycle seen survey.whole extent = ap (λ (v : Survey). v.whole) survey_is in
    let whole_low : whole_with cycle seen survey.whole extent ≤ survey.count + 1 = whole_most (is_whole cycle seen extent) survey.whole survey.count s.whole in
    let place_now : extent'.place ≡ row.place + 1 = ap (λ (e : Extent). e.place) now_is in
    let some_was : cycle.ti ≤ survey.longest = s.some in
    let count_was : survey.count ≡ extent.place = s.count in
    let least : survey.longest ≤ longest_with cycle.origin_offset survey.longest extent = longest.1 in
    let most : longest_with cycle.origin_offset survey.longest extent ≤ 2 ^ 41 = longest.0 in
    record {
      row = next;
      extent_is = now_is;
      whole_is = ap (λ v. rest_of cycle seen breach v (rows_from cycle next left)) (survey_is ∙ ap (with_row cycle seen breach survey) s.extent_is)
          ∙ ap (rest_of cycle seen breach survey) (sym (ap (λ t. cond t (row ∷ rows_from cycle next left) (rows_from cycle (with_sent row sent) left)) now))
          ∙ s.whole_is;
      some = omega arith;
      low = omega arith;
      ends = omega arith;
      count = omega arith;
      whole = omega arith;
    }

pub surveys_more : (seen : Seen) (breach : Option ℕ) (cycle : Cycle) (whole survey : Survey) (extent extent' : Extent) (sent : Sent) (left : List Sent)
    → Surveys seen breach cycle whole survey extent (sent ∷ left) → sent.end + cycle.origin_offset ≤ 2 ^ 41 → is_new cycle extent.begin sent ≡ false
    → ((row : Row) → extent ≡ extent_of row → extent' ≡ extent_of (with_sent row sent)) → Surveys seen breach cycle whole survey extent' left
surveys_more seen breach cycle whole survey extent extent' sent left s low new extent_is =
    let row : Row = s.row in
    let next : Row = with_sent row sent in
    let begin_is : extent.begin ≡ row.begin = ap (λ (e : Extent). e.begin) s.extent_is in
    let now : is_new cycle row.begin sent ≡ false = ap (λ b. is_new cycle b sent) (sym begin_is) ∙ new in
    let now_is : extent' ≡ extent_of next = extent_is row s.extent_is in
    let end_is : extent'.end ≡ max (end_of_all row.sents) sent.end = ap (λ (e : Extent). e.end) now_is ∙ end_with row sent in
    let end_was : extent.end ≡ end_of_all row.sents = ap (λ (e : Extent). e.end) s.extent_is in
    let place_is : extent.place ≡ row.place = ap (λ (e : Extent). e.place) s.extent_is in
    let place_now : extent'.place ≡ row.place = ap (λ (e : Extent). e.place) now_is in
    let ends_was : extent.end + cycle.origin_offset ≤ 2 ^ 41 = s.ends in
    let count_was : survey.count ≡ extent.place = s.count in
    record {
      row = next;
      extent_is = now_is;
      whole_is = ap (rest_of cycle seen breach survey) (sym (ap (λ t. cond t (row ∷ rows_from cycle (row_at cycle (row.place + 1) sent) left) (rows_from cycle next left)) now))
          ∙ s.whole_is;
      some = s.some;
      low = s.low;
      ends = omega arith;
      count = omega arith;
      whole = s.whole;
    }

pub surveys_end : (seen : Seen) (breach : Option ℕ) (cycle : Cycle) (whole survey result : Survey) (extent : Extent) (left : List Sent) → Surveys seen breach cycle whole survey extent left → left ≡ []
    → result ≡ with_row cycle seen breach survey extent → (result ≡ whole) × (cycle.ti ≤ result.longest) × (result.longest ≤ 2 ^ 41)
surveys_end seen breach cycle whole survey result extent left s none result_is =
    let longest = longest_most cycle.origin_offset survey.longest extent (2 ^ 41) s.low s.ends in
    let more : result.longest ≡ longest_with cycle.origin_offset survey.longest extent = ap (λ (v : Survey). v.longest) result_is in
    let least : survey.longest ≤ longest_with cycle.origin_offset survey.longest extent = longest.1 in
    let most : longest_with cycle.origin_offset survey.longest extent ≤ 2 ^ 41 = longest.0 in
    let some_was : cycle.ti ≤ survey.longest = s.some in (
      result_is ∙ ap (with_row cycle seen breach survey) s.extent_is ∙ ap (λ l. rest_of cycle seen breach survey (rows_from cycle s.row l)) (sym none) ∙ s.whole_is,
      omega arith,
      omega arith,
    )

pub surveys_first : (seen : Seen) (breach : Option ℕ) (cycle : Cycle) (survey : Survey) (extent : Extent) (first : Sent) (left : List Sent) → survey ≡ nothing cycle
    → extent ≡ extent_of (row_at cycle 0 first) → first.end + cycle.origin_offset ≤ 2 ^ 41 → cycle.ti ≤ 2 ^ 41 → Surveys seen breach cycle (told_of cycle seen breach (first ∷ left)) survey extent left
surveys_first seen breach cycle survey extent first left survey_is extent_is low short =
    let longest_is : survey.longest ≡ cycle.ti = ap (λ (v : Survey). v.longest) survey_is in
    let count_is : survey.count ≡ 0 = ap (λ (v : Survey). v.count) survey_is in
    let whole_is : survey.whole ≡ 0 = ap (λ (v : Survey). v.whole) survey_is in
    let place_is : extent.place ≡ 0 = ap (λ (e : Extent). e.place) extent_is in
    let end_is : extent.end ≡ max 0 first.end = ap (λ (e : Extent). e.end) extent_is in
    record {
      row = row_at cycle 0 first;
      extent_is = extent_is;
      whole_is = ap (λ v. rest_of cycle seen breach v (rows_from cycle (row_at cycle 0 first) left)) survey_is;
      some = omega arith;
      low = omega arith;
      ends = omega arith;
      count = omega arith;
      whole = omega arith;
    }
