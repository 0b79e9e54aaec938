-- All boxes of transmissions come behind the marks of the table.
use Rattle.std.proofs.Common.{◌≡◌, ℕ, Bool, true, false, List, [], ◌++◌, sym, refl, ap, subst, append-nil, append_assoc, ◌∙◌}
use Rattle.std.specs.Prelude.{filter, not}
use Rattle.std.specs.List.{flat_map}
use Rattle.bus_strings.proofs.MemberLaws.{in_filter}
use Rattle.bus_strings.specs.Members.{In}
use Rattle.bus_shapes.specs.declared.sent.Sent.{Sent}
use Rattle.bus_shapes.specs.Frames.{tail_text}
use Rattle.bus_cycles.specs.CyclesTexts.{below_text, breach_text, marks_text, page_in, survey_in, under_rows}
use Rattle.bus_cycles.specs.Faults.{faults_text}
use Rattle.bus_cycles.specs.Loads.{loads_text}
use Rattle.bus_cycles.specs.Laws.{IsPartOf, kept}
use Rattle.bus_cycles.specs.Pages.{Page}
use Rattle.bus_cycles.specs.PictureLaws.{MarksHideNoBox}
use Rattle.bus_cycles.specs.Rows.{Row, extent_of, rows}
use Rattle.bus_cycles.specs.RowTexts.{Shaded, boxes, drawing_of, ending_text, is_due, row_text, rows_text, walk_text}
use Rattle.bus_cycles.specs.Surveys.{Survey, breach_in}
use Rattle.bus_cycles.proofs.DrawnLemmas.{kept_drawn}
use Rattle.bus_cycles.proofs.MarkedLemmas.{part_front, part_in, part_of}

-- a part of what comes behind something
part_behind : (part front whole : List ℕ) → IsPartOf part whole → IsPartOf part (front ++ whole)
part_behind part front whole p = part_in part whole (front ++ whole) p (record { front = front; back = []; whole_is = sym (append-nil (front ++ whole)) })

-- a transmission is due in the walk of its kind
due_in_own : (b : Bool) (sent : Sent) → sent.garbled ≡ b → is_due b sent ≡ true
due_in_own true sent e = e
due_in_own false sent e = ap not e

-- the box of one that isn't left out is in that walk
in_walk : (page : Page) (all : List Row) (row : Row) (x : Shaded) (b : Bool) → In row all → In x (kept page row.begin [] row.sents)
    → x.sent.garbled ≡ b → IsPartOf (drawing_of page row.place row.begin x) (walk_text page b all)
in_walk page all row x b one own e =
    let drawing : List ℕ = drawing_of page row.place row.begin x in
    let due_of : Shaded → Bool = λ y. is_due b y.sent in
    let due : List Shaded = filter due_of (kept page row.begin [] row.sents) in
    let here : IsPartOf drawing (flat_map (drawing_of page row.place row.begin) due) =
    part_of (drawing_of page row.place row.begin) due x (in_filter due_of (kept page row.begin [] row.sents) x own (due_in_own b x.sent e)) in
    let box : IsPartOf drawing (boxes page b row.place row.begin [] row.sents) =
    subst (IsPartOf drawing) (sym (kept_drawn page b row.place row.begin row.sents)) here in
    part_in drawing (row_text page b row) (walk_text page b all)
    (part_front drawing (boxes page b row.place row.begin [] row.sents) (ending_text page b (extent_of row)) box)
    (part_of (row_text page b) all row one)

in_rows : (page : Page) (all : List Row) (row : Row) (x : Shaded) (b : Bool) → In row all → In x (kept page row.begin [] row.sents)
    → x.sent.garbled ≡ b → IsPartOf (drawing_of page row.place row.begin x) (rows_text page all)
in_rows page all row x true one own e =
    part_behind (drawing_of page row.place row.begin x) (walk_text page false all) (walk_text page true all) (in_walk page all row x true one own e)
in_rows page all row x false one own e =
    part_front (drawing_of page row.place row.begin x) (walk_text page false all) (walk_text page true all) (in_walk page all row x false one own e)

-- what comes behind a front, put together
behind_front : (a b c d e f g : List ℕ) → a ++ b ++ c ++ d ++ e ++ f ++ g ≡ a ++ (b ++ c ++ d ++ e ++ f ++ g)
behind_front a b c d e f g =
    ap (λ t. t ++ d ++ e ++ f ++ g) (append_assoc a b c)
    ∙ ap (λ t. t ++ e ++ f ++ g) (append_assoc a (b ++ c) d)
    ∙ ap (λ t. t ++ f ++ g) (append_assoc a (b ++ c ++ d) e)
    ∙ ap (λ t. t ++ g) (append_assoc a (b ++ c ++ d ++ e) f)
    ∙ append_assoc a (b ++ c ++ d ++ e ++ f) g

pub marks_hide_no_box : MarksHideNoBox
marks_hide_no_box frame window verdict told table trace row x one own =
    let page : Page = page_in window told table trace in
    let survey : Survey = survey_in window told table trace in
    let all : List Row = rows table window trace.list in
    let drawing : List ℕ = drawing_of page row.place row.begin x in
    let loads : List ℕ = loads_text page trace.list all in
    let below : List ℕ = below_text page in
    let breach : List ℕ = breach_text page (breach_in window told) survey.marked in
    let faults : List ℕ = faults_text page told all in
    let front : List ℕ = under_rows frame page survey window told table trace ++ marks_text page table verdict in
    let a : IsPartOf drawing (rows_text page all) = in_rows page all row x x.sent.garbled one own refl in
    let b = part_front drawing (rows_text page all) loads a in
    let c = part_front drawing (rows_text page all ++ loads) below b in
    let d = part_front drawing (rows_text page all ++ loads ++ below) breach c in
    let e = part_front drawing (rows_text page all ++ loads ++ below ++ breach) faults d in
    record {
      behind = rows_text page all ++ loads ++ below ++ breach ++ faults ++ tail_text;
      whole_is = behind_front front (rows_text page all) loads below breach faults tail_text;
      over = part_front drawing (rows_text page all ++ loads ++ below ++ breach ++ faults) tail_text e;
    }
