-- How the faults of rows are marked, transmission by transmission.
use Rattle.std.proofs.Common.{◌≡◌, ℕ, ◌+◌, Bool, true, false, cond, ◌||◌, List, [], ◌∷◌, ◌++◌, Option, sym, refl, ap, subst, ◌∙◌, append_assoc, append-nil}
use Rattle.std.proofs.lemmas.List.Folds.{list_any-append}
use Rattle.bus_outer.specs.Texts.{Adds}
use Rattle.bus_outer.proofs.TextLaws.{◌▸◌}
use Rattle.bus_outer.specs.declared.text_buffer.TextBuffer.{TextBuffer}
use Rattle.bus_strings.proofs.ListLaws.{flat_map-push}
use Rattle.bus_strings.proofs.TestLaws.{or_false}
use Rattle.bus_findings.specs.declared.judgement.Judgement.{Judgement}
use Rattle.bus_shapes.specs.declared.sent.Sent.{Sent}
use Rattle.bus_cycles.specs.Faults.{fault_text, fault_word, faults_of, has_fault, row_faults}
use Rattle.bus_cycles.specs.inside.Drawing.{next_row}
use Rattle.bus_cycles.specs.inside.Marking.{Holds, Marks, any_in, marks_of, more_marks, new_marks, next_marks}
use Rattle.bus_cycles.specs.Pages.{Page}
use Rattle.bus_cycles.specs.Rows.{Extent, Row, extent_of, is_new, row_at, rows_from, rows_of, with_sent}

-- ---- what is kept of a row
pub holds_first : (found : List Judgement) (page : Page) (place : ℕ) (extent : Extent) (any : Bool) (sent : Sent) → extent ≡ extent_of (row_at page.cycle place sent)
    → any ≡ has_fault found sent → Holds found (row_at page.cycle place sent) extent any
holds_first found page place extent any sent is e = record { extent_is = is; any_is = e ∙ sym (or_false (has_fault found sent)) }

pub holds_more : (found : List Judgement) (row : Row) (extent extent' : Extent) (any any' : Bool) (sent : Sent) → Holds found row extent any
    → extent' ≡ extent_of (with_sent row sent) → any' ≡ (any || has_fault found sent) → Holds found (with_sent row sent) extent' any'
holds_more found row extent extent' any any' sent was is e = record {
  extent_is = is;
  any_is = e ∙ ap (λ b. b || has_fault found sent) was.any_is
      ∙ sym (list_any-append (has_fault found) row.sents (sent ∷ []) ∙ ap (λ b. any_in found row || b) (or_false (has_fault found sent)));
}

-- ---- the walk
-- the first transmission
pub marks_first : {K : Type 0} (held : K → Option (List ℕ)) (faults : K → ℕ) (k k' : K) (a b : TextBuffer) (page : Page) (found : List Judgement) (extent : Extent)
    (any : Bool) (first : Sent) (left : List Sent) → extent ≡ extent_of (row_at page.cycle 0 first) → any ≡ has_fault found first
    → Adds held faults k k' a b (fault_text page found extent.place extent.begin first)
    → Marks held faults k k' a b page found (faults_of page found (rows_of page.cycle (first ∷ left))) extent any left
marks_first held faults k k' a b page found extent any first left is e adds = record {
  row = row_at page.cycle 0 first;
  holds = holds_first found page 0 extent any first is e;
  front = [];
  adds = subst (λ (t : List ℕ). Adds held faults k k' a b t)
      (ap (λ (e : Extent). fault_text page found e.place e.begin first) is ∙ sym (append-nil (fault_text page found 0 (row_at page.cycle 0 first).begin first))) adds;
  whole_is = refl;
}

-- the next transmission
pub marks_next : {K : Type 0} (held : K → Option (List ℕ)) (faults : K → ℕ) (k k' k'' : K) (a b c : TextBuffer) (page : Page) (found : List Judgement) (whole : List ℕ)
    (extent extent' : Extent) (any any' : Bool) (sent : Sent) (left : List Sent) → Marks held faults k k' a b page found whole extent any (sent ∷ left)
    → ((was : Row) → Holds found was extent any → Adds held faults k' k'' b c (next_marks page found was sent))
    → ((was : Row) → Holds found was extent any → Holds found (next_row page was sent) extent' any')
    → Marks held faults k k'' a c page found whole extent' any' left
marks_next held faults k k' k'' a b c page found whole extent extent' any any' sent left d adds keeps = both (is_new page.cycle d.row.begin sent) refl
  where
    row : Row
    row = d.row

    so_far : List ℕ
    so_far = marks_of page found row

    word : List ℕ
    word = fault_word page row.place (any_in found row)

    mark : Row → List ℕ
    mark r = fault_text page found r.place r.begin sent

    both : (t : Bool) → is_new page.cycle row.begin sent ≡ t → Marks held faults k k'' a c page found whole extent' any' left
    both true e =
        let next : Row = row_at page.cycle (row.place + 1) sent in
        let row_is : next_row page row sent ≡ next = ap (λ t. cond t next (with_sent row sent)) e in
        let text_is : next_marks page found row sent ≡ word ++ mark next = ap (λ t. cond t (new_marks page found row sent) (more_marks page found row sent)) e in
        record {
          row = next;
          holds = subst (λ r. Holds found r extent' any') row_is (keeps row d.holds);
          front = d.front ++ row_faults page found row;
          adds = subst (λ (t : List ℕ). Adds held faults k k'' a c t)
              (ap (λ t. (d.front ++ so_far) ++ t) text_is
              ∙ append_assoc d.front so_far (word ++ mark next)
              ∙ ap (λ t. d.front ++ t) (sym (append_assoc so_far word (mark next)))
              ∙ sym (append_assoc d.front (so_far ++ word) (mark next))
              ∙ ap (λ t. (d.front ++ (so_far ++ word)) ++ t) (sym (append-nil (mark next))))
              (d.adds ▸ adds row d.holds);
          whole_is = append_assoc d.front (row_faults page found row) (faults_of page found (rows_from page.cycle next left))
              ∙ ap (λ t. d.front ++ faults_of page found t) (sym (ap (λ t. cond t (row ∷ rows_from page.cycle next left) (rows_from page.cycle (with_sent row sent) left)) e))
              ∙ d.whole_is;
        }
    both false e =
        let next : Row = with_sent row sent in
        let row_is : next_row page row sent ≡ next = ap (λ t. cond t (row_at page.cycle (row.place + 1) sent) next) e in
        let text_is : next_marks page found row sent ≡ mark next = ap (λ t. cond t (new_marks page found row sent) (more_marks page found row sent)) e in
        record {
          row = next;
          holds = subst (λ r. Holds found r extent' any') row_is (keeps row d.holds);
          front = d.front;
          adds = subst (λ (t : List ℕ). Adds held faults k k'' a c t)
              (ap (λ t. (d.front ++ so_far) ++ t) text_is
              ∙ append_assoc d.front so_far (mark next)
              ∙ ap (λ t. d.front ++ t) (sym (flat_map-push (fault_text page found row.place row.begin) row.sents sent)))
              (d.adds ▸ adds row d.holds);
          whole_is = ap (λ t. d.front ++ faults_of page found t) (sym (ap (λ t. cond t (row ∷ rows_from page.cycle (row_at page.cycle (row.place + 1) sent) left) (rows_from page.cycle next left)) e))
              ∙ d.whole_is;
        }

-- no transmission more
pub marks_end : {K : Type 0} (held : K → Option (List ℕ)) (faults : K → ℕ) (k k' k'' : K) (a b c : TextBuffer) (page : Page) (found : List Judgement) (whole : List ℕ)
    (extent : Extent) (any : Bool) (left : List Sent) → Marks held faults k k' a b page found whole extent any left → left ≡ []
    → Adds held faults k' k'' b c (fault_word page extent.place any) → Adds held faults k k'' a c whole
marks_end held faults k k' k'' a b c page found whole extent any left d none ends =
    subst (λ (t : List ℕ). Adds held faults k k'' a c t)
    (ap (λ (e : Extent). (d.front ++ marks_of page found d.row) ++ fault_word page e.place any) d.holds.extent_is
    ∙ ap (λ b. (d.front ++ marks_of page found d.row) ++ fault_word page d.row.place b) d.holds.any_is
    ∙ append_assoc d.front (marks_of page found d.row) (fault_word page d.row.place (any_in found d.row))
    ∙ ap (λ t. d.front ++ t) (sym (append-nil (row_faults page found d.row)))
    ∙ ap (λ l. d.front ++ faults_of page found (rows_from page.cycle d.row l)) (sym none)
    ∙ d.whole_is)
    (d.adds ▸ ends)

-- ---- the next transmission, by whether it begins a row
pub next_is : (page : Page) (found : List Judgement) (row : Row) (extent : Extent) (any : Bool) (sent : Sent) (b : Bool) → Holds found row extent any
    → is_new page.cycle extent.begin sent ≡ b
    → (next_marks page found row sent ≡ cond b (new_marks page found row sent) (more_marks page found row sent))
    × (next_row page row sent ≡ cond b (row_at page.cycle (row.place + 1) sent) (with_sent row sent))
next_is page found row extent any sent b holds new =
    let now : is_new page.cycle row.begin sent ≡ b = ap (λ (e : Extent). is_new page.cycle e.begin sent) (sym holds.extent_is) ∙ new in
    (ap (λ t. cond t (new_marks page found row sent) (more_marks page found row sent)) now, ap (λ t. cond t (row_at page.cycle (row.place + 1) sent) (with_sent row sent)) now)
