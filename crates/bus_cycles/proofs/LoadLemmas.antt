-- How the loads of rows go on, transmission by transmission.
use Rattle.std.proofs.Common.{◌≡◌, ℕ, ◌+◌, Bool, true, false, cond, List, [], ◌∷◌, ◌++◌, Option, sym, refl, ap, subst, ◌∙◌, append_assoc, append-nil}
use Rattle.bus_outer.specs.Texts.{Adds}
use Rattle.bus_outer.proofs.TextLaws.{adds_nothing, ◌▸◌}
use Rattle.bus_outer.specs.declared.text_buffer.TextBuffer.{TextBuffer}
use Rattle.bus_strings.specs.Messages.{Entry}
use Rattle.bus_shapes.specs.declared.sent.Sent.{Sent}
use Rattle.bus_cycles.specs.inside.Drawing.{next_row}
use Rattle.bus_cycles.specs.inside.Loading.{Loads, next_load}
use Rattle.bus_cycles.specs.Loads.{load_at, load_text, loads_text}
use Rattle.bus_cycles.specs.Pages.{Page}
use Rattle.bus_cycles.specs.Rows.{Extent, Row, extent_of, is_new, row_at, rows_from, rows_of, with_sent}

-- what the next transmission adds where it begins a row
pub next_is : (page : Page) (list : List Entry) (row : Row) (extent : Extent) (sent : Sent) → extent ≡ extent_of row
    → is_new page.cycle extent.begin sent ≡ true → next_load page list row sent ≡ load_at page list extent
next_is page list row extent sent same new =
    let now : is_new page.cycle row.begin sent ≡ true = ap (λ (e : Extent). is_new page.cycle e.begin sent) (sym same) ∙ new in
    ap (λ t. cond t (load_text page list row) []) now ∙ ap (load_at page list) (sym same)

-- the next transmission
pub loads_next : {K : Type 0} (held : K → Option (List ℕ)) (faults : K → ℕ) (k k' k'' : K) (a b c : TextBuffer) (page : Page) (list : List Entry) (whole : List ℕ)
    (extent extent' : Extent) (sent : Sent) (left : List Sent) → Loads held faults k k' a b page list whole extent (sent ∷ left)
    → ((was : Row) → extent ≡ extent_of was → Adds held faults k' k'' b c (next_load page list was sent))
    → ((was : Row) → extent ≡ extent_of was → extent' ≡ extent_of (next_row page was sent))
    → Loads held faults k k'' a c page list whole extent' left
loads_next held faults k k' k'' a b c page list whole extent extent' sent left d adds keeps = record {
  row = next_row page row sent;
  extent_is = keeps row d.extent_is;
  front = d.front ++ next_load page list row sent;
  adds = d.adds ▸ adds row d.extent_is;
  whole_is = append_assoc d.front (next_load page list row sent) (loads_text page list (rows_from page.cycle (next_row page row sent) left))
      ∙ ap (λ t. d.front ++ t) (sym (split (is_new page.cycle row.begin sent))) ∙ d.whole_is;
}
  where
    row : Row
    row = d.row

    split : (b : Bool)
        → loads_text page list (cond b (row ∷ rows_from page.cycle (row_at page.cycle (row.place + 1) sent) left) (rows_from page.cycle (with_sent row sent) left))
        ≡ cond b (load_text page list row) [] ++ loads_text page list (rows_from page.cycle (cond b (row_at page.cycle (row.place + 1) sent) (with_sent row sent)) left)
    split true = refl
    split false = refl

-- no transmission more
pub loads_end : {K : Type 0} (held : K → Option (List ℕ)) (faults : K → ℕ) (k k' k'' : K) (a b c : TextBuffer) (page : Page) (list : List Entry) (whole : List ℕ)
    (extent : Extent) (left : List Sent) → Loads held faults k k' a b page list whole extent left → left ≡ []
    → Adds held faults k' k'' b c (load_at page list extent) → Adds held faults k k'' a c whole
loads_end held faults k k' k'' a b c page list whole extent left d none ends =
    subst (λ (t : List ℕ). Adds held faults k k'' a c t)
    (ap (λ t. d.front ++ t) (ap (load_at page list) d.extent_is ∙ sym (append-nil (load_text page list d.row)))
    ∙ ap (λ l. d.front ++ loads_text page list (rows_from page.cycle d.row l)) (sym none)
    ∙ d.whole_is)
    (d.adds ▸ ends)

-- the first transmission
pub loads_first : {K : Type 0} (held : K → Option (List ℕ)) (faults : K → ℕ) (k : K) (a : TextBuffer) (page : Page) (list : List Entry) (extent : Extent)
    (first : Sent) (left : List Sent) → extent ≡ extent_of (row_at page.cycle 0 first)
    → Loads held faults k k a a page list (loads_text page list (rows_of page.cycle (first ∷ left))) extent left
loads_first held faults k a page list extent first left is = record {
  row = row_at page.cycle 0 first;
  extent_is = is;
  front = [];
  adds = adds_nothing held faults k a;
  whole_is = refl;
}
