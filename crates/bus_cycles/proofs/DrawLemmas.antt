-- How a picture goes on, transmission by transmission.
use Rattle.std.proofs.Common.{◌≡◌, ◌⊎◌, ℕ, ◌+◌, ◌<◌, ◌≤◌, Bool, true, false, cond, ◌&&◌, ◌||◌, leb, eqb, List, [], ◌∷◌, ◌++◌, length, get_or, set, replicate, Option, inl, inr, arith, sym, refl, ap, subst, ◌∙◌}
use Rattle.std.proofs.Common.{append_assoc, append-nil}
use Rattle.std.proofs.lemmas.Bool.{cases_eq, cases_lt, eq-eqb, ne_eqb, le-leb, lt-leb, or_right}
use Rattle.std.proofs.lemmas.List.{get_or-set_same, get_or-set_other, get_or-replicate, length-replicate}
use Rattle.std.proofs.lemmas.List.Folds.{list_any-append}
use Rattle.std.proofs.Math.ListN.{length-set}
use Rattle.bus_strings.proofs.TestLaws.{or_false}
use Rattle.bus_outer.specs.Texts.{Adds}
use Rattle.bus_outer.proofs.TextLaws.{◌▸◌}
use Rattle.bus_outer.specs.declared.text_buffer.TextBuffer.{TextBuffer}
use Rattle.bus_shapes.specs.declared.sent.Sent.{Sent}
use Rattle.bus_cycles.specs.inside.Drawing.{Draws, Keeps, Reaches, more_text, new_text, next_row, next_text}
use Rattle.bus_cycles.specs.Pages.{Page}
use Rattle.bus_cycles.specs.Rows.{Extent, Row, extent_of, is_new, row_at, rows_from, rows_of, with_sent}
use Rattle.bus_cycles.specs.RowTexts.{Shaded, all_shaded, box_behind, boxes, drawing_of, ending_text, is_reached, right_of, row_text, shade, shaded, walk_text, where_due}

-- ---- how far transmissions reach
pub reaches_none : (page : Page) (begin : ℕ) → Reaches page begin [] (replicate 5 0)
reaches_none page begin = record {
  long = length-replicate {A = ℕ} 5 0;
  edges_are = λ tone right low some. ap (leb right) (get_or-replicate 5 tone 0 0 low) ∙ lt-leb right 0 some;
}

cases_le : (a b : ℕ) → (a ≤ b) ⊎ (b < a)
cases_le a b = elim (cases_lt b a) [ inl l ↦ inr l | inr r ↦ inl r ]

pub reached_more : (page : Page) (begin : ℕ) (earlier : List Shaded) (x : Shaded) (tone right : ℕ)
    → is_reached page begin (earlier ++ x ∷ []) tone right
    ≡ (is_reached page begin earlier tone right || (eqb (x.shade) tone && leb right (right_of page begin x.sent)))
reached_more page begin earlier x tone right =
    list_any-append (λ (y : Shaded). eqb y.shade tone && leb right (right_of page begin y.sent)) earlier (x ∷ [])
    ∙ ap (λ b. is_reached page begin earlier tone right || b) (or_false (eqb (x.shade) tone && leb right (right_of page begin x.sent)))

-- one that doesn't reach further
pub reaches_same : (page : Page) (begin : ℕ) (earlier : List Shaded) (edges : List ℕ) (x : Shaded) (tone right : ℕ) → Reaches page begin earlier edges
    → tone < 5 → tone ≡ x.shade → right ≡ right_of page begin x.sent → right ≤ get_or edges tone 0 → Reaches page begin (earlier ++ x ∷ []) edges
reaches_same page begin earlier edges x tone right was low tone_is right_is within = record {
  long = was.long;
  edges_are = λ n r h some.
      let old = was.edges_are n r h some in
      elim (cases_eq (x.shade) n) [
        | inl same ↦
            let at : n ≡ tone = sym same ∙ sym tone_is in
            elim (cases_le r right) [
              | inl short ↦
                  let far : r ≤ get_or edges n 0 = subst (λ m. r ≤ get_or edges m 0) (sym at) (omega arith) in
                  le-leb r (get_or edges n 0) far
                  ∙ sym (or_right (is_reached page begin earlier n r) true refl)
                  ∙ ap (λ b. is_reached page begin earlier n r || b) (sym (ap (λ b. b && leb r (right_of page begin x.sent)) (eq-eqb (x.shade) n same) ∙ le-leb r (right_of page begin x.sent) (omega arith)))
                  ∙ sym (reached_more page begin earlier x n r)
              | inr long ↦
                  old ∙ sym (or_false (is_reached page begin earlier n r))
                  ∙ ap (λ b. is_reached page begin earlier n r || b) (sym (ap (λ b. b && leb r (right_of page begin x.sent)) (eq-eqb (x.shade) n same) ∙ lt-leb r (right_of page begin x.sent) (omega arith)))
                  ∙ sym (reached_more page begin earlier x n r)
            ]
        | inr other ↦
            old ∙ sym (or_false (is_reached page begin earlier n r))
            ∙ ap (λ b. is_reached page begin earlier n r || b) (sym (ap (λ b. b && leb r (right_of page begin x.sent)) (ne_eqb (x.shade) n other)))
            ∙ sym (reached_more page begin earlier x n r)
      ];
}

-- one that does
pub reaches_more : (page : Page) (begin : ℕ) (earlier : List Shaded) (edges : List ℕ) (x : Shaded) (tone right : ℕ) → Reaches page begin earlier edges
    → tone < 5 → tone ≡ x.shade → right ≡ right_of page begin x.sent → get_or edges tone 0 < right
    → Reaches page begin (earlier ++ x ∷ []) (set edges tone right)
reaches_more page begin earlier edges x tone right was low tone_is right_is further = record {
  long = length-set edges tone right ∙ was.long;
  edges_are = λ n r h some.
      let old = was.edges_are n r h some in
      elim (cases_eq (x.shade) n) [
        | inl same ↦
            let at : n ≡ tone = sym same ∙ sym tone_is in
            let fits : tone < length edges = (let long : length edges ≡ 5 = was.long in omega arith) in
            let now : get_or (set edges tone right) n 0 ≡ right = ap (λ m. get_or (set edges tone right) m 0) at ∙ get_or-set_same edges tone right 0 fits in
            elim (cases_le r right) [
              | inl short ↦
                  ap (leb r) now ∙ le-leb r right short
                  ∙ sym (or_right (is_reached page begin earlier n r) true refl)
                  ∙ ap (λ b. is_reached page begin earlier n r || b) (sym (ap (λ b. b && leb r (right_of page begin x.sent)) (eq-eqb (x.shade) n same) ∙ le-leb r (right_of page begin x.sent) (omega arith)))
                  ∙ sym (reached_more page begin earlier x n r)
              | inr long ↦
                  let edge : get_or edges n 0 ≡ get_or edges tone 0 = ap (λ m. get_or edges m 0) at in
                  ap (leb r) now ∙ lt-leb r right long
                  ∙ sym (sym old ∙ lt-leb r (get_or edges n 0) (omega arith))
                  ∙ sym (or_false (is_reached page begin earlier n r))
                  ∙ ap (λ b. is_reached page begin earlier n r || b) (sym (ap (λ b. b && leb r (right_of page begin x.sent)) (eq-eqb (x.shade) n same) ∙ lt-leb r (right_of page begin x.sent) (omega arith)))
                  ∙ sym (reached_more page begin earlier x n r)
            ]
        | inr other ↦
            ap (leb r) (get_or-set_other edges tone n right 0 (λ e. other (sym tone_is ∙ sym e)))
            ∙ old ∙ sym (or_false (is_reached page begin earlier n r))
            ∙ ap (λ b. is_reached page begin earlier n r || b) (sym (ap (λ b. b && leb r (right_of page begin x.sent)) (ne_eqb (x.shade) n other)))
            ∙ sym (reached_more page begin earlier x n r)
      ];
}

-- what it adds
pub behind_more : (page : Page) (garbled : Bool) (row begin : ℕ) (earlier : List Shaded) (edges : List ℕ) (sent : Sent) (tone right : ℕ)
    → Reaches page begin earlier edges → tone < 5 → 0 < right → tone ≡ shade page begin earlier sent → right ≡ right_of page begin sent → get_or edges tone 0 < right
    → where_due garbled sent (drawing_of page row begin (record { sent = sent; shade = tone })) ≡ box_behind page garbled row begin earlier sent
behind_more page garbled row begin earlier edges sent tone right was low some tone_is right_is further =
    let text : List ℕ = where_due garbled sent (drawing_of page row begin (shaded page begin earlier sent)) in
    let reached : is_reached page begin earlier tone right ≡ false = sym (was.edges_are tone right low some) ∙ lt-leb right (get_or edges tone 0) further in
    let left_out : is_reached page begin earlier (shade page begin earlier sent) (right_of page begin sent) ≡ false =
    ap (λ n. is_reached page begin earlier n (right_of page begin sent)) (sym tone_is) ∙ ap (is_reached page begin earlier tone) (sym right_is) ∙ reached in
    ap (λ (n : ℕ). where_due garbled sent (drawing_of page row begin (record { sent = sent; shade = n }))) tone_is
    ∙ sym (ap (λ (b : Bool). cond b [] text) left_out)

-- nothing, where it doesn't reach further
pub behind_nothing : (page : Page) (garbled : Bool) (row begin : ℕ) (earlier : List Shaded) (edges : List ℕ) (sent : Sent) (tone right : ℕ)
    → Reaches page begin earlier edges → tone < 5 → 0 < right → tone ≡ shade page begin earlier sent → right ≡ right_of page begin sent → right ≤ get_or edges tone 0
    → [] ≡ box_behind page garbled row begin earlier sent
behind_nothing page garbled row begin earlier edges sent tone right was low some tone_is right_is within =
    let text : List ℕ = where_due garbled sent (drawing_of page row begin (shaded page begin earlier sent)) in
    let reached : is_reached page begin earlier tone right ≡ true = sym (was.edges_are tone right low some) ∙ le-leb right (get_or edges tone 0) within in
    let left_out : is_reached page begin earlier (shade page begin earlier sent) (right_of page begin sent) ≡ true =
    ap (λ n. is_reached page begin earlier n (right_of page begin sent)) (sym tone_is) ∙ ap (is_reached page begin earlier tone) (sym right_is) ∙ reached in
    sym (ap (λ (b : Bool). cond b [] text) left_out)

-- one whose shade is kept
pub shaded_is : (page : Page) (begin : ℕ) (earlier : List Shaded) (edges : List ℕ) (sent : Sent) (tone : ℕ) → tone ≡ shade page begin earlier sent
    → Reaches page begin (earlier ++ record { sent = sent; shade = tone } ∷ []) edges
    → Reaches page begin (earlier ++ shaded page begin earlier sent ∷ []) edges
shaded_is page begin earlier edges sent tone is r =
    subst (λ (n : ℕ). Reaches page begin (earlier ++ record { sent = sent; shade = n } ∷ []) edges) is r

-- ---- boxes
pub all_shaded_more : (page : Page) (begin : ℕ) (earlier : List Shaded) (xs : List Sent) (x : Sent)
    → all_shaded page begin earlier (xs ++ x ∷ [])
    ≡ all_shaded page begin earlier xs ++ shaded page begin (all_shaded page begin earlier xs) x ∷ []
all_shaded_more page begin earlier [] x = refl
all_shaded_more page begin earlier (y ∷ ys) x = all_shaded_more page begin (earlier ++ shaded page begin earlier y ∷ []) ys x

pub boxes_more : (page : Page) (garbled : Bool) (row begin : ℕ) (earlier : List Shaded) (xs : List Sent) (x : Sent)
    → boxes page garbled row begin earlier (xs ++ x ∷ [])
    ≡ boxes page garbled row begin earlier xs ++ box_behind page garbled row begin (all_shaded page begin earlier xs) x
boxes_more page garbled row begin earlier [] x = append-nil (box_behind page garbled row begin earlier x)
boxes_more page garbled row begin earlier (y ∷ ys) x =
    let next : List Shaded = earlier ++ shaded page begin earlier y ∷ [] in
    ap (λ t. box_behind page garbled row begin earlier y ++ t) (boxes_more page garbled row begin next ys x)
    ∙ sym (append_assoc (box_behind page garbled row begin earlier y) (boxes page garbled row begin next ys) (box_behind page garbled row begin (all_shaded page begin next ys) x))

-- ---- the next transmission
pub draws_next : {K : Type 0} (held : K → Option (List ℕ)) (faults : K → ℕ) (k k' k'' : K) (a b c : TextBuffer) (page : Page) (garbled : Bool) (whole : List ℕ)
    (extent extent' : Extent) (edges edges' : List ℕ) (sent : Sent) (left : List Sent) → Draws held faults k k' a b page garbled whole extent edges (sent ∷ left)
    → ((was : Row) → Keeps page was extent edges → Adds held faults k' k'' b c (next_text page garbled was sent))
    → ((was : Row) → Keeps page was extent edges → Keeps page (next_row page was sent) extent' edges')
    → Draws held faults k k'' a c page garbled whole extent' edges' left
draws_next held faults k k' k'' a b c page garbled whole extent extent' edges edges' sent left d adds keeps =
    both (is_new page.cycle d.row.begin sent) refl
  where
    row : Row
    row = d.row

    so_far : List ℕ
    so_far = boxes page garbled row.place row.begin [] row.sents

    both : (t : Bool) → is_new page.cycle row.begin sent ≡ t → Draws held faults k k'' a c page garbled whole extent' edges' left
    both true e =
        let next : Row = row_at page.cycle (row.place + 1) sent in
        let box : List ℕ = box_behind page garbled next.place next.begin [] sent in
        let ending : List ℕ = ending_text page garbled (extent_of row) in
        let text_is : next_text page garbled row sent ≡ ending ++ box = ap (λ t. cond t (new_text page garbled row sent) (more_text page garbled row sent)) e in
        let row_is : next_row page row sent ≡ next = ap (λ t. cond t next (with_sent row sent)) e in
        record {
          row = next;
          keeps = subst (λ r. Keeps page r extent' edges') row_is (keeps row d.keeps);
          front = d.front ++ row_text page garbled row;
          adds = subst (λ (t : List ℕ). Adds held faults k k'' a c t)
              (ap (λ t. (d.front ++ so_far) ++ t) text_is
              ∙ append_assoc d.front so_far (ending ++ box)
              ∙ ap (λ t. d.front ++ t) (sym (append_assoc so_far ending box))
              ∙ sym (append_assoc d.front (so_far ++ ending) box)
              ∙ ap (λ t. (d.front ++ (so_far ++ ending)) ++ t) (sym (append-nil box)))
              (d.adds ▸ adds row d.keeps);
          whole_is = append_assoc d.front (row_text page garbled row) (walk_text page garbled (rows_from page.cycle next left))
              ∙ ap (λ t. d.front ++ walk_text page garbled t) (sym (ap (λ t. cond t (row ∷ rows_from page.cycle next left) (rows_from page.cycle (with_sent row sent) left)) e))
              ∙ d.whole_is;
        }
    both false e =
        let next : Row = with_sent row sent in
        let text_is : next_text page garbled row sent ≡ more_text page garbled row sent = ap (λ t. cond t (new_text page garbled row sent) (more_text page garbled row sent)) e in
        let row_is : next_row page row sent ≡ next = ap (λ t. cond t (row_at page.cycle (row.place + 1) sent) next) e in
        record {
          row = next;
          keeps = subst (λ r. Keeps page r extent' edges') row_is (keeps row d.keeps);
          front = d.front;
          adds = subst (λ (t : List ℕ). Adds held faults k k'' a c t)
              (ap (λ t. (d.front ++ so_far) ++ t) text_is
              ∙ append_assoc d.front so_far (more_text page garbled row sent)
              ∙ ap (λ t. d.front ++ t) (sym (boxes_more page garbled row.place row.begin [] row.sents sent)))
              (d.adds ▸ adds row d.keeps);
          whole_is = ap (λ t. d.front ++ walk_text page garbled t) (sym (ap (λ t. cond t (row ∷ rows_from page.cycle (row_at page.cycle (row.place + 1) sent) left) (rows_from page.cycle next left)) e))
              ∙ d.whole_is;
        }

-- no transmission more
pub draws_end : {K : Type 0} (held : K → Option (List ℕ)) (faults : K → ℕ) (k k' k'' : K) (a b c : TextBuffer) (page : Page) (garbled : Bool) (whole : List ℕ)
    (extent : Extent) (edges : List ℕ) (left : List Sent) → Draws held faults k k' a b page garbled whole extent edges left → left ≡ []
    → Adds held faults k' k'' b c (ending_text page garbled extent) → Adds held faults k k'' a c whole
draws_end held faults k k' k'' a b c page garbled whole extent edges left d none ends =
    subst (λ (t : List ℕ). Adds held faults k k'' a c t)
    (ap (λ x. (d.front ++ so_far) ++ ending_text page garbled x) d.keeps.extent_is
    ∙ append_assoc d.front so_far (ending_text page garbled (extent_of d.row))
    ∙ ap (λ t. d.front ++ t) (sym (append-nil (row_text page garbled d.row)))
    ∙ ap (λ l. d.front ++ walk_text page garbled (rows_from page.cycle d.row l)) (sym none)
    ∙ d.whole_is)
    (d.adds ▸ ends)
  where
    so_far : List ℕ
    so_far = boxes page garbled d.row.place d.row.begin [] d.row.sents

-- the first transmission
pub draws_first : {K : Type 0} (held : K → Option (List ℕ)) (faults : K → ℕ) (k k' : K) (a b : TextBuffer) (page : Page) (garbled : Bool) (extent : Extent) (edges : List ℕ)
    (first : Sent) (left : List Sent) → extent ≡ extent_of (row_at page.cycle 0 first) → Adds held faults k k' a b (box_behind page garbled extent.place extent.begin [] first)
    → Reaches page extent.begin (shaded page extent.begin [] first ∷ []) edges
    → Draws held faults k k' a b page garbled (walk_text page garbled (rows_of page.cycle (first ∷ left))) extent edges left
draws_first held faults k k' a b page garbled extent edges first left is adds reaches = record {
  row = row_at page.cycle 0 first;
  keeps = record { extent_is = is; reaches = subst (λ (e : Extent). Reaches page e.begin (shaded page e.begin [] first ∷ []) edges) is reaches };
  front = [];
  adds = subst (λ (t : List ℕ). Adds held faults k k' a b t)
      (ap (λ (e : Extent). box_behind page garbled e.place e.begin [] first) is ∙ sym (append-nil (box_behind page garbled 0 (row_at page.cycle 0 first).begin [] first))) adds;
  whole_is = refl;
}

-- what the next transmission adds, by whether it begins a row
pub next_is : (page : Page) (garbled : Bool) (row : Row) (extent : Extent) (edges : List ℕ) (sent : Sent) (b : Bool) → Keeps page row extent edges
    → is_new page.cycle extent.begin sent ≡ b
    → (next_text page garbled row sent ≡ cond b (new_text page garbled row sent) (more_text page garbled row sent))
    × (next_row page row sent ≡ cond b (row_at page.cycle (row.place + 1) sent) (with_sent row sent))
next_is page garbled row extent edges sent b keeps new =
    let now : is_new page.cycle row.begin sent ≡ b = ap (λ (e : Extent). is_new page.cycle e.begin sent) (sym keeps.extent_is) ∙ new in
    (ap (λ t. cond t (new_text page garbled row sent) (more_text page garbled row sent)) now, ap (λ t. cond t (row_at page.cycle (row.place + 1) sent) (with_sent row sent)) now)
