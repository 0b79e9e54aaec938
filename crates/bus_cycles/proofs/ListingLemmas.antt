-- The legend lists what is drawn.
use Rattle.std.proofs.Common.{◌≡◌, ◌≢◌, ◌↔◌, ℕ, zero, suc, ◌<◌, Bool, true, false, cond, ◌||◌, ◌&&◌, ltb, fold, map, List, [], ◌∷◌, ◌++◌, length, Option, Some, None, inl, inr, arith, sym, refl, ap, subst, ◌∙◌}
use Rattle.std.specs.Prelude.{codes, decimal, not}
use Rattle.std.specs.List.{flat_map, list_any}
use Rattle.std.proofs.lemmas.Bool.{and_parts, lt-ltb, ne_eqb, true≢false}
use Rattle.bus_strings.specs.Members.{In}
use Rattle.bus_strings.proofs.TestLaws.{or_false}
use Rattle.bus_table.specs.Tables.{Sender}
use Rattle.bus_pen.specs.Classes.{class_name}
use Rattle.bus_pen.specs.declared.area.Area.{Area}
use Rattle.bus_pen.specs.declared.class.Class.{Class}
use Rattle.bus_pen.specs.declared.class.Class.TheVariants.{Breach, Small, Tick}
use Rattle.bus_pen.specs.declared.legend.Sample.{Sample}
use Rattle.bus_pen.specs.Legends.{sample_text}
use Rattle.bus_shapes.specs.declared.sent.Sent.{Sent}
use Rattle.bus_shapes.specs.declared.told.Told.TheVariants.{Audit, OnCable, Findings}
use Rattle.bus_pen.specs.Shapes.{box_text, words_end, words_text}
use Rattle.bus_cycles.specs.Cuts.{Seen, is_whole, seen_of}
use Rattle.bus_cycles.specs.CyclesTexts.{begins, breach_at, breach_in_row, breach_text, page_in, survey_in}
use Rattle.bus_cycles.specs.Dues.{due_line, due_over, due_text, rows_of_due}
use Rattle.bus_cycles.specs.Faults.{has_fault}
use Rattle.bus_cycles.specs.declared.legend.TheConstants as the
use Rattle.bus_cycles.specs.declared.measures.TheConstants.{LEGEND_LINE as legend_line, LEGEND_TOP as legend_top}
use Rattle.bus_cycles.specs.Listings.{has_line, is_breach_drawn}
use Rattle.bus_cycles.specs.Pages.{Page}
use Rattle.bus_cycles.specs.PictureLaws.{BreachIsListed, CutAreListed, DuesAreListed, FaultsAreListed, GarbledAreListed, IsDrawnCut, IsDrawnWith, PlainAreListed}
use Rattle.bus_cycles.specs.Rows.{Cycle, Extent, Row, cycle_of, extent_of, has_garbled, has_plain, rows}
use Rattle.bus_cycles.specs.RowTexts.{pixel}
use Rattle.bus_cycles.specs.Sents.{shown}
use Rattle.bus_cycles.specs.Surveys.{Survey, breach_in, counts, is_drawn, nothing, told_of, with_row}
use Rattle.bus_cycles.proofs.CableLemmas.{none_marked}
use Rattle.bus_cycles.proofs.CutLemmas.{drawn_where}

-- ---- texts that are some
-- a text whose front is some
front_some : (a b : List ℕ) → a ≢ [] → a ++ b ≢ []
front_some [] b some = absurd (some refl)
front_some (x ∷ xs) b some = λ e. absurd cc

opened : (a b : List ℕ) → 0 < length a → a ++ b ≢ []
opened [] b some = absurd (omega arith)
opened (x ∷ xs) b some = λ e. absurd cc

box_some : (class : Class) (area : Area) → box_text class area ≢ []
box_some class area =
    front_some _ (codes "/>\n") (front_some _ (codes "\"") (front_some _ (decimal area.height) (front_some _ (codes "\" height=\"")
    (front_some _ (decimal area.width) (front_some _ (codes "\" width=\"") (front_some _ (decimal area.top) (front_some _ (codes "\" y=\"")
    (front_some _ (decimal area.left) (front_some _ (codes "\" x=\"") (opened (codes "<rect class=\"") (class_name class) (omega arith)))))))))))

back_some : (a b : List ℕ) → b ≢ [] → a ++ b ≢ []
back_some [] b some = some
back_some (x ∷ xs) b some = λ e. absurd cc

note_some : (samples : List Sample) (left : ℕ) (words : List ℕ) → flat_map (sample_text legend_top) samples ++ words_text Small left legend_line words ≢ []
note_some samples left words =
    back_some (flat_map (sample_text legend_top) samples) (words_text Small left legend_line words)
    (front_some _ words_end (front_some _ words (front_some _ (codes "\">") (front_some _ (decimal legend_line) (front_some _ (codes "\" y=\"")
    (front_some _ (decimal left) (front_some _ (codes "\" x=\"") (opened (codes "<text class=\"") (class_name Small) (omega arith)))))))))

-- ---- tests of lists
pub any_from : {X : Type 0} (test : X → Bool) (xs : List X) (x : X) → In x xs → test x ≡ true → list_any test xs ≡ true
any_from test [] x i e = absurd i
any_from test (y ∷ ys) x (inl same) e = ap (λ b. b || list_any test ys) (ap test (sym same) ∙ e)
any_from test (y ∷ ys) x (inr i) e = ap (λ b. test y || b) (any_from test ys x i e) ∙ or_true (test y) where
  or_true : (b : Bool) → (b || true) ≡ true
  or_true true = refl
  or_true false = refl

-- one of these passes
pub record Passes {X : Type 0} (test : X → Bool) (xs : List X) : Type 0 where
  pub found : X
  pub one : In found xs
  pub is : test found ≡ true

pub any_to : {X : Type 0} (test : X → Bool) (xs : List X) → list_any test xs ≡ true → Passes test xs
any_to test [] e = absurd cc
any_to test (y ∷ ys) e = here_or (test y) refl (λ later. any_to test ys later) where
  here_or : (b : Bool) → test y ≡ b → (list_any test ys ≡ true → Passes test ys) → Passes test (y ∷ ys)
  here_or true at rest = record { found = y; one = inl refl; is = at }
  here_or false at rest =
      let later = rest (sym (ap (λ b. b || list_any test ys) at) ∙ e) in
      record { found = later.found; one = inr later.one; is = later.is }

-- ---- what is told of drawn rows
or_assoc : (a b c : Bool) → ((a || b) || c) ≡ (a || (b || c))
or_assoc true b c = refl
or_assoc false b c = refl

-- a word of a survey that tells whether a row passes
told_any : (word : Survey → Bool) (test : Row → Bool) (cycle : Cycle) (seen : Seen) (breach : Option ℕ)
    → ((survey : Survey) (row : Row) → word (with_row cycle seen breach survey (extent_of row)) ≡ (word survey || test row))
    → (list : List Row) (survey : Survey) → word (fold (with_row cycle seen breach) survey (map extent_of list)) ≡ (word survey || list_any test list)
told_any word test cycle seen breach step [] survey = sym (or_false (word survey))
told_any word test cycle seen breach step (r ∷ rs) survey =
    told_any word test cycle seen breach step rs (with_row cycle seen breach survey (extent_of r))
    ∙ ap (λ b. b || list_any test rs) (step survey r)
    ∙ or_assoc (word survey) (test r) (list_any test rs)

drawn_with : (test : Sent → Bool) (list : List Row) → (list_any (λ (row : Row). is_drawn row.place && list_any test row.sents) list ≡ true) ↔ IsDrawnWith test list
drawn_with test list = (there, back) where
  there : list_any (λ (row : Row). is_drawn row.place && list_any test row.sents) list ≡ true → IsDrawnWith test list
  there e =
      let r = any_to (λ (row : Row). is_drawn row.place && list_any test row.sents) list e in
      let parts = and_parts (is_drawn r.found.place) (list_any test r.found.sents) r.is in
      let s = any_to test r.found.sents parts.1 in
      record { row = r.found; one = r.one; drawn = parts.0; sent = s.found; own = s.one; is = s.is }

  back : IsDrawnWith test list → list_any (λ (row : Row). is_drawn row.place && list_any test row.sents) list ≡ true
  back d =
      any_from (λ (row : Row). is_drawn row.place && list_any test row.sents) list d.row d.one
      (ap (λ b. b && list_any test d.row.sents) d.drawn ∙ any_from test d.row.sents d.sent d.own d.is)

-- ---- what is listed
both : {A B C : Type 0} → A ↔ B → B ↔ C → A ↔ C
both f g = (λ a. g.0 (f.0 a), λ c. f.1 (g.1 c))

pub plain_are_listed : PlainAreListed
plain_are_listed window told table trace =
    let survey : Survey = survey_in window told table trace in
    let list : List Row = rows table window trace.list in
    let test : Row → Bool = λ (row : Row). is_drawn row.place && has_plain row in
    let is : survey.plain ≡ list_any test list =
    told_any (λ (s : Survey). s.plain) test (cycle_of table) (seen_of (counts window trace)) (breach_in window told) (λ s r. refl) list (nothing (cycle_of table)) in
    both (drawn_where survey.plain _ (note_some the.PLAIN.0.now the.PLAIN.1 the.PLAIN.2.now))
    (subst (λ b. (b ≡ true) ↔ IsDrawnWith (λ (sent : Sent). not sent.garbled) list) (sym is) (drawn_with (λ (sent : Sent). not sent.garbled) list))

pub garbled_are_listed : GarbledAreListed
garbled_are_listed window told table trace =
    let survey : Survey = survey_in window told table trace in
    let list : List Row = rows table window trace.list in
    let test : Row → Bool = λ (row : Row). is_drawn row.place && has_garbled row in
    let is : survey.garbled ≡ list_any test list =
    told_any (λ (s : Survey). s.garbled) test (cycle_of table) (seen_of (counts window trace)) (breach_in window told) (λ s r. refl) list (nothing (cycle_of table)) in
    both (drawn_where survey.garbled _ (note_some the.GARBLED.0.now the.GARBLED.1 the.GARBLED.2.now))
    (subst (λ b. (b ≡ true) ↔ IsDrawnWith (λ (sent : Sent). sent.garbled) list) (sym is) (drawn_with (λ (sent : Sent). sent.garbled) list))

pub faults_are_listed : FaultsAreListed
faults_are_listed window (Audit answer) table trace = (λ some. some refl, λ none. absurd none)
faults_are_listed window (OnCable garbled) table trace = (λ some. some refl, λ none. absurd none)
faults_are_listed window (Findings bounds judgements garbled) table trace =
    both (drawn_where _ _ (note_some the.FAULT.0.now the.FAULT.1 the.FAULT.2.now)) (drawn_with (has_fault judgements.items) (rows table window trace.list))

pub cut_are_listed : CutAreListed
cut_are_listed window told table trace =
    let survey : Survey = survey_in window told table trace in
    let list : List Row = rows table window trace.list in
    let cycle : Cycle = cycle_of table in
    let seen : Seen = seen_of (counts window trace) in
    let test : Row → Bool = λ (row : Row). is_drawn row.place && not (is_whole cycle seen (extent_of row)) in
    let is : survey.cut ≡ list_any test list =
    told_any (λ (s : Survey). s.cut) test cycle seen (breach_in window told) (λ s r. refl) list (nothing cycle) in
    both (drawn_where survey.cut _ (note_some the.CUT.0.now the.CUT.1 the.CUT.2.now))
    (subst (λ b. (b ≡ true) ↔ IsDrawnCut (page_in window told table trace) list) (sym is) (
      λ e.
          let r = any_to test list e in
          let parts = and_parts (is_drawn r.found.place) (not (is_whole cycle seen (extent_of r.found))) r.is in
          record { row = r.found; one = r.one; drawn = parts.0; cut = not_true (is_whole cycle seen (extent_of r.found)) parts.1 },
      λ d. any_from test list d.row d.one (ap (λ b. b && not (is_whole cycle seen (extent_of d.row))) d.drawn ∙ ap not d.cut),
    ))
  where
    not_true : (b : Bool) → not b ≡ true → b ≡ false
    not_true true e = absurd cc
    not_true false e = refl

-- ---- offsets
-- a sender has a line exactly where it goes over a row
line_some : (page : Page) (at n : ℕ) → (due_over page at n ≢ []) ↔ (ltb 0 n ≡ true)
line_some page at n = by_case n where
  by_case : (m : ℕ) → (due_over page at m ≢ []) ↔ (ltb 0 m ≡ true)
  by_case zero = (λ some. absurd (some refl), λ e. absurd cc)
  by_case (suc m) = (
    λ some. lt-ltb 0 (suc m) (omega arith),
    λ e. subst (λ b. cond b [] (box_text Tick (due_line page at (suc m))) ≢ []) (sym (ne_eqb (suc m) 0 (λ e. omega arith))) (box_some Tick (due_line page at (suc m))),
  )

nothing_there : (t : List ℕ) → ((t ≢ []) → ⊥) → t ≡ []
nothing_there [] h = refl
nothing_there (y ∷ ys) h = absurd (h (λ e. absurd cc))

-- texts put together are some exactly where one is
some_of : {X : Type 0} (text : X → List ℕ) (test : X → Bool) (xs : List X) → ((x : X) → (text x ≢ []) ↔ (test x ≡ true))
    → (list_any test xs ≡ true) ↔ (flat_map text xs ≢ [])
some_of text test [] each = (λ e. absurd cc, λ some. absurd (some refl))
some_of text test (x ∷ xs) each = here_or (test x) refl (some_of text test xs each) where
  here_or : (b : Bool) → test x ≡ b → (list_any test xs ≡ true) ↔ (flat_map text xs ≢ []) → (list_any test (x ∷ xs) ≡ true) ↔ (flat_map text (x ∷ xs) ≢ [])
  here_or true at rest =
      (λ e. front_some (text x) (flat_map text xs) ((each x).1 at), λ some. ap (λ b. b || list_any test xs) at)
  here_or false at rest =
      let none : text x ≡ [] = nothing_there (text x) (λ some. true≢false (sym ((each x).0 some) ∙ at)) in
      let text_is : flat_map text (x ∷ xs) ≡ flat_map text xs = ap (λ t. t ++ flat_map text xs) none in
      let test_is : list_any test (x ∷ xs) ≡ list_any test xs = ap (λ b. b || list_any test xs) at in
      (λ e. subst (λ t. t ≢ []) (sym text_is) (rest.0 (sym test_is ∙ e)), λ some. test_is ∙ rest.1 (subst (λ t. t ≢ []) text_is some))

pub dues_are_listed : DuesAreListed
dues_are_listed window told table trace =
    let page : Page = page_in window told table trace in
    let moments : List ℕ = begins window table trace in
    both (drawn_where _ _ (note_some the.DUE.0.now the.DUE.1 the.DUE.2.now))
    (some_of (due_text page trace.holds moments) (has_line page trace.holds moments) table.senders
    (λ (sender : Sender). line_some page sender.at (rows_of_due page trace.holds moments sender)))

-- ---- the first breach
in_row : (page : Page) (moment : ℕ) (row : Extent) → (is_drawn row.place ≡ true) ↔ (breach_in_row page moment row ≢ [])
in_row page moment row =
    let w = drawn_where (is_drawn row.place) (breach_at page (pixel page row.begin moment) row.place) (front_some _ _ (front_some _ _ (box_some Breach _))) in
    (w.1, w.0)

drawn_breach : (page : Page) (breach : Option ℕ) (marked : Option Extent) → (breach ≡ None → marked ≡ None)
    → (is_breach_drawn marked ≡ true) ↔ (breach_text page breach marked ≢ [])
drawn_breach page None None h = (λ e. absurd cc, λ some. absurd (some refl))
drawn_breach page None (Some row) h = absurd (let e : Some row ≡ None = h refl in cc)
drawn_breach page (Some moment) None h = (λ e. absurd cc, λ some. absurd (some refl))
drawn_breach page (Some moment) (Some row) h = in_row page moment row

pub breach_is_listed : BreachIsListed
breach_is_listed window told table trace =
    let cycle : Cycle = cycle_of table in
    let seen : Seen = seen_of (counts window trace) in
    let survey : Survey = survey_in window told table trace in
    let unmarked : breach_in window told ≡ None → survey.marked ≡ None =
    λ none. ap (λ (m : Option ℕ). (told_of cycle seen m (shown window trace.list)).marked) none ∙ none_marked cycle seen (shown window trace.list) in
    both (drawn_where _ _ (note_some the.BREACH.0.now the.BREACH.1 the.BREACH.2.now))
    (drawn_breach (page_in window told table trace) (breach_in window told) survey.marked unmarked)
