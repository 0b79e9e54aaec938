-- What is put is the text of the picture.
use Rattle.std.proofs.Common.{◌≡◌, ℕ, List, ◌++◌, Option, ap, ◌∙◌}
use Rattle.bus_regime.specs.declared.table_verdict.TableVerdict.{TableVerdict}
use Rattle.bus_table.specs.Tables.{Table}
use Rattle.bus_strings.specs.Messages.{Entry}
use Rattle.bus_trace.specs.declared.hold.Hold.{Hold}
use Rattle.bus_trace.specs.Traces.{Recording}
use Rattle.bus_shapes.specs.declared.counts.Counts.{Counts}
use Rattle.bus_shapes.specs.Frames.{frame_text, tail_text}
use Rattle.bus_shapes.specs.declared.told.Told.{Told}
use Rattle.bus_trace.specs.Windows.{Window}
use Rattle.bus_cycles.specs.CyclesTexts.{above_text, begins, below_text, breach_text, height_of, cycles_text, listed_in, marks_text, survey_in}
use Rattle.bus_cycles.specs.Cuts.{Seen, seen_of}
use Rattle.bus_cycles.specs.Pages.{Page, page_of}
use Rattle.bus_cycles.specs.Dues.{begins_in, dues_text}
use Rattle.bus_cycles.specs.Faults.{faults_text}
use Rattle.bus_cycles.specs.Listings.{Listed, listed_of}
use Rattle.bus_cycles.specs.Loads.{loads_text}
use Rattle.bus_cycles.specs.Rows.{Cycle, cycle_of, rows_of}
use Rattle.bus_cycles.specs.RowTexts.{rows_text}
use Rattle.bus_cycles.specs.Sents.{shown}
use Rattle.bus_cycles.specs.Surveys.{Survey, breach_in, counts, survey_of}

abbrev pub text_with : Window → TableVerdict → Told → Table → Recording → List Entry → List Hold → ℕ → Counts → Survey → Page → List ℕ → Listed → Option ℕ → List ℕ
text_with window verdict told table trace entries holds height numbers survey page starts listed breach =
    frame_text height verdict told table entries numbers
    ++ above_text page survey listed ++ dues_text page table holds starts ++ marks_text page table verdict
    ++ rows_text page (rows_of page.cycle (shown window trace.list)) ++ loads_text page trace.list (rows_of page.cycle (shown window trace.list)) ++ below_text page
    ++ breach_text page breach survey.marked ++ faults_text page told (rows_of page.cycle (shown window trace.list)) ++ tail_text

-- what the code finds out before it writes
pub record Finds (window : Window) (told : Told) (table : Table) (trace : Recording) (entries : List Entry) (holds : List Hold) (height : ℕ) (numbers : Counts)
    (survey : Survey) (page : Page) (starts : List ℕ) (listed : Listed) (cycle : Cycle) (limits : Seen) (breach : Option ℕ) : Type 0 where
  pub entries_are : entries ≡ trace.list
  pub holds_are : holds ≡ trace.holds
  pub height_is : height ≡ height_of page
  pub numbers_are : numbers ≡ counts window trace
  pub cycle_is : cycle ≡ cycle_of table
  pub limits_are : limits ≡ seen_of numbers
  pub breach_is : breach ≡ breach_in window told
  pub survey_is : survey ≡ survey_of cycle limits breach (shown window trace.list)
  pub page_is : page ≡ page_of table survey numbers
  pub starts_are : starts ≡ begins_in page.cycle.mode (rows_of page.cycle (shown window trace.list))
  pub listed_is : listed ≡ listed_of page survey told table trace.holds starts (rows_of page.cycle (shown window trace.list))

pub whole_put : (window : Window) (verdict : TableVerdict) (told : Told) (table : Table) (trace : Recording) (entries : List Entry) (holds : List Hold) (height : ℕ)
    (numbers : Counts) (survey : Survey) (page : Page) (starts : List ℕ) (listed : Listed) (cycle : Cycle) (limits : Seen) (breach : Option ℕ)
    → Finds window told table trace entries holds height numbers survey page starts listed cycle limits breach
    → text_with window verdict told table trace entries holds height numbers survey page starts listed breach ≡ cycles_text window verdict told table trace
unfolding cycles_text
whole_put window verdict told table trace entries holds height numbers survey page starts listed cycle limits breach f =
    let text = text_with window verdict told table trace trace.list trace.holds in
    let list = shown window trace.list in
    let found = breach_in window told in
    let seen = counts window trace in
    let own : Survey = survey_in window told table trace in
    let limits_are : limits ≡ seen_of seen = f.limits_are ∙ ap (λ (n : Counts). seen_of n) f.numbers_are in
    let is : survey ≡ own =
    f.survey_is ∙ ap (λ (y : Cycle). survey_of y limits breach list) f.cycle_is ∙ ap (λ (y : Seen). survey_of (cycle_of table) y breach list) limits_are
    ∙ ap (λ (m : Option ℕ). survey_of (cycle_of table) (seen_of seen) m list) f.breach_is in
    let page_is : page ≡ page_of table own seen = f.page_is ∙ ap (λ (y : Survey). page_of table y numbers) is ∙ ap (λ (n : Counts). page_of table own n) f.numbers_are in
    let bare : Page = page_of table own seen in
    let starts_are : starts ≡ begins window table trace = f.starts_are ∙ ap (λ (n : Page). begins_in n.cycle.mode (rows_of n.cycle list)) page_is in
    let listed_is : listed ≡ listed_in bare own window told table trace =
    f.listed_is ∙ ap (λ (y : Survey). listed_of page y told table trace.holds starts (rows_of page.cycle list)) is
    ∙ ap (λ (n : Page). listed_of n own told table trace.holds starts (rows_of n.cycle list)) page_is
    ∙ ap (λ (m : List ℕ). listed_of bare own told table trace.holds m (rows_of bare.cycle list)) starts_are in
    ap (λ (es : List Entry). text_with window verdict told table trace es holds height numbers survey page starts listed breach) f.entries_are
    ∙ ap (λ (hs : List Hold). text_with window verdict told table trace trace.list hs height numbers survey page starts listed breach) f.holds_are
    ∙ ap (λ (n : ℕ). text n numbers survey page starts listed breach) f.height_is
    ∙ ap (λ (n : Counts). text (height_of page) n survey page starts listed breach) f.numbers_are
    ∙ ap (λ (n : Page). text (height_of n) seen survey n starts listed breach) page_is
    ∙ ap (λ (n : Option ℕ). text (height_of bare) seen survey bare starts listed n) f.breach_is
    ∙ ap (λ (n : Survey). text (height_of bare) seen n bare starts listed found) is
    ∙ ap (λ (n : List ℕ). text (height_of bare) seen own bare n listed found) starts_are
    ∙ ap (λ (n : Listed). text (height_of bare) seen own bare (begins window table trace) n found) listed_is
