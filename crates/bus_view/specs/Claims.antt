-- What is claimed of the views, in values.
use Rattle.std.specs.Prelude.{◌≡◌, ℕ, IsTrue, List, Option, Some, None, Result, Ok, Err, Vec, if◌then◌else◌}
use Rattle.std.specs.declared.alloc.Global.{Global}
use Rattle.bus_bounds.specs.Bounds.{Bounds}
use Rattle.bus_trace.specs.Windows.{Window}
use Rattle.bus_table.specs.Hands.{are_hands}
use Rattle.bus_table.specs.Reading.{answer_of}
use Rattle.bus_table.specs.Tables.{Table, Hand}
use Rattle.bus_table.specs.declared.error.TableError.{TableError}
use Rattle.bus_medium.specs.Lawful.{IsLawful}
use Rattle.bus_medium.specs.Timings.{quiet_of, stations_of}
use Rattle.bus_regime.specs.Verdicts.{is_accepted, verdict_of}
use Rattle.bus_schedule.specs.Closed.{closed}
use Rattle.bus_schedule.specs.Even.{are_even}
use Rattle.bus_trace.specs.Traces.{Recording}
use Rattle.bus_dump.specs.declared.dump.Dump.{Dump}
use Rattle.bus_dump.specs.Doubled.{doubled}
use Rattle.bus_dump.specs.Laws.{BreachAgrees, ShowsNoOverlap}
use Rattle.bus_findings.specs.declared.judgement.Judgement.{Judgement}
use Rattle.bus_findings.specs.Judging.{judgements}
use Rattle.bus_shapes.specs.declared.told.Told.TheVariants.{Findings}
use Rattle.bus_command.specs.declared.status.Status.{Status}
use Rattle.bus_command.specs.declared.status.Status.TheVariants.{Done, InputRefused, Refused}
use Rattle.bus_command.specs.declared.about.About.{About}
use Rattle.bus_view.specs.Asked.{Asked, Draw, Save, Paint, Judge, Page, Itself}
use Rattle.bus_view.specs.Due.{first_breach, named_breach, told_of, window_or_whole}
use Rattle.bus_view.specs.Forms.{Picture}
use Rattle.bus_view.specs.Replies.{Reply, TheDump, TheSaveFile, ThePicture, ThePage, OfItself, Is}

-- What comes of a dump:
--   drawn     where no entry is doubled, the dump of the trace is answered, of all of it or of the window that is asked for
--   breach    its wire of the breach is 1 at the moment of the first breach that an audit finds, and nowhere else
--   refused   where one is, the trace is refused
--   lawful    none is where the list is lawful, of any hands that fit the table's senders: as in what `observe`, `run` and `drop` write
--   clear     where the list is what `run` writes of an accepted table, the dump shows no overlap, no garbled transmission, and no word
--             that can't be told
pub record AnswersDump (Answers : Status → (Reply → Type 0) → Type 0) (Refuses : Status → Type 0) (dump : Dump) (window : Window)
    (table : Table) (trace : Recording) : Type 0 where
  pub drawn : doubled trace.list ≡ None
      → Answers Done (Is (TheDump dump window (first_breach table trace) (verdict_of table) table trace))
  pub breach : (t : ℕ) → BreachAgrees dump (first_breach table trace) table trace.list t
  pub refused : (entry : ℕ) → doubled trace.list ≡ Some entry → Refuses InputRefused
  pub lawful : (hands : List Hand) (horizon : ℕ) → IsTrue (are_hands table.senders hands)
      → IsLawful (quiet_of table) (stations_of table hands) horizon trace.list → doubled trace.list ≡ None
  pub clear : (hands : List Hand) (t : ℕ) → IsTrue (is_accepted (verdict_of table)) → IsTrue (are_even table hands)
      → trace.list ≡ closed table hands → ShowsNoOverlap dump (first_breach table trace) table trace.list t

-- The picture with the table's own verdict, with what is found at each transmission of the trace, as in a recording of a bus of the table
-- within bounds, and with how many receptions are garbled, where that is known.
pub record IsJudged (picture : Picture) (bounds : Bounds) (window : Window) (table : Table) (trace : Recording) (garbled : Option ℕ)
    (reply : Reply) : Type 0 where
  pub found : Vec Judgement Global
  pub found_is : found.items ≡ judgements bounds table trace.list
  pub reply_is : reply ≡ ThePicture picture window (verdict_of table) (Findings bounds found garbled) table trace

-- Done where this gives a table that is accepted, else Refused.
abbrev pub page_status : Result Table TableError → Status
page_status (Ok table) = if is_accepted (verdict_of table) then Done else Refused
page_status (Err error) = Refused

-- What a call promises that asks for something. `Asks` says what it asks for; `Answers`, that it ends with a status and with a reply of
-- which something holds, or that memory was refused, of which `itself` takes none; `Refuses`, that nothing is answered, and that it ends
-- with a status or memory was refused. `Asking` and `Answering` say once for all views by which words and texts.
--   draw    `vcd`, `wires` and `timers`, and all three with a window: the dump, or that an entry is doubled
--   save    `gtkw`, and with a window: the save file, with the first breach where the window holds its moment
--   paint   `svg` and `cycles`, and both with a window: the picture, with what an audit finds or, where a heard text stands behind the
--           trace, with how many receptions are garbled in it
--   judge   `svg` and `cycles` with bounds, and both with a window too: the picture with what is found, and with that
--   page    `page` of any text, and with bounds: its page; the status is Done where the text gives a table that is accepted, else Refused
--   itself  `--help` and `--version`: the help and the version line
pub record Promises (Asks : Asked → Type 0) (Answers : Status → (Reply → Type 0) → Type 0) (Refuses : Status → Type 0) (status : Status)
    : Type 0 where
  pub draw : (dump : Dump) (window : Option Window) (table : Table) (trace : Recording) → Asks (Draw dump window table trace)
      → AnswersDump Answers Refuses dump (window_or_whole window trace) table trace
  pub save : (window : Option Window) (table : Table) (trace : Recording) → Asks (Save window table trace)
      → Answers Done (Is (TheSaveFile (window_or_whole window trace) (named_breach table trace) table trace))
  pub paint : (picture : Picture) (window : Option Window) (table : Table) (trace : Recording) (garbled : Option ℕ)
      → Asks (Paint picture window table trace garbled)
      → Answers Done (Is (ThePicture picture (window_or_whole window trace) (verdict_of table) (told_of table trace garbled) table trace))
  pub judge : (picture : Picture) (bounds : Bounds) (window : Option Window) (table : Table) (trace : Recording) (garbled : Option ℕ)
      → Asks (Judge picture bounds window table trace garbled)
      → Answers Done (IsJudged picture bounds (window_or_whole window trace) table trace garbled)
  pub page : (bounds : Option Bounds) (text : List ℕ) → Asks (Page bounds text)
      → Answers (page_status (answer_of text)) (Is (ThePage bounds text))
  pub itself : (about : About) → Asks (Itself about) → Answers Done (Is (OfItself about)) × (status ≡ Done)
