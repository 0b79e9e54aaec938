-- How a call asks, said once for all views: its words are the view's, its sources tell texts that stand for the values, and nothing outside
-- fails.
use Rattle.std.specs.Prelude.{◌≡◌, ℕ, ◌≤◌, List, ◌∷◌, length, codes, Option, Some, None, IfSome, Ok}
use Rattle.bus_bounds.specs.Bounds.{Bounds}
use Rattle.bus_table.specs.Tables.{Table}
use Rattle.bus_trace.specs.Traces.{Recording}
use Rattle.bus_trace.specs.Windows.{Window, IsWindow}
use Rattle.bus_dump.specs.declared.dump.Dump.TheVariants.{Vcd, Wires, Timers}
use Rattle.bus_command.specs.About.{IsAbout}
use Rattle.bus_options.specs.Bounding.{AreNear, bounds_of, near_bounds_of}
use Rattle.bus_options.specs.declared.options.Options.{Options}
use Rattle.bus_options.specs.Taken.{HasOptions}
use Rattle.bus_options.specs.Taken as taken
use Rattle.bus_command.specs.Claims.{IsOfTraced, NothingFails}
use Rattle.bus_command.specs.Heard.{garbled_in}
use Rattle.bus_command.specs.Outside.{Call}
use Rattle.bus_command.specs.Readers.{entire, one_source, text_limit}
use Rattle.bus_view.specs.Asked.{Asked, Draw, Save, Paint, Judge, Page, Itself}
use Rattle.bus_view.specs.Forms.{View, Dump, SaveFile, Painted, Judged, Picture, TimeLine, Cycles, window_by}

-- The command of a picture.
abbrev pub picture_word : Picture → List ℕ
picture_word TimeLine = codes "svg"
picture_word Cycles = codes "cycles"

-- The command of a view.
abbrev pub view_word : View → List ℕ
view_word (Dump Vcd window) = codes "vcd"
view_word (Dump Wires window) = codes "wires"
view_word (Dump Timers window) = codes "timers"
view_word (SaveFile window) = codes "gtkw"
view_word (Painted picture window) = picture_word picture
view_word (Judged picture bounds window) = picture_word picture

-- The bounds and the window of a view.
abbrev pub bounds_in : View → Option Bounds
bounds_in (Dump dump window) = None
bounds_in (SaveFile window) = None
bounds_in (Painted picture window) = None
bounds_in (Judged picture bounds window) = Some bounds

abbrev pub window_in : View → Option Window
window_in (Dump dump window) = window
window_in (SaveFile window) = window
window_in (Painted picture window) = window
window_in (Judged picture bounds window) = window

-- A call of a view, whose options ask for its bounds and its window, on texts of a valid table and of a trace, in which nothing outside
-- fails.
pub record IsViewOf (view : View) (table : Table) (trace : Recording) (call : Call) : Type 0 where
  pub behind : List (List ℕ)
  pub options : Options
  pub given : HasOptions 3 taken.bounds_and_window options call.words
  pub bounds : near_bounds_of options ≡ Ok (bounds_in view)
  pub window : window_by options.from options.to ≡ Ok (window_in view)
  pub call_is : IsOfTraced (view_word view) behind table trace call

-- A call of a picture, of a trace behind which so many receptions are told to be garbled, where a heard text stands there.
pub record IsPictureOf (view : View) (table : Table) (trace : Recording) (garbled : Option ℕ) (call : Call) : Type 0 where
  pub is : IsViewOf view table trace call
  pub behind : garbled_in is.call_is.trace_told.stands.rest ≡ garbled

-- A call of `page T` whose options ask for these bounds, or for none, and whose first source tells this text, within its limit, whether it
-- is one of a table or not, and in which nothing outside fails.
pub record IsPageOf (asked : Option Bounds) (text : List ℕ) (call : Call) : Type 0 where
  pub path : List ℕ
  pub behind : List (List ℕ)
  pub options : Options
  pub form : call.words ≡ codes "page" ∷ path ∷ behind
  pub given : HasOptions 2 taken.bounds options call.words
  pub bounds : bounds_of options ≡ Ok asked
  pub told : call.before.sources.first.bytes ≡ Some text
  pub short : length text ≤ text_limit
  pub undisturbed : NothingFails (one_source entire) call.before call.after

-- The call asks for this: its words are the view's, its sources tell texts of these values, and nothing outside fails.
abbrev pub Asks : Call → Asked → Type 0
Asks call (Draw dump window table trace) = IfSome window IsWindow × IsViewOf (Dump dump window) table trace call
Asks call (Save window table trace) = IfSome window IsWindow × IsViewOf (SaveFile window) table trace call
Asks call (Paint picture window table trace garbled) =
    IfSome window IsWindow × IsPictureOf (Painted picture window) table trace garbled call
Asks call (Judge picture bounds window table trace garbled) =
    AreNear bounds × IfSome window IsWindow × IsPictureOf (Judged picture bounds window) table trace garbled call
Asks call (Page bounds text) = IsPageOf bounds text call
Asks call (Itself about) = IsAbout about call
