-- The forms of the command line: each asks for a view of a trace, for the page of a table, or for what the program tells of itself. A word
-- is its bytes.
use Rattle.std.specs.Prelude.{ℕ, ◌≤◌, List, [], ◌∷◌, Bool, true, false, ◌&&◌, nat_lt, nat_le, codes, take, if◌then◌else◌}
use Rattle.std.specs.Prelude.{Option, Some, None, Result, Ok, Err}
use Rattle.std.specs.Int.{div_ceil}
use Rattle.std.specs.Option.{option_map, option_map_or}
use Rattle.std.specs.Str.{bytes_eq}
use Rattle.bus_strings.specs.Limits.{horizon_limit}
use Rattle.bus_units.specs.Quantities.{bit_time}
use Rattle.bus_dump.specs.declared.dump.Dump.{Dump as AnyDump}
use Rattle.bus_dump.specs.declared.dump.Dump.TheVariants as dump
use Rattle.bus_trace.specs.Windows.{Window}
use Rattle.bus_bounds.specs.Bounds.{Bounds}
use Rattle.bus_command.specs.About.{about_of}
pub use Rattle.bus_options.specs.declared.bounding.PastLimit.{PastLimit}
pub use Rattle.bus_options.specs.Bounding.{bounds_of, most_near_delay, near_bounds_of}
pub use Rattle.bus_options.specs.declared.line.Line.{Line}
pub use Rattle.bus_options.specs.declared.line.OptionError.{OptionError}
pub use Rattle.bus_options.specs.declared.options.Options.{Options}
pub use Rattle.bus_options.specs.Options.{line_of, no_options}
pub use Rattle.bus_options.specs.Taken.{takes}
use Rattle.bus_options.specs.Taken as taken
pub use Rattle.bus_view.specs.declared.words.NoWindow.{NoWindow}
pub use Rattle.bus_view.specs.declared.forms.Form.{Form}
pub use Rattle.bus_view.specs.declared.forms.Form.TheVariants.{OnTrace, OnItself, Page}
pub use Rattle.bus_view.specs.declared.forms.Picture.{Picture}
pub use Rattle.bus_view.specs.declared.forms.Picture.TheVariants.{TimeLine, Cycles}
pub use Rattle.bus_view.specs.declared.forms.View.{View}
pub use Rattle.bus_view.specs.declared.forms.View.TheVariants.{Dump, SaveFile, Picture as Painted, Judged}

-- ---- windows
abbrev pub no_window : NoWindow
no_window = record {}

-- The window from a moment to a later one, at most the limit of a horizon, in bit times.
abbrev pub window_bits : (from to : ℕ) → Result (Option Window) NoWindow
window_bits from to =
    if nat_lt from to && nat_le to horizon_limit then Ok (Some (record { from = from; to = to })) else Err no_window

-- The window that two moments in nanoseconds ask for, each rounded up to bit times: from the first moment on, or from 0; without either
-- none, and none without its end.
abbrev pub window_by : (from to : Option ℕ) → Result (Option Window) NoWindow
window_by None None = Ok None
window_by (Some from) None = Err no_window
window_by None (Some to) = window_bits 0 (div_ceil to bit_time)
window_by (Some from) (Some to) = window_bits (div_ceil from bit_time) (div_ceil to bit_time)

-- ---- forms
-- The dump of a command.
abbrev pub dump_of : List ℕ → Option AnyDump
dump_of command =
    if bytes_eq command (codes "vcd") then Some dump.Vcd
    else if bytes_eq command (codes "wires") then Some dump.Wires
    else if bytes_eq command (codes "timers") then Some dump.Timers
    else None

-- The picture of a command.
abbrev pub picture_of : List ℕ → Option Picture
picture_of command =
    if bytes_eq command (codes "svg") then Some TimeLine
    else if bytes_eq command (codes "cycles") then Some Cycles
    else None

-- The picture of a command as a view, of all of a trace or of a window of it.
abbrev pub picture_view : List ℕ → Option Window → Option View
picture_view command window = option_map (λ picture. Painted picture window) (picture_of command)

-- The dump or the picture of a command, of all of a trace or of a window of it.
abbrev pub dumped_or_painted : List ℕ → Option Window → Option View
dumped_or_painted command window = option_map_or (λ dump. Some (Dump dump window)) (dump_of command) (picture_view command window)

-- The dump, the save file or the picture of a command, of all of a trace or of a window of it.
abbrev pub drawn : List ℕ → Option Window → Option View
drawn command window = if bytes_eq command (codes "gtkw") then Some (SaveFile window) else dumped_or_painted command window

-- The picture of a command with what is found within bounds, of all of a trace or of a window of it.
abbrev pub judged : List ℕ → Bounds → Option Window → Option View
judged command bounds window = option_map (λ picture. Judged picture bounds window) (picture_of command)

-- The view of a command, within the bounds and of the window that are asked for.
abbrev pub view_by : List ℕ → Result (Option Bounds) PastLimit → Result (Option Window) NoWindow → Option View
view_by command (Ok None) (Ok window) = drawn command window
view_by command (Ok (Some bounds)) (Ok window) = judged command bounds window
view_by command (Ok bounds) (Err error) = None
view_by command (Err past) window = None

-- `vcd T R`, `wires T R`, `timers T R`, `gtkw T R`, `svg T R`, `cycles T R`, with a window; the last two with bounds too.
abbrev pub view_of : List ℕ → Options → Option View
view_of command options =
    if takes taken.bounds_and_window options then view_by command (near_bounds_of options) (window_by options.from options.to) else None

-- `--help`, `--version`.
abbrev pub one_word : List ℕ → Option Form
one_word word = option_map OnItself (about_of word)

-- The page within bounds, where some are asked for.
abbrev pub page_by : Result (Option Bounds) PastLimit → Option Form
page_by (Ok asked) = Some (Page asked)
page_by (Err past) = None

-- `page T`, with bounds.
abbrev pub page_of : List ℕ → Options → Option Form
page_of command options =
    if bytes_eq command (codes "page") && takes taken.bounds options then page_by (bounds_of options) else None

-- The form of a command and its plain words, whatever the words T and R are, with these options behind.
abbrev pub form_with : List (List ℕ) → Options → Option Form
form_with (command ∷ table ∷ []) options = page_of command options
form_with (command ∷ table ∷ trace ∷ []) options = option_map OnTrace (view_of command options)
form_with words options = None

abbrev pub form_by : List (List ℕ) → Result Line OptionError → Option Form
form_by words (Ok line) = form_with (take line.plain words) line.options
form_by words (Err error) = None

-- The form of the words of a command line.
abbrev pub form_of : List (List ℕ) → Option Form
form_of [] = None
form_of (word ∷ []) = one_word word
form_of (command ∷ table ∷ further) = form_by (command ∷ table ∷ further) (line_of (command ∷ table ∷ further))

-- The delay of the bounds of a view, where it has bounds, is within its limit.
abbrev pub IsNear : View → Type 0
IsNear (Dump dump window) = Unit {0}
IsNear (SaveFile window) = Unit {0}
IsNear (Painted picture window) = Unit {0}
IsNear (Judged picture bounds window) = bounds.delay ≤ most_near_delay

-- The numbers of a form are within their limits.
abbrev pub IsWithinLimits : Form → Type 0
IsWithinLimits (OnTrace view) = IsNear view
IsWithinLimits (OnItself about) = Unit {0}
IsWithinLimits (Page asked) = Unit {0}

-- Whether a view shows what stands behind a trace: a picture tells what terminals hear of it.
abbrev pub hears : View → Bool
hears (Dump dump window) = false
hears (SaveFile window) = false
hears (Painted picture window) = true
hears (Judged picture bounds window) = true
