-- What follows of the definitions of save files. The contracts of `laws` say that each of these holds.
use Rattle.std.specs.Prelude.{◌≡◌, ◌⊎◌, ℕ, ◌*◌, ◌-◌, ◌^◌, ◌≤◌, true, false, IsTrue, List, [], ◌∷◌, ◌++◌, take, Option, Some, None}
use Rattle.std.specs.List.{count_by}
use Rattle.bus_strings.specs.Members.{In}
use Rattle.bus_table.specs.Tables.{Table}
use Rattle.bus_table.specs.Valid.{is_valid}
use Rattle.bus_trace.specs.Traces.{Recording, IsTrace}
use Rattle.bus_trace.specs.Windows.{IsWindow, Window, holds}
use Rattle.bus_dump.specs.declared.dump.Dump.{Dump}
use Rattle.bus_dump.specs.DumpTexts.{end_of_dump}
use Rattle.bus_dump.specs.Lanes.{Lane, lanes}
use Rattle.bus_dump.specs.SaveFiles.{FirstBreach, in_order, is_open, lane_shown, most_open, nanoseconds, save_text, shown}
use Rattle.bus_dump.specs.SaveFiles.{shown_breach, zoom}
use Rattle.bus_dump.specs.Signals.{Signal, signals}

-- A text is empty, or ends with a line feed.
abbrev pub EndsLine : List ℕ → Type 0
EndsLine text = (text ≡ []) ⊎ ((line : List ℕ) × (text ≡ line ++ 10 ∷ []))

-- A text has these lines.
pub record HasLines (lines text : List ℕ) : Type 0 where
  pub front : List ℕ
  pub behind : List ℕ
  pub parts : text ≡ front ++ lines ++ behind
  pub line : EndsLine front

-- The save file shows each signal of each dump.
abbrev pub AllAreShown : Type 0
AllAreShown =
    (dump : Dump) (window : Window) (breach : Option FirstBreach) (table : Table) (trace : Recording) (signal : Signal)
    → In signal (signals dump (lanes table trace.list)) → HasLines (shown signal) (save_text window breach table trace)

-- The save file opens on the whole dump: 500 pixels of the viewer, of which 200 have so many nanoseconds, have room for all of it.
abbrev pub OpensOnAll : Type 0
OpensOnAll =
    (window : Window) (horizon : ℕ) → IsWindow window
    → 2 * nanoseconds (end_of_dump window horizon - window.from) ≤ 5 * 2 ^ zoom (end_of_dump window horizon - window.from)

-- Where the window holds the breach, the lane of the terminal that it names is open.
abbrev pub BreachIsOpen : Type 0
BreachIsOpen =
    (window : Window) (breach : FirstBreach) (table : Table) (trace : Recording) (lane : Lane) → holds window breach.moment ≡ true
    → In lane (lanes table trace.list) → lane.terminal ≡ breach.terminal
    → HasLines (lane_shown false table lane) (save_text window (Some breach) table trace)

-- Where the breach tells which lane is open, that is the first that is shown.
abbrev pub BreachIsFirst : Type 0
BreachIsFirst =
    (breach : FirstBreach) (lanes : List Lane) (lane : Lane) → In lane lanes → lane.terminal ≡ breach.terminal
    → (first : Lane) × (behind : List Lane) × (in_order (Some breach) lanes ≡ first ∷ behind) × (first.terminal ≡ breach.terminal)

-- Where it holds none, each of the first lanes is open.
abbrev pub FirstAreOpen : Type 0
FirstAreOpen =
    (window : Window) (breach : Option FirstBreach) (table : Table) (trace : Recording) (lane : Lane) → shown_breach window breach ≡ None
    → In lane (take most_open (lanes table trace.list)) → HasLines (lane_shown false table lane) (save_text window breach table trace)

-- No more than these are, whatever breach there is.
abbrev pub FewAreOpen : Type 0
FewAreOpen =
    (breach : Option FirstBreach) (table : Table) (trace : Recording) → IsTrue (is_valid table) → IsTrace trace
    → count_by (is_open breach (lanes table trace.list)) (lanes table trace.list) ≤ most_open
