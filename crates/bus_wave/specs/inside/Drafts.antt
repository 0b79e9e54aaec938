-- What the code keeps of the lines so far, and the state that it stands for.
use Rattle.std.specs.Prelude.{◌≡◌, ℕ, ◌+◌, ◌<◌, ◌≤◌, true, List, ◌∷◌, length}
use Rattle.std.specs.List.{list_all}
use Rattle.bus_strings.specs.Limits.{horizon_limit, most_terminal, most_strings}
use Rattle.bus_strings.specs.Messages.{Entry}
use Rattle.bus_table.specs.declared.line.SendLine.{SendLine}
use Rattle.bus_table.specs.Ranges.{is_send_line}
use Rattle.bus_wave.specs.declared.phase.Phase.{Phase}
use Rattle.bus_wave.specs.declared.phase.Phase.TheVariants as code
use Rattle.bus_wave.specs.declared.draft.Draft.{Draft}
use Rattle.bus_wave.specs.Judging.{Opened, Silent, Saying, Waiting, Closed, State, later, least_rest}
use Rattle.bus_wave.specs.Judging as judging

-- The complete wordstrings of the message under way.
abbrev pub begun_of : Draft → Entry
begun_of d = record { moment = d.moment; terminal = d.terminal; message = d.strings.items }

-- The phase of a draft.
abbrev pub phase_of : Phase → Entry → List ℕ → judging.Phase
phase_of code.Opened x words = Opened
phase_of (code.Silent free) x words = Silent free
phase_of (code.Saying line left rest) x words = Saying x line words left.now
phase_of (code.Waiting next left rest) x words = Waiting x next left.now
phase_of code.Closed x words = Closed

-- The state of a draft.
abbrev pub state_of : Draft → State
state_of d = record { at = d.at; list = d.list.items; phase = phase_of d.phase (begun_of d) d.words.items }

-- A message under way with this SEND line, and these behind it.
pub record IsUnderWay (x : Entry) (line : SendLine) (left : List SendLine) (rest : ℕ) : Type 0 where
  pub rest_is : rest ≡ later left
  pub lines : list_all is_send_line (line ∷ left) ≡ true
  pub few : length x.message + 1 + length left ≤ most_strings
  pub low : 1 ≤ x.terminal
  pub high : x.terminal ≤ most_terminal
  pub moment : x.moment < horizon_limit

-- What holds of the phase of a draft.
abbrev pub PhaseKeeps : Phase → Entry → List ℕ → Type 0
PhaseKeeps code.Opened x words = Unit {0}
PhaseKeeps (code.Silent free) x words = Unit {0}
PhaseKeeps (code.Saying line left rest) x words = IsUnderWay x line left.now rest × (length words ≤ line.most)
PhaseKeeps (code.Waiting next left rest) x words = IsUnderWay x next left.now rest
PhaseKeeps code.Closed x words = Unit {0}

-- What holds of each draft: its bit times, counted with the least rest of a begun message, are within the greatest horizon.
pub record Keeps (d : Draft) : Type 0 where
  pub low : d.at + least_rest (phase_of d.phase (begun_of d) d.words.items) ≤ horizon_limit
  pub phase : PhaseKeeps d.phase (begun_of d) d.words.items
