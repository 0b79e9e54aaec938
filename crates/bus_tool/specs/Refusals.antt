-- What bus629 refuses beside what every command does: where, with which status, and by which line.
use Rattle.std.specs.Prelude.{ℕ, List, [], ◌∷◌, ◌++◌, codes}
use Rattle.std.specs.Fmt.{decimal}
use Rattle.bus_regime.specs.Lines.{verdict_line}
use Rattle.bus_table.specs.Text.{mode_word}
use Rattle.bus_wave.specs.Reasons.{entry_words, wave_reason_word}
use Rattle.bus_command.specs.declared.outcome.Outcome.{Outcome as OutcomeWith}
use Rattle.bus_command.specs.declared.outcome.Outcome.TheVariants.{Own}
use Rattle.bus_command.specs.declared.refusal.Place.{Place}
use Rattle.bus_command.specs.declared.refusal.Place.TheVariants as place
use Rattle.bus_command.specs.declared.status.Status.{Status}
use Rattle.bus_command.specs.declared.status.Status.TheVariants as status
use Rattle.bus_command.specs.Outcomes as common
use Rattle.bus_text.specs.Reasons.{reason_word}
use Rattle.bus_table.specs.Reasons.{fit_words}
use Rattle.bus_command.specs.Outcomes.{error_line}
pub use Rattle.bus_tool.specs.declared.refusal.ToolRefusal.{ToolRefusal}
pub use Rattle.bus_tool.specs.declared.refusal.ToolRefusal.TheVariants.{TableMode, Unspaced, WaveText, Uneven, NotAccepted}
pub use Rattle.bus_tool.specs.declared.refusal.ToolRefusal.TheVariants.{ShortLast, TooLong}
pub use Rattle.bus_tool.specs.declared.refusal.ToolRefusal.TheVariants.{CableText, CableUnfit}

-- What a command came to.
abbrev pub Outcome : Type 0
Outcome = OutcomeWith ToolRefusal

-- Where each refusal stands.
abbrev pub place_of : ToolRefusal → Place
place_of (TableMode needed) = place.First
place_of (Unspaced fault) = place.Second
place_of (WaveText line reason) = place.Second
place_of (Uneven one one_count other other_count) = place.Both
place_of (NotAccepted verdict) = place.Both
place_of (ShortLast least ti) = place.Both
place_of (TooLong end) = place.Both
place_of (CableText line reason) = place.Second
place_of (CableUnfit error) = place.Second

-- What a command comes to that refuses so.
abbrev pub refuse : ToolRefusal → Outcome
refuse why = Own (place_of why) why

-- How the program ends.
abbrev pub ends_of : ToolRefusal → Status
ends_of (TableMode needed) = status.TableRefused
ends_of (Unspaced fault) = status.InputRefused
ends_of (WaveText line reason) = status.InputRefused
ends_of (Uneven one one_count other other_count) = status.InputRefused
ends_of (NotAccepted verdict) = status.Refused
ends_of (ShortLast least ti) = status.Refused
ends_of (TooLong end) = status.TooLong
ends_of (CableText line reason) = status.InputRefused
ends_of (CableUnfit error) = status.InputRefused

-- A terminal and how many messages it has.
abbrev pub count_words : ℕ → ℕ → List ℕ
count_words terminal count = decimal terminal ++ 32 ∷ [] ++ decimal count

-- Two terminals, and how many messages each has.
abbrev pub uneven_words : (one one_count other other_count : ℕ) → List ℕ
uneven_words one one_count other other_count =
    codes "messages uneven " ++ count_words one one_count ++ 32 ∷ [] ++ count_words other other_count

-- The line of a last cycle that is shorter than the transmit interval, which comes behind it.
abbrev pub short_last_line : ℕ → ℕ → List ℕ
short_last_line least ti = codes "REFUSE short-last " ++ decimal least ++ 32 ∷ [] ++ decimal ti ++ 10 ∷ []

-- The line of each refusal: the verdict or the last cycle for which senders aren't run, else the ERROR line.
abbrev pub line_of : ToolRefusal → List ℕ
line_of (TableMode needed) = error_line status.TableRefused (codes "table mode " ++ mode_word needed)
line_of (Unspaced fault) = error_line status.InputRefused (codes "wave entry " ++ entry_words fault)
line_of (WaveText line reason) = error_line status.InputRefused (codes "wave line " ++ decimal line ++ 32 ∷ [] ++ wave_reason_word reason)
line_of (Uneven one one_count other other_count) = error_line status.InputRefused (uneven_words one one_count other other_count)
line_of (NotAccepted verdict) = verdict_line verdict
line_of (ShortLast least ti) = short_last_line least ti
line_of (TooLong end) = error_line status.TooLong (codes "long " ++ decimal end)
line_of (CableText line reason) = error_line status.InputRefused (codes "cable line " ++ decimal line ++ 32 ∷ [] ++ reason_word reason)
line_of (CableUnfit error) = error_line status.InputRefused (codes "cable item " ++ fit_words error)

-- How the program ends with an outcome.
abbrev pub status_of : Outcome → Status
status_of outcome = common.status_of ends_of outcome
