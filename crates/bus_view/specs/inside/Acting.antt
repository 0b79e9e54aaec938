-- What a command did, told form by form and behind its texts. No public clause cites it.
use Rattle.std.specs.Prelude.{◌≡◌, List, ℕ, Option, None}
use Rattle.bus_outer.specs.declared.sink.Sink.{Ghosts as SinkGhosts}
use Rattle.bus_outer.specs.declared.source.Source.{Ghosts as SourceGhosts}
use Rattle.bus_table.specs.Tables.{Table}
use Rattle.bus_trace.specs.Traces.{Recording}
use Rattle.bus_command.specs.inside.Acting as acting
use Rattle.bus_command.specs.Acts.{Ends}
use Rattle.bus_command.specs.Outside.{sink_seen}
use Rattle.bus_view.specs.Due.{view_answer, IsOfView}
use Rattle.bus_command.specs.Readers.{by_recorded, entire, one_source}
use Rattle.bus_view.specs.Forms.{Form, View, hears}
use Rattle.bus_view.specs.Refusals.{Outcome}
use Rattle.bus_view.specs.Acts.{view_program}

-- What the command of a form did whose sources were these before and after.
abbrev pub DoesBoth : {S K : Type 0} → SourceGhosts S → SinkGhosts K → Form → S → S → K → S → S → K → Outcome → Type 0
DoesBoth = acting.DoesBoth view_program

-- What a command did that has taken its table, its trace, and what is told behind that.
abbrev pub EndsOnRecorded : {K : Type 0} → SinkGhosts K → View → Table → Recording → Option ℕ → K → K → Outcome → Type 0
EndsOnRecorded ghosts view table trace garbled old new outcome =
    Ends (by_recorded (hears view)) (view_answer view table trace) (IsOfView view table trace garbled) (sink_seen ghosts old)
    (sink_seen ghosts new) outcome

-- The same where nothing is told behind the trace.
abbrev pub EndsOnView : {K : Type 0} → SinkGhosts K → View → Table → Recording → K → K → Outcome → Type 0
EndsOnView ghosts view table trace old new outcome = EndsOnRecorded ghosts view table trace None old new outcome

-- What the command of a form did whose first source was this before and after, whatever the second is.
abbrev pub DoesFirst : {S K : Type 0} → SourceGhosts S → SinkGhosts K → Form → S → K → S → K → Outcome → Type 0
DoesFirst = acting.DoesFirst view_program

-- What `page` did that has read its text, of which this is to be answered and written.
abbrev pub EndsPaging : {K : Type 0} → SinkGhosts K → Outcome → List ℕ → K → K → Outcome → Type 0
EndsPaging ghosts answer page old new outcome =
    Ends (one_source entire) answer (λ text. text ≡ page) (sink_seen ghosts old) (sink_seen ghosts new) outcome
