-- What the command of a form of a program did, by what its calls show of sources and sinks. No public clause cites it.
use Rattle.bus_outer.specs.declared.sink.Sink.{Ghosts as SinkGhosts}
use Rattle.bus_outer.specs.declared.source.Source.{Ghosts as SourceGhosts}
use Rattle.bus_command.specs.declared.outcome.Outcome.{Outcome}
use Rattle.bus_command.specs.Acts.{Program, DoesForm}
use Rattle.bus_command.specs.Outside.{Outside, Seen, outside, sink_seen, source_seen, both, around}

-- The outside of a command that names the first source alone, whatever the second is.
abbrev pub beside : {S K : Type 0} → SourceGhosts S → SinkGhosts K → S → Seen → K → Outside
beside source sink first second out = around (both (source_seen source first) second) (sink_seen sink out)

-- What the command of a form did whose first source was this before and after, whatever the second is.
abbrev pub DoesFirst :
    {R Form S K : Type 0} → Program R Form → SourceGhosts S → SinkGhosts K → Form → S → K → S → K → Outcome R → Type 0
DoesFirst program source sink form first out later_first later_out outcome =
    (second : Seen)
    → DoesForm program form (beside source sink first second out) (beside source sink later_first second later_out) outcome

-- What the command of a form did whose sources were these before and after.
abbrev pub DoesBoth :
    {R Form S K : Type 0} → Program R Form → SourceGhosts S → SinkGhosts K → Form → S → S → K → S → S → K → Outcome R → Type 0
DoesBoth program source sink form first second out later_first later_second later_out outcome =
    DoesForm program form (outside source sink first second out) (outside source sink later_first later_second later_out) outcome
