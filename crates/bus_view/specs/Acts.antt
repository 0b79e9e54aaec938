-- What the program bus629-view does.
use Rattle.std.specs.Prelude.{List, String}
use Rattle.std.specs.declared.alloc.Global.{Global}
use Rattle.bus_outer.specs.declared.sink.Sink.{Ghosts as SinkGhosts}
use Rattle.bus_outer.specs.declared.source.Source.{Ghosts as SourceGhosts}
use Rattle.bus_command.specs.Acts as command
use Rattle.bus_command.specs.Acts.{Program}
use Rattle.bus_command.specs.Outside.{Call}
use Rattle.bus_command.specs.declared.status.Status.{Status}
use Rattle.bus_view.specs.Commands.{command_of}
use Rattle.bus_view.specs.Forms.{Form, form_of}
use Rattle.bus_view.specs.Refusals.{Doubled, Outcome, ends_of, line_of}

-- The program: its forms, the command of each, and how it ends with a refusal of its own.
abbrev pub view_program : Program Doubled Form
view_program = record {
  form_of = form_of;
  command = command_of;
  ends = ends_of;
  line = line_of;
}

-- What a call did.
abbrev pub Acts : Call → Outcome → Type 0
Acts call outcome = command.Acts view_program call outcome

-- What the call of these words came to, between two sources, a sink and the sink of its line before and after.
abbrev pub ComesOf : {S K E : Type 0} → SourceGhosts S → SinkGhosts K → SinkGhosts E → List (String Global)
    → S → S → K → E → S → S → K → E → Status → Type 0
ComesOf = command.ComesOf view_program
