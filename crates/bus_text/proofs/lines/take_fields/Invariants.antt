use Rattle.std.proofs.Common.{◌≡◌, ◌++◌}
use Rattle.bus_text.specs.Entries.{texts}
use Rattle.bus_text.specs.Lines.{fields_of}
use Rattle.bus_text.proofs.lines.take_fields.Given as goal

abbrev pub invariant-loop-field : goal.invariant-loop-field
invariant-loop-field l = texts l.fields.items ++ l.field-iterator ≡ fields_of l.line
