use Rattle.std.proofs.Common.{◌≡◌, drop}
use Rattle.bus_text.specs.Entries.{texts}
use Rattle.bus_stream.specs.Items.{message_of, parts_of}
use Rattle.bus_stream.specs.inside.Joining.{joined}
use Rattle.bus_stream.proofs.message.message.Given as goal

-- the words so far are those of the wordstrings and of the one under way
abbrev pub invariant-loop-i : goal.invariant-loop-i
invariant-loop-i l = message_of (texts l.fields) ≡ joined l.strings.items l.label l.words.items (parts_of (drop l.i (texts l.fields)))
