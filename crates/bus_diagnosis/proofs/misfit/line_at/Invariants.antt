use Rattle.std.proofs.Common.{◌≡◌}
use Rattle.std.specs.Prelude.{slice_get}
use Rattle.bus_text.specs.Lines.{entries_of}
use Rattle.bus_diagnosis.proofs.misfit.line_at.Given as goal

-- what is left has the line so many places ahead
abbrev pub invariant-loop-line : goal.invariant-loop-line
invariant-loop-line l = slice_get l.line-iterator l.ahead ≡ slice_get (entries_of l.text) l.place
