use Rattle.bus_dump.proofs.ShownStretchLemmas.{IsSought}
use Rattle.bus_dump.proofs.shown_stretch.stretch_at.Given as goal

-- the bit time is none of the wordstrings so far, and is bit time `rest` of the others
abbrev pub invariant-loop-string : goal.invariant-loop-string
invariant-loop-string l = IsSought l.string-items l.string-index l.at l.rest
