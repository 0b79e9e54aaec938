use Rattle.std.proofs.Common.{◌≡◌, ◌++◌, drop}
use Rattle.bus_advice.specs.Advices.{line_advices, least_advices}
use Rattle.bus_advice.proofs.cycles.add_lines.Given as goal

-- with the advices of the lines to come these are all
abbrev pub invariant-loop-place : goal.invariant-loop-place
invariant-loop-place l =
    l.advices.items ++ line_advices l.table l.sender.number l.place (drop l.place l.sender.sends)
    ≡ l.fn.advices.items ++ least_advices l.table l.sender
