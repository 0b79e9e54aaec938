use Rattle.std.proofs.Common.{◌≡◌, drop}
use Rattle.bus_cable.specs.Cables.{may_name_all}
use Rattle.bus_cable.proofs.cable.may_name_all.Given as goal

-- what is left decides
abbrev pub invariant-loop-one : goal.invariant-loop-one
invariant-loop-one l = may_name_all l.most 0 l.named ≡ may_name_all l.most l.last (drop l.one-index l.named)
