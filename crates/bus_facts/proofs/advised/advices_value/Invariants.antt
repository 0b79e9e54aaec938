use Rattle.std.proofs.Common.{◌≡◌, map, take}
use Rattle.serde_json.specs.View.{view}
use Rattle.bus_facts.specs.Advised.{advice_value}
use Rattle.bus_facts.proofs.advised.advices_value.Given as goal

-- those so far
abbrev pub invariant-loop-advice : goal.invariant-loop-advice
invariant-loop-advice l = map view l.values.items ≡ map advice_value (take l.advice-index l.advices)
