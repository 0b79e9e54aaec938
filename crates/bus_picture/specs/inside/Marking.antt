-- On the way over the transmissions of a list: which fault is marked at a place.
use Rattle.std.specs.Prelude.{ℕ, List, slice_get, Option, Some, None, if◌then◌else◌}
use Rattle.std.specs.Option.{option_and_then}
use Rattle.bus_strings.specs.Messages.{Entry}
use Rattle.bus_findings.specs.declared.judgement.Judgement.{Judgement}
use Rattle.bus_pen.specs.declared.scale.Scale.{Scale}
use Rattle.bus_picture.specs.Faults.{Fault, fault_of, is_marked}

-- A fault, where it is marked.
abbrev pub where_marked : Scale → Fault → Option Fault
where_marked scale fault = if is_marked scale fault then Some fault else None

-- The fault that is marked of transmission i of a list, where there is one.
abbrev pub marked_at : Scale → List Entry → List Judgement → ℕ → Option Fault
marked_at scale list judgements i =
    option_and_then (λ x. option_and_then (λ found. where_marked scale (fault_of (x, found))) (slice_get judgements i)) (slice_get list i)
