-- What follows of the definitions. The contracts of `laws` say that each of these holds.
use Rattle.std.specs.Prelude.{◌≡◌, ℕ, ◌+◌, ◌*◌, ◌/◌, ◌≤◌}
use Rattle.bus_pen.specs.Axes.{Unit, step, unit_bits}
use Rattle.bus_pen.specs.Scales.{Scale, IsScale, place}

-- Places don't fall as moments rise.
abbrev pub PlacesRise : Type 0
PlacesRise = (scale : Scale) (t u : ℕ) → IsScale scale → t ≤ u → place scale t ≤ place scale u

-- Places lie between the edges.
abbrev pub PlacesLieWithin : Type 0
PlacesLieWithin =
    (scale : Scale) (t : ℕ) → IsScale scale → (scale.left ≤ place scale t) × (place scale t ≤ scale.left + scale.width)

-- The numbers at the marks of an axis are exact: each mark is at so many of its units.
abbrev pub MarksAreExact : Type 0
MarksAreExact =
    (scale : Scale) (unit : Unit) (k : ℕ)
    → k * step scale / unit_bits unit (step scale) * unit_bits unit (step scale) ≡ k * step scale
