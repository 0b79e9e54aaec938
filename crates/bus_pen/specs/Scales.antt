-- Where moments are drawn. A unit is a tenth of a pixel; division rounds down.
use Rattle.std.specs.Prelude.{ℕ, ◌+◌, ◌-◌, ◌*◌, ◌/◌, ◌^◌, ◌<◌, ◌≤◌, min, max}
pub use Rattle.bus_pen.specs.declared.scale.Scale.{Scale}
use Rattle.bus_pen.specs.declared.measures.TheConstants.{PIXEL as pixel}

-- No moment of a scale is above it: twice the greatest horizon.
abbrev pub scale_bound : ℕ
scale_bound = 2 ^ 41

-- All edges and widths of scales are below it.
abbrev pub place_bound : ℕ
place_bound = 2 ^ 20

-- The bounds of a scale.
pub record IsScale (scale : Scale) : Type 0 where
  pub some : scale.from < scale.to
  pub short : scale.to ≤ scale_bound
  pub left : scale.left < place_bound
  pub room : 0 < scale.width
  pub narrow : scale.width < place_bound

-- A moment, or the end of the scale that is nearest to it.
abbrev pub held : Scale → ℕ → ℕ
held scale t = min (max t scale.from) scale.to

-- The place of a moment: as far from the left edge, for the width, as it lies behind the first moment, for all moments.
abbrev pub place : Scale → ℕ → ℕ
place scale t = scale.left + (held scale t - scale.from) * scale.width / (scale.to - scale.from)

-- The width of the box of two moments, at least a pixel.
abbrev pub extent : Scale → ℕ → ℕ → ℕ
extent scale from to = max (place scale to - place scale from) pixel
