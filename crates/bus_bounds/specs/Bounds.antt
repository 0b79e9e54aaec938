-- How exact a bus is, and between which bounds its lengths lie. Times are in nanoseconds, or in bit times where a caller says so.
use Rattle.std.specs.Prelude.{ℕ, ◌+◌, ◌-◌, ◌*◌, ◌≤◌}
use Rattle.std.specs.Int.{div_ceil}

--   delay    how much later a terminal hears another than it speaks, at most
--   jitter   by how much any length is off at most, however short it is
--   clocks   by how many millionths of its frequency an oscillator is off at most.
pub record Bounds : Type 0 where
  pub delay : ℕ
  pub jitter : ℕ
  pub clocks : ℕ

-- The greatest of each, limits of this project's profile: a millisecond, a tenth of a millisecond, a thousandth.
abbrev pub most_delay : ℕ
most_delay = 1000000

abbrev pub most_jitter : ℕ
most_jitter = 100000

abbrev pub most_clocks : ℕ
most_clocks = 1000

-- Each is within its limit.
pub record AreBounds (bounds : Bounds) : Type 0 where
  pub delay : bounds.delay ≤ most_delay
  pub jitter : bounds.jitter ≤ most_jitter
  pub clocks : bounds.clocks ≤ most_clocks

-- By how much a length is off at most for the oscillator that counts it, rounded up: the slowest does in 1,000,000 nanoseconds what an
-- exact one does in 1,000,000 less its millionths.
unfoldable pub drift : ℕ → ℕ → ℕ
drift clocks length = div_ceil (length * clocks) (1000000 - clocks)

-- By how much a length is off at most.
abbrev pub error : Bounds → ℕ → ℕ
error bounds length = bounds.jitter + drift bounds.clocks length

-- How short and how long it may be: at least 0.
abbrev pub short : Bounds → ℕ → ℕ
short bounds length = length - error bounds length

abbrev pub long : Bounds → ℕ → ℕ
long bounds length = length + error bounds length
