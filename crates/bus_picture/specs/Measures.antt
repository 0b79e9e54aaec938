-- How far words reach, in units of a tenth of a pixel; the other measures of time lines are constants of the crate.
use Rattle.std.specs.Prelude.{ℕ}

-- How far the words of a transmit interval, capitals and digits, reach above their line, at most.
abbrev pub interval_rise : ℕ
interval_rise = 76

-- How far they reach below it, at most.
abbrev pub interval_depth : ℕ
interval_depth = 4

-- How far words reach below their line, at most.
abbrev pub words_depth : ℕ
words_depth = 60
