-- Small worked rows, computed. The numbers are shorter than a sound timing's.
use Rattle.std.proofs.Common.{◌≡◌, ℕ, Bool, true, false, List, ◌++◌, replicate, Some, None, refl}
use Rattle.bus_timers.specs.declared.timing.Timing.{Timing}
use Rattle.bus_timers.specs.MayStartTest.{may_start}

abbrev quick : Timing
quick = record { ti = 12; sg = 5; tg = 2; quiet = 5; due = 0 }

abbrev late : Timing
late = record { ti = 12; sg = 5; tg = 2; quiet = 8; due = 4 }

abbrev quiet : ℕ → List Bool
quiet n = replicate n false

abbrev carrier : ℕ → List Bool
carrier n = replicate n true

-- the terminal gap counts behind the synchronization gap
gap_too_short : may_start quick (quiet 6) None ≡ false
gap_too_short = refl

gap_fits : may_start quick (quiet 7) None ≡ true
gap_fits = refl

-- the offset delays the first start
not_yet_due : may_start late (quiet 11) None ≡ false
not_yet_due = refl

due : may_start late (quiet 12) None ≡ true
due = refl

-- once elapsed, the synchronization gap stays so while others send: the terminal gap alone counts anew
after_another : may_start quick (quiet 6 ++ carrier 4 ++ quiet 2) None ≡ true
after_another = refl

right_after_another : may_start quick (quiet 6 ++ carrier 4 ++ quiet 1) None ≡ false
right_after_another = refl

-- before it has elapsed, carrier sets it back to nothing
set_back : may_start quick (quiet 4 ++ carrier 1 ++ quiet 6) None ≡ false
set_back = refl

elapsed_later : may_start quick (quiet 4 ++ carrier 1 ++ quiet 7) None ≡ true
elapsed_later = refl

-- an own start at place 7 takes it back: five quiet bit times behind it, and two more
own_start : may_start quick (quiet 7 ++ carrier 4 ++ quiet 7) (Some 7) ≡ false
own_start = refl

interval_elapsed : may_start quick (quiet 7 ++ carrier 4 ++ quiet 8) (Some 7) ≡ true
interval_elapsed = refl

-- the transmit interval has elapsed long ago, and the gaps of nobody else count
only_terminal_gap : may_start quick (quiet 7 ++ carrier 20 ++ quiet 2) (Some 7) ≡ false
only_terminal_gap = refl

both_gaps : may_start quick (quiet 7 ++ carrier 20 ++ quiet 7) (Some 7) ≡ true
both_gaps = refl
