-- What the rules ask for at least, in bit times, however much it is.
use Rattle.std.specs.Prelude.{ℕ, zero, suc, ◌+◌, ◌-◌, ◌*◌, ◌==◌, max, nat_le, List, [], ◌∷◌, if◌then◌else◌}
use Rattle.std.specs.Int.{div_ceil}
use Rattle.bus_bounds.specs.Bounds.{Bounds}
use Rattle.bus_gaps.specs.Gaps.{least_sg, least_tg, least_time, drop_of, first_low, next_low}

-- So many bit times last at least so many nanoseconds, and fewer don't, where these are more than none.
unfoldable pub least_bits : Bounds → ℕ → ℕ
least_bits bounds low =
    div_ceil ((bounds.jitter + low) * (1000000 - bounds.clocks)) (500 * (1000000 - 2 * bounds.clocks))

-- The least terminal gap that lasts so long.
abbrev pub least_gap : Bounds → ℕ → ℕ
least_gap bounds low = if nat_le low (least_time bounds least_tg) then least_tg else least_bits bounds low

-- The least synchronization gap that is over within no message.
abbrev pub least_whole : Bounds → ℕ
least_whole bounds = max least_sg (least_bits bounds (drop_of bounds))

-- The least gaps of so many senders that are apart, where the first lasts so long at least.
abbrev pub asked_from : Bounds → ℕ → ℕ → ℕ → List ℕ
asked_from bounds sg low zero = []
asked_from bounds sg low (suc n) = least_gap bounds low ∷ asked_from bounds sg (next_low bounds sg (least_gap bounds low)) n

abbrev pub asked : Bounds → ℕ → ℕ → List ℕ
asked bounds count sg = asked_from bounds sg (first_low bounds sg (count == 1)) count
