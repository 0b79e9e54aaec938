-- The last long stretch in which nobody was heard, and what it tells of a start.
use Rattle.std.specs.Prelude.{◌≡◌, ℕ, ◌+◌, ◌-◌, ◌^◌, ◌<◌, ◌≤◌, min, Bool, ◌&&◌, ◌||◌, nat_le, nat_lt, List, take, slice_get, Some}
use Rattle.bus_strings.specs.Members.{In}
use Rattle.bus_strings.specs.Messages.{Entry}
use Rattle.bus_bounds.specs.Bounds.{Bounds}
use Rattle.bus_findings.specs.declared.quiet.Over.{Over}
use Rattle.bus_findings.specs.declared.quiet.Quiet.{Quiet}
use Rattle.bus_findings.specs.Amounts.{greatest}
use Rattle.bus_findings.specs.Recorded.{seen, recorded}

-- The greatest moment at which one of the first j transmissions ends at the latest.
abbrev pub end_before : Bounds → List Entry → ℕ → ℕ
end_before bounds list j = greatest (λ r. r.latest) (recorded bounds (take j list))

-- The first j have ended at a moment, at the soonest.
abbrev pub HaveEnded : Bounds → List Entry → ℕ → ℕ → Type 0
HaveEnded bounds list j end = (x : Entry) → In x (take j list) → (seen bounds x).soonest ≤ end

-- Each transmission from one place on and before another begins less than so many bit times behind the end of those before it.
abbrev pub AreClose : Bounds → List Entry → ℕ → ℕ → ℕ → Type 0
AreClose bounds list gap a b = (j : ℕ) (x : Entry) → a ≤ j → j < b → slice_get list j ≡ Some x → x.moment < end_before bounds list j + gap

-- What is known of the last long stretch in front of place i.
pub record IsQuiet (bounds : Bounds) (list : List Entry) (i : ℕ) (quiet : Quiet) : Type 0 where
  pub place : quiet.place ≤ i - 1
  pub long : quiet.long ≤ 2 ^ 18
  pub from : HaveEnded bounds list quiet.place quiet.from
  pub exact : quiet.from ≤ end_before bounds list quiet.place
  pub bound : quiet.from < 2 ^ 41
  pub before : AreClose bounds list quiet.long (quiet.earlier + 1) quiet.place
  pub behind : AreClose bounds list quiet.long (quiet.place + 1) i
  pub since : AreClose bounds list (quiet.since + 1) (quiet.place + 1) i

-- Whether it stands behind a place, with room for a gap before a moment; it is ended by a transmission at moment m.
abbrev pub has_room : ℕ → Quiet → ℕ → ℕ → ℕ → ℕ → Bool
has_room reach quiet place gap until m = nat_lt place quiet.place && nat_le (quiet.from + gap) (min (m + reach) until)

-- Whether a terminal's timers can't have been over before a start, where its last one stands at a place: its interval wasn't, or this
-- is the only long stretch behind it, with no room for both gaps once the interval was over, and none behind that has room for the
-- terminal gap.
abbrev pub rules_out : Quiet → ℕ → Over → ℕ → ℕ → ℕ → Bool
rules_out quiet place over end start m =
    nat_le start over.interval
    || (nat_le quiet.earlier place
    && (nat_lt place quiet.place
    && (nat_le quiet.long over.sync_gap
    && (nat_lt quiet.since over.terminal_gap
    && (nat_le start (end + over.terminal_gap)
    && (nat_lt m over.interval || nat_lt m (quiet.from + over.sync_gap + over.terminal_gap)))))))
