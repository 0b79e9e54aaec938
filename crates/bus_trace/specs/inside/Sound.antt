-- What holds of each state that the lines of a trace text give, and where a WS line may stand. No public clause cites it.
use Rattle.std.specs.Prelude.{ℕ, Bool, true, false, ◌||◌, nat_lt, ◌≡◌, ◌<◌, ◌≤◌, List, [], length}
use Rattle.bus_strings.specs.Limits.{horizon_limit, most_terminal, most_strings}
use Rattle.bus_strings.specs.Messages.{Entry}
use Rattle.bus_trace.specs.declared.format.Format.{Format}
use Rattle.bus_trace.specs.declared.format.Format.TheVariants.{Two}
use Rattle.bus_trace.specs.declared.hold.Hold.{Hold}
use Rattle.bus_trace.specs.declared.position.Position.{Position}
use Rattle.bus_trace.specs.declared.position.Position.TheVariants.{Start, Headed, Holding, Begun, Stringing, Closed, Ended}
use Rattle.bus_trace.specs.Traces.{IsTrace}
use Rattle.bus_trace.specs.States.{State, recorded, last_end, is_hit, is_after}

-- A WS line may stand: its transmission is begun, with numbers in their ranges, or has room for one wordstring more.
abbrev pub TakesString : Position → ℕ → Type 0
TakesString (Begun moment terminal) count = (moment < horizon_limit) × (1 ≤ terminal) × (terminal ≤ most_terminal)
TakesString Stringing count = count < most_strings
TakesString position count = ⊥

-- The values fit the position: what comes behind it isn't there yet, and a TX line is right behind the list.
abbrev pub PositionFits : Position → ℕ → List Hold → List Entry → Type 0
PositionFits Start horizon holds list = (holds ≡ []) × (list ≡ [])
PositionFits Headed horizon holds list = (holds ≡ []) × (list ≡ [])
PositionFits Holding horizon holds list = list ≡ []
PositionFits (Begun moment terminal) horizon holds list =
    (moment < horizon) × (1 ≤ terminal) × (terminal ≤ most_terminal) × (is_after list moment terminal ≡ true)
PositionFits Stringing horizon holds list = 0 < length list
PositionFits Closed horizon holds list = 0 < length list
PositionFits Ended horizon holds list = Unit {0}

-- The mark of the last transmission, if there is one, is what it has to be where the next line meets it or not.
abbrev pub MarkIs : Bool → List Entry → Bool → Type 0
MarkIs mark list met = 0 < length list → mark ≡ (is_hit list || met)

-- The mark fits the position: behind its own TE line it is `C` where the transmission is hit, and behind the next line it is right.
-- Format 1 has no marks.
abbrev pub MarkFits : Position → Format → Bool → List Entry → Type 0
MarkFits (Begun moment terminal) Two mark list = MarkIs mark list (nat_lt moment (last_end list))
MarkFits Closed format mark list = (format ≡ Two) × (mark ≡ false → is_hit list ≡ false)
MarkFits Ended Two mark list = MarkIs mark list false
MarkFits position format mark list = Unit {0}

-- A state is right: its values fit its position and its format, and are those of a trace.
pub record IsSound (s : State) : Type 0 where
  pub fits : PositionFits s.position s.horizon s.holds s.list
  pub marked : MarkFits s.position s.format s.mark s.list
  pub trace : IsTrace (recorded s)
