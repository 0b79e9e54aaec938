-- The stamps of a dump: the times of its lines that begin with `#`, in units of 100 ns.
use Rattle.std.specs.Prelude.{◌≡◌, ℕ, ◌+◌, ◌-◌, ◌*◌, ◌<◌, Bool, nat_lt, List, [], ◌∷◌, ◌++◌, map, filter, Option, Some, None, ⊤}
use Rattle.std.specs.Prelude.{if◌then◌else◌}
use Rattle.std.specs.List.{AllByRecursion, filter_map, list_any, range_with_len}
use Rattle.bus_text.specs.Lines.{physical_lines}
use Rattle.bus_dump.specs.DumpTexts.{changes, units}
use Rattle.bus_dump.specs.Reading.{Line, gives, line_of, other, time}
use Rattle.bus_dump.specs.Scenes.{Scene}
use Rattle.bus_dump.specs.Signals.{Signal}

-- The time of a line that is a stamp.
abbrev pub time_of : Line → Option ℕ
time_of (time now) = Some now
time_of (gives id value) = None
time_of other = None

-- The stamps of a text, in order.
abbrev pub stamps : List ℕ → List ℕ
stamps text = filter_map (λ line. time_of (line_of line)) (physical_lines text)

-- Whether any signal has another value at bit time t than before.
abbrev pub is_change : List Signal → (ℕ → Scene) → ℕ → Bool
is_change signals scene t = list_any (changes (scene (t - 1)) (scene t)) signals

-- The bit times that have a stamp: the first, those at which something changes, and the end, unless it is the first.
abbrev pub stamped : List Signal → (ℕ → Scene) → ℕ → ℕ → List ℕ
stamped signals scene from end =
    from ∷ filter (is_change signals scene) (range_with_len (from + 1) (end - (from + 1))) ++ (if nat_lt from end then end ∷ [] else [])

-- Each number is less than those behind it.
abbrev pub Rises : List ℕ → Type 0
Rises [] = ⊤
Rises (a ∷ numbers) = AllByRecursion (λ b. a < b) numbers × Rises numbers

-- The stamps of a text are those of these bit times, and rise strictly, from the first bit time to the end.
pub record StampsAre (times : List ℕ) (from end : ℕ) (text : List ℕ) : Type 0 where
  pub are : stamps text ≡ map (λ t. units * t) times
  pub rise : Rises (stamps text)
  pub behind : List ℕ
  pub first : stamps text ≡ (units * from) ∷ behind
  pub front : List ℕ
  pub last : from < end → stamps text ≡ front ++ (units * end) ∷ []
