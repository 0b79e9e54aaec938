-- What a monitor records of a bus, from any moment on, and how far from it a terminal is.
--   arrives   the moment at which the monitor hears a transmission begin
--   start     the moment from which on it records
--   k         a terminal, of which alone this is told.
use Rattle.std.specs.Prelude.{◌≡◌, ◌≢◌, ℕ, ◌+◌, ◌*◌, ◌<◌, ◌≤◌, nat_le, cond, Bool, true, false, List, [], ◌∷◌}
use Rattle.bus_clocks.specs.Entries.{Entry, In}
use Rattle.bus_clocks.specs.Courses.{Course}
use Rattle.bus_clocks.specs.Hearing.{Hears}
use Rattle.bus_recording.specs.Seen.{IsIn, Monitor, Seen}

-- A transmission as it is recorded: it begins where the monitor hears it begin, and lasts as long as it does.
abbrev pub seen_by : (Entry → ℕ) → Entry → Seen
seen_by arrives x = record {
  moment = arrives x;
  sender = x.sender;
  soonest = arrives x + x.length;
  latest = arrives x + x.length;
}

-- The recording has what the monitor hears begin from moment `start` on, and nothing else.
pub record IsFrom (arrives : Entry → ℕ) (start : ℕ) (list : List Entry) (recording : List Seen) : Type 0 where
  pub each : (r : Seen) → IsIn r recording → (x : Entry) × In x list × (r ≡ seen_by arrives x)
  pub all : (x : Entry) → In x list → start ≤ arrives x → IsIn (seen_by arrives x) recording
  pub since : (x : Entry) → In x list → IsIn (seen_by arrives x) recording → start ≤ arrives x

-- What a monitor records of these transmissions.
abbrev pub recorded_from : (Entry → ℕ) → ℕ → List Entry → List Seen
recorded_from arrives start [] = []
recorded_from arrives start (x ∷ list) =
    cond (nat_le start (arrives x)) (seen_by arrives x ∷ recorded_from arrives start list) (recorded_from arrives start list)

-- So there is such a recording of each list, from each moment on.
abbrev pub ThereAreRecordings : Type 0
ThereAreRecordings = (arrives : Entry → ℕ) (start : ℕ) (list : List Entry) → IsFrom arrives start list (recorded_from arrives start list)

-- Terminal k, `away` ticks from the monitor, hears another's transmission begin and end by no more than `away` earlier or later than the
-- monitor does: from the sender the way to either of the two is no longer than the one over the other.
pub record IsNear (hears : Entry → ℕ → ℕ → Bool) (drop : ℕ) (arrives : Entry → ℕ) (k away : ℕ) (x : Entry) : Type 0 where
  pub within : (t : ℕ) → hears x k t ≡ true → (arrives x ≤ t + away) × (t < arrives x + x.length + away)
  pub first : ℕ
  pub last : ℕ
  pub first_heard : hears x k first ≡ true
  pub first_soon : first ≤ arrives x + away
  pub last_heard : hears x k last ≡ true
  pub last_late : arrives x + x.length ≤ last + 1 + away
  pub filled : (t : ℕ) → first ≤ t → t ≤ last → (u : ℕ) × (t ≤ u) × (u < t + drop) × (hears x k u ≡ true)

-- The monitor and terminal k stand at places on a cable, `away` ticks apart: the monitor hears the terminal so much later, whenever it
-- starts; the terminal hears itself at once, and the others as its distance allows.
pub record IsPlaced (c : Course) (drop : ℕ) (arrives : Entry → ℕ) (k away : ℕ) : Type 0 where
  pub steady : (x : Entry) → In x c.list → x.sender ≡ k → arrives x ≡ x.moment + away
  pub itself : (x : Entry) → In x c.list → x.sender ≡ k → Hears c.hears 0 drop x k
  pub near : (x : Entry) → In x c.list → x.sender ≢ k → IsNear c.hears drop arrives k away x

-- Terminal k and the monitor hear each transmission up to `reach` late, each by a delay of its own; itself the terminal hears at once, and
-- it sends one at a time.
pub record HearsWithin (c : Course) (drop : ℕ) (arrives : Entry → ℕ) (k reach : ℕ) : Type 0 where
  pub recorded : (x : Entry) → In x c.list → (x.moment ≤ arrives x) × (arrives x ≤ x.moment + reach)
  pub itself : (x : Entry) → In x c.list → x.sender ≡ k → Hears c.hears 0 drop x k
  pub others : (x : Entry) → In x c.list → x.sender ≢ k → Hears c.hears reach drop x k
  pub once : (x z : Entry) → In x c.list → In z c.list → x.sender ≡ k → z.sender ≡ k → x.moment ≡ z.moment → x ≡ z

-- From moment `settled` on terminal k hears nothing of what the monitor heard begin before it recorded: none of that lasts longer than
-- `longest`, and terminal and monitor are no more than `reach` apart. Nor does it hear any noise there, by any clock that is set ahead by
-- no more than the reach.
pub record IsSettled (c : Course) (arrives : Entry → ℕ) (k reach start longest settled : ℕ) : Type 0 where
  pub most : (x : Entry) → In x c.list → arrives x < start → x.length ≤ longest
  pub over : start + longest + 2 * reach ≤ settled + 1
  pub still : (t : ℕ) → settled ≤ t + reach → c.noise k t ≡ false

-- What is known of such a monitor, where nobody is farther from it than `reach`: the way there and back.
abbrev pub monitor_of : ℕ → ℕ → ℕ → Monitor
monitor_of reach drop settled = record { reach = 2 * reach; rest = 2 * reach; drop = drop; settled = settled }
