-- What a recording is of what happened on a bus, for one terminal on it.
--   k       that terminal
--   ahead   by how many ticks its clock is to be set ahead, so that its own starts are those of the recording: how far the monitor is
--   sway    by how many ticks this distance may be less from start to start
--   seen    how each transmission is recorded, if it is.
use Rattle.std.specs.Prelude.{◌≡◌, ◌≢◌, ℕ, ◌+◌, ◌<◌, ◌≤◌, Bool, true, List}
use Rattle.bus_clocks.specs.Entries.{Entry, In, end_of}
use Rattle.bus_clocks.specs.Courses.{Course, carrier}
use Rattle.bus_clocks.specs.Hearing.{Hears}
use Rattle.bus_recording.specs.Seen.{IsIn, Monitor, Seen}

-- The terminal's own transmission x is recorded as r. By its clock the recorded beginning is that of x, or earlier by the sway at most; and
-- x ends no earlier than the soonest recorded end, and no later than the latest and the sway.
pub record IsOwnSeen (ahead sway : ℕ) (x : Entry) (r : Seen) : Type 0 where
  pub sender : r.sender ≡ x.sender
  pub begins : r.moment ≤ x.moment + ahead
  pub begun : x.moment + ahead ≤ r.moment + sway
  pub ends : r.soonest ≤ end_of x + ahead
  pub ended : end_of x + ahead ≤ r.latest + sway

-- Another's transmission x is recorded as r. By its clock the terminal hears carrier of it only from the recorded beginning on, and no more
-- than `rest` and the sway behind the latest recorded end; the first within the reach; the last no earlier than in the last tick before the
-- soonest end; and from the first to the last no `drop` quiet ticks in a row.
pub record IsOtherSeen (hears : Entry → ℕ → ℕ → Bool) (monitor : Monitor) (k ahead sway : ℕ) (x : Entry) (r : Seen) : Type 0 where
  pub sender : r.sender ≡ x.sender
  pub within : (t : ℕ) → hears x k t ≡ true → (r.moment ≤ t + ahead) × (t + ahead < r.latest + monitor.rest + sway)
  pub first : ℕ
  pub last : ℕ
  pub first_heard : hears x k first ≡ true
  pub first_soon : first + ahead ≤ r.moment + monitor.reach
  pub last_heard : hears x k last ≡ true
  pub last_late : r.soonest ≤ last + 1 + ahead
  pub filled : (t : ℕ) → first ≤ t → t ≤ last → (u : ℕ) × (t ≤ u) × (u < t + monitor.drop) × (hears x k u ≡ true)

-- This is a recording of what happened, for terminal k:
--   each, whole   nothing is recorded but transmissions; once the bus is settled, the terminal hears nothing but what is recorded
--   own, others   each is recorded as the terminal sends or hears it
--   itself        it hears itself at once
--   since         its recorded starts are from moment `from` on
--   order         what it sends behind a recorded transmission is recorded, behind it
--   together      what it sends at one moment is recorded at one moment.
pub record IsRecording (c : Course) (monitor : Monitor) (k from ahead sway : ℕ) (seen : Entry → Seen) (recording : List Seen) : Type 0 where
  pub each : (r : Seen) → IsIn r recording → (x : Entry) × In x c.list × (r ≡ seen x)
  pub whole : (t : ℕ) → carrier c k t ≡ true → monitor.settled + sway ≤ t + ahead
      → (x : Entry) × In x c.list × (c.hears x k t ≡ true) × IsIn (seen x) recording
  pub own : (x : Entry) → In x c.list → x.sender ≡ k → IsOwnSeen ahead sway x (seen x)
  pub others : (x : Entry) → In x c.list → x.sender ≢ k → IsOtherSeen c.hears monitor k ahead sway x (seen x)
  pub itself : (x : Entry) → In x c.list → x.sender ≡ k → Hears c.hears 0 monitor.drop x k
  pub since : (x : Entry) → In x c.list → x.sender ≡ k → IsIn (seen x) recording → from ≤ x.moment
  pub order : (x z : Entry) → In x c.list → In z c.list → x.sender ≡ k → z.sender ≡ k → x.moment < z.moment
      → IsIn (seen x) recording → IsIn (seen z) recording × ((seen x).moment < (seen z).moment)
  pub together : (x z : Entry) → In x c.list → In z c.list → x.sender ≡ k → z.sender ≡ k → x.moment ≡ z.moment
      → (seen x).moment ≡ (seen z).moment
