-- How a writer keeps the timers of the senders, and what that stands for.
use Rattle.std.specs.Prelude.{◌≡◌, ℕ, ◌+◌, ◌^◌, ◌≤◌, ◌<◌, ◌⊎◌, Bool, false, ◌&&◌, ◌==◌, List, [], ◌∷◌, map, Option, ⊤}
use Rattle.std.specs.List.{AllByRecursion, list_any}
use Rattle.bus_strings.specs.Members.{In}
use Rattle.bus_strings.specs.Messages.{Entry}
use Rattle.bus_strings.specs.Transmissions.{carrier}
use Rattle.bus_dump.specs.declared.sender_timers.Elapsed.{Elapsed}
use Rattle.bus_table.specs.Tables.{Sender, Table}
use Rattle.bus_medium.specs.Past.{past, own, last_place}
use Rattle.bus_medium.specs.Timings.{quiet_of, due_of, timing_of}
use Rattle.bus_dump.specs.declared.sender_timers.SenderTimers.{SenderTimers}
use Rattle.bus_dump.specs.declared.live.Live.{Live}
use Rattle.bus_dump.specs.declared.scene.Scene as kept
use Rattle.bus_dump.specs.declared.timer_walk.TimerWalk.{TimerWalk}
use Rattle.bus_dump.specs.inside.SenderTimers.{Keeps, IsLow, next_turn, passed}
use Rattle.bus_dump.specs.Scenes.{Scene, elapsed_at, is_breach}
use Rattle.bus_dump.specs.inside.Walks.{IsWalkable, Stands}

-- The scene that is kept.
abbrev pub scene_of : kept.Scene → Scene
scene_of scene = record { seen = scene.seen.items; timers = scene.timers.items; breach = scene.breach }

-- Where the timers weren't asked for a scene, they tell what they told in the one before.
abbrev pub TellsAs : kept.Scene → kept.Scene → Type 0
TellsAs before now = now.told ≡ false → before.timers.items ≡ now.timers.items

-- From bit time t to below `until` the scene stays.
abbrev pub StaysAs : (ℕ → Scene) → ℕ → ℕ → Type 0
StaysAs scene t until = (later : ℕ) → t ≤ later → later < until → scene later ≡ scene t

-- From bit time t to below `until` the breach is there or not, as at t.
abbrev pub BreachStays : Option ℕ → ℕ → ℕ → Type 0
BreachStays breach t until = (later : ℕ) → t ≤ later → later < until → is_breach breach later ≡ is_breach breach t

-- Whether one of these live transmissions is of a terminal and starts at bit time t.
abbrev pub begins : ℕ → List Live → ℕ → Bool
begins t live terminal = list_any (λ (one : Live). one.moment == t && one.terminal == terminal) live

-- The timers of a sender at the settled start.
abbrev pub settled : Table → Sender → SenderTimers
settled table sender = record {
  terminal = sender.number;
  timing = timing_of table sender;
  due = quiet_of table + due_of table sender;
  gap = table.sg;
}

-- The timers at a later place, where these transmissions are live at bit time t, its present place, and there is carrier or not.
abbrev pub timers_passed : ℕ → List Live → ℕ → ℕ → Bool → SenderTimers → SenderTimers
timers_passed t live from to carrier sender_timers = passed from to (begins t live sender_timers.terminal) carrier sender_timers

-- The next place at which one of its timers may turn.
abbrev pub timer_turn : ℕ → List Live → ℕ → ℕ → Bool → SenderTimers → ℕ
timer_turn t live place limit carrier sender_timers = next_turn place limit (begins t live sender_timers.terminal) carrier sender_timers

-- The timers of a sender at bit time t.
pub record AreTimersOf (table : Table) (list : List Entry) (t : ℕ) (sender : Sender) (sender_timers : SenderTimers) : Type 0 where
  pub terminal : sender_timers.terminal ≡ sender.number
  pub timing : sender_timers.timing ≡ timing_of table sender
  pub keeps : Keeps sender_timers (past (quiet_of table) list t) (last_place (quiet_of table) (own list sender.number t))

-- The timers of senders, in order.
abbrev pub AreAllTimersOf : Table → List Entry → ℕ → List Sender → List SenderTimers → Type 0
AreAllTimersOf table list t [] [] = ⊤
AreAllTimersOf table list t [] (sender_timers ∷ all_timers) = ⊥
AreAllTimersOf table list t (sender ∷ senders) [] = ⊥
AreAllTimersOf table list t (sender ∷ senders) (sender_timers ∷ all_timers) =
    AreTimersOf table list t sender sender_timers × AreAllTimersOf table list t senders all_timers

-- From bit time t to below `until` the timers of these senders tell the same.
abbrev pub ElapsedStays : Table → List Entry → List Sender → ℕ → ℕ → Type 0
ElapsedStays table list senders t until =
    (later : ℕ) → t ≤ later → later < until → map (elapsed_at table list later) senders ≡ map (elapsed_at table list t) senders

-- A walk with timers stands at bit time t: its walk does, and the numbers of its timers are far below the end of their type.
pub record IsTimerWalk (t : ℕ) (timer_walk : TimerWalk) : Type 0 where
  pub walkable : IsWalkable timer_walk.walk.list.now
  pub stands : Stands timer_walk.walk.list.now t timer_walk.walk
  pub quiet : timer_walk.quiet < 2 ^ 32
  pub low : AllByRecursion IsLow timer_walk.all_timers.items

-- Its timers are those of these senders of a table, at the bit time at which they were asked last.
abbrev pub Keeping : Table → List Sender → TimerWalk → Type 0
Keeping table senders timer_walk =
    (timer_walk.quiet ≡ quiet_of table) × AreAllTimersOf table timer_walk.walk.list.now timer_walk.since senders timer_walk.all_timers.items

-- The timers tell what they told there.
abbrev pub IsTold : Table → List Sender → TimerWalk → List Elapsed → Type 0
IsTold table senders timer_walk timers = timers ≡ map (elapsed_at table timer_walk.walk.list.now timer_walk.since) senders

-- Whether a transmission of a terminal starts at moment t.
abbrev pub starts_at : ℕ → ℕ → Entry → Bool
starts_at t n x = x.moment == t && x.terminal == n

-- Whether one of a list does.
abbrev pub starts : List Entry → ℕ → ℕ → Bool
starts list t n = list_any (starts_at t n) list

-- No transmission starts behind one moment and before another.
abbrev pub NoneBetween : List Entry → ℕ → ℕ → Type 0
NoneBetween list t u = (x : Entry) → In x list → (x.moment ≤ t) ⊎ (u ≤ x.moment)

-- Since the timers were asked and up to below bit time t carrier has stayed, nobody has begun, and none of them has turned.
pub record Lasts (t : ℕ) (timer_walk : TimerWalk) : Type 0 where
  pub begin : (n : ℕ) → begins timer_walk.since timer_walk.starting.items n ≡ starts timer_walk.walk.list.now timer_walk.since n
  pub carrier : (v : ℕ) → timer_walk.since ≤ v → v < t → carrier timer_walk.walk.list.now v ≡ timer_walk.carrier
  pub none : NoneBetween timer_walk.walk.list.now timer_walk.since t
  pub still : t ≤ timer_walk.still
  pub limit : ℕ
  pub later : timer_walk.quiet + timer_walk.since < limit
  pub turns : AllByRecursion (λ sender_timers. timer_walk.quiet + timer_walk.still
      ≤ timer_turn timer_walk.since timer_walk.starting.items (timer_walk.quiet + timer_walk.since) limit timer_walk.carrier
      sender_timers) timer_walk.all_timers.items

-- A walk with timers that comes to bit time t: so it has lasted, or its timers stand there and are to be asked.
abbrev pub IsReady : ℕ → TimerWalk → Type 0
IsReady t timer_walk = ((timer_walk.since < t) × Lasts t timer_walk) ⊎ ((timer_walk.since ≡ t) × (timer_walk.still ≤ t))

-- So it lasts at bit time t, where there is carrier or not.
pub record IsLasting (t : ℕ) (now : Bool) (timer_walk : TimerWalk) : Type 0 where
  pub still : t < timer_walk.still
  pub same : now ≡ timer_walk.carrier
  pub none : list_any (λ (one : Live). one.moment == t) timer_walk.walk.live.items ≡ false
