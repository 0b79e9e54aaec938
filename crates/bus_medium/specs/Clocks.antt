-- A sender's timers as four numbers, from the moment on at which it has heard all, whenever it was powered up: in the middle of a message
-- too. They tell by arithmetic who is due next, and so how a schedule grows on a cable. Places are counted as in the past of the bus.
--   heard_all   the moment at which it has heard all
--   due         the place at which its transmit interval elapses
--   gap_from    the place from which its terminal gap counts, or will
--   sent        how many messages it has sent
use Rattle.std.specs.Prelude.{◌≡◌, ◌≢◌, ℕ, ◌+◌, ◌<◌, ◌≤◌, ◌⊎◌, ◌↔◌, ◌==◌, nat_le, max, List, [], ◌∷◌, ◌++◌, length, slice_get, Option, Some}
use Rattle.std.specs.Prelude.{if◌then◌else◌}
use Rattle.bus_timers.specs.Timings.{IsSound, due_place}
use Rattle.bus_timers.specs.GapPlace.{GapFrom}
use Rattle.bus_strings.specs.Members.{In}
use Rattle.bus_strings.specs.Messages.{Entry}
use Rattle.bus_strings.specs.Transmissions.{end_of}
use Rattle.bus_medium.specs.Past.{own}
use Rattle.bus_medium.specs.Lawful.{Station, HaveOwnNumbers}
use Rattle.bus_medium.specs.Delays.{Delays, heard, heard_end}
use Rattle.bus_medium.specs.Wakes.{Wakes, woken_past, woken_place}
use Rattle.bus_medium.specs.CableLawful.{IsDueOnCable, IsLawfulOnCableTo}

-- At this moment the terminal gap of a terminal powered up at place `wake` counts from place `gap_from`, or will: in its own past, from g.
pub record GapAt (sg quiet wake : ℕ) (list : List Entry) (moment : ℕ) (last : Option ℕ) (gap_from : ℕ) : Type 0 where
  pub g : ℕ
  pub is : g + wake ≡ gap_from
  pub from : GapFrom sg (woken_past quiet wake list moment) last g

-- These are the numbers of a sender.
pub record HasTimers (quiet : ℕ) (delay : Delays) (wake : Wakes) (s : Station) (list : List Entry) (heard_all due gap_from sent : ℕ)
    : Type 0 where
  pub ended : (x : Entry) → In x list → end_of x + delay x s.number ≤ heard_all
  pub begun : (x : Entry) → In x list → x.terminal ≡ s.number → x.moment < heard_all
  pub owns : (x : Entry) → In x list → x.terminal ≡ s.number → wake s.number ≤ quiet + x.moment
  pub woken : s.timing.sg + wake s.number ≤ gap_from
  pub gap : (m : ℕ) → heard_all ≤ m → wake s.number ≤ quiet + m
      → GapAt s.timing.sg quiet (wake s.number) (heard delay s.number list) m (woken_place quiet (wake s.number) (own list s.number m))
      gap_from
  pub interval : (m : ℕ) → heard_all ≤ m
      → due_place s.timing (woken_place quiet (wake s.number) (own list s.number m)) + wake s.number ≡ due
  pub counts : (m : ℕ) → heard_all ≤ m → length (own list s.number m) ≡ sent

-- Where its terminal gap counts from behind a message of another that it hears from moment m to moment e.
abbrev pub gap_behind : ℕ → ℕ → ℕ → ℕ → ℕ → ℕ → ℕ
gap_behind quiet sg wake gap_from m e = if nat_le gap_from (quiet + m) then quiet + e else max (quiet + e + sg) (sg + wake)

-- The senders have numbers of their own and sound timings, all with the same synchronization gap.
pub record AreTimed (sg : ℕ) (stations : List Station) : Type 0 where
  pub numbers : HaveOwnNumbers stations
  pub sound : (s : Station) → In s stations → IsSound s.timing
  pub same_sg : (s : Station) → In s stations → s.timing.sg ≡ sg

-- A schedule so far: all has been decided up to moment t, and nobody is due from there on before it has heard all. It ends at `last` at the
-- latest.
pub record ScheduledSoFar (quiet : ℕ) (delay : Delays) (wake : Wakes) (stations : List Station) (list : List Entry) (t last : ℕ)
    (heard_all due gap_from sent : ℕ → ℕ) : Type 0 where
  pub law : IsLawfulOnCableTo quiet delay wake stations t 0 list
  pub timers : (s : Station) → In s stations
      → HasTimers quiet delay wake s list (heard_all s.number) (due s.number) (gap_from s.number) (sent s.number)
  pub rests : (s : Station) (u : ℕ) → In s stations → t ≤ u → u < heard_all s.number → IsDueOnCable quiet delay wake list s u → ⊥
  pub decided : t ≤ last
  pub heard : (s : Station) → In s stations → last ≤ heard_all s.number

-- What the numbers must be where a sender starts:
--   interval, terminal   its timers allow it
--   first                they didn't before
--   slow                 those of no other sender do before it hears that start.
pub record StartsNext (quiet : ℕ) (delay : Delays) (stations : List Station) (last : ℕ) (heard_all due gap_from sent : ℕ → ℕ)
    (a : Station) (x : Entry) : Type 0 where
  pub there : In a stations
  pub mine : x.terminal ≡ a.number
  pub some : 0 < length x.message
  pub message : slice_get a.hand (sent a.number) ≡ Some x.message
  pub left : sent a.number < length a.hand
  pub behind : last ≤ x.moment
  pub ready : (s : Station) → In s stations → heard_all s.number ≤ x.moment
  pub interval : due a.number ≤ quiet + x.moment
  pub terminal : gap_from a.number + a.timing.tg ≤ quiet + x.moment
  pub first : (quiet + x.moment ≤ due a.number) ⊎ (quiet + x.moment ≤ gap_from a.number + a.timing.tg)
  pub slow : (s : Station) → In s stations → s.number ≢ a.number
      → (quiet + (x.moment + delay x s.number) < gap_from s.number + s.timing.tg)
      ⊎ ((quiet + (x.moment + delay x s.number) < due s.number) ⊎ (length s.hand ≤ sent s.number))

-- The numbers with another one for terminal n.
abbrev pub put : (ℕ → ℕ) → ℕ → ℕ → ℕ → ℕ
put f n v i = if i == n then v else f i

-- ---- the numbers behind that start
-- Where the interval of its sender elapses.
abbrev pub due_behind : ℕ → (ℕ → ℕ) → Station → Entry → ℕ → ℕ
due_behind quiet due a x = put due a.number (quiet + x.moment + a.timing.ti)

-- Where each terminal's gap counts from.
abbrev pub gap_from_behind : ℕ → ℕ → Delays → Wakes → (ℕ → ℕ) → ℕ → Entry → ℕ → ℕ
gap_from_behind quiet sg delay wake gap_from number x k =
    if k == number then quiet + heard_end delay x k + sg
    else gap_behind quiet sg (wake k) (gap_from k) (x.moment + delay x k) (heard_end delay x k)

-- How many messages each has sent.
abbrev pub sent_behind : (ℕ → ℕ) → ℕ → ℕ → ℕ
sent_behind sent number = put sent number (sent number + 1)

-- Before anything is sent the interval of each sender elapses at its own time behind its wake, and its terminal gap counts from one
-- synchronization gap behind its power-up.
abbrev pub ClocksStart : Type 0
ClocksStart =
    (quiet sg : ℕ) (delay : Delays) (wake : Wakes) (stations : List Station) → AreTimed sg stations → ((x : Entry) → delay x x.terminal ≡ 0)
    → (due : ℕ → ℕ) → ((s : Station) → In s stations → s.timing.quiet + s.timing.due + wake s.number ≡ due s.number)
    → ScheduledSoFar quiet delay wake stations [] 0 0 (λ _. 0) due (λ number. sg + wake number) (λ _. 0)

-- Three comparisons say who is due once it has heard all.
abbrev pub ClockTells : Type 0
ClockTells =
    (quiet : ℕ) (delay : Delays) (wake : Wakes) (s : Station) (list : List Entry) (heard_all due gap_from sent t : ℕ) → IsSound s.timing
    → HasTimers quiet delay wake s list heard_all due gap_from sent → heard_all ≤ t
    → ((due ≤ quiet + t) × (gap_from + s.timing.tg ≤ quiet + t) × (sent < length s.hand)) ↔ IsDueOnCable quiet delay wake list s t

-- One transmission more, which begins when all have been heard.
abbrev pub ClocksStep : Type 0
ClocksStep =
    (quiet sg : ℕ) (delay : Delays) (wake : Wakes) (stations : List Station) → AreTimed sg stations → ((x : Entry) → delay x x.terminal ≡ 0)
    → (list : List Entry) (t last : ℕ) (heard_all due gap_from sent : ℕ → ℕ) (a : Station) (x : Entry)
    → ScheduledSoFar quiet delay wake stations list t last heard_all due gap_from sent
    → StartsNext quiet delay stations last heard_all due gap_from sent a x
    → ScheduledSoFar quiet delay wake stations (list ++ x ∷ []) (x.moment + 1) (end_of x) (heard_end delay x) (due_behind quiet due a x)
    (gap_from_behind quiet sg delay wake gap_from a.number x) (sent_behind sent a.number)

-- The schedule is lawful up to its end.
abbrev pub ClocksAreLawful : Type 0
ClocksAreLawful =
    (quiet sg : ℕ) (delay : Delays) (wake : Wakes) (stations : List Station) → AreTimed sg stations → ((x : Entry) → delay x x.terminal ≡ 0)
    → (list : List Entry) (t last : ℕ) (heard_all due gap_from sent : ℕ → ℕ)
    → ScheduledSoFar quiet delay wake stations list t last heard_all due gap_from sent
    → IsLawfulOnCableTo quiet delay wake stations last 0 list
