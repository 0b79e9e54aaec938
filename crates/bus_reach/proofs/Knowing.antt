-- A schedule so far of an aperiodic table on a cable, by its senders: what `bus_medium` knows of stations, said of senders whose hands all have
-- as many messages.
use Rattle.std.proofs.Common.{◌≡◌, ◌≢◌, ℕ, ◌+◌, ◌<◌, ◌≤◌, ◌⊎◌, List, [], ◌∷◌, ◌++◌, length, get_or, inr, arith, sym, refl, ap, ◌∙◌, subst}
use Rattle.std.specs.Prelude.{slice_get}
use Rattle.bus_timers.specs.Timings.{IsSound}
use Rattle.bus_strings.specs.Members.{In}
use Rattle.bus_strings.proofs.MemberLaws.{in_map, from_map}
use Rattle.bus_strings.specs.Messages.{Message, Entry}
use Rattle.bus_strings.specs.Marking.{greatest_end}
use Rattle.bus_strings.specs.Transmissions.{end_of}
use Rattle.bus_table.specs.declared.mode.Mode.TheVariants.{Aperiodic}
use Rattle.bus_table.specs.Tables.{Sender, Table}
use Rattle.bus_medium.specs.Lawful.{Station}
use Rattle.bus_medium.specs.Timings.{quiet_of, due_for}
use Rattle.bus_medium.specs.Delays.{Delays, heard_end}
use Rattle.bus_medium.specs.Wakes.{Wakes}
use Rattle.bus_medium.specs.CableLawful.{IsLawfulOnCableTo}
use Rattle.bus_medium.specs.Clocks as numbers
use Rattle.bus_medium.proofs.CableClocks as clocks
use Rattle.bus_medium.proofs.CableSteps as steps
use Rattle.bus_medium.proofs.CableSteps.{AreTimed, known_start, known_lawful}
use Rattle.bus_schedule.specs.Closed.{sends}
use Rattle.bus_schedule.proofs.Growing.{Setting, has_left, sendable}
use Rattle.bus_schedule.proofs.Greatest.{end_push}
use Rattle.bus_schedule.proofs.HandLemmas.{Sendable, station, stations, quiet_is}

-- the numbers of a sender's timers
abbrev pub HasTimers : Table → (ℕ → List Message) → Delays → Wakes → Sender → List Entry → ℕ → ℕ → ℕ → ℕ → Type 0
HasTimers table hands delay wake b list heard_all due gap_from sent = numbers.HasTimers table.sg delay wake (station table hands b) list heard_all due gap_from sent

-- all has been decided up to moment t, and nobody is due from there on before it has heard all. The list ends at `last`
pub record ScheduledSoFar (table : Table) (hands : ℕ → List Message) (delay : Delays) (wake : Wakes) (list : List Entry) (t last : ℕ) (heard_all due gap_from sent : ℕ → ℕ) : Type 0 where
  pub base : steps.ScheduledSoFar table.sg delay wake (stations table hands) list t last heard_all due gap_from sent
  pub ends : greatest_end list ≡ last

-- what the numbers must be where a sender starts
pub record StartsNext (table : Table) (hands : ℕ → List Message) (delay : Delays) (n last : ℕ) (heard_all due gap_from sent : ℕ → ℕ) (a : Sender) (round start : ℕ) : Type 0 where
  pub behind : last ≤ start
  pub ready : (b : Sender) → In b table.senders → heard_all b.number ≤ start
  pub interval : due a.number ≤ table.sg + start
  pub terminal : gap_from a.number + a.tg ≡ table.sg + start
  pub slow : (b : Sender) → In b table.senders → b.number ≢ a.number
      → (table.sg + (start + delay (sends hands round a start) b.number) < gap_from b.number + b.tg)
      ⊎ ((table.sg + (start + delay (sends hands round a start) b.number) < due b.number) ⊎ (length (hands b.number) ≤ sent b.number))
  pub turn : sent a.number ≡ round
  pub left : round < n

-- the numbers behind it
abbrev pub due_behind : Table → (ℕ → ℕ) → Sender → ℕ → ℕ → ℕ
due_behind table due a start = steps.due_behind table.sg due (station table (λ _. []) a) (record { moment = start; terminal = a.number; message = [] })

abbrev pub gap_from_behind : Table → Delays → Wakes → (ℕ → ℕ) → Sender → Entry → ℕ → ℕ
gap_from_behind table delay wake gap_from a x = steps.gap_from_behind table.sg table.sg delay wake gap_from a.number x

abbrev pub sent_behind : (ℕ → ℕ) → Sender → ℕ → ℕ
sent_behind sent a = steps.sent_behind sent a.number

-- a sender of the table has its station
pub stands : (table : Table) (hands : ℕ → List Message) (b : Sender) → In b table.senders → In (station table hands b) (stations table hands)
stands table hands b i = in_map (station table hands) table.senders b i

-- and what holds of the stations of senders holds of all
pub of_stations : (table : Table) (hands : ℕ → List Message) (P : Station → Type 0) → ((b : Sender) → In b table.senders → P (station table hands b))
    → (s : Station) → In s (stations table hands) → P s
of_stations table hands P h s i = let f = from_map (station table hands) table.senders s i in subst P f.2 (h f.0 f.1)

module _ (table : Table) (hands : ℕ → List Message) (n : ℕ) (setting : Setting table hands n) (delay : Delays) (wake : Wakes) (zeros : (x : Entry) → delay x x.terminal ≡ 0) where
  timed : AreTimed table.sg (stations table hands)
  timed = record {
    numbers = setting.dealt.numbers;
    sound = of_stations table hands (λ s. IsSound s.timing) setting.dealt.sound;
    same_sg = of_stations table hands (λ s. s.timing.sg ≡ table.sg) (λ b i. refl);
  }

  pub known_step : (list : List Entry) (t last : ℕ) (heard_all due gap_from sent : ℕ → ℕ) (a : Sender) (round start : ℕ) → In a table.senders
      → ScheduledSoFar table hands delay wake list t last heard_all due gap_from sent → StartsNext table hands delay n last heard_all due gap_from sent a round start
      → ScheduledSoFar table hands delay wake (list ++ sends hands round a start ∷ []) (start + 1) (end_of (sends hands round a start))
      (heard_end delay (sends hands round a start)) (due_behind table due a start) (gap_from_behind table delay wake gap_from a (sends hands round a start)) (sent_behind sent a)
  known_step list t last heard_all due gap_from sent a round start there so starts =
      let x : Entry = sends hands round a start in
      let message : Sendable a (hands a.number) round (get_or (hands a.number) round []) = sendable table hands n setting a round there starts.left in
      let left : round < length (hands a.number) = has_left table hands n setting a round there starts.left in
      let turn : sent a.number ≡ round = starts.turn in
      let terminal : gap_from a.number + a.tg ≡ table.sg + start = starts.terminal in
      record {
        base = steps.known_step table.sg table.sg delay wake (stations table hands) timed zeros list t last heard_all due gap_from sent (station table hands a) x so.base (record {
          there = stands table hands a there;
          mine = refl;
          some = message.some;
          message = ap (slice_get (hands a.number)) turn ∙ message.sent;
          left = omega arith;
          behind = starts.behind;
          ready = of_stations table hands (λ s. heard_all s.number ≤ start) starts.ready;
          interval = starts.interval;
          terminal = omega arith;
          first = inr (omega arith);
          slow = of_stations table hands (λ s. s.number ≢ a.number
              → (table.sg + (start + delay x s.number) < gap_from s.number + s.timing.tg) ⊎ ((table.sg + (start + delay x s.number) < due s.number) ⊎ (length s.hand ≤ sent s.number))) starts.slow;
        });
        ends = end_push list x last so.ends starts.behind;
      }

  pub known_none : table.mode ≡ Aperiodic → ScheduledSoFar table hands delay wake [] 0 0 (λ _. 0) (λ k. table.sg + wake k) (λ k. table.sg + wake k) (λ _. 0)
  known_none mode = record {
    base = known_start table.sg table.sg delay wake (stations table hands) timed zeros (λ k. table.sg + wake k)
        (of_stations table hands (λ s. s.timing.quiet + s.timing.due + wake s.number ≡ table.sg + wake s.number) (λ b i. first_due table hands b mode (wake b.number)));
    ends = refl;
  }
    where
      first_due : (table : Table) (hands : ℕ → List Message) (b : Sender) → table.mode ≡ Aperiodic → (w : ℕ) → (quiet_of table + due_for table.mode b) + w ≡ table.sg + w
      first_due table hands b mode w = let d : due_for table.mode b ≡ 0 = ap (λ v. due_for v b) mode in omega (arith, quiet_is table mode)

  pub known_ruled : (list : List Entry) (t last : ℕ) (heard_all due gap_from sent : ℕ → ℕ) → ScheduledSoFar table hands delay wake list t last heard_all due gap_from sent
      → IsLawfulOnCableTo table.sg delay wake (stations table hands) (greatest_end list) 0 list
  known_ruled list t last heard_all due gap_from sent so =
      subst (λ v. IsLawfulOnCableTo table.sg delay wake (stations table hands) v 0 list) (sym so.ends)
      (known_lawful table.sg table.sg delay wake (stations table hands) timed zeros list t last heard_all due gap_from sent so.base)

-- no sender's terminal gap counts from before its wake
pub woken : (table : Table) (hands : ℕ → List Message) (delay : Delays) (wake : Wakes) (list : List Entry) (t last : ℕ) (heard_all due gap_from sent : ℕ → ℕ)
    → ScheduledSoFar table hands delay wake list t last heard_all due gap_from sent → (b : Sender) → In b table.senders → table.sg + wake b.number ≤ gap_from b.number
woken table hands delay wake list t last heard_all due gap_from sent so b i = (so.base.timers (station table hands b) (stands table hands b i)).woken

-- the numbers of a sender before anything is sent
pub sender_start : (table : Table) (hands : ℕ → List Message) (n : ℕ) → Setting table hands n → (delay : Delays) (wake : Wakes) (b : Sender) → In b table.senders
    → table.mode ≡ Aperiodic → HasTimers table hands delay wake b [] 0 (table.sg + wake b.number) (table.sg + wake b.number) 0
sender_start table hands n setting delay wake b i mode =
    let d : due_for table.mode b ≡ 0 = ap (λ v. due_for v b) mode in
    let due : (quiet_of table + due_for table.mode b) + wake b.number ≡ table.sg + wake b.number = omega (arith, quiet_is table mode) in
    subst (λ v. HasTimers table hands delay wake b [] 0 v (table.sg + wake b.number) 0) due
    (clocks.timers_start table.sg delay wake (station table hands b) (setting.dealt.sound b i))
