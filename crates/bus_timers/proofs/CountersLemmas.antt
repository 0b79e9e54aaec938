-- What the steps of a counting core do to its counters.
use Rattle.std.proofs.Common.{◌≡◌, ℕ, ◌+◌, ◌-◌, ◌<◌, ◌≤◌, ◌↔◌, ◌++◌, ◌∷◌, [], min, Bool, true, false, List, length, replicate, Option, Some, None, inl, inr, arith, refl}
use Rattle.std.proofs.lemmas.List.{length_push, length-replicate}
use Rattle.std.proofs.lemmas.Bool.{cases_lt}
use Rattle.bus_timers.specs.declared.timing.Timing.{Timing}
use Rattle.bus_timers.specs.Timings.{IsSound, due_place}
use Rattle.bus_timers.specs.MayStart.{MayStart}
use Rattle.bus_timers.specs.inside.Counters.{CountersStand}
use Rattle.bus_timers.proofs.TimingLaws.{sound_sg, sound_tg}
use Rattle.bus_timers.proofs.GapStepLaws.{gap_quiet, gap_carrier_elapsed, gap_carrier_waiting, gap_started, gap_settled, gap_ready}

pub counters_settled : (timing : Timing) (gap : ℕ) → IsSound timing → gap ≡ min timing.tg (timing.quiet - timing.sg) → CountersStand timing timing.due timing.sg gap (replicate timing.quiet false) None
counters_settled timing gap s e =
    let len : length (replicate timing.quiet false) ≡ timing.quiet = length-replicate timing.quiet false in
    record {
      sound = s;
      place = timing.sg;
      from = gap_settled timing.sg timing.quiet (sound_sg timing s) s.quiet_least;
      interval = omega arith;
      synchronization = let q : timing.sg ≤ timing.quiet = s.quiet_least in omega arith;
      terminal = omega arith;
    }

pub counters_started : (timing : Timing) (wait quiet gap : ℕ) (past : List Bool) (last : Option ℕ) → CountersStand timing wait quiet gap past last → CountersStand timing timing.ti 0 0 past (Some (length past))
counters_started timing wait quiet gap past last c = record {
  sound = c.sound;
  place = length past + timing.sg;
  from = gap_started timing.sg past (sound_sg timing c.sound);
  interval = omega arith;
  synchronization = omega arith;
  terminal = omega arith;
}

-- wait is 0 and the terminal gap is counted whole exactly where the terminal may start
pub counters_ready : (timing : Timing) (wait quiet gap : ℕ) (past : List Bool) (last : Option ℕ) → CountersStand timing wait quiet gap past last → ((wait ≡ 0) × (gap ≡ timing.tg)) ↔ MayStart timing past last
counters_ready timing wait quiet gap past last c =
    let i : wait ≡ due_place timing last - length past = c.interval in
    let t : gap ≡ min timing.tg (length past - c.place) = c.terminal in
    let tg : 0 < timing.tg = sound_tg timing c.sound in
    let both = gap_ready timing past last c.place (sound_sg timing c.sound) tg c.from in (
      (λ p. let w : wait ≡ 0 = p.0 in let g : gap ≡ timing.tg = p.1 in both.0 (omega arith, omega arith)),
      (λ may. let d : due_place timing last ≤ length past = (both.1 may).0 in let f : c.place + timing.tg ≤ length past = (both.1 may).1 in (omega arith, omega arith)),
    )

-- a bit time
pub counters_pass : (timing : Timing) (wait quiet gap : ℕ) (past : List Bool) (last : Option ℕ) (carrier : Bool) (wait' quiet' gap' : ℕ) → CountersStand timing wait quiet gap past last
    → wait' ≡ wait - 1
    → (carrier ≡ true → quiet < timing.sg → quiet' ≡ 0) → (carrier ≡ false → quiet < timing.sg → quiet' ≡ quiet + 1) → (timing.sg ≤ quiet → quiet' ≡ quiet)
    → (carrier ≡ true → gap' ≡ 0) → (carrier ≡ false → quiet < timing.sg → gap' ≡ gap) → (carrier ≡ false → timing.sg ≤ quiet → gap' ≡ min timing.tg (gap + 1))
    → CountersStand timing wait' quiet' gap' (past ++ carrier ∷ []) last
counters_pass timing wait quiet gap past last true wait' quiet' gap' c w cut counted elapsed gap_cut gap_waiting gap_counted =
    let i : wait ≡ due_place timing last - length past = c.interval in
    let s : quiet + (c.place - length past) ≡ timing.sg = c.synchronization in
    let pos : 0 < timing.sg = sound_sg timing c.sound in
    let len : length (past ++ true ∷ []) ≡ length past + 1 = length_push past true in
    let z : gap' ≡ 0 = gap_cut refl in
    elim (cases_lt (length past) c.place) [
      | inl ahead ↦
          let y : quiet' ≡ 0 = cut refl (omega arith) in
          record {
            sound = c.sound;
            place = length past + 1 + timing.sg;
            from = gap_carrier_waiting timing.sg past last c.place pos c.from ahead;
            interval = omega arith;
            synchronization = omega arith;
            terminal = omega arith;
          }
      | inr behind ↦
          let y : quiet' ≡ quiet = elapsed (omega arith) in
          record {
            sound = c.sound;
            place = length past + 1;
            from = gap_carrier_elapsed timing.sg past last c.place pos c.from behind;
            interval = omega arith;
            synchronization = omega arith;
            terminal = omega arith;
          }
    ]
counters_pass timing wait quiet gap past last false wait' quiet' gap' c w cut counted elapsed gap_cut gap_waiting gap_counted =
    let i : wait ≡ due_place timing last - length past = c.interval in
    let s : quiet + (c.place - length past) ≡ timing.sg = c.synchronization in
    let t : gap ≡ min timing.tg (length past - c.place) = c.terminal in
    let len : length (past ++ false ∷ []) ≡ length past + 1 = length_push past false in
    record {
      sound = c.sound;
      place = c.place;
      from = gap_quiet timing.sg past last c.place (sound_sg timing c.sound) c.from;
      interval = omega arith;
      synchronization = elim (cases_lt quiet timing.sg) [ inl l ↦ let z : quiet' ≡ quiet + 1 = counted refl l in omega arith | inr l ↦ let z : quiet' ≡ quiet = elapsed l in omega arith ];
      terminal = elim (cases_lt quiet timing.sg) [ inl l ↦ let z : gap' ≡ gap = gap_waiting refl l in omega arith | inr l ↦ let z : gap' ≡ min timing.tg (gap + 1) = gap_counted refl l in omega arith ];
    }
