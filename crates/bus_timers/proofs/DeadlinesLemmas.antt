-- What the steps of a core of deadlines do to its moments.
use Rattle.std.proofs.Common.{◌≡◌, ℕ, suc, zero, ◌+◌, ◌-◌, ◌<◌, ◌≤◌, ◌↔◌, ◌++◌, [], Bool, true, false, List, length, replicate, Option, Some, max, inl, inr, arith, sym, refl, subst, ◌∙◌}
use Rattle.std.proofs.lemmas.List.{length-replicate, length-append}
use Rattle.std.proofs.lemmas.Bool.{cases_lt}
use Rattle.bus_timers.specs.declared.timing.Timing.{Timing}
use Rattle.bus_timers.specs.Timings.{due_place}
use Rattle.bus_timers.specs.MayStart.{MayStart}
use Rattle.bus_timers.specs.GapPlace.{GapFrom}
use Rattle.bus_timers.specs.inside.Deadlines.{DeadlinesStand}
use Rattle.bus_timers.specs.Wait.{IsWait}
use Rattle.bus_timers.proofs.TimingLaws.{sound_sg, sound_tg}
use Rattle.bus_timers.proofs.GapStepLaws.{gap_started, gap_ready}
use Rattle.bus_timers.proofs.GapStretchLaws.{gap_quiets, gap_carriers_elapsed, gap_carriers_waiting}

pub deadlines_started : (timing : Timing) (now due gap_from : ℕ) (past : List Bool) (last : Option ℕ) → DeadlinesStand timing now due gap_from past last → DeadlinesStand timing now (now + timing.ti) (now + timing.sg) past (Some (length past))
deadlines_started timing now due gap_from past last d =
    let at : now ≡ length past = d.at in
    record {
      sound = d.sound;
      at = at;
      interval = omega arith;
      from = subst (λ n. GapFrom timing.sg past (Some (length past)) (n + timing.sg)) (sym at) (gap_started timing.sg past (sound_sg timing d.sound));
    }

pub deadlines_ready : (timing : Timing) (now due gap_from : ℕ) (past : List Bool) (last : Option ℕ) → DeadlinesStand timing now due gap_from past last → ((due ≤ now) × (gap_from + timing.tg ≤ now)) ↔ MayStart timing past last
deadlines_ready timing now due gap_from past last d =
    let at : now ≡ length past = d.at in
    let i : due ≡ due_place timing last = d.interval in
    let both = gap_ready timing past last gap_from (sound_sg timing d.sound) (sound_tg timing d.sound) d.from in (
      (λ p. let a : due ≤ now = p.0 in let b : gap_from + timing.tg ≤ now = p.1 in both.0 (omega arith, omega arith)),
      (λ may. let a : due_place timing last ≤ length past = (both.1 may).0 in let b : gap_from + timing.tg ≤ length past = (both.1 may).1 in (omega arith, omega arith)),
    )

-- quiet bit times
pub deadlines_quiet : (timing : Timing) (now due gap_from : ℕ) (past : List Bool) (last : Option ℕ) (bits : ℕ) → DeadlinesStand timing now due gap_from past last → DeadlinesStand timing (now + bits) due gap_from (past ++ replicate bits false) last
deadlines_quiet timing now due gap_from past last bits d =
    let at : now ≡ length past = d.at in
    record {
      sound = d.sound;
      at = omega (arith, length-append past (replicate bits false), length-replicate bits false);
      interval = d.interval;
      from = gap_quiets timing.sg past last gap_from bits (sound_sg timing d.sound) d.from;
    }

-- bit times with carrier or without
pub deadlines_pass : (timing : Timing) (now due gap_from : ℕ) (past : List Bool) (last : Option ℕ) (carrier : Bool) (bits next : ℕ) → DeadlinesStand timing now due gap_from past last
    → (bits ≡ 0 → next ≡ gap_from) → (carrier ≡ false → next ≡ gap_from)
    → (carrier ≡ true → 0 < bits → gap_from ≤ now → next ≡ now + bits) → (carrier ≡ true → 0 < bits → now < gap_from → next ≡ now + bits + timing.sg)
    → DeadlinesStand timing (now + bits) due next (past ++ replicate bits carrier) last
deadlines_pass timing now due gap_from past last false bits next d none quiet elapsed waiting =
    subst (λ n. DeadlinesStand timing (now + bits) due n (past ++ replicate bits false) last) (sym (quiet refl)) (deadlines_quiet timing now due gap_from past last bits d)
deadlines_pass timing now due gap_from past last true zero next d none quiet elapsed waiting =
    subst (λ n. DeadlinesStand timing (now + 0) due n (past ++ []) last) (sym (none refl)) (deadlines_quiet timing now due gap_from past last 0 d)
deadlines_pass timing now due gap_from past last true (suc k) next d none quiet elapsed waiting =
    let at : now ≡ length past = d.at in
    let len : length (past ++ replicate (suc k) true) ≡ length past + suc k = length-append past (replicate (suc k) true) ∙ (omega (arith, length-replicate (suc k) true)) in
    record {
      sound = d.sound;
      at = omega arith;
      interval = d.interval;
      from = elim (cases_lt (length past) gap_from) [
        | inl ahead ↦ let e : next ≡ now + suc k + timing.sg = waiting refl (omega arith) (omega arith) in
            subst (λ n. GapFrom timing.sg (past ++ replicate (suc k) true) last n) (let w : length past + suc k + timing.sg ≡ next = omega arith in w) (gap_carriers_waiting timing.sg past last gap_from (suc k) (sound_sg timing d.sound) (omega arith) d.from ahead)
        | inr behind ↦ let e : next ≡ now + suc k = elapsed refl (omega arith) (omega arith) in
            subst (λ n. GapFrom timing.sg (past ++ replicate (suc k) true) last n) (let w : length past + suc k ≡ next = omega arith in w) (gap_carriers_elapsed timing.sg past last gap_from (suc k) (sound_sg timing d.sound) (omega arith) d.from behind)
      ];
    }

-- how long a core waits on a quiet bus
pub deadlines_wait : (timing : Timing) (now due gap_from : ℕ) (past : List Bool) (last : Option ℕ) (wait : ℕ) → DeadlinesStand timing now due gap_from past last → wait ≡ max due (gap_from + timing.tg) - now → IsWait timing past last wait
deadlines_wait timing now due gap_from past last wait d e = record {
  then = (deadlines_ready timing (now + wait) due gap_from (past ++ replicate wait false) last (deadlines_quiet timing now due gap_from past last wait d)).0 (omega arith, omega arith);
  not_before = λ k below may.
      let p = (deadlines_ready timing (now + k) due gap_from (past ++ replicate k false) last (deadlines_quiet timing now due gap_from past last k d)).1 may in
      let a : due ≤ now + k = p.0 in let b : gap_from + timing.tg ≤ now + k = p.1 in omega arith;
}
