-- What the timers of a sender tell, and how they move.
use Rattle.std.proofs.Common.{◌≡◌, ℕ, ◌+◌, ◌-◌, ◌<◌, ◌≤◌, ◌++◌, Bool, true, false, ◌&&◌, cond, leb, ltb, List, length, replicate, Option, Some, None}
use Rattle.std.proofs.Common.{unwrap_or, inl, inr, arith, sym, refl, ap, subst, ◌∙◌}
use Rattle.std.proofs.lemmas.Bool.{cases_lt, true≢false, le-leb, lt-leb, leb-true, lt-ltb, le-ltb}
use Rattle.bus_medium.proofs.PastLaws.{same_bools}
use Rattle.bus_timers.specs.declared.timing.Timing.{Timing}
use Rattle.bus_timers.specs.Timings.{IsSound, due_place}
use Rattle.bus_timers.specs.MayStart.{IsSync, MayStart}
use Rattle.bus_timers.specs.MayStartTest.{is_quiet, may_start, TestDecides}
use Rattle.bus_timers.specs.GapPlace.{GapFrom}
use Rattle.bus_timers.proofs.GapStepLaws.{gap_ready, gap_started}
use Rattle.bus_timers.proofs.GapStretchLaws.{gap_quiets, gap_carriers_elapsed, gap_carriers_waiting}
use Rattle.bus_timers.proofs.TimingLaws.{sound_sg, sound_tg}
use Rattle.bus_dump.specs.declared.sender_timers.SenderTimers.{SenderTimers}
use Rattle.bus_dump.specs.Timers.{Elapsed, elapsed_of, has_interval, has_synchronization, has_gap}
use Rattle.bus_dump.specs.inside.SenderTimers.{Keeps, tells_at, passed, last_behind, next_turn, gap_behind, gap_from, later_or}

-- ---- tests
-- with no interval and no terminal gap, the test of `may_start` asks for the synchronization gap alone
abbrev pub bare : Timing → ℕ → Timing
bare timing tg = record timing { ti = 0; tg = tg; quiet = 0; due = 0 }

-- the last own start lies in the past
last_within : (sg : ℕ) (past : List Bool) (last : Option ℕ) (g : ℕ) → 0 < sg → GapFrom sg past last g → unwrap_or last 0 ≤ length past
last_within sg past None g pos h = omega arith
last_within sg past (Some start) g pos (inl x) =
    let s : IsSync sg past (Some start) x.sync.0 = x.sync.2 in
    let own : start ≤ x.sync.0 - sg = s.own in
    let low : x.sync.0 ≤ g = x.sync.1 in
    let reached : g ≤ length past = x.reached in
    omega arith
last_within sg past (Some start) g pos (inr w) =
    let own : start + sg ≤ g = w.own in
    let near : g ≤ length past + sg = w.near in
    omega arith

pub bare_due : (timing : Timing) (tg : ℕ) (past : List Bool) (last : Option ℕ) → unwrap_or last 0 ≤ length past
    → due_place (bare timing tg) last ≤ length past
bare_due timing tg past None h = omega arith
bare_due timing tg past (Some start) h = omega arith

-- the tests of the two gaps are those of a terminal without an interval
no_quiet : (past : List Bool) (n : ℕ) → n ≡ length past → is_quiet past n (length past) ≡ true
no_quiet past n e = rw (let z : length past - n ≡ 0 = omega arith in z) refl

pub synchronization_test : (timing : Timing) (past : List Bool) (last : Option ℕ) → unwrap_or last 0 ≤ length past
    → may_start (bare timing 0) past last ≡ has_synchronization timing past last
synchronization_test timing past last h =
    rw (
      le-leb (due_place (bare timing 0) last) (length past) (bare_due timing 0 past last h),
      le-leb 0 (length past) (omega arith),
      no_quiet past (length past - 0) (omega arith),
      (let e : length past + 1 - 0 ≡ length past + 1 = omega arith in e),
    )
    (elim (has_synchronization timing past last) as (λ b. (b && true && true) ≡ b) [ true ↦ refl | false ↦ refl ])

pub gap_test : (timing : Timing) (past : List Bool) (last : Option ℕ) → unwrap_or last 0 ≤ length past
    → may_start (bare timing timing.tg) past last ≡ has_gap timing past last
gap_test timing past last h =
    rw (le-leb (due_place (bare timing timing.tg) last) (length past) (bare_due timing timing.tg past last h)) refl

-- ---- what the timers of a sender tell
synchronization_told : TestDecides → (timing : Timing) (past : List Bool) (last : Option ℕ) (g : ℕ) → 0 < timing.sg → GapFrom timing.sg past last g
    → leb g (length past) ≡ has_synchronization timing past last
synchronization_told decides timing past last g pos h =
    let low : unwrap_or last 0 ≤ length past = last_within timing.sg past last g pos h in
    let test = decides (bare timing 0) past last in
    sym (sym (synchronization_test timing past last low) ∙ same_bools (may_start (bare timing 0) past last) (leb g (length past))
    (λ w. elapsed h (test.0 w))
    (λ w. test.1 (starts h w)))
  where
    elapsed : GapFrom timing.sg past last g → MayStart (bare timing 0) past last → leb g (length past) ≡ true
    elapsed (inl x) m = le-leb g (length past) x.reached
    elapsed (inr w) m = absurd (w.none m.synchronized.0 m.synchronized.2)

    starts : GapFrom timing.sg past last g → leb g (length past) ≡ true → MayStart (bare timing 0) past last
    starts (inl x) w =
        let e : x.sync.0 ≤ g = x.sync.1 in
        let r : g ≤ length past = x.reached in
        record {
          interval = bare_due timing 0 past last (last_within timing.sg past last g pos h);
          synchronized = (x.sync.0, omega arith, x.sync.2);
          gap_fits = omega arith;
          gap = λ k l u. absurd (omega arith);
        }
    starts (inr w) e = let r : g ≤ length past = leb-true g (length past) e in let a : length past < g = w.ahead in absurd (omega arith)

gap_told : TestDecides → (timing : Timing) (past : List Bool) (last : Option ℕ) (g : ℕ) → 0 < timing.sg → 0 < timing.tg → GapFrom timing.sg past last g
    → leb (g + timing.tg) (length past) ≡ has_gap timing past last
gap_told decides timing past last g pos tpos h =
    let low : unwrap_or last 0 ≤ length past = last_within timing.sg past last g pos h in
    let test = decides (bare timing timing.tg) past last in
    let ready = gap_ready (bare timing timing.tg) past last g pos tpos h in
    sym (sym (gap_test timing past last low) ∙ same_bools (may_start (bare timing timing.tg) past last) (leb (g + timing.tg) (length past))
    (λ w. le-leb (g + timing.tg) (length past) (ready.1 (test.0 w)).1)
    (λ w. test.1 (ready.0 (bare_due timing timing.tg past last low, leb-true (g + timing.tg) (length past) w))))

may_told : TestDecides → (timing : Timing) (past : List Bool) (last : Option ℕ) (g : ℕ) → 0 < timing.sg → 0 < timing.tg → GapFrom timing.sg past last g
    → (leb (due_place timing last) (length past) && leb (g + timing.tg) (length past)) ≡ may_start timing past last
may_told decides timing past last g pos tpos h =
    let test = decides timing past last in
    let ready = gap_ready timing past last g pos tpos h in
    same_bools _ _
    (λ w. let p = both (leb (due_place timing last) (length past)) (leb (g + timing.tg) (length past)) w in
    test.1 (ready.0 (leb-true (due_place timing last) (length past) p.0, leb-true (g + timing.tg) (length past) p.1)))
    (λ w. let p = ready.1 (test.0 w) in rw (le-leb (due_place timing last) (length past) p.0, le-leb (g + timing.tg) (length past) p.1) refl)
  where
    both : (a b : Bool) → (a && b) ≡ true → (a ≡ true) × (b ≡ true)
    both true b w = (refl, w)
    both false b w = absurd (true≢false (sym w))

abbrev made : ℕ → Bool → Bool → Bool → Bool → Elapsed
made terminal interval synchronization gap may = record { terminal = terminal; interval = interval; synchronization = synchronization; gap = gap; may = may }

-- they tell which timers have elapsed
pub timers_tell : TestDecides → (sender_timers : SenderTimers) (past : List Bool) (last : Option ℕ) → Keeps sender_timers past last
    → tells_at (length past) sender_timers ≡ elapsed_of sender_timers.terminal sender_timers.timing past last
timers_tell decides sender_timers past last k =
    let n = sender_timers.terminal in
    let timing = sender_timers.timing in
    let sg : 0 < timing.sg = sound_sg timing k.sound in
    let tg : 0 < timing.tg = sound_tg timing k.sound in
    let due : leb sender_timers.due (length past) ≡ has_interval timing past last = ap (λ d. leb d (length past)) k.interval in
    let synchronization = synchronization_told decides timing past last sender_timers.gap sg k.from in
    let gap = gap_told decides timing past last sender_timers.gap sg tg k.from in
    let may : (leb sender_timers.due (length past) && leb (sender_timers.gap + timing.tg) (length past)) ≡ may_start timing past last =
    ap (λ b. b && leb (sender_timers.gap + timing.tg) (length past)) due ∙ may_told decides timing past last sender_timers.gap sg tg k.from in
    ap (λ b. made n b (leb sender_timers.gap (length past)) (leb (sender_timers.gap + timing.tg) (length past))
    (leb sender_timers.due (length past) && leb (sender_timers.gap + timing.tg) (length past))) due
    ∙ ap (λ b. made n (has_interval timing past last) b (leb (sender_timers.gap + timing.tg) (length past))
    (leb sender_timers.due (length past) && leb (sender_timers.gap + timing.tg) (length past))) synchronization
    ∙ ap (λ b. made n (has_interval timing past last) (has_synchronization timing past last) b
    (leb sender_timers.due (length past) && leb (sender_timers.gap + timing.tg) (length past))) gap
    ∙ ap (λ b. made n (has_interval timing past last) (has_synchronization timing past last) (has_gap timing past last) b) may

-- ---- how it moves
gap_passed : (sg : ℕ) (past : List Bool) (last : Option ℕ) (g from to n : ℕ) (carrier : Bool) → 0 < sg → GapFrom sg past last g
    → from ≡ length past → to ≡ from + n → 0 < n
    → GapFrom sg (past ++ replicate n carrier) last (cond carrier (gap_behind from to sg g) g)
gap_passed sg past last g from to n false pos h e f some = gap_quiets sg past last g n pos h
gap_passed sg past last g from to n true pos h e f some = elim (cases_lt from g) [
  | inl waiting ↦
      subst (λ b. GapFrom sg (past ++ replicate n true) last (cond b to (to + sg))) (sym (lt-leb g from waiting))
      (subst (GapFrom sg (past ++ replicate n true) last) (let w : length past + n + sg ≡ to + sg = omega arith in w)
      (gap_carriers_waiting sg past last g n pos some h (omega arith)))
  | inr elapsed ↦
      subst (λ b. GapFrom sg (past ++ replicate n true) last (cond b to (to + sg))) (sym (le-leb g from elapsed))
      (subst (GapFrom sg (past ++ replicate n true) last) (let w : length past + n ≡ to = omega arith in w)
      (gap_carriers_elapsed sg past last g n pos some h (omega arith)))
]

start_kept : (sender_timers : SenderTimers) (past : List Bool) (last : Option ℕ) (place : ℕ) (starts : Bool) → Keeps sender_timers past last → place ≡ length past
    → GapFrom sender_timers.timing.sg past (last_behind place starts last) (gap_from place starts sender_timers)
start_kept sender_timers past last place false k e = k.from
start_kept sender_timers past last place true k e =
    subst (λ p. GapFrom sender_timers.timing.sg past (Some p) (p + sender_timers.timing.sg)) (sym e) (gap_started sender_timers.timing.sg past (sound_sg sender_timers.timing k.sound))

due_kept : (sender_timers : SenderTimers) (past : List Bool) (last : Option ℕ) (place : ℕ) (starts : Bool) → Keeps sender_timers past last
    → cond starts (place + sender_timers.timing.ti) sender_timers.due ≡ due_place sender_timers.timing (last_behind place starts last)
due_kept sender_timers past last place false k = k.interval
due_kept sender_timers past last place true k = refl

pub timers_passed : (sender_timers : SenderTimers) (past : List Bool) (last : Option ℕ) (from to n : ℕ) (starts carrier : Bool) → Keeps sender_timers past last
    → from ≡ length past → to ≡ from + n → 0 < n
    → Keeps (passed from to starts carrier sender_timers) (past ++ replicate n carrier) (last_behind from starts last)
timers_passed sender_timers past last from to n starts carrier k e f some = record {
  sound = k.sound;
  interval = due_kept sender_timers past last from starts k;
  from = gap_passed sender_timers.timing.sg past (last_behind from starts last) (gap_from from starts sender_timers) from to n carrier (sound_sg sender_timers.timing k.sound)
      (start_kept sender_timers past last from starts k e) e f some;
}

-- ---- until when its timers stay as they are
later_is : (behind limit place : ℕ) → behind < limit → (behind < later_or behind limit place) × (later_or behind limit place ≤ limit)
    × (behind < place → later_or behind limit place ≤ place)
later_is behind limit place h = elim (cases_lt behind place) [
  | inl w ↦ rw (lt-ltb behind place w) (omega arith, omega arith, λ k. omega arith)
  | inr w ↦ rw (le-ltb behind place w) (omega arith, omega arith, λ k. absurd (omega arith))
]

same_leb : (a place later limit : ℕ) → place ≤ later → later < limit → (place < a → limit ≤ a) → leb a later ≡ leb a place
same_leb a place later limit h k w = elim (cases_lt place a) [
  | inl ahead ↦ (let l : limit ≤ a = w ahead in lt-leb a later (omega arith) ∙ sym (lt-leb a place ahead))
  | inr past ↦ le-leb a later (omega arith) ∙ sym (le-leb a place past)
]

-- in quiet
quiet_steady : (sender_timers : SenderTimers) (place limit k : ℕ) → place < limit → place + k < next_turn place limit false false sender_timers
    → tells_at (place + k) (passed place (place + k) false false sender_timers) ≡ tells_at place sender_timers
quiet_steady sender_timers place limit k low h =
    let due = later_is place limit sender_timers.due low in
    let gap = later_is place (later_or place limit sender_timers.due) sender_timers.gap due.0 in
    let behind = sender_timers.gap + sender_timers.timing.tg in
    let last = later_is place (later_or place (later_or place limit sender_timers.due) sender_timers.gap) behind gap.0 in
    let next = next_turn place limit false false sender_timers in
    let high : next ≤ later_or place (later_or place limit sender_timers.due) sender_timers.gap = last.1 in
    let higher : later_or place (later_or place limit sender_timers.due) sender_timers.gap ≤ later_or place limit sender_timers.due = gap.1 in
    rw (
      same_leb sender_timers.due place (place + k) next (omega arith) h (λ w. omega (arith, due.2 w)),
      same_leb sender_timers.gap place (place + k) next (omega arith) h (λ w. omega (arith, gap.2 w)),
      same_leb behind place (place + k) next (omega arith) h (λ w. omega (arith, last.2 w)),
    ) refl

-- under carrier, where no terminal gap was counted
carrier_steady : (sender_timers : SenderTimers) (place limit k : ℕ) → 0 < sender_timers.timing.tg → 0 < sender_timers.timing.sg → 0 < k → place < limit → place ≤ sender_timers.gap
    → place + k < later_or place limit sender_timers.due
    → tells_at (place + k) (passed place (place + k) false true sender_timers) ≡ tells_at place sender_timers
carrier_steady sender_timers place limit k tg sg some low ahead h =
    let due = later_is place limit sender_timers.due low in
    let same_due : leb sender_timers.due (place + k) ≡ leb sender_timers.due place =
    same_leb sender_timers.due place (place + k) (later_or place limit sender_timers.due) (omega arith) h (λ w. due.2 w) in
    elim (cases_lt place sender_timers.gap) [
      | inl waiting ↦
          rw (
            same_due,
            lt-leb sender_timers.gap place waiting,
            lt-leb (place + k + sender_timers.timing.sg) (place + k) (omega arith),
            lt-leb (place + k + sender_timers.timing.sg + sender_timers.timing.tg) (place + k) (omega arith),
            lt-leb (sender_timers.gap + sender_timers.timing.tg) place (omega arith),
          ) refl
      | inr elapsed ↦
          rw (
            same_due,
            le-leb sender_timers.gap place elapsed,
            le-leb (place + k) (place + k) (omega arith),
            lt-leb (place + k + sender_timers.timing.tg) (place + k) (omega arith),
            lt-leb (sender_timers.gap + sender_timers.timing.tg) place (omega arith),
          ) refl
    ]

pub timers_steady : (sender_timers : SenderTimers) (place limit k : ℕ) (carrier : Bool) → IsSound sender_timers.timing → 0 < k → place < limit
    → place + k < next_turn place limit false carrier sender_timers
    → tells_at (place + k) (passed place (place + k) false carrier sender_timers) ≡ tells_at place sender_timers
timers_steady sender_timers place limit k false sound some low h = quiet_steady sender_timers place limit k low h
timers_steady sender_timers place limit k true sound some low h = elim (cases_lt sender_timers.gap place) [
  | inl counts ↦
      let e : next_turn place limit false true sender_timers ≡ place + 1 =
      ap (λ b. cond b (place + 1) (later_or place limit sender_timers.due)) (lt-ltb sender_timers.gap place counts) in
      absurd (omega arith)
  | inr not ↦
      let e : next_turn place limit false true sender_timers ≡ later_or place limit sender_timers.due =
      ap (λ b. cond b (place + 1) (later_or place limit sender_timers.due)) (le-ltb sender_timers.gap place not) in
      carrier_steady sender_timers place limit k (sound_tg sender_timers.timing sound) (sound_sg sender_timers.timing sound) some low not (omega arith)
]

-- the next turn is later, and within the limit
pub turn_later : (sender_timers : SenderTimers) (place limit : ℕ) (starts carrier : Bool) → place < limit
    → (place < next_turn place limit starts carrier sender_timers) × (next_turn place limit starts carrier sender_timers ≤ limit)
turn_later sender_timers place limit true carrier h = (omega arith, omega arith)
turn_later sender_timers place limit false true h =
    elim (ltb sender_timers.gap place) as (λ b. (place < cond b (place + 1) (later_or place limit sender_timers.due)) × (cond b (place + 1) (later_or place limit sender_timers.due) ≤ limit)) [
      | true ↦ (omega arith, omega arith)
      | false ↦ let l = later_is place limit sender_timers.due h in (l.0, l.1)
    ]
turn_later sender_timers place limit false false h =
    let due = later_is place limit sender_timers.due h in
    let gap = later_is place (later_or place limit sender_timers.due) sender_timers.gap due.0 in
    let last = later_is place (later_or place (later_or place limit sender_timers.due) sender_timers.gap) (sender_timers.gap + sender_timers.timing.tg) gap.0 in
    (last.0, omega (arith, last.1, gap.1, due.1))

pub turn_started : (sender_timers : SenderTimers) (place limit : ℕ) (carrier : Bool) → next_turn place limit true carrier sender_timers ≡ place + 1
turn_started sender_timers place limit carrier = refl
