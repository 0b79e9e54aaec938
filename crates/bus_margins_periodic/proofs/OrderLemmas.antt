-- The loops of the rule of order.
use Rattle.std.proofs.Common.{◌≡◌, ℕ, suc, ◌+◌, ◌-◌, ◌≤◌, ◌⊎◌, ◌^◌, Option, inl, inr, arith, ap, ◌∙◌}
use Rattle.bus_clocks.specs.Buses.{Bus}
use Rattle.bus_drift.specs.Turns.{slowest, fastest, longest_step, shortest_step}
use Rattle.bus_margins_periodic.specs.declared.order.Case.{Case}
use Rattle.bus_margins_periodic.specs.declared.room.Room.{Room}
use Rattle.bus_margins_periodic.specs.Least.{lesser, least_of}
use Rattle.bus_margins_periodic.specs.Rooms.{order_among, passed_room, held_room}
use Rattle.bus_margins_periodic.specs.inside.Cases.{IsCase}
use Rattle.bus_margins_periodic.proofs.LoopLemmas.{slow_more, fast_more}

-- one more
pub more : (room : ℕ → Option Room) (n : ℕ) (before now after : Option Room) → before ≡ least_of n room → now ≡ room n → after ≡ lesser before now
    → after ≡ least_of (suc n) room
more room n before now after one two is = is ∙ ap (λ a. lesser a now) one ∙ ap (lesser (least_of n room)) two

pub one_more : (room : ℕ → Option Room) (n : ℕ) (before now after : Option Room) → before ≡ least_of n room → now ≡ room n → after ≡ lesser before now
    → after ≡ least_of (n + 1) room
one_more room n before now after one two is = more room n before now after one two is ∙ ap (λ m. least_of m room) (let e : suc n ≡ n + 1 = omega arith in e)

-- one step more
pub slow_on : (bus : Bus) (late held slow step : ℕ) → late ≤ held → slow ≡ slowest bus late held → step ≡ longest_step bus held
    → slow + step ≡ slowest bus late (held + 1)
slow_on bus late held slow step low before step_is =
    let more : slowest bus late (suc held) ≡ slowest bus late held + longest_step bus held = slow_more bus late held low in
    let at : slowest bus late (suc held) ≡ slowest bus late (held + 1) = ap (slowest bus late) (let e : suc held ≡ held + 1 = omega arith in e) in
    omega arith

pub fast_on : (bus : Bus) (late held fast step : ℕ) → late ≤ held → fast ≡ fastest bus late held → step ≡ shortest_step bus held
    → fast + step ≡ fastest bus late (held + 1)
fast_on bus late held fast step low before step_is =
    let more : fastest bus late (suc held) ≡ fastest bus late held + shortest_step bus held = fast_more bus late held low in
    let at : fastest bus late (suc held) ≡ fastest bus late (held + 1) = ap (fastest bus late) (let e : suc held ≡ held + 1 = omega arith in e) in
    omega arith

-- the next one that is due
pub case_on : (bus : Bus) (case : Case) (due fast step : ℕ) → IsCase bus case → suc case.held ≤ due → due ≤ 2 ^ 10 → fast ≡ fastest bus case.late (due - 1)
    → step ≡ shortest_step bus (due - 1) → fast + step ≤ 2 ^ 42
    → IsCase bus (record { late = case.late; held = case.held; due = due; slow = case.slow; fast = fast + step })
case_on bus case due fast step is low high before step_is small =
    let back : suc (due - 1) ≡ due = omega arith in
    let order : case.late ≤ case.held = is.order in
    let more : fastest bus case.late (suc (due - 1)) ≡ fastest bus case.late (due - 1) + shortest_step bus (due - 1) =
    fast_more bus case.late (due - 1) (omega arith) in
    let at : fastest bus case.late (suc (due - 1)) ≡ fastest bus case.late due = ap (fastest bus case.late) back in
    record {
      slow = is.slow;
      fast = omega arith;
      slow_bound = is.slow_bound;
      fast_bound = small;
      order = order;
      early = is.early;
      held_early = is.held_early;
      due_early = high;
    }

pub passed_more : (bus : Bus) (late held due : ℕ) (before now after : Option Room) → suc held ≤ due
    → before ≡ least_of (due - suc held) (λ b. order_among bus late held (held + suc b)) → now ≡ order_among bus late held due → after ≡ lesser before now
    → after ≡ least_of (due + 1 - suc held) (λ b. order_among bus late held (held + suc b))
passed_more bus late held due before now after low one two is =
    let n : suc (due - suc held) ≡ due + 1 - suc held = omega arith in
    let at : due ≡ held + suc (due - suc held) = omega arith in
    more (λ b. order_among bus late held (held + suc b)) (due - suc held) before now after one (two ∙ ap (order_among bus late held) at) is
    ∙ ap (λ n. least_of n (λ b. order_among bus late held (held + suc b))) n

pub passed_end : (bus : Bus) (last late held due : ℕ) (least : Option Room) → (due ≤ last) ⊎ (due ≡ suc held) → last ≤ due
    → least ≡ least_of (due - suc held) (λ b. order_among bus late held (held + suc b)) → least ≡ passed_room bus last late held
passed_end bus last late held due least upto over is =
    let n : due - suc held ≡ last - suc held = elim upto [ inl low ↦ omega arith | inr same ↦ omega arith ] in
    is ∙ ap (λ n. least_of n (λ b. order_among bus late held (held + suc b))) n

pub held_more : (bus : Bus) (last late held : ℕ) (before now after : Option Room) → late ≤ held
    → before ≡ least_of (held - late) (λ a. passed_room bus last late (late + a)) → now ≡ passed_room bus last late held → after ≡ lesser before now
    → after ≡ least_of (held + 1 - late) (λ a. passed_room bus last late (late + a))
held_more bus last late held before now after low one two is =
    let n : suc (held - late) ≡ held + 1 - late = omega arith in
    let at : held ≡ late + (held - late) = omega arith in
    more (λ a. passed_room bus last late (late + a)) (held - late) before now after one (two ∙ ap (passed_room bus last late) at) is
    ∙ ap (λ n. least_of n (λ a. passed_room bus last late (late + a))) n

pub held_end : (bus : Bus) (last late held : ℕ) (least : Option Room) → (held ≤ last) ⊎ (held ≡ late) → last ≤ held
    → least ≡ least_of (held - late) (λ a. passed_room bus last late (late + a)) → least ≡ held_room bus last late
held_end bus last late held least upto over is =
    let n : held - late ≡ last - late = elim upto [ inl low ↦ omega arith | inr same ↦ omega arith ] in
    is ∙ ap (λ n. least_of n (λ a. passed_room bus last late (late + a))) n
