-- Without delays, where all wake at the settled start, the closed schedule is that of `bus_schedule`.
use Rattle.std.proofs.Common.{◌≡◌, ℕ, zero, suc, ◌+◌, List, [], ◌∷◌, ◌++◌, arith, sym, refl, ap, ◌∙◌}
use Rattle.bus_strings.specs.Messages.{Message, Entry}
use Rattle.bus_strings.specs.Transmissions.{end_of}
use Rattle.bus_table.specs.Tables.{Sender}
use Rattle.bus_table.specs.Turns.{turn_order}
use Rattle.bus_schedule.specs.Closed as schedule
use Rattle.bus_schedule.specs.Closed.{sends, schedule_in}
use Rattle.bus_schedule.specs.Even.{messages_of, rounds}
use Rattle.bus_medium.specs.Delays.{heard_end}
use Rattle.bus_reach.specs.Laws.{NoDelayIsClosed}
use Rattle.bus_reach.specs.Schedule.{cable_turns, cable_heard, cable_origin, cable_rounds}

turns_same : (messages : ℕ → List Message) (round : ℕ) (order : List Sender) (from : ℕ → ℕ) (at : ℕ) → ((k : ℕ) → from k ≡ at)
    → cable_turns (λ _ _. 0) messages round order from ≡ schedule.turns messages round order at
turns_same messages round [] from at h = refl
turns_same messages round (a ∷ order) from at h =
    let x : Entry = sends messages round a (at + a.tg) in
    let e : from a.number + a.tg ≡ at + a.tg = ap (λ n. n + a.tg) (h a.number) in
    ap (λ m. sends messages round a m ∷ cable_turns (λ _ _. 0) messages round order (heard_end (λ _ _. 0) (sends messages round a m))) e
    ∙ ap (λ l. x ∷ l) (turns_same messages round order (heard_end (λ _ _. 0) x) (end_of x) (λ k. omega arith))

heard_at : (messages : ℕ → List Message) (round : ℕ) (order : List Sender) (from : ℕ → ℕ) (at : ℕ) → ((k : ℕ) → from k ≡ at)
    → (k : ℕ) → cable_heard (λ _ _. 0) messages round order from k ≡ schedule.turns_end messages round order at
heard_at messages round [] from at h k = h k
heard_at messages round (a ∷ order) from at h k =
    let x : Entry = sends messages round a (at + a.tg) in
    let e : from a.number + a.tg ≡ at + a.tg = ap (λ n. n + a.tg) (h a.number) in
    ap (λ m. cable_heard (λ _ _. 0) messages round order (heard_end (λ _ _. 0) (sends messages round a m)) k) e
    ∙ heard_at messages round order (heard_end (λ _ _. 0) x) (end_of x) (λ j. omega arith) k

origin_same : (messages : ℕ → List Message) (sg : ℕ) (order : List Sender) (round k : ℕ)
    → cable_origin (λ _ _. 0) (λ _. 0) messages sg order round k ≡ schedule.origin messages sg (λ _. order) round
origin_same messages sg order zero k = refl
origin_same messages sg order (suc round) k =
    ap (λ n. n + sg) (heard_at messages round order (cable_origin (λ _ _. 0) (λ _. 0) messages sg order round) (schedule.origin messages sg (λ _. order) round) (origin_same messages sg order round) k)

rounds_same : (messages : ℕ → List Message) (sg : ℕ) (order : List Sender) (n : ℕ)
    → cable_rounds (λ _ _. 0) (λ _. 0) messages sg order n ≡ schedule.gap_schedule messages sg (λ _. order) n
rounds_same messages sg order zero = refl
rounds_same messages sg order (suc n) =
    ap (λ l. l ++ cable_turns (λ _ _. 0) messages n order (cable_origin (λ _ _. 0) (λ _. 0) messages sg order n)) (rounds_same messages sg order n)
    ∙ ap (λ l. schedule.gap_schedule messages sg (λ _. order) n ++ l)
    (turns_same messages n order (cable_origin (λ _ _. 0) (λ _. 0) messages sg order n) (schedule.origin messages sg (λ _. order) n) (origin_same messages sg order n))

pub no_delay_is_closed : NoDelayIsClosed
no_delay_is_closed table hands mode =
    rounds_same (messages_of hands) table.sg (turn_order table) (rounds hands)
    ∙ ap (λ m. schedule_in m table (messages_of hands) (rounds hands)) (sym mode)
