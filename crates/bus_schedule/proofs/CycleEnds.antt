-- An aperiodic closed schedule ends within as many longest cycles as it has rounds.
use Rattle.std.proofs.Common.{◌≡◌, ℕ, zero, suc, ◌+◌, ◌*◌, ◌<◌, ◌≤◌, List, arith, sym, ap, ◌∙◌, subst}
use Rattle.bus_strings.specs.Marking.{greatest_end}
use Rattle.bus_strings.specs.Members.{In}
use Rattle.bus_strings.specs.Messages.{Message}
use Rattle.bus_table.specs.Tables.{Sender}
use Rattle.bus_table.specs.Lengths.{longest}
use Rattle.bus_table.specs.Turns.{turn_key, turn_order}
use Rattle.bus_table.proofs.TurnLaws.{from_sort}
use Rattle.bus_regime.specs.Verdicts.{most_cycle}
use Rattle.bus_schedule.specs.Even.{messages_of, rounds}
use Rattle.bus_schedule.specs.Closed.{origin, gap_schedule, closed_end}
use Rattle.bus_schedule.specs.Laws.{ClosedEndsInCycles}
use Rattle.bus_schedule.proofs.EndLemmas.{ends_before, closed_by_gaps}
use Rattle.bus_schedule.proofs.Growing.{sendable}
use Rattle.bus_schedule.proofs.Places.{more_turns}
use Rattle.bus_schedule.proofs.RunLemmas.{setting_of}
use Rattle.bus_schedule.proofs.Spacing.{cycle, cycle_sum, cycle_sort, LeadsMore, lead_more, lengths, turns_end_cycle}

-- a round counts from no later than as many cycles as are before it, of messages that are at least as long
origin_most : (hands : ℕ → List Message) (sg : ℕ) (order : List Sender) (w : Sender → ℕ) (n : ℕ)
    → ((round : ℕ) (a : Sender) → round < n → In a order → lengths hands round a ≤ w a)
    → origin hands sg (λ round. order) n ≤ n * (sg + cycle w order)
origin_most hands sg order w zero h = omega arith
origin_most hands sg order w (suc n) h =
    let before : origin hands sg (λ round. order) n ≤ n * (sg + cycle w order) =
    origin_most hands sg order w n (λ round a less i. h round a (omega arith) i) in
    let more : LeadsMore (lengths hands n) w order 0 = lead_more (lengths hands n) w order 0 (λ a i. h n a (omega arith) i) in
    omega (arith, before, more.whole, turns_end_cycle hands n order (origin hands sg (λ round. order) n), more_turns n (sg + cycle w order))

pub closed_ends_in_cycles : ClosedEndsInCycles
closed_ends_in_cycles table hands valid mode even =
    let setting = setting_of table hands valid even in
    let low : greatest_end (gap_schedule (messages_of hands) table.sg (λ round. turn_order table) (rounds hands))
    ≤ origin (messages_of hands) table.sg (λ round. turn_order table) (rounds hands) =
    ends_before (messages_of hands) table.sg (λ round. turn_order table) (rounds hands) in
    let most : origin (messages_of hands) table.sg (λ round. turn_order table) (rounds hands)
    ≤ rounds hands * (table.sg + cycle longest (turn_order table)) =
    origin_most (messages_of hands) table.sg (turn_order table) longest (rounds hands)
    (λ round a less i. (sendable table (messages_of hands) (rounds hands) setting a round
    (from_sort (turn_key table.mode) table.senders a i) less).most) in
    let whole : closed_end table hands ≡ greatest_end (gap_schedule (messages_of hands) table.sg (λ round. turn_order table) (rounds hands)) =
    ap greatest_end (closed_by_gaps table hands mode) in
    let same : table.sg + cycle longest (turn_order table) ≡ most_cycle table =
    ap (λ c. table.sg + c) (cycle_sort longest (turn_key table.mode) table.senders ∙ sym (cycle_sum longest table.senders)) in
    subst (λ c. closed_end table hands ≤ rounds hands * c) same (omega (arith, low, most, whole))
