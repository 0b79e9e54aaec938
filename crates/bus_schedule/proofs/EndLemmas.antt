-- When the rounds of a closed schedule end.
use Rattle.std.proofs.Common.{◌≡◌, ℕ, zero, suc, ◌+◌, ◌<◌, ◌≤◌, max, take, List, [], ◌∷◌, ◌++◌, length, get_or, arith, sym, refl, ap, ◌∙◌, subst, inl, inr}
use Rattle.std.specs.Prelude.{IsTrue}
use Rattle.std.specs.List.{sum_by}
use Rattle.std.proofs.lemmas.Bool.{cases_lt}
use Rattle.std.proofs.lemmas.List.Sums.{sum_by_more}
use Rattle.bus_strings.specs.Marking.{greatest_end}
use Rattle.bus_strings.specs.Messages.{Message, Entry, bits}
use Rattle.bus_strings.specs.Transmissions.{end_of}
use Rattle.bus_table.specs.declared.mode.Mode.TheVariants.{Aperiodic}
use Rattle.bus_table.specs.Tables.{Sender, Table, Hand}
use Rattle.bus_table.specs.Turns.{turn_key, turn_order}
use Rattle.bus_table.proofs.TurnLaws.{length-sort}
use Rattle.bus_table.specs.Valid.{is_valid}
use Rattle.bus_table.proofs.ValidLaws.{valid_facts}
use Rattle.bus_schedule.specs.Even.{messages_of, rounds}
use Rattle.bus_schedule.specs.Closed.{sends, turns, turns_end, origin, gap_schedule, schedule_in, closed, closed_end}
use Rattle.bus_schedule.proofs.Greatest.{max_low, max_within, greatest_append, greatest_cons, greatest_one}
use Rattle.bus_schedule.proofs.Spacing.{lengths, cycle_sum, cycle_sort, turns_end_cycle}

-- the terminal gap and the message of a sender's turn
abbrev pub turn_length : (ℕ → List Message) → ℕ → Sender → ℕ
turn_length hands round sender = sender.tg + bits (get_or (hands sender.number) round [])

-- the turns of one sender more
pub sum_more : (hands : ℕ → List Message) (round : ℕ) (senders : List Sender) (k sum gap span : ℕ) (sender : Sender) (message : Message)
    → k < length senders → sender ≡ get_or senders k sender → sum ≡ sum_by (turn_length hands round) (take k senders)
    → gap ≡ sender.tg → span ≡ bits message → message ≡ get_or (hands sender.number) round []
    → sum + (gap + span) ≡ sum_by (turn_length hands round) (take (k + 1) senders)
sum_more hands round senders k sum gap span sender message inside sender_is sum_is gap_is span_is message_is =
    let one : turn_length hands round sender ≡ turn_length hands round (get_or senders k sender) = ap (turn_length hands round) sender_is in
    let b : bits message ≡ bits (get_or (hands sender.number) round []) = ap bits message_is in
    omega (arith, sum_by_more (turn_length hands round) senders k sender inside)

pub turns_end_sum : (hands : ℕ → List Message) (round : ℕ) (table : Table) (from : ℕ)
    → turns_end hands round (turn_order table) from ≡ from + sum_by (turn_length hands round) table.senders
turns_end_sum hands round table from =
    let w = lengths hands round in
    turns_end_cycle hands round (turn_order table) from ∙ ap (λ n. from + n) (cycle_sort w (turn_key table.mode) table.senders ∙ sym (cycle_sum w table.senders))

pub turns_last : (hands : ℕ → List Message) (round : ℕ) (order : List Sender) (from : ℕ) → from ≤ turns_end hands round order from
turns_last hands round order from = omega (arith, turns_end_cycle hands round order from)

-- the last of a round's turns ends last
turns_greatest : (hands : ℕ → List Message) (round : ℕ) (sender : Sender) (order : List Sender) (from : ℕ)
    → greatest_end (turns hands round (sender ∷ order) from) ≡ turns_end hands round (sender ∷ order) from
turns_greatest hands round sender [] from = greatest_one (sends hands round sender (from + sender.tg))
turns_greatest hands round sender (next ∷ order) from =
    let now : ℕ = end_of (sends hands round sender (from + sender.tg)) in
    greatest_cons (sends hands round sender (from + sender.tg)) (turns hands round (next ∷ order) now)
    ∙ ap (λ n. max now n) (turns_greatest hands round next order now)
    ∙ max_low now (turns_end hands round (next ∷ order) now) (turns_last hands round (next ∷ order) now)

turns_most : (hands : ℕ → List Message) (round : ℕ) (order : List Sender) (from : ℕ)
    → greatest_end (turns hands round order from) ≤ turns_end hands round order from
turns_most hands round [] from = omega arith
turns_most hands round (sender ∷ order) from = omega (arith, turns_greatest hands round sender order from)

-- all rounds before the next one counts have ended
pub ends_before : (hands : ℕ → List Message) (sg : ℕ) (order : ℕ → List Sender) (round : ℕ)
    → greatest_end (gap_schedule hands sg order round) ≤ origin hands sg order round
ends_before hands sg order zero = omega arith
ends_before hands sg order (suc round) =
    let from : ℕ = origin hands sg order round in
    let so_far : List Entry = gap_schedule hands sg order round in
    omega (
      arith,
      greatest_append so_far (turns hands round (order round) from),
      both_most (greatest_end so_far) (greatest_end (turns hands round (order round) from)) (turns_end hands round (order round) from)
          (omega (arith, ends_before hands sg order round, turns_last hands round (order round) from))
          (turns_most hands round (order round) from),
    )
  where
    both_most : (a b c : ℕ) → a ≤ c → b ≤ c → max a b ≤ c
    both_most a b c h k = grind arith

-- a round of some senders ends with the last of its turns, one synchronization gap before the next
pub ends_at : (hands : ℕ → List Message) (sg : ℕ) (order : ℕ → List Sender) (round : ℕ) → 0 < length (order round)
    → greatest_end (gap_schedule hands sg order (suc round)) ≡ turns_end hands round (order round) (origin hands sg order round)
ends_at hands sg order round some = of_some (order round) some refl
  where
    of_some : (senders : List Sender) → 0 < length senders → order round ≡ senders
        → greatest_end (gap_schedule hands sg order (suc round)) ≡ turns_end hands round (order round) (origin hands sg order round)
    of_some [] more is = absurd (omega arith)
    of_some (sender ∷ senders) more is =
        let from : ℕ = origin hands sg order round in
        let so_far : ℕ = greatest_end (gap_schedule hands sg order round) in
        let last : greatest_end (turns hands round (order round) from) ≡ turns_end hands round (order round) from =
        subst (λ o. greatest_end (turns hands round o from) ≡ turns_end hands round o from) (sym is)
        (turns_greatest hands round sender senders from) in
        greatest_append (gap_schedule hands sg order round) (turns hands round (order round) from)
        ∙ ap (λ n. max so_far n) last
        ∙ max_low so_far (turns_end hands round (order round) from)
        (omega (arith, ends_before hands sg order round, turns_last hands round (order round) from))

-- no round ends behind the last
pub end_grows : (hands : ℕ → List Message) (sg : ℕ) (order : ℕ → List Sender) (round count : ℕ) → round < count
    → greatest_end (gap_schedule hands sg order (suc round)) ≤ greatest_end (gap_schedule hands sg order count)
end_grows hands sg order round zero less = absurd (omega arith)
end_grows hands sg order round (suc count) less =
    elim (cases_lt round count) [
      | inl before ↦
          let from : ℕ = origin hands sg order count in
          omega (
            arith,
            end_grows hands sg order round count before,
            greatest_append (gap_schedule hands sg order count) (turns hands count (order count) from),
            (max_within (greatest_end (gap_schedule hands sg order count)) (greatest_end (turns hands count (order count) from))).0,
          )
      | inr not ↦
          let same : round ≡ count = omega arith in
          let e : greatest_end (gap_schedule hands sg order (suc round)) ≡ greatest_end (gap_schedule hands sg order (suc count)) = ap (λ n. greatest_end (gap_schedule hands sg order (suc n))) same in
          omega arith
    ]

pub some_turn : (table : Table) → IsTrue (is_valid table) → 0 < length (turn_order table)
some_turn table valid =
    let facts = valid_facts table valid in
    omega (arith, length-sort (turn_key table.mode) table.senders, facts.some)

-- the closed schedule of an aperiodic table goes by gaps
pub closed_by_gaps : (table : Table) (hands : List Hand) → table.mode ≡ Aperiodic
    → closed table hands ≡ gap_schedule (messages_of hands) table.sg (λ round. turn_order table) (rounds hands)
closed_by_gaps table hands mode = ap (λ m. schedule_in m table (messages_of hands) (rounds hands)) mode

-- no round of a table ends behind the closed end
pub round_short : (table : Table) (hands : List Hand) (round from : ℕ) → IsTrue (is_valid table) → table.mode ≡ Aperiodic → round < rounds hands
    → from ≡ origin (messages_of hands) table.sg (λ round. turn_order table) round
    → turns_end (messages_of hands) round (turn_order table) from ≤ closed_end table hands
round_short table hands round from valid mode less from_is =
    let order : ℕ → List Sender = λ round. turn_order table in
    let end = ends_at (messages_of hands) table.sg (λ round. turn_order table) round (some_turn table valid) in
    let grows : greatest_end (gap_schedule (messages_of hands) table.sg (λ round. turn_order table) (suc round)) ≤ greatest_end (gap_schedule (messages_of hands) table.sg (λ round. turn_order table) (rounds hands)) = end_grows (messages_of hands) table.sg (λ round. turn_order table) round (rounds hands) less in
    let e : turns_end (messages_of hands) round (turn_order table) from ≡ turns_end (messages_of hands) round (turn_order table) (origin (messages_of hands) table.sg (λ round. turn_order table) round) = ap (turns_end (messages_of hands) round (turn_order table)) from_is in
    let whole : closed_end table hands ≡ greatest_end (gap_schedule (messages_of hands) table.sg (λ round. turn_order table) (rounds hands)) = ap greatest_end (closed_by_gaps table hands mode) in
    omega (arith, end)

-- one round more of the schedule
pub round_added : (hands : ℕ → List Message) (own order_sg : ℕ) (order : ℕ → List Sender) (round from end : ℕ) (list list' : List Entry)
    → list ≡ gap_schedule hands order_sg order round → from ≡ origin hands order_sg order round → own ≡ order_sg
    → list' ≡ list ++ turns hands round (order round) from → end ≡ turns_end hands round (order round) from
    → (list' ≡ gap_schedule hands order_sg order (round + 1)) × (end + own ≡ origin hands order_sg order (round + 1))
round_added hands own sg order round from end list list' list_is from_is own_is added end_is =
    let one : suc round ≡ round + 1 = omega arith in
    let last : end ≡ turns_end hands round (order round) (origin hands sg order round) = end_is ∙ ap (turns_end hands round (order round)) from_is in (
      added ∙ ap (λ n. list ++ turns hands round (order round) n) from_is ∙ ap (λ (l : List Entry). l ++ turns hands round (order round) (origin hands sg order round)) list_is ∙ ap (gap_schedule hands sg order) one,
      ap (λ e. e + own) last ∙ ap (λ g. turns_end hands round (order round) (origin hands sg order round) + g) own_is ∙ ap (origin hands sg order) one,
    )

-- one round more, by its length, which the order of the senders doesn't change
pub round_more : (table : Table) (hands : ℕ → List Message) (round from span end sg : ℕ) → IsTrue (is_valid table)
    → from ≡ origin hands table.sg (λ round. turn_order table) round → span ≡ sum_by (turn_length hands round) table.senders → sg ≡ table.sg
    → end ≡ from + span
    → (end + sg ≡ origin hands table.sg (λ round. turn_order table) (round + 1)) × (end ≡ greatest_end (gap_schedule hands table.sg (λ round. turn_order table) (round + 1)))
round_more table hands round from span end sg valid from_is span_is sg_is end_is =
    let order : ℕ → List Sender = λ round. turn_order table in
    let one : suc round ≡ round + 1 = omega arith in
    let last : end ≡ turns_end hands round (turn_order table) (origin hands table.sg (λ round. turn_order table) round) = omega (arith, turns_end_sum hands round table (origin hands table.sg (λ round. turn_order table) round)) in
    let so = ends_at hands table.sg (λ round. turn_order table) round (some_turn table valid) in (
      ap (λ e. e + sg) last ∙ ap (λ g. turns_end hands round (turn_order table) (origin hands table.sg order round) + g) sg_is ∙ ap (origin hands table.sg order) one,
      last ∙ sym so ∙ ap (λ n. greatest_end (gap_schedule hands table.sg order n)) one,
    )
