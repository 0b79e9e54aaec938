-- When the rounds of a periodic table end: the order of the senders doesn't change it, and a round may end behind a later one.
use Rattle.std.proofs.Common.{◌≡◌, ℕ, zero, suc, ◌+◌, ◌*◌, ◌<◌, ◌≤◌, max, true, false, cond, take, drop, List, [], ◌∷◌, ◌++◌, length, get_or, inl, inr, arith, sym, refl, ap, ◌∙◌, append_assoc, append-nil}
use Rattle.std.specs.Prelude.{nat_lt}
use Rattle.std.proofs.lemmas.Bool.{cases_lt}
use Rattle.std.proofs.lemmas.List.{drop_all, take_more, map-append}
use Rattle.bus_strings.specs.Marking.{greatest_end}
use Rattle.bus_strings.specs.Messages.{Message, Entry, bits}
use Rattle.bus_strings.specs.Transmissions.{end_of}
use Rattle.bus_table.specs.declared.mode.Mode.TheVariants.{Periodic}
use Rattle.bus_table.specs.Tables.{Sender, Table, Hand}
use Rattle.bus_table.specs.Turns.{insert, sort, turn_key, turn_order}
use Rattle.bus_schedule.specs.Even.{messages_of, rounds}
use Rattle.bus_schedule.specs.Closed.{sends, offset_turns, offset_schedule, schedule_in, closed, closed_end}
use Rattle.bus_schedule.proofs.Greatest.{greatest_cons, greatest_append, greatest_one, max_within}

max_swap : (a b c : ℕ) → max b (max a c) ≡ max a (max b c)
max_swap a b c = grind arith

-- the end of a sender's turn
abbrev ends : (ℕ → List Message) → ℕ → ℕ → Sender → ℕ
ends messages round base sender = end_of (sends messages round sender (base + sender.at))

first_end : (messages : ℕ → List Message) (round base : ℕ) (a : Sender) (senders : List Sender)
    → greatest_end (offset_turns messages round (a ∷ senders) base) ≡ max (ends messages round base a) (greatest_end (offset_turns messages round senders base))
first_end messages round base a senders = greatest_cons (sends messages round a (base + a.at)) (offset_turns messages round senders base)

insert_end : (messages : ℕ → List Message) (round base : ℕ) (key : Sender → ℕ) (a : Sender) (senders : List Sender)
    → greatest_end (offset_turns messages round (insert key a senders) base) ≡ max (ends messages round base a) (greatest_end (offset_turns messages round senders base))
insert_end messages round base key a [] = first_end messages round base a []
insert_end messages round base key a (b ∷ senders) =
    elim (nat_lt (key a) (key b)) as (λ w. greatest_end (offset_turns messages round (cond w (a ∷ (b ∷ senders)) (b ∷ insert key a senders)) base) ≡ max (ends messages round base a) (greatest_end (offset_turns messages round (b ∷ senders) base))) [
      | true ↦ first_end messages round base a (b ∷ senders)
      | false ↦
          first_end messages round base b (insert key a senders)
          ∙ ap (λ n. max (ends messages round base b) n) (insert_end messages round base key a senders)
          ∙ max_swap (ends messages round base a) (ends messages round base b) (greatest_end (offset_turns messages round senders base))
          ∙ ap (λ n. max (ends messages round base a) n) (sym (first_end messages round base b senders))
    ]

sort_end : (messages : ℕ → List Message) (round base : ℕ) (key : Sender → ℕ) (senders : List Sender)
    → greatest_end (offset_turns messages round (sort key senders) base) ≡ greatest_end (offset_turns messages round senders base)
sort_end messages round base key [] = refl
sort_end messages round base key (a ∷ senders) =
    insert_end messages round base key a (sort key senders)
    ∙ ap (λ n. max (ends messages round base a) n) (sort_end messages round base key senders)
    ∙ sym (first_end messages round base a senders)

-- one round more, by its end in table order
pub interval_more : (table : Table) (messages : ℕ → List Message) (round base end last end' ti : ℕ) → base ≡ round * table.ti
    → end ≡ greatest_end (offset_schedule messages table.ti (turn_order table) round)
    → last ≡ greatest_end (offset_turns messages round table.senders base) → end' ≡ max end last → ti ≡ table.ti
    → (base + ti ≡ (round + 1) * table.ti) × (end' ≡ greatest_end (offset_schedule messages table.ti (turn_order table) (round + 1)))
interval_more table messages round base end last end' ti base_is end_is last_is more ti_is =
    let so_far : List Entry = offset_schedule messages table.ti (turn_order table) round in
    let one : suc round ≡ round + 1 = omega arith in
    let sorted : last ≡ greatest_end (offset_turns messages round (turn_order table) (round * table.ti)) =
    last_is ∙ ap (λ b. greatest_end (offset_turns messages round table.senders b)) base_is ∙ sym (sort_end messages round (round * table.ti) (turn_key table.mode) table.senders) in (
      next base round ti table.ti base_is ti_is,
      more ∙ ap (λ n. max n last) end_is ∙ ap (λ n. max (greatest_end so_far) n) sorted
          ∙ sym (greatest_append so_far (offset_turns messages round (turn_order table) (round * table.ti)))
          ∙ ap (λ n. greatest_end (offset_schedule messages table.ti (turn_order table) n)) one,
    )
  where
    next : (base round ti own : ℕ) → base ≡ round * own → ti ≡ own → base + ti ≡ (round + 1) * own
    next base round ti own e f = grind (arith, e, f)

-- the closed schedule of a periodic table goes by offsets
pub closed_by_offsets : (table : Table) (hands : List Hand) → table.mode ≡ Periodic
    → closed table hands ≡ offset_schedule (messages_of hands) table.ti (turn_order table) (rounds hands)
closed_by_offsets table hands mode = ap (λ m. schedule_in m table (messages_of hands) (rounds hands)) mode

-- one turn more of a round in table order
pub turn_end_more : (messages : ℕ → List Message) (round base : ℕ) (senders : List Sender) (k end end' at span : ℕ) (sender : Sender) (message : Message)
    → k < length senders → sender ≡ get_or senders k sender → end ≡ greatest_end (offset_turns messages round (take k senders) base)
    → at ≡ sender.at → span ≡ bits message → message ≡ get_or (messages sender.number) round [] → end' ≡ max end (base + at + span)
    → end' ≡ greatest_end (offset_turns messages round (take (k + 1) senders) base)
turn_end_more messages round base senders k end end' at span sender message inside sender_is end_is at_is span_is message_is more =
    let turn = λ (s : Sender). sends messages round s (base + s.at) in
    let one : take (k + 1) senders ≡ take k senders ++ sender ∷ [] = take_more senders k sender inside ∙ ap (λ s. take k senders ++ s ∷ []) (sym sender_is) in
    let b : bits message ≡ bits (get_or (messages sender.number) round []) = ap bits message_is in
    let here : base + at + span ≡ ends messages round base sender = omega arith in
    more ∙ ap (λ n. max n (base + at + span)) end_is
    ∙ ap (λ n. max (greatest_end (offset_turns messages round (take k senders) base)) n) (here ∙ sym (greatest_one (sends messages round sender (base + sender.at))))
    ∙ sym (greatest_append (offset_turns messages round (take k senders) base) (sends messages round sender (base + sender.at) ∷ []))
    ∙ ap greatest_end (sym (map-append turn (take k senders) (sender ∷ [])))
    ∙ ap (λ (ss : List Sender). greatest_end (offset_turns messages round ss base)) (sym one)

-- no round ends behind the closed end
round_grows : (messages : ℕ → List Message) (ti : ℕ) (order : List Sender) (round count : ℕ) → round < count
    → greatest_end (offset_turns messages round order (round * ti)) ≤ greatest_end (offset_schedule messages ti order count)
round_grows messages ti order round zero less = absurd (omega arith)
round_grows messages ti order round (suc count) less =
    let split = greatest_append (offset_schedule messages ti order count) (offset_turns messages count order (count * ti)) in
    let parts = max_within (greatest_end (offset_schedule messages ti order count)) (greatest_end (offset_turns messages count order (count * ti))) in
    elim (cases_lt round count) [
      | inl before ↦ omega (arith, split, parts.0, round_grows messages ti order round count before)
      | inr not ↦
          let same : round ≡ count = omega arith in
          let e : greatest_end (offset_turns messages round order (round * ti)) ≡ greatest_end (offset_turns messages count order (count * ti)) = ap (λ r. greatest_end (offset_turns messages r order (r * ti))) same in
          omega (arith, split, parts.1)
    ]

pub interval_short : (table : Table) (hands : List Hand) (round base : ℕ) → table.mode ≡ Periodic → round < rounds hands → base ≡ round * table.ti
    → greatest_end (offset_turns (messages_of hands) round (turn_order table) base) ≤ closed_end table hands
interval_short table hands round base mode less base_is =
    let grows = round_grows (messages_of hands) table.ti (turn_order table) round (rounds hands) less in
    let whole : closed_end table hands ≡ greatest_end (offset_schedule (messages_of hands) table.ti (turn_order table) (rounds hands)) = ap greatest_end (closed_by_offsets table hands mode) in
    let e : greatest_end (offset_turns (messages_of hands) round (turn_order table) base) ≡ greatest_end (offset_turns (messages_of hands) round (turn_order table) (round * table.ti)) = ap (λ b. greatest_end (offset_turns (messages_of hands) round (turn_order table) b)) base_is in
    omega arith

-- the interval of a round begins no later than its greatest end
pub interval_begun : (messages : ℕ → List Message) (round base : ℕ) (order : List Sender) → 0 < length order → base ≤ greatest_end (offset_turns messages round order base)
interval_begun messages round base [] some = absurd (omega arith)
interval_begun messages round base (a ∷ order) some =
    let parts = max_within (ends messages round base a) (greatest_end (offset_turns messages round order base)) in
    omega (arith, first_end messages round base a order, parts.0)

-- the next of them ends no later
pub next_ends : (messages : ℕ → List Message) (round base at last : ℕ) (left rest : List Sender) (sender : Sender) → left ≡ sender ∷ rest → at ≡ sender.at
    → greatest_end (offset_turns messages round left base) ≤ last → base + at ≤ last
next_ends messages round base at last left rest sender left_is at_is low =
    let e : greatest_end (offset_turns messages round left base) ≡ greatest_end (offset_turns messages round (sender ∷ rest) base) = ap (λ (ss : List Sender). greatest_end (offset_turns messages round ss base)) left_is in
    let parts = max_within (ends messages round base sender) (greatest_end (offset_turns messages round rest base)) in
    omega (arith, first_end messages round base sender rest, parts.0)

-- and with one turn more, and one less that is left
pub offset_turn_more : (messages : ℕ → List Message) (round base last : ℕ) (left rest : List Sender) (list whole list' : List Entry) (sender : Sender) (message : Message) (moment : ℕ)
    → (list ++ offset_turns messages round left base ≡ whole) × (greatest_end (offset_turns messages round left base) ≤ last) → left ≡ sender ∷ rest
    → message ≡ get_or (messages sender.number) round [] → moment ≡ base + sender.at
    → list' ≡ list ++ record { moment = moment; terminal = sender.number; message = message } ∷ []
    → (list' ++ offset_turns messages round rest base ≡ whole) × (greatest_end (offset_turns messages round rest base) ≤ last)
offset_turn_more messages round base last left rest list whole list' sender message moment so left_is message_is moment_is added =
    let x : Entry = sends messages round sender (base + sender.at) in
    let list_is : list' ≡ list ++ x ∷ [] = added ∙ ap (λ (m : Message). list ++ record { moment = moment; terminal = sender.number; message = m } ∷ []) message_is
    ∙ ap (λ n. list ++ record { moment = n; terminal = sender.number; message = get_or (messages sender.number) round [] } ∷ []) moment_is in
    let e : greatest_end (offset_turns messages round left base) ≡ greatest_end (offset_turns messages round (sender ∷ rest) base) = ap (λ (ss : List Sender). greatest_end (offset_turns messages round ss base)) left_is in
    let parts = max_within (ends messages round base sender) (greatest_end (offset_turns messages round rest base)) in
    let low : greatest_end (offset_turns messages round left base) ≤ last = so.1 in (
      ap (λ (l : List Entry). l ++ offset_turns messages round rest base) list_is ∙ append_assoc list (x ∷ []) (offset_turns messages round rest base)
          ∙ ap (λ (ss : List Sender). list ++ offset_turns messages round ss base) (sym left_is) ∙ so.0,
      omega (arith, first_end messages round base sender rest, parts.1),
    )

-- where none is left, it is the whole
pub none_left_at : (messages : ℕ → List Message) (round base i : ℕ) (order : List Sender) (list whole : List Entry) → length order ≤ i
    → list ++ offset_turns messages round (drop i order) base ≡ whole → list ≡ whole
none_left_at messages round base i order list whole all so =
    sym (append-nil list) ∙ ap (λ (ss : List Sender). list ++ offset_turns messages round ss base) (sym (drop_all i order all)) ∙ so

-- one round more of the schedule
pub interval_added : (messages : ℕ → List Message) (ti own : ℕ) (order : List Sender) (round base : ℕ) (list list' : List Entry)
    → list ≡ offset_schedule messages ti order round → base ≡ round * ti → own ≡ ti → list' ≡ list ++ offset_turns messages round order base
    → (list' ≡ offset_schedule messages ti order (round + 1)) × (base + own ≡ (round + 1) * ti)
interval_added messages ti own order round base list list' list_is base_is own_is added =
    let one : suc round ≡ round + 1 = omega arith in (
      added ∙ ap (λ b. list ++ offset_turns messages round order b) base_is ∙ ap (λ (l : List Entry). l ++ offset_turns messages round order (round * ti)) list_is
          ∙ ap (offset_schedule messages ti order) one,
      next base round own ti base_is own_is,
    )
  where
    next : (base round own ti : ℕ) → base ≡ round * ti → own ≡ ti → base + own ≡ (round + 1) * ti
    next base round own ti e f = grind (arith, e, f)
