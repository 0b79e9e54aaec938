-- The last cycle bounds every cycle behind the first.
use Rattle.std.proofs.Common.{◌≡◌, ℕ, suc, ◌+◌, ◌<◌, ◌≤◌, Bool, true, false, cond, List, [], ◌∷◌, length, Some, None, arith, sym, refl, ap, ◌∙◌, subst, inl, inr}
use Rattle.std.specs.Prelude.{◌==◌, nat_lt, IfSome}
use Rattle.std.specs.List.{filter, sum_by}
use Rattle.std.proofs.lemmas.Bool.{and_parts, eqb-true, eq-eqb, lt-ltb, ltb-true}
use Rattle.bus_strings.specs.Members.{In}
use Rattle.bus_strings.proofs.MemberLaws.{from_filter}
use Rattle.bus_strings.specs.Messages.{Message}
use Rattle.bus_table.specs.Lengths.{shortest}
use Rattle.bus_table.specs.Tables.{Sender, Table, Hand}
use Rattle.bus_table.specs.Turns.{turn_order}
use Rattle.bus_regime.proofs.VerdictLaws.{accepted_cycle}
use Rattle.bus_schedule.specs.Even.{messages_of, rounds}
use Rattle.bus_schedule.specs.Laws.{EvenRoundsAreClosed}
use Rattle.bus_schedule.specs.Live.{live, live_rounds, shortest_cycle, AreLong}
use Rattle.bus_schedule.specs.Uneven.{count_of}
use Rattle.bus_dropout.specs.DropOut.{most_messages, last_senders, LastIsLong}
use Rattle.bus_dropout.specs.Laws.{EvenDropOutIsClosed, EvenHandsAreLong}
use Rattle.bus_dropout.proofs.Most.{count_most, most_even, count_even}
use Rattle.bus_dropout.proofs.Sums.{share, sum_filter, sum_more_taken, sum_in_turn}

-- a sender's terminal gap and shortest message
abbrev pub turn : Sender → ℕ
turn sender = sender.tg + shortest sender

-- whether a sender has the most messages
abbrev pub is_last : List Hand → Sender → Bool
is_last hands sender = count_of hands sender.number == most_messages hands

-- a sender of a round has a message left for it
some_live : (table : Table) (messages : ℕ → List Message) (round : ℕ) → 0 < length (live table messages round)
    → (sender : Sender) × (round < length (messages sender.number))
some_live table messages round some = first (live table messages round) some (λ s i.
    ltb-true round (length (messages s.number)) (from_filter (λ (s : Sender). nat_lt round (length (messages s.number))) (turn_order table) s i).1)
  where
    first : (senders : List Sender) → 0 < length senders → ((s : Sender) → In s senders → round < length (messages s.number))
        → (sender : Sender) × (round < length (messages sender.number))
    first [] k h = absurd (omega arith)
    first (s ∷ senders) k h = (s, h s (inl refl))

pub last_bounds : (table : Table) (hands : List Hand) → LastIsLong table hands → AreLong table (messages_of hands)
last_bounds table hands long round some =
    let w = some_live table (messages_of hands) (suc round) some in
    let most : count_of hands w.0.number ≤ most_messages hands = count_most hands w.0.number in
    let left : suc round < count_of hands w.0.number = w.1 in
    let two : nat_lt 1 (most_messages hands) ≡ true = lt-ltb 1 (most_messages hands) (omega arith) in
    let least : table.ti ≤ shortest_cycle table (last_senders table hands) =
    subst (λ b. IfSome (cond b (Some (shortest_cycle table (last_senders table hands))) None) (λ least. table.ti ≤ least)) two long in
    let all : sum_by turn (live table (messages_of hands) (suc round)) ≡ sum_by (share (λ (s : Sender). nat_lt (suc round) (count_of hands s.number)) turn) table.senders =
    sum_in_turn table (λ (s : Sender). nat_lt (suc round) (count_of hands s.number)) turn in
    let last : sum_by turn (last_senders table hands) ≡ sum_by (share (is_last hands) turn) table.senders =
    sum_filter (is_last hands) turn table.senders in
    let fewer = sum_more_taken (is_last hands) (λ (s : Sender). nat_lt (suc round) (count_of hands s.number)) turn table.senders
    (λ s i e.
    let k : count_of hands s.number ≡ most_messages hands = eqb-true (count_of hands s.number) (most_messages hands) e in
    lt-ltb (suc round) (count_of hands s.number) (omega arith)) in
    omega (arith, all, last, fewer)

pub even_dropout_is_closed : EvenRoundsAreClosed → EvenDropOutIsClosed
even_dropout_is_closed law table hands valid mode even =
    ap (live_rounds table (messages_of hands)) (most_even hands (and_parts _ _ even).1) ∙ law table hands valid mode even

pub even_hands_are_long : EvenHandsAreLong
even_hands_are_long table hands valid mode accepted even =
    let most : most_messages hands ≡ rounds hands = most_even hands (and_parts _ _ even).1 in
    let all : last_senders table hands ≡ table.senders = all_taken table.senders (λ s i.
    eq-eqb (count_of hands s.number) (most_messages hands) (count_even table hands s valid even i ∙ sym most)) in
    let long : table.ti ≤ shortest_cycle table (last_senders table hands) =
    subst (λ ss. table.ti ≤ shortest_cycle table ss) (sym all) (accepted_cycle table mode accepted) in
    by_count (nat_lt 1 (most_messages hands)) long
  where
    all_taken : (senders : List Sender) → ((s : Sender) → In s senders → (count_of hands s.number == most_messages hands) ≡ true)
        → filter (λ s. count_of hands s.number == most_messages hands) senders ≡ senders
    all_taken [] h = refl
    all_taken (s ∷ senders) h =
        let rest : List Sender = filter (λ s. count_of hands s.number == most_messages hands) senders in
        ap (λ b. cond b (s ∷ rest) rest) (h s (inl refl)) ∙ ap (λ l. s ∷ l) (all_taken senders (λ t i. h t (inr i)))

    by_count : (b : Bool) → table.ti ≤ shortest_cycle table (last_senders table hands)
        → IfSome (cond b (Some (shortest_cycle table (last_senders table hands))) None) (λ least. table.ti ≤ least)
    by_count true h = h
    by_count false h = tt
