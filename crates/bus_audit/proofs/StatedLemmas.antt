-- A trace without a breach is what the senders of a valid table do with the hands that it states.
use Rattle.std.proofs.Common.{◌≡◌, ℕ, zero, suc, ◌-◌, Bool, true, eqb, List, [], ◌∷◌, length, map, take, replicate, inl, inr, sym, refl, ap, ◌∙◌, subst, eq-eqb, eqb-true}
use Rattle.std.specs.Prelude.{IsTrue}
use Rattle.std.specs.List.{list_all}
use Rattle.bus_strings.specs.Members.{In}
use Rattle.bus_strings.proofs.MemberLaws.{in_append_cases, from_map, from_filter}
use Rattle.bus_strings.specs.Messages.{Entry, Message}
use Rattle.bus_table.specs.declared.mode.Mode.{Mode}
use Rattle.bus_table.specs.Tables.{Sender, Table, Hand}
use Rattle.bus_table.specs.inside.Facts.{SenderFacts, TableFacts}
use Rattle.bus_table.specs.Filling.{filling_message}
use Rattle.bus_table.specs.Fits.{fits, sender_of}
use Rattle.bus_table.specs.Hands.{are_hands}
use Rattle.bus_table.specs.Ranges.{is_sender}
use Rattle.bus_table.proofs.ValidLaws.{valid_facts}
use Rattle.bus_table.proofs.TurnLaws.{of_each}
use Rattle.bus_trace.specs.Traces.{Recording}
use Rattle.bus_audit.specs.Breaches.{held}
use Rattle.bus_audit.specs.Meaning.{messages_of, filled, hand_of, hands_of, IsFitting, IsRight, NoBreachIsRight}
use Rattle.bus_audit.specs.Observed.{StatesHands, LawfulIsObserved}
use Rattle.bus_medium.proofs.Seats.{same_some}
use Rattle.bus_audit.proofs.Silence.{Seated, sender_is_of}
use Rattle.bus_audit.proofs.Going.{seated}
use Rattle.bus_audit.proofs.Meanings.{filled_length}

-- ---- lists
all_true : {X : Type 0} (p : X → Bool) → (xs : List X) → ((x : X) → In x xs → p x ≡ true) → list_all p xs ≡ true
all_true p [] h = refl
all_true p (x ∷ xs) h = rw (h x (inl refl)) (all_true p xs (λ y i. h y (inr i)))

in_take : {X : Type 0} → (c : ℕ) (xs : List X) (x : X) → In x (take c xs) → In x xs
in_take zero xs x i = absurd i
in_take (suc c) [] x i = absurd i
in_take (suc c) (y ∷ xs) x (inl same) = inl same
in_take (suc c) (y ∷ xs) x (inr i) = inr (in_take c xs x i)

in_replicate : {X : Type 0} → (c : ℕ) (y x : X) → In x (replicate c y) → x ≡ y
in_replicate zero y x i = absurd i
in_replicate (suc c) y x (inl same) = same
in_replicate (suc c) y x (inr i) = in_replicate c y x i

-- where some messages fit and so does the one that fills up, all do
filled_fits : (s : Sender) (c : ℕ) (ms : List Message) (m : Message) → ((n : Message) → In n ms → fits s n ≡ true) → fits s m ≡ true
    → list_all (fits s) (filled c ms m) ≡ true
filled_fits s c ms m each fill = all_true (fits s) (filled c ms m) (λ n i. elim (in_append_cases (take c ms) (replicate (c - length ms) m) n i) [
  | inl sent ↦ each n (in_take c ms n sent)
  | inr behind ↦ ap (fits s) (in_replicate (c - length ms) m n behind) ∙ fill
])

-- ---- the messages of a sender
sent_fits : (table : Table) (trace : Recording) (s : Sender) → Seated table → IsRight table trace → In s table.senders
    → (m : Message) → In m (messages_of trace.list s.number) → fits s m ≡ true
sent_fits table trace s seats right there m i =
    let p = from_map (λ (x : Entry). x.message) _ m i in
    let x : Entry = p.0 in
    let k = from_filter (λ (y : Entry). eqb y.terminal s.number) trace.list x p.1 in
    let f : IsFitting table x = right.fitting x k.0 in
    let number : x.terminal ≡ s.number = eqb-true x.terminal s.number k.1 in
    let same : f.sender ≡ s = same_some f.sender s (sym f.there ∙ ap (sender_of table.senders) number ∙ sender_is_of table.senders s seats.apart there) in
    subst (λ v. fits s v ≡ true) p.2 (subst (λ r. fits r x.message ≡ true) same f.fit)

-- ---- the hands
hands_fit : (mode : Mode) (trace : Recording) (ss : List Sender) → ((s : Sender) → In s ss → list_all (fits s) (hand_of mode trace s).messages ≡ true)
    → are_hands ss (map (hand_of mode trace) ss) ≡ true
hands_fit mode trace [] h = refl
hands_fit mode trace (s ∷ ss) h = rw (eq-eqb s.number s.number refl, h s (inl refl)) (hands_fit mode trace ss (λ r i. h r (inr i)))

states_own : (table : Table) (trace : Recording) → StatesHands (hands_of table trace) trace
states_own table trace hand i =
    let p = from_map (hand_of table.mode trace) table.senders hand i in
    let s : Sender = p.0 in
    subst (λ (h : Hand). held trace.holds h.terminal ≡ length h.messages) p.2
    (sym (filled_length (held trace.holds s.number) (messages_of trace.list s.number) (filling_message table.mode s)))

pub lawful_is_observed : NoBreachIsRight → ((mode : Mode) (sender : Sender) → IsTrue (is_sender sender) → IsTrue (fits sender (filling_message mode sender)))
    → LawfulIsObserved
lawful_is_observed law fill table trace valid t clean =
    let right : IsRight table trace = (law table trace valid t).0 clean in
    let facts : TableFacts table = valid_facts table valid in
    record {
      fitting = hands_fit table.mode trace table.senders (λ s i.
          filled_fits s (held trace.holds s.number) (messages_of trace.list s.number) (filling_message table.mode s)
          (sent_fits table trace s (seated table valid) right i)
          (fill table.mode s (of_each (SenderFacts table) table.senders facts.senders s i).in_range));
      stated = states_own table trace;
      lawful = right.lawful;
    }
