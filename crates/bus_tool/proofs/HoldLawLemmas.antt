-- Each hand of a valid table has one hold.
use Rattle.std.specs.Prelude.{◌≡◌, ◌≢◌, ℕ, zero, suc, ◌+◌, ◌<◌, ◌≤◌, true, false, ◌==◌, List, [], ◌∷◌, map, Option, Some, None, find}
use Rattle.std.specs.List.{filter_map, range_with_len, cons_option}
use Rattle.std.specs.Option.{option_map}
use Rattle.std.proofs.Common.{inl, inr, arith, refl, sym, ap, ◌∙◌, subst, cond}
use Rattle.std.proofs.lemmas.Bool.Decides.{nat_tests}
use Rattle.bus_strings.specs.Items.{Item}
use Rattle.bus_strings.specs.Members.{In}
use Rattle.bus_strings.proofs.MemberLaws.{from_given}
use Rattle.bus_table.specs.Tables.{Sender, Table, Hand}
use Rattle.bus_table.specs.Hands.{hand_of, hands_of}
use Rattle.bus_table.specs.inside.Facts.{SenderFacts, TableFacts}
use Rattle.bus_table.proofs.ValidLaws.{valid_facts}
use Rattle.bus_table.specs.inside.Orders.{Differ}
use Rattle.bus_table.proofs.TurnLaws.{of_each, numbers_differ}
use Rattle.bus_trace.specs.declared.hold.Hold.{Hold}
use Rattle.bus_hands.specs.Holds.{hand_hold, hand_holds}
use Rattle.bus_hands.specs.Holds.{hold_of_hand}
use Rattle.bus_tool.specs.TextLaws.{SendersHaveHolds}
use Rattle.bus_tool.proofs.HoldLemmas.{holds_ascend}

-- ---- what a list is mapped to, where there is something
in_kept : {X Y : Type 0} (h : X → Option Y) (xs : List X) (x : X) (y : Y) → In x xs → h x ≡ Some y → In y (filter_map h xs)
in_kept h [] x y i e = absurd i
in_kept h (z ∷ zs) x y (inl same) e = (let f : h z ≡ Some y = ap h (sym same) ∙ e in subst (λ o. In y (cons_option o (filter_map h zs))) (sym f) (inl refl))
in_kept h (z ∷ zs) x y (inr i) e = elim (h z) as (λ o. In y (cons_option o (filter_map h zs))) [ None ↦ in_kept h zs x y i e | Some w ↦ inr (in_kept h zs x y i e) ]

in_range : (n start count : ℕ) → start ≤ n → n < start + count → In n (range_with_len start count)
in_range n start zero low high = absurd (omega (arith, low, high))
in_range n start (suc count) low high =
    elim (n == start) as (λ b. (n == start) ≡ b → In n (range_with_len start (suc count))) [
      | true ↦ λ e. inl (grind (arith, nat_tests))
      | false ↦ λ e. (let apart : n ≢ start = grind (arith, nat_tests) in inr (in_range n (start + 1) count (omega (arith, apart)) (omega arith)))
    ] refl

-- ---- the hand of a terminal
-- what is found is a hand
found_in : (number : ℕ) (hands : List Hand) (hold : Hold) → hand_hold hands number ≡ Some hold → (hand : Hand) × In hand hands × (hold ≡ hold_of_hand hand)
found_in number [] hold e = absurd (cc)
found_in number (hand ∷ hands) hold e =
    elim (hand.terminal == number) as (λ b. option_map hold_of_hand (cond b (Some hand) (find (λ h. h.terminal == number) hands)) ≡ Some hold → (other : Hand) × In other (hand ∷ hands) × (hold ≡ hold_of_hand other)) [
      | true ↦ λ k. (hand, inl refl, (cc))
      | false ↦ λ k. (let w = found_in number hands hold k in (w.0, inr w.1, w.2))
    ] e

-- a hand is that of its sender
sender_of : (items : List Item) (senders : List Sender) (hand : Hand) → In hand (map (hand_of items) senders) → (sender : Sender) × In sender senders × (hand ≡ hand_of items sender)
sender_of items [] hand i = absurd i
sender_of items (sender ∷ senders) hand (inl same) = (sender, inl refl, same)
sender_of items (sender ∷ senders) hand (inr i) = (let w = sender_of items senders hand i in (w.0, inr w.1, w.2))

-- where numbers differ, each hand is found under its own
is_found : (items : List Item) (senders : List Sender) (sender : Sender) → Differ (λ s. s.number) senders → In sender senders → find (λ h. h.terminal == sender.number) (map (hand_of items) senders) ≡ Some (hand_of items sender)
is_found items [] sender d i = absurd i
is_found items (other ∷ senders) sender d (inl same) =
    let e : (other.number == sender.number) ≡ true = (let k : other.number ≡ sender.number = ap (λ (s : Sender). s.number) (sym same) in grind (arith, nat_tests)) in
    subst (λ b. cond b (Some (hand_of items other)) (find (λ h. h.terminal == sender.number) (map (hand_of items) senders)) ≡ Some (hand_of items sender)) (sym e) (ap (λ s. Some (hand_of items s)) (sym same))
is_found items (other ∷ senders) sender d (inr i) =
    let apart : other.number ≢ sender.number = d.0 sender i in
    let e : (other.number == sender.number) ≡ false = grind (arith, nat_tests, apart) in
    subst (λ b. cond b (Some (hand_of items other)) (find (λ h. h.terminal == sender.number) (map (hand_of items) senders)) ≡ Some (hand_of items sender)) (sym e) (is_found items senders sender d.1 i)

-- ---- the holds
each_hold : (table : Table) (items : List Item) → TableFacts table → (hand : Hand) → In hand (hands_of table items) → In (hold_of_hand hand) (hand_holds (hands_of table items))
unfolding hand_holds
each_hold table items facts hand i =
    let w = sender_of items table.senders hand i in
    let sender : Sender = w.0 in
    let number = of_each (SenderFacts table) table.senders facts.senders sender w.1 in
    let found : hand_hold (hands_of table items) sender.number ≡ Some (hold_of_hand hand) = ap (option_map hold_of_hand) (is_found items table.senders sender (numbers_differ table facts) w.1 ∙ ap Some (sym w.2)) in
    in_kept (hand_hold (hands_of table items)) (range_with_len 1 128) sender.number (hold_of_hand hand) (in_range sender.number 1 128 number.number_least (omega (arith, number.number_most))) found

only_holds : (hands : List Hand) (hold : Hold) → In hold (hand_holds hands) → (hand : Hand) × In hand hands × (hold ≡ hold_of_hand hand)
unfolding hand_holds
only_holds hands hold i = (let w = from_given (hand_hold hands) (range_with_len 1 128) hold i in found_in w.0 hands hold w.1)

pub senders_have_holds : SendersHaveHolds
senders_have_holds table items valid = record {
  each = each_hold table items (valid_facts table valid);
  only = only_holds (hands_of table items);
  rising = holds_ascend (hands_of table items);
}
