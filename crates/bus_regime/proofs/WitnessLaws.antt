-- Laws of the witness of a valid table: its items fit, and give each sender two filling messages.
use Rattle.std.specs.Prelude.{◌≡◌, ◌≢◌, ℕ, ◌+◌, true, ◌==◌, List, [], ◌∷◌, ◌++◌, map}
use Rattle.std.specs.Prelude.{Some, cond, Ok, IsOk}
use Rattle.std.specs.List.{AllByRecursion}
use Rattle.std.proofs.Common.{inl, inr, sym, refl, ap, ◌∙◌, subst}
use Rattle.std.proofs.lemmas.Bool.{eq-eqb, ne_eqb}
use Rattle.std.proofs.lemmas.List.Elements.{filter-append}
use Rattle.bus_strings.specs.Items.{Item, IsItem}
use Rattle.bus_strings.proofs.MemberLaws.{of_each, from_map, in_append_cases}
use Rattle.bus_strings.specs.Members.{In}
use Rattle.bus_table.specs.declared.mode.Mode.{Mode}
use Rattle.bus_table.specs.inside.Facts.{SenderFacts, TableFacts}
use Rattle.bus_table.specs.Filling.{filling_strings, filling_item, filling_message}
use Rattle.bus_table.proofs.FillingLaws.{filling_shape, filling_is_item, each_send_line}
use Rattle.bus_table.specs.Fits.{sender_of, shape_fit, item_fit, fit_from, items_fit}
use Rattle.bus_table.specs.Hands.{message_of, items_of, hand_of}
use Rattle.bus_table.specs.Ranges.{is_sender}
use Rattle.bus_table.specs.Tables.{Sender, Table}
use Rattle.bus_table.proofs.TurnLaws.{numbers_differ}
use Rattle.bus_table.specs.inside.Orders.{Differ}
use Rattle.bus_regime.specs.Witness.{filling_round, witness_of}

-- a sender is found by its number
pub found : (senders : List Sender) (sender : Sender) → Differ (λ s. s.number) senders → In sender senders
    → sender_of senders sender.number ≡ Some sender
found [] sender d i = absurd i
found (s ∷ senders) sender d (inl same) =
    ap (λ b. cond b (Some s) (sender_of senders sender.number)) (eq-eqb s.number sender.number (ap (λ (x : Sender). x.number) (sym same)))
    ∙ ap Some (sym same)
found (s ∷ senders) sender d (inr i) =
    ap (λ b. cond b (Some s) (sender_of senders sender.number)) (ne_eqb s.number sender.number (d.0 sender i)) ∙ found senders sender d.1 i

-- items of these senders' filling messages
abbrev AreFillings : Table → List Item → Type 0
AreFillings table items =
    (item : Item) → In item items → (sender : Sender) × In sender table.senders × (filling_item table.mode sender ≡ item)

are_fillings : (table : Table) → AreFillings table (witness_of table)
are_fillings table item i =
    elim (in_append_cases (filling_round table) (filling_round table) item i) [
      | inl first ↦ from_map (filling_item table.mode) table.senders item first
      | inr second ↦ from_map (filling_item table.mode) table.senders item second
    ]

in_range : (table : Table) (sender : Sender) → TableFacts table → In sender table.senders → is_sender sender ≡ true
in_range table sender facts i = (of_each (SenderFacts table) table.senders facts.senders sender i).in_range

one_fits : (table : Table) (k : ℕ) (sender : Sender) → TableFacts table → In sender table.senders
    → item_fit k table.senders (filling_item table.mode sender) ≡ Ok tt
one_fits table k sender facts i =
    let shape = filling_shape table.mode sender.sends (each_send_line sender (in_range table sender facts i)) in
    ap (λ o. shape_fit k o (filling_strings table.mode sender.sends)) (found table.senders sender (numbers_differ table facts) i)
    ∙ rw shape refl

all_fit : (table : Table) (k : ℕ) (items : List Item) → TableFacts table → AreFillings table items → fit_from k table.senders items ≡ Ok tt
all_fit table k [] facts h = refl
all_fit table k (item ∷ items) facts h =
    let own = h item (inl refl) in
    let now : item_fit k table.senders item ≡ Ok tt = ap (item_fit k table.senders) (sym own.2) ∙ one_fits table k own.0 facts own.1 in
    rw now (all_fit table (k + 1) items facts (λ x i. h x (inr i)))

-- each item of the witness fits
pub witness_fits : (table : Table) → TableFacts table → IsOk (items_fit table (witness_of table))
witness_fits table facts = subst IsOk (sym (all_fit table 1 (witness_of table) facts (are_fillings table))) refl

none_of_others : (mode : Mode) (number : ℕ) (senders : List Sender) → ((sender : Sender) → In sender senders → sender.number ≢ number)
    → items_of number (map (filling_item mode) senders) ≡ []
none_of_others mode number [] h = refl
none_of_others mode number (s ∷ senders) h =
    ap (λ b. cond b (filling_item mode s ∷ items_of number (map (filling_item mode) senders))
    (items_of number (map (filling_item mode) senders)))
    (ne_eqb s.number number (h s (inl refl)))
    ∙ none_of_others mode number senders (λ x i. h x (inr i))

one_of_round : (mode : Mode) (senders : List Sender) (sender : Sender) → Differ (λ s. s.number) senders → In sender senders
    → items_of sender.number (map (filling_item mode) senders) ≡ filling_item mode sender ∷ []
one_of_round mode [] sender d i = absurd i
one_of_round mode (s ∷ senders) sender d (inl same) =
    let rest = items_of sender.number (map (filling_item mode) senders) in
    ap (λ b. cond b (filling_item mode s ∷ rest) rest) (eq-eqb s.number sender.number (ap (λ (x : Sender). x.number) (sym same)))
    ∙ ap (λ l. filling_item mode s ∷ l)
    (none_of_others mode sender.number senders (λ x i e. d.0 x i (ap (λ (y : Sender). y.number) (sym same) ∙ sym e)))
    ∙ ap (λ x. filling_item mode x ∷ []) (sym same)
one_of_round mode (s ∷ senders) sender d (inr i) =
    let rest = items_of sender.number (map (filling_item mode) senders) in
    ap (λ b. cond b (filling_item mode s ∷ rest) rest) (ne_eqb s.number sender.number (d.0 sender i))
    ∙ one_of_round mode senders sender d.1 i

-- each sender has two items
pub witness_items : (table : Table) (sender : Sender) → TableFacts table → In sender table.senders
    → items_of sender.number (witness_of table) ≡ filling_item table.mode sender ∷ (filling_item table.mode sender ∷ [])
witness_items table sender facts i =
    let one = one_of_round table.mode table.senders sender (numbers_differ table facts) i in
    filter-append (λ (item : Item). item.terminal == sender.number) (filling_round table) (filling_round table)
    ∙ ap (λ l. l ++ items_of sender.number (filling_round table)) one
    ∙ ap (λ l. filling_item table.mode sender ∷ l) one

-- and its hand has two filling messages
pub witness_hand : (table : Table) (sender : Sender) → TableFacts table → In sender table.senders
    → (hand_of (witness_of table) sender).messages ≡ filling_message table.mode sender ∷ (filling_message table.mode sender ∷ [])
witness_hand table sender facts i =
    ap (map (λ (item : Item). message_of sender.sends item.strings)) (witness_items table sender facts i)

each_is_item : (mode : Mode) (senders : List Sender) → ((sender : Sender) → In sender senders → is_sender sender ≡ true)
    → AllByRecursion IsItem (map (filling_item mode) senders)
each_is_item mode [] h = tt
each_is_item mode (s ∷ senders) h = (filling_is_item mode s (h s (inl refl)), each_is_item mode senders (λ x i. h x (inr i)))

both_parts : (xs ys : List Item) → AllByRecursion IsItem xs → AllByRecursion IsItem ys → AllByRecursion IsItem (xs ++ ys)
both_parts [] ys h k = k
both_parts (x ∷ xs) ys h k = (h.0, both_parts xs ys h.1 k)

-- its items are in the ranges of a messages text
pub witness_is_items : (table : Table) → TableFacts table → AllByRecursion IsItem (witness_of table)
witness_is_items table facts =
    let round = each_is_item table.mode table.senders (λ sender i. in_range table sender facts i) in
    both_parts (filling_round table) (filling_round table) round round
