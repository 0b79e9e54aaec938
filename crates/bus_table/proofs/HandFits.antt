-- The hands of items that fit have messages that fit.
use Rattle.std.proofs.Common.{arith, ◌≡◌, ℕ, zero, suc, ◌<◌, Bool, true, false, cond, ◌==◌, nat_eq, List, [], ◌∷◌, length, map, get_or, Some, refl, sym, ap, ◌∙◌}
use Rattle.std.specs.Prelude.{IsOk}
use Rattle.std.specs.Option.{option_map_or}
use Rattle.std.specs.List.{list_all, find, IsDistinct, AllByRecursion}
use Rattle.std.proofs.lemmas.Bool.{and_parts, eqb-true, eq-eqb, and_from}
use Rattle.std.proofs.lemmas.List.Elements.{All-from_get_or, recursion_from_All}
use Rattle.bus_strings.specs.Items.{Item}
use Rattle.bus_table.specs.Fits.{allows, matches, fits, has_shape, items_fit}
use Rattle.bus_table.specs.Hands.{message_of, items_of, hand_of, hands_of, are_hands}
use Rattle.bus_table.specs.Tables.{SendLine, Sender, Table}
use Rattle.bus_table.specs.Valid.{is_valid}
use Rattle.bus_table.proofs.ValidLaws.{valid_facts}
use Rattle.bus_table.specs.inside.Fitting.{is_fit}
use Rattle.bus_table.proofs.HandLemmas.{each_fits}

shape_matches : (sends : List SendLine) (strings : List (List ℕ)) → has_shape sends strings ≡ true → matches allows sends (message_of sends strings) ≡ true
shape_matches [] strings h = refl
shape_matches (line ∷ sends) [] h = absurd cc
shape_matches (line ∷ sends) (string ∷ strings) h =
    let p = and_parts (allows line (length string)) _ h in
    and_from _ _ (eq-eqb line.label line.label refl) (and_from _ _ (eq-eqb line.ext line.ext refl) (and_from _ _ p.0 (shape_matches sends strings p.1)))

own_shape : (senders : List Sender) (sender : Sender) (item : Item) → find (λ s. s.number == sender.number) senders ≡ Some sender → is_fit senders item ≡ true → item.terminal ≡ sender.number → has_shape sender.sends item.strings ≡ true
own_shape senders sender item found fit e =
    sym (ap (λ o. option_map_or (λ s. has_shape s.sends item.strings) o false) (ap (λ (n : ℕ). find (λ s. s.number == n) senders) e ∙ found)) ∙ fit

own_messages : (senders : List Sender) (sender : Sender) (items : List Item) → find (λ s. s.number == sender.number) senders ≡ Some sender → list_all (is_fit senders) items ≡ true
    → list_all (fits sender) (map (λ item. message_of sender.sends item.strings) (items_of sender.number items)) ≡ true
own_messages senders sender [] found fit = refl
own_messages senders sender (item ∷ items) found fit =
    let p = and_parts (is_fit senders item) _ fit in
    by_number (item.terminal == sender.number) (λ e. own_shape senders sender item found p.0 (eqb-true item.terminal sender.number e)) (own_messages senders sender items found p.1)
  where
    by_number : (t : Bool) → (t ≡ true → has_shape sender.sends item.strings ≡ true) → list_all (fits sender) (map (λ i. message_of sender.sends i.strings) (items_of sender.number items)) ≡ true
        → list_all (fits sender) (map (λ i. message_of sender.sends i.strings) (cond t (item ∷ items_of sender.number items) (items_of sender.number items))) ≡ true
    by_number true shape others = and_from _ _ (shape_matches sender.sends item.strings (shape refl)) others
    by_number false shape others = others

-- ---- each sender is found by its number
further : (n : ℕ) (senders : List Sender) (k : ℕ) (d : Sender) → AllByRecursion (λ m. nat_eq n m ≡ false) (map (λ s. s.number) senders) → k < length senders → nat_eq n (get_or senders k d).number ≡ false
further n [] k d all h = absurd (omega arith)
further n (s ∷ senders) zero d all h = all.0
further n (s ∷ senders) (suc k) d all h = further n senders k d all.1 (omega arith)

found_at_place : (senders : List Sender) (k : ℕ) (d : Sender) → IsDistinct nat_eq (map (λ s. s.number) senders) → k < length senders → find (λ s. s.number == (get_or senders k d).number) senders ≡ Some (get_or senders k d)
unfolding IsDistinct
found_at_place [] k d distinct h = absurd (omega arith)
found_at_place (s ∷ senders) zero d distinct h = ap (λ t. cond t (Some s) (find (λ x. x.number == s.number) senders)) (eq-eqb s.number s.number refl)
found_at_place (s ∷ senders) (suc k) d distinct h =
    ap (λ t. cond t (Some s) (find (λ x. x.number == (get_or senders k d).number) senders)) (further s.number senders k d distinct.0 (omega arith)) ∙ found_at_place senders k d distinct.1 (omega arith)

each_found : (senders : List Sender) → IsDistinct nat_eq (map (λ s. s.number) senders) → AllByRecursion (λ sender. find (λ s. s.number == sender.number) senders ≡ Some sender) senders
each_found [] distinct = tt
each_found (s ∷ senders) distinct =
    recursion_from_All _ (s ∷ senders) (All-from_get_or (λ sender. find (λ x. x.number == sender.number) (s ∷ senders) ≡ Some sender) (s ∷ senders) s (λ i h. found_at_place (s ∷ senders) i s distinct h))

hands_fit : (all senders : List Sender) (items : List Item) → list_all (is_fit all) items ≡ true → AllByRecursion (λ sender. find (λ s. s.number == sender.number) all ≡ Some sender) senders → are_hands senders (map (hand_of items) senders) ≡ true
hands_fit all [] items fit found = refl
hands_fit all (s ∷ senders) items fit found = and_from _ _ (eq-eqb s.number s.number refl) (and_from _ _ (own_messages all s items found.0 fit) (hands_fit all senders items fit found.1))

-- the hands of items that fit have messages that fit
pub hands_of_fit : (table : Table) (items : List Item) → is_valid table ≡ true → IsOk (items_fit table items) → are_hands table.senders (hands_of table items) ≡ true
hands_of_fit table items valid fit =
    hands_fit table.senders table.senders items (each_fits 1 table.senders items fit) (each_found table.senders (valid_facts table valid).numbers)
