-- The terminals of a valid table: no number stands twice, and there are no more of them than a table may have.
use Rattle.std.proofs.Common.{arith, ◌≡◌, ◌≤◌, true, ◌==◌, nat_eq, IsTrue, List, [], ◌∷◌}
use Rattle.std.proofs.Common.{length, None, refl, length-append, ◌∙◌}
use Rattle.std.specs.List.{list_all}
use Rattle.std.proofs.lemmas.Bool.{and_parts, and_from}
use Rattle.std.proofs.lemmas.List.{length-map}
use Rattle.std.proofs.lemmas.List.Folds.{list_all-append}
use Rattle.bus_table.specs.declared.error.WholeReason.TheVariants.{NumberTwice}
use Rattle.bus_table.specs.Tables.{Sender, Listener, Table}
use Rattle.bus_table.specs.Ranges.{is_number, is_listener}
use Rattle.bus_table.specs.Whole.{first_again, numbers, sender_numbers, listener_numbers}
use Rattle.bus_table.specs.Valid.{is_valid}
use Rattle.bus_table.proofs.ValidLaws.{map_none, all_distinct}
use Rattle.bus_table.proofs.PartLaws.{parts_of}
use Rattle.bus_table.proofs.FewNumbers.{few_numbers, senders_right}

-- no number stands twice
pub once : (table : Table) → IsTrue (is_valid table) → first_again (λ y z. y == z) [] (numbers table) ≡ None
once table h = map_none NumberTwice (first_again (λ y z. y == z) [] (numbers table)) (parts_of table h).once

-- each number is one that a terminal may have
listeners_right : (listeners : List Listener) → list_all is_listener listeners ≡ true → list_all is_number (listener_numbers listeners) ≡ true
listeners_right [] h = refl
listeners_right (l ∷ listeners) h =
    let p = and_parts (is_listener l) _ h in
    and_from (is_number l.number) _ (and_parts (is_number l.number) _ p.0).0 (listeners_right listeners p.1)

numbers_right : (table : Table) → IsTrue (is_valid table) → list_all is_number (numbers table) ≡ true
numbers_right table h =
    let p = parts_of table h in
    list_all-append is_number (sender_numbers table.senders) (listener_numbers table.listeners)
    ∙ and_from _ _ (senders_right table.senders p.senders) (listeners_right table.listeners p.listeners)

-- no more terminals than numbers, of either kind
pub few_terminals : (table : Table) → IsTrue (is_valid table) → (length table.senders ≤ 128) × (length table.listeners ≤ 128)
few_terminals table h =
    let all = few_numbers (numbers table) (numbers_right table h) (all_distinct nat_eq [] (numbers table) (once table h)).0 in
    let l = length-append (sender_numbers table.senders) (listener_numbers table.listeners) in
    let s = length-map table.senders (λ (s : Sender). s.number) in
    let r = length-map table.listeners (λ (x : Listener). x.number) in
    (omega (arith, all, l, s, r), omega (arith, all, l, s, r))
