use Rattle.std.proofs.Common.{◌≡◌, List, true, ◌++◌, map}
use Rattle.std.specs.List.{list_all}
use Rattle.std.specs.Vec.Iter.{into_iter_items}
use Rattle.bus_strings.specs.Items.{Item}
use Rattle.bus_table.specs.Hands.{hand_of}
use Rattle.bus_table.specs.inside.Fitting.{is_fit}
use Rattle.bus_hands.proofs.dealing.hands.Given as goal

abbrev pub invariant-loop-item : goal.invariant-loop-item
invariant-loop-item l = (done : List Item)
    × (done ++ into_iter_items l.item-iterator ≡ l.fn.payloads)
    × (list_all (is_fit l.senders) (into_iter_items l.item-iterator) ≡ true)
    × (l.hands.items ≡ map (hand_of done) l.senders)
