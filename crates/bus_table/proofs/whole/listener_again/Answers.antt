use Rattle.std.proofs.Common.{arith, ℕ, ◌==◌, ◌++◌, take, ap, sym, ◌∙◌, Some}
use Rattle.std.specs.List.{list_any}
use Rattle.bus_table.specs.Whole.{sender_numbers, listener_numbers}
use Rattle.bus_table.proofs.WholeLemmas.{goes_on, stops, at_map, taken_numbers, count_map}
use Rattle.bus_table.proofs.whole.listener_again.Goals as goal

pub returns-then-has_number : goal.returns-then-has_number
returns-then-has_number c =
    let before = sender_numbers c.args.senders.now in
    let listeners = c.args.listeners.now in
    let number = c.index-listeners-k.result.number in
    let found = taken_numbers before listeners c.loop-k.k number ∙ ap (λ (n : ℕ). list_any (λ m. m == n) (before ++ listener_numbers (take c.loop-k.k listeners))) (sym c.number.ensures.value) ∙ sym c.if-has_number.ensures in
    ap Some c.number-then-has_number.ensures.value
    ∙ stops (λ n m. n == m) before (listener_numbers listeners) c.loop-k.k number _ (omega (arith, count_map (λ l. l.number) listeners)) (at_map (λ l. l.number) listeners c.loop-k.k c.index-listeners-k.result c.index-listeners-k.is) found c.loop-k.invariant

pub loop-k-preserved : goal.loop-k-preserved
loop-k-preserved c =
    let before = sender_numbers c.args.senders.now in
    let listeners = c.args.listeners.now in
    let number = c.index-listeners-k.result.number in
    let none = taken_numbers before listeners c.loop-k.k number ∙ ap (λ (n : ℕ). list_any (λ m. m == n) (before ++ listener_numbers (take c.loop-k.k listeners))) (sym c.number.ensures.value) ∙ sym c.if-has_number.ensures in
    goes_on (λ n m. n == m) before (listener_numbers listeners) c.loop-k.k number _ (omega (arith, count_map (λ l. l.number) listeners)) (at_map (λ l. l.number) listeners c.loop-k.k c.index-listeners-k.result c.index-listeners-k.is) none c.loop-k.invariant
