use Rattle.std.proofs.Common.{arith, ℕ, ◌==◌, [], take, ap, sym, ◌∙◌, Some}
use Rattle.std.specs.List.{list_any}
use Rattle.bus_table.specs.Whole.{sender_numbers}
use Rattle.bus_table.proofs.WholeLemmas.{goes_on, stops, at_map, take_map_any, count_map}
use Rattle.bus_table.proofs.whole.sender_again.Goals as goal

pub returns-then-has_sender : goal.returns-then-has_sender
returns-then-has_sender c =
    let senders = c.args.senders.now in
    let number = c.index-senders-k.result.number in
    let found = take_map_any (λ s. s.number) (λ n. n == number) c.loop-k.k senders ∙ ap (λ (n : ℕ). list_any (λ s. s.number == n) (take c.loop-k.k senders)) (sym c.number.ensures.value) ∙ sym c.if-has_sender.ensures in
    ap Some c.number-then-has_sender.ensures.value
    ∙ stops (λ n m. n == m) [] (sender_numbers senders) c.loop-k.k number _ (omega (arith, count_map (λ s. s.number) senders)) (at_map (λ s. s.number) senders c.loop-k.k c.index-senders-k.result c.index-senders-k.is) found c.loop-k.invariant

pub loop-k-preserved : goal.loop-k-preserved
loop-k-preserved c =
    let senders = c.args.senders.now in
    let number = c.index-senders-k.result.number in
    let none = take_map_any (λ s. s.number) (λ n. n == number) c.loop-k.k senders ∙ ap (λ (n : ℕ). list_any (λ s. s.number == n) (take c.loop-k.k senders)) (sym c.number.ensures.value) ∙ sym c.if-has_sender.ensures in
    goes_on (λ n m. n == m) [] (sender_numbers senders) c.loop-k.k number _ (omega (arith, count_map (λ s. s.number) senders)) (at_map (λ s. s.number) senders c.loop-k.k c.index-senders-k.result c.index-senders-k.is) none c.loop-k.invariant
