use Rattle.std.proofs.Common.{arith, ℕ, ◌==◌, [], take, ap, sym, ◌∙◌, Some}
use Rattle.std.specs.List.{list_any}
use Rattle.std.specs.Option.{option_map}
use Rattle.bus_table.specs.declared.error.WholeReason.TheVariants.{GapTwice}
use Rattle.bus_table.proofs.WholeLemmas.{goes_on, stops}
use Rattle.bus_table.proofs.whole.gap_twice.Goals as goal

pub returns-then-has_gap : goal.returns-then-has_gap
returns-then-has_gap c =
    let found = ap (λ (tg : ℕ). list_any (λ s. s.tg == tg) (take c.loop-k.k c.args.senders.now)) (sym c.tg.ensures.value) ∙ sym c.if-has_gap.ensures in
    let first = stops (λ a b. a.tg == b.tg) [] c.args.senders.now c.loop-k.k c.index-senders-k.result _ (omega arith) c.index-senders-k.is found c.loop-k.invariant in
    ap (λ (n : ℕ). Some (GapTwice n)) c.number.ensures.value ∙ ap (option_map (λ s. GapTwice s.number)) first

pub loop-k-preserved : goal.loop-k-preserved
loop-k-preserved c =
    let none = ap (λ (tg : ℕ). list_any (λ s. s.tg == tg) (take c.loop-k.k c.args.senders.now)) (sym c.tg.ensures.value) ∙ sym c.if-has_gap.ensures in
    goes_on (λ a b. a.tg == b.tg) [] c.args.senders.now c.loop-k.k c.index-senders-k.result _ (omega arith) c.index-senders-k.is none c.loop-k.invariant
