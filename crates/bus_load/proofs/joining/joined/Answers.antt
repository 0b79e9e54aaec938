use Rattle.std.proofs.Common.{◌≡◌, ℕ, ◌+◌, ◌<◌, ◌≤◌, ◌||◌, List, length, get_or, arith, sym, ap, ◌∙◌}
use Rattle.std.specs.List.Sorted.{IsNonDecreasingBy}
use Rattle.std.proofs.lemmas.Grind.{common_steps}
use Rattle.std.proofs.lemmas.List.Elements.{All-weaker}
use Rattle.std.proofs.lemmas.List.Folds.{list_any_more}
use Rattle.bus_load.specs.Loads.{Stretch, has}
use Rattle.bus_load.proofs.joining.joined.Goals as goal

order_next : (ss : List Stretch) (i : ℕ) (d e : Stretch) → IsNonDecreasingBy (λ (s : Stretch). s.from) ss → i + 1 < length ss
    → (get_or ss i e).from ≤ (get_or ss (i + 1) d).from
order_next ss i d e order l = let same : get_or ss i e ≡ get_or ss i d = grind (arith, common_steps) in
    omega (arith, order i (i + 1) d (omega arith) l, ap (λ (s : Stretch). s.from) same)

pub loop-stretch-preserved : goal.loop-stretch-preserved
loop-stretch-preserved c =
    let ss = c.args.stretches.now in
    let i = c.loop-stretch.stretch-index in
    let one : Stretch = get_or ss i (record { from = 0; to = 0 }) in
    let begun = c.loop-stretch.invariant.begun (record { from = 0; to = 0 }) (omega arith) in
    record {
      apart = c.in_ok-add.ensures.apart begun c.loop-stretch.invariant.apart;
      within = λ t.
          c.in_ok-add.ensures.within t ∙ ap (λ b. b || has t one) (c.loop-stretch.invariant.within t)
          ∙ sym (list_any_more (has t) ss i (record { from = 0; to = 0 }) (omega arith));
      begun = λ d l.
          All-weaker (λ (s : Stretch). s.from ≤ one.from) (λ (s : Stretch). s.from ≤ (get_or ss (i + 1) d).from)
          (λ s h. omega (arith, h, order_next ss i d (record { from = 0; to = 0 }) c.requires.order l)) c.add.new.stretches.items (c.in_ok-add.ensures.begun begun);
    }
