use Rattle.std.proofs.Common.{arith, ◌≡◌, ◌==◌, ◌≤◌, ℕ, ◌+◌, ◌-◌, Bool, false, ◌&&◌, List, sym, ap, ◌∙◌}
use Rattle.bus_gaps.specs.Gaps.{next_low}
use Rattle.bus_best.specs.Asked.{asked_from}
use Rattle.bus_best.specs.Blames.{all_wait, first_above, rule_behind}
use Rattle.bus_best.specs.declared.blame.Rule.{Rule}
use Rattle.bus_best.proofs.Steps.{above_step, waits_then}
use Rattle.bus_best.proofs.chain.asked.Goals as goal
use Rattle.bus_best.proofs.chain.asked.Goals.{then-waiting, else-waiting}

pub loop-place-preserved : goal.loop-place-preserved
loop-place-preserved c =
    let bounds = c.args.bounds in
    let sg : ℕ = c.args.sg in
    let alone : Bool = c.args.count == 1 in
    let n : ℕ = c.args.count - c.loop-place.place in
    let x : ℕ = c.least_gap-bits.result in
    let some : 1 ≤ n = (let t = c.loop-place-test.true in omega (arith, t)) in
    let small : x ≤ 256 = (let f = c.if-bits-gt-MOST_TG.false in omega (arith, f)) in
    let left : n - 1 ≡ c.args.count - (c.loop-place.place + 1) = omega arith in
    let rest : ℕ → ℕ → List ℕ = λ low m. asked_from c.args.bounds c.args.sg low m in
    let low = c.next_low-low.ensures.value in
    let same : rest c.next_low-low.result (c.args.count - (c.loop-place.place + 1)) ≡ rest (next_low c.args.bounds c.args.sg x) (n - 1) =
    ap (λ l. rest l (c.args.count - (c.loop-place.place + 1))) low ∙ ap (rest (next_low c.args.bounds c.args.sg x)) (sym left) in
    let behind = c.rule_behind-rule.ensures in
    record {
      above =
          ap (λ (r : Rule). first_above c.args.bounds c.args.sg (c.loop-place.place + 1) r (rest c.next_low-low.result (c.args.count - (c.loop-place.place + 1)))) behind
          ∙ ap (first_above c.args.bounds c.args.sg (c.loop-place.place + 1) (rule_behind c.args.bounds c.args.sg x)) same
          ∙ sym (above_step c.args.bounds c.args.sg c.loop-place.place c.loop-place.rule c.loop-place.low n x some c.least_gap-bits.ensures small)
          ∙ c.loop-place.invariant.above;
      waits = elim c.if-waiting.branch [
        | then-waiting w ↦
            ap (λ b. b && all_wait c.args.bounds c.args.sg alone (rest c.next_low-low.result (c.args.count - (c.loop-place.place + 1)))) w.waiting-is
            ∙ ap (λ l. w.waits-waiting.result && all_wait c.args.bounds c.args.sg alone l) same
            ∙ ap (λ b. b && (w.waits-waiting.result && all_wait c.args.bounds c.args.sg alone (rest (next_low c.args.bounds c.args.sg x) (n - 1)))) (sym w.if-waiting.true)
            ∙ sym (waits_then c.args.bounds c.args.sg alone c.loop-place.low n x c.loop-place.waiting w.waits-waiting.result some c.least_gap-bits.ensures w.waits-waiting.ensures)
            ∙ c.loop-place.invariant.waits
        | else-waiting w ↦
            (let over : Bool = all_wait c.args.bounds c.args.sg alone (rest c.next_low-low.result (c.args.count - (c.loop-place.place + 1))) in
            let before : Bool = all_wait c.args.bounds c.args.sg alone (rest c.loop-place.low n) in
            let one : (c.if-waiting.waiting && over) ≡ false = ap (λ b. b && over) (w.waiting-is ∙ w.if-waiting.false) in
            let two : (c.loop-place.waiting && before) ≡ false = ap (λ b. b && before) w.if-waiting.false in
            one ∙ sym two ∙ c.loop-place.invariant.waits)
      ];
      few = (let b = c.next_low-low.ensures.bound in omega (arith, b));
    }
