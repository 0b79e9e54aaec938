use Rattle.std.proofs.Common.{◌-◌, ◌<◌, ◌≤◌, get_or, arith, subst, sym, refl}
use Rattle.bus_load.specs.Loads.{AreApart}
use Rattle.bus_load.proofs.JoinLemmas.{apart_first, apart_longer, apart_more, within_longer}
use Rattle.bus_load.proofs.joining.add.Goals as goal
use Rattle.bus_load.proofs.joining.add.Goals.{then-count-gt0+else-last-more, else-last-more-via-then-last-more+else-more-last, else-last-more-via-else-last-more, else-count-gt0}

pub returns-then-more-last-clause-within : goal.returns-then-more-last-clause-within
returns-then-more-last-clause-within c =
    within_longer c.args.stretches.now.items (c.len-count.result - 1) c.index-last.result.now c.args.more _ (omega arith) c.index-last.ensures
    c.if-last-more.true c.if-more-last.true (let e = c.max.ensures in grind arith)

pub returns-then-more-last-clause-apart : goal.returns-then-more-last-clause-apart
returns-then-more-last-clause-apart c begun apart =
    apart_longer c.args.stretches.now.items (c.len-count.result - 1) c.index-last.result.now _ (omega arith) c.index-last.ensures
    refl (omega arith) apart

pub returns-clause-apart : goal.returns-clause-apart
returns-clause-apart c begun apart =
    let xs = c.args.stretches.now.items in
    subst AreApart (sym c.in_ok-push.ensures.items) (elim c.if-count-gt0.branch [
      | then-count-gt0+else-last-more w ↦
          let last = w.index-last.result.now in
          let n = c.len-count.result - 1 in
          elim w.else-last-more.branch [
            | else-last-more-via-then-last-more+else-more-last v ↦ apart_more xs n last c.args.more (omega arith) w.index-last.ensures v.if-more-last.false c.requires.some apart
            | else-last-more-via-else-last-more v ↦
                let low : (get_or xs n last).from ≤ c.args.more.from = begun n last (omega arith) in
                let high : c.args.more.from < last.from = v.if-last-more.false in
                absurd (omega (arith, subst (λ s. s.from ≤ c.args.more.from) (sym w.index-last.ensures) low))
          ]
      | else-count-gt0 w ↦ apart_first c.args.more xs (omega arith) c.requires.some
    ])
