use Rattle.std.proofs.Common.{ap, sym, ◌∙◌, ◌≡◌, ◌+◌, ◌==◌, false, cond}
use Rattle.std.specs.Prelude.{◌||◌, not}
use Rattle.std.specs.List.{list_any}
use Rattle.bus_regime.specs.Gaps.{gaps, has_width}
use Rattle.bus_regime.specs.Verdicts.{synchronizes}
use Rattle.bus_regime.proofs.Counting.{alone_wide}
use Rattle.bus_regime.proofs.periodic.lacks_sync.Goals as goal

pub returns-then-not-has_sync : goal.returns-then-not-has_sync
returns-then-not-has_sync c =
    let one : c.one_if.result ≡ cond (has_width c.args.table.now.sg c.args.gap.now) 1 0 =
    c.one_if.ensures ∙ ap (λ b. cond b 1 0) c.has_width.ensures ∙ ap (λ n. cond (has_width n c.args.gap.now) 1 0) c.sg-sg.ensures.value in
    let own : has_width (c.args.table.now.sg + c.args.gap.now.sender.tg) c.args.gap.now ≡ false =
    ap (λ n. has_width (n + c.args.gap.now.sender.tg) c.args.gap.now) (sym c.sg-sg.ensures.value) ∙ sym c.has_sync.ensures ∙ c.if-not-has_sync.true in
    ap (λ n. c.args.wide == n) one
    ∙ alone_wide c.args.table.now c.args.gap.now c.args.wide c.sg-sg.ensures.valid c.requires.among c.requires.wide
    ∙ ap (λ b. not (b || list_any (synchronizes c.args.table.now.sg c.args.gap.now.sender.number) (gaps c.args.table.now))) (sym own)
