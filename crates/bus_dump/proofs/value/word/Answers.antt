use Rattle.std.proofs.Common.{get_or, ap, ◌∙◌}
use Rattle.bus_dump.specs.inside.Walks.{with_word}
use Rattle.bus_dump.proofs.ValueLemmas.{no_seen, next_word}
use Rattle.bus_dump.proofs.value.word.Goals as goal

pub loop-one-preserved : goal.loop-one-preserved
loop-one-preserved c =
    c.with_word-value.ensures ∙ ap (λ v. with_word v (get_or c.args.seen.now c.loop-one.one-index no_seen)) c.loop-one.invariant
    ∙ next_word c.args.seen.now c.loop-one.one-index c.loop-one-test.true
