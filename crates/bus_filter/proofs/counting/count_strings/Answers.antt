use Rattle.std.proofs.Common.{arith, take, ap, sym, ◌∙◌, ◌++◌, ◌∷◌, []}
use Rattle.std.proofs.lemmas.List.{take_more}
use Rattle.bus_filter.specs.inside.Putting.{string_count}
use Rattle.bus_filter.proofs.CountLemmas.{counted_more}
use Rattle.bus_filter.proofs.counting.count_strings.Goals as goal

pub loop-string-preserved : goal.loop-string-preserved
loop-string-preserved c =
    let m = counted_more (string_count c.args.takes.now) (take c.loop-string.string-index c.args.strings.now) _ c.string-item.result
    (take_more c.args.strings.now c.loop-string.string-index c.string-item.result c.loop-string-test.true
    ∙ ap (λ s. take c.loop-string.string-index c.args.strings.now ++ s ∷ []) (sym c.string-item.is)) in
    record {
      counted = omega (arith, m, c.loop-string.invariant.counted, c.count_string-lines.ensures.count);
      bound = omega (arith, c.loop-string.invariant.bound, c.count_string-lines.ensures.bound, c.requires.takes);
    }
