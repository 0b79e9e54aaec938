use Rattle.std.proofs.Common.{arith, rules, ◌≡◌, ◌≤◌, ◌<◌, ◌^◌, length}
use Rattle.std.proofs.lemmas.List.{length-take}
use Rattle.bus_strings.proofs.KeptLemmas.{all_take}
use Rattle.bus_strings.specs.inside.Kept.{most_short}
use Rattle.bus_strings.proofs.wordstring.Wordstring.short.Goals as goal

pub invariant_of-result : goal.invariant_of-result
invariant_of-result c = (
  (let long : length c.args.words ≡ most_short = search rules in long),
  (let few : c.args.count ≤ most_short = search rules in few),
  record {
    label = omega (arith, c.value.ensures);
    ext = omega (arith, c.value-2.ensures);
    few = omega (arith, length-take c.args.count c.args.words, c.ranges.count);
    words = all_take (λ word. word < 2 ^ 16) c.args.count c.args.words c.are_words.ensures;
  },
)
