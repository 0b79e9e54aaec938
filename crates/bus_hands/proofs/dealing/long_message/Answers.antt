use Rattle.std.proofs.Common.{arith, ap, ◌∙◌, drop, length}
use Rattle.std.proofs.lemmas.List.{nil_from_length, length-drop}
use Rattle.std.specs.Vec.Iter.{into_iter_items}
use Rattle.bus_strings.specs.Items.{numbers}
use Rattle.bus_table.proofs.FitLemmas.{shape_over, all_made, line_count, some_of}
use Rattle.bus_hands.proofs.dealing.long_message.Goals as goal

pub unwrap-requires-2 : goal.unwrap-requires-2
unwrap-requires-2 c =
    let left = ap numbers (nil_from_length (into_iter_items c.loop-words.words-iterator) (omega (arith, c.in-None.ensures.steps.0, c.loop-words.words-iterator.rest.ok))) in
    let over = ap length (shape_over (drop c.loop-words.k c.args.sends.now) _ left c.loop-words.invariant.shape) in
    let count = line_count c.args.sends.now c.requires.lines in
    c.new-2.ensures.some.1 (omega (arith, over, count, length-drop c.loop-words.k c.args.sends.now, c.loop-words.wordstrings.ok.0, c.loop-words.invariant.count), omega (arith, count, c.loop-words.wordstrings.ok.0, c.loop-words.invariant.count, c.loop-words.invariant.within))

pub returns : goal.returns
returns c =
    let left = ap numbers (nil_from_length (into_iter_items c.loop-words.words-iterator) (omega (arith, c.in-None.ensures.steps.0, c.loop-words.words-iterator.rest.ok))) in
    let all = all_made (drop c.loop-words.k c.args.sends.now) c.loop-words.wordstrings.items _ _ left c.loop-words.invariant.shape c.loop-words.invariant.made in
    some_of c.new-2.result c.unwrap-2.result c.loop-words.wordstrings.items c.unwrap-2.ensures c.new-2.ensures.value ∙ all
