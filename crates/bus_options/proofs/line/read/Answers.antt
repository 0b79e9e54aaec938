use Rattle.std.specs.Prelude.{drop, ◌+◌}
use Rattle.std.specs.String.{string_bytes}
use Rattle.std.proofs.Common.{sym, ap, ◌∙◌}
use Rattle.bus_options.specs.Options as definition
use Rattle.bus_options.specs.Words.{words_of}
use Rattle.bus_options.proofs.PlaceLemmas.{from_place}
use Rattle.bus_options.proofs.ReadLemmas.{read_on, read_no_more}
use Rattle.bus_options.proofs.line.read.Goals as goal

pub returns-in-Err : goal.returns-in-Err
returns-in-Err c =
    read_no_more c.loop-place.reading c.in-Err.why c.loop-place.place (string_bytes c.index-words-place.result)
    (drop (c.loop-place.place + 1) (words_of c.args.words.now)) (drop c.loop-place.place (words_of c.args.words.now)) _
    (ap (definition.step c.loop-place.reading) (sym c.as_str.ensures.value) ∙ sym c.with.ensures ∙ c.in-Err.is)
    (from_place c.args.words.now c.loop-place.place c.index-words-place.result c.loop-place-test.true c.index-words-place.is)
    c.loop-place.invariant

pub loop-place-preserved : goal.loop-place-preserved
loop-place-preserved c =
    read_on c.loop-place.reading c.in-Ok.next c.loop-place.place (string_bytes c.index-words-place.result)
    (drop (c.loop-place.place + 1) (words_of c.args.words.now)) (drop c.loop-place.place (words_of c.args.words.now)) _
    (ap (definition.step c.loop-place.reading) (sym c.as_str.ensures.value) ∙ sym c.with.ensures ∙ c.in-Ok.is)
    (from_place c.args.words.now c.loop-place.place c.index-words-place.result c.loop-place-test.true c.index-words-place.is)
    c.loop-place.invariant
