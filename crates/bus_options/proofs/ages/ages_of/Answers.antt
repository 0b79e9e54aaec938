use Rattle.std.specs.Prelude.{◌++◌, [], slice_index_or}
use Rattle.std.specs.Option.{option_to_list}
use Rattle.std.proofs.Common.{arith, ap, ◌∙◌}
use Rattle.std.proofs.lemmas.List.{length-map}
use Rattle.bus_options.specs.Ages.{age_at}
use Rattle.bus_options.specs.Words.{words_of}
use Rattle.bus_options.proofs.AgeLemmas.{age_adds}
use Rattle.bus_options.proofs.ages.ages_of.Goals as goal

pub loop-place-preserved : goal.loop-place-preserved
loop-place-preserved c =
    age_adds (words_of c.args.words.now) c.loop-place.place c.loop-place.ages.items c.put.new.ages.items _ (grind (arith, length-map))
    (c.in_ok-put.ensures
    ∙ ap (λ age. c.loop-place.ages.items ++ option_to_list age) (c.age_at-age.ensures
    ∙ ap (λ word. age_at word c.word_at-in-loop-place.result.now) c.word_at.ensures
    ∙ ap (age_at (slice_index_or (words_of c.args.words.now) c.loop-place.place [])) c.word_at-in-loop-place.ensures))
    c.loop-place.invariant
