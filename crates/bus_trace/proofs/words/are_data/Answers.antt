use Rattle.std.proofs.Common.{◌∙◌}
use Rattle.bus_words.specs.declared.word.Kind.TheVariants.{Plain}
use Rattle.bus_trace.specs.WordFields.{is_spelled}
use Rattle.bus_trace.proofs.WordLists.{list_all-texts}
use Rattle.bus_trace.proofs.words.are_data.Goals as goal

pub returns : goal.returns
returns c = c.each_is_data.ensures ∙ list_all-texts (is_spelled Plain) c.args.fields.now
