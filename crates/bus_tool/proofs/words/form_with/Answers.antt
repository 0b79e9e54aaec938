use Rattle.std.proofs.Common.{arith, ap, sym, ◌∙◌}
use Rattle.std.specs.Prelude.{take}
use Rattle.std.specs.String.{string_bytes}
use Rattle.bus_command.specs.Words.{words_of}
use Rattle.bus_tool.specs.Forms.{form_with, four_words, three_words}
use Rattle.bus_tool.proofs.FormLemmas.{with_four, with_others, with_three}
use Rattle.bus_tool.proofs.words.form_with.Goals as goal

-- src/words.rt:214:1
pub returns-in-3-clause-form : goal.returns-in-3-clause-form
returns-in-3-clause-form c =
    c.three_words.ensures.form ∙ ap (λ command. three_words command c.as_str-in-3-2.result.now c.args.options.now) c.as_str-in-3.ensures.value
    ∙ ap (λ third. three_words (string_bytes c.index-words-0-in-3.result) third c.args.options.now) c.as_str-in-3-2.ensures.value
    ∙ sym (ap (λ plain. form_with (take plain (words_of c.args.words.now)) c.args.options.now) c.in-3.is
    ∙ with_three c.args.words.now c.index-words-0-in-3.result c.index-words-2.result c.args.options.now (grind arith) c.index-words-0-in-3.is c.index-words-2.is)

-- src/words.rt:214:1
pub returns-in-4-clause-form : goal.returns-in-4-clause-form
returns-in-4-clause-form c =
    c.four_words.ensures.form ∙ ap (λ command. four_words command c.as_bytes-in-4.result.now c.args.options.now) c.as_str-in-4.ensures.value
    ∙ ap (λ fourth. four_words (string_bytes c.index-words-0-in-4.result) fourth c.args.options.now) c.as_bytes-in-4.ensures.value
    ∙ sym (ap (λ plain. form_with (take plain (words_of c.args.words.now)) c.args.options.now) c.in-4.is
    ∙ with_four c.args.words.now c.index-words-0-in-4.result c.index-words-3.result c.args.options.now (grind arith) c.index-words-0-in-4.is c.index-words-3.is)

-- src/words.rt:214:1
pub returns-in_default-clause-form : goal.returns-in_default-clause-form
returns-in_default-clause-form c = sym (with_others c.args.words.now c.args.plain c.args.options.now c.requires (grind arith) (grind arith) (grind arith))
