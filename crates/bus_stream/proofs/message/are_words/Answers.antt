use Rattle.std.proofs.Common.{◌&&◌, ap, sym, ◌∙◌}
use Rattle.bus_text.specs.Entries.{texts}
use Rattle.bus_words.specs.WordTexts.{form, is_of}
use Rattle.bus_trace.proofs.WordLists.{list_all-texts}
use Rattle.bus_stream.proofs.WordLemmas.{words_are}
use Rattle.bus_stream.proofs.message.are_words.Goals as goal

pub returns-then-label : goal.returns-then-label
returns-then-label c =
    ap (λ b. b && c.each_is_word-others.result) (sym c.if-label.true)
    ∙ words_are c.args.fields.now c.is_label-label.result c.each_is_word-others.result c.field_at.result.now (texts c.fields_from.result.now) c.requires
    c.is_label-label.ensures c.field_at.ensures (c.each_is_word-others.ensures ∙ list_all-texts (is_of form) c.fields_from.result.now) c.fields_from.ensures
