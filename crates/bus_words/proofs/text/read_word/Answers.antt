use Rattle.std.proofs.Common.{Err, ap, ◌∙◌}
use Rattle.bus_words.specs.declared.word.WordError.TheVariants.{Shape}
use Rattle.bus_words.specs.WordTexts.{read_word}
use Rattle.bus_words.proofs.WordTextLaws.{read_word-word_text}
use Rattle.bus_words.proofs.FormLemmas.{reads_framed, reads_unformed, is_found, is_cause}
use Rattle.bus_words.proofs.text.read_word.Goals as goal

pub returns-in-Some-clause-exact : goal.returns-in-Some-clause-exact
returns-in-Some-clause-exact c = c.unframe.ensures.value ∙ reads_framed c.args.text.now c.in-Some.framed c.in-Some.ensures

pub returns-in-Some-clause-found : goal.returns-in-Some-clause-found
returns-in-Some-clause-found c = is_found c.args.text.now c.unframe.result (c.unframe.ensures.value ∙ reads_framed c.args.text.now c.in-Some.framed c.in-Some.ensures)

pub returns-in-Some-clause-only : goal.returns-in-Some-clause-only
returns-in-Some-clause-only c = λ word small h. c.unframe.ensures.value ∙ reads_framed c.args.text.now c.in-Some.framed c.in-Some.ensures ∙ ap read_word h ∙ read_word-word_text word small

pub returns-in-Some-clause-cause : goal.returns-in-Some-clause-cause
returns-in-Some-clause-cause c = is_cause c.args.text.now c.unframe.result (c.unframe.ensures.value ∙ reads_framed c.args.text.now c.in-Some.framed c.in-Some.ensures)

pub returns-in-None-clause-only : goal.returns-in-None-clause-only
returns-in-None-clause-only c = λ word small h. ap (λ n. Err (Shape n)) c.kept.ensures ∙ reads_unformed c.args.text.now c.in-None.ensures ∙ ap read_word h ∙ read_word-word_text word small

pub returns-in-None-clause-cause : goal.returns-in-None-clause-cause
returns-in-None-clause-cause c = is_cause c.args.text.now (Err (Shape c.kept.result)) (ap (λ n. Err (Shape n)) c.kept.ensures ∙ reads_unformed c.args.text.now c.in-None.ensures)
