use Rattle.bus_wave.proofs.QuickLemmas.{word_first, word_shorter}
use Rattle.bus_wave.proofs.symbol.first_symbol.Goals as goal

pub returns-in-Some-clause-line : goal.returns-in-Some-clause-line
returns-in-Some-clause-line c = word_first c.args.text.now c.in-Some.behind.now c.in-Some.word c.in-Some.ensures.range c.in-Some.ensures.line

pub returns-in-Some-clause-shorter : goal.returns-in-Some-clause-shorter
returns-in-Some-clause-shorter c = word_shorter c.args.text.now c.in-Some.behind.now c.in-Some.word c.in-Some.ensures.line
