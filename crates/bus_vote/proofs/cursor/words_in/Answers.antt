use Rattle.std.proofs.Common.{sym, ◌∙◌}
use Rattle.bus_vote.specs.Rounds.{is_named}
use Rattle.bus_vote.proofs.RoundLemmas.{find_more, words_here}
use Rattle.bus_vote.proofs.cursor.words_in.Goals as goal

pub returns-then-is_named : goal.returns-then-is_named
returns-then-is_named c =
    words_here c.args.label c.args.ext c.args.message.now c.strings-strings.result.now c.loop-string.string-index c.string-item.result c.words.result.now
    c.strings-strings.ensures.value c.loop-string-test.true c.string-item.is c.loop-string.invariant (sym c.is_named.ensures ∙ c.if-is_named.true) c.words.ensures.value

pub loop-string-preserved : goal.loop-string-preserved
loop-string-preserved c =
    find_more (is_named c.args.label c.args.ext) c.strings-strings.result.now c.loop-string.string-index c.string-item.result
    c.loop-string-test.true c.string-item.is c.loop-string.invariant (sym c.is_named.ensures ∙ c.if-is_named.false)
