use Rattle.std.proofs.Common.{subst}
use Rattle.bus_regime.specs.declared.table_verdict.TableVerdict.{TableVerdict}
use Rattle.bus_regime.specs.Lines.{verdict_words}
use Rattle.bus_regime.specs.Verdicts.{verdict_of}
use Rattle.bus_trace.specs.Runs.{HasNoFeed}
use Rattle.bus_dump.proofs.NothingLostLemmas.{nothing_lost}
use Rattle.bus_dump.proofs.laws.nothing_written_is_lost.Goals as goal

pub returns : goal.returns
returns c dump first second a b words valid left right whole other texts =
    nothing_lost dump first second (verdict_words (verdict_of c.args.table.now)) c.args.table.now a b words valid left right
    (subst (λ (v : TableVerdict). HasNoFeed (verdict_words v)) c.verdict.ensures c.holds_no_feed.ensures) whole other texts
