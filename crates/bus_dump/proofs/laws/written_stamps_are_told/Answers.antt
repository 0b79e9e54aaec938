use Rattle.std.proofs.Common.{subst}
use Rattle.bus_regime.specs.declared.table_verdict.TableVerdict.{TableVerdict}
use Rattle.bus_regime.specs.Lines.{verdict_words}
use Rattle.bus_regime.specs.Verdicts.{verdict_of}
use Rattle.bus_trace.specs.Runs.{HasNoFeed}
use Rattle.bus_dump.proofs.StampLemmas.{stamps_told}
use Rattle.bus_dump.proofs.laws.written_stamps_are_told.Goals as goal

pub returns : goal.returns
returns c dump window breach trace valid is sound =
    stamps_told dump window breach (verdict_words (verdict_of c.args.table.now)) c.args.table.now trace valid is sound
    (subst (λ (v : TableVerdict). HasNoFeed (verdict_words v)) c.verdict.ensures c.holds_no_feed.ensures)
