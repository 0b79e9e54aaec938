use Rattle.bus_table.proofs.CanonicalLemmas.{canonical_is, canonical_again}
use Rattle.bus_outer.proofs.TextLaws.{ends_text}
use Rattle.bus_table.proofs.writing.write_table.Goals as goal

pub returns-clause-written : goal.returns-clause-written
returns-clause-written g c =
    ends_text g.K.Sink.held g.K.Sink.faults c.args.sink.now c.put_table.new.sink c.finish.new.sink c.new-text.result c.put_table.new.text c.finish.result _ c.finish.ensures
    c.put_table.ensures c.new-text.ensures

pub returns-clause-again : goal.returns-clause-again
returns-clause-again g c = canonical_is c.args.table.now c.mode-valid.ensures.valid

pub returns-clause-read : goal.returns-clause-read
returns-clause-read g c = canonical_again c.args.table.now c.mode-valid.ensures.valid
