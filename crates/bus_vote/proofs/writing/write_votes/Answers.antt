use Rattle.std.proofs.Common.{List, ℕ, subst}
use Rattle.bus_outer.specs.Texts.{Adds}
use Rattle.bus_outer.proofs.TextLaws.{◌▸◌, ends_text}
use Rattle.bus_vote.proofs.PutLemmas.{text_put}
use Rattle.bus_vote.proofs.writing.write_votes.Goals as goal

pub returns-clause-text : goal.returns-clause-text
returns-clause-text g c =
    ends_text g.K.Sink.held g.K.Sink.faults c.args.sink.now c.put-2.new.sink c.finish.new.sink c.new-text.result c.put-2.new.self c.finish.result _ c.finish.ensures
    (subst (λ (t : List ℕ). Adds g.K.Sink.held g.K.Sink.faults c.args.sink.now c.put-2.new.sink c.new-text.result c.put-2.new.self t)
    (text_put c.args.table.now c.args.trace.now.list c.list-list.result.now c.list-list.ensures.value)
    (c.put.ensures ▸ c.put_labels.ensures ▸ c.put-2.ensures)) c.new-text.ensures

pub returns-clause-runs : goal.returns-clause-runs
returns-clause-runs g c = c.runs_are_voted.ensures c.args.table.now c.args.trace.now.list c.table_is_valid.ensures
