use Rattle.std.proofs.Common.{List, ℕ, ◌++◌, ap, subst}
use Rattle.bus_outer.specs.Texts.{Adds}
use Rattle.bus_outer.proofs.TextLaws.{◌▸◌}
use Rattle.bus_vote.specs.VoteTexts.{label_line}
use Rattle.bus_vote.proofs.PutLemmas.{rounds_put}
use Rattle.bus_vote.proofs.writing.put_voted.Goals as goal

pub returns : goal.returns
returns g c =
    subst (λ (t : List ℕ). Adds g.K.Sink.held g.K.Sink.faults c.args.sink.now c.put_all_rounds.new.sink c.args.text.now c.put_all_rounds.new.text t)
    (ap (λ t. label_line c.args.voted.now ++ t) (rounds_put c.args.list.now c.args.voted.now))
    (c.put_label_line.ensures ▸ c.put_all_rounds.ensures)
