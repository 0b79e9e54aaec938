use Rattle.std.proofs.Common.{List, ◌++◌, Option, ap, sym, ◌∙◌}
use Rattle.std.specs.Option.{option_to_list}
use Rattle.bus_picture.specs.Faults.{Fault}
use Rattle.bus_picture.specs.inside.Marking.{marked_at}
use Rattle.bus_picture.proofs.FaultLemmas.{first_is, marked_more}
use Rattle.bus_picture.proofs.faults.first_marked.Goals as goal

pub returns-in-Some : goal.returns-in-Some
returns-in-Some c =
    sym (first_is c.args.scale.now c.args.list.now c.args.judgements.now c.loop-i.i c.in-Some.fault c.loop-i.invariant
    (sym c.marked_at.ensures ∙ c.in-Some.is))

pub loop-i-preserved : goal.loop-i-preserved
loop-i-preserved c =
    marked_more c.args.scale.now c.args.list.now c.args.judgements.now c.loop-i.i
    ∙ ap (λ (l : List Fault). l ++ option_to_list (marked_at c.args.scale.now c.args.list.now c.args.judgements.now c.loop-i.i)) c.loop-i.invariant
    ∙ ap (λ (o : Option Fault). option_to_list o) (sym c.marked_at.ensures ∙ c.in_default.is)
