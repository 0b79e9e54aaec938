use Rattle.std.proofs.Common.{◌≡◌, List, length, arith, subst, sym}
use Rattle.std.specs.List.{AllByRecursion}
use Rattle.bus_strings.specs.Messages.{Entry}
use Rattle.bus_strings.specs.Transmissions.{IsAscending}
use Rattle.bus_shapes.specs.Sending.{sents}
use Rattle.bus_shapes.proofs.SendingLaws.{as_many}
use Rattle.bus_cycles.specs.Sents.{is_shown}
use Rattle.bus_cycles.specs.inside.Bounds.{IsSent}
use Rattle.bus_cycles.proofs.SentLemmas.{each_sent, filtered, filtered_few}
use Rattle.bus_cycles.proofs.shown.Shown.new.Goals as goal

pub new-requires : goal.new-requires
new-requires c =
    let is = c.list-list.ensures.ranges in
    c.neighbours_tell.ensures.ascending c.list-list.result.now (subst IsAscending (sym c.list-list.ensures.value) is.order)

pub returns-clause-each : goal.returns-clause-each
returns-clause-each c =
    let is = c.list-list.ensures.ranges in
    let list : List Entry = c.list-list.result.now in
    let each : AllByRecursion IsSent (sents list) =
    subst (λ (l : List Entry). AllByRecursion IsSent (sents l)) (sym c.list-list.ensures.value) (each_sent c.args.trace.now.list c.args.trace.now.horizon is.horizon is.list) in
    filtered IsSent (is_shown c.args.window.now) c.new.result (subst (AllByRecursion IsSent) (sym c.new.ensures) each)

pub returns-clause-few : goal.returns-clause-few
returns-clause-few c =
    let many : length c.new.result ≡ length (sents c.list-list.result.now) = Rattle.std.proofs.Common.ap length c.new.ensures in
    omega (arith, many, as_many c.list-list.result.now, filtered_few (is_shown c.args.window.now) c.new.result)
