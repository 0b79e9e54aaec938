use Rattle.std.proofs.Common.{◌<◌, length, ap, ◌∙◌, arith}
use Rattle.std.proofs.lemmas.Option.{slice_get_within}
use Rattle.bus_strings.specs.Messages.{Entry}
use Rattle.bus_vote.proofs.WalkLemmas.{other_next}
use Rattle.bus_vote.proofs.cursor.next_place.Goals as goal

pub loop-at-preserved : goal.loop-at-preserved
loop-at-preserved c =
    let x = c.index-list-at.result in
    c.loop-at.invariant
    ∙ other_next c.args.terminal c.args.list.now c.loop-at.at x c.loop-at-test.true c.index-list-at.is
    (λ same. c.if-x-terminal.false (ap (λ (e : Entry). e.terminal) c.x.view_is ∙ same))

pub returns-clause-own : goal.returns-clause-own
returns-clause-own c = λ x there.
    let within : c.max.result < length c.args.list.now = slice_get_within c.args.list.now c.max.result x there in
    absurd (omega arith)
