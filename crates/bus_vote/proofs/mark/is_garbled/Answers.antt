use Rattle.std.proofs.Common.{◌≡◌, ap, ◌∙◌}
use Rattle.std.proofs.lemmas.Bool.{lt-ltb, le-ltb}
use Rattle.bus_strings.specs.Messages.{Entry}
use Rattle.bus_strings.specs.Transmissions.{end_of}
use Rattle.bus_vote.proofs.WalkLemmas.{garbled_before, garbled_behind}
use Rattle.bus_vote.proofs.mark.is_garbled.Goals as goal

pub returns-then-x-reach : goal.returns-then-x-reach
returns-then-x-reach c =
    let x = c.index-list-at.result in
    let moment : c.x.inside.moment ≡ x.moment = ap (λ (e : Entry). e.moment) c.x.view_is in
    garbled_before c.args.list.now c.args.at x c.args.reach c.x.inside.moment c.neighbours_tell.ensures.neighbours c.requires.sent c.requires.within
    c.index-list-at.is c.requires.reach moment (lt-ltb c.x.inside.moment c.args.reach c.if-x-reach.true)

pub returns-else-x-reach : goal.returns-else-x-reach
returns-else-x-reach c =
    let x = c.index-list-at.result in
    let moment : c.x.inside.moment ≡ x.moment = ap (λ (e : Entry). e.moment) c.x.view_is in
    let end : c.end.result ≡ end_of x = c.end.ensures.value in
    c.next_begins.ensures
    ∙ garbled_behind c.args.list.now c.args.at x c.args.reach c.x.inside.moment c.end.result c.neighbours_tell.ensures.neighbours c.requires.sent c.requires.within
    c.index-list-at.is c.requires.reach moment end (le-ltb c.x.inside.moment c.args.reach c.if-x-reach.false)
