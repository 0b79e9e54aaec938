use Rattle.std.proofs.Common.{sym, subst}
use Rattle.bus_watch.specs.declared.state.State.{State}
use Rattle.bus_watch.specs.Standing.{IsState}
use Rattle.bus_watch.proofs.StateLemmas.{state_item}
use Rattle.bus_watch.proofs.state.State.take.Goals as goal

pub next-requires-clause-here : goal.next-requires-clause-here
next-requires-clause-here g c = (c.args.place, c.requires.here)

pub returns-clause-state : goal.returns-clause-state
returns-clause-state g c =
    let table = c.args.setting.now.table.now in
    subst (λ (s : State). IsState table (record s { place = c.args.place })) (sym c.in_ok-next.ensures.next)
    (state_item c.args.setting.now.bounds table c.args.self.now c.args.item c.args.place c.requires.state c.requires.item c.requires.few c.requires.here)
