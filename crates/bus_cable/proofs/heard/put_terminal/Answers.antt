use Rattle.std.proofs.Common.{List, ℕ, ◌++◌, codes, ap, subst}
use Rattle.std.specs.Prelude.{decimal}
use Rattle.bus_outer.specs.Texts.{Adds}
use Rattle.bus_outer.proofs.TextLaws.{◌▸◌}
use Rattle.bus_medium.specs.Delays.{cable}
use Rattle.bus_propagation.specs.Numbered.{numbered}
use Rattle.bus_cable.proofs.HearingLemmas.{put_is}
use Rattle.bus_cable.proofs.heard.put_terminal.Goals as goal

pub returns : goal.returns
returns g c =
    let e = ap (λ t. codes "TERMINAL " ++ decimal c.args.number ++ codes "\n" ++ t) (put_is (cable (numbered c.args.places.now)) c.args.list.now c.args.number) in
    subst (λ (t : List ℕ). Adds g.K.Sink.held g.K.Sink.faults c.args.sink.now c.put_hearings.new.sink c.args.text.now c.put_hearings.new.text t) e
    (c.put.ensures ▸ c.put_number.ensures ▸ c.put_byte.ensures ▸ c.put_hearings.ensures)
