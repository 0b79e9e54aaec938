use Rattle.std.proofs.Common.{◌≡◌, ℕ, Some, subst}
use Rattle.bus_medium.specs.Terminals.{Terminal, last_begun}
use Rattle.bus_medium.specs.MessageStretches.{IsStretch}
use Rattle.bus_medium.proofs.RunningLemmas.{stretch_is}
use Rattle.bus_medium.proofs.terminal.Terminal.stretch.Goals as goal

pub returns-in-Some : goal.returns-in-Some
returns-in-Some g c =
    let t = c.self.inside in
    subst (λ (v : Terminal _). (d : ℕ) × (v.running ≡ Some d) × IsStretch (last_begun v.hand v.sent) d c.in-Some.place.left) c.self.view_is
    (stretch_is t.hand t.sent t.running c.in-Some.place c.self.invariant c.in-Some.is)
