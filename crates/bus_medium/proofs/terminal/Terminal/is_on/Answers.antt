use Rattle.std.proofs.Common.{ap, ◌∙◌}
use Rattle.bus_medium.specs.Terminals.{sounds}
use Rattle.bus_medium.proofs.PlaceLemmas.{sounds_is}
use Rattle.bus_medium.proofs.terminal.Terminal.is_on.Goals as goal

pub returns-in-Some : goal.returns-in-Some
returns-in-Some g c =
    let t = c.self.inside in
    sounds_is t.hand t.sent t.running c.in-Some.place c.self.invariant c.in-Some.is ∙ ap sounds c.self.view_is
