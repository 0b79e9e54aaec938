use Rattle.std.proofs.Common.{◌-◌, Option, subst, ap, ◌∙◌}
use Rattle.bus_strings.specs.Messages.{Entry}
use Rattle.bus_dump.specs.OnBus.{Shown}
use Rattle.bus_dump.specs.Seen.{Seen}
use Rattle.bus_dump.specs.inside.Walks.{IsShownStretch, sight_of}
use Rattle.bus_dump.proofs.LookLemmas.{stretch_now, stretch_stays}
use Rattle.bus_dump.proofs.look.see_one.Goals as goal

pub returns-clause-steady : goal.returns-clause-steady
returns-clause-steady c =
    stretch_stays c.args.x.now c.args.t c.stretch_at-stretch.result c.requires.begun
    (subst (λ (e : Entry). IsShownStretch e.message (c.args.t - e.moment) c.stretch_at-stretch.result) c.x.view_is c.stretch_at-stretch.ensures)

pub returns-clause-seen : goal.returns-clause-seen
returns-clause-seen c =
    let made : Option Shown → Seen =
    λ s. record { terminal = c.x.inside.terminal; number = c.args.one.now.number; garbled = c.args.one.now.garbled; shown = s } in
    ap made (stretch_now c.x.inside.message (c.args.t - c.x.inside.moment) c.stretch_at-stretch.result c.stretch_at-stretch.ensures)
    ∙ ap (λ (e : Entry). sight_of c.args.t e c.args.one.now) c.x.view_is
