use Rattle.std.proofs.Common.{sym, ap, ◌∙◌}
use Rattle.bus_page.specs.Heads.{level_words, periodic_words}
use Rattle.bus_page.proofs.heading.level_words.Goals as goal

pub returns-in-Periodic : goal.returns-in-Periodic
returns-in-Periodic c =
    c.periodic_words.ensures ∙ ap periodic_words c.level_of-in-Periodic.ensures
    ∙ ap (λ mode. level_words mode c.args.bounds c.args.table.now) (sym c.in-Periodic.is ∙ c.mode.ensures.value)
