use Rattle.bus_outer.proofs.TextLaws.{◌▸◌}
use Rattle.bus_page.proofs.foot.put_given.Goals as goal

pub returns : goal.returns
returns g c = c.put_section.ensures ▸ c.put.ensures ▸ c.put_shown_text.ensures ▸ c.put-2.ensures
