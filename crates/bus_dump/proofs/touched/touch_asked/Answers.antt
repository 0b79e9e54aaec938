use Rattle.std.proofs.Common.{ap, sym, ◌∙◌}
use Rattle.std.specs.List.{find}
use Rattle.bus_dump.specs.Signals.{tells_of}
use Rattle.bus_dump.proofs.touched.touch_asked.Goals as goal

pub returns-then-now : goal.returns-then-now
returns-then-now c n h e =
    let told = c.touch_told.ensures n h e in
    (told.0, ap (find (tells_of n)) (sym c.as_slice.ensures.value) ∙ told.1 ∙ ap (find (tells_of n)) c.as_slice-then-now.ensures.value)

pub returns-else-now : goal.returns-else-now
returns-else-now c n h e = (e, ap (find (tells_of n)) (c.requires c.if-now.false))
