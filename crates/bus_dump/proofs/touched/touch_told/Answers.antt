use Rattle.std.proofs.Common.{false, true, sym, ◌∙◌}
use Rattle.std.proofs.lemmas.Bool.{true≢false}
use Rattle.std.proofs.lemmas.List.{get_or-replicate}
use Rattle.bus_dump.proofs.touched.touch_told.Goals as goal

pub returns-then-before-now : goal.returns-then-before-now
returns-then-before-now c n h e = absurd (true≢false (sym (get_or-replicate 256 n true false h) ∙ e))
