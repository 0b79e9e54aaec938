use Rattle.bus_wave.proofs.QuickLemmas.{framed_digits, framed_low}
use Rattle.bus_wave.proofs.quick.word_with.Goals as goal

pub returns-in-Ok-clause-digits : goal.returns-in-Ok-clause-digits
returns-in-Ok-clause-digits c = framed_digits c.args.kind c.args.bits c.frame_with.result c.in-Ok.word c.requires c.frame_with.ensures c.in-Ok.ensures.found

pub returns-in-Ok-clause-range : goal.returns-in-Ok-clause-range
returns-in-Ok-clause-range c = framed_low c.args.kind c.args.bits c.frame_with.result c.in-Ok.word c.requires c.frame_with.ensures c.in-Ok.ensures.found
