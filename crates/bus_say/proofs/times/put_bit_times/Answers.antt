use Rattle.std.proofs.lemmas.Bool.{ne_eqb}
use Rattle.bus_say.proofs.times.put_bit_times.Goals as goal

pub returns-then-n-eq1 : goal.returns-then-n-eq1
returns-then-n-eq1 g c = rw c.if-n-eq1.true c.put.ensures

pub returns-else-n-eq1 : goal.returns-else-n-eq1
returns-else-n-eq1 g c = rw (ne_eqb c.args.n 1 c.if-n-eq1.false) c.put-else-n-eq1.ensures
