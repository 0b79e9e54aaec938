use Rattle.std.proofs.Common.{◌<◌, ◌^◌, arith}
use Rattle.bus_explain.specs.Figures.{longest_bits}
use Rattle.bus_facts.proofs.PaceLemmas.{share_short}
use Rattle.bus_facts.proofs.bounds.load_value.Goals as goal

pub overflow_cast-per_mille : goal.overflow_cast-per_mille
overflow_cast-per_mille c =
    let few : longest_bits c.args.table.now < 2 ^ 32 = omega (arith, c.longest_bits-bits.ensures.value, c.longest_bits-bits.ensures.bound) in
    omega (arith, share_short (longest_bits c.args.table.now) c.args.most few c.requires.short, c.load-per_mille.ensures)
