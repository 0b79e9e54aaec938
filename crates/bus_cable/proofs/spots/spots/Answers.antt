use Rattle.std.proofs.Common.{arith, ◌∙◌, get_or, ap, refl, set}
use Rattle.std.proofs.Common.{length-set}
use Rattle.bus_cable.specs.declared.cable.Named.{Named}
use Rattle.bus_cable.specs.Cables.{most_wake}
use Rattle.bus_cable.proofs.NamedLemmas.{terminal_low, spots_more, no_spots}
use Rattle.bus_cable.proofs.spots.spots.Goals as goal

pub loop-one-init : goal.loop-one-init
loop-one-init c = record { long = refl; each = λ n. no_spots 129 n }

pub bounds-spots-from : goal.bounds-spots-from
bounds-spots-from c = omega (arith, c.from.ensures, terminal_low most_wake c.loop-one.one-index c.args.named.now (record { terminal = 0; bits = 0 }) c.requires c.loop-one-test.true)

pub loop-one-preserved : goal.loop-one-preserved
loop-one-preserved c =
    let d : Named = record { terminal = 0; bits = 0 } in
    record {
      long = length-set c.loop-one.spots c.from.result (get_or c.args.named.now c.loop-one.one-index d).bits ∙ c.loop-one.invariant.long;
      each = λ n.
          ap (λ k. get_or (set c.loop-one.spots k (get_or c.args.named.now c.loop-one.one-index d).bits) n 0) c.from.ensures
          ∙ spots_more most_wake c.loop-one.one-index c.args.named.now d c.loop-one.spots c.requires c.loop-one-test.true c.loop-one.invariant.long c.loop-one.invariant.each n;
    }
