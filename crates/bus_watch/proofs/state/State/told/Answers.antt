use Rattle.bus_stream.specs.Places.{bit_of}
use Rattle.bus_watch.proofs.PartLemmas.{look_at}
use Rattle.bus_watch.proofs.StateLemmas.{bit_low, part_of}
use Rattle.bus_watch.proofs.state.State.told.Goals as goal

pub told_to-requires : goal.told_to-requires
told_to-requires g c =
    record {
      look = look_at c.args.table.now c.args.self.now.place _ (bit_of c.args.time)
          (part_of c.args.table.now c.args.self.now _ c.requires.state c.in-Some.is) c.requires.later (bit_low c.args.time c.requires.low);
    }
