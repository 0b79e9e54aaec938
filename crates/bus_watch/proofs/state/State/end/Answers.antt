use Rattle.std.proofs.Common.{sym, subst}
use Rattle.bus_stream.specs.Places.{bit_of}
use Rattle.bus_watch.specs.Looks.{CanLook}
use Rattle.bus_watch.proofs.StateLemmas.{look_end}
use Rattle.bus_watch.proofs.state.State.end.Goals as goal

pub end-requires : goal.end-requires
end-requires g c =
    record {
      look = subst (λ t. CanLook c.args.table.now c.in-Some.part (bit_of t)) (sym c.unwrap_or.ensures)
          (look_end c.args.table.now c.args.self.now c.in-Some.part c.args.time c.requires.state c.in-Some.is c.requires.later);
    }
