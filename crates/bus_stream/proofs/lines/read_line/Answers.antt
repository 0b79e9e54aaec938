use Rattle.std.proofs.lemmas.Result.{err_from_is_err_and}
use Rattle.bus_outer.proofs.WriteLaws.{taken_on}
use Rattle.bus_stream.proofs.lines.read_line.Goals as goal

pub returns-in_err-extend_from_slice-clause-reads : goal.returns-in_err-extend_from_slice-clause-reads
returns-in_err-extend_from_slice-clause-reads g c =
    let p = err_from_is_err_and c.from_residual.result c.from_residual.ensures.1 in
    rw p.1 (_, taken_on _ _ _ _ _ c.loop-piece.invariant.taken c.in-Got.ensures.bytes.2)
