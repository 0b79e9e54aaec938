use Rattle.std.proofs.Common.{arith}
use Rattle.std.proofs.lemmas.Grind.{common_steps}
use Rattle.std.proofs.lemmas.Result.{err_from_is_err_and}
use Rattle.bus_outer.proofs.WriteLaws.{taken_on}
use Rattle.bus_outer.proofs.whole.read_whole.Goals as goal

pub returns-then-n-limit-clause-taken : goal.returns-then-n-limit-clause-taken
returns-then-n-limit-clause-taken g c = (
  _,
  taken_on _ _ _ _ _ c.pieces.invariant.taken c.in-Got.ensures.bytes.2,
  grind (arith, common_steps),
)

pub returns-in_err-extend_from_slice-in-Got-clause-taken : goal.returns-in_err-extend_from_slice-in-Got-clause-taken
returns-in_err-extend_from_slice-in-Got-clause-taken g c =
    let p = err_from_is_err_and c.from_residual.result c.from_residual.ensures.1 in
    rw (p.1, p.2) (_, taken_on _ _ _ _ _ c.pieces.invariant.taken c.in-Got.ensures.bytes.2, grind (arith, common_steps))
