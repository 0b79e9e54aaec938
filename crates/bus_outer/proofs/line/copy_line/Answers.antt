use Rattle.std.proofs.Common.{arith}
use Rattle.bus_outer.proofs.Lines.{stops, copied, line_is_long, line_some}
use Rattle.bus_outer.proofs.line.copy_line.Goals as goal

pub returns-clause-count : goal.returns-clause-count
returns-clause-count c = omega (
  arith,
  line_is_long c.args.from.now c.first_line.result.now c.first_line.ensures,
  c.copy_piece.ensures.count,
)

pub returns-clause-some : goal.returns-clause-some
returns-clause-some c = λ p b f. omega (
  arith,
  line_is_long c.args.from.now c.first_line.result.now c.first_line.ensures,
  c.copy_piece.ensures.count,
  line_some c.args.from.now f,
  p,
  b,
)

pub returns-clause-copied : goal.returns-clause-copied
returns-clause-copied c =
    copied c.copy_piece.result c.args.from.now c.first_line.result.now c.copy_piece.new.buf c.first_line.ensures
    (omega (arith, c.copy_piece.ensures.count)) c.copy_piece.ensures.copied

pub returns-clause-line : goal.returns-clause-line
returns-clause-line c =
    stops c.copy_piece.result c.args.from.now c.first_line.result.now c.copy_piece.new.buf c.first_line.ensures
    (omega (arith, c.copy_piece.ensures.count)) (omega (arith, c.copy_piece.ensures.count)) c.copy_piece.ensures.copied
