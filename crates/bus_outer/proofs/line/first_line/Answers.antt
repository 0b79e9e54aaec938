use Rattle.std.proofs.Common.{arith, take, length, ap, sym, ◌∙◌}
use Rattle.std.proofs.lemmas.List.{take_all}
use Rattle.bus_outer.proofs.Lines.{line_to, line_all}
use Rattle.bus_outer.proofs.line.first_line.Goals as goal

pub returns-in-Some : goal.returns-in-Some
returns-in-Some c = ap (λ n. take n c.args.bytes.now)
    (sym (line_to c.args.bytes.now c.in-Some.at c.in-Some.ensures.found.0 c.in-Some.ensures.found.1 c.in-Some.ensures.before))

pub returns-in-None : goal.returns-in-None
returns-in-None c = sym (ap (λ n. take n c.args.bytes.now) (line_all c.args.bytes.now c.in-None.ensures.none)
    ∙ take_all (length c.args.bytes.now) c.args.bytes.now (omega arith))
