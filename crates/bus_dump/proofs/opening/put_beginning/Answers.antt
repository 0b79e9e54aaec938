use Rattle.std.proofs.Common.{List, ℕ, Bool, [], ◌++◌, codes, cond, decimal, sym, subst}
use Rattle.std.proofs.lemmas.Bool.{ne_eqb}
use Rattle.bus_outer.specs.Texts.{Adds}
use Rattle.bus_outer.proofs.TextLaws.{◌▸◌}
use Rattle.bus_dump.specs.SaveFiles.{nanoseconds}
use Rattle.bus_dump.proofs.opening.put_beginning.Goals as goal

pub returns : goal.returns
returns g c =
    let told : List ℕ = codes "[timestart] " ++ decimal (nanoseconds c.args.from) ++ codes "\n" in
    subst (λ (b : Bool). Adds g.K.Sink.held g.K.Sink.faults c.args.sink.now c.put_byte.new.sink c.args.text.now c.put_byte.new.self (cond b [] told))
    (sym (ne_eqb c.args.from 0 c.if-from-eq0.false)) (c.put.ensures ▸ c.put_number.ensures ▸ c.put_byte.ensures)
