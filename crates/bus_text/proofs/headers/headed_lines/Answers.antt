use Rattle.std.proofs.Common.{rules, arith, ap, ◌≡◌, ◌∷◌, length}
use Rattle.bus_text.specs.Entries.{entry}
use Rattle.bus_text.specs.Headers.{behind_header}
use Rattle.bus_text.specs.Lines.{entries_of}
use Rattle.bus_text.proofs.LineLaws.{length-entries_of-le}
use Rattle.bus_text.proofs.headers.headed_lines.Goals as goal

pub returns-in_default-clause-refused : goal.returns-in_default-clause-refused
unfolding behind_header
returns-in_default-clause-refused c =
    search rules

pub returns-in-Ok-clause-lines : goal.returns-in-Ok-clause-lines
unfolding behind_header
returns-in-Ok-clause-lines c = search rules

pub returns-in-Ok-clause-few : goal.returns-in-Ok-clause-few
returns-in-Ok-clause-few c =
    let all : entries_of c.args.text.now ≡ entry c.in-Some.first ∷ c.next.new.self = search rules in
    omega (arith, ap length all, length-entries_of-le c.args.text.now)

pub returns-in-Err-clause-refused : goal.returns-in-Err-clause-refused
unfolding behind_header
returns-in-Err-clause-refused c =
    search rules
