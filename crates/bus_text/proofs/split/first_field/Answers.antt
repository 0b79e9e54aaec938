use Rattle.std.proofs.Common.{◌≡◌, ◌-◌, arith, length, take, drop, length-drop, sym, ap, ◌∙◌}
use Rattle.std.proofs.Math.ListN.{drop_of_length-le}
use Rattle.std.proofs.lemmas.List.{take_all}
use Rattle.bus_text.specs.Lines.{fields_of}
use Rattle.bus_text.proofs.FieldLemmas.{behind_blanks}
use Rattle.bus_text.proofs.split.first_field.Goals as goal

pub returns-in_err-at-clause-fields : goal.returns-in_err-at-clause-fields
returns-in_err-at-clause-fields c =
    let line = c.args.line.now in
    rw c.from_residual.ensures (behind_blanks line (length line) (omega arith) c.in_err-at.ensures.none ∙ ap fields_of (drop_of_length-le line {i = length line} (omega arith)))

pub returns-clause-fields : goal.returns-clause-fields
returns-clause-fields c =
    let line = c.args.line.now in
    let at = c.in_ok-at.at in
    let behind : take (length line - at) (drop at line) ≡ drop at line = take_all _ _ (omega (arith, length-drop at line)) in
    behind_blanks line at (omega (arith, c.in_ok-at.ensures.found.0)) c.in_ok-at.ensures.before ∙ ap fields_of (sym behind) ∙ c.split_field.ensures.fields
