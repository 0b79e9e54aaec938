use Rattle.std.proofs.Common.{◌≡◌, ◌+◌, ◌-◌, ◌∷◌, suc, arith, length, take, drop, length-drop, sym, ap, ◌∙◌, add-one}
use Rattle.std.proofs.lemmas.List.{take_all}
use Rattle.bus_text.specs.Lines.{fields_of}
use Rattle.bus_text.proofs.FieldLemmas.{field_at, one_field}
use Rattle.bus_text.proofs.split.split_field.Goals as goal

pub returns-in-None-clause-fields : goal.returns-in-None-clause-fields
returns-in-None-clause-fields c = one_field c.args.line.now c.requires.some c.in-None.ensures.none

pub returns-in-Some-clause-fields : goal.returns-in-Some-clause-fields
returns-in-Some-clause-fields c =
    let line = c.args.line.now in
    let at = c.in-Some.at in
    let behind : take (length line - (at + 1)) (drop (at + 1) line) ≡ drop (suc at) line = take_all _ _ (omega (arith, length-drop (at + 1) line)) ∙ ap (λ n. drop n line) (add-one at) in
    field_at line at c.in-Some.ensures.found.0 c.requires.begun c.in-Some.ensures.before c.in-Some.ensures.found.1 ∙ ap (λ r. take at line ∷ fields_of r) (sym behind)
