use Rattle.std.proofs.Common.{arith, sym, ◌∙◌, ap, Err, Ok, refl}
use Rattle.std.proofs.lemmas.Result.{err_from_is_err_and}
use Rattle.bus_words.proofs.FormLemmas.{none_if}
use Rattle.bus_text.specs.declared.reason.Reason.TheVariants.{Spelling}
use Rattle.bus_text.specs.Entries.{texts}
use Rattle.bus_text.specs.Numbers.{is_plain_decimal}
use Rattle.bus_table.specs.Tables.{SendLine}
use Rattle.bus_table.specs.Ranges.{is_send_line}
use Rattle.bus_table.proofs.FormLemmas.{count_is, decimal_read, hex_read, let_through, error_is, SendFields, send_found, send_out, send_unspelled}
use Rattle.bus_table.proofs.forms.send_line.Goals as goal

pub returns-in_err-most-clause-exact : goal.returns-in_err-most-clause-exact
returns-in_err-most-clause-exact c =
    let p = err_from_is_err_and c.from_residual-in_err-most.result c.from_residual-in_err-most.ensures.1 in
    let unspelled = none_if (is_plain_decimal c.field_at-4.result.now) _ (sym c.in_err-most.ensures.ok_part ∙ c.plain_decimal-2.ensures) in
    let e = error_is c.plain_decimal-2.result Spelling c.in_err-most.field-0.0 (Err c.in_err-most.field-0.0) c.in_err-most.ensures.value c.in_err-most.ensures.ok_part refl in
    rw (p.1, p.2) (send_unspelled (texts c.args.fields.now) (count_is c.args.fields.now 5 (omega arith)) (rw c.field_at-4.ensures at unspelled) ∙ ap Err (sym e))

pub returns-in-Some-clause-exact : goal.returns-in-Some-clause-exact
returns-in-Some-clause-exact c =
    let line : SendLine = record { label = c.in_ok-label.label; ext = c.in_ok-ext.ext; least = c.in_ok-least.least; most = c.in_ok-most.most } in
    let fields : SendFields (texts c.args.fields.now) line = record {
      five = count_is c.args.fields.now 5 (omega arith);
      label = rw c.field_at.ensures at (hex_read 3 c.field_at.result.now c.in_ok-label.label (sym c.in_ok-label.ensures.ok_part ∙ c.label.ensures));
      ext = rw c.field_at-2.ensures at (hex_read 1 c.field_at-2.result.now c.in_ok-ext.ext (sym c.in_ok-ext.ensures.ok_part ∙ c.ext.ensures));
      least = rw c.field_at-3.ensures at (decimal_read c.field_at-3.result.now c.in_ok-least.least (sym c.in_ok-least.ensures.ok_part ∙ c.plain_decimal.ensures));
      most = rw c.field_at-4.ensures at (decimal_read c.field_at-4.result.now c.in_ok-most.most (sym c.in_ok-most.ensures.ok_part ∙ c.plain_decimal-2.ensures));
    } in
    let through = let_through (is_send_line line) line c.in-Some.line c.in-Some.ensures in
    send_found (texts c.args.fields.now) line fields through.0 ∙ ap Ok (sym through.1)

pub returns-in-None-clause-exact : goal.returns-in-None-clause-exact
returns-in-None-clause-exact c =
    let line : SendLine = record { label = c.in_ok-label.label; ext = c.in_ok-ext.ext; least = c.in_ok-least.least; most = c.in_ok-most.most } in
    let fields : SendFields (texts c.args.fields.now) line = record {
      five = count_is c.args.fields.now 5 (omega arith);
      label = rw c.field_at.ensures at (hex_read 3 c.field_at.result.now c.in_ok-label.label (sym c.in_ok-label.ensures.ok_part ∙ c.label.ensures));
      ext = rw c.field_at-2.ensures at (hex_read 1 c.field_at-2.result.now c.in_ok-ext.ext (sym c.in_ok-ext.ensures.ok_part ∙ c.ext.ensures));
      least = rw c.field_at-3.ensures at (decimal_read c.field_at-3.result.now c.in_ok-least.least (sym c.in_ok-least.ensures.ok_part ∙ c.plain_decimal.ensures));
      most = rw c.field_at-4.ensures at (decimal_read c.field_at-4.result.now c.in_ok-most.most (sym c.in_ok-most.ensures.ok_part ∙ c.plain_decimal-2.ensures));
    } in
    send_out (texts c.args.fields.now) line fields (none_if (is_send_line line) line c.in-None.ensures)
