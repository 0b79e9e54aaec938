use Rattle.std.proofs.Common.{arith, sym, ◌∙◌, ap, Err, Ok, refl}
use Rattle.std.proofs.lemmas.Result.{err_from_is_err_and}
use Rattle.bus_words.proofs.FormLemmas.{none_if}
use Rattle.bus_text.specs.declared.reason.Reason.TheVariants.{Spelling}
use Rattle.bus_text.specs.Entries.{texts}
use Rattle.bus_text.specs.Numbers.{is_plain_decimal}
use Rattle.bus_table.specs.Tables.{TakeLine}
use Rattle.bus_table.specs.Ranges.{is_take_line}
use Rattle.bus_table.proofs.FormLemmas.{count_is, decimal_read, hex_read, ext_read, let_through, error_is, TakeFields, take_found, take_out, take_unspelled, no_first, no_count}
use Rattle.bus_table.proofs.forms.take_line.Goals as goal

pub returns-in_err-first-clause-exact : goal.returns-in_err-first-clause-exact
returns-in_err-first-clause-exact c =
    let p = err_from_is_err_and c.from_residual-in_err-first.result c.from_residual-in_err-first.ensures.1 in
    let unspelled = none_if (is_plain_decimal c.field_at-3.result.now) _ (sym c.in_err-first.ensures.ok_part ∙ c.plain_decimal.ensures) in
    let e = error_is c.plain_decimal.result Spelling c.in_err-first.field-0.0 (Err c.in_err-first.field-0.0) c.in_err-first.ensures.value c.in_err-first.ensures.ok_part refl in
    rw (p.1, p.2) (take_unspelled (texts c.args.fields.now) (count_is c.args.fields.now 5 (omega arith)) (no_first (texts c.args.fields.now) (rw c.field_at-3.ensures at unspelled)) ∙ ap Err (sym e))

pub returns-in_err-count-clause-exact : goal.returns-in_err-count-clause-exact
returns-in_err-count-clause-exact c =
    let p = err_from_is_err_and c.from_residual-in_err-count.result c.from_residual-in_err-count.ensures.1 in
    let unspelled = none_if (is_plain_decimal c.field_at-4.result.now) _ (sym c.in_err-count.ensures.ok_part ∙ c.plain_decimal-2.ensures) in
    let e = error_is c.plain_decimal-2.result Spelling c.in_err-count.field-0.0 (Err c.in_err-count.field-0.0) c.in_err-count.ensures.value c.in_err-count.ensures.ok_part refl in
    rw (p.1, p.2) (take_unspelled (texts c.args.fields.now) (count_is c.args.fields.now 5 (omega arith)) (no_count (texts c.args.fields.now) (rw c.field_at-4.ensures at unspelled)) ∙ ap Err (sym e))

pub returns-in-Some-clause-exact : goal.returns-in-Some-clause-exact
returns-in-Some-clause-exact c =
    let line : TakeLine = record { label = c.in_ok-label.label; ext = c.in_ok-ext.ext; first = c.in_ok-first.first; count = c.in_ok-count.count } in
    let ext = rw c.field_at-2.ensures at (ext_read c.field_at-2.result.now c.in_ok-ext.ext c.taken_ext.result c.taken_ext.ensures c.in_ok-ext.was) in
    let fields : TakeFields (texts c.args.fields.now) line = record {
      five = count_is c.args.fields.now 5 (omega arith);
      label = rw c.field_at.ensures at (hex_read 3 c.field_at.result.now c.in_ok-label.label (sym c.in_ok-label.ensures.ok_part ∙ c.label.ensures));
      spelled = ext.0;
      ext = ext.1;
      first = rw c.field_at-3.ensures at (decimal_read c.field_at-3.result.now c.in_ok-first.first (sym c.in_ok-first.ensures.ok_part ∙ c.plain_decimal.ensures));
      count = rw c.field_at-4.ensures at (decimal_read c.field_at-4.result.now c.in_ok-count.count (sym c.in_ok-count.ensures.ok_part ∙ c.plain_decimal-2.ensures));
    } in
    let through = let_through (is_take_line line) line c.in-Some.line c.in-Some.ensures in
    take_found (texts c.args.fields.now) line fields through.0 ∙ ap Ok (sym through.1)

pub returns-in-None-clause-exact : goal.returns-in-None-clause-exact
returns-in-None-clause-exact c =
    let line : TakeLine = record { label = c.in_ok-label.label; ext = c.in_ok-ext.ext; first = c.in_ok-first.first; count = c.in_ok-count.count } in
    let ext = rw c.field_at-2.ensures at (ext_read c.field_at-2.result.now c.in_ok-ext.ext c.taken_ext.result c.taken_ext.ensures c.in_ok-ext.was) in
    let fields : TakeFields (texts c.args.fields.now) line = record {
      five = count_is c.args.fields.now 5 (omega arith);
      label = rw c.field_at.ensures at (hex_read 3 c.field_at.result.now c.in_ok-label.label (sym c.in_ok-label.ensures.ok_part ∙ c.label.ensures));
      spelled = ext.0;
      ext = ext.1;
      first = rw c.field_at-3.ensures at (decimal_read c.field_at-3.result.now c.in_ok-first.first (sym c.in_ok-first.ensures.ok_part ∙ c.plain_decimal.ensures));
      count = rw c.field_at-4.ensures at (decimal_read c.field_at-4.result.now c.in_ok-count.count (sym c.in_ok-count.ensures.ok_part ∙ c.plain_decimal-2.ensures));
    } in
    take_out (texts c.args.fields.now) line fields (none_if (is_take_line line) line c.in-None.ensures)
