use Rattle.std.proofs.Common.{arith, sym, ◌∙◌}
use Rattle.std.specs.Int.{is_in_range}
use Rattle.bus_words.proofs.FormLemmas.{none_if}
use Rattle.bus_text.specs.Entries.{texts}
use Rattle.bus_table.proofs.FormLemmas.{count_is, decimal_read, number_out}
use Rattle.bus_table.proofs.forms.number_line.Goals as goal

pub returns-in-None : goal.returns-in-None
returns-in-None c =
    let d = rw c.field_at.ensures at (decimal_read c.field_at.result.now c.in_ok-number.number (sym c.in_ok-number.ensures.ok_part ∙ c.plain_decimal.ensures)) in
    number_out c.args.least c.args.most c.in_ok-number.number (texts c.args.fields.now) (omega arith) (count_is c.args.fields.now 2 (omega arith)) d
    (none_if (is_in_range c.args.least c.args.most c.in_ok-number.number) c.in_ok-number.number c.in-None.ensures)
