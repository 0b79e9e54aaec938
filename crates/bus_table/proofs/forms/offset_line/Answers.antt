use Rattle.std.proofs.Common.{arith, sym, ◌∙◌}
use Rattle.bus_words.proofs.FormLemmas.{none_if}
use Rattle.bus_text.specs.Entries.{texts}
use Rattle.bus_table.specs.Heads.{Head, is_head}
use Rattle.bus_table.proofs.FormLemmas.{count_is, decimal_read, offset_out}
use Rattle.bus_table.proofs.forms.offset_line.Goals as goal

pub returns-in-None : goal.returns-in-None
returns-in-None c =
    let d = rw c.field_at.ensures at (decimal_read c.field_at.result.now c.in_ok-number.number (sym c.in_ok-number.ensures.ok_part ∙ c.plain_decimal.ensures)) in
    let e = rw c.field_at-2.ensures at (decimal_read c.field_at-2.result.now c.in_ok-tg.tg (sym c.in_ok-tg.ensures.ok_part ∙ c.plain_decimal-2.ensures)) in
    let f = rw c.field_at-3.ensures at (decimal_read c.field_at-3.result.now c.in_ok-at.at (sym c.in_ok-at.ensures.ok_part ∙ c.plain_decimal-3.ensures)) in
    let head : Head = record { number = c.in_ok-number.number; tg = c.in_ok-tg.tg; at = c.in_ok-at.at } in
    offset_out c.in_ok-number.number c.in_ok-tg.tg c.in_ok-at.at (texts c.args.fields.now) (count_is c.args.fields.now 6 (omega arith)) (sym c.if-not-is_at.ensures.value) (sym c.if-not-is_at-2.ensures.value) d e f
    (none_if (is_head head) head c.in-None.ensures)
