use Rattle.std.proofs.Common.{arith, sym, ◌∙◌}
use Rattle.bus_words.proofs.FormLemmas.{none_if}
use Rattle.bus_text.specs.Entries.{texts}
use Rattle.bus_table.specs.Heads.{is_head}
use Rattle.bus_table.proofs.FormLemmas.{count_is, decimal_read, sender_out}
use Rattle.bus_table.proofs.forms.gap_line.Goals as goal

pub returns-in-None : goal.returns-in-None
returns-in-None c =
    let d = rw c.field_at.ensures at (decimal_read c.field_at.result.now c.in_ok-number.number (sym c.in_ok-number.ensures.ok_part ∙ c.plain_decimal.ensures)) in
    let e = rw c.field_at-2.ensures at (decimal_read c.field_at-2.result.now c.in_ok-tg.tg (sym c.in_ok-tg.ensures.ok_part ∙ c.plain_decimal-2.ensures)) in
    sender_out c.in_ok-number.number c.in_ok-tg.tg (texts c.args.fields.now) (count_is c.args.fields.now 4 (omega arith)) (sym c.if-not-is_at.ensures.value) d e
    (none_if (is_head (record { number = c.in_ok-number.number; tg = c.in_ok-tg.tg; at = 0 })) (record { number = c.in_ok-number.number; tg = c.in_ok-tg.tg; at = 0 }) c.in-None.ensures)
