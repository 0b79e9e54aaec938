use Rattle.std.proofs.Common.{ap, sym, ◌∙◌}
use Rattle.bus_table.specs.Ranges.{is_ti, is_sg}
use Rattle.bus_table.specs.Valid.{fits_mode}
use Rattle.bus_table.proofs.NewLemmas.{made}
use Rattle.bus_table.proofs.table.Table.new.Goals as goal

pub returns : goal.returns
returns c =
    made (record { mode = c.args.mode; ti = c.args.ti; sg = c.args.sg; senders = c.args.senders.items; listeners = c.args.listeners.items }) (is_ti c.args.ti) (is_sg c.args.sg) (fits_mode c.args.mode c.args.senders.items) c.judged.result c.ok.result
    (sym c.if-not-is_ti.ensures) (sym c.if-not-is_sg.ensures) (ap (fits_mode c.args.mode) (sym c.deref.ensures.value) ∙ sym c.if-not-fits_mode.ensures) c.judged.ensures c.ok.ensures.value
