use Rattle.std.proofs.Common.{arith, length, ap, sym, ◌∙◌}
use Rattle.bus_diagnosis.proofs.MisfitLemmas.{number_within}
use Rattle.bus_diagnosis.proofs.diagnosing.cable_items.Goals as goal

pub unfit_at-requires-clause-some : goal.unfit_at-requires-clause-some
unfit_at-requires-clause-some c =
    let within = number_within c.args.table.now c.args.items c.in-Err.error (sym c.fits.ensures ∙ c.in-Err.is) in
    omega (arith, within.0, c.item_number.ensures)

pub unfit_at-requires-clause-within : goal.unfit_at-requires-clause-within
unfit_at-requires-clause-within c =
    let within = number_within c.args.table.now c.args.items c.in-Err.error (sym c.fits.ensures ∙ c.in-Err.is) in
    omega (arith, within.1, c.item_number.ensures, ap length c.deref-in-Err.ensures.value, ap length c.items.view_is)
