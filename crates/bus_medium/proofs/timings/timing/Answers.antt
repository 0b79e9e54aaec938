use Rattle.std.proofs.Common.{◌≡◌, length, Some, refl, ap, sym, ◌∙◌, arith}
use Rattle.std.specs.Prelude.{slice_get}
use Rattle.std.proofs.lemmas.Option.{slice_get_read}
use Rattle.bus_medium.specs.Timings.{due_for}
use Rattle.bus_medium.proofs.StationLaws.{timings_are_sound}
use Rattle.bus_strings.proofs.MemberLaws.{at_in}
use Rattle.bus_medium.proofs.timings.timing.Goals as goal

pub returns-clause-sound : goal.returns-clause-sound
returns-clause-sound c =
    let table = c.args.table.now in
    let s = c.index-senders-k.result in
    let senders = c.senders.result.now in
    let same = c.senders.ensures.value in
    let at : slice_get table.senders c.args.k ≡ Some s = ap (λ w. slice_get w c.args.k) (sym same) ∙ slice_get_read senders (length senders) c.args.k s refl (omega (arith, ap length same)) c.index-senders-k.is in
    let due : c.due.result ≡ due_for table.mode s = c.due.ensures ∙ ap (λ m. due_for m s) c.mode.ensures.value in
    rw (c.ti.ensures.value, c.sg.ensures.value, c.tg.ensures.value, c.quiet.ensures.value, due) (timings_are_sound table s c.senders.ensures.valid (at_in table.senders c.args.k s at))
