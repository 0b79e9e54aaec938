use Rattle.std.proofs.Common.{◌==◌, sym}
use Rattle.bus_table.proofs.HandLemmas.{none_found, stands_at}
use Rattle.bus_hands.proofs.fitting.sender_in.Goals as goal

pub returns-in_err-place : goal.returns-in_err-place
returns-in_err-place c = rw c.from_residual.ensures (sym (none_found (λ s. s.number == c.args.number) c.args.senders.now (sym c.in_err-place.ensures)))

pub returns : goal.returns
returns c = sym (stands_at c.args.senders.now c.args.number c.in_ok-place.place c.index-senders-place.result (sym c.in_ok-place.ensures) c.index-senders-place.is).found
