use Rattle.std.proofs.Common.{◌-◌, arith, length, vec_len}
use Rattle.bus_table.specs.Drafts.{with_take}
use Rattle.bus_table.specs.Tables.{Sender}
use Rattle.bus_table.proofs.LastLemmas.{set_last, last_is}
use Rattle.bus_table.proofs.draft.take_by_last.Goals as goal

pub add_take-requires-clause-room : goal.add_take-requires-clause-room
add_take-requires-clause-room c =
    let item = c.in-Some.ensures.item in
    omega (arith, c.requires.room, last_is (λ (x : Sender). length x.takes) c.args.senders.now.items (vec_len c.args.senders.now - 1) c.in-Some.sender.now (omega (arith, item.3.0, c.args.senders.now.ok.0)) item.1)

pub returns-in_ok-add_take : goal.returns-in_ok-add_take
returns-in_ok-add_take c =
    let item = c.in-Some.ensures.item in
    record {
      ok = set_last (with_take c.args.line) c.args.senders.now.items (vec_len c.args.senders.now - 1) c.in-Some.sender.now c.add_take.new.self (omega (arith, item.3.0, c.args.senders.now.ok.0)) item.1 c.in_ok-add_take.ensures.ok;
    }
