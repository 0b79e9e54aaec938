use Rattle.std.proofs.Common.{◌-◌, arith, length, vec_len}
use Rattle.bus_table.specs.Drafts.{with_heard}
use Rattle.bus_table.specs.Tables.{Listener}
use Rattle.bus_table.proofs.LastLemmas.{set_last, last_is}
use Rattle.bus_table.proofs.draft.hear_by_last.Goals as goal

pub add_take-requires-clause-room : goal.add_take-requires-clause-room
add_take-requires-clause-room c =
    let item = c.in-Some.ensures.item in
    omega (arith, c.requires.room, last_is (λ (x : Listener). length x.takes) c.args.listeners.now.items (vec_len c.args.listeners.now - 1) c.in-Some.listener.now (omega (arith, item.3.0, c.args.listeners.now.ok.0)) item.1)

pub returns-in_ok-add_take : goal.returns-in_ok-add_take
returns-in_ok-add_take c =
    let item = c.in-Some.ensures.item in
    record {
      ok = set_last (with_heard c.args.line) c.args.listeners.now.items (vec_len c.args.listeners.now - 1) c.in-Some.listener.now c.add_take.new.self (omega (arith, item.3.0, c.args.listeners.now.ok.0)) item.1 c.in_ok-add_take.ensures.ok;
    }
