use Rattle.std.proofs.Common.{◌-◌, arith, vec_len, length, ap}
use Rattle.bus_strings.specs.Messages.{Entry}
use Rattle.bus_trace.proofs.Lasts.{of_last_is, set_last_string}
use Rattle.bus_trace.proofs.list.add_string.Goals as goal

pub push-requires : goal.push-requires
push-requires c =
    let item = c.in-Some.ensures.item in
    let k = of_last_is (λ (x : Entry). length x.message) c.args.list.now.items (vec_len c.args.list.now - 1) c.in-Some.last.now
    (omega (arith, item.3.0, c.args.list.now.ok.0)) item.1 in
    omega (arith, k, ap (λ (x : Entry). length x.message) c.last.view_is, c.requires)

pub returns-in_ok-push-clause-ok : goal.returns-in_ok-push-clause-ok
returns-in_ok-push-clause-ok c =
    let item = c.in-Some.ensures.item in
    set_last_string c.args.list.now.items
    (vec_len c.args.list.now - 1) c.last.inside.moment c.last.inside.terminal c.last.inside.message c.push.new.self c.in-Some.last.now
    c.args.string
    (omega (arith, item.3.0, c.args.list.now.ok.0)) item.1 c.last.view_is c.in_ok-push.ensures.ok
