use Rattle.std.proofs.Common.{arith}
use Rattle.bus_vectors.specs.Made.{made_take, made_listener}
use Rattle.bus_vectors.proofs.TableLemmas.{mapped_next, listener_made, is_some_of, unwrapped}
use Rattle.bus_vectors.proofs.tables.listener.Goals as goal

pub loop-i-preserved : goal.loop-i-preserved
loop-i-preserved c =
    mapped_next made_take c.loop-i.i c.take_line-line.result c.loop-i.takes.items c.push.new.self.items c.loop-i.invariant.0
    c.in_ok-push.ensures.items c.take_line-line.ensures c.loop-i.invariant.1

pub unwrap-requires : goal.unwrap-requires
unwrap-requires c =
    is_some_of c.new.result (made_listener c.args.count)
    (listener_made c.args.count c.loop-i.i c.loop-i.takes.items c.new.result c.requires
    (omega (arith, c.loop-i-test.false, c.loop-i.auto.i-end)) c.loop-i.invariant.1 c.new.ensures)

pub returns : goal.returns
returns c =
    unwrapped c.new.result c.unwrap.result (made_listener c.args.count)
    (listener_made c.args.count c.loop-i.i c.loop-i.takes.items c.new.result c.requires
    (omega (arith, c.loop-i-test.false, c.loop-i.auto.i-end)) c.loop-i.invariant.1 c.new.ensures) c.unwrap.ensures
