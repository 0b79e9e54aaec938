use Rattle.std.proofs.Common.{arith, take, ap, ◌∙◌, ◌++◌, sym, subst, List}
use Rattle.std.specs.Option.{option_map}
use Rattle.bus_table.specs.declared.error.WholeReason.TheVariants.{PairTwice}
use Rattle.bus_table.specs.Tables.{SendLine}
use Rattle.bus_table.specs.Whole.{first_again, same_pair, send_lines}
use Rattle.bus_table.specs.inside.Seen.{AreSeen}
use Rattle.bus_table.proofs.WholeLemmas.{sender_stops, sender_goes_on, one_more}
use Rattle.bus_table.proofs.whole.pair_twice.Goals as goal

pub returns-in-Some : goal.returns-in-Some
returns-in-Some c = ap (option_map (λ line. PairTwice line.label line.ext)) (sender_stops c.args.senders.now c.loop-k.k c.index-senders-k.result c.in-Some.line _ (omega arith) c.index-senders-k.is (c.in-Some.ensures.first ∙ ap (first_again same_pair (send_lines (take c.loop-k.k c.args.senders.now))) c.sends.ensures.value) c.loop-k.invariant.first)

pub loop-k-preserved : goal.loop-k-preserved
loop-k-preserved c =
    let senders = c.args.senders.now in
    let k = c.loop-k.k in
    let lines = ap (λ (ls : List SendLine). send_lines (take k senders) ++ ls) c.sends.ensures.value ∙ sym (one_more senders k c.index-senders-k.result (omega arith) c.index-senders-k.is) in
    record { seen = subst (AreSeen c.line_again.new.seen) lines c.in_default.ensures.seen; first = sender_goes_on c.args.senders.now c.loop-k.k c.index-senders-k.result _ (omega arith) c.index-senders-k.is (c.in_default.ensures.first ∙ ap (first_again same_pair (send_lines (take c.loop-k.k c.args.senders.now))) c.sends.ensures.value) c.loop-k.invariant.first }
