use Rattle.std.proofs.Common.{arith, ◌≡◌, ◌+◌, ◌<◌, ◌≤◌, ◌↔◌, length, subst, List, ℕ}
use Rattle.std.specs.Prelude.{min}
use Rattle.bus_table.specs.Tables.{Sender}
use Rattle.bus_table.proofs.ValidLaws.{valid_facts}
use Rattle.bus_advice.proofs.StartSteps.{IsEnough, enough_more, enough_whole}
use Rattle.bus_advice.proofs.starting.greatest_start.Goals as goal

pub loop-sender-preserved : goal.loop-sender-preserved
loop-sender-preserved c =
    let least : c.min-most.result ≡ min c.loop-sender.most c.least_wait.result = omega (arith, c.min-most.ensures) in
    enough_more c.sg-sg.result c.senders-sender-items.result.now c.loop-sender.sender-index c.sender-item.result c.args.table.now.ti c.loop-sender.most
    c.least_wait.result c.min-most.result (omega (arith, c.loop-sender-test.true)) c.sender-item.is c.least_wait.ensures least c.loop-sender.invariant

pub returns-clause-exact : goal.returns-clause-exact
returns-clause-exact c =
    let whole = enough_whole c.sg-sg.result c.senders-sender-items.result.now c.loop-sender.sender-index c.args.table.now.ti c.loop-sender.most
    (omega (arith, c.loop-sender-test.false)) c.loop-sender.invariant in
    subst (λ (xs : List Sender). IsEnough c.args.table.now.sg xs c.args.table.now.ti c.loop-sender.most) c.senders-sender-items.ensures.value
    (subst (λ (n : ℕ). IsEnough n c.senders-sender-items.result.now c.args.table.now.ti c.loop-sender.most) c.sg-sg.ensures.value whole)

pub returns-clause-bound : goal.returns-clause-bound
returns-clause-bound c =
    let own = (returns-clause-exact c c.loop-sender.most).0 (omega arith) in
    let less : c.loop-sender.most ≤ c.args.table.now.ti = own.0 in
    let most = (valid_facts c.args.table.now c.sg-sg.ensures.valid).ti_most in
    omega (arith, less, most)
