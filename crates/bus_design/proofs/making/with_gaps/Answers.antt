use Rattle.std.proofs.Common.{arith, ◌≡◌, ◌++◌, [], ◌∷◌, ℕ, List, length, take, ap, sym, ◌∙◌}
use Rattle.std.proofs.lemmas.List.{take_all}
use Rattle.bus_table.specs.Tables.{Sender}
use Rattle.bus_table.specs.Turns.{turn_order}
use Rattle.bus_margins.proofs.TellingLemmas.{whole_order}
use Rattle.bus_design.specs.Others.{with_gaps}
use Rattle.bus_design.proofs.Plans.{gaps_more}
use Rattle.bus_design.proofs.making.with_gaps.Goals as goal

pub loop-k-preserved : goal.loop-k-preserved
loop-k-preserved c =
    let order : List Sender = turn_order c.args.table.now in
    let gaps : List ℕ = c.args.gaps.now in
    let k : ℕ = c.loop-k.k in
    c.in_ok-push.ensures.items
    ∙ ap (λ (ss : List Sender). ss ++ c.in_ok-with_gap.field-0 ∷ []) c.loop-k.invariant
    ∙ ap (λ (s : Sender). with_gaps (take k order) (take k gaps) ++ s ∷ []) c.in_ok-with_gap.ensures
    ∙ sym (gaps_more order gaps k c.turn_at.result.now 0 c.turn_at.ensures c.loop-k-test.true)

pub returns : goal.returns
returns c =
    let same : length c.args.gaps.now ≡ length c.args.table.now.senders = c.requires.count in
    c.loop-k.invariant
    ∙ ap (λ (o : List Sender). with_gaps o (take c.loop-k.k c.args.gaps.now)) (whole_order c.args.table.now c.loop-k.k (omega (arith, same, c.loop-k-test.false)))
    ∙ ap (with_gaps (turn_order c.args.table.now)) (take_all c.loop-k.k c.args.gaps.now (omega (arith, c.loop-k-test.false)))
