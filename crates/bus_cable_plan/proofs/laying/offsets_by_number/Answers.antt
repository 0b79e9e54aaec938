use Rattle.std.proofs.Common.{arith, ap, sym, ◌∙◌, ◌≡◌, ◌+◌, ℕ, List, length, take, refl}
use Rattle.std.proofs.lemmas.List.{take_all, get_or-replicate, length-set}
use Rattle.bus_table.specs.Tables.{Sender}
use Rattle.bus_table.specs.Offsets.{at_offset}
use Rattle.bus_table.specs.Turns.{turn_order}
use Rattle.bus_table.proofs.TurnLaws.{order_length}
use Rattle.bus_table.proofs.ValidLaws.{valid_facts}
use Rattle.bus_plan.specs.Plans.{offset_in}
use Rattle.bus_cable_plan.specs.Plans.{laid_out}
use Rattle.bus_cable_plan.specs.Shapes.{gap_in}
use Rattle.bus_cable_plan.proofs.InOrder.{order_differ}
use Rattle.bus_cable_plan.proofs.Laid as laid
use Rattle.bus_cable_plan.proofs.Steps.{start_laid, step_laid, laid_length}
use Rattle.bus_cable_plan.proofs.laying.offsets_by_number.Goals as goal

pub loop-k-init : goal.loop-k-init
loop-k-init c =
    let gap : Sender → ℕ = λ s. gap_in c.args.d c.args.shape s + c.args.left.share in
    let start = start_laid gap c.args.left.rest c.longest-end.result c.saturating_sub-rest.result (turn_order c.args.table.now) c.turn_at.result.now
    c.turn_at.ensures c.longest-end.ensures.value c.saturating_sub-rest.ensures in
    record {
      told = λ number low. get_or-replicate 129 number 0 0 low ∙ sym (start.0 number);
      still = start.1;
      size = refl;
      room = omega (arith, c.longest-end.ensures.bound);
    }

pub overflow_add-at-in-loop-k-2 : goal.overflow_add-at-in-loop-k-2
overflow_add-at-in-loop-k-2 c =
    let few = (valid_facts c.args.table.now c.senders-n.ensures.valid).few in
    let same : length c.senders-n.result.now ≡ length c.args.table.now.senders = ap length c.senders-n.ensures.value in
    omega (arith, few, same, c.loop-k-test.true, c.loop-k.invariant.room, c.gap_in.ensures.bound, c.requires.share, c.lesser.ensures)

pub overflow_add-end : goal.overflow_add-end
overflow_add-end c =
    let few = (valid_facts c.args.table.now c.senders-n.ensures.valid).few in
    let same : length c.senders-n.result.now ≡ length c.args.table.now.senders = ap length c.senders-n.ensures.value in
    omega (arith, few, same, c.loop-k-test.true, c.loop-k.invariant.room, c.gap_in.ensures.bound, c.requires.share, c.lesser.ensures, c.longest.ensures.bound)

pub loop-k-preserved : goal.loop-k-preserved
loop-k-preserved c =
    let gap : Sender → ℕ = λ s. gap_in c.args.d c.args.shape s + c.args.left.share in
    let order : List Sender = turn_order c.args.table.now in
    let plan : List Sender = laid_out gap c.args.left.rest order in
    let facts = valid_facts c.args.table.now c.senders-n.ensures.valid in
    let at : ℕ = c.loop-k.end + (c.gap_in.result + c.args.left.share + c.lesser.result) in
    let step = step_laid gap plan order c.loop-k.k c.loop-k.end c.loop-k.rest c.turn_at-sender.result.now c.loop-k.offsets c.from.result at
    (at + c.longest.result) c.saturating_sub-rest-in-loop-k.result
    (laid.laid_differ gap (λ n s. refl_gap n s) c.args.left.rest order (order_differ c.args.table.now facts))
    c.turn_at-sender.ensures c.loop-k.invariant.still c.loop-k.invariant.told c.loop-k.invariant.size
    (c.from.ensures ∙ c.number.ensures.value) (omega (arith, c.gap_in.ensures.value, c.lesser.ensures)) (omega (arith, c.longest.ensures.value))
    c.saturating_sub-rest-in-loop-k.ensures in
    record {
      told = step.0;
      still = step.1;
      size = length-set c.loop-k.offsets c.from.result at ∙ c.loop-k.invariant.size;
      room = omega (arith, c.loop-k.invariant.room, c.gap_in.ensures.bound, c.requires.share, c.lesser.ensures, c.longest.ensures.bound);
    }
  where
    refl_gap : (n : ℕ) (s : Sender) → gap_in c.args.d c.args.shape (at_offset n s) + c.args.left.share ≡ gap_in c.args.d c.args.shape s + c.args.left.share
    refl_gap n s = refl

pub returns : goal.returns
returns c =
    let gap : Sender → ℕ = λ s. gap_in c.args.d c.args.shape s + c.args.left.share in
    let order : List Sender = turn_order c.args.table.now in
    let plan : List Sender = laid_out gap c.args.left.rest order in
    let same : length c.senders-n.result.now ≡ length c.args.table.now.senders = ap length c.senders-n.ensures.value in
    let long = laid_length gap c.args.left.rest order in
    let many = order_length c.args.table.now in
    let all : take c.loop-k.k plan ≡ plan = take_all c.loop-k.k plan (omega (arith, long, many, same, c.loop-k-test.false)) in
    λ number low. c.loop-k.invariant.told number low ∙ ap (λ l. offset_in l number) all
