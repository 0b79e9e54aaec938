use Rattle.std.proofs.Common.{arith, ap, ◌≡◌, ◌∙◌, ◌<◌, ◌+◌, ◌∷◌, ◌++◌, [], sym, length, take, List, ℕ}
use Rattle.bus_table.specs.Tables.{Sender}
use Rattle.bus_table.proofs.ValidLaws.{valid_facts}
use Rattle.bus_plan.specs.inside.Walks as walks
use Rattle.bus_plan.proofs.Steps.{tops_small, walk_next, walk_end_next, walk_told}
use Rattle.bus_plan.proofs.walk.planned_offsets.Goals as goal

pub gap_between-requires-clause-first : goal.gap_between-requires-clause-first
gap_between-requires-clause-first c =
    let small = (tops_small c.args.table.now
    (valid_facts c.args.table.now c.senders-senders.ensures.valid) c.senders-senders.result.now c.senders-senders.ensures.value).0 in
    let told = c.greatest_gaps-first.ensures.first in
    omega (arith, small, told)

pub gap_between-requires-clause-second : goal.gap_between-requires-clause-second
gap_between-requires-clause-second c =
    let small = (tops_small c.args.table.now
    (valid_facts c.args.table.now c.senders-senders.ensures.valid) c.senders-senders.result.now c.senders-senders.ensures.value).1 in
    let told = c.greatest_gaps-first.ensures.second in
    omega (arith, small, told)

pub offset_for-requires : goal.offset_for-requires
offset_for-requires c =
    let few = (valid_facts c.args.table.now c.senders-senders.ensures.valid).few in
    let same : length c.senders-senders.result.now ≡ length c.args.table.now.senders = ap length c.senders-senders.ensures.value in
    let room = c.loop-sender.invariant.room in
    let here : c.loop-sender.sender-index < length c.senders-senders.result.now = omega (arith, c.loop-sender-test.true) in
    record { room = omega (arith, few, same, room, here) }

pub end_after-end-requires : goal.end_after-end-requires
end_after-end-requires c =
    let few = (valid_facts c.args.table.now c.senders-senders.ensures.valid).few in
    let same : length c.senders-senders.result.now ≡ length c.args.table.now.senders = ap length c.senders-senders.ensures.value in
    let room = c.loop-sender.invariant.room in
    let here : c.loop-sender.sender-index < length c.senders-senders.result.now = omega (arith, c.loop-sender-test.true) in
    record { room = omega (arith, few, same, room, here) }

pub loop-sender-preserved : goal.loop-sender-preserved
loop-sender-preserved c =
    let senders : List Sender = c.senders-senders.result.now in
    let i : ℕ = c.loop-sender.sender-index in
    let first : ℕ = c.greatest_gaps-first.result.0 in
    let second : ℕ = c.greatest_gaps-first.result.1 in
    let at : ℕ = c.longest_with.result + c.gap_between.result in
    let end : ℕ = at + walks.longest_with second senders in
    let here : i < length senders = omega (arith, c.loop-sender-test.true) in
    record {
      walked = c.in_ok-push.ensures.items
          ∙ ap (λ (l : List ℕ). l ++ c.offset_for.result ∷ []) c.loop-sender.invariant.walked
          ∙ ap (λ (n : ℕ). walks.walk first second at end (take i senders) ++ n ∷ []) (c.offset_for.ensures
          ∙ ap (λ (e : ℕ). walks.offset_for first second at e c.sender-item.result) c.loop-sender.invariant.ended)
          ∙ sym (walk_next first second at end senders i c.sender-item.result here c.sender-item.is);
      ended = c.end_after-end.ensures.value
          ∙ ap (λ (e : ℕ). walks.end_after first second e c.sender-item.result) c.loop-sender.invariant.ended
          ∙ sym (walk_end_next first second end senders i c.sender-item.result here c.sender-item.is);
      room = omega (arith, c.end_after-end.ensures.bound, c.loop-sender.invariant.room);
    }

pub returns : goal.returns
returns c =
    walk_told c.args.table.now (valid_facts c.args.table.now c.senders-senders.ensures.valid) c.senders-senders.result.now
    c.senders-senders.ensures.value c.loop-sender.offsets.items c.loop-sender.sender-index
    c.greatest_gaps-first.result.0 c.greatest_gaps-first.result.1 c.longest_with.result c.gap_between.result c.sg.result
    (omega (arith, c.loop-sender-test.false))
    c.loop-sender.invariant.walked c.greatest_gaps-first.ensures.first c.greatest_gaps-first.ensures.second c.longest_with.ensures.value
    c.gap_between.ensures.value c.sg.ensures.value
