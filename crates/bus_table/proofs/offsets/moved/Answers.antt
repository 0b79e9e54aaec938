use Rattle.std.proofs.Common.{arith, ap, ◌∙◌, ◌<◌, ◌∷◌, ◌++◌, [], refl, sym, length, get_or, take, ℕ, List}
use Rattle.bus_table.specs.Tables.{Sender}
use Rattle.bus_table.specs.Offsets.{at_offsets}
use Rattle.bus_table.proofs.OffsetLemmas.{moved_next}
use Rattle.bus_table.proofs.offsets.moved.Goals as goal

pub loop-i-preserved : goal.loop-i-preserved
loop-i-preserved c =
    let i : ℕ = c.loop-i.i in
    let offsets : List ℕ = c.args.offsets.now in
    let senders : List Sender = c.args.senders.now in
    let here : c.loop-i.i < length c.args.senders.now = omega (arith, c.loop-i-test.true) in
    let there : c.loop-i.i < length c.args.offsets.now = omega (arith, c.loop-i-test.true, c.requires.count) in
    let next = moved_next offsets senders i (get_or offsets i 0) 0 c.index-senders-i.result there here refl c.index-senders-i.is in
    c.in_ok-push.ensures.items
    ∙ ap (λ (ss : List Sender). ss ++ c.in_ok-moved.field-0 ∷ []) c.loop-i.invariant
    ∙ ap (λ (s : Sender). at_offsets (take i offsets) (take i senders) ++ s ∷ []) c.in_ok-moved.ensures
    ∙ sym next
