use Rattle.std.proofs.Common.{arith, ◌≡◌, ℕ, ◌+◌, ◌*◌, ◌<◌, List, [], ◌∷◌, length, drop, Option, sym, ap, ◌∙◌}
use Rattle.std.proofs.lemmas.List.{drop_all, drop_more}
use Rattle.std.proofs.lemmas.Option.{get_or_from_slice_get, slice_get_within}
use Rattle.bus_table.specs.Lengths.{longest}
use Rattle.bus_table.specs.Tables.{Sender}
use Rattle.bus_table.specs.Turns.{turn_order}
use Rattle.bus_table.proofs.TurnLaws.{order_length}
use Rattle.bus_margins.specs.declared.level.Margins.{Margins}
use Rattle.bus_margins.specs.Rooms.{most_apart}
use Rattle.bus_margins.specs.Times.{most_time}
use Rattle.bus_bounds.specs.Bounds.{long}
use Rattle.bus_made.specs.declared.wish.Lack.{Lack}
use Rattle.bus_made.specs.declared.wish.Wish.{Wish}
use Rattle.bus_made.specs.Wishes.{lack_of, lacking_of, wish_of, worse, worst_age}
use Rattle.bus_made.proofs.wish.lacking.Goals as goal

pub loop-k-preserved : goal.loop-k-preserved
loop-k-preserved c =
    let order : List Sender = turn_order c.args.table.now in
    let k : ℕ = c.loop-k.k in
    let a : Sender = c.turn_at-sender.result.now in
    let within : k < length order = slice_get_within order k a c.turn_at-sender.ensures in
    let here : drop k order ≡ a ∷ drop (k + 1) order =
    drop_more order k a within ∙ ap (λ (s : Sender). s ∷ drop (k + 1) order) (get_or_from_slice_get order k a a c.turn_at-sender.ensures) in
    let most : c.margins-most.result.most ≡ most_apart c.args.bounds c.args.table.now = ap (λ (m : Margins). m.most) c.margins-most.ensures in
    let message : c.long-message.result ≡ most_time c.args.bounds (longest a) =
    c.long-message.ensures.value ∙ ap (λ n. long c.args.bounds (500 * n)) (c.from.ensures ∙ c.longest.ensures.value) in
    let one = c.from-in-loop-k.ensures in
    let two = c.from-in-loop-k-2.ensures in
    let three = c.from-in-loop-k-3.ensures in
    let delay = c.delay.ensures.value in
    let age : c.from-in-loop-k.result + c.from-in-loop-k-2.result + c.from-in-loop-k-3.result ≡ worst_age c.args.bounds c.args.table.now a =
    omega (arith, most, message, one, two, three, delay) in
    let wish : c.wish_of-wish.result ≡ wish_of c.args.wishes.now a.number =
    c.wish_of-wish.ensures ∙ ap (wish_of c.args.wishes.now) c.number.ensures.value in
    let lack : c.lack_of.result ≡ lack_of a.number (worst_age c.args.bounds c.args.table.now a) (wish_of c.args.wishes.now a.number) =
    c.lack_of.ensures
    ∙ ap (λ n. lack_of n (c.from-in-loop-k.result + c.from-in-loop-k-2.result + c.from-in-loop-k-3.result) c.wish_of-wish.result) c.number-in-loop-k.ensures.value
    ∙ ap (λ n. lack_of a.number n c.wish_of-wish.result) age
    ∙ ap (λ (o : Option Wish). lack_of a.number (worst_age c.args.bounds c.args.table.now a) o) wish in
    ap (λ (o : Option Lack). lacking_of c.args.bounds c.args.table.now c.args.wishes.now o (drop (k + 1) order))
    (c.worse-known.ensures ∙ ap (worse c.loop-k.known) lack)
    ∙ sym (ap (lacking_of c.args.bounds c.args.table.now c.args.wishes.now c.loop-k.known) here)
    ∙ c.loop-k.invariant

pub returns : goal.returns
returns c =
    let many = order_length c.args.table.now in
    let same : length c.senders-k-end.result.now ≡ length c.args.table.now.senders = ap length c.senders-k-end.ensures.value in
    let over = c.loop-k-test.false in
    let none : drop c.loop-k.k (turn_order c.args.table.now) ≡ [] = drop_all c.loop-k.k (turn_order c.args.table.now) (omega (arith, many, same, over)) in
    sym (ap (lacking_of c.args.bounds c.args.table.now c.args.wishes.now c.loop-k.known) none) ∙ c.loop-k.invariant
