use Rattle.std.proofs.Common.{◌==◌, ◌∙◌, ◌∷◌, ◌++◌, [], ap, sym, List, map, set, get_or}
use Rattle.bus_strings.specs.Items.{Item, numbers}
use Rattle.bus_strings.specs.Messages.{Message}
use Rattle.bus_table.specs.Fits.{has_shape}
use Rattle.bus_table.specs.Hands.{message_of, hand_of}
use Rattle.bus_table.specs.declared.line.SendLine.{SendLine}
use Rattle.bus_table.specs.Tables.{Hand}
use Rattle.bus_table.specs.inside.Fitting.{is_fit}
use Rattle.bus_table.specs.Hands.{with_message}
use Rattle.bus_table.proofs.HandLemmas.{next_hands, stands, stands_at, shape_at}
use Rattle.bus_hands.proofs.dealing.deal.Goals as goal

pub unwrap-place-requires : goal.unwrap-place-requires
unwrap-place-requires c =
    let item : Item = record { terminal = c.item.inside.terminal; strings = numbers c.item.inside.strings.items } in
    let fit = ap (is_fit c.args.senders.now) c.item.view_is ∙ c.requires.fit in
    rw c.of.ensures (stands (λ s. s.number == item.terminal) c.args.senders.now item fit)

pub message-requires-clause-shape : goal.message-requires-clause-shape
message-requires-clause-shape c =
    let item : Item = record { terminal = c.item.inside.terminal; strings = numbers c.item.inside.strings.items } in
    let fit = ap (is_fit c.args.senders.now) c.item.view_is ∙ c.requires.fit in
    let at = stands_at c.args.senders.now item.terminal c.unwrap-place.result c.index-senders-place.result (sym c.of.ensures ∙ c.unwrap-place.ensures) c.index-senders-place.is in
    ap (λ (ls : List SendLine). has_shape ls item.strings) c.sends.ensures.value ∙ shape_at c.args.senders.now item c.index-senders-place.result fit at.found

pub returns-clause-dealt : goal.returns-clause-dealt
returns-clause-dealt c = λ done dealt.
    let item : Item = record { terminal = c.item.inside.terminal; strings = numbers c.item.inside.strings.items } in
    let k = c.unwrap-place.result in
    let sender = c.index-senders-place.result in
    let at = stands_at c.args.senders.now item.terminal k sender (sym c.of.ensures ∙ c.unwrap-place.ensures) c.index-senders-place.is in
    let old = c.index_mut.result.now in
    let there = c.index_mut.ensures.value ∙ ap (λ (hs : List Hand). get_or hs k old) dealt in
    let made = c.in_ok-push.ensures ∙ ap (λ (m : Message). with_message old m) (c.in_ok-message.ensures ∙ ap (λ (ls : List SendLine). message_of ls item.strings) c.sends.ensures.value) in
    ap (λ (hs : List Hand). set hs k c.push.new.self) dealt
    ∙ next_hands done item c.args.senders.now k sender old c.push.new.self c.requires.distinct at.less c.index-senders-place.is at.same there made
    ∙ ap (λ (i : Item). map (hand_of (done ++ i ∷ [])) c.args.senders.now) c.item.view_is
