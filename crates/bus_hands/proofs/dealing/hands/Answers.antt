use Rattle.std.proofs.Common.{◌∷◌, ◌++◌, [], nat_eq, arith, ap, sym, refl, ◌∙◌, subst, List, map, append_assoc}
use Rattle.std.proofs.lemmas.List.{nil_from_length, append-nil}
use Rattle.std.specs.Vec.Iter.{into_iter_items}
use Rattle.std.specs.List.{list_all, IsDistinct}
use Rattle.bus_strings.specs.Items.{Item}
use Rattle.bus_table.specs.Hands.{hand_of, are_hands}
use Rattle.bus_table.specs.Tables.{Sender}
use Rattle.bus_table.specs.inside.Fitting.{is_fit}
use Rattle.bus_table.proofs.ValidLaws.{valid_facts}
use Rattle.bus_table.proofs.HandFits.{hands_of_fit}
use Rattle.bus_table.proofs.HandLemmas.{each_fits, fit_now}
use Rattle.bus_hands.proofs.dealing.hands.Goals as goal

pub loop-item-init : goal.loop-item-init
loop-item-init c =
    let items = c.into_iter-item-iterator.ensures.into_iter_gives.0 ∙ c.payloads.view_is in
    let senders = c.senders-senders.ensures.value in (
      [],
      items,
      ap (list_all (is_fit c.senders-senders.result.now)) items ∙ ap (λ (ss : List Sender). list_all (is_fit ss) c.args.payloads) senders ∙ each_fits 1 c.args.table.now.senders c.args.payloads c.requires,
      c.in_ok-hands.ensures,
    )

pub deal-requires-clause-distinct : goal.deal-requires-clause-distinct
deal-requires-clause-distinct c =
    subst (λ (ss : List Sender). IsDistinct nat_eq (map (λ s. s.number) ss)) (sym c.senders-senders.ensures.value) (valid_facts c.args.table.now c.senders-senders.ensures.valid).numbers

pub loop-item-preserved : goal.loop-item-preserved
loop-item-preserved c =
    let inv = c.loop-item.invariant in
    let rest = into_iter_items c.next.new.self in
    let fit = fit_now c.senders-senders.result.now (into_iter_items c.loop-item.item-iterator) rest c.in-Some.item c.in-Some.item inv.2 c.in-Some.ensures.steps.0 (refl) in (
      inv.0 ++ c.in-Some.item ∷ [],
      append_assoc inv.0 (c.in-Some.item ∷ []) rest ∙ ap (λ (is : List Item). inv.0 ++ is) (sym c.in-Some.ensures.steps.0) ∙ inv.1,
      fit.1,
      c.in_ok-deal.ensures.dealt inv.0 inv.3,
    )

pub returns-clause-fit : goal.returns-clause-fit
returns-clause-fit c =
    let left = nil_from_length (into_iter_items c.loop-item.item-iterator) (omega (arith, c.in-None.ensures.steps.0, c.loop-item.item-iterator.rest.ok)) in
    let inv = c.loop-item.invariant in
    let all = sym (append-nil inv.0) ∙ ap (λ (is : List Item). inv.0 ++ is) (sym left) ∙ inv.1 in
    let made = inv.3 ∙ ap (λ (is : List Item). map (hand_of is) c.senders-senders.result.now) all ∙ ap (map (hand_of c.args.payloads)) c.senders-senders.ensures.value in
    ap (are_hands c.args.table.now.senders) made ∙ hands_of_fit c.args.table.now c.args.payloads c.senders-senders.ensures.valid c.requires
