use Rattle.std.proofs.Common.{arith, ◌≡◌, ◌∙◌, ◌+◌, ◌<◌, ◌||◌, ◌++◌, ℕ, Bool, false, List, length, take, Some, refl, ap, sym, subst, max}
use Rattle.std.specs.Prelude.{nat_lt, slice_get}
use Rattle.std.specs.List.{flat_map, zip}
use Rattle.std.specs.Option.{option_map_or}
use Rattle.std.proofs.lemmas.Option.{slice_get_read}
use Rattle.bus_outer.specs.Texts.{Adds}
use Rattle.bus_outer.proofs.TextLaws.{◌▸◌, adds_nothing}
use Rattle.bus_strings.specs.Messages.{Entry}
use Rattle.bus_strings.specs.Marking.{greatest_end}
use Rattle.bus_strings.specs.Transmissions.{end_of, garbled, marks}
use Rattle.bus_strings.proofs.ListLaws.{flat_map-more}
use Rattle.bus_strings.proofs.MarkLaws.{all_marked}
use Rattle.bus_strings.proofs.OverlapLemmas.{ascending_is_by_moment, greatest_more}
use Rattle.bus_medium.specs.Delays.{Delays, cable, later, heard}
use Rattle.bus_cable.specs.declared.hearing.Heard.{Heard}
use Rattle.bus_cable.specs.Hearing.{hearing}
use Rattle.bus_cable.specs.inside.Ranks.{rank, rank_in, heard_as, heard_put, marked_put, IsFirst}
use Rattle.bus_propagation.specs.Numbered.{numbered}
use Rattle.bus_cable.proofs.HearingLemmas.{IsRanked, selected_first, selected_next, ranked_at, hearing_ranked, hearing_by_moment, hearing_words, to_hearing, from_hearing, length-heard, length-hearing, place_within, heard_at, put_same, before_both, garbled_is, marked_more}
use Rattle.bus_cable.proofs.heard.put_hearings.Goals as goal

pub first_heard-at-requires-clause-order : goal.first_heard-at-requires-clause-order
first_heard-at-requires-clause-order g c = ascending_is_by_moment c.args.list.now c.requires.order

pub first_heard-at-requires-in-loop-clause-order : goal.first_heard-at-requires-in-loop-clause-order
first_heard-at-requires-in-loop-clause-order g c = ascending_is_by_moment c.args.list.now c.requires.order

pub loop-init : goal.loop-init
loop-init g c =
    let place = numbered c.args.places.now in
    let list : List Entry = c.args.list.now in
    let n = c.args.number in
    record {
      here = selected_first (heard (cable place) n list) (hearing (cable place) list n) c.first_heard-at.result (hearing_ranked place list n c.requires.order c.requires.ranges)
          (to_hearing (cable place) list n) (from_hearing (cable place) list n)
          (subst (λ (k : ℕ). IsFirst (rank_in (heard (cable place) n list)) 0 0 k c.first_heard-at.result) (sym (length-heard (cable place) list n)) c.first_heard-at.ensures);
      within = omega arith;
      before = λ x k e h. absurd (omega arith);
      latest_is = refl;
      adds = adds_nothing g.K.Sink.held g.K.Sink.faults c.args.sink.now c.args.text.now;
    }

within_by : (place : ℕ → ℕ) (list : List Entry) (n at i : ℕ) → slice_get (heard (cable place) n list) at ≡ slice_get (hearing (cable place) list n) i → i < length list → at < length list
within_by place list n at i e h =
    let w = place_within (heard (cable place) n list) (hearing (cable place) list n) at i e (omega (arith, length-hearing (cable place) list n, h)) in
    omega (arith, w, length-heard (cable place) list n)

pub bounds-list-at : goal.bounds-list-at
bounds-list-at g c = within_by (numbered c.args.places.now) c.args.list.now c.args.number c.loop.at c.loop.counter c.loop.invariant.here c.loop-test.true

pub offset_bounds-list-at : goal.offset_bounds-list-at
offset_bounds-list-at g c = grind (arith, within_by (numbered c.args.places.now) c.args.list.now c.args.number c.loop.at c.loop.counter c.loop.invariant.here c.loop-test.true)

pub loop-preserved : goal.loop-preserved
loop-preserved g c =
    let place = numbered c.args.places.now in
    let list : List Entry = c.args.list.now in
    let n = c.args.number in
    let delay : Delays = cable place in
    let L = heard delay n list in
    let H = hearing delay list n in
    let i = c.loop.counter in
    let x : Entry = c.index-list-at.result in
    let y : Entry = later (delay x n) x in
    let ranked : IsRanked H = hearing_ranked place list n c.requires.order c.requires.ranges in
    let within : c.loop.at < length list = within_by place list n c.loop.at i c.loop.invariant.here c.loop-test.true in
    let at : slice_get H i ≡ Some y = sym c.loop.invariant.here ∙ heard_at delay n list c.loop.at x (slice_get_read list (length list) c.loop.at x refl within c.index-list-at.is) in
    let moment : c.hear-heard.result.moment ≡ y.moment = ap (λ (h : Heard). h.moment) c.hear-heard.ensures.value in
    let terminal : c.hear-heard.result.terminal ≡ y.terminal = ap (λ (h : Heard). h.terminal) c.hear-heard.ensures.value in
    let end : c.hear-heard.result.end ≡ end_of y = ap (λ (h : Heard). h.end) c.hear-heard.ensures.value in
    let bound : ℕ = c.rank_of-bound.result + 1 in
    let bound_is : bound ≡ rank y + 1 = omega (arith, moment, terminal, c.rank_of-bound.ensures) in
    let passed : (k : ℕ) → k < c.passed-from.result → rank_in L k < rank y + 1 =
    before_both (rank_in L) c.loop.from c.passed-from.result (rank y + 1) (λ k h. c.loop.invariant.before y k at h)
    (λ k low high. let b : rank_in L k < bound = c.passed-from.ensures.before k low high in omega (arith, b, bound_is)) in
    let next : slice_get L c.first_heard-at-in-loop.result ≡ slice_get H (i + 1) =
    selected_next L H i c.passed-from.result c.first_heard-at-in-loop.result y ranked (to_hearing delay list n) (from_hearing delay list n) at passed
    (subst (λ (k : ℕ). IsFirst (rank_in L) c.passed-from.result (rank y + 1) k c.first_heard-at-in-loop.result) (sym (length-heard delay list n))
    (subst (λ (b : ℕ). IsFirst (rank_in L) c.passed-from.result b (length list) c.first_heard-at-in-loop.result) bound_is c.first_heard-at-in-loop.ensures)) in
    let mark : c.is_garbled-garbled.result ≡ garbled H i =
    c.is_garbled-garbled.ensures
    ∙ ap (λ b. nat_lt c.hear-heard.result.moment c.loop.latest || b) (c.begins_before-next.ensures ∙ ap (λ o. option_map_or (λ z. nat_lt z.moment c.hear-heard.result.end) o false) next ∙ ap (λ e. option_map_or (λ z. nat_lt z.moment e) (slice_get H (i + 1)) false) end)
    ∙ ap (λ m. nat_lt m c.loop.latest || option_map_or (λ z. nat_lt z.moment (end_of y)) (slice_get H (i + 1)) false) moment
    ∙ sym (garbled_is H i c.loop.latest y (hearing_by_moment place list n c.requires.order c.requires.ranges) (hearing_words place list n c.requires.ranges) at c.loop.invariant.latest_is) in
    let put : heard_put n c.hear-heard.result c.is_garbled-garbled.result ≡ marked_put n (y, garbled H i) =
    ap (λ h. heard_put n h c.is_garbled-garbled.result) c.hear-heard.ensures.value ∙ ap (heard_put n (heard_as y)) mark ∙ put_same n y (garbled H i) in
    record {
      here = next;
      within = c.passed-from.ensures.within;
      before = λ z k e h. (let r = ranked_at H i (i + 1) y z ranked at e (omega arith) in let p = passed k h in omega (arith, r, p));
      latest_is = c.max-latest.ensures ∙ ap (λ e. max e c.hear-heard.result.end) c.loop.invariant.latest_is ∙ ap (λ e. max (greatest_end (take i H)) e) end ∙ sym (greatest_more H i y at);
      adds = subst (λ (t : List ℕ). Adds g.K.Sink.held g.K.Sink.faults c.args.sink.now c.put_heard.new.sink c.args.text.now c.put_heard.new.text t)
          (ap (λ t. flat_map (marked_put n) (take i (zip H (marks H))) ++ t) put ∙ flat_map-more (marked_put n) (take i (zip H (marks H))) _ (y, garbled H i) (marked_more H i y at))
          (c.loop.invariant.adds ▸ c.put_heard.ensures);
    }

pub returns : goal.returns
returns g c =
    let H = hearing (cable (numbered c.args.places.now)) c.args.list.now c.args.number in
    subst (λ (pairs : List (Entry × Bool)). Adds g.K.Sink.held g.K.Sink.faults c.args.sink.now c.loop.sink c.args.text.now c.loop.text (flat_map (marked_put c.args.number) pairs))
    (all_marked H c.loop.counter (omega (arith, length-hearing (cable (numbered c.args.places.now)) c.args.list.now c.args.number, c.loop-test.false))) c.loop.invariant.adds
