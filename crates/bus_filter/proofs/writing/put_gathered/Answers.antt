use Rattle.std.proofs.Common.{◌+◌, ◌≤◌, length, arith, List, ℕ, Bool, subst, sym, take}
use Rattle.std.specs.List.{flat_map, zip}
use Rattle.bus_outer.specs.Texts.{Adds}
use Rattle.bus_outer.proofs.TextLaws.{◌▸◌, adds_nothing}
use Rattle.bus_strings.specs.Messages.{Entry}
use Rattle.bus_strings.specs.Transmissions.{marks}
use Rattle.bus_filter.specs.Received.{Taker}
use Rattle.bus_filter.specs.inside.Putting.{marked_put}
use Rattle.bus_strings.proofs.ListLaws.{flat_map-more}
use Rattle.bus_strings.proofs.MarkLaws.{all_marked}
use Rattle.bus_filter.proofs.KeyLemmas.{as_many, key_at, next_pair, marked_at, skips}
use Rattle.bus_filter.proofs.writing.put_gathered.Goals as goal

pub loop-at-init : goal.loop-at-init
loop-at-init g c =
    let taker : Taker = record { number = c.args.number; takes = c.args.takes.now } in
    let list : List Entry = c.args.list.now in
    let high : c.next_taken-at.result ≤ length list = omega (arith, c.next_taken-at.ensures.high, as_many list c.args.keys.now c.requires.keys) in
    record {
      high = high;
      put = subst (λ (t : List ℕ). Adds g.K.Sink.held g.K.Sink.faults c.args.sink.now c.args.sink.now c.args.text.now c.args.text.now t)
          (sym (skips taker list c.args.keys.now c.args.spans.now.first c.args.spans.now.behind 0 c.next_taken-at.result c.requires.spans c.requires.keys
          c.next_taken-at.ensures.low high c.next_taken-at.ensures.skipped))
          (adds_nothing g.K.Sink.held g.K.Sink.faults c.args.sink.now c.args.text.now);
    }

pub bounds-keys-at : goal.bounds-keys-at
bounds-keys-at g c = omega (arith, c.loop-at-test.true, as_many c.args.list.now c.args.keys.now c.requires.keys)

pub next_taken-at-requires-in-loop-at-clause-from : goal.next_taken-at-requires-in-loop-at-clause-from
next_taken-at-requires-in-loop-at-clause-from g c =
    omega (arith, c.loop-at-test.true, as_many c.args.list.now c.args.keys.now c.requires.keys)

pub loop-at-preserved : goal.loop-at-preserved
loop-at-preserved g c =
    let taker : Taker = record { number = c.args.number; takes = c.args.takes.now } in
    let list : List Entry = c.args.list.now in
    let x : Entry = c.index-list-at.result in
    let at = c.loop-at.at in
    let high : c.next_taken-at-in-loop-at.result ≤ length list = omega (arith, c.next_taken-at-in-loop-at.ensures.high, as_many list c.args.keys.now c.requires.keys) in
    let put = subst (λ (t : List ℕ). Adds g.K.Sink.held g.K.Sink.faults c.args.sink.now c.put_keyed.new.sink c.args.text.now c.put_keyed.new.text t)
    (flat_map-more (marked_put taker) (take at (zip list (marks list))) _ (x, marked_at list at) (next_pair list at x c.loop-at-test.true c.index-list-at.is))
    (c.loop-at.invariant.put ▸ c.put_keyed.ensures (marked_at list at) (key_at list c.args.keys.now at x c.requires.keys c.loop-at-test.true c.index-list-at.is)) in
    record {
      high = high;
      put = subst (λ (t : List ℕ). Adds g.K.Sink.held g.K.Sink.faults c.args.sink.now c.put_keyed.new.sink c.args.text.now c.put_keyed.new.text t)
          (sym (skips taker list c.args.keys.now c.args.spans.now.first c.args.spans.now.behind (at + 1) c.next_taken-at-in-loop-at.result c.requires.spans c.requires.keys
          c.next_taken-at-in-loop-at.ensures.low high c.next_taken-at-in-loop-at.ensures.skipped)) put;
    }

pub returns : goal.returns
returns g c =
    let taker : Taker = record { number = c.args.number; takes = c.args.takes.now } in
    subst (λ (pairs : List (Entry × Bool)). Adds g.K.Sink.held g.K.Sink.faults c.args.sink.now c.loop-at.sink c.args.text.now c.loop-at.text (flat_map (marked_put taker) pairs))
    (all_marked c.args.list.now c.loop-at.at c.loop-at-test.false) c.loop-at.invariant.put
