use Rattle.std.proofs.Common.{arith, List, ℕ, ◌≡◌, ◌++◌, ap, subst, sym, ◌∙◌}
use Rattle.std.specs.List.{flat_map, range_with_len}
use Rattle.bus_outer.specs.Texts.{Adds}
use Rattle.bus_outer.proofs.TextLaws.{◌▸◌}
use Rattle.bus_vote.specs.inside.Putting.{label_put}
use Rattle.bus_strings.proofs.ListLaws.{flat_map-range}
use Rattle.bus_vote.proofs.PutLemmas.{labels_are}
use Rattle.bus_vote.proofs.VotingLemmas.{some_is}
use Rattle.bus_vote.proofs.writing.put_labels.Goals as goal

pub loop-number-preserved : goal.loop-number-preserved
loop-number-preserved g c =
    let f : ℕ → List ℕ = label_put c.args.table.now c.args.list.now in
    let k : ℕ = c.loop-number.number in
    let e : c.unwrap-label.result ≡ k = some_is c.new.result c.unwrap-label.result k c.unwrap-label.ensures c.new.ensures.value in
    record {
      same = c.put_label.ensures.same;
      adds = subst (λ (t : List ℕ). Adds g.K.Sink.held g.K.Sink.faults c.args.sink.now c.put_label.new.sink c.args.text.now c.put_label.new.text t)
          (ap (λ n. flat_map f (range_with_len 0 k) ++ f n) e ∙ sym (flat_map-range f k))
          (c.loop-number.invariant.adds ▸ c.put_label.ensures.text);
    }

pub returns : goal.returns
returns g c =
    let e : c.loop-number.number ≡ 4096 = omega arith in
    subst (λ (t : List ℕ). Adds g.K.Sink.held g.K.Sink.faults c.args.sink.now c.loop-number.sink c.args.text.now c.loop-number.text t)
    (ap (flat_map (label_put c.args.table.now c.args.list.now)) (labels_are c.loop-number.number e))
    c.loop-number.invariant.adds
