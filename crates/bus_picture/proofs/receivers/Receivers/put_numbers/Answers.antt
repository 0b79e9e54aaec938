use Rattle.std.proofs.Common.{◌≡◌, ℕ, Bool, List, ◌++◌, arith, ap, subst, ◌∙◌}
use Rattle.std.specs.List.{filter, range_with_len}
use Rattle.bus_outer.specs.Texts.{Adds}
use Rattle.bus_outer.proofs.TextLaws.{◌▸◌}
use Rattle.bus_picture.specs.Takings.{is_taken_by}
use Rattle.bus_picture.specs.inside.Noting.{has_numbers, none_words, numbers_so_far}
use Rattle.bus_picture.proofs.TakingLemmas.{all_numbers, numbers_more, some_more}
use Rattle.bus_picture.proofs.receivers.Receivers.put_numbers.Goals as goal

pub loop-before-preserved : goal.loop-before-preserved
loop-before-preserved g c =
    let i = c.loop-before.invariant in
    let test : ℕ → Bool = is_taken_by c.args.self.now c.args.sent.now c.args.string.now in
    record {
      adds = subst (λ (t : List ℕ). Adds g.K.Sink.held g.K.Sink.faults c.args.sink.now c.put_more.new.sink c.args.text.now c.put_more.new.text t)
          (numbers_more test c.loop-before.before c.loop-before.some c.is_taken_by-takes.result i.some c.is_taken_by-takes.ensures)
          (i.adds ▸ c.put_more.ensures);
      some = c.either-some.ensures ∙ some_more test c.loop-before.before c.loop-before.some c.is_taken_by-takes.result i.some c.is_taken_by-takes.ensures;
    }

pub returns : goal.returns
returns g c =
    let i = c.loop-before.invariant in
    let test : ℕ → Bool = is_taken_by c.args.self.now c.args.sent.now c.args.string.now in
    let all : c.loop-before.before ≡ 128 = omega arith in
    subst (λ (t : List ℕ). Adds g.K.Sink.held g.K.Sink.faults c.args.sink.now c.put_none.new.sink c.args.text.now c.put_none.new.text t)
    (ap (λ (n : ℕ). numbers_so_far (filter test (range_with_len 1 n)) ++ none_words c.loop-before.some) all
    ∙ all_numbers (filter test (range_with_len 1 128)) c.loop-before.some (i.some ∙ ap (λ (n : ℕ). has_numbers (filter test (range_with_len 1 n))) all))
    (i.adds ▸ c.put_none.ensures)
