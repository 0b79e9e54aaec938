use Rattle.std.proofs.Common.{ℕ, ◌≡◌, ◌+◌, ◌≤◌, ltb, subst, List, length, Some, get_or, set, arith, refl, sym, ap, ◌∙◌}
use Rattle.std.specs.Prelude.{slice_get}
use Rattle.std.specs.List.{find, range_with_len}
use Rattle.std.proofs.lemmas.Bool.{lt-ltb, le-ltb}
use Rattle.std.proofs.lemmas.List.{get_or-replicate, length-replicate}
use Rattle.std.proofs.Math.ListN.{length-set}
use Rattle.std.proofs.lemmas.Option.{slice_get_read}
use Rattle.bus_strings.specs.Messages.{Entry}
use Rattle.bus_dump.specs.Doubled.{doubled, is_doubled}
use Rattle.bus_dump.proofs.DoubleLemmas.{KeepsEnds, doubled_is, ends_more, first_passes, none_passes}
use Rattle.bus_dump.proofs.doubling.doubled.Goals as goal

pub returns-then-x-ends : goal.returns-then-x-ends
returns-then-x-ends c =
    let list : List Entry = c.list-list.result.now in
    let x : Entry = c.index-list-k.result in
    let at : slice_get list c.loop-k.k ≡ Some x = slice_get_read list (length list) c.loop-k.k c.index-list-k.result refl c.loop-k-test.true c.index-list-k.is in
    let own : x.terminal ≡ c.x.inside.terminal = sym (ap (λ (e : Entry). e.terminal) c.x.view_is) in
    let when : x.moment ≡ c.x.inside.moment = sym (ap (λ (e : Entry). e.moment) c.x.view_is) in
    let low : c.x.inside.terminal ≤ 128 = omega arith in
    let is = doubled_is list c.loop-k.ends c.loop-k.k c.x.inside.terminal c.x.inside.moment x c.loop-k.invariant.keeps low at own when in
    sym (ap doubled (sym c.list-list.ensures.value)
    ∙ first_passes (is_doubled list) c.loop-k.k (length list) c.loop-k-test.true c.loop-k.invariant.none
    (is ∙ lt-ltb c.x.inside.moment (get_or c.loop-k.ends c.x.inside.terminal 0) c.if-x-ends.true))

pub loop-k-preserved : goal.loop-k-preserved
loop-k-preserved c =
    let list : List Entry = c.list-list.result.now in
    let x : Entry = c.index-list-k.result in
    let at : slice_get list c.loop-k.k ≡ Some x = slice_get_read list (length list) c.loop-k.k c.index-list-k.result refl c.loop-k-test.true c.index-list-k.is in
    let own : x.terminal ≡ c.x.inside.terminal = sym (ap (λ (e : Entry). e.terminal) c.x.view_is) in
    let when : x.moment ≡ c.x.inside.moment = sym (ap (λ (e : Entry). e.moment) c.x.view_is) in
    let low : c.x.inside.terminal ≤ 128 = omega arith in
    let long : length c.loop-k.ends ≡ 129 = c.loop-k.invariant.long in
    let is = doubled_is list c.loop-k.ends c.loop-k.k c.x.inside.terminal c.x.inside.moment x c.loop-k.invariant.keeps low at own when in
    record {
      none = none_passes (is_doubled list) c.loop-k.k c.loop-k.invariant.none
          (is ∙ le-ltb c.x.inside.moment (get_or c.loop-k.ends c.x.inside.terminal 0) c.if-x-ends.false);
      long = rw length-set long;
      keeps = subst (λ e. KeepsEnds list (set c.loop-k.ends c.x.inside.terminal e) (c.loop-k.k + 1)) (sym c.max.ensures)
          (ends_more list c.loop-k.ends c.loop-k.k c.x.inside.terminal c.end.result x c.loop-k.invariant.keeps long low at own c.end.ensures.value);
    }

pub loop-k-init : goal.loop-k-init
loop-k-init c = record {
  none = refl;
  long = length-replicate {A = ℕ} 129 0;
  keeps = λ n m h. ap (ltb m) (get_or-replicate 129 n 0 0 (omega arith)) ∙ le-ltb m 0 (omega arith);
}

pub returns : goal.returns
returns c =
    let list : List Entry = c.list-list.result.now in
    let all : c.loop-k.k ≡ length list = omega arith in
    sym (ap doubled (sym c.list-list.ensures.value) ∙ ap (λ n. find (is_doubled list) (range_with_len 0 n)) (sym all) ∙ c.loop-k.invariant.none)
