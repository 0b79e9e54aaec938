use Rattle.std.proofs.Common.{◌≡◌, Bool, false, List, ap, ◌∙◌, map, Ok, Err}
use Rattle.std.specs.Prelude.{OnOk}
use Rattle.std.specs.Result.{is_err}
use Rattle.std.specs.declared.result.Result.{Result}
use Rattle.bus_strings.specs.Messages.{Entry}
use Rattle.bus_filter.specs.inside.Keys.{key}
use Rattle.bus_strings.proofs.MarkLaws.{next_marked, all_marked}
use Rattle.bus_filter.proofs.KeyLemmas.{key_more, low_more}
use Rattle.bus_filter.proofs.keys.gather.Goals as goal

when_ok : {T E : Type 0} (r : Result T E) (b : Bool) (P : Type 0) → b ≡ is_err r → b ≡ false → OnOk r P → P
when_ok (Ok v) b P e n h = h
when_ok (Err v) b P e n h = absurd cc

pub loop-x-preserved : goal.loop-x-preserved
loop-x-preserved c =
    let list : List Entry = c.args.list.now in
    let n = next_marked list c.loop-x.x-index c.x-item.result c.loop-x.marks c.next.new.self c.next.result c.eq-garbled.result
    c.x-item.is c.loop-x-test.true c.loop-x.invariant.left c.next.ensures.steps c.eq-garbled.ensures in
    let pushed = when_ok c.try_push.result c.is_err.result _ c.is_err.ensures.value c.if-is_err.false c.try_push.ensures.ok in
    record {
      left = n.1;
      gathered = key_more list c.loop-x.x-index c.x-item.result c.eq-garbled.result c.loop-x.keys.items c.try_push.new.self.items c.key.result n.0
          c.key.ensures.value pushed c.loop-x.invariant.gathered;
      range = low_more c.loop-x.keys.items c.try_push.new.self.items c.key.result pushed c.key.ensures.range c.loop-x.invariant.range;
    }

pub returns : goal.returns
returns c t = record {
  are = c.loop-x.invariant.gathered ∙ ap (map key) (all_marked c.args.list.now c.loop-x.x-index c.loop-x-test.false);
  range = c.loop-x.invariant.range;
}
