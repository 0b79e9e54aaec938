use Rattle.std.proofs.Common.{◌≡◌, Bool, false, Ok, Err}
use Rattle.std.specs.Prelude.{OnOk}
use Rattle.std.specs.Result.{is_err}
use Rattle.std.specs.declared.result.Result.{Result}
use Rattle.bus_filter.proofs.KeyLemmas.{clear_more, clear_keys, low_more}
use Rattle.bus_filter.proofs.keys.gather_clear.Goals as goal

when_ok : {T E : Type 0} (r : Result T E) (b : Bool) (P : Type 0) → b ≡ is_err r → b ≡ false → OnOk r P → P
when_ok (Ok v) b P e n h = h
when_ok (Err v) b P e n h = absurd cc

pub loop-x-preserved : goal.loop-x-preserved
loop-x-preserved c =
    let pushed = when_ok c.try_push.result c.is_err.result _ c.is_err.ensures.value c.if-is_err.false c.try_push.ensures.ok in
    record {
      gathered = clear_more c.args.list.now c.loop-x.x-index c.x-item.result c.loop-x.keys.items c.try_push.new.self.items c.key.result
          c.x-item.is c.loop-x-test.true c.key.ensures.value pushed c.loop-x.invariant.gathered;
      range = low_more c.loop-x.keys.items c.try_push.new.self.items c.key.result pushed c.key.ensures.range c.loop-x.invariant.range;
    }

pub returns : goal.returns
returns c t = record {
  are = clear_keys c.args.list.now c.loop-x.x-index c.loop-x.keys.items c.neighbours_tell.ensures.clear c.requires.clear c.loop-x-test.false
      c.loop-x.invariant.gathered;
  range = c.loop-x.invariant.range;
}
