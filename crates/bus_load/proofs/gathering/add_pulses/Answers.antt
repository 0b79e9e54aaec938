use Rattle.std.proofs.Common.{◌+◌, ◌∙◌, ap, arith}
use Rattle.bus_strings.specs.Messages.{Entry}
use Rattle.bus_load.proofs.PulseLemmas.{all_made, one_more}
use Rattle.bus_load.proofs.gathering.add_pulses.Goals as goal

pub loop-string-preserved : goal.loop-string-preserved
loop-string-preserved c = record {
  makes =
      one_more c.loop-string.stretches.items c.add.new.stretches.items c.args.stretches.now.items c.strings-string-items.result.now c.strings-string-items.result.now
      c.loop-string.string-index c.loop-string.from (c.loop-string.from + c.from.result) _ c.args.x.now.moment c.string-item.result (omega arith) c.string-item.is
      (omega arith) (omega arith) c.in_ok-add.ensures.within c.loop-string.invariant.makes;
  some = λ h. c.in_ok-add.ensures.some (c.loop-string.invariant.some h);
  low = omega arith;
}

pub returns-clause-within : goal.returns-clause-within
returns-clause-within c =
    all_made c.loop-string.stretches.items c.args.stretches.now.items c.strings-string-items.result.now c.strings-string-items.result.now
    c.loop-string.string-index c.loop-string.from c.args.x.now (omega arith)
    (c.strings-string-items.ensures.value ∙ ap (λ (e : Entry). e.message) c.x.view_is) c.loop-string.invariant.makes
