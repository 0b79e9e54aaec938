use Rattle.std.proofs.Common.{◌*◌, ◌<◌, ◌-◌, arith, sym, ap, ◌∙◌}
use Rattle.bus_strings.specs.Messages.{word_count}
use Rattle.bus_strings.specs.Pulses.{is_on}
use Rattle.bus_strings.proofs.PulsesAlongLaws.{found, one_searched, all_searched}
use Rattle.bus_strings.proofs.pulses.is_on.Goals as goal

pub returns-then-d-begin-2 : goal.returns-then-d-begin-2
returns-then-d-begin-2 c =
    let m = c.strings-string-items in
    let inside : c.args.d - c.loop-string.begin < 20 * word_count c.string-item.result = omega arith in
    sym (ap (λ w. is_on w c.args.d) (sym m.ensures.value) ∙ found m.result.now c.loop-string.string-index c.loop-string.begin c.args.d c.string-item.result (omega arith) c.string-item.is c.loop-string.invariant.searched (omega arith) inside)

pub loop-string-preserved : goal.loop-string-preserved
loop-string-preserved c = record {
  searched = one_searched c.strings-string-items.result.now c.loop-string.string-index c.loop-string.begin c.args.d c.string-item.result _ (omega arith) c.string-item.is c.loop-string.invariant.searched (omega arith) (omega arith) (omega arith);
  bound = omega arith;
}

pub returns : goal.returns
returns c =
    let m = c.strings-string-items in
    sym (ap (λ w. is_on w c.args.d) (sym m.ensures.value) ∙ all_searched m.result.now c.loop-string.string-index c.loop-string.begin c.args.d c.loop-string-test.false c.loop-string.invariant.searched)
