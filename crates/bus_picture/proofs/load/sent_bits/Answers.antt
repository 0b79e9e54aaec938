use Rattle.std.proofs.Common.{◌≡◌, ℕ, ◌+◌, ◌<◌, length, arith, ap, ◌∙◌}
use Rattle.bus_strings.specs.Messages.{Entry}
use Rattle.bus_strings.specs.Pulses.{pulse_length, pulse_start}
use Rattle.bus_picture.specs.Loads.{common, pulse_bits}
use Rattle.bus_picture.proofs.LoadLemmas.{pulse_more}
use Rattle.bus_picture.proofs.load.sent_bits.Goals as goal

pub loop-k-preserved : goal.loop-k-preserved
loop-k-preserved c =
    let x : Entry = c.args.x.now in
    let k : ℕ = c.loop-k.k in
    let from : ℕ = x.moment + pulse_start x.message k in
    let is : c.loop-k.begin ≡ x.moment + pulse_start x.message k = c.loop-k.invariant.begin in
    let lasts : c.pulse_length.result ≡ pulse_length x.message k = c.pulse_length.ensures.value in
    let same : c.common-bits.result ≡ pulse_bits c.args.scale.now x k =
    c.common-bits.ensures.value ∙ ap (λ (n : ℕ). common c.args.scale.now n (n + c.pulse_length.result)) is
    ∙ ap (λ (n : ℕ). common c.args.scale.now (x.moment + pulse_start x.message k) (x.moment + pulse_start x.message k + n)) lasts in
    let within : k < length x.message = omega (arith, c.loop-k-test.true, c.pulse_count-k-end.ensures.value, ap (λ (e : Entry). length e.message) c.x.view_is) in
    let next : pulse_start x.message (k + 1) ≡ pulse_start x.message k + pulse_length x.message k + 4 = c.pulses_cover.ensures.next x.message k within in
    record {
      value = omega (arith, c.loop-k.invariant.value, pulse_more (pulse_bits c.args.scale.now x) k, same);
      few = omega (arith, c.loop-k.invariant.few, c.common-bits.ensures.few);
      begin = omega arith;
      low = omega (arith, c.loop-k.invariant.low, c.pulse_length.ensures.few);
    }
