use Rattle.std.proofs.Common.{◌≡◌, ◌≤◌, ◌∙◌, ℕ, ◌+◌, Bool, true, false, cond, refl, arith, ap}
use Rattle.std.specs.List.{count_by, range_with_len}
use mir.Val.{bool_byte}
use Rattle.bus_picture.specs.Boxes.{is_below_root}
use Rattle.bus_picture.proofs.LoadLemmas.{pulse_more}
use Rattle.bus_picture.proofs.cluster.root_height.Goals as goal

-- a test as a number
byte_is : (b : Bool) → bool_byte b ≡ cond b 1 0
byte_is true = refl
byte_is false = refl

byte_few : (b : Bool) → bool_byte b ≤ 1
byte_few true = omega arith
byte_few false = omega arith

pub loop-k-preserved : goal.loop-k-preserved
loop-k-preserved c =
    let f : ℕ → ℕ = λ (k : ℕ). cond (is_below_root c.args.busy c.args.bits (k + 1)) 1 0 in
    let more : c.from-height.result ≡ f c.loop-k.k =
    c.from-height.ensures ∙ byte_is c.is_below_root.result ∙ ap (λ (b : Bool). cond {A = ℕ} b 1 0) c.is_below_root.ensures in
    record {
      value = omega (arith, c.loop-k.invariant.value, pulse_more f c.loop-k.k, more);
      few = omega (arith, c.loop-k.invariant.few, c.from-height.ensures, byte_few c.is_below_root.result);
    }

pub returns-clause-value : goal.returns-clause-value
returns-clause-value c =
    let all : c.loop-k.k ≡ 180 = omega arith in
    c.loop-k.invariant.value
    ∙ ap (λ (n : ℕ). count_by (λ (k : ℕ). is_below_root c.args.busy c.args.bits (k + 1)) (range_with_len 0 n)) all
