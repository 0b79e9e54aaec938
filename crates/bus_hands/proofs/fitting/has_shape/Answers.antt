use Rattle.std.proofs.Common.{◌≡◌, ℕ, ◌+◌, arith, length, ap, sym, ◌∙◌, ◌&&◌, drop}
use Rattle.bus_strings.specs.Items.{numbers}
use Rattle.bus_table.specs.Fits.{allows, has_shape}
use Rattle.bus_table.proofs.FitLemmas.{shape_length, shape_step}
use Rattle.bus_table.proofs.WholeLemmas.{at_map, count_map}
use Rattle.bus_hands.proofs.fitting.has_shape.Goals as goal

pub returns-then-sends-strings : goal.returns-then-sends-strings
returns-then-sends-strings c = sym (shape_length c.args.sends.now (numbers c.args.strings.now) (λ e. absurd (omega (arith, e, count_map (λ v. v.items) c.args.strings.now))))

pub returns-then-not-allows : goal.returns-then-not-allows
returns-then-not-allows c =
    let sends = c.args.sends.now in
    let strings = numbers c.args.strings.now in
    let step = shape_step sends strings c.loop-k.k c.index-sends-k.result c.index-strings-k.result.items (omega arith) (omega (arith, c.loop-k.invariant.same, count_map (λ v. v.items) c.args.strings.now)) c.index-sends-k.is (at_map (λ v. v.items) c.args.strings.now c.loop-k.k c.index-strings-k.result c.index-strings-k.is) in
    let words : length c.index-strings-k.result.items ≡ c.len.result = omega (arith, c.len.ensures, c.index-strings-k.result.ok.0) in
    let refused = ap (λ (n : ℕ). allows c.index-sends-k.result n) words ∙ sym c.if-not-allows.ensures in
    sym (sym c.loop-k.invariant.left ∙ step ∙ ap (λ b. b && has_shape (drop (c.loop-k.k + 1) sends) (drop (c.loop-k.k + 1) strings)) refused)

pub loop-k-preserved : goal.loop-k-preserved
loop-k-preserved c =
    let sends = c.args.sends.now in
    let strings = numbers c.args.strings.now in
    let step = shape_step sends strings c.loop-k.k c.index-sends-k.result c.index-strings-k.result.items (omega arith) (omega (arith, c.loop-k.invariant.same, count_map (λ v. v.items) c.args.strings.now)) c.index-sends-k.is (at_map (λ v. v.items) c.args.strings.now c.loop-k.k c.index-strings-k.result c.index-strings-k.is) in
    let words : length c.index-strings-k.result.items ≡ c.len.result = omega (arith, c.len.ensures, c.index-strings-k.result.ok.0) in
    let allowed = ap (λ (n : ℕ). allows c.index-sends-k.result n) words ∙ sym c.if-not-allows.ensures in
    record {
      same = c.loop-k.invariant.same;
      left = sym (step ∙ ap (λ b. b && has_shape (drop (c.loop-k.k + 1) sends) (drop (c.loop-k.k + 1) strings)) allowed) ∙ c.loop-k.invariant.left;
    }
