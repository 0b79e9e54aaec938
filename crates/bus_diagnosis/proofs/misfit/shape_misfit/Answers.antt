use Rattle.std.proofs.Common.{arith, ◌≡◌, ℕ, ◌+◌, Bool, cond, List, length, drop, ap, sym, ◌∙◌}
use Rattle.bus_strings.specs.Items.{numbers}
use Rattle.bus_table.specs.Fits.{allows}
use Rattle.bus_table.proofs.WholeLemmas.{at_map, count_map}
use Rattle.bus_diagnosis.specs.Misfits.{Misfit, Words, words_misfit}
use Rattle.bus_diagnosis.proofs.MisfitLemmas.{words_step, shape_same}
use Rattle.bus_diagnosis.proofs.misfit.shape_misfit.Goals as goal

pub returns-then-not-allows : goal.returns-then-not-allows
returns-then-not-allows c =
    let sends = c.args.sends.now in
    let strings : List (List ℕ) = numbers c.args.strings.now in
    let k : ℕ = c.loop-k.k in
    let line = c.index-sends-k.result in
    let string : List ℕ = c.index-strings-k.result.items in
    let count : ℕ = length c.args.strings.now in
    let many : length strings ≡ count = count_map (λ v. v.items) c.args.strings.now in
    let step = words_step count (k + 1) sends strings k line string (omega arith) (omega (arith, c.loop-k.invariant.same, many)) c.index-sends-k.is
    (at_map (λ v. v.items) c.args.strings.now k c.index-strings-k.result c.index-strings-k.is) in
    let words : length string ≡ c.len-words.result = omega (arith, c.len-words.ensures, c.index-strings-k.result.ok.0) in
    let refused = ap (λ (n : ℕ). allows line n) words ∙ sym c.if-not-allows.ensures in
    let told : Bool → Misfit = λ b. cond b (words_misfit count (k + 1 + 1) (drop (k + 1) sends) (drop (k + 1) strings)) (Words (k + 1) (length string) line.least line.most) in
    ap (λ (n : ℕ). Words (k + 1) n line.least line.most) (sym words) ∙ sym (ap told refused) ∙ sym step ∙ c.loop-k.invariant.left
    ∙ ap (λ (n : ℕ). words_misfit n 1 sends strings) (sym many) ∙ sym (shape_same sends strings (omega (arith, many, c.loop-k.invariant.same)))

pub loop-k-preserved : goal.loop-k-preserved
loop-k-preserved c =
    let sends = c.args.sends.now in
    let strings : List (List ℕ) = numbers c.args.strings.now in
    let k : ℕ = c.loop-k.k in
    let line = c.index-sends-k.result in
    let string : List ℕ = c.index-strings-k.result.items in
    let count : ℕ = length c.args.strings.now in
    let many : length strings ≡ count = count_map (λ v. v.items) c.args.strings.now in
    let step = words_step count (k + 1) sends strings k line string (omega arith) (omega (arith, c.loop-k.invariant.same, many)) c.index-sends-k.is
    (at_map (λ v. v.items) c.args.strings.now k c.index-strings-k.result c.index-strings-k.is) in
    let words : length string ≡ c.len-words.result = omega (arith, c.len-words.ensures, c.index-strings-k.result.ok.0) in
    let allowed = ap (λ (n : ℕ). allows line n) words ∙ sym c.if-not-allows.ensures in
    let told : Bool → Misfit = λ b. cond b (words_misfit count (k + 1 + 1) (drop (k + 1) sends) (drop (k + 1) strings)) (Words (k + 1) (length string) line.least line.most) in
    record {
      same = c.loop-k.invariant.same;
      left = sym (step ∙ ap told allowed) ∙ c.loop-k.invariant.left;
    }
