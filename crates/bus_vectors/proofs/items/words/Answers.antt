use Rattle.std.proofs.Common.{ℕ, ◌+◌, ◌%◌, ◌≤◌, arith, map, take, ap, ◌∙◌}
use Rattle.std.specs.List.{range_with_len}
use Rattle.std.proofs.lemmas.List.FromFn.{take-map-range_with_len}
use Rattle.bus_vectors.specs.Made.{made_word}
use Rattle.bus_vectors.proofs.items.words.Goals as goal

pub returns : goal.returns
returns c =
    let word : ℕ → ℕ = made_word c.args.number c.args.round c.args.i in
    let count : ℕ → ℕ = λ i. 30 + (c.args.number + c.args.round + i) % 11 in
    let few : 30 + (c.args.number + c.args.round + c.from.result) % 11 ≤ 40 = omega arith in
    ap (take (count c.from.result)) c.longest.ensures
    ∙ take-map-range_with_len word 0 40 (count c.from.result) few
    ∙ ap (λ i. map word (range_with_len 0 (count i))) c.from.ensures
