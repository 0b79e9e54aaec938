use Rattle.std.proofs.Common.{ℕ, List, ◌∷◌, sym, ap, ◌∙◌, drop, ◌+◌}
use Rattle.std.specs.List.{slice_split}
use Rattle.std.specs.Prelude.{◌==◌}
use Rattle.bus_wave.proofs.TextLemmas.{uncut, cut_at}
use Rattle.bus_wave.proofs.pieces.cut.Goals as goal

pub returns-in-None-clause-pieces : goal.returns-in-None-clause-pieces
returns-in-None-clause-pieces c = uncut c.args.byte c.args.text.now c.in-None.ensures.none

pub returns-in-Some-clause-pieces : goal.returns-in-Some-clause-pieces
returns-in-Some-clause-pieces c =
    cut_at c.args.byte c.args.text.now c.in-Some.at c.in-Some.ensures.before c.in-Some.ensures.found.0 c.in-Some.ensures.found.1
    ∙ ap (λ (first : List ℕ). first ∷ slice_split (λ b. b == c.args.byte) (drop (c.in-Some.at + 1) c.args.text.now)) (sym c.split_at.ensures.front)
    ∙ ap (λ (rest : List ℕ). c.split_at.result.0.now ∷ slice_split (λ b. b == c.args.byte) rest) (sym c.split_at-in-Some.ensures.back)
