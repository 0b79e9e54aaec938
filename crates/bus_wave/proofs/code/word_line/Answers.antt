use Rattle.std.proofs.Common.{[], ◌∷◌, ◌++◌, refl, arith, ap, ◌∙◌}
use Rattle.bus_wave.specs.Code.{digits_of, frame_halves}
use Rattle.bus_wave.proofs.DigitLemmas.{word_digits}
use Rattle.bus_wave.proofs.code.word_line.Goals as goal

pub returns : goal.returns
returns c =
    let f = c.frame-frame.result in
    c.bit_line.ensures
    ∙ ap (λ ds. 87 ∷ 32 ∷ (ds ++ 10 ∷ []))
    (word_digits f.kind f.value f.parity c.sent_bits.result _ (omega (arith, ap (λ g. g.value) c.frame-frame.ensures)) c.sent_bits.ensures refl
    ∙ ap (λ g. digits_of (frame_halves g)) c.frame-frame.ensures)
