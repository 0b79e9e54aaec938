use Rattle.std.proofs.Common.{ap, ◌∙◌, ◌∷◌, ◌++◌, ◌-◌, take, drop, length}
use Rattle.bus_trace.proofs.QuickLines.{rest_is, some_given, string_joined_front}
use Rattle.bus_trace.proofs.quick.string_line.Goals as goal

pub returns : goal.returns
returns c =
    let text = c.in-Some.text.now in
    let behind = take (length text - 7) (drop 7 text) in
    let line = c.in-Some.ensures ∙ ap (λ r. 87 ∷ 83 ∷ r) (rest_is text 7 c.if-text-lt-PLACES.false)
    ∙ ap (λ r. 87 ∷ 83 ∷ (take 7 text ++ r)) (rest_is behind c.data_length-length.result c.data_length-length.ensures.within) in
    string_joined_front _ _ _ _ _ _ _ _ c.split_label-label.ensures.joined line c.in-Some-spaced_word.ensures
    (some_given c.in_ok-string.field-0 c.in-Some-2.string _ c.in-Some-2.is c.in_ok-string.ensures)
