use Rattle.std.proofs.Common.{◌≡◌, [], ◌∷◌, ◌++◌, true, ap, subst, ◌∙◌}
use Rattle.bus_stream.specs.Items.{fits, string_of}
use Rattle.bus_stream.proofs.WordLemmas.{fits_of}
use Rattle.bus_stream.proofs.message.closed.Goals as goal

pub returns : goal.returns
returns c =
    let m : c.in-Some.message ≡ c.args.strings.items ++ string_of c.args.label c.args.words.now ∷ [] =
    c.in-Some.ensures.value ∙ c.in_ok-push.ensures.items ∙ ap (λ s. c.args.strings.items ++ s ∷ []) c.in_ok-last.ensures in
    (m, subst (λ x. fits x ≡ true) m (fits_of c.in-Some.message c.strings-ranges.ensures.ranges))
