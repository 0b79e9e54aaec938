use Rattle.std.proofs.Common.{◌+◌, ◌*◌, ap, refl, arith, ◌∙◌, get_or, true, length}
use Rattle.std.proofs.lemmas.Bool.{not-false, not-true}
use Rattle.bus_strings.specs.Messages.{Message}
use Rattle.bus_medium.proofs.PlaceLemmas.{after_quiet, after_all}
use Rattle.bus_medium.proofs.place.Place.next.Goals as goal

pub returns-then-not-self : goal.returns-then-not-self
returns-then-not-self c =
    let m = c.args.message.now in
    let p = c.args.self in
    let s = c.index-strings-self.result in
    let read = c.index-strings-self.is ∙ ap (λ (w : Message). get_or w (p.pulse + 1) s) c.strings-strings.ensures.value in
    after_quiet m p s (record { pulse = p.pulse + 1; on = true; left = 20 * c.word_count.result }) c.requires (not-true p.on c.if-not-self.true) (omega arith) read refl refl (ap (λ n. 20 * n) c.word_count.ensures.value)

pub returns-then-self-strings : goal.returns-then-self-strings
returns-then-self-strings c =
    let m = c.args.message.now in
    after_all m c.args.self c.requires (not-false c.args.self.on c.if-not-self.false) (omega arith) (c.if-self-strings.true ∙ ap (λ (w : Message). length w) c.strings-strings.ensures.value)
