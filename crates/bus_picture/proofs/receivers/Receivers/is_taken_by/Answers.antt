use Rattle.std.proofs.Common.{◌≡◌, ℕ, false, get_or, ap, sym, subst, ◌∙◌}
use Rattle.bus_table.specs.Tables.{Table}
use Rattle.bus_filter.specs.Received.{takers}
use Rattle.bus_picture.specs.inside.Noting.{AreNoted, place_of}
use Rattle.bus_picture.proofs.TakingLemmas.{not_taken}
use Rattle.bus_picture.proofs.receivers.Receivers.is_taken_by.Goals as goal

pub returns-else-self-place_of : goal.returns-else-self-place_of
returns-else-self-place_of c =
    let may = c.self.inside.may in
    let noted : AreNoted (takers c.args.self.now) may =
    subst (λ (table : Table). AreNoted (takers table) may) c.self.view_is c.self.invariant in
    let none : get_or may (place_of c.args.string.now.label c.args.n) false ≡ false =
    ap (λ (k : ℕ). get_or may k false) (sym (c.place_of.ensures.value ∙ ap (λ (l : ℕ). place_of l c.args.n) c.label.ensures.value))
    ∙ c.if-self-place_of.false in
    c.if-self-place_of.false ∙ sym (not_taken c.args.self.now c.args.sent.now c.args.string.now c.args.n may noted none)
