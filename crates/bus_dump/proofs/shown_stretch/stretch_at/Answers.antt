use Rattle.std.proofs.Common.{◌≡◌, ◌*◌, ◌+◌, ◌-◌, ◌<◌, None, arith, sym, subst}
use Rattle.bus_strings.specs.Messages.{Message, word_count, bits}
use Rattle.bus_dump.specs.declared.shown_stretch.ShownStretch.{ShownStretch}
use Rattle.bus_dump.specs.inside.Walks.{IsShownStretch}
use Rattle.bus_dump.proofs.ShownStretchLemmas.{IsSought, sought_first, sought_next, found_first, found_quiet, not_behind}
use Rattle.bus_dump.proofs.shown_stretch.stretch_at.Goals as goal

pub loop-string-init : goal.loop-string-init
loop-string-init c =
    let own = c.strings-string-items.ensures.value in
    sought_first c.strings-string-items.result.now c.args.at (subst (λ (m : Message). c.args.at < bits m) (sym own) c.requires)

pub loop-string-preserved : goal.loop-string-preserved
loop-string-preserved c =
    let same : word_count c.string-item.result ≡ c.from-length.result = omega arith in
    subst (λ n. IsSought c.strings-string-items.result.now (c.loop-string.string-index + 1) c.args.at (c.loop-string.rest - (20 * n + 4))) same
    (sought_next c.strings-string-items.result.now c.loop-string.string-index c.args.at c.loop-string.rest c.string-item.result (omega arith) c.string-item.is
    c.loop-string.invariant (omega arith))

pub returns-then-rest-length : goal.returns-then-rest-length
returns-then-rest-length c =
    let inside : c.loop-string.rest < 20 * word_count c.string-item.result = omega arith in
    subst (λ (m : Message). IsShownStretch m c.args.at c.in_string.result) c.strings-string-items.ensures.value
    (subst (λ (g : ShownStretch). IsShownStretch c.strings-string-items.result.now c.args.at g) (sym c.in_string.ensures)
    (found_first c.strings-string-items.result.now c.loop-string.string-index c.args.at c.loop-string.rest c.string-item.result (omega arith)
    c.string-item.is c.loop-string.invariant inside))

pub returns-then-rest-length-2 : goal.returns-then-rest-length-2
returns-then-rest-length-2 c =
    let same : word_count c.string-item.result ≡ c.from-length.result = omega arith in
    subst (λ (m : Message). IsShownStretch m c.args.at (record { shown = None; left = 20 * c.from-length.result + 4 - c.loop-string.rest })) c.strings-string-items.ensures.value
    (subst (λ n. IsShownStretch c.strings-string-items.result.now c.args.at (record { shown = None; left = 20 * n + 4 - c.loop-string.rest })) same
    (found_quiet c.strings-string-items.result.now c.loop-string.string-index c.args.at c.loop-string.rest c.string-item.result (omega arith)
    c.string-item.is c.loop-string.invariant (omega arith) (omega arith)))

pub returns : goal.returns
returns c = absurd (not_behind c.strings-string-items.result.now c.loop-string.string-index c.args.at c.loop-string.rest c.loop-string-test.false c.loop-string.invariant)
