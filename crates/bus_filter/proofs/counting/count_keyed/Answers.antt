use Rattle.std.proofs.Common.{ap, sym, ◌∙◌}
use Rattle.std.specs.List.{sum_by}
use Rattle.std.proofs.lemmas.Bool.{eq-eqb, ne_eqb}
use Rattle.bus_strings.specs.Messages.{Entry}
use Rattle.bus_filter.specs.Received.{Taker}
use Rattle.bus_filter.specs.inside.Putting.{string_count}
use Rattle.bus_filter.proofs.KeyLemmas.{count_skipped, count_taken, own_count}
use Rattle.bus_filter.proofs.counting.count_keyed.Goals as goal
use Rattle.bus_filter.proofs.counting.count_keyed.Goals.{else-is_taken-via-then-is_taken+else-x-number, else-is_taken-via-else-is_taken}

pub returns-else-is_taken-clause-count : goal.returns-else-is_taken-clause-count
returns-else-is_taken-clause-count c garbled is =
    let taker : Taker = record { number = c.args.number; takes = c.args.takes.now } in
    let x : Entry = c.args.x.now in
    elim c.else-is_taken.branch [
      | else-is_taken-via-then-is_taken+else-x-number w ↦
          sym (own_count taker x garbled (eq-eqb x.terminal c.args.number (sym (ap (λ (y : Entry). y.terminal) c.x.view_is) ∙ w.if-x-number.false)))
      | else-is_taken-via-else-is_taken w ↦
          sym (count_skipped taker x garbled c.args.key c.args.spans.now.first c.args.spans.now.behind c.requires.spans is (c.is_taken.ensures.none w.if-is_taken.false))
    ]

pub returns-then-x-number-clause-count : goal.returns-then-x-number-clause-count
returns-then-x-number-clause-count c garbled is =
    let taker : Taker = record { number = c.args.number; takes = c.args.takes.now } in
    let x : Entry = c.args.x.now in
    c.count_strings.ensures.count
    ∙ ap (sum_by (string_count c.args.takes.now)) (c.strings.ensures.value ∙ ap (λ (y : Entry). y.message) c.x.view_is)
    ∙ count_taken taker x garbled c.args.key c.args.spans.now.first c.args.spans.now.behind c.requires.spans is (c.is_taken.ensures.some c.if-is_taken.true)
    (ne_eqb x.terminal c.args.number (λ e. c.if-x-number.true (ap (λ (y : Entry). y.terminal) c.x.view_is ∙ e)))
