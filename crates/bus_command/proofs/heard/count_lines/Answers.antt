use Rattle.std.proofs.Common.{◌≡◌, ℕ, ◌+◌, Some, None, Err, take, arith, refl, sym, ap, subst, ◌∙◌}
use Rattle.std.proofs.lemmas.Result.{err_from_is_err_and}
use Rattle.std.specs.Option.{option_map}
use Rattle.bus_command.specs.Heard.{Line, Last, Garbled, Plain, Other, counted, further, line_of, most_lines}
use Rattle.bus_command.specs.inside.Looking.{TakesLines}
use Rattle.bus_command.proofs.CountLemmas.{GoesOn, HasCounted, none_counted, more_of, counted_on, decided, too_many, cut_off}
use Rattle.bus_command.proofs.heard.count_lines.Goals as goal
use Rattle.bus_command.proofs.heard.count_lines.Goals.{in-Garbled, in-Plain}

pub loop-init : goal.loop-init
loop-init g c = record { counted = none_counted _; low = omega arith; same = refl }

pub loop-preserved : goal.loop-preserved
loop-preserved g c =
    let line = take c.in_ok-count.count c.take_line.new.line in
    let on : (kind : Line) (garbled : ℕ) → line_of line ≡ kind → GoesOn kind → garbled ≡ c.loop.garbled + more_of kind
    → HasCounted (g.S.Source.left c.args.source.now) (g.S.Source.left c.take_line.new.source) (c.loop.counter + 1) garbled =
    λ kind garbled is goes e.
    subst (λ m. HasCounted (g.S.Source.left c.args.source.now) (g.S.Source.left c.take_line.new.source) (c.loop.counter + 1) m)
    (ap (λ l. c.loop.garbled + more_of l) is ∙ sym e)
    (counted_on _ _ _ c.loop.counter c.loop.garbled c.in_ok-count.count c.take_line.new.line c.loop.invariant.counted c.in_ok-count.ensures.taken
    (subst GoesOn (sym is) goes)) in
    elim c.match-line_of.branch [
      | in-Garbled w ↦ record {
        counted = on Garbled c.match-line_of.garbled (sym c.line_of.ensures ∙ w.in-Garbled.is) tt (omega arith);
        low = omega (arith, c.loop.invariant.low);
        same = c.in_ok-count.ensures.counts ∙ c.loop.invariant.same;
      }
      | in-Plain w ↦ record {
        counted = on Plain c.match-line_of.garbled (sym c.line_of.ensures ∙ w.in-Plain.is) tt (omega arith);
        low = omega (arith, c.loop.invariant.low);
        same = c.in_ok-count.ensures.counts ∙ c.loop.invariant.same;
      }
    ]

pub returns-in_err-count-clause-taken : goal.returns-in_err-count-clause-taken
returns-in_err-count-clause-taken g c =
    let came = err_from_is_err_and c.from_residual.result c.from_residual.ensures.1 in
    subst (TakesLines (g.S.Source.left c.args.source.now) (g.S.Source.left c.take_line.new.source)) (sym (came.1 ∙ ap Err came.2))
    (cut_off _ _ _ most_lines c.loop.counter c.loop.garbled c.take_line.new.line c.in_err-count.field-0.0 (omega arith) c.loop.invariant.counted c.in_err-count.ensures.taken)

pub returns-in-Last-clause-taken : goal.returns-in-Last-clause-taken
returns-in-Last-clause-taken g c =
    let last : line_of (take c.in_ok-count.count c.take_line.new.line) ≡ Last = sym c.line_of.ensures ∙ c.in-Last.is in
    decided _ _ _ c.loop.counter c.loop.garbled c.in_ok-count.count c.take_line.new.line c.loop.invariant.counted c.in_ok-count.ensures.taken most_lines (Some c.loop.garbled)
    (omega arith) (λ n. ap (λ l. further l n) last) (λ others. ap (λ l. option_map (λ m. c.loop.garbled + m) (counted l others)) last ∙ ap Some (omega arith))

pub returns-in-Other-clause-taken : goal.returns-in-Other-clause-taken
returns-in-Other-clause-taken g c =
    let other : line_of (take c.in_ok-count.count c.take_line.new.line) ≡ Other = sym c.line_of.ensures ∙ c.in-Other.is in
    decided _ _ _ c.loop.counter c.loop.garbled c.in_ok-count.count c.take_line.new.line c.loop.invariant.counted c.in_ok-count.ensures.taken most_lines None
    (omega arith) (λ n. ap (λ l. further l n) other) (λ others. ap (λ l. option_map (λ m. c.loop.garbled + m) (counted l others)) other)

pub returns-clause-taken : goal.returns-clause-taken
returns-clause-taken g c =
    let all : c.loop.counter ≡ most_lines = omega arith in
    too_many _ _ most_lines c.loop.garbled (subst (λ k. HasCounted (g.S.Source.left c.args.source.now) (g.S.Source.left c.loop.source) k c.loop.garbled) all c.loop.invariant.counted)
