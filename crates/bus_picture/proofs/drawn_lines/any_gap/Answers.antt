use Rattle.std.proofs.Common.{◌≡◌, ℕ, ◌+◌, List, length, ltb, take, true, false, Some, refl, sym, ap, subst, ◌∙◌}
use Rattle.std.specs.Prelude.{slice_get}
use Rattle.std.proofs.lemmas.Bool.{or_left}
use Rattle.std.proofs.lemmas.Option.{slice_get_read}
use Rattle.bus_strings.specs.Messages.{Entry}
use Rattle.bus_shapes.specs.Sending.{sent_of}
use Rattle.bus_picture.specs.Kinds.{has_gap_before}
use Rattle.bus_picture.specs.inside.Starting.{Hearing, Hears, hear}
use Rattle.bus_picture.proofs.KindLemmas.{none_more, one_settles, same_gap}
use Rattle.bus_picture.proofs.StartLemmas.{hears_next}
use Rattle.bus_picture.proofs.drawn_lines.any_gap.Goals as goal

pub returns-then-is_gap_before : goal.returns-then-is_gap_before
returns-then-is_gap_before c =
    let i = c.loop-k.invariant in
    let list : List Entry = c.args.list.now in
    let x : Entry = c.index-list-k.result in
    let at : slice_get list c.loop-k.k ≡ Some x = slice_get_read list (length list) c.loop-k.k c.index-list-k.result refl c.loop-k-test.true c.index-list-k.is in
    let is : c.hear-hearing.result ≡ hear c.args.timings.quiet c.args.timings.sg c.args.timings.terminal c.loop-k.hearing x = c.hear-hearing.ensures.value in
    let known = hears_next c.args.timings.quiet c.args.timings.sg c.args.timings.terminal c.loop-k.k list c.loop-k.hearing x c.requires.by_moment at i.hears in
    let here : has_gap_before c.args.scale.now list c.args.timings (sent_of list c.loop-k.k x) ≡ true =
    sym (same_gap c.args.scale.now list c.args.timings c.hear-hearing.result c.loop-k.k x
    (ap (λ (h : Hearing). h.first) is ∙ ap (λ (t : ℕ). ltb t x.moment) i.hears.moment)
    (ap (λ (h : Hearing). h.before) is ∙ known.0) (ap (λ (h : Hearing). h.moment) is))
    ∙ sym c.is_gap_before.ensures ∙ c.if-is_gap_before.true in
    sym (or_left _ _ (one_settles (has_gap_before c.args.scale.now list c.args.timings) list c.loop-k.k x at here))

pub loop-k-preserved : goal.loop-k-preserved
loop-k-preserved c =
    let i = c.loop-k.invariant in
    let list : List Entry = c.args.list.now in
    let x : Entry = c.index-list-k.result in
    let at : slice_get list c.loop-k.k ≡ Some x = slice_get_read list (length list) c.loop-k.k c.index-list-k.result refl c.loop-k-test.true c.index-list-k.is in
    let is : c.hear-hearing.result ≡ hear c.args.timings.quiet c.args.timings.sg c.args.timings.terminal c.loop-k.hearing x = c.hear-hearing.ensures.value in
    let known = hears_next c.args.timings.quiet c.args.timings.sg c.args.timings.terminal c.loop-k.k list c.loop-k.hearing x c.requires.by_moment at i.hears in
    let here : has_gap_before c.args.scale.now list c.args.timings (sent_of list c.loop-k.k x) ≡ false =
    sym (same_gap c.args.scale.now list c.args.timings c.hear-hearing.result c.loop-k.k x
    (ap (λ (h : Hearing). h.first) is ∙ ap (λ (t : ℕ). ltb t x.moment) i.hears.moment)
    (ap (λ (h : Hearing). h.before) is ∙ known.0) (ap (λ (h : Hearing). h.moment) is))
    ∙ sym c.is_gap_before.ensures ∙ c.if-is_gap_before.false in
    record {
      none = none_more (has_gap_before c.args.scale.now list c.args.timings) list c.loop-k.k x at i.none here;
      hears = subst (Hears c.args.timings.quiet c.args.timings.sg c.args.timings.terminal (take (c.loop-k.k + 1) list)) (sym is) known.1;
      before = c.hear-hearing.ensures.before;
      all = c.hear-hearing.ensures.all;
    }
