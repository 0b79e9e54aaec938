use Rattle.std.proofs.Common.{◌≡◌, ℕ, ◌+◌, List, ◌++◌, [], length, ltb, take, Some, arith, refl, sym, ap, subst, ◌∙◌}
use Rattle.std.specs.Prelude.{slice_get}
use Rattle.std.proofs.lemmas.Option.{slice_get_read}
use Rattle.bus_outer.specs.Texts.{Adds}
use Rattle.bus_outer.proofs.TextLaws.{◌▸◌, adds_nothing}
use Rattle.bus_strings.specs.Messages.{Entry}
use Rattle.bus_picture.specs.inside.Starting.{Hearing, Hears, drawn_first, hear}
use Rattle.bus_picture.proofs.StartLemmas.{drawn_more, hears_next, hears_none, last_drawn, last_more, next_drawn}
use Rattle.bus_picture.proofs.starts.put_starts.Goals as goal

pub loop-k-init : goal.loop-k-init
loop-k-init g c = record {
  adds = adds_nothing g.K.Sink.held g.K.Sink.faults c.args.sink.now c.args.text.now;
  last = refl;
  early = tt;
  hears = subst (λ (h : Hearing). Hears c.args.timings.quiet c.args.timings.sg c.args.timings.terminal [] h) (sym c.deaf-hearing.ensures.value)
      (hears_none c.args.timings.quiet c.args.timings.sg c.args.timings.terminal);
  before = c.deaf-hearing.ensures.before;
  all = c.deaf-hearing.ensures.all;
}

pub loop-k-preserved : goal.loop-k-preserved
loop-k-preserved g c =
    let i = c.loop-k.invariant in
    let list : List Entry = c.args.list.now in
    let x : Entry = c.index-list-k.result in
    let at : slice_get list c.loop-k.k ≡ Some x = slice_get_read list (length list) c.loop-k.k c.index-list-k.result refl c.loop-k-test.true c.index-list-k.is in
    let is : c.hear-hearing.result ≡ hear c.args.timings.quiet c.args.timings.sg c.args.timings.terminal c.loop-k.hearing x = c.hear-hearing.ensures.value in
    let known = hears_next c.args.timings.quiet c.args.timings.sg c.args.timings.terminal c.loop-k.k list c.loop-k.hearing x c.requires.by_moment at i.hears in
    record {
      adds = subst (λ (t : List ℕ). Adds g.K.Sink.held g.K.Sink.faults c.args.sink.now c.take-last.new.sink c.args.text.now c.take-last.new.text t)
          (ap (λ (t : List ℕ). drawn_first c.args.scale.now list c.args.timings c.loop-k.k ++ t)
          (next_drawn c.args.scale.now list c.args.timings c.loop-k.last c.hear-hearing.result.first c.hear-hearing.result.before c.loop-k.k x i.last
          (ap (λ (h : Hearing). h.first) is ∙ ap (λ (t : ℕ). ltb t x.moment) i.hears.moment) (ap (λ (h : Hearing). h.before) is ∙ known.0))
          ∙ sym (drawn_more c.args.scale.now list c.args.timings c.loop-k.k x at))
          (i.adds ▸ c.take-last.ensures.adds);
      last = c.take-last.ensures.last ∙ last_more c.args.timings.terminal c.loop-k.k list c.loop-k.last x at i.last;
      early = c.take-last.ensures.early;
      hears = subst (Hears c.args.timings.quiet c.args.timings.sg c.args.timings.terminal (take (c.loop-k.k + 1) list)) (sym is) known.1;
      before = c.hear-hearing.ensures.before;
      all = c.hear-hearing.ensures.all;
    }

pub returns : goal.returns
returns g c =
    subst (λ (t : List ℕ). Adds g.K.Sink.held g.K.Sink.faults c.args.sink.now c.put_behind.new.sink c.args.text.now c.put_behind.new.text t)
    (last_drawn c.args.scale.now c.args.list.now c.args.timings c.loop-k.last c.loop-k.hearing.all c.loop-k.k (omega arith) c.loop-k.invariant.last
    c.loop-k.invariant.hears.all)
    (c.loop-k.invariant.adds ▸ c.put_behind.ensures)
