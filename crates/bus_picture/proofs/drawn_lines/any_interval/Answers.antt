use Rattle.std.proofs.Common.{◌≡◌, List, length, true, false, Some, refl, sym, ◌∙◌}
use Rattle.std.specs.Prelude.{slice_get}
use Rattle.std.proofs.lemmas.Bool.{or_left}
use Rattle.std.proofs.lemmas.Option.{slice_get_read}
use Rattle.bus_strings.specs.Messages.{Entry}
use Rattle.bus_shapes.specs.Sending.{sent_of}
use Rattle.bus_picture.specs.Kinds.{has_interval_before}
use Rattle.bus_picture.proofs.KindLemmas.{none_more, one_settles, same_interval}
use Rattle.bus_picture.proofs.StartLemmas.{last_more}
use Rattle.bus_picture.proofs.drawn_lines.any_interval.Goals as goal

pub returns-then-is_interval_before : goal.returns-then-is_interval_before
returns-then-is_interval_before c =
    let list : List Entry = c.args.list.now in
    let x : Entry = c.index-list-k.result in
    let at : slice_get list c.loop-k.k ≡ Some x = slice_get_read list (length list) c.loop-k.k c.index-list-k.result refl c.loop-k-test.true c.index-list-k.is in
    let here : has_interval_before c.args.scale.now list c.args.timings (sent_of list c.loop-k.k x) ≡ true =
    sym (same_interval c.args.scale.now list c.args.timings c.loop-k.last c.loop-k.k x c.loop-k.invariant.last)
    ∙ sym c.is_interval_before.ensures ∙ c.if-is_interval_before.true in
    sym (or_left _ _ (one_settles (has_interval_before c.args.scale.now list c.args.timings) list c.loop-k.k x at here))

pub loop-k-preserved : goal.loop-k-preserved
loop-k-preserved c =
    let list : List Entry = c.args.list.now in
    let x : Entry = c.index-list-k.result in
    let at : slice_get list c.loop-k.k ≡ Some x = slice_get_read list (length list) c.loop-k.k c.index-list-k.result refl c.loop-k-test.true c.index-list-k.is in
    let here : has_interval_before c.args.scale.now list c.args.timings (sent_of list c.loop-k.k x) ≡ false =
    sym (same_interval c.args.scale.now list c.args.timings c.loop-k.last c.loop-k.k x c.loop-k.invariant.last)
    ∙ sym c.is_interval_before.ensures ∙ c.if-is_interval_before.false in
    record {
      none = none_more (has_interval_before c.args.scale.now list c.args.timings) list c.loop-k.k x at c.loop-k.invariant.none here;
      last = c.next_start-last.ensures.value ∙ last_more c.args.timings.terminal c.loop-k.k list c.loop-k.last x at c.loop-k.invariant.last;
      early = c.next_start-last.ensures.early;
    }
