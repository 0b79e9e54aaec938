use Rattle.std.proofs.Common.{◌≡◌, Bool, false, List, length, Some, arith, refl, sym, ap, ◌∙◌}
use Rattle.std.specs.Prelude.{slice_get}
use Rattle.std.specs.List.{list_any}
use Rattle.std.proofs.lemmas.List.{get_or-replicate, length-replicate, length-set, take_all}
use Rattle.std.proofs.lemmas.Option.{slice_get_read}
use Rattle.bus_strings.specs.Messages.{Entry}
use Rattle.bus_dump.proofs.SendingLemmas.{is_sent, sending_more}
use Rattle.bus_dump.proofs.lanes.sending_of.Goals as goal

pub loop-k-init : goal.loop-k-init
loop-k-init c = record {
  long = length-replicate {A = Bool} 129 false;
  keeps = λ n h. get_or-replicate 129 n false false (omega arith);
}

pub loop-k-preserved : goal.loop-k-preserved
loop-k-preserved c =
    let list : List Entry = c.args.list.now in
    let x : Entry = c.index-list-k.result in
    let at : slice_get list c.loop-k.k ≡ Some x = slice_get_read list (length list) c.loop-k.k c.index-list-k.result refl c.loop-k-test.true c.index-list-k.is in
    let own : x.terminal ≡ c.x.inside.terminal = sym (ap (λ (e : Entry). e.terminal) c.x.view_is) in
    record {
      long = rw length-set c.loop-k.invariant.long;
      keeps = sending_more list c.loop-k.sending c.loop-k.k c.x.inside.terminal x c.loop-k.invariant.keeps c.loop-k.invariant.long (omega arith) at own;
    }

pub returns : goal.returns
returns c n h =
    c.loop-k.invariant.keeps n h
    ∙ ap (list_any (is_sent n)) (take_all c.loop-k.k c.args.list.now (omega arith))
