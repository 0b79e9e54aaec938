use Rattle.std.proofs.Common.{ap, ◌∙◌, sym, unwrap_or}
use Rattle.std.specs.List.{list_any}
use Rattle.bus_dump.specs.Signals.{is_of, no_elapsed}
use Rattle.bus_dump.proofs.touched.touched.Goals as goal

pub returns : goal.returns
returns c n h e =
    let third = c.touch_asked.ensures n h e in
    let second = c.touch_seen-2.ensures n h third.0 in
    let first = c.touch_seen.ensures n h second.0 in
    record {
      was = ap (list_any (is_of n)) (sym c.as_slice.ensures.value) ∙ first.1;
      is = ap (list_any (is_of n)) (sym c.as_slice-2.ensures.value) ∙ second.1;
      same = ap (λ o. unwrap_or o no_elapsed) third.1;
    }
