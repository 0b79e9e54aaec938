use Rattle.std.proofs.Common.{arith, ◌∷◌, ◌++◌, []}
use Rattle.bus_text.specs.Entries.{entry}
use Rattle.bus_strings.specs.Reading.{item_line}
use Rattle.bus_hands.proofs.DealLemmas.{front_more, length_more, length_next}
use Rattle.bus_hands.proofs.reading.deal_lines.Goals as goal

pub loop-line-preserved : goal.loop-line-preserved
loop-line-preserved c =
    let inv = c.loop-line.invariant in
    let done = inv.0 in
    let item = c.in_ok-item.item in
    let rest = c.next.new.self in
    let more = length_more done item in (
      done ++ item ∷ [],
      front_more item_line done (entry c.in-Some.line) rest c.loop-line.line-iterator item _ inv.1 c.in-Some.ensures.steps c.in_ok-item.ensures.exact,
      omega (arith, more, inv.2),
      omega (arith, more, length_next c.loop-line.line-iterator (entry c.in-Some.line) rest c.in-Some.ensures.steps, inv.3),
      c.in_ok-deal_item.ensures.long,
      c.in_ok-deal_item.ensures.dealt done inv.2 inv.5,
    )
