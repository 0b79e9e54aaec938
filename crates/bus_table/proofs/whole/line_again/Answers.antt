use Rattle.std.proofs.Common.{arith, sym, subst, ap, ◌∙◌, ◌∷◌, ◌++◌, [], true, set, take, List, append_assoc}
use Rattle.std.proofs.lemmas.List.{length-set}
use Rattle.bus_strings.proofs.ListLaws.{take_read}
use Rattle.bus_table.specs.Tables.{SendLine}
use Rattle.bus_table.specs.Whole.{same_pair, send_lines}
use Rattle.bus_table.specs.inside.Seen.{AreSeen}
use Rattle.bus_table.proofs.SeenLemmas.{seen_more}
use Rattle.bus_table.proofs.WholeLemmas.{goes_on, stops}
use Rattle.bus_table.proofs.whole.line_again.Goals as goal

pub returns-then-is_again-clause-first : goal.returns-then-is_again-clause-first
returns-then-is_again-clause-first c = stops same_pair (send_lines c.args.senders.now) c.args.lines.now c.loop-k.k _ _ (omega arith) c.index-lines-k.is (sym c.if-is_again.ensures) c.loop-k.invariant.first

pub loop-k-preserved : goal.loop-k-preserved
loop-k-preserved c =
    let lines = c.args.lines.now in
    let before = send_lines c.args.senders.now in
    let k = c.loop-k.k in
    let line = c.index-lines-k.result in
    let i = c.loop-k.invariant in
    let more = append_assoc before (take k lines) (line ∷ []) ∙ ap (λ ls. before ++ ls) (sym (take_read lines k line (omega arith) c.index-lines-k.is)) in
    let place = c.pair_place-place in
    record {
      first = goes_on same_pair before lines k _ _ (omega arith) c.index-lines-k.is (sym c.if-is_again.ensures) i.first;
      all = length-set _ _ _ ∙ i.all;
      seen = subst (λ (ls : List SendLine). AreSeen (set c.loop-k.seen place.result true) ls) more
          (seen_more c.loop-k.seen (before ++ take k lines) line place.result place.ensures.place (omega (arith, place.ensures.within, i.all)) i.seen);
    }
