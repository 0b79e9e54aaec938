use Rattle.std.proofs.Common.{◌≡◌, ◌∙◌, ◌∷◌, ◌+◌, ap, sym, refl, subst, length, drop, arith, ◌<◌, ltb, rules}
use Rattle.std.proofs.lemmas.Option.{slice_get_read}
use Rattle.bus_strings.specs.Messages.{Entry}
use Rattle.bus_strings.specs.Transmissions.{garbled, marks, end_of}
use Rattle.bus_strings.proofs.OverlapLemmas.{garbled_by_next, garbled_by_earlier, earlier_told, greatest_more, marks_more, marks_end}
use Rattle.bus_strings.proofs.overlap.MarksIterator.next.Goals as goal
use Rattle.bus_strings.proofs.overlap.MarksIterator.next.Goals.{then-next_overlaps, else-next_overlaps}

pub returns-then-self-clause-steps : goal.returns-then-self-clause-steps
returns-then-self-clause-steps c =
    let s = c.self.inside in
    let none = sym c.self.view_is ∙ marks_end s.list.now s.at (omega arith) in
    (none, none)

pub invariant_of-self : goal.invariant_of-self
invariant_of-self c =
    let s = c.self.inside in
    let list = s.list.now in
    let x = c.index-self-self.result in
    let at = slice_get_read list (length list) s.at x refl (omega arith) c.index-self-self.is in
    let end : c.end.result ≡ end_of x = c.end.ensures.value ∙ ap end_of (sym c.index-self-self.is) in
    let ends = c.self.invariant.ends in
    let further = greatest_more list s.at x at in
    record {
      order = c.self.invariant.order;
      within = omega arith;
      ends = omega arith;
    }

pub returns-clause-steps : goal.returns-clause-steps
returns-clause-steps c =
    let s = c.self.inside in
    let list = s.list.now in
    let x = c.index-self-self.result in
    let at = slice_get_read list (length list) s.at x refl (omega arith) c.index-self-self.is in
    let told = c.next_overlaps.ensures x at in
    let some = c.end.ensures.ranges.some in
    let here : 0 < length x.message = subst (λ (e : Entry). 0 < length e.message) (sym c.index-self-self.is) some in
    let moment : c.entry.inside.moment ≡ x.moment = ap (λ (e : Entry). e.moment) (c.entry.view_is ∙ sym c.index-self-self.is) in
    let mark : garbled list s.at ≡ c.if-next_overlaps.mark = elim c.if-next_overlaps.branch [
      | then-next_overlaps w ↦ garbled_by_next list s.at x c.next_overlaps.result told w.if-next_overlaps.true ∙ sym w.if-next_overlaps.true ∙ sym w.mark-is
      | else-next_overlaps w ↦
          garbled_by_earlier list s.at x c.next_overlaps.result told w.if-next_overlaps.false
          ∙ earlier_told list s.at x c.self.invariant.order at here
          ∙ ap (λ n. ltb x.moment n) (sym c.self.invariant.ends)
          ∙ ap (λ n. ltb n s.end) (sym moment)
          ∙ sym w.mark-is
    ] in
    sym c.self.view_is ∙ marks_more list s.at (omega arith) ∙ ap (λ b. b ∷ drop (s.at + 1) (marks list)) mark

pub returns-clause-goes : goal.returns-clause-goes
returns-clause-goes c = let steps = returns-clause-steps c in search rules
