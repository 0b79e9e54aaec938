use Rattle.std.proofs.Common.{◌≡◌, length, subst, sym, ◌∙◌}
use Rattle.bus_vote.specs.inside.Finds.{AreFinds, finds_before}
use Rattle.bus_vote.proofs.FindLemmas.{finds_are}
use Rattle.bus_vote.proofs.index.Index.finds.Goals as goal

pub returns-then-is_wanted : goal.returns-then-is_wanted
returns-then-is_wanted c =
    let s = c.self.inside in
    let whole : s.finds.items ≡ finds_before s.wanted s.list.now (length s.list.now) = c.self.invariant.1 c.if-self.true in
    subst (λ list. AreFinds list c.as_slice.result.now c.args.label) c.self.view_is
    (subst (λ finds. AreFinds s.list.now finds c.args.label) (sym (c.as_slice.ensures.value ∙ whole))
    (finds_are s.wanted s.list.now c.args.label (sym c.is_wanted.ensures ∙ c.if-is_wanted.true)))
