use Rattle.std.proofs.Common.{◌≡◌, true, ap, sym, subst, ◌∙◌}
use Rattle.bus_trace.specs.declared.keyword.Keyword.TheVariants.{Ws}
use Rattle.bus_trace.specs.States.{State, may_follow, last_count}
use Rattle.bus_trace.specs.inside.Quick.{TakesFront}
use Rattle.bus_trace.proofs.QuickLines.{some_given, string_front}
use Rattle.bus_trace.proofs.draft.Draft.take_quick_string.Goals as goal

pub returns-clause-ok : goal.returns-clause-ok
returns-clause-ok c =
    let inside = c.self.inside in
    let here : may_follow inside.position inside.format (last_count inside.list.items) Ws ≡ true =
    ap (λ n. may_follow inside.position inside.format n Ws) (sym (c.last_count.ensures ∙ ap last_count c.deref.ensures.value))
    ∙ sym c.may_follow.ensures ∙ c.if-not-may_follow.false in
    let may = subst (λ (s : State). may_follow s.position s.format (last_count s.list) Ws ≡ true) c.self.view_is here in
    subst (λ (n : State). TakesFront c.args.feed c.args.self.now n c.args.text.now c.in-Some-behind_end.rest.now)
    (sym c.in_ok-add_string.ensures.ok)
    (string_front c.args.feed c.args.self.now c.in-Some.string c.args.text.now c.in-Some.rest.now c.in-Some-behind_end.rest.now may
    c.words-ranges.ensures.ranges
    (some_given c.in_ok-string.field-0 (c.in-Some.string, c.in-Some.rest) _ c.in-Some.is c.in_ok-string.ensures) c.in-Some-behind_end.ensures)
