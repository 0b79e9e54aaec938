use Rattle.std.proofs.Common.{◌≡◌, max, ap, sym, subst, ◌∙◌}
use Rattle.bus_strings.specs.Messages.{Wordstring}
use Rattle.bus_trace.specs.declared.position.Position.{Position}
use Rattle.bus_trace.specs.declared.position.Position.TheVariants.{Begun}
use Rattle.bus_trace.specs.States.{State, last_end, more_list}
use Rattle.bus_trace.specs.inside.Reach.{IsReach}
use Rattle.bus_trace.proofs.Marks.{reach_begun, reach_other}
use Rattle.bus_trace.proofs.draft.Draft.reach_behind.Goals as goal

pub returns-in-Begun : goal.returns-in-Begun
returns-in-Begun c =
    let position : c.args.self.now.position ≡ Begun c.in-Begun.moment c.in-Begun.terminal =
    ap (λ (s : State). s.position) (sym c.self.view_is) ∙ c.in-Begun.is in
    let end : c.last_end.result ≡ last_end c.self.inside.list.items = c.last_end.ensures.value ∙ ap last_end c.deref.ensures.value in
    let here : (w : Wordstring)
    → IsReach (more_list (Begun c.in-Begun.moment c.in-Begun.terminal) w c.self.inside.list.items) c.max.result =
    subst (λ r. (w : Wordstring) → IsReach (more_list (Begun c.in-Begun.moment c.in-Begun.terminal) w c.self.inside.list.items) r)
    (ap (max c.self.inside.reach) (sym end) ∙ sym c.max.ensures)
    (reach_begun c.in-Begun.moment c.in-Begun.terminal c.self.inside.list.items c.self.inside.reach c.self.invariant) in
    subst (λ (p : Position). (w : Wordstring) → IsReach (more_list p w c.args.self.now.list) c.max.result) (sym position)
    (subst (λ (s : State). (w : Wordstring) → IsReach (more_list
    (Begun c.in-Begun.moment c.in-Begun.terminal) w s.list) c.max.result) c.self.view_is here)

pub returns-in_default : goal.returns-in_default
returns-in_default c =
    subst (λ (s : State). (w : Wordstring) → IsReach (more_list s.position w s.list) c.self.inside.reach) c.self.view_is
    (reach_other c.self.inside.position c.self.inside.list.items c.self.inside.reach c.in_default.not-Begun c.self.invariant)
