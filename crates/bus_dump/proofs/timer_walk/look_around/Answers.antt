use Rattle.std.proofs.Common.{◌≡◌, ◌+◌, ◌≤◌, List, arith, sym, ap, subst, ◌∙◌}
use Rattle.std.specs.List.{AllByRecursion, filter_map}
use Rattle.bus_strings.specs.Messages.{Entry}
use Rattle.bus_dump.specs.inside.Walks.{IsLive, IsSteady, live_to, see}
use Rattle.bus_dump.proofs.LiveLemmas.{are_live, same_seen, seen_is}
use Rattle.bus_dump.proofs.timer_walk.look_around.Goals as goal

pub look-requires-clause-live : goal.look-requires-clause-live
look-requires-clause-live c =
    let list : List Entry = c.args.walk.now.list.now in
    let live : c.as_slice.result.now ≡ live_to list c.args.t c.args.walk.now.begun = c.as_slice.ensures.value ∙ c.requires.stands.live in
    subst (AllByRecursion (IsLive list c.args.t)) (sym live) (are_live list c.args.t c.args.walk.now.begun)

pub returns-clause-seen : goal.returns-clause-seen
returns-clause-seen c =
    let list : List Entry = c.args.walk.now.list.now in
    let live : c.as_slice.result.now ≡ live_to list c.args.t c.args.walk.now.begun = c.as_slice.ensures.value ∙ c.requires.stands.live in
    c.look.ensures.seen ∙ ap (filter_map (see list c.args.t)) live
    ∙ seen_is list c.args.t c.args.walk.now.begun c.requires.stands.within
    (λ k x h e. (let after : c.args.t + 1 ≤ x.moment = c.requires.stands.ahead k x h e in omega arith))

pub returns-clause-ahead : goal.returns-clause-ahead
returns-clause-ahead c k x h e =
    let next : c.next_begin-next.result ≤ x.moment = c.next_begin-next.ensures.ahead k x h e in
    let most : c.look.result ≤ c.next_begin-next.result = c.look.ensures.most in
    omega arith

pub returns-clause-steady : goal.returns-clause-steady
returns-clause-steady c =
    let list : List Entry = c.args.walk.now.list.now in
    let live : c.as_slice.result.now ≡ live_to list c.args.t c.args.walk.now.begun = c.as_slice.ensures.value ∙ c.requires.stands.live in
    same_seen list c.args.t c.look.result c.args.walk.now.begun c.requires.stands.within c.requires.stands.before
    (λ k x h e. (let next : c.next_begin-next.result ≤ x.moment = c.next_begin-next.ensures.ahead k x h e in
    let most : c.look.result ≤ c.next_begin-next.result = c.look.ensures.most in omega arith))
    (subst (AllByRecursion (IsSteady list c.args.t c.look.result)) live c.look.ensures.steady)
