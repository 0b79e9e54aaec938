use Rattle.std.proofs.Common.{◌≡◌, List, arith, inl, sym, subst, ap, ◌∙◌}
use Rattle.bus_strings.specs.Members.{In}
use Rattle.bus_strings.specs.Messages.{Entry}
use Rattle.bus_strings.specs.Transmissions.{carrier}
use Rattle.bus_dump.specs.inside.TimerWalks.{starts}
use Rattle.bus_dump.proofs.timer_walk.TimerWalk.go_on.Goals as goal

pub returns-clause-ready : goal.returns-clause-ready
returns-clause-ready c =
    let lasts = c.requires.lasts in
    let list : c.go_on.new.self.list.now ≡ c.args.self.now.walk.list.now = c.go_on.ensures.list in
    inl (
      omega (arith, c.requires.since, c.requires.later),
      record {
        begin = λ n. lasts.begin n ∙ sym (ap (λ (l : List Entry). starts l c.args.self.now.since n) list);
        carrier = λ v low high. ap (λ (l : List Entry). carrier l v) list ∙ lasts.carrier v low high;
        none = λ x i. lasts.none x (subst (In x) list i);
        still = lasts.still;
        limit = lasts.limit;
        later = lasts.later;
        turns = lasts.turns;
      },
    )
