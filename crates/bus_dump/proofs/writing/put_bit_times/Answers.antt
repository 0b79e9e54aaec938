use Rattle.std.proofs.Common.{List, ℕ, ◌≡◌, ◌+◌, ◌-◌, map, subst, arith, ap, sym, inl, inr, ◌∙◌}
use Rattle.std.specs.List.{flat_map, range_with_len}
use Rattle.std.proofs.lemmas.Bool.{true≢false}
use Rattle.bus_outer.specs.Texts.{Adds}
use Rattle.bus_outer.proofs.TextLaws.{failed_adds, ◌▸◌}
use Rattle.bus_strings.specs.Messages.{Entry}
use Rattle.bus_table.specs.Tables.{Sender}
use Rattle.bus_dump.specs.DumpTexts.{changes_at, first_values}
use Rattle.bus_dump.specs.declared.scene.Scene as kept
use Rattle.bus_dump.specs.inside.Layouts.{layout_signals}
use Rattle.bus_dump.specs.Scenes.{Scene, elapsed_at, is_breach, scene_at, timed}
use Rattle.bus_dump.specs.Seen.{seen_at}
use Rattle.bus_dump.specs.inside.TimerWalks.{BreachStays, ElapsedStays, IsTold, StaysAs, TellsAs, scene_of}
use Rattle.bus_dump.proofs.TimerWalkLemmas.{told_now}
use Rattle.bus_dump.proofs.WriteLemmas.{first_is, last_put, left_put, next_put, scene_is, scene_stays}
use Rattle.bus_dump.proofs.writing.put_bit_times.Goals as goal

-- the timers of a scene that was taken over, and of the next one
tells_on : (was before now : kept.Scene) → scene_of before ≡ scene_of was → TellsAs was now → TellsAs before now
tells_on was before now same tells e = ap (λ (s : Scene). s.timers) same ∙ tells e

pub put_changes-requires-clause-tells : goal.put_changes-requires-clause-tells
put_changes-requires-clause-tells g c =
    tells_on c.loop-until.now c.take_over.new.self c.look-until-in-loop-until.new.now c.take_over.ensures c.look-until-in-loop-until.ensures.tells

pub loop-until-init : goal.loop-until-init
loop-until-init g c =
    let dump = c.args.layout.now.dump in
    let breach = c.args.breach in
    let table = c.args.table.now in
    let from = c.args.from in
    let senders : List Sender = timed dump table in
    let timer_walk = c.timer_walk_from-timer_walk in
    let look = c.look-until in
    let own : List Entry = timer_walk.result.walk.list.now in
    let same : own ≡ c.args.list.now = timer_walk.ensures.list in
    let after : look.new.self.walk.list.now ≡ own = look.ensures.list in
    let kept = look.ensures.told table senders timer_walk.ensures.keeping timer_walk.ensures.timers in
    let told = told_now c.test_decides.ensures table from look.result senders look.new.self look.new.now.timers.items look.ensures.timer_walk.walkable
    look.ensures.lasts look.ensures.since look.ensures.later kept.0 kept.1 in
    let now : scene_of look.new.now ≡ scene_at dump breach table c.args.list.now from =
    scene_is look.new.now.seen.items (seen_at own from) look.new.now.timers.items (map (elapsed_at table own from) senders) look.new.now.breach
    (is_breach breach from) look.ensures.seen (told.0 ∙ ap (λ (l : List Entry). map (elapsed_at table l from) senders) after)
    (look.ensures.broken ∙ ap (λ b. is_breach b from) timer_walk.ensures.breach)
    ∙ ap (λ (l : List Entry). scene_at dump breach table l from) same in
    record {
      list = after ∙ same;
      breach = look.ensures.breach ∙ timer_walk.ensures.breach;
      timer_walk = look.ensures.timer_walk;
      since = look.ensures.since;
      lasts = look.ensures.lasts;
      keeping = kept.0;
      told = kept.1;
      tells = λ e. absurd (true≢false e);
      now = now;
      begun = omega arith;
      reached = inl (omega arith);
      later = look.ensures.later;
      most = look.ensures.most;
      ahead = look.ensures.ahead;
      stays = subst (λ (l : List Entry). StaysAs (scene_at dump breach table l) from look.result) same
          (scene_stays dump breach table own from look.result look.ensures.steady
          (subst (λ (l : List Entry). ElapsedStays table l senders from look.result) after told.1)
          (subst (λ b. BreachStays b from look.result) timer_walk.ensures.breach look.ensures.same));
      adds = subst (λ (t : List ℕ). Adds g.K.Sink.held g.K.Sink.faults c.args.sink.now c.put_first.new.sink c.args.text.now c.put_first.new.text t)
          (first_is (layout_signals c.args.layout.now) (scene_at dump breach table c.args.list.now) (scene_of look.new.now) from now)
          c.put_first.ensures;
    }

pub loop-until-preserved : goal.loop-until-preserved
loop-until-preserved g c =
    let i = c.loop-until.invariant in
    let dump = c.args.layout.now.dump in
    let breach = c.args.breach in
    let table = c.args.table.now in
    let senders : List Sender = timed dump table in
    let own : List Entry = c.go_on.new.self.walk.list.now in
    let same : own ≡ c.args.list.now = c.go_on.ensures.list ∙ i.list in
    let broken : c.go_on.new.self.breach ≡ breach = c.go_on.ensures.breach ∙ i.breach in
    let keeping = c.go_on.ensures.keeping table senders i.keeping in
    let was : scene_of c.take_over.new.self ≡ scene_at dump breach table c.args.list.now c.loop-until.t = c.take_over.ensures ∙ i.now in
    let look = c.look-until-in-loop-until in
    let u = c.loop-until.until in
    let after : look.new.self.walk.list.now ≡ own = look.ensures.list in
    let before : IsTold table senders c.go_on.new.self c.loop-until.now.timers.items =
    i.told ∙ sym (ap (λ (l : List Entry). map (elapsed_at table l c.go_on.new.self.since) senders) c.go_on.ensures.list
    ∙ ap (λ x. map (elapsed_at table c.loop-until.timer_walk.walk.list.now x) senders) c.go_on.ensures.since) in
    let kept = look.ensures.told table senders keeping (λ h. before) in
    let told = told_now c.test_decides.ensures table u look.result senders look.new.self look.new.now.timers.items look.ensures.timer_walk.walkable
    look.ensures.lasts look.ensures.since look.ensures.later kept.0 kept.1 in
    let now : scene_of look.new.now ≡ scene_at dump breach table c.args.list.now u =
    scene_is look.new.now.seen.items (seen_at own u) look.new.now.timers.items (map (elapsed_at table own u) senders) look.new.now.breach
    (is_breach breach u) look.ensures.seen (told.0 ∙ ap (λ (l : List Entry). map (elapsed_at table l u) senders) after)
    (look.ensures.broken ∙ ap (λ b. is_breach b u) broken)
    ∙ ap (λ (l : List Entry). scene_at dump breach table l u) same in
    record {
      list = after ∙ same;
      breach = look.ensures.breach ∙ broken;
      timer_walk = look.ensures.timer_walk;
      since = look.ensures.since;
      lasts = look.ensures.lasts;
      keeping = kept.0;
      told = kept.1;
      tells = tells_on c.loop-until.now c.take_over.new.self look.new.now c.take_over.ensures look.ensures.tells;
      now = now;
      begun = omega (arith, i.begun, i.later);
      reached = inr c.loop-until-test.true;
      later = look.ensures.later;
      most = look.ensures.most;
      ahead = look.ensures.ahead;
      stays = subst (λ (l : List Entry). StaysAs (scene_at dump breach table l) u look.result) same
          (scene_stays dump breach table own u look.result look.ensures.steady
          (subst (λ (l : List Entry). ElapsedStays table l senders u look.result) after told.1)
          (subst (λ b. BreachStays b u look.result) broken look.ensures.same));
      adds = subst (λ (t : List ℕ). Adds g.K.Sink.held g.K.Sink.faults c.args.sink.now c.put_changes.new.sink c.args.text.now c.put_changes.new.text t)
          (next_put (layout_signals c.args.layout.now) (scene_at dump breach table c.args.list.now)
          (first_values (layout_signals c.args.layout.now) (scene_at dump breach table c.args.list.now c.args.from) c.args.from) c.args.from
          c.loop-until.t u (scene_of c.take_over.new.self) (scene_of look.new.now) i.begun i.later i.stays was now)
          (i.adds ▸ c.put_changes.ensures);
    }

-- behind a failed write
pub returns-then-has_failed : goal.returns-then-has_failed
returns-then-has_failed g c =
    let i = c.loop-until.invariant in
    let signals = layout_signals c.args.layout.now in
    let at = scene_at c.args.layout.now.dump c.args.breach c.args.table.now c.args.list.now in
    let left : List ℕ = flat_map (changes_at signals at) (range_with_len (1 + c.loop-until.t) (c.args.end - 1 - c.loop-until.t)) in
    subst (λ (t : List ℕ). Adds g.K.Sink.held g.K.Sink.faults c.args.sink.now c.loop-until.sink c.args.text.now c.loop-until.text t)
    (left_put signals at (first_values signals (at c.args.from) c.args.from) c.args.from c.loop-until.t c.args.end i.begun
    (omega (arith, i.later, c.loop-until-test.true)))
    (i.adds ▸ failed_adds g.K.Sink.held g.K.Sink.faults c.loop-until.sink c.loop-until.text left (sym c.has_failed.ensures ∙ c.if-has_failed.true))

pub returns : goal.returns
returns g c =
    let i = c.loop-until.invariant in
    let at = scene_at c.args.layout.now.dump c.args.breach c.args.table.now c.args.list.now in
    subst (λ (t : List ℕ). Adds g.K.Sink.held g.K.Sink.faults c.args.sink.now c.loop-until.sink c.args.text.now c.loop-until.text t)
    (last_put (layout_signals c.args.layout.now) at (first_values (layout_signals c.args.layout.now) (at c.args.from) c.args.from) c.args.from
    c.loop-until.t c.loop-until.until c.args.end i.begun i.later c.loop-until-test.false i.reached i.stays)
    i.adds
