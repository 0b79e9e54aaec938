use Rattle.std.proofs.Common.{◌≡◌, ℕ, ◌+◌, ◌<◌, ◌≤◌, Some, length, get_or, replicate, max, refl, ap, subst, ◌++◌, ◌∙◌, arith}
use Rattle.std.specs.Prelude.{slice_get}
use Rattle.std.specs.List.{flat_map}
use Rattle.std.proofs.lemmas.List.{get_or-replicate, length-set}
use Rattle.std.proofs.lemmas.Option.{slice_get_read}
use Rattle.bus_strings.specs.Messages.{Entry}
use Rattle.bus_strings.specs.Transmissions.{end_of}
use Rattle.bus_vote.specs.inside.Finds.{sent_before, string_finds}
use Rattle.bus_vote.proofs.FindLemmas.{none_counted, count_more, found_more, sent_bound}
use Rattle.bus_vote.proofs.WalkLemmas.{none_reach, reach_more}
use Rattle.bus_vote.proofs.finds.find_all.Goals as goal

pub loop-at-init : goal.loop-at-init
loop-at-init c = record {
  ends = none_reach;
  sent_long = refl;
  counted = none_counted c.args.list.now (replicate {A = ℕ} 129 0) (λ terminal within. get_or-replicate 129 terminal 0 0 within);
  found = c.requires.none;
}

pub overflow_add-sent : goal.overflow_add-sent
overflow_add-sent c =
    let own : ℕ = c.from-terminal.result in
    let low = c.x.invariant in
    let names : own ≡ c.x.inside.terminal = c.from-terminal.ensures in
    let count : get_or c.loop-at.sent own 0 ≡ sent_before own c.args.list.now c.loop-at.at = c.loop-at.invariant.counted own (omega arith) in
    let bound : sent_before own c.args.list.now c.loop-at.at ≤ c.loop-at.at = sent_bound c.args.list.now c.loop-at.at own in
    let within : c.loop-at.at < length c.args.list.now = c.loop-at-test.true in
    omega (arith, c.requires.narrow)

pub loop-at-preserved : goal.loop-at-preserved
loop-at-preserved c =
    let list = c.args.list.now in
    let at : ℕ = c.loop-at.at in
    let i = c.loop-at.invariant in
    let x = c.index-list-at.result in
    let own : ℕ = c.from-terminal.result in
    let low = c.x.invariant in
    let same : own ≡ c.x.inside.terminal = c.from-terminal.ensures in
    let names : own ≡ x.terminal = same ∙ ap (λ (e : Entry). e.terminal) c.x.view_is in
    let there : slice_get list at ≡ Some x = slice_get_read list (length list) at x refl c.loop-at-test.true c.index-list-at.is in
    let round : ℕ = get_or c.loop-at.sent own 0 in
    let more : c.max-reach.result ≡ max (end_of x) c.loop-at.reach = c.max-reach.ensures ∙ ap (λ e. max e c.loop-at.reach) c.end.ensures.value in
    record {
      ends = reach_more list at x c.loop-at.reach c.max-reach.result c.loop-at-test.true c.index-list-at.is more i.ends;
      sent_long = length-set c.loop-at.sent own (round + 1) ∙ i.sent_long;
      counted = count_more list at x own round c.loop-at.sent there names (omega (arith, i.sent_long)) refl i.counted;
      found = found_more c.args.wanted.now list at x round c.strings.result.now c.loop-at.finds.items c.add_strings.new.finds.items there
          (i.counted own (omega arith) ∙ ap (λ t. sent_before t list at) names) (c.strings.ensures.value ∙ ap (λ (e : Entry). e.message) c.x.view_is) i.found
          (subst (λ (t : ℕ). c.add_strings.new.finds.items
          ≡ c.loop-at.finds.items ++ flat_map (string_finds c.args.wanted.now list at t (get_or c.loop-at.sent own 0)) c.strings.result.now)
          (ap (λ (e : Entry). e.terminal) c.x.view_is) (c.add_strings.ensures c.if-not-add_strings.false));
    }
