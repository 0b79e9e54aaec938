use Rattle.std.proofs.Common.{◌≡◌, ℕ, ◌+◌, length, refl, ap, ◌∙◌, arith}
use Rattle.std.proofs.lemmas.List.{length-set, length-replicate}
use Rattle.std.proofs.lemmas.Option.{slice_get_read}
use Rattle.bus_strings.specs.Messages.{Entry}
use Rattle.bus_vote.proofs.PaceLemmas.{none_spaced, spacing_more, spaced_by}
use Rattle.bus_vote.proofs.pace.gaps.Goals as goal

pub loop-at-init : goal.loop-at-init
loop-at-init c = record {
  gaps_long = length-replicate 129 (length c.args.list.now);
  behind_long = length-replicate {A = ℕ} 129 0;
  spacing = none_spaced c.args.list.now _ 129;
}

pub loop-at-preserved : goal.loop-at-preserved
loop-at-preserved c =
    let list = c.args.list.now in
    let at : ℕ = c.loop-at.at in
    let i = c.loop-at.invariant in
    let x = c.index-list-at.result in
    let own : ℕ = c.from-terminal.result in
    let names : own ≡ x.terminal = c.from-terminal.ensures ∙ ap (λ (e : Entry). e.terminal) c.x.view_is in
    let low = c.x.invariant in
    record {
      gaps_long = length-set c.loop-at.gaps own c.closer.result ∙ i.gaps_long;
      behind_long = length-set c.loop-at.behind own (at + 1) ∙ i.behind_long;
      spacing = spacing_more list at x own c.closer.result c.loop-at.gaps c.loop-at.behind
          (slice_get_read list (length list) at x refl c.loop-at-test.true c.index-list-at.is) names
          (omega arith) (omega arith) c.closer.ensures.less c.closer.ensures.near i.spacing;
    }

pub returns : goal.returns
returns c = λ terminal gap is.
    spaced_by c.args.list.now c.loop-at.at terminal gap c.loop-at.gaps c.loop-at.behind (omega arith) c.loop-at.invariant.spacing is
