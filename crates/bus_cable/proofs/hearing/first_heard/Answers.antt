use Rattle.std.proofs.Common.{arith, ◌≡◌, ◌<◌, ◌≤◌, ◌^◌, ◌⊎◌, inl, inr, ℕ, length, refl, ap, sym, subst, ◌∙◌}
use Rattle.std.proofs.lemmas.Option.{slice_get_read}
use Rattle.bus_strings.specs.Messages.{Entry}
use Rattle.bus_medium.specs.Delays.{cable, later, heard}
use Rattle.bus_cable.specs.inside.Ranks.{rank, rank_in, IsFirstSoFar}
use Rattle.bus_propagation.specs.Numbered.{numbered}
use Rattle.bus_cable.proofs.HearingLemmas.{rank_heard, so_far_better, so_far_same, so_far_enough, rest_late}
use Rattle.bus_cable.proofs.hearing.first_heard.Goals as goal
use Rattle.bus_cable.proofs.hearing.first_heard.Goals.{then-bound-rank+then-rank-least, else-bound-rank}

pub returns-then-x-least : goal.returns-then-x-least
returns-then-x-least c =
    let list = c.args.list.now in
    let delay = cable (numbered c.args.places.now) in
    let R = rank_in (heard delay c.args.number list) in
    let x = c.index-list-at.result in
    let at = slice_get_read list (length list) c.loop-at.at x refl c.loop-at-test.true c.index-list-at.is in
    let moment : x.moment ≡ c.x.inside.moment = ap (λ (e : Entry). e.moment) (sym c.x.view_is) in
    so_far_enough R c.args.from c.args.bound (length list) c.loop-at.at c.loop-at.best c.loop-at.least c.loop-at.invariant.so_far (omega (arith, c.if-x-least.true, c.x.invariant, moment))
    (rest_late delay c.args.number list c.loop-at.at c.loop-at.least x c.requires.order at (omega (arith, c.if-x-least.true, moment)))

better : {R : ℕ → ℕ} {from bound count at' best least : ℕ} (at rank : ℕ) → R at ≡ rank → best ≡ at → least ≡ rank → IsFirstSoFar R from bound count at' at (R at)
    → IsFirstSoFar R from bound count at' best least
better {R} {from} {bound} {count} {at'} {best} {least} at rank here b l s =
    subst (λ (n : ℕ). IsFirstSoFar R from bound count at' n least) (sym b) (subst (λ (n : ℕ). IsFirstSoFar R from bound count at' at n) (here ∙ sym l) s)

same : {R : ℕ → ℕ} {from bound count at' best least old_best old_least : ℕ} → best ≡ old_best → least ≡ old_least → IsFirstSoFar R from bound count at' old_best old_least
    → IsFirstSoFar R from bound count at' best least
same {R} {from} {bound} {count} {at'} {best} {least} {old_best} {old_least} b l s =
    subst (λ (n : ℕ). IsFirstSoFar R from bound count at' n least) (sym b) (subst (λ (n : ℕ). IsFirstSoFar R from bound count at' old_best n) (sym l) s)

worse : {bound least rank here : ℕ} → ((bound ≤ rank) × (least ≤ rank)) ⊎ (rank < bound) → here ≡ rank → (here < bound) ⊎ (least ≤ here)
worse {bound} {least} {rank} {here} (inl both) e = inr (let l : least ≤ rank = both.1 in omega (arith, l, e))
worse {bound} {least} {rank} {here} (inr low) e = inl (omega (arith, low, e))

pub loop-at-preserved : goal.loop-at-preserved
loop-at-preserved c =
    let list = c.args.list.now in
    let delay = cable (numbered c.args.places.now) in
    let R = rank_in (heard delay c.args.number list) in
    let x = c.index-list-at.result in
    let at = slice_get_read list (length list) c.loop-at.at x refl c.loop-at-test.true c.index-list-at.is in
    let here : R c.loop-at.at ≡ c.rank-rank.result = (let r : R c.loop-at.at ≡ rank (later (delay x c.args.number) x) = rank_heard delay c.args.number list c.loop-at.at x at in omega (arith, r, c.rank-rank.ensures.value)) in
    let few : R c.loop-at.at < 2 ^ 50 = omega (arith, here, c.rank-rank.ensures.few) in
    let old = c.loop-at.invariant.so_far in
    record {
      so_far = elim c.if-bound-rank.branch [
        | then-bound-rank+then-rank-least w ↦ better c.loop-at.at c.rank-rank.result here w.best-is w.least-is
            (so_far_better R c.args.from c.args.bound (length list) c.loop-at.at c.loop-at.best c.loop-at.least old c.loop-at.invariant.low c.loop-at-test.true
            (let b : c.args.bound ≤ c.rank-rank.result = w.if-bound-rank.true in omega (arith, b, here)) (let l : c.rank-rank.result < c.loop-at.least = w.if-rank-least.true in omega (arith, l, here)))
        | else-bound-rank w ↦ same w.best-is w.least-is
            (so_far_same R c.args.from c.args.bound (length list) c.loop-at.at c.loop-at.best c.loop-at.least old few (worse w.else-bound-rank.either here))
      ];
      low = (let low : c.args.from ≤ c.loop-at.at = c.loop-at.invariant.low in omega (arith, low));
    }
