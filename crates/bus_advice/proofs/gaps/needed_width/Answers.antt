use Rattle.std.proofs.Common.{arith, ap, sym, ◌∙◌, ◌≡◌, ◌+◌, ◌≤◌, cond, length}
use Rattle.std.specs.Prelude.{Bool, true, false, not, ◌||◌, ℕ}
use mir.Val.{bool_byte}
use Rattle.bus_regime.proofs.GapPlaces.{length-gaps}
use Rattle.bus_regime.specs.Gaps.{gaps, has_width}
use Rattle.bus_regime.specs.Verdicts.{is_small}
use Rattle.bus_table.specs.Tables.{Sender}
use Rattle.bus_advice.specs.inside.InnerGaps.{inner_gaps, has_room}
use Rattle.bus_advice.proofs.TurnSteps.{any_more, small_more, small_found, count_more, needed_none, needed_some}
use Rattle.bus_advice.proofs.gaps.needed_width.Goals as goal
use Rattle.bus_advice.proofs.gaps.needed_width.Goals.{then-room, else-room}

pub returns-then-not-has_width : goal.returns-then-not-has_width
returns-then-not-has_width c =
    let own = c.tg-own.ensures.value ∙ ap (λ (s : Sender). s.tg) c.sender.ensures in
    let small : is_small c.gap_at-gap.result ≡ true =
    ap (λ n. not (has_width n c.gap_at-gap.result)) (sym own) ∙ ap not (sym c.has_width.ensures ∙ c.if-not-has_width.true) in
    needed_none c.args.table.now.sg c.args.tg (inner_gaps c.args.table.now)
    (small_found (gaps c.args.table.now) c.loop-k.k c.gap_at-gap.result _ c.gap_at-gap.ensures small c.loop-k.invariant.small)

abbrev one_if : Bool → ℕ
one_if b = cond b 1 0

byte_is : (b : Bool) (n : ℕ) → n ≡ bool_byte b → n ≡ cond b 1 0
byte_is true n e = e
byte_is false n e = e

at_most_one : (b : Bool) (wide one k : ℕ) → wide ≤ k → one ≡ cond b 1 0 → wide + one ≤ k + 1
at_most_one true wide one k few e = omega arith
at_most_one false wide one k few e = omega arith

pub loop-k-preserved : goal.loop-k-preserved
loop-k-preserved c =
    let own = c.tg-own.ensures.value ∙ ap (λ (s : Sender). s.tg) c.sender.ensures in
    let fits : is_small c.gap_at-gap.result ≡ false =
    ap (λ n. not (has_width n c.gap_at-gap.result)) (sym own) ∙ ap not (sym c.has_width.ensures ∙ c.if-not-has_width.false) in
    let few = c.loop-k.invariant.few in
    let room : c.if-room.room ≡ (c.loop-k.room || has_room c.sg-sg.result c.gap_at-gap.result) = elim c.if-room.branch [
      | then-room w ↦ w.room-is ∙ w.if-room.true ∙ sym (ap (λ b. b || has_room c.sg-sg.result c.gap_at-gap.result) w.if-room.true)
      | else-room w ↦ w.room-is ∙ w.has_width-room.ensures ∙ ap (λ n. has_width (c.sg-sg.result + n) c.gap_at-gap.result) own
          ∙ sym (ap (λ b. b || has_room c.sg-sg.result c.gap_at-gap.result) w.if-room.false)
    ] in
    let one : c.from-wide.result ≡ cond (has_width c.sg-sg.result c.gap_at-gap.result) 1 0 =
    byte_is c.has_width-in-loop-k.result c.from-wide.result c.from-wide.ensures ∙ ap one_if c.has_width-in-loop-k.ensures in
    record {
      small = small_more (gaps c.args.table.now) c.loop-k.k c.gap_at-gap.result _ c.gap_at-gap.ensures fits c.loop-k.invariant.small;
      room = any_more (has_room c.sg-sg.result) (gaps c.args.table.now) c.loop-k.k c.gap_at-gap.result _ c.loop-k.room c.if-room.room
          c.gap_at-gap.ensures c.loop-k.invariant.room room;
      wide = count_more (has_width c.sg-sg.result) (gaps c.args.table.now) c.loop-k.k c.gap_at-gap.result _ c.loop-k.wide c.from-wide.result
          c.gap_at-gap.ensures c.loop-k.invariant.wide one;
      few = at_most_one (has_width c.sg-sg.result c.gap_at-gap.result) c.loop-k.wide c.from-wide.result c.loop-k.k few one;
    }

pub returns : goal.returns
returns c =
    let sg = c.sg-sg.ensures.value in
    let inv = c.loop-k.invariant in
    let long = length-gaps c.args.table.now in
    let same = ap length c.senders-k-end.ensures.value in
    needed_some c.args.table.now.sg c.args.tg (gaps c.args.table.now) (inner_gaps c.args.table.now) c.loop-k.k c.loop-k.room c.loop-k.wide
    c.width_for.result (omega (arith, long, same, c.loop-k-test.false)) inv.small
    (let w = inv.room in rw sg at w) (let w = inv.wide in rw sg at w) (let w = c.width_for.ensures.value in rw sg at w)
