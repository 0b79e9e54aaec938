-- One gap, or one synchronization gap, further.
use Rattle.std.specs.Prelude.{nat_lt, ◌==◌, IsNone}
use Rattle.std.proofs.Common.{arith, ◌≡◌, ◌↔◌, ℕ, zero, suc, ◌+◌, ◌-◌, ◌*◌, ◌<◌, ◌≤◌, Bool, true, false, ◌&&◌, cond, List, Some, None, Option}
use Rattle.std.proofs.Common.{refl, sym, ◌∙◌, ap, subst}
use Rattle.std.proofs.lemmas.Bool.Decides.{nat_tests}
use Rattle.bus_bounds.specs.Bounds.{Bounds}
use Rattle.bus_gaps.specs.Gaps.{least_time, most_time, next_low, Waits}
use Rattle.bus_best.specs.declared.blame.Rule.{Rule}
use Rattle.bus_best.specs.declared.blame.Needed.{Needed}
use Rattle.bus_best.specs.Asked.{asked, asked_from, least_gap}
use Rattle.bus_best.specs.Blames.{above, all_wait, blame_from, first_above, rule_behind, waiting_or, waits}

pub above_step : (bounds : Bounds) (sg place : ℕ) (rule : Rule) (low n x : ℕ) → 1 ≤ n → x ≡ least_gap bounds low → x ≤ 256
    → first_above bounds sg place rule (asked_from bounds sg low n)
    ≡ first_above bounds sg (place + 1) (rule_behind bounds sg x) (asked_from bounds sg (next_low bounds sg x) (n - 1))
above_step bounds sg place rule low zero x some is small = absurd (omega (arith, some))
above_step bounds sg place rule low (suc n) x some is small =
    let test : nat_lt 256 (least_gap bounds low) ≡ false = (let e = is in grind (arith, nat_tests, small, e)) in
    let more : suc n - 1 ≡ n = omega arith in
    let here : place + 1 ≡ suc place = omega arith in
    let rest : ℕ → ℕ → List ℕ = λ y m. asked_from bounds sg (next_low bounds sg y) m in
    ap (λ b. cond b (Some (record { rule = rule; place = place; bits = least_gap bounds low })) (first_above bounds sg (suc place) (rule_behind bounds sg (least_gap bounds low)) (rest (least_gap bounds low) n))) test
    ∙ ap (λ y. first_above bounds sg (suc place) (rule_behind bounds sg y) (rest y n)) (sym is)
    ∙ ap (λ p. first_above bounds sg p (rule_behind bounds sg x) (rest x n)) (sym here)
    ∙ ap (λ m. first_above bounds sg (place + 1) (rule_behind bounds sg x) (rest x m)) (sym more)

-- where one is not less
not_less : (a b : ℕ) → (a < b → ⊥) → nat_lt a b ≡ false
not_less a b h = grind (arith, nat_tests, h)

-- what a test tells
waits_is : (bounds : Bounds) (sg : ℕ) (alone : Bool) (x : ℕ) (r : Bool) → (r ≡ true) ↔ Waits bounds sg alone x → r ≡ waits bounds sg alone x
waits_is bounds sg true x true h = let l : x < sg = h.0 refl in sym (grind (arith, nat_tests, l))
waits_is bounds sg true x false h = sym (not_less x sg (λ l. let e : false ≡ true = h.1 l in absurd (cc)))
waits_is bounds sg false x true h =
    let l : most_time bounds x + 2 * bounds.delay < least_time bounds sg = h.0 refl in sym (grind (arith, nat_tests, l))
waits_is bounds sg false x false h =
    sym (not_less (most_time bounds x + 2 * bounds.delay) (least_time bounds sg) (λ l. let e : false ≡ true = h.1 l in absurd (cc)))

pub waits_step : (bounds : Bounds) (sg : ℕ) (alone : Bool) (low n x : ℕ) → 1 ≤ n → x ≡ least_gap bounds low
    → all_wait bounds sg alone (asked_from bounds sg low n)
    ≡ (waits bounds sg alone x && all_wait bounds sg alone (asked_from bounds sg (next_low bounds sg x) (n - 1)))
waits_step bounds sg alone low zero x some is = absurd (omega (arith, some))
waits_step bounds sg alone low (suc n) x some is =
    let more : suc n - 1 ≡ n = omega arith in
    ap (λ y. waits bounds sg alone y && all_wait bounds sg alone (asked_from bounds sg (next_low bounds sg y) n)) (sym is)
    ∙ ap (λ m. waits bounds sg alone x && all_wait bounds sg alone (asked_from bounds sg (next_low bounds sg x) m)) (sym more)

-- so far and here
pub waits_then : (bounds : Bounds) (sg : ℕ) (alone : Bool) (low n x : ℕ) (before here : Bool) → 1 ≤ n → x ≡ least_gap bounds low
    → (here ≡ true) ↔ Waits bounds sg alone x
    → (before && all_wait bounds sg alone (asked_from bounds sg low n))
    ≡ (before && (here && all_wait bounds sg alone (asked_from bounds sg (next_low bounds sg x) (n - 1))))
waits_then bounds sg alone low n x before here some is told =
    ap (λ b. before && b) (waits_step bounds sg alone low n x some is)
    ∙ ap (λ b. before && (b && all_wait bounds sg alone (asked_from bounds sg (next_low bounds sg x) (n - 1)))) (sym (waits_is bounds sg alone x here told))

pub from_step : (bounds : Bounds) (count sg n : ℕ) → 1 ≤ n
    → blame_from bounds count sg n
    ≡ waiting_or (above bounds count sg) (all_wait bounds sg (count == 1) (asked bounds count sg)) (blame_from bounds count (sg + 1) (n - 1))
unfolding blame_from
from_step bounds count sg zero some = absurd (omega (arith, some))
from_step bounds count sg (suc n) some =
    let more : suc n - 1 ≡ n = omega arith in
    let here : sg + 1 ≡ suc sg = omega arith in
    ap (λ s. waiting_or (above bounds count sg) (all_wait bounds sg (count == 1) (asked bounds count sg)) (blame_from bounds count s n)) (sym here)
    ∙ ap (λ m. waiting_or (above bounds count sg) (all_wait bounds sg (count == 1) (asked bounds count sg)) (blame_from bounds count (sg + 1) m)) (sym more)

pub from_end : (bounds : Bounds) (count sg n : ℕ) → n ≡ 0 → blame_from bounds count sg n ≡ blame_from bounds count sg 0
from_end bounds count sg n e = ap (blame_from bounds count sg) e

-- with what one synchronization gap tells
pub waiting_by : (bounds : Bounds) (count sg n : ℕ) (o : Option Needed) (b : Bool) → 1 ≤ n → above bounds count sg ≡ o
    → (o ≡ None → all_wait bounds sg (count == 1) (asked bounds count sg) ≡ b)
    → blame_from bounds count sg n ≡ waiting_or o b (blame_from bounds count (sg + 1) (n - 1))
waiting_by bounds count sg n (Some needed) b some is told =
    from_step bounds count sg n some ∙ ap (λ o. waiting_or o (all_wait bounds sg (count == 1) (asked bounds count sg)) (blame_from bounds count (sg + 1) (n - 1))) is
waiting_by bounds count sg n None b some is told =
    from_step bounds count sg n some
    ∙ ap (λ o. waiting_or o (all_wait bounds sg (count == 1) (asked bounds count sg)) (blame_from bounds count (sg + 1) (n - 1))) is
    ∙ ap (λ w. waiting_or None w (blame_from bounds count (sg + 1) (n - 1))) (told refl)

pub is_none : (o : Option Needed) → o ≡ None → IsNone o
is_none o e = subst IsNone (sym e) refl
