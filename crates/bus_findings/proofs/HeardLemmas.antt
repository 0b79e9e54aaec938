-- How what was seen of all terminals goes on with one more transmission.
use Rattle.std.specs.Prelude.{max, slice_get, not, ◌==◌, filter}
use Rattle.std.proofs.Common.{◌≡◌, ◌≢◌, ℕ, ◌+◌, ◌^◌, ◌<◌, ◌≤◌, cond, List, [], ◌∷◌, ◌++◌, take, drop, Some, inl, inr, arith, ap, sym, subst, ◌∙◌}
use Rattle.std.proofs.lemmas.Bool.{cases_eq, eq-eqb, ne_eqb, not_from_true, not_from_false}
use Rattle.std.proofs.lemmas.List.{map-append}
use Rattle.std.proofs.lemmas.List.Sums.{fold-append}
use Rattle.bus_strings.specs.Marking.{greatest_end}
use Rattle.bus_strings.specs.Members.{In}
use Rattle.bus_strings.specs.Messages.{Entry}
use Rattle.bus_strings.specs.Transmissions.{end_of, IsAscending}
use Rattle.bus_strings.proofs.ListLaws.{drop_at}
use Rattle.bus_bounds.specs.Bounds.{Bounds}
use Rattle.bus_recording.specs.Seen.{Seen}
use Rattle.bus_findings.specs.declared.heard.Ends.{Ends}
use Rattle.bus_findings.specs.Amounts.{greatest}
use Rattle.bus_findings.specs.Recorded.{seen, recorded, reach}
use Rattle.bus_findings.specs.inside.Standing.{AreEnds, of_others, others_end, latest_end}
use Rattle.bus_findings.proofs.AmountLemmas.{greatest_push}
use Rattle.bus_findings.proofs.PlaceLemmas.{take_next, filter_push, filter_skip, behind_it, moments_ascend}

-- one more is recorded
pub recorded_next : (bounds : Bounds) (list : List Entry) (i : ℕ) (x : Entry) → slice_get list i ≡ Some x
    → recorded bounds (take (i + 1) list) ≡ recorded bounds (take i list) ++ seen bounds x ∷ []
recorded_next bounds list i x at = ap (recorded bounds) (take_next list i x at) ∙ map-append (seen bounds) (take i list) (x ∷ [])

-- the greatest ends of others, with one more
others_own : (recording : List Seen) (r : Seen) (number : ℕ) → r.sender ≡ number → others_end (recording ++ r ∷ []) number ≡ others_end recording number
others_own recording r number own =
    ap (greatest (λ q. q.soonest)) (filter_skip (λ q. not (q.sender == number)) recording r (not_from_true _ (eq-eqb r.sender number own)))

others_more : (recording : List Seen) (r : Seen) (number : ℕ) → r.sender ≢ number
    → others_end (recording ++ r ∷ []) number ≡ max (others_end recording number) r.soonest
others_more recording r number apart =
    ap (greatest (λ q. q.soonest)) (filter_push (λ q. not (q.sender == number)) recording r (not_from_false _ (ne_eqb r.sender number apart)))
    ∙ greatest_push (λ q. q.soonest) (filter (λ q. not (q.sender == number)) recording) r

of_own : (ends : Ends) (number : ℕ) → number ≡ ends.terminal → of_others ends number ≡ ends.second
of_own ends number own = ap (λ b. let v : ℕ = cond b ends.second ends.first in v) (eq-eqb number ends.terminal own)

pub of_other : (ends : Ends) (number : ℕ) → number ≢ ends.terminal → of_others ends number ≡ ends.first
of_other ends number apart = ap (λ b. let v : ℕ = cond b ends.second ends.first in v) (ne_eqb number ends.terminal apart)

-- of the terminal whose end is the greatest
pub ends_own : (recording : List Seen) (ends : Ends) (r : Seen) (end first : ℕ) → AreEnds recording ends → r.sender ≡ ends.terminal → r.soonest ≡ end
    → end < 2 ^ 41 → first ≡ max ends.first end → AreEnds (recording ++ r ∷ []) (record ends { first = first })
ends_own recording ends r end first are own is low made =
    let new : Ends = record ends { first = first } in
    let order : ends.second ≤ ends.first = are.order in
    let bound : ends.first < 2 ^ 41 = are.bound in
    record {
      others = λ number. elim (cases_eq number ends.terminal) [
        | inl same ↦ of_own new number same ∙ sym (of_own ends number same) ∙ are.others number ∙ sym (others_own recording r number (own ∙ sym same))
        | inr apart ↦
            let was : others_end recording number ≡ ends.first = sym (are.others number) ∙ of_other ends number apart in
            let now : others_end (recording ++ r ∷ []) number ≡ max (others_end recording number) r.soonest = others_more recording r number (λ e. apart (sym e ∙ own)) in
            let told : of_others new number ≡ first = of_other new number apart in
            omega (arith, was, now, told, made, is)
      ];
      order = omega (arith, order, made);
      bound = omega (arith, bound, made, low);
    }

-- of another terminal, whose end is greater
pub ends_first : (recording : List Seen) (ends : Ends) (r : Seen) (terminal end : ℕ) → AreEnds recording ends → r.sender ≡ terminal → terminal ≢ ends.terminal
    → r.soonest ≡ end → end < 2 ^ 41 → ends.first < end
    → AreEnds (recording ++ r ∷ []) (record { first = end; terminal = terminal; second = ends.first })
ends_first recording ends r terminal end are own other is low more =
    let new : Ends = record { first = end; terminal = terminal; second = ends.first } in
    let order : ends.second ≤ ends.first = are.order in
    record {
      others = λ number. elim (cases_eq number terminal) [
        | inl same ↦
            of_own new number same ∙ sym (of_other ends number (λ e. other (sym same ∙ e))) ∙ are.others number
            ∙ sym (others_own recording r number (own ∙ sym same))
        | inr apart ↦
            let told : of_others new number ≡ end = of_other new number apart in
            let now : others_end (recording ++ r ∷ []) number ≡ max (others_end recording number) r.soonest = others_more recording r number (λ e. apart (sym e ∙ own)) in
            let was : others_end recording number ≤ ends.first = elim (cases_eq number ends.terminal) [
              | inl same ↦ (let e : others_end recording number ≡ ends.second = sym (are.others number) ∙ of_own ends number same in omega (arith, e, order))
              | inr no_one ↦ (let e : others_end recording number ≡ ends.first = sym (are.others number) ∙ of_other ends number no_one in omega (arith, e))
            ] in
            omega (arith, told, now, was, more, is)
      ];
      order = omega arith;
      bound = low;
    }

-- and whose end isn't
pub ends_second : (recording : List Seen) (ends : Ends) (r : Seen) (terminal end second : ℕ) → AreEnds recording ends → r.sender ≡ terminal → terminal ≢ ends.terminal
    → r.soonest ≡ end → end ≤ ends.first → second ≡ max ends.second end → AreEnds (recording ++ r ∷ []) (record ends { second = second })
ends_second recording ends r terminal end second are own other is less made =
    let new : Ends = record ends { second = second } in
    let order : ends.second ≤ ends.first = are.order in
    record {
      others = λ number. elim (cases_eq number ends.terminal) [
        | inl same ↦
            let was : others_end recording number ≡ ends.second = sym (are.others number) ∙ of_own ends number same in
            let now : others_end (recording ++ r ∷ []) number ≡ max (others_end recording number) r.soonest =
            others_more recording r number (λ e. other (sym own ∙ e ∙ same)) in
            let told : of_others new number ≡ second = of_own new number same in
            omega (arith, was, now, told, made, is)
        | inr apart ↦
            let told : of_others new number ≡ ends.first = of_other new number apart in
            let was : others_end recording number ≡ ends.first = sym (are.others number) ∙ of_other ends number apart in
            elim (cases_eq number terminal) [
              | inl mine ↦ told ∙ sym was ∙ sym (others_own recording r number (own ∙ sym mine))
              | inr no_one ↦
                  let now : others_end (recording ++ r ∷ []) number ≡ max (others_end recording number) r.soonest = others_more recording r number (λ e. no_one (sym e ∙ own)) in
                  omega (arith, told, was, now, less, is)
            ]
      ];
      order = omega (arith, order, made, less);
      bound = are.bound;
    }

-- ---- what was seen, with one more

pub end_next : (list : List Entry) (i : ℕ) (x : Entry) → slice_get list i ≡ Some x → greatest_end (take (i + 1) list) ≡ max (greatest_end (take i list)) (end_of x)
end_next list i x at = ap greatest_end (take_next list i x at) ∙ fold-append (λ end z. max end (end_of z)) 0 (take i list) (x ∷ [])

pub latest_next : (bounds : Bounds) (list : List Entry) (i : ℕ) (x : Entry) → slice_get list i ≡ Some x
    → latest_end (reach bounds) (recorded bounds (take (i + 1) list))
    ≡ max (latest_end (reach bounds) (recorded bounds (take i list))) ((seen bounds x).latest + reach bounds)
latest_next bounds list i x at =
    ap (latest_end (reach bounds)) (recorded_next bounds list i x at) ∙ greatest_push (λ r. r.latest + reach bounds) (recorded bounds (take i list)) (seen bounds x)

pub ends_next : (bounds : Bounds) (list : List Entry) (i : ℕ) (x : Entry) (ends : Ends) → slice_get list i ≡ Some x
    → AreEnds (recorded bounds (take i list) ++ seen bounds x ∷ []) ends → AreEnds (recorded bounds (take (i + 1) list)) ends
ends_next bounds list i x ends at are = subst (λ l. AreEnds l ends) (sym (recorded_next bounds list i x at)) are

-- ---- whom all have heard begin

pub begun_next : (bounds : Bounds) (list : List Entry) (i : ℕ) (x : Entry) → slice_get list i ≡ Some x
    → greatest (λ r. r.soonest) (recorded bounds (take (i + 1) list)) ≡ max (greatest (λ r. r.soonest) (recorded bounds (take i list))) (seen bounds x).soonest
begun_next bounds list i x at =
    ap (greatest (λ r. r.soonest)) (recorded_next bounds list i x at) ∙ greatest_push (λ r. r.soonest) (recorded bounds (take i list)) (seen bounds x)

-- behind one that hasn't begun so early nobody has
pub none_behind : (bounds : Bounds) (list : List Entry) (i moment : ℕ) (x : Entry) → IsAscending list → slice_get list i ≡ Some x
    → moment ≤ x.moment + reach bounds → (z : Entry) → In z (drop i list) → moment ≤ z.moment + reach bounds
none_behind bounds list i moment x up at late z inside =
    let w = subst (λ l. In z l) (drop_at list i x at) inside in
    elim w [
      | inl same ↦ (let e : z.moment ≡ x.moment = ap (λ (y : Entry). y.moment) same in omega (arith, late, e))
      | inr rest ↦ (let h : x.moment ≤ z.moment = moments_ascend x z (behind_it list i x z up at rest) in omega (arith, late, h))
    ]
