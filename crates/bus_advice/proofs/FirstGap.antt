-- How wide the first gap of an order has to be, where the inner gaps are these.
use Rattle.std.specs.Prelude.{◌≡◌, ℕ, ◌+◌, ◌<◌, ◌≤◌, Bool, true, false, not, nat_le, List, ◌∷◌}
use Rattle.std.specs.List.{count_by, list_any}
use Rattle.std.proofs.Common.{inl, inr, arith, sym, refl, ap, ◌∙◌, cond, subst}
use Rattle.std.proofs.lemmas.Bool.{cases_lt, cases_eq, true≢false, false_from_ne_true, leb-true, le-leb}
use Rattle.std.proofs.lemmas.Bool.Decides.{nat_tests}
use Rattle.bus_strings.specs.Members.{In}
use Rattle.bus_strings.proofs.MemberLaws.{any_in, none_any, any_found}
use Rattle.bus_regime.specs.Gaps.{Gap, has_width}
use Rattle.bus_regime.specs.inside.Fine.{IsSynchronized, IsFine}
use Rattle.bus_regime.specs.Verdicts.{is_small}
use Rattle.bus_regime.proofs.Counting.{HaveOwnSenders}
use Rattle.bus_regime.proofs.VerdictLaws.{is_not_small}
use Rattle.bus_advice.specs.inside.InnerGaps.{has_room, width_for}
use Rattle.bus_advice.proofs.GapCounts.{some_counted, counted_some, counted_two, other_counted, one_of_number}

is_wide : (g : Gap) → is_small g ≡ false → g.from + g.sender.tg ≤ g.to
is_wide g h =
    (elim (has_width g.sender.tg g) as (λ b. has_width g.sender.tg g ≡ b → not b ≡ false → g.from + g.sender.tg ≤ g.to) [
      | true ↦ λ e k. leb-true (g.from + g.sender.tg) g.to e
      | false ↦ λ e k. absurd (true≢false k)
    ]) refl h

-- what a width is by cases
record Width (sg tg : ℕ) (room : Bool) (wide width : ℕ) : Type 0 where
  has_room : room ≡ true → width ≡ tg
  two : 2 ≤ wide → width ≡ tg
  one : room ≡ false → wide ≡ 1 → width ≡ sg
  none : room ≡ false → wide ≡ 0 → width ≡ sg + tg

width_cases : (sg tg : ℕ) (room : Bool) (wide : ℕ) → Width sg tg room wide (width_for sg tg room wide)
width_cases sg tg true wide = record {
  has_room = λ e. refl;
  two = λ e. refl;
  one = λ e k. absurd (true≢false e);
  none = λ e k. absurd (true≢false e);
}
width_cases sg tg false wide = record {
  has_room = λ e. absurd (true≢false (sym e));
  two = λ k. ap (λ b. cond b tg (cond (nat_le 1 wide) sg (sg + tg))) (le-leb 2 wide k);
  one = λ e k.
      let less : nat_le 2 wide ≡ false = grind (arith, nat_tests, k) in
      let more : nat_le 1 wide ≡ true = grind (arith, nat_tests, k) in
      ap (λ b. cond b tg (cond (nat_le 1 wide) sg (sg + tg))) less ∙ ap (λ b. cond b sg (sg + tg)) more;
  none = λ e k.
      let less : nat_le 2 wide ≡ false = grind (arith, nat_tests, k) in
      let more : nat_le 1 wide ≡ false = grind (arith, nat_tests, k) in
      ap (λ b. cond b tg (cond (nat_le 1 wide) sg (sg + tg))) less ∙ ap (λ b. cond b sg (sg + tg)) more;
}

module _ (sg : ℕ) (first : Gap) (inner : List Gap) (short : first.sender.tg < sg) (own : HaveOwnSenders (first ∷ inner)) where
  abbrev needs : ℕ
  needs = width_for sg first.sender.tg (list_any (has_room sg) inner) (count_by (has_width sg) inner)

  -- fine gaps have that width
  pub fine_small : ((g : Gap) → In g (first ∷ inner) → IsFine sg (first ∷ inner) g) → list_any is_small inner ≡ false
  fine_small fine = none_any is_small inner (λ g i. is_not_small g (fine g (inr i)).wide)

  pub fine_width : ((g : Gap) → In g (first ∷ inner) → IsFine sg (first ∷ inner) g) → first.from + needs ≤ first.to
  fine_width fine =
      let width = width_cases sg first.sender.tg (list_any (has_room sg) inner) (count_by (has_width sg) inner) in
      let whole = (fine first (inl refl)).wide in
      (elim (list_any (has_room sg) inner) as (λ b. list_any (has_room sg) inner ≡ b → first.from + needs ≤ first.to) [
        | true ↦ λ room. (let w = width.has_room room in omega (arith, w, whole))
        | false ↦ λ none.
            elim (cases_lt (count_by (has_width sg) inner) 2) [
              | inr two ↦ (let w = width.two two in omega (arith, w, whole))
              | inl few ↦ elim (cases_lt (count_by (has_width sg) inner) 1) [
                | inr one ↦
                    (let w = width.one none (omega (arith, few, one)) in
                    let g = some_counted (has_width sg) inner one in
                    elim (fine g.0 (inr g.1)).sync [
                      | inl room ↦ absurd (true≢false (sym (any_in (has_room sg) inner g.0 g.1 (le-leb _ _ room)) ∙ none))
                      | inr s ↦ elim s.among [
                        | inl same ↦
                            (let f : s.other.from ≡ first.from = ap (λ (x : Gap). x.from) same in
                            let t : s.other.to ≡ first.to = ap (λ (x : Gap). x.to) same in
                            let k = s.wide in
                            omega (arith, w, f, t, k))
                        | inr j ↦
                            (let two = counted_two (has_width sg) inner s.other g.0 j g.1 s.apart (le-leb _ _ s.wide) g.2 in
                            absurd (omega (arith, two, few)))
                      ]
                    ])
                | inl zero ↦
                    (let w = width.none none (omega (arith, zero)) in
                    elim (fine first (inl refl)).sync [
                      | inl room ↦ omega (arith, w, room)
                      | inr s ↦ elim s.among [
                        | inl same ↦ absurd (s.apart (ap (λ (x : Gap). x.sender.number) same))
                        | inr j ↦
                            (let one = counted_some (has_width sg) inner s.other j (le-leb _ _ s.wide) in
                            absurd (omega (arith, one, zero)))
                      ]
                    ])
              ]
            ]
      ]) refl

  -- and with that width the gaps are fine
  first_fine : list_any is_small inner ≡ false → first.from + needs ≤ first.to → IsFine sg (first ∷ inner) first
  first_fine small enough =
      let width = width_cases sg first.sender.tg (list_any (has_room sg) inner) (count_by (has_width sg) inner) in
      let by_other = λ (g : Gap) (i : In g inner) (w : has_width sg g ≡ true).
      (let s : IsSynchronized sg (first ∷ inner) first = record { other = g; among = inr i; apart = own.0 g i; wide = leb-true (g.from + sg) g.to w } in s) in
      (elim (list_any (has_room sg) inner) as (λ b. list_any (has_room sg) inner ≡ b → IsFine sg (first ∷ inner) first) [
        | true ↦ λ room.
            (let w = width.has_room room in
            let g = any_found (has_room sg) inner room in
            let r : g.0.from + (sg + g.0.sender.tg) ≤ g.0.to = leb-true (g.0.from + (sg + g.0.sender.tg)) g.0.to g.2 in
            record {
              wide = omega (arith, w, enough);
              sync = inr (by_other g.0 g.1 (le-leb _ _ (omega (arith, r))));
            })
        | false ↦ λ none.
            elim (cases_lt (count_by (has_width sg) inner) 2) [
              | inr two ↦
                  (let w = width.two two in
                  let g = some_counted (has_width sg) inner (omega (arith, two)) in
                  record { wide = omega (arith, w, enough); sync = inr (by_other g.0 g.1 g.2) })
              | inl few ↦ elim (cases_lt (count_by (has_width sg) inner) 1) [
                | inr one ↦
                    (let w = width.one none (omega (arith, few, one)) in
                    let g = some_counted (has_width sg) inner one in
                    record { wide = omega (arith, w, enough, short); sync = inr (by_other g.0 g.1 g.2) })
                | inl zero ↦
                    (let w = width.none none (omega (arith, zero)) in
                    record { wide = omega (arith, w, enough); sync = inl (omega (arith, w, enough)) })
              ]
            ]
      ]) refl

  inner_fine : list_any is_small inner ≡ false → first.from + needs ≤ first.to → (g : Gap) → In g inner → IsFine sg (first ∷ inner) g
  inner_fine small enough g i =
      let width = width_cases sg first.sender.tg (list_any (has_room sg) inner) (count_by (has_width sg) inner) in
      let whole = is_wide g (false_from_ne_true (is_small g) (λ e. true≢false (sym (any_in is_small inner g i e) ∙ small))) in
      let by_first = λ (w : first.from + sg ≤ first.to).
      (let s : IsSynchronized sg (first ∷ inner) g = record { other = first; among = inl refl; apart = λ e. own.0 g i (sym e); wide = w } in s) in
      (elim (list_any (has_room sg) inner) as (λ b. list_any (has_room sg) inner ≡ b → IsFine sg (first ∷ inner) g) [
        | true ↦ λ room.
            (let h = any_found (has_room sg) inner room in
            let r : h.0.from + (sg + h.0.sender.tg) ≤ h.0.to = leb-true (h.0.from + (sg + h.0.sender.tg)) h.0.to h.2 in
            elim (cases_eq h.0.sender.number g.sender.number) [
              | inl same ↦
                  (let one : h.0 ≡ g = one_of_number inner h.0 g own.1 h.1 i same in
                  let own_room : has_room sg g ≡ true = ap (has_room sg) (sym one) ∙ h.2 in
                  record { wide = whole; sync = inl (leb-true (g.from + (sg + g.sender.tg)) g.to own_room) })
              | inr apart ↦
                  record { wide = whole; sync = inr (record { other = h.0; among = inr h.1; apart = apart; wide = omega (arith, r) }) }
            ])
        | false ↦ λ none.
            elim (cases_lt (count_by (has_width sg) inner) 2) [
              | inr two ↦
                  (let h = other_counted (has_width sg) inner g.sender.number own.1 two in
                  record { wide = whole; sync = inr (record { other = h.0; among = inr h.1; apart = h.2; wide = leb-true (h.0.from + sg) h.0.to h.3 }) })
              | inl few ↦ elim (cases_lt (count_by (has_width sg) inner) 1) [
                | inr one ↦
                    (let w = width.one none (omega (arith, few, one)) in record { wide = whole; sync = inr (by_first (omega (arith, w, enough))) })
                | inl zero ↦
                    (let w = width.none none (omega (arith, zero)) in record { wide = whole; sync = inr (by_first (omega (arith, w, enough))) })
              ]
            ]
      ]) refl

  pub width_fine : list_any is_small inner ≡ false → first.from + needs ≤ first.to → (g : Gap) → In g (first ∷ inner)
      → IsFine sg (first ∷ inner) g
  width_fine small enough g (inl same) = subst (λ h. IsFine sg (first ∷ inner) h) (sym same) (first_fine small enough)
  width_fine small enough g (inr i) = inner_fine small enough g i
