-- A late start is the next of its terminal.
use Rattle.std.specs.Prelude.{◌&&◌, ◌==◌, nat_lt}
use Rattle.std.proofs.Common.{◌≡◌, ℕ, ◌-◌, ◌<◌, ◌≤◌, Bool, true, false, cond, List, [], ◌∷◌, Some, None, inl, inr, arith, refl, sym, ap, subst, ◌∙◌}
use Rattle.std.specs.List.{find}
use Rattle.std.specs.Option.{option_map}
use Rattle.std.proofs.lemmas.Bool.{and_parts, cases_lt, eqb-true, eq-eqb, lt-ltb, ltb-true, true≢false}
use Rattle.bus_strings.specs.Messages.{Entry}
use Rattle.bus_strings.specs.Transmissions.{IsByMoment}
use Rattle.bus_strings.proofs.MemberLaws.{of_each}
use Rattle.bus_shapes.specs.Later.{later, starts_behind}
use Rattle.bus_shapes.specs.LaterLaws.{IsNextStart, LaterIsNext, NoneIsLater}

abbrev behind : ℕ → Entry → ℕ
behind moment x = x.moment - moment

some_is : (m n : ℕ) → Some m ≡ Some n → m ≡ n
some_is m n e = cc

both : (a b : Bool) → a ≡ true → b ≡ true → (a && b) ≡ true
both true true p q = refl
both true false p q = absurd (true≢false (sym q))
both false b p q = absurd (true≢false (sym p))

-- Who starts behind a moment meets the test.
tested : (moment terminal : ℕ) (x : Entry) → x.terminal ≡ terminal → moment < x.moment → starts_behind moment terminal x ≡ true
tested moment terminal x own late = both (x.terminal == terminal) (nat_lt moment x.moment) (eq-eqb x.terminal terminal own) (lt-ltb moment x.moment late)

here : (moment terminal n : ℕ) (x : Entry) (xs : List Entry) (b : Bool) → starts_behind moment terminal x ≡ b → IsByMoment (x ∷ xs)
    → option_map (behind moment) (cond b (Some x) (find (starts_behind moment terminal) xs)) ≡ Some n
    → (later moment terminal xs ≡ Some n → IsNextStart xs moment terminal n) → IsNextStart (x ∷ xs) moment terminal n
here moment terminal n x xs true is order e more =
    let parts = and_parts (x.terminal == terminal) (nat_lt moment x.moment) is in
    let late : moment < x.moment = ltb-true moment x.moment parts.1 in
    let same : x.moment - moment ≡ n = some_is (x.moment - moment) n e in
    record {
      entry = x;
      held = inl refl;
      own = eqb-true x.terminal terminal parts.0;
      at = omega arith;
      behind = omega arith;
      first = λ y i own after. elim i [
        | inl is_x ↦ (let m : y.moment ≡ x.moment = ap (λ (z : Entry). z.moment) is_x in omega arith)
        | inr there ↦ (let m : x.moment ≤ y.moment = of_each (λ (z : Entry). x.moment ≤ z.moment) xs order.0 y there in omega arith)
      ];
    }
here moment terminal n x xs false is order e more =
    let next = more e in
    record {
      entry = next.entry;
      held = inr next.held;
      own = next.own;
      at = next.at;
      behind = next.behind;
      first = λ y i own after. elim i [
        | inl is_x ↦ absurd (true≢false (sym (tested moment terminal x (ap (λ (z : Entry). z.terminal) (sym is_x) ∙ own)
            (subst (λ (z : Entry). moment < z.moment) is_x after)) ∙ is))
        | inr there ↦ next.first y there own after
      ];
    }

pub later_is_next : LaterIsNext
later_is_next [] moment terminal n order e = absurd cc
later_is_next (x ∷ xs) moment terminal n order e =
    here moment terminal n x xs (starts_behind moment terminal x) refl order e (later_is_next xs moment terminal n order.1)

gone : (moment terminal : ℕ) (x : Entry) (xs : List Entry) (b : Bool) → starts_behind moment terminal x ≡ b
    → option_map (behind moment) (cond b (Some x) (find (starts_behind moment terminal) xs)) ≡ None
    → (b ≡ false) × (later moment terminal xs ≡ None)
gone moment terminal x xs true is e = absurd cc
gone moment terminal x xs false is e = (refl, e)

no_more : (moment terminal : ℕ) (x : Entry) → starts_behind moment terminal x ≡ false → x.terminal ≡ terminal → x.moment ≤ moment
no_more moment terminal x is own = elim (cases_lt moment x.moment) [
  | inl less ↦ absurd (true≢false (sym (tested moment terminal x own less) ∙ is))
  | inr not_less ↦ not_less
]

pub none_is_later : NoneIsLater
none_is_later [] moment terminal y e i own = absurd i
none_is_later (x ∷ xs) moment terminal y e i own =
    let parts = gone moment terminal x xs (starts_behind moment terminal x) refl e in
    elim i [
      | inl is_x ↦ subst (λ (z : Entry). z.moment ≤ moment) (sym is_x)
          (no_more moment terminal x parts.0 (ap (λ (z : Entry). z.terminal) (sym is_x) ∙ own))
      | inr there ↦ none_is_later xs moment terminal y parts.1 there own
    ]
