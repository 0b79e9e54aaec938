-- The answer that is computed by trying every pair.
use Rattle.std.proofs.Common.{◌≡◌, ℕ, zero, suc, ◌<◌, ◌≤◌, ◌⊎◌, Option, Some, None, inl, inr, arith, sym, refl, ap, ◌∙◌, subst}
use Rattle.std.specs.Prelude.{IsTrue, unwrap_or}
use Rattle.std.specs.Option.{option_map, option_or}
use Rattle.std.proofs.lemmas.Bool.{cases_lt}
use Rattle.bus_timers.specs.MayStartTest.{TestDecides}
use Rattle.bus_strings.specs.Limits.{most_terminal}
use Rattle.bus_table.specs.Tables.{Table}
use Rattle.bus_table.specs.inside.Facts.{SenderFacts}
use Rattle.bus_table.specs.Valid.{is_valid}
use Rattle.bus_table.proofs.ValidLaws.{valid_facts}
use Rattle.bus_table.proofs.TurnLaws.{of_each}
use Rattle.bus_trace.specs.Traces.{Recording, IsTrace, IsBelow}
use Rattle.bus_audit.specs.declared.answer.BreachKind.{BreachKind}
use Rattle.bus_audit.specs.declared.answer.AuditAnswer.{AuditAnswer}
use Rattle.bus_audit.specs.declared.answer.AuditAnswer.TheVariants.{Lawful, Breach}
use Rattle.bus_audit.specs.Breaches.{garbled_count, kind_at, IsCleanTo, IsAnswer, breach_at, first_at, first_before, answer_of, TheAnswer}
use Rattle.bus_audit.specs.Meaning.{LawfulIsRight}
use Rattle.bus_audit.proofs.Once.{one_answer}
use Rattle.bus_audit.proofs.Meanings.{no_breach_is_right}
use Rattle.bus_audit.proofs.Lists.{cases_option}
use Rattle.bus_audit.proofs.Pairs.{SenderAt, from_sender_of, silent_clean}
use Rattle.bus_audit.proofs.Going.{below_in}

-- nothing is wrong at a number that no terminal has
outside : (table : Table) (trace : Recording) (t n : ℕ) → TestDecides → IsTrue (is_valid table) → IsTrace trace → (n ≡ 0) ⊎ (128 < n) → kind_at table trace t n ≡ None
outside table trace t n d valid tr far =
    silent_clean table trace t n d
    (λ x i e f.
    let b : IsBelow trace.horizon x = below_in trace.horizon trace.list tr.list x i in
    let low : 1 ≤ x.terminal = b.positive in let high : x.terminal ≤ 128 = b.low in
    elim far [ inl none ↦ omega arith | inr above ↦ omega arith ])
    (λ s is may left.
    let sa : SenderAt table.senders n s = from_sender_of table.senders n s is in
    let f : SenderFacts table s = of_each (SenderFacts table) table.senders (valid_facts table valid).senders s sa.there in
    let low : 1 ≤ s.number = f.number_least in let high : s.number ≤ 128 = f.number_most in
    let same : s.number ≡ n = sa.number in
    elim far [ inl none ↦ omega arith | inr above ↦ omega arith ])

-- the first breach at a moment
record SomeAt (table : Table) (trace : Recording) (t n : ℕ) (o : Option AuditAnswer) : Type 0 where
  terminal : ℕ
  kind : BreachKind
  is : o ≡ Some (Breach t terminal kind)
  low : 1 ≤ terminal
  high : terminal ≤ n
  here : kind_at table trace t terminal ≡ Some kind
  before : (m : ℕ) → 1 ≤ m → m < terminal → kind_at table trace t m ≡ None

record NoneAt (table : Table) (trace : Recording) (t n : ℕ) (o : Option AuditAnswer) : Type 0 where
  is : o ≡ None
  all : (m : ℕ) → 1 ≤ m → m ≤ n → kind_at table trace t m ≡ None

at_cases : (table : Table) (trace : Recording) (t n : ℕ) → NoneAt table trace t n (first_at table trace t n) ⊎ SomeAt table trace t n (first_at table trace t n)
unfolding first_at
at_cases table trace t zero = inl (record { is = refl; all = λ m low high. absurd (omega arith) })
at_cases table trace t (suc n) =
    elim (at_cases table trace t n) [
      | inr some ↦
          let high : some.terminal ≤ n = some.high in
          inr (record {
            terminal = some.terminal;
            kind = some.kind;
            is = ap (λ o. option_or o (breach_at table trace t (suc n))) some.is;
            low = some.low;
            high = omega arith;
            here = some.here;
            before = some.before;
          })
      | inl none ↦ elim (cases_option (kind_at table trace t (suc n))) [
        | inl clean ↦ inl (record {
          is = ap (λ o. option_or o (breach_at table trace t (suc n))) none.is ∙ ap (option_map (Breach t (suc n))) clean;
          all = λ m low high. elim (cases_lt n m) [ inl last ↦ subst (λ k. kind_at table trace t k ≡ None) (let e : suc n ≡ m = omega arith in e) clean | inr old ↦ none.all m low old ];
        })
        | inr wrong ↦ inr (record {
          terminal = suc n;
          kind = wrong.0;
          is = ap (λ o. option_or o (breach_at table trace t (suc n))) none.is ∙ ap (option_map (Breach t (suc n))) wrong.1;
          low = omega arith;
          high = omega arith;
          here = wrong.1;
          before = λ m low less. none.all m low (omega arith);
        })
      ]
    ]

-- the first breach before a moment
record SomeBefore (table : Table) (trace : Recording) (t : ℕ) (o : Option AuditAnswer) : Type 0 where
  moment : ℕ
  terminal : ℕ
  kind : BreachKind
  is : o ≡ Some (Breach moment terminal kind)
  below : moment < t
  here : kind_at table trace moment terminal ≡ Some kind
  first : IsCleanTo table trace moment terminal

record NoneBefore (table : Table) (trace : Recording) (t : ℕ) (o : Option AuditAnswer) : Type 0 where
  is : o ≡ None
  all : IsCleanTo table trace t 0

clean_below : (table : Table) (trace : Recording) (t n : ℕ) → TestDecides → IsTrue (is_valid table) → IsTrace trace → IsCleanTo table trace t 0 → ((m : ℕ) → 1 ≤ m → m < n → kind_at table trace t m ≡ None) → IsCleanTo table trace t n
clean_below table trace t n d valid tr old now u m (inl less) = old u m (inl less)
clean_below table trace t n d valid tr old now u m (inr same) =
    let low : m < n = same.1 in
    subst (λ v. kind_at table trace v m ≡ None) (sym same.0)
    (elim (cases_lt 0 m) [ inl some ↦ now m (omega arith) low | inr none ↦ outside table trace t m d valid tr (inl (omega arith)) ])

before_cases : (table : Table) (trace : Recording) (t : ℕ) → TestDecides → IsTrue (is_valid table) → IsTrace trace → NoneBefore table trace t (first_before table trace t) ⊎ SomeBefore table trace t (first_before table trace t)
unfolding first_before
before_cases table trace zero d valid tr = inl (record { is = refl; all = λ u m b. elim b [ inl less ↦ absurd (omega arith) | inr same ↦ let e : m < 0 = same.1 in absurd (omega arith) ] })
before_cases table trace (suc t) d valid tr =
    elim (before_cases table trace t d valid tr) [
      | inr some ↦
          let below : some.moment < t = some.below in
          inr (record {
            moment = some.moment;
            terminal = some.terminal;
            kind = some.kind;
            is = ap (λ o. option_or o (first_at table trace t most_terminal)) some.is;
            below = omega arith;
            here = some.here;
            first = some.first;
          })
      | inl none ↦ elim (at_cases table trace t most_terminal) [
        | inl clean ↦ inl (record {
          is = ap (λ o. option_or o (first_at table trace t most_terminal)) none.is ∙ clean.is;
          all = λ u m b. elim (cases_lt u t) [
            | inl old ↦ none.all u m (inl old)
            | inr new ↦
                let now : u ≡ t = elim b [ inl less ↦ omega arith | inr same ↦ let e : m < 0 = same.1 in absurd (omega arith) ] in
                subst (λ v. kind_at table trace v m ≡ None) (sym now)
                (elim (cases_lt 128 m) [
                  | inl above ↦ outside table trace t m d valid tr (inr above)
                  | inr low ↦ elim (cases_lt 0 m) [ inl some ↦ clean.all m (omega arith) low | inr zero' ↦ outside table trace t m d valid tr (inl (omega arith)) ]
                ])
          ];
        })
        | inr wrong ↦ inr (record {
          moment = t;
          terminal = wrong.terminal;
          kind = wrong.kind;
          is = ap (λ o. option_or o (first_at table trace t most_terminal)) none.is ∙ wrong.is;
          below = omega arith;
          here = wrong.here;
          first = clean_below table trace t wrong.terminal d valid tr none.all wrong.before;
        })
      ]
    ]

pub the_answer : TestDecides → TheAnswer
unfolding answer_of
the_answer d table trace valid tr =
    let count : AuditAnswer = Lawful (garbled_count trace.list) in
    elim (before_cases table trace trace.horizon d valid tr) [
      | inl none ↦ subst (IsAnswer table trace) (sym (ap (λ o. unwrap_or o count) none.is)) (none.all, refl)
      | inr some ↦ subst (IsAnswer table trace) (sym (ap (λ o. unwrap_or o count) some.is)) (record { below = some.below; here = some.here; first = some.first })
    ]

-- the answer is that it is lawful exactly where nothing is wrong
pub lawful_is_right : TestDecides → LawfulIsRight
lawful_is_right d table trace valid tr =
    let both = no_breach_is_right d table trace valid tr in
    let count : ℕ = garbled_count trace.list in (
      (λ p. both.0 (subst (IsAnswer table trace) p.1 (the_answer d table trace valid tr)).0),
      (λ right. (count, one_answer table trace (answer_of table trace) (Lawful count) (the_answer d table trace valid tr) (both.1 right, refl))),
    )
