-- An aperiodic table with another terminal gap of one sender.
use Rattle.std.specs.Prelude.{◌≡◌, ◌≢◌, ℕ, ◌+◌, ◌<◌, ◌≤◌, ◌⊎◌, true, false, ◌==◌, nat_le, IsTrue, List, [], ◌∷◌, ◌++◌, map, None}
use Rattle.std.specs.List.{list_any}
use Rattle.std.specs.Option.{option_map}
use Rattle.std.proofs.Common.{inl, inr, arith, sym, refl, ap, ◌∙◌}
use Rattle.std.proofs.lemmas.Bool.{and_parts, and_from, cases_eq, true≢false, false_from_ne_true, eq-eqb}
use Rattle.std.proofs.lemmas.Bool.Decides.{nat_tests}
use Rattle.bus_strings.specs.Members.{In}
use Rattle.bus_strings.proofs.MemberLaws.{in_map, from_map, any_in, any_found}
use Rattle.bus_table.specs.declared.mode.Mode.TheVariants.{Aperiodic}
use Rattle.bus_table.specs.declared.error.WholeReason.TheVariants.{GapTwice, PairTwice}
use Rattle.bus_table.specs.declared.line.SendLine.{SendLine}
use Rattle.bus_table.specs.Tables.{Sender, Table}
use Rattle.bus_table.specs.Lengths.{shortest}
use Rattle.bus_table.specs.Ranges.{is_number, is_tg, is_sender}
use Rattle.bus_table.specs.Valid.{is_valid}
use Rattle.bus_table.specs.Whole.{first_again, same_pair, send_lines}
use Rattle.bus_table.specs.inside.Facts.{SenderFacts, TableFacts}
use Rattle.bus_table.proofs.ValidLaws.{valid_facts, map_none}
use Rattle.bus_table.proofs.TurnLaws.{of_each, numbers_differ, gaps_differ}
use Rattle.bus_table.proofs.PartLaws.{parts_of, none_long}
use Rattle.bus_regime.specs.Verdicts.{verdict_of, is_accepted, least_cycle}
use Rattle.bus_regime.proofs.VerdictLaws.{accepted_cycle, cycle_accepted, refused_cycle}
use Rattle.bus_advice.specs.Changes.{change_sender, at_gap, with_gap}
use Rattle.bus_advice.specs.Advices.{works}
use Rattle.bus_advice.specs.inside.InnerGaps.{IsShort}
use Rattle.bus_advice.proofs.Members.{same_by, changed_here, changed_there, kept_by, sum_changed, all_changed, again_map}
use Rattle.bus_advice.proofs.Changing.{stays_valid}
use Rattle.bus_advice.proofs.CycleChange.{is_working, working_valid, working_accepted}

abbrev changed : Sender → ℕ → Sender → Sender
changed s n = change_sender s.number (at_gap n)

same_lines : (s : Sender) (n : ℕ) (senders : List Sender) → send_lines (map (changed s n) senders) ≡ send_lines senders
same_lines s n [] = refl
same_lines s n (x ∷ senders) =
    ap (λ ls. ls ++ send_lines (map (changed s n) senders)) (kept_by (λ t. t.sends) s.number (at_gap n) (λ t. refl) x)
    ∙ ap (λ ls. x.sends ++ ls) (same_lines s n senders)

tg_range : (n : ℕ) → 8 ≤ n → n ≤ 256 → is_tg n ≡ true
tg_range n low high =
    let a : nat_le 8 n ≡ true = grind (arith, nat_tests, low) in
    let b : nat_le n 256 ≡ true = grind (arith, nat_tests, high) in
    and_from _ _ a b

in_range : (x : Sender) (n : ℕ) → 8 ≤ n → n ≤ 256 → is_sender x ≡ true → is_sender (at_gap n x) ≡ true
in_range x n low high h =
    let one = and_parts (is_number x.number) _ h in
    let two = and_parts (is_tg x.tg) _ one.1 in
    and_from _ _ one.0 (and_from _ _ (tg_range n low high) two.1)

-- the changed sender by cases
changed_range : (s x : Sender) (n : ℕ) → 8 ≤ n → n ≤ 256 → is_sender x ≡ true → is_sender (changed s n x) ≡ true
changed_range s x n low high h = elim (cases_eq x.number s.number) [
  | inl e ↦ ap is_sender (changed_here s.number (at_gap n) x e) ∙ in_range x n low high h
  | inr e ↦ ap is_sender (changed_there s.number (at_gap n) x e) ∙ h
]

changed_gap : (s x : Sender) (n : ℕ) → ((x.number ≡ s.number) × ((changed s n x).tg ≡ n)) ⊎ ((x.number ≢ s.number) × ((changed s n x).tg ≡ x.tg))
changed_gap s x n = elim (cases_eq x.number s.number) [
  | inl e ↦ inl (e, ap (λ (t : Sender). t.tg) (changed_here s.number (at_gap n) x e))
  | inr e ↦ inr (e, ap (λ (t : Sender). t.tg) (changed_there s.number (at_gap n) x e))
]

eq_of : (a b : ℕ) → (a == b) ≡ true → a ≡ b
eq_of a b h = grind (arith, nat_tests, h)

not_taken : (n : ℕ) (senders : List Sender) (x : Sender) → list_any (λ s. s.tg == n) senders ≡ false → In x senders → x.tg ≡ n → ⊥
not_taken n senders x none i e = true≢false (sym (any_in (λ (s : Sender). s.tg == n) senders x i (eq-eqb x.tg n e)) ∙ none)

tells : (table : Table) (s : Sender) (n : ℕ) → TableFacts table → list_any (λ x. x.tg == n) table.senders ≡ false
    → (a b : Sender) → In a table.senders → In b table.senders → ((changed s n a).tg == (changed s n b).tg) ≡ true → (a.tg == b.tg) ≡ true
tells table s n facts free a b i j h =
    let e : (changed s n a).tg ≡ (changed s n b).tg = eq_of _ _ h in
    elim (changed_gap s a n) [
      | inl p ↦ elim (changed_gap s b n) [
        | inl q ↦ eq-eqb a.tg b.tg (ap (λ (t : Sender). t.tg) (same_by (λ t. t.number) table.senders (numbers_differ table facts) a b i j (p.0 ∙ sym q.0)))
        | inr q ↦ absurd (not_taken n table.senders b free j (sym q.1 ∙ sym e ∙ p.1))
      ]
      | inr p ↦ elim (changed_gap s b n) [
        | inl q ↦ absurd (not_taken n table.senders a free i (sym p.1 ∙ e ∙ q.1))
        | inr q ↦ eq-eqb a.tg b.tg (sym p.1 ∙ e ∙ q.1)
      ]
    ]

gap_valid : (table : Table) (s : Sender) (n : ℕ) → IsTrue (is_valid table) → table.mode ≡ Aperiodic → In s table.senders → s.tg < n → n ≤ 256
    → n < table.sg → list_any (λ x. x.tg == n) table.senders ≡ false → IsTrue (is_valid (with_gap s.number n table))
gap_valid table s n valid aperiodic i low high short free =
    let p = parts_of table valid in
    let facts = valid_facts table valid in
    let f : Sender → Sender = changed s n in
    let least = (of_each (SenderFacts table) table.senders facts.senders s i).tg_least in
    let once : first_again (λ a b. a.tg == b.tg) [] table.senders ≡ None = map_none (λ (x : Sender). GapTwice x.number) _ p.gaps in
    stays_valid table f valid aperiodic (record {
      number = kept_by (λ t. t.number) s.number (at_gap n) (λ t. refl);
      at = kept_by (λ t. t.at) s.number (at_gap n) (λ t. refl);
      range = all_changed is_sender f table.senders (λ x j h. changed_range s x n (omega arith) high h) p.senders;
      gaps = ap (option_map (λ (x : Sender). GapTwice x.number))
          (again_map (λ (a b : Sender). a.tg == b.tg) (λ (a b : Sender). a.tg == b.tg) f (λ x. In x table.senders) (tells table s n facts free) [] table.senders (λ a j. absurd j) (λ a j. j) once);
      short = none_long table.sg (map f table.senders) (λ y j. let w = from_map f table.senders y j in
          let tg : (f w.0).tg ≡ y.tg = ap (λ (t : Sender). t.tg) w.2 in
          elim (changed_gap s w.0 n) [
            | inl q ↦ (let e : (f w.0).tg ≡ n = q.1 in omega arith)
            | inr q ↦ (let e : (f w.0).tg ≡ w.0.tg = q.1 in
                let k = (of_each (SenderFacts table) table.senders facts.senders w.0 w.1).tg_short in omega (arith, k))
          ]);
      pairs = ap (λ ls. option_map (λ (l : SendLine). PairTwice l.label l.ext) (first_again same_pair [] ls)) (same_lines s n table.senders) ∙ p.pairs;
    })

-- the cycle
gap_cycle : (table : Table) (s : Sender) (n : ℕ) → TableFacts table → In s table.senders
    → least_cycle (with_gap s.number n table) + s.tg ≡ least_cycle table + n
gap_cycle table s n facts i =
    let sums = sum_changed (λ x. x.tg + shortest x) (at_gap n) table.senders s i (numbers_differ table facts) in
    omega (arith, sums)

-- what a table that works with another gap tells
record GapOnly (table : Table) (s : Sender) (n : ℕ) : Type 0 where
  most : n ≤ 256
  short : n < table.sg
  free : list_any (λ x. x.tg == n) table.senders ≡ false
  fits : table.ti ≤ least_cycle (with_gap s.number n table)

gap_only : (table : Table) (s : Sender) (n : ℕ) → IsTrue (is_valid table) → table.mode ≡ Aperiodic → In s table.senders → s.tg < n
    → works (with_gap s.number n table) ≡ true → GapOnly table s n
gap_only table s n valid aperiodic i low h =
    let made : Table = with_gap s.number n table in
    let f : Sender → Sender = changed s n in
    let facts = valid_facts made (working_valid made h) in
    let here : f s ≡ at_gap n s = changed_here s.number (at_gap n) s refl in
    let tg : (f s).tg ≡ n = ap (λ (t : Sender). t.tg) here in
    let own = of_each (SenderFacts made) made.senders facts.senders (f s) (in_map f table.senders s i) in
    let most = own.tg_most in
    let short = own.tg_short in
    record {
      most = omega (arith, most, tg);
      short = omega (arith, short, tg);
      free = false_from_ne_true _ (λ some.
          let w = any_found (λ (x : Sender). x.tg == n) table.senders some in
          let e : w.0.tg ≡ n = eq_of _ _ w.2 in
          elim (cases_eq w.0.number s.number) [
            | inl same ↦
                (let one : w.0 ≡ s = same_by (λ t. t.number) table.senders (numbers_differ table (valid_facts table valid)) w.0 s w.1 i same in
                let g : w.0.tg ≡ s.tg = ap (λ (t : Sender). t.tg) one in absurd (omega arith))
            | inr apart ↦
                (let there : f w.0 ≡ w.0 = changed_there s.number (at_gap n) w.0 apart in
                let g : (f w.0).tg ≡ n = ap (λ (t : Sender). t.tg) there ∙ e in
                let one : f w.0 ≡ f s = same_by (λ t. t.tg) made.senders (gaps_differ made facts) (f w.0) (f s) (in_map f table.senders w.0 w.1) (in_map f table.senders s i) (g ∙ sym tg) in
                absurd (apart (sym (kept_by (λ t. t.number) s.number (at_gap n) (λ t. refl) w.0) ∙ ap (λ (t : Sender). t.number) one ∙ kept_by (λ t. t.number) s.number (at_gap n) (λ t. refl) s)))
          ]);
      fits = accepted_cycle made aperiodic (working_accepted made h);
    }

-- what makes it work
pub gap_works : (table : Table) (s : Sender) (deficit n : ℕ) → IsTrue (is_valid table) → IsShort table deficit → In s table.senders
    → s.tg + deficit ≤ n → n ≤ 256 → n < table.sg → list_any (λ x. x.tg == n) table.senders ≡ false → works (with_gap s.number n table) ≡ true
gap_works table s deficit n valid lacks i low high short free =
    let some = lacks.some in
    let less = lacks.short in
    let cycle = gap_cycle table s n (valid_facts table valid) i in
    is_working (with_gap s.number n table) (gap_valid table s n valid lacks.aperiodic i (omega arith) high short free)
    (cycle_accepted (with_gap s.number n table) lacks.aperiodic (omega arith))

-- and what doesn't: too little, a gap of another sender, and too much
pub gap_too_little : (table : Table) (s : Sender) (deficit n : ℕ) → IsTrue (is_valid table) → IsShort table deficit → In s table.senders
    → s.tg < n → n < s.tg + deficit → works (with_gap s.number n table) ≡ false
gap_too_little table s deficit n valid lacks i low high = false_from_ne_true _ (λ h.
    let less = lacks.short in
    let only = gap_only table s n valid lacks.aperiodic i low h in
    let fits = only.fits in
    let cycle = gap_cycle table s n (valid_facts table valid) i in
    absurd (omega arith))

pub gap_taken : (table : Table) (s : Sender) (deficit n : ℕ) → IsTrue (is_valid table) → IsShort table deficit → In s table.senders
    → s.tg < n → list_any (λ x. x.tg == n) table.senders ≡ true → works (with_gap s.number n table) ≡ false
gap_taken table s deficit n valid lacks i low some = false_from_ne_true _ (λ h.
    true≢false (sym some ∙ (gap_only table s n valid lacks.aperiodic i low h).free))

pub gap_too_much : (table : Table) (s : Sender) (deficit n : ℕ) → IsTrue (is_valid table) → IsShort table deficit → In s table.senders
    → s.tg < n → (256 < n) ⊎ (table.sg ≤ n) → works (with_gap s.number n table) ≡ false
gap_too_much table s deficit n valid lacks i low high = false_from_ne_true _ (λ h.
    let only = gap_only table s n valid lacks.aperiodic i low h in
    let most = only.most in
    let short = only.short in
    elim high [ inl k ↦ absurd (omega arith) | inr k ↦ absurd (omega arith) ])

-- it is in its range
pub gap_most : (table : Table) (s : Sender) (n : ℕ) → IsTrue (is_valid table) → table.mode ≡ Aperiodic → In s table.senders → s.tg < n
    → works (with_gap s.number n table) ≡ true → n ≤ 256
gap_most table s n valid aperiodic i low h = (gap_only table s n valid aperiodic i low h).most

-- a lesser one doesn't help
pub gap_refused : (table : Table) (s : Sender) (n : ℕ) → IsTrue (is_valid table) → table.mode ≡ Aperiodic
    → is_accepted (verdict_of table) ≡ false → In s table.senders → n ≤ s.tg → works (with_gap s.number n table) ≡ false
gap_refused table s n valid aperiodic refused i high = false_from_ne_true _ (λ h.
    let made : Table = with_gap s.number n table in
    let less = refused_cycle table aperiodic refused in
    let fits : table.ti ≤ least_cycle made = accepted_cycle made aperiodic (working_accepted made h) in
    let cycle = gap_cycle table s n (valid_facts table valid) i in
    absurd (omega (arith, less, fits, cycle, high)))
