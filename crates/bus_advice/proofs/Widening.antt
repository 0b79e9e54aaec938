-- A periodic table with another transmit interval and the same offsets.
use Rattle.std.specs.Prelude.{◌≡◌, ℕ, ◌+◌, ◌-◌, ◌<◌, ◌≤◌, Bool, true, false, not, ◌||◌, nat_le, IsTrue, List, [], ◌∷◌, length, map, drop, Option, Some, None, slice_get}
use Rattle.std.specs.List.{count_by, list_any}
use Rattle.std.proofs.Common.{inl, inr, arith, sym, refl, ap, ◌∙◌, cond, subst}
use Rattle.std.proofs.lemmas.Bool.{cases_lt, true≢false, false_from_ne_true}
use Rattle.std.proofs.lemmas.Bool.Decides.{nat_tests}
use Rattle.std.proofs.lemmas.List.Sums.{sum_by-cons}
use Rattle.bus_strings.specs.Members.{In}
use Rattle.bus_table.specs.declared.mode.Mode.{Mode}
use Rattle.bus_table.specs.declared.mode.Mode.TheVariants.{Periodic}
use Rattle.bus_table.specs.Tables.{Sender, Table}
use Rattle.bus_table.specs.Turns.{turn_key, turn_order}
use Rattle.bus_table.specs.Valid.{is_valid}
use Rattle.bus_table.specs.Whole.{periodic_refusal}
use Rattle.bus_table.specs.inside.Facts.{FitsMode, SenderFacts, TableFacts}
use Rattle.bus_table.proofs.ValidLaws.{valid_facts}
use Rattle.bus_table.proofs.TurnLaws.{of_each, from_sort, length-sort}
use Rattle.bus_table.proofs.PartLaws.{none_late, ti_range}
use Rattle.bus_regime.specs.Gaps.{Gap, gaps, gaps_from, last_end, latest_end, has_width}
use Rattle.bus_regime.specs.inside.Fine.{IsFine}
use Rattle.bus_regime.specs.Verdicts.{verdict_of, is_accepted, is_small}
use Rattle.bus_regime.proofs.VerdictLaws.{accepted_gaps, gaps_accepted}
use Rattle.bus_regime.proofs.Counting.{HaveOwnSenders, one_if, own_gaps}
use Rattle.bus_advice.specs.Changes.{with_interval}
use Rattle.bus_advice.specs.Advices.{works, greater_interval}
use Rattle.bus_advice.specs.inside.InnerGaps.{inner_gaps, has_room, width_for, needed_width}
use Rattle.bus_advice.proofs.Searches.{above_some, above_none}
use Rattle.bus_advice.proofs.CycleChange.{is_working, working_valid, working_accepted}
use Rattle.bus_advice.proofs.FirstGap.{fine_small, fine_width, width_fine}
use Rattle.bus_advice.proofs.IntervalLaws.{at_interval}

-- ---- a greater interval keeps a table valid
not_late : (mode : Mode) (table : Table) (n : ℕ) → mode ≡ Periodic → ((s : Sender) → In s table.senders → s.at < n)
    → periodic_refusal mode n table.senders ≡ None
not_late mode table n e low = ap (λ m. periodic_refusal m n table.senders) e ∙ none_late n table.senders low

pub longer_valid : (table : Table) (n : ℕ) → IsTrue (is_valid table) → table.mode ≡ Periodic → table.ti ≤ n → n ≤ 128000
    → IsTrue (is_valid (with_interval n table))
longer_valid table n valid periodic low high =
    let facts = valid_facts table valid in
    let least = facts.ti_least in
    at_interval table n valid (ti_range n (omega arith) high) (not_late table.mode table n periodic (λ s i.
    let at : s.at < table.ti = subst (λ m. FitsMode m table.ti s.at) periodic (of_each (SenderFacts table) table.senders facts.senders s i).mode in
    omega arith))

-- ---- gaps in another interval
abbrev shift : ℕ → Gap → Gap
shift d gap = record { sender = gap.sender; from = d + gap.from; to = d + gap.to }

shifted : (d ti from : ℕ) (order : List Sender) → gaps_from (d + ti) (d + from) order ≡ map (shift d) (gaps_from ti from order)
shifted d ti from [] = refl
shifted d ti from (s ∷ order) =
    let at : d + ti + s.at ≡ d + (ti + s.at) = omega arith in
    let end : d + ti + latest_end s ≡ d + (ti + latest_end s) = omega arith in
    ap (λ n. let g : Gap = record { sender = s; from = d + from; to = n } in g ∷ gaps_from (d + ti) (d + ti + latest_end s) order) at
    ∙ ap (λ n. shift d (record { sender = s; from = from; to = ti + s.at }) ∷ gaps_from (d + ti) n order) end
    ∙ ap (λ l. shift d (record { sender = s; from = from; to = ti + s.at }) ∷ l) (shifted d ti (ti + latest_end s) order)

wide_shift : (d w : ℕ) (g : Gap) → has_width w (shift d g) ≡ has_width w g
wide_shift d w g = elim (cases_lt g.to (g.from + w)) [
  | inl less ↦
      (let a : nat_le (d + g.from + w) (d + g.to) ≡ false = grind (arith, nat_tests, less) in
      let b : nat_le (g.from + w) g.to ≡ false = grind (arith, nat_tests, less) in a ∙ sym b)
  | inr more ↦
      (let a : nat_le (d + g.from + w) (d + g.to) ≡ true = grind (arith, nat_tests, more) in
      let b : nat_le (g.from + w) g.to ≡ true = grind (arith, nat_tests, more) in a ∙ sym b)
]

any_shift : (d : ℕ) (p : Gap → Bool) → ((g : Gap) → p (shift d g) ≡ p g) → (all : List Gap) → list_any p (map (shift d) all) ≡ list_any p all
any_shift d p same [] = refl
any_shift d p same (g ∷ all) = ap (λ b. b || list_any p (map (shift d) all)) (same g) ∙ ap (λ b. p g || b) (any_shift d p same all)

count_shift : (d : ℕ) (p : Gap → Bool) → ((g : Gap) → p (shift d g) ≡ p g) → (all : List Gap) → count_by p (map (shift d) all) ≡ count_by p all
count_shift d p same [] = refl
count_shift d p same (g ∷ all) =
    let here : one_if (p (shift d g)) ≡ one_if (p g) = ap one_if (same g) in
    let rest = count_shift d p same all in
    omega (arith, sum_by-cons (λ (h : Gap). one_if (p h)) (shift d g) (map (shift d) all), sum_by-cons (λ (h : Gap). one_if (p h)) g all, here, rest)

-- ---- the first gap alone grows
-- the order of a table with its first sender
first_of : (table : Table) → TableFacts table → (s : Sender) × (rest : List Sender) × (turn_order table ≡ s ∷ rest)
first_of table facts = of_list (turn_order table) refl where
  of_list : (order : List Sender) → turn_order table ≡ order → (s : Sender) × (rest : List Sender) × (turn_order table ≡ s ∷ rest)
  of_list [] e =
      let long = length-sort (turn_key table.mode) table.senders in
      let none : length (turn_order table) ≡ 0 = ap length e in
      let some = facts.some in
      absurd (omega (arith, long, none, some))
  of_list (s ∷ rest) e = (s, rest, e)

-- the gaps of an order at two intervals
module _ (table : Table) (facts : TableFacts table) (periodic : table.mode ≡ Periodic) (s : Sender) (rest : List Sender) (e : turn_order table ≡ s ∷ rest) where
  abbrev end : ℕ
  end = last_end 0 (s ∷ rest)

  abbrev first_at : ℕ → Gap
  first_at n = record { sender = s; from = end; to = n + s.at }

  abbrev inner_at : ℕ → List Gap
  inner_at n = gaps_from n (n + latest_end s) rest

  gaps_are : (n : ℕ) → gaps (with_interval n table) ≡ first_at n ∷ inner_at n
  gaps_are n = ap (λ order. gaps_from n (last_end 0 order) order) e

  own_at : (n : ℕ) → HaveOwnSenders (first_at n ∷ inner_at n)
  own_at n = subst HaveOwnSenders (gaps_are n) (own_gaps table n facts)

  short : s.tg < table.sg
  short = (of_each (SenderFacts table) table.senders facts.senders s
      (from_sort (turn_key table.mode) table.senders s (subst (λ l. In s l) (sym e) (inl refl)))).tg_short

  inner_shift : (d ti : ℕ) → inner_at (d + ti) ≡ map (shift d) (inner_at ti)
  inner_shift d ti =
      let assoc : d + ti + latest_end s ≡ d + (ti + latest_end s) = omega arith in
      ap (λ f. gaps_from (d + ti) f rest) assoc ∙ shifted d ti (ti + latest_end s) rest

  same_small : (n : ℕ) → table.ti ≤ n → list_any is_small (inner_at n) ≡ list_any is_small (inner_at table.ti)
  same_small n low =
      let d : ℕ = n - table.ti in
      let is : n ≡ d + table.ti = omega arith in
      ap (λ m. list_any is_small (inner_at m)) is ∙ ap (list_any is_small) (inner_shift d table.ti)
      ∙ any_shift d is_small (λ g. ap not (wide_shift d g.sender.tg g)) (inner_at table.ti)

  same_needs : (n : ℕ) → table.ti ≤ n
      → width_for table.sg s.tg (list_any (has_room table.sg) (inner_at n)) (count_by (has_width table.sg) (inner_at n))
      ≡ width_for table.sg s.tg (list_any (has_room table.sg) (inner_at table.ti)) (count_by (has_width table.sg) (inner_at table.ti))
  same_needs n low =
      let d : ℕ = n - table.ti in
      let is : n ≡ d + table.ti = omega arith in
      let room : list_any (has_room table.sg) (inner_at n) ≡ list_any (has_room table.sg) (inner_at table.ti) =
      ap (λ m. list_any (has_room table.sg) (inner_at m)) is ∙ ap (list_any (has_room table.sg)) (inner_shift d table.ti)
      ∙ any_shift d (has_room table.sg) (λ g. wide_shift d (table.sg + g.sender.tg) g) (inner_at table.ti) in
      let wide : count_by (has_width table.sg) (inner_at n) ≡ count_by (has_width table.sg) (inner_at table.ti) =
      ap (λ m. count_by (has_width table.sg) (inner_at m)) is ∙ ap (count_by (has_width table.sg)) (inner_shift d table.ti)
      ∙ count_shift d (has_width table.sg) (λ g. wide_shift d table.sg g) (inner_at table.ti) in
      ap (λ b. width_for table.sg s.tg b (count_by (has_width table.sg) (inner_at n))) room
      ∙ ap (λ k. width_for table.sg s.tg (list_any (has_room table.sg) (inner_at table.ti)) k) wide

  abbrev needs : ℕ
  needs = width_for table.sg s.tg (list_any (has_room table.sg) (inner_at table.ti)) (count_by (has_width table.sg) (inner_at table.ti))

  -- accepted at an interval exactly where no inner gap is small and the first is wide enough
  accepted_only : (n : ℕ) → table.ti ≤ n → IsTrue (is_accepted (verdict_of (with_interval n table)))
      → (list_any is_small (inner_at table.ti) ≡ false) × (end + needs ≤ n + s.at)
  accepted_only n low h =
      let fine : (g : Gap) → In g (first_at n ∷ inner_at n) → IsFine table.sg (first_at n ∷ inner_at n) g = λ g i.
      subst (λ all. IsFine table.sg all g) (gaps_are n) (accepted_gaps (with_interval n table) periodic h g (subst (λ all. In g all) (sym (gaps_are n)) i)) in
      let width = fine_width table.sg (first_at n) (inner_at n) short (own_at n) fine in
      let same = same_needs n low in
      (sym (same_small n low) ∙ fine_small table.sg (first_at n) (inner_at n) short (own_at n) fine, omega (arith, width, same))

  is_accepted_at : (n : ℕ) → table.ti ≤ n → list_any is_small (inner_at table.ti) ≡ false → end + needs ≤ n + s.at
      → IsTrue (is_accepted (verdict_of (with_interval n table)))
  is_accepted_at n low small enough =
      let same = same_needs n low in
      gaps_accepted (with_interval n table) periodic (λ g i. subst (λ all. IsFine table.sg all g) (sym (gaps_are n))
      (width_fine table.sg (first_at n) (inner_at n) short (own_at n) (same_small n low ∙ small) (omega (arith, enough, same)) g
      (subst (λ all. In g all) (gaps_are n) i)))

  longer_accepted : (n m : ℕ) → table.ti ≤ n → n ≤ m → IsTrue (is_accepted (verdict_of (with_interval n table)))
      → IsTrue (is_accepted (verdict_of (with_interval m table)))
  longer_accepted n m low more h =
      let only = accepted_only n low h in
      let enough : end + needs ≤ n + s.at = only.1 in
      is_accepted_at m (omega arith) only.0 (omega arith)

  told_some : (n width : ℕ) → IsTrue (is_valid table) → is_accepted (verdict_of table) ≡ false → Some width ≡ needed_width table.sg s.tg (inner_at table.ti)
      → n ≡ end + width - s.at → n ≤ 128000 → Some n ≡ greater_interval table
  told_some n width valid refused told is high =
      (elim (list_any is_small (inner_at table.ti)) as (λ b. list_any is_small (inner_at table.ti) ≡ b → Some width ≡ cond b None (Some needs) → Some n ≡ greater_interval table) [
        | true ↦ λ small k. absurd (cc)
        | false ↦ λ small k.
            (let same : width ≡ needs = cc in
            let above : table.ti < n = elim (cases_lt table.ti n) [
              | inl less ↦ less
              | inr rest ↦ absurd (true≢false (sym (is_accepted_at table.ti (omega arith) small (omega arith)) ∙ refused))
            ] in
            above_some (λ ti. works (with_interval ti table)) table.ti n above high
            (is_working (with_interval n table) (longer_valid table n valid periodic (omega arith) high) (is_accepted_at n (omega arith) small (omega arith)))
            (λ m a b. false_from_ne_true _ (λ h.
            let only = accepted_only m (omega arith) (working_accepted (with_interval m table) h) in
            let enough : end + needs ≤ m + s.at = only.1 in
            absurd (omega arith))))
      ]) refl told

  told_far : (n width : ℕ) → Some width ≡ needed_width table.sg s.tg (inner_at table.ti) → n ≡ end + width - s.at → 128000 < n
      → None ≡ greater_interval table
  told_far n width told is high =
      (elim (list_any is_small (inner_at table.ti)) as (λ b. list_any is_small (inner_at table.ti) ≡ b → Some width ≡ cond b None (Some needs) → None ≡ greater_interval table) [
        | true ↦ λ small k. absurd (cc)
        | false ↦ λ small k.
            (let same : width ≡ needs = cc in
            above_none (λ ti. works (with_interval ti table)) table.ti
            (λ m a b. false_from_ne_true _ (λ h.
            let only = accepted_only m (omega arith) (working_accepted (with_interval m table) h) in
            let enough : end + needs ≤ m + s.at = only.1 in
            absurd (omega arith))))
      ]) refl told

  told_none : None ≡ needed_width table.sg s.tg (inner_at table.ti) → None ≡ greater_interval table
  told_none told =
      (elim (list_any is_small (inner_at table.ti)) as (λ b. list_any is_small (inner_at table.ti) ≡ b → None ≡ cond b None (Some needs) → None ≡ greater_interval table) [
        | true ↦ λ small k.
            above_none (λ ti. works (with_interval ti table)) table.ti
            (λ m a b. false_from_ne_true _ (λ h.
            let only = accepted_only m (omega arith) (working_accepted (with_interval m table) h) in
            absurd (true≢false (sym small ∙ only.0))))
        | false ↦ λ small k. absurd (let w : None ≡ Some needs = k in cc)
      ]) refl told

-- a lesser interval doesn't help
pub shorter_refused : (table : Table) (n : ℕ) → table.mode ≡ Periodic → is_accepted (verdict_of table) ≡ false → n ≤ table.ti
    → works (with_interval n table) ≡ false
shorter_refused table n periodic refused less = false_from_ne_true _ (λ h.
    let made : Table = with_interval n table in
    let facts = valid_facts made (working_valid made h) in
    let f = first_of made facts in
    let own : IsTrue (is_accepted (verdict_of table)) =
    longer_accepted made facts periodic f.0 f.1 f.2 n table.ti (omega arith) less (working_accepted made h) in
    absurd (true≢false (sym own ∙ refused)))

-- ---- told by the first gap
module _ (table : Table) (first : Gap) (valid : IsTrue (is_valid table)) (periodic : table.mode ≡ Periodic) (at : slice_get (gaps table) 0 ≡ Some first) where
  record Turned : Type 0 where
    s : Sender
    rest : List Sender
    order : turn_order table ≡ s ∷ rest
    sender : first.sender ≡ s
    from : first.from ≡ last_end 0 (s ∷ rest)
    inner : inner_gaps table ≡ gaps_from table.ti (table.ti + latest_end s) rest

  turned : Turned
  turned =
      let facts = valid_facts table valid in
      let f = first_of table facts in
      let are = gaps_are table facts periodic f.0 f.1 f.2 table.ti in
      let one : Gap = record { sender = f.0; from = last_end 0 (f.0 ∷ f.1); to = table.ti + f.0.at } in
      let here : Some first ≡ Some one = sym at ∙ ap (λ (l : List Gap). slice_get l 0) are in
      let same : first ≡ one = cc in
      record {
        s = f.0;
        rest = f.1;
        order = f.2;
        sender = ap (λ (g : Gap). g.sender) same;
        from = ap (λ (g : Gap). g.from) same;
        inner = ap (drop 1) are;
      }

  told_by : (told : Option ℕ) → told ≡ needed_width table.sg first.sender.tg (inner_gaps table)
      → told ≡ needed_width table.sg turned.s.tg (gaps_from table.ti (table.ti + latest_end turned.s) turned.rest)
  told_by told e =
      e ∙ ap (λ (s : Sender). needed_width table.sg s.tg (inner_gaps table)) turned.sender ∙ ap (needed_width table.sg turned.s.tg) turned.inner

  pub interval_some : (n width : ℕ) → is_accepted (verdict_of table) ≡ false
      → Some width ≡ needed_width table.sg first.sender.tg (inner_gaps table) → n ≡ first.from + width - first.sender.at → n ≤ 128000
      → Some n ≡ greater_interval table
  interval_some n width refused told is high =
      let t = turned in
      let from = t.from in
      let late : first.sender.at ≡ t.s.at = ap (λ (s : Sender). s.at) t.sender in
      told_some table (valid_facts table valid) periodic t.s t.rest t.order n width valid refused (told_by (Some width) told) (omega (arith, is, from, late)) high

  pub interval_far : (n width : ℕ) → Some width ≡ needed_width table.sg first.sender.tg (inner_gaps table)
      → n ≡ first.from + width - first.sender.at → 128000 < n → None ≡ greater_interval table
  interval_far n width told is high =
      let t = turned in
      let from = t.from in
      let late : first.sender.at ≡ t.s.at = ap (λ (s : Sender). s.at) t.sender in
      told_far table (valid_facts table valid) periodic t.s t.rest t.order n width (told_by (Some width) told) (omega (arith, is, from, late)) high

  pub interval_none : None ≡ needed_width table.sg first.sender.tg (inner_gaps table) → None ≡ greater_interval table
  interval_none told =
      let t = turned in
      told_none table (valid_facts table valid) periodic t.s t.rest t.order (told_by None told)
