-- Laws of the verdict: which tables it accepts, and with which numbers.
use Rattle.std.specs.Prelude.{◌≡◌, ◌≢◌, ℕ, ◌+◌, ◌<◌, ◌≤◌, ◌⊎◌, Bool, true, false, not, ◌&&◌, ◌==◌, nat_lt, List, [], ◌∷◌}
use Rattle.std.specs.Prelude.{Option, Some, None, IsTrue}
use Rattle.std.specs.List.{list_any, find}
use Rattle.std.specs.Option.{option_map, option_or}
use Rattle.std.proofs.Common.{inl, inr, arith, sym, refl, ap, ◌∙◌, cond}
use Rattle.std.proofs.lemmas.Bool.{and_parts, and_from, or_left, or_right, true≢false, cases_lt, ltb-false, le-ltb, or_parts, or_cases, not-false, not-true, le-leb}
use Rattle.std.proofs.lemmas.Bool.Decides.{nat_tests}
use Rattle.bus_strings.specs.Members.{In}
use Rattle.bus_strings.proofs.MemberLaws.{any_found, any_in}
use Rattle.bus_table.specs.declared.mode.Mode.{Mode}
use Rattle.bus_table.specs.declared.mode.Mode.TheVariants.{Aperiodic, Periodic}
use Rattle.bus_table.specs.Tables.{Table}
use Rattle.bus_regime.specs.declared.table_verdict.TableVerdict.{TableVerdict}
use Rattle.bus_regime.specs.declared.table_verdict.TableVerdict.TheVariants.{Accept, ShortCycle}
use Rattle.bus_regime.specs.Gaps.{Gap, gaps, has_width}
use Rattle.bus_regime.specs.Verdicts.{least_cycle, most_cycle, by_cycles, is_small, synchronizes, lacks_sync, small_gap, no_sync}
use Rattle.bus_regime.specs.Verdicts.{refusal, unless_refused, by_gaps, verdict_in, verdict_of, is_accepted}
use Rattle.bus_regime.specs.inside.Fine.{IsSynchronized, IsFine, HasSmall, HasUnsynchronized}

-- lists and tests
find_none : {A : Type 0} (p : A → Bool) (xs : List A) → find p xs ≡ None → (x : A) → In x xs → p x ≡ false
find_none p [] h x i = absurd i
find_none p (y ∷ ys) h x i =
    (elim (p y) as (λ b. p y ≡ b → cond b (Some y) (find p ys) ≡ None → p x ≡ false) [
      | true ↦ λ e k. absurd (cc)
      | false ↦ λ e k. elim i [ inl same ↦ ap p same ∙ e | inr j ↦ find_none p ys k x j ]
    ]) refl h

none_found : {A : Type 0} (p : A → Bool) (xs : List A) → ((x : A) → In x xs → p x ≡ false) → find p xs ≡ None
none_found p [] h = refl
none_found p (y ∷ ys) h = ap (λ b. cond b (Some y) (find p ys)) (h y (inl refl)) ∙ none_found p ys (λ x i. h x (inr i))

not_same : (a b : ℕ) → a ≢ b → not (a == b) ≡ true
not_same a b h =
    (elim (a == b) as (λ w. (a == b) ≡ w → not w ≡ true) [
      | true ↦ λ e. absurd (h (grind (arith, nat_tests)))
      | false ↦ λ e. refl
    ]) refl

-- an accepted verdict has no refusal
refused_not : (r : Option TableVerdict) (ti : ℕ) → ((v : TableVerdict) → r ≡ Some v → is_accepted v ≡ false)
    → is_accepted (unless_refused r ti) ≡ true → r ≡ None
refused_not None ti bad h = refl
refused_not (Some v) ti bad h = absurd (true≢false (sym h ∙ bad v refl))

refusals_refuse : (a b : Option Gap) (sg : ℕ) (v : TableVerdict) → option_or (option_map small_gap a) (option_map (no_sync sg) b) ≡ Some v
    → is_accepted v ≡ false
refusals_refuse (Some g) b sg v h = let e : small_gap g ≡ v = cc in ap is_accepted (sym e)
refusals_refuse None (Some g) sg v h = let e : no_sync sg g ≡ v = cc in ap is_accepted (sym e)
refusals_refuse None None sg v h = absurd (cc)

neither : (a b : Option Gap) (sg : ℕ) → option_or (option_map small_gap a) (option_map (no_sync sg) b) ≡ None → (a ≡ None) × (b ≡ None)
neither (Some g) b sg h = absurd (cc)
neither None (Some g) sg h = absurd (cc)
neither None None sg h = (refl, refl)

fine : (sg : ℕ) (all : List Gap) (gap : Gap) → is_small gap ≡ false → lacks_sync sg all gap ≡ false → IsFine sg all gap
fine sg all gap h k =
    let w : has_width gap.sender.tg gap ≡ true = not-false _ h in
    let s = or_cases (has_width (sg + gap.sender.tg) gap) (list_any (synchronizes sg gap.sender.number) all) (not-false _ k) in
    record {
      wide = grind (arith, nat_tests, w);
      sync = elim s [
        | inl own ↦ inl (grind (arith, nat_tests, own))
        | inr some ↦
            let f = any_found (synchronizes sg gap.sender.number) all some in
            let p = and_parts (not (f.0.sender.number == gap.sender.number)) _ f.2 in
            let differs : (f.0.sender.number == gap.sender.number) ≡ false = not-true _ p.0 in
            inr (record {
              other = f.0;
              among = f.1;
              apart = λ e. (grind (arith, nat_tests, differs, e));
              wide = grind (arith, nat_tests, p.1);
            })
      ];
    }

-- gaps that are not refused are fine
pub accepted_fine : (sg ti : ℕ) (all : List Gap) → is_accepted (unless_refused (refusal sg all) ti) ≡ true
    → (gap : Gap) → In gap all → IsFine sg all gap
accepted_fine sg ti all h gap i =
    let none = refused_not (refusal sg all) ti (refusals_refuse (find is_small all) (find (lacks_sync sg all) all) sg) h in
    let both = neither (find is_small all) (find (lacks_sync sg all) all) sg none in
    fine sg all gap (find_none is_small all both.0 gap i) (find_none (lacks_sync sg all) all both.1 gap i)

pub is_not_small : (gap : Gap) → gap.from + gap.sender.tg ≤ gap.to → is_small gap ≡ false
is_not_small gap h = ap not (le-leb (gap.from + gap.sender.tg) gap.to h)

has_sync : (sg : ℕ) (all : List Gap) (gap : Gap) → (gap.from + (sg + gap.sender.tg) ≤ gap.to) ⊎ IsSynchronized sg all gap
    → lacks_sync sg all gap ≡ false
has_sync sg all gap (inl own) =
    ap not (or_left (has_width (sg + gap.sender.tg) gap) (list_any (synchronizes sg gap.sender.number) all) (le-leb _ _ own))
has_sync sg all gap (inr s) =
    let passes = and_from _ _ (not_same _ _ s.apart) (le-leb _ _ s.wide) in
    let found = any_in (synchronizes sg gap.sender.number) all s.other s.among passes in
    ap not (or_right (has_width (sg + gap.sender.tg) gap) (list_any (synchronizes sg gap.sender.number) all) found)

none_refused : (sg : ℕ) (all : List Gap) → ((gap : Gap) → In gap all → IsFine sg all gap) → refusal sg all ≡ None
none_refused sg all h =
    let small = none_found is_small all (λ g i. is_not_small g (h g i).wide) in
    let lacks = none_found (lacks_sync sg all) all (λ g i. has_sync sg all g (h g i).sync) in
    ap (λ o. option_or (option_map small_gap o) (option_map (no_sync sg) (find (lacks_sync sg all) all))) small
    ∙ ap (λ o. option_map (no_sync sg) o) lacks

-- and fine gaps are not refused
pub fine_accepted : (sg ti : ℕ) (all : List Gap) → ((gap : Gap) → In gap all → IsFine sg all gap)
    → is_accepted (unless_refused (refusal sg all) ti) ≡ true
fine_accepted sg ti all h = ap (λ o. is_accepted (unless_refused o ti)) (none_refused sg all h)

-- the verdict by mode
pub aperiodic_verdict : (table : Table) → table.mode ≡ Aperiodic → verdict_of table ≡ by_cycles table
aperiodic_verdict table mode = ap (λ m. verdict_in m table) mode

pub periodic_verdict : (table : Table) → table.mode ≡ Periodic → verdict_of table ≡ by_gaps table
periodic_verdict table mode = ap (λ m. verdict_in m table) mode

-- a periodic table is accepted exactly where each of its gaps is fine
pub accepted_gaps : (table : Table) → table.mode ≡ Periodic → IsTrue (is_accepted (verdict_of table))
    → (gap : Gap) → In gap (gaps table) → IsFine table.sg (gaps table) gap
accepted_gaps table mode h = accepted_fine table.sg table.ti (gaps table) (ap is_accepted (sym (periodic_verdict table mode)) ∙ h)

pub gaps_accepted : (table : Table) → table.mode ≡ Periodic → ((gap : Gap) → In gap (gaps table) → IsFine table.sg (gaps table) gap)
    → IsTrue (is_accepted (verdict_of table))
gaps_accepted table mode h = ap is_accepted (periodic_verdict table mode) ∙ fine_accepted table.sg table.ti (gaps table) h

-- an aperiodic table is accepted exactly where its shortest cycle is no shorter than the transmit interval
pub accepted_cycle : (table : Table) → table.mode ≡ Aperiodic → IsTrue (is_accepted (verdict_of table)) → table.ti ≤ least_cycle table
accepted_cycle table mode h =
    (elim (nat_lt (least_cycle table) table.ti) as (λ b. nat_lt (least_cycle table) table.ti ≡ b
    → is_accepted (cond b (ShortCycle (least_cycle table) table.ti) (Accept Aperiodic (least_cycle table) (most_cycle table))) ≡ true
    → table.ti ≤ least_cycle table) [
      | true ↦ λ e k. absurd cc
      | false ↦ λ e k. ltb-false (least_cycle table) table.ti e
    ]) refl (ap is_accepted (sym (aperiodic_verdict table mode)) ∙ h)

cycle_passes : (table : Table) → table.ti ≤ least_cycle table → by_cycles table ≡ Accept Aperiodic (least_cycle table) (most_cycle table)
cycle_passes table h =
    ap (λ b. cond b (ShortCycle (least_cycle table) table.ti) (Accept Aperiodic (least_cycle table) (most_cycle table)))
    (le-ltb (least_cycle table) table.ti h)

pub cycle_accepted : (table : Table) → table.mode ≡ Aperiodic → table.ti ≤ least_cycle table → IsTrue (is_accepted (verdict_of table))
cycle_accepted table mode h = ap is_accepted (aperiodic_verdict table mode ∙ cycle_passes table h)

-- the numbers of an acceptance: the cycles in aperiodic mode, and the transmit interval twice in periodic mode
pub aperiodic_numbers : (table : Table) (mode : Mode) (least most : ℕ) → table.mode ≡ Aperiodic → verdict_of table ≡ Accept mode least most
    → (least ≡ least_cycle table) × (most ≡ most_cycle table)
aperiodic_numbers table mode least most is h =
    let fits = accepted_cycle table is (ap is_accepted h) in
    let w : Accept Aperiodic (least_cycle table) (most_cycle table) ≡ Accept mode least most =
    sym (cycle_passes table fits) ∙ sym (aperiodic_verdict table is) ∙ h in
    (cc, cc)

pub periodic_numbers : (table : Table) (mode : Mode) (least most : ℕ) → table.mode ≡ Periodic → verdict_of table ≡ Accept mode least most
    → (least ≡ table.ti) × (most ≡ table.ti)
periodic_numbers table mode least most is h =
    let none = none_refused table.sg (gaps table) (accepted_gaps table is (ap is_accepted h)) in
    let w : Accept Periodic table.ti table.ti ≡ Accept mode least most =
    sym (ap (λ o. unless_refused o table.ti) none) ∙ sym (periodic_verdict table is) ∙ h in
    (cc, cc)

-- what a search finds
find_some : {A : Type 0} (p : A → Bool) (xs : List A) (x : A) → find p xs ≡ Some x → In x xs × (p x ≡ true)
find_some p [] x h = absurd (cc)
find_some p (y ∷ ys) x h =
    (elim (p y) as (λ b. p y ≡ b → cond b (Some y) (find p ys) ≡ Some x → In x (y ∷ ys) × (p x ≡ true)) [
      | true ↦ λ e k. (let same : y ≡ x = cc in (inl (sym same), ap p (sym same) ∙ e))
      | false ↦ λ e k. (let w = find_some p ys x k in (inr w.0, w.1))
    ]) refl h

none_other : {A : Type 0} (p : A → Bool) (xs : List A) (x : A) → list_any p xs ≡ false → In x xs → p x ≡ false
none_other p xs x none i =
    (elim (p x) as (λ b. p x ≡ b → b ≡ false) [
      | true ↦ λ e. absurd (true≢false (sym (any_in p xs x i e) ∙ none))
      | false ↦ λ e. refl
    ]) refl

is_small_gap : (gap : Gap) → is_small gap ≡ true → gap.to < gap.from + gap.sender.tg
is_small_gap gap h = let w : has_width gap.sender.tg gap ≡ false = not-true _ h in grind (arith, nat_tests, w)

narrow_other : (sg : ℕ) (all : List Gap) (gap other : Gap) → lacks_sync sg all gap ≡ true → In other all
    → other.sender.number ≢ gap.sender.number → other.to < other.from + sg
narrow_other sg all gap other h i apart =
    let none = (or_parts (has_width (sg + gap.sender.tg) gap) _ (not-true _ h)).1 in
    let w : (not (other.sender.number == gap.sender.number) && has_width sg other) ≡ false =
    none_other (synchronizes sg gap.sender.number) all other none i in
    let k : has_width sg other ≡ false = ap (λ b. b && has_width sg other) (sym (not_same _ _ apart)) ∙ w in
    grind (arith, nat_tests, k)

unsynchronized : (sg : ℕ) (all : List Gap) (gap : Gap) → In gap all → lacks_sync sg all gap ≡ true → HasUnsynchronized sg all
unsynchronized sg all gap i h =
    let w : has_width (sg + gap.sender.tg) gap ≡ false = (or_parts (has_width (sg + gap.sender.tg) gap) _ (not-true _ h)).0 in
    record {
      gap = gap;
      among = i;
      narrow = grind (arith, nat_tests, w);
      others = λ other j apart. narrow_other sg all gap other h j apart;
    }

refused_some : (sg ti : ℕ) (all : List Gap) → is_accepted (unless_refused (refusal sg all) ti) ≡ false
    → HasSmall all ⊎ HasUnsynchronized sg all
refused_some sg ti all h =
    (elim (find is_small all) as (λ o. find is_small all ≡ o
    → is_accepted (unless_refused (option_or (option_map small_gap o) (option_map (no_sync sg) (find (lacks_sync sg all) all))) ti) ≡ false
    → HasSmall all ⊎ HasUnsynchronized sg all) [
      | Some gap ↦ λ e k.
          (let f = find_some is_small all gap e in
          inl (record { gap = gap; among = f.0; small = is_small_gap gap f.1 }))
      | None ↦ λ e k.
          (elim (find (lacks_sync sg all) all) as (λ o. find (lacks_sync sg all) all ≡ o
          → is_accepted (unless_refused (option_map (no_sync sg) o) ti) ≡ false → HasSmall all ⊎ HasUnsynchronized sg all) [
            | Some gap ↦ λ f m. (let w = find_some (lacks_sync sg all) all gap f in inr (unsynchronized sg all gap w.0 w.1))
            | None ↦ λ f m. absurd (true≢false m)
          ]) refl k
    ]) refl h

-- a periodic table that is refused has a small gap, or one whose sender lacks sync
pub refused_gaps : (table : Table) → table.mode ≡ Periodic → is_accepted (verdict_of table) ≡ false
    → HasSmall (gaps table) ⊎ HasUnsynchronized table.sg (gaps table)
refused_gaps table mode h = refused_some table.sg table.ti (gaps table) (ap is_accepted (sym (periodic_verdict table mode)) ∙ h)

-- an aperiodic table that is refused has a shortest cycle below its transmit interval
pub refused_cycle : (table : Table) → table.mode ≡ Aperiodic → is_accepted (verdict_of table) ≡ false → least_cycle table < table.ti
refused_cycle table mode h =
    elim (cases_lt (least_cycle table) table.ti) [
      | inl less ↦ less
      | inr fits ↦ absurd (true≢false (sym (cycle_accepted table mode fits) ∙ h))
    ]
