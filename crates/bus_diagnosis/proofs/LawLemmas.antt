-- What the sentences mean.
use Rattle.std.proofs.Common.{arith, ◌≡◌, inl, inr, ℕ, ◌<◌, ◌≤◌, max, Bool, true, false, cond, List, length, None, refl, sym, ap, subst, ◌∙◌}
use Rattle.std.specs.Prelude.{nat_lt, nat_le, IsTrue, IsOk, Result, Ok, Err}
use Rattle.std.proofs.lemmas.Bool.{and_parts, eqb-true}
use Rattle.std.proofs.lemmas.Bool.Decides.{nat_tests}
use Rattle.bus_command.specs.Readers.{text_limit}
use Rattle.bus_strings.specs.Items.{Item}
use Rattle.bus_strings.specs.Reading.{messages_reading}
use Rattle.bus_table.specs.declared.mode.Mode.{Mode}
use Rattle.bus_table.specs.declared.mode.Mode.TheVariants.{Aperiodic, Periodic}
use Rattle.bus_table.specs.Fits.{items_fit}
use Rattle.bus_table.specs.Hands.{hands_of}
use Rattle.bus_table.specs.Tables.{Table, Hand}
use Rattle.bus_table.specs.Valid.{is_valid}
use Rattle.bus_table.proofs.HandFits.{hands_of_fit}
use Rattle.bus_regime.specs.Verdicts.{verdict_of, is_accepted}
use Rattle.bus_schedule.specs.Closed.{closed_end}
use Rattle.bus_schedule.specs.Even.{are_even, rounds as rounds_of}
use Rattle.bus_schedule.specs.Limits.{longest_end}
use Rattle.bus_schedule.specs.Uneven.{uneven_of}
use Rattle.bus_schedule.proofs.UnevenLemmas.{even_of}
use Rattle.bus_reach.specs.Bearing.{bears}
use Rattle.bus_cable.specs.Cables as cables
use Rattle.bus_cable.specs.Cables.{place_on, wakes_on}
use Rattle.bus_cable.specs.OrderLaws.{BorneIsOrderly, PeriodicBorneIsOrderly}
use Rattle.bus_cable.specs.Reading.{cable_reading}
use Rattle.bus_trace.specs.declared.fault.TraceError.{TraceError}
use Rattle.bus_trace.specs.declared.fault.TraceError.TheVariants as traces
use Rattle.bus_trace.specs.Limits.{trace_limit}
use Rattle.bus_trace.specs.Runs.{reading}
use Rattle.bus_trace.specs.TraceLaws.{ReadsOnlyTraces}
use Rattle.bus_trace.specs.Traces.{Recording, HoldsTrace}
use Rattle.bus_diagnosis.specs.Diagnoses.{Diagnosis, NoKind, Large, Line, Unfit as UnfitItem, Uneven, TooLong, Runs, OnCable, Recorded}
use Rattle.bus_diagnosis.specs.Diagnoses.{run_found, cable_found, trace_found, diagnosis_of}
use Rattle.bus_diagnosis.specs.Misfits.{item_number, unfit_at}
use Rattle.bus_diagnosis.specs.Reaches.{Reach, farthest_pair, last_wake, is_borne_in, reach_of}
use Rattle.bus_diagnosis.specs.Laws.{GiveEvenHands, MayRun, RightMessagesRun, HasItems, NamedItemIsFirst, IsOrderly, TakesTurns, BorneCablesAreOrderly, WholeTracesAreTraces}
use Rattle.bus_diagnosis.specs.Whys.{IsFirstUnfit}
use Rattle.bus_diagnosis.proofs.CaseLemmas.{ItemsCase, Misfitting, Differing, Even, TextCase, NoText, TooLarge, Refused, OfMessages, OfCable, OfTrace, text_case}
use Rattle.bus_diagnosis.proofs.MisfitLemmas.{first_unfit}
use Rattle.bus_diagnosis.proofs.ReachLemmas.{all_near, all_awake}

-- ---- even hands
even_hands : (table : Table) (items : List Item) → IsTrue (is_valid table) → items_fit table items ≡ Ok tt → uneven_of table (hands_of table items) ≡ None
    → GiveEvenHands table items (rounds_of (hands_of table items))
even_hands table items valid fit none =
    let ok : IsOk (items_fit table items) = subst IsOk (sym fit) refl in
    record {
      fit = ok;
      even = (even_of table (hands_of table items) None (sym none) valid (hands_of_fit table items valid ok)).0 refl;
      count = refl;
    }

-- ---- messages
record Ran (table : Table) (hands : List Hand) (rounds senders end : ℕ) : Type 0 where
  rounds_are : rounds ≡ rounds_of hands
  end_is : end ≡ closed_end table hands
  short : end ≤ longest_end

ran : (table : Table) (hands : List Hand) (rounds senders end : ℕ) → run_found table hands ≡ Runs rounds senders end → Ran table hands rounds senders end
ran table hands rounds senders end h = by (nat_lt longest_end (closed_end table hands)) refl h where
  by : (b : Bool) → nat_lt longest_end (closed_end table hands) ≡ b
      → cond b (TooLong (closed_end table hands)) (Runs (rounds_of hands) (length table.senders) (closed_end table hands)) ≡ Runs rounds senders end
      → Ran table hands rounds senders end
  by true e q = absurd cc
  by false e q =
      let same : rounds ≡ rounds_of hands = cc in
      let ends : end ≡ closed_end table hands = cc in
      let most : closed_end table hands ≤ longest_end = grind (arith, nat_tests, e) in
      record { rounds_are = same; end_is = ends; short = omega (arith, most, ends) }

pub right_messages_run : RightMessagesRun
right_messages_run table text rounds senders end valid h = by (text_case table text) where
  of_trace : (r : Result Recording TraceError) → trace_found text r ≡ Runs rounds senders end → MayRun table text rounds end
  of_trace (Ok trace) q = absurd cc
  of_trace (Err (traces.Text byte reason)) q = absurd cc
  of_trace (Err traces.ReadFault) q = absurd cc
  of_trace (Err traces.TooLarge) q = absurd cc
  of_trace (Err traces.Memory) q = absurd cc

  of_items : length text ≤ text_limit → (items : List Item) → messages_reading text ≡ Ok items
      → ItemsCase (run_found table) table text 0 items (diagnosis_of table text) → MayRun table text rounds end
  of_items within items read (Misfitting e fit q) = let wrong : UnfitItem (unfit_at table text 0 items (item_number e)) ≡ Runs rounds senders end = sym q ∙ h in absurd cc
  of_items within items read (Differing counts q) = let wrong : Uneven counts ≡ Runs rounds senders end = sym q ∙ h in absurd cc
  of_items within items read (Even fit none q) =
      let r = ran table (hands_of table items) rounds senders end (sym q ∙ h) in
      record {
        within = within;
        items = items;
        read = read;
        hands = subst (GiveEvenHands table items) (sym r.rounds_are) (even_hands table items valid fit none);
        end_is = r.end_is;
        short = r.short;
      }

  of_cable : (cable : cables.Cable) (before : ℕ) (items : List Item) → ItemsCase (cable_found table cable) table text before items (diagnosis_of table text)
      → MayRun table text rounds end
  of_cable cable before items (Misfitting e fit q) = let wrong : UnfitItem (unfit_at table text before items (item_number e)) ≡ Runs rounds senders end = sym q ∙ h in absurd cc
  of_cable cable before items (Differing counts q) = let wrong : Uneven counts ≡ Runs rounds senders end = sym q ∙ h in absurd cc
  of_cable cable before items (Even fit none q) =
      let wrong : OnCable (rounds_of (hands_of table items)) (length table.senders) (reach_of table cable) ≡ Runs rounds senders end = sym q ∙ h in absurd cc

  by : TextCase table text (diagnosis_of table text) → MayRun table text rounds end
  by (NoText line q) = let wrong : NoKind line ≡ Runs rounds senders end = sym q ∙ h in absurd cc
  by (TooLarge kind q) = let wrong : Large kind ≡ Runs rounds senders end = sym q ∙ h in absurd cc
  by (Refused kind first line reason q) = let wrong : Line kind first line reason ≡ Runs rounds senders end = sym q ∙ h in absurd cc
  by (OfMessages short items read found) = of_items short items read found
  by (OfCable cable items read found) = of_cable cable _ items found
  by (OfTrace q) = of_trace (reading trace_limit text) (sym q ∙ h)

-- ---- an item that doesn't fit
pub named_item_is_first : NamedItemIsFirst
named_item_is_first table text unfit h = by (text_case table text) where
  of_run : (hands : List Hand) → run_found table hands ≡ UnfitItem unfit → ⊥
  of_run hands q = test (nat_lt longest_end (closed_end table hands)) q where
    test : (b : Bool) → cond b (TooLong (closed_end table hands)) (Runs (rounds_of hands) (length table.senders) (closed_end table hands)) ≡ UnfitItem unfit → ⊥
    test true r = cc
    test false r = cc

  of_trace : (r : Result Recording TraceError) → trace_found text r ≡ UnfitItem unfit → ⊥
  of_trace (Ok trace) q = cc
  of_trace (Err (traces.Text byte reason)) q = cc
  of_trace (Err traces.ReadFault) q = cc
  of_trace (Err traces.TooLarge) q = cc
  of_trace (Err traces.Memory) q = cc

  of_items : (found : List Hand → Diagnosis) (before : ℕ) (items : List Item) → HasItems text items → ((hands : List Hand) → found hands ≡ UnfitItem unfit → ⊥)
      → ItemsCase found table text before items (diagnosis_of table text)
      → (all : List Item) × HasItems text all × IsFirstUnfit table all unfit
  of_items found before items has none (Misfitting e fit q) =
      let told : UnfitItem (unfit_at table text before items (item_number e)) ≡ UnfitItem unfit = sym q ∙ h in
      let same : unfit_at table text before items (item_number e) ≡ unfit = cc in
      (items, has, subst (IsFirstUnfit table items) same (first_unfit table text before items e fit))
  of_items found before items has none (Differing counts q) = let wrong : Uneven counts ≡ UnfitItem unfit = sym q ∙ h in absurd cc
  of_items found before items has none (Even fit even q) = absurd (none (hands_of table items) (sym q ∙ h))

  of_cable : (cable : cables.Cable) (hands : List Hand) → cable_found table cable hands ≡ UnfitItem unfit → ⊥
  of_cable cable hands q = cc

  by : TextCase table text (diagnosis_of table text) → (all : List Item) × HasItems text all × IsFirstUnfit table all unfit
  by (NoText line q) = let wrong : NoKind line ≡ UnfitItem unfit = sym q ∙ h in absurd cc
  by (TooLarge kind q) = let wrong : Large kind ≡ UnfitItem unfit = sym q ∙ h in absurd cc
  by (Refused kind first line reason q) = let wrong : Line kind first line reason ≡ UnfitItem unfit = sym q ∙ h in absurd cc
  by (OfMessages short items read found) = of_items (run_found table) 0 items (inl read) of_run found
  by (OfCable cable items read found) = of_items (cable_found table cable) _ items (inr (cable, read)) (of_cable cable) found
  by (OfTrace q) = absurd (of_trace (reading trace_limit text) (sym q ∙ h))

-- ---- a cable
-- what bears two delays bears the greater
greater_borne : (table : Table) (a b : ℕ) → bears table a ≡ true → bears table b ≡ true → bears table (max a b) ≡ true
greater_borne table a b p q = by (nat_le a b) refl where
  by : (t : Bool) → nat_le a b ≡ t → bears table (max a b) ≡ true
  by true e =
      let less : a ≤ b = grind (arith, nat_tests, e) in
      let most : b ≡ max a b = omega (arith, less) in
      subst (λ n. bears table n ≡ true) most q
  by false e =
      let less : b < a = grind (arith, nat_tests, e) in
      let most : a ≡ max a b = omega (arith, less) in
      subst (λ n. bears table n ≡ true) most p

orderly : BorneIsOrderly → PeriodicBorneIsOrderly → (table : Table) (cable : cables.Cable) (hands : List Hand) (mode : Mode) → table.mode ≡ mode
    → IsTrue (is_valid table) → IsTrue (is_accepted (verdict_of table)) → IsTrue (are_even table hands)
    → is_borne_in mode table (farthest_pair table (place_on cable)).bits (last_wake (wakes_on cable) table.senders) ≡ true
    → IsOrderly mode table cable hands
orderly aperiodic periodic table cable hands Aperiodic e valid accepted even borne =
    let far : ℕ = (farthest_pair table (place_on cable)).bits in
    let late : ℕ = last_wake (wakes_on cable) table.senders in
    let parts = and_parts (bears table far) _ borne in
    let near = all_near table (place_on cable) in
    let awake = all_awake (wakes_on cable) table.senders in
    λ horizon ends.
    aperiodic table hands (max far late) (place_on cable) (wakes_on cable) horizon valid e accepted even
    (greater_borne table far late parts.0 parts.1) (λ sender number i j. omega (arith, near sender number i j)) (λ sender i. omega (arith, awake sender i)) ends
orderly aperiodic periodic table cable hands Periodic e valid accepted even borne =
    let far : ℕ = (farthest_pair table (place_on cable)).bits in
    let late : ℕ = last_wake (wakes_on cable) table.senders in
    let parts = and_parts (bears table far) _ borne in
    let none : late ≡ 0 = eqb-true late 0 parts.1 in
    let awake = all_awake (wakes_on cable) table.senders in
    λ horizon ends.
    periodic table hands far (place_on cable) (wakes_on cable) horizon valid e accepted even parts.0 (all_near table (place_on cable))
    (λ sender i. omega (arith, none, awake sender i)) ends

pub borne_cables_are_orderly : BorneIsOrderly → PeriodicBorneIsOrderly → BorneCablesAreOrderly
borne_cables_are_orderly aperiodic periodic table text rounds senders reach valid accepted h borne = by (text_case table text) where
  of_run : (hands : List Hand) → run_found table hands ≡ OnCable rounds senders reach → ⊥
  of_run hands q = test (nat_lt longest_end (closed_end table hands)) q where
    test : (b : Bool) → cond b (TooLong (closed_end table hands)) (Runs (rounds_of hands) (length table.senders) (closed_end table hands)) ≡ OnCable rounds senders reach
        → ⊥
    test true r = cc
    test false r = cc

  of_trace : (r : Result Recording TraceError) → trace_found text r ≡ OnCable rounds senders reach → ⊥
  of_trace (Ok trace) q = cc
  of_trace (Err (traces.Text byte reason)) q = cc
  of_trace (Err traces.ReadFault) q = cc
  of_trace (Err traces.TooLarge) q = cc
  of_trace (Err traces.Memory) q = cc

  of_messages : (items : List Item) → ItemsCase (run_found table) table text 0 items (diagnosis_of table text) → TakesTurns table text rounds
  of_messages items (Misfitting e fit q) = let wrong : UnfitItem (unfit_at table text 0 items (item_number e)) ≡ OnCable rounds senders reach = sym q ∙ h in absurd cc
  of_messages items (Differing counts q) = let wrong : Uneven counts ≡ OnCable rounds senders reach = sym q ∙ h in absurd cc
  of_messages items (Even fit none q) = absurd (of_run (hands_of table items) (sym q ∙ h))

  of_cable : (cable : cables.Cable) (before : ℕ) (items : List Item) → cable_reading text ≡ Ok (cable, items)
      → ItemsCase (cable_found table cable) table text before items (diagnosis_of table text) → TakesTurns table text rounds
  of_cable cable before items read (Misfitting e fit q) =
      let wrong : UnfitItem (unfit_at table text before items (item_number e)) ≡ OnCable rounds senders reach = sym q ∙ h in absurd cc
  of_cable cable before items read (Differing counts q) = let wrong : Uneven counts ≡ OnCable rounds senders reach = sym q ∙ h in absurd cc
  of_cable cable before items read (Even fit none q) =
      let told : OnCable (rounds_of (hands_of table items)) (length table.senders) (reach_of table cable) ≡ OnCable rounds senders reach = sym q ∙ h in
      let count : rounds_of (hands_of table items) ≡ rounds = cc in
      let same : reach_of table cable ≡ reach = cc in
      let even = even_hands table items valid fit none in
      record {
        cable = cable;
        items = items;
        read = read;
        hands = subst (GiveEvenHands table items) count even;
        orderly = orderly aperiodic periodic table cable (hands_of table items) table.mode refl valid accepted even.even
            (ap (λ (r : Reach). r.borne) same ∙ borne);
      }

  by : TextCase table text (diagnosis_of table text) → TakesTurns table text rounds
  by (NoText line q) = let wrong : NoKind line ≡ OnCable rounds senders reach = sym q ∙ h in absurd cc
  by (TooLarge kind q) = let wrong : Large kind ≡ OnCable rounds senders reach = sym q ∙ h in absurd cc
  by (Refused kind first line reason q) = let wrong : Line kind first line reason ≡ OnCable rounds senders reach = sym q ∙ h in absurd cc
  by (OfMessages short items read found) = of_messages items found
  by (OfCable cable items read found) = of_cable cable _ items read found
  by (OfTrace q) = absurd (of_trace (reading trace_limit text) (sym q ∙ h))

-- ---- a trace
pub whole_traces_are_traces : ReadsOnlyTraces → WholeTracesAreTraces
whole_traces_are_traces only table text count horizon end h = by (text_case table text) where
  Told : Type 0
  Told = (trace : Recording) × HoldsTrace trace_limit text trace × (count ≡ length trace.list) × (horizon ≡ trace.horizon)

  of_run : (hands : List Hand) → run_found table hands ≡ Recorded count horizon end → ⊥
  of_run hands q = test (nat_lt longest_end (closed_end table hands)) q where
    test : (b : Bool) → cond b (TooLong (closed_end table hands)) (Runs (rounds_of hands) (length table.senders) (closed_end table hands)) ≡ Recorded count horizon end
        → ⊥
    test true r = cc
    test false r = cc

  of_cable : (cable : cables.Cable) (hands : List Hand) → cable_found table cable hands ≡ Recorded count horizon end → ⊥
  of_cable cable hands q = cc

  of_items : (found : List Hand → Diagnosis) (before : ℕ) (items : List Item) → ((hands : List Hand) → found hands ≡ Recorded count horizon end → ⊥)
      → ItemsCase found table text before items (diagnosis_of table text) → ⊥
  of_items found before items none (Misfitting e fit q) = let wrong : UnfitItem (unfit_at table text before items (item_number e)) ≡ Recorded count horizon end = sym q ∙ h in cc
  of_items found before items none (Differing counts q) = let wrong : Uneven counts ≡ Recorded count horizon end = sym q ∙ h in cc
  of_items found before items none (Even fit even q) = none (hands_of table items) (sym q ∙ h)

  of_trace : (r : Result Recording TraceError) → reading trace_limit text ≡ r → trace_found text r ≡ Recorded count horizon end → Told
  of_trace (Ok trace) e q =
      let count_is : count ≡ length trace.list = cc in
      let horizon_is : horizon ≡ trace.horizon = cc in
      (trace, only trace_limit text trace e, count_is, horizon_is)
  of_trace (Err (traces.Text byte reason)) e q = absurd cc
  of_trace (Err traces.ReadFault) e q = absurd cc
  of_trace (Err traces.TooLarge) e q = absurd cc
  of_trace (Err traces.Memory) e q = absurd cc

  by : TextCase table text (diagnosis_of table text) → Told
  by (NoText line q) = let wrong : NoKind line ≡ Recorded count horizon end = sym q ∙ h in absurd cc
  by (TooLarge kind q) = let wrong : Large kind ≡ Recorded count horizon end = sym q ∙ h in absurd cc
  by (Refused kind first line reason q) = let wrong : Line kind first line reason ≡ Recorded count horizon end = sym q ∙ h in absurd cc
  by (OfMessages short items read found) = absurd (of_items (run_found table) 0 items of_run found)
  by (OfCable cable items read found) = absurd (of_items (cable_found table cable) _ items (of_cable cable) found)
  by (OfTrace q) = of_trace (reading trace_limit text) refl (sym q ∙ h)
