-- What is claimed of `cable`.
use Rattle.std.specs.Prelude.{◌≡◌, ℕ, ◌≤◌, Bool, true, false, ◌&&◌, nat_le, IsTrue, IsOk, List, [], ◌∷◌, ◌++◌, length, codes, Some, None, Ok}
use Rattle.std.specs.List.{AllByRecursion}
use Rattle.std.proofs.Common.{arith, refl, sym, ap, ◌∙◌, subst, cond, inl, inr}
use Rattle.std.proofs.lemmas.Bool.Decides.{nat_tests}
use Rattle.std.proofs.lemmas.List.{length-append}
use Rattle.bus_text.specs.Numbers.{IsDecimal, is_plain_decimal, decimal_value}
use Rattle.bus_text.proofs.LineLaws.{length-entries_of-le}
use Rattle.bus_timers.specs.MayStart.{MayStart}
use Rattle.bus_strings.specs.Items.{Item}
use Rattle.bus_strings.specs.Limits.{horizon_limit}
use Rattle.bus_strings.specs.Members.{In}
use Rattle.bus_strings.specs.Messages.{Entry}
use Rattle.bus_table.specs.Fits.{items_fit}
use Rattle.bus_table.specs.Hands.{hands_of, are_hands}
use Rattle.bus_table.specs.Tables.{Table, Hand}
use Rattle.bus_table.specs.Valid.{is_valid}
use Rattle.bus_medium.specs.CableLawful.{IsDueOnCable, IsLawfulOnCable}
use Rattle.bus_medium.specs.CableLaws.{OneCableListOfATable, NoDelayIsTheBus}
use Rattle.bus_medium.specs.Delays.{Delays, at_once, later, heard, distance}
use Rattle.bus_medium.specs.Lawful.{Station, IsLawful}
use Rattle.bus_medium.specs.Past.{own}
use Rattle.bus_medium.specs.Wakes.{Wakes, woken_past, woken_place}
use Rattle.bus_medium.specs.Timings.{quiet_of, stations_of}
use Rattle.bus_medium.proofs.StationLaws.{HasSender, stations_are_of_senders}
use Rattle.bus_cable.specs.Cables.{Cable, place_on, delays_on, wakes_on}
use Rattle.bus_cable.specs.Grammar.{IsCableText}
use Rattle.bus_cable.specs.Hearing.{hearings}
use Rattle.bus_cable.specs.OrderLaws.{IsRunOnPlaces, BorneIsOrderly, PeriodicBorneIsOrderly}
use Rattle.bus_trace.specs.Traces.{Recording, IsTrace}
use Rattle.bus_command.specs.Due.{table_refusal_of}
use Rattle.bus_command.specs.Outside.{Call}
use Rattle.bus_command.specs.declared.status.Status.TheVariants as status
use Rattle.bus_command.specs.Readers.{entire, two_sources, text_limit}
use Rattle.bus_command.proofs.ClaimLemmas.{claimed, does_of, at_two}
use Rattle.bus_command.proofs.FewHands.{hands_few}
use Rattle.bus_command.proofs.LawTypes.{FittingItemsGiveHands, TextReadsAsItsTable}
use Rattle.bus_command.proofs.ToldLemmas.{table_told}
use Rattle.bus_tool.specs.Acts.{tool_program, Acts}
use Rattle.bus_tool.specs.Answering.{Answers, IsTextOf}
use Rattle.bus_tool.specs.Asking.{IsCableOf}
use Rattle.bus_tool.specs.CableClaims.{IsPlain, IsInOrder, IsTheTraceOnCable}
use Rattle.bus_tool.specs.Due.{CableInputs, cable_answer, cable_due}
use Rattle.bus_tool.specs.Forms.{Cable as OnCable, four_words, no_options}
use Rattle.bus_tool.proofs.FormLemmas.{decimal_plain, of_plain, plain_with}
use Rattle.bus_tool.specs.Refusals.{Outcome, ToolRefusal, ends_of, status_of}
use Rattle.bus_tool.specs.Replies.{OnTheCable, hearings_of}
use Rattle.bus_tool.specs.Texts.{IsOnCable, IsOnCableText, IsCableAnswerText}
use Rattle.bus_tool.proofs.CableLemmas.{CableLaws, read_told, both_told, on_cable_is_trace}
use Rattle.bus_tool.proofs.EntryLemmas.{item_lines, all_transmissions}
use Rattle.bus_tool.proofs.ReplyLemmas.{on_cable_same}

-- the laws of cables
pub record CableClaimLaws : Type 0 where
  pub table_again : TextReadsAsItsTable
  pub texts : CableLaws
  pub give_hands : FittingItemsGiveHands
  pub one : OneCableListOfATable
  pub none : NoDelayIsTheBus
  pub orderly : BorneIsOrderly
  pub periodic_orderly : PeriodicBorneIsOrderly

-- the words are the form
cable_form : (number : List ℕ) (horizon : ℕ) → IsDecimal number horizon → horizon ≤ horizon_limit
    → four_words (codes "cable") number no_options ≡ Some (OnCable horizon)
cable_form number horizon d within =
    let plain : is_plain_decimal number ≡ true = d.plain in
    let low : nat_le (decimal_value number) horizon_limit ≡ true = grind (arith, nat_tests, d.value) in
    ap (λ b. cond (b && nat_le (decimal_value number) horizon_limit) (Some (OnCable (decimal_value number))) None) plain
    ∙ ap (λ b. cond b (Some (OnCable (decimal_value number))) None) low ∙ ap (λ n. Some (OnCable n)) d.value

-- ---- the recording is a trace
-- a cable text has no more items than bytes
few_items : (cable : Cable) (items : List Item) (text : List ℕ) → IsCableText cable items text → length items ≤ length text
few_items cable items text h =
    let same = item_lines items h.item_lines h.items_are in
    let lines = ap length h.parts in
    let first = length-append h.place_lines (h.wake_lines ++ h.item_lines) in
    let second = length-append h.wake_lines h.item_lines in
    let bytes = length-entries_of-le text in
    omega (arith, same, lines, first, second, bytes)

recording_is_trace : (table : Table) (cable : Cable) (items : List Item) (text : List ℕ) (until : ℕ) (trace : Recording) → IsTrue (is_valid table) → IsTrue (are_hands table.senders (hands_of table items))
    → IsCableText cable items text → length text ≤ text_limit → until ≤ horizon_limit → IsOnCable table cable (hands_of table items) until trace → IsTrace trace
recording_is_trace table cable items text until trace valid dealt stands short within o =
    let items_few = few_items cable items text stands in
    let few = hands_few items table.senders (omega (arith, items_few, short)) in
    let ranged = all_transmissions (IsDueOnCable (quiet_of table) (delays_on cable) (wakes_on cable)) table items stands.item_lines until trace.list valid dealt stands.items_are o.lawful in
    let is = on_cable_is_trace table cable (hands_of table items) until trace.holds trace.list within few o.holds o.lawful ranged in
    subst (λ (n : ℕ). IsTrace (record { horizon = n; holds = trace.holds; list = trace.list })) (sym o.horizon) is

-- ---- a plain cable
-- what is heard at once of transmissions that come without delay
heard_at_once : (delay : Delays) (number : ℕ) (list : List Entry) → ((x : Entry) → In x list → delay x number ≡ 0) → heard delay number list ≡ heard at_once number list
heard_at_once delay number [] h = refl
heard_at_once delay number (x ∷ list) h =
    ap (λ bits. later bits x ∷ heard delay number list) (h x (inl refl))
    ∙ ap (λ others. later 0 x ∷ others) (heard_at_once delay number list (λ y i. h y (inr i)))

-- who hears the same is due at the same moments
due_as : (quiet : ℕ) (delay other : Delays) (wake : Wakes) (list : List Entry) (sender : Station) (t : ℕ) → heard delay sender.number list ≡ heard other sender.number list
    → IsDueOnCable quiet delay wake list sender t → IsDueOnCable quiet other wake list sender t
due_as quiet delay other wake list sender t same h = record {
  may = subst (λ l. MayStart sender.timing (woken_past quiet (wake sender.number) l t) (woken_place quiet (wake sender.number) (own list sender.number t))) same h.may;
  left = h.left;
}

-- a list is lawful at once where no sender hears of it with delay
lawful_at_once : (quiet : ℕ) (delay : Delays) (wake : Wakes) (stations : List Station) (horizon : ℕ) (list : List Entry)
    → ((sender : Station) → In sender stations → heard delay sender.number list ≡ heard at_once sender.number list)
    → IsLawfulOnCable quiet delay wake stations horizon list → IsLawfulOnCable quiet at_once wake stations horizon list
lawful_at_once quiet delay wake stations horizon list same h = record {
  ordered = h.ordered;
  sent = h.sent;
  exact = λ t sender low there. (
    λ entry. due_as quiet delay at_once wake list sender t (same sender there) ((h.exact t sender low there).0 entry),
    λ due. (h.exact t sender low there).1 (due_as quiet at_once delay wake list sender t (sym (same sender there)) due),
  );
}

-- on a plain cable it is lawful on the bus
module _ (table : Table) (cable : Cable) (hands : List Hand) (horizon : ℕ) (list : List Entry) (valid : IsTrue (is_valid table)) (dealt : IsTrue (are_hands table.senders hands)) (plain : IsPlain table cable)
    (lawful : IsLawfulOnCable (quiet_of table) (delays_on cable) (wakes_on cable) (stations_of table hands) horizon list) where
  seat : (station : Station) → In station (stations_of table hands) → HasSender table hands station
  seat station there = stations_are_of_senders table hands station valid dealt there

  no_delay : (station : Station) → In station (stations_of table hands) → (x : Entry) → In x list → delays_on cable x station.number ≡ 0
  no_delay station there x i =
      let next = (lawful.sent x i).1 in
      let from = seat next.sender next.there in
      let to = seat station there in
      let one : place_on cable x.terminal ≡ place_on cable station.number =
      ap (place_on cable) (sym next.number ∙ from.is.number) ∙ plain.places from.sender to.sender from.there to.there ∙ ap (place_on cable) (sym to.is.number) in
      ap (λ place. distance place (place_on cable station.number)) one ∙ (omega arith)

  plain_is_lawful : NoDelayIsTheBus → IsLawful (quiet_of table) (stations_of table hands) horizon list
  plain_is_lawful none =
      (none (quiet_of table) at_once (wakes_on cable) (stations_of table hands) horizon list (record { own = λ x. refl; within = λ number i x j. omega arith })
      (λ station there. ap (wakes_on cable) (seat station there).is.number ∙ plain.wakes (seat station there).sender (seat station there).there)).0
      (lawful_at_once (quiet_of table) (delays_on cable) (wakes_on cable) (stations_of table hands) horizon list
      (λ station there. heard_at_once (delays_on cable) station.number list (no_delay station there)) lawful)

-- ---- a cable that the table bears
in_order : (table : Table) (cable : Cable) (hands : List Hand) (horizon : ℕ) (schedule list : List Entry) → IsRunOnPlaces table hands (place_on cable) (wakes_on cable) horizon schedule
    → IsLawfulOnCable (quiet_of table) (delays_on cable) (wakes_on cable) (stations_of table hands) horizon list → IsInOrder table cable schedule list
in_order table cable hands horizon schedule list run lawful =
    let same : list ≡ schedule = run.only list lawful in
    record {
      list_is = same;
      clear = λ near number there.
          subst (λ (l : List Entry). AllByRecursion (λ (marked : Entry × Bool). marked.1 ≡ false) (hearings (delays_on cable) l number)) (sym same) (run.clear near number there);
    }

-- ---- the claim
text_of : CableClaimLaws → (table : Table) (cable : Cable) (items : List Item) (given : List ℕ) (horizon : ℕ) (text : List ℕ) → IsTrue (is_valid table)
    → IsCableText cable items given → length given ≤ text_limit → items_fit table items ≡ Ok tt → horizon ≤ horizon_limit
    → IsOnCableText horizon table cable (hands_of table items) text → IsTextOf (IsTheTraceOnCable table cable (hands_of table items) horizon) text
text_of laws table cable items given horizon text valid stands short fit within h =
    let dealt = laws.give_hands table items valid (subst IsOk (sym fit) refl) in
    let one = laws.one table (hands_of table items) (delays_on cable) (wakes_on cable) horizon valid dealt in
    record {
      reply = OnTheCable h.recording (hearings_of table (delays_on cable) h.recording.list);
      stands = recording_is_trace table cable items given horizon h.recording valid dealt stands short within h.observed;
      text_is = h.text_is ∙ on_cable_same table cable h.recording;
      is = record {
        trace = h.recording;
        reply_is = refl;
        observed = h.observed;
        only = λ other lawful. one.2 other lawful ∙ sym (one.2 h.recording.list h.observed.lawful);
        plain = λ plain. record {
          horizon = h.observed.horizon;
          holds = h.observed.holds;
          lawful = plain_is_lawful table cable (hands_of table items) horizon h.recording.list valid dealt plain h.observed.lawful laws.none;
        };
        aperiodic = λ most borne wakes end. in_order table cable (hands_of table items) horizon _ h.recording.list
            (laws.orderly table (hands_of table items) most (place_on cable) (wakes_on cable) horizon valid borne.mode_is borne.accepted borne.even borne.borne borne.near wakes end) h.observed.lawful;
        periodic = λ most borne wakes end. in_order table cable (hands_of table items) horizon _ h.recording.list
            (laws.periodic_orderly table (hands_of table items) most (place_on cable) (wakes_on cable) horizon valid borne.mode_is borne.accepted borne.even borne.borne borne.near wakes end) h.observed.lawful;
      };
    }

pub cable_claim : CableClaimLaws → (call : Call) (outcome : Outcome) (table : Table) (cable : Cable) (items : List Item) (horizon : ℕ)
    → Acts call outcome → IsCableOf table cable items horizon call
    → Answers call (status_of outcome) status.Done (IsTheTraceOnCable table cable (hands_of table items) horizon)
cable_claim laws call outcome table cable items horizon acts h =
    let first = h.table_told.text in
    let second = h.cable_told.text in
    let inputs : CableInputs = record { table = table; cable = cable; items = items } in
    let due : cable_due first second ≡ Ok inputs =
    both_told table cable items first second (table_told {R = ToolRefusal} laws.table_again table call.before.sources.first h.table_told)
    (read_told laws.texts table cable items second h.cable_told.stands h.cable_told.fit h.cable_told.short) in
    claimed ends_of cable_answer (IsCableAnswerText horizon) (two_sources entire entire) table_refusal_of cable_due first second inputs
    (IsTextOf (IsTheTraceOnCable table cable (hands_of table items) horizon)) call outcome
    (at_two entire entire call.before.sources first second h.table_told.told h.cable_told.told) due refl
    (λ text is. text_of laws table cable items second horizon text h.table_told.valid h.cable_told.stands h.cable_told.short h.cable_told.fit h.within is)
    (does_of tool_program call outcome (OnCable horizon) (of_plain (codes "cable") h.form.first (h.form.second ∷ h.number ∷ []) call.words h.form.form
    (plain_with (codes "cable") h.form.first h.form.second (h.number ∷ []) h.form.plain (decimal_plain h.number h.spelled.plain, tt))
    ∙ cable_form h.number horizon h.spelled h.within) acts) h.undisturbed
