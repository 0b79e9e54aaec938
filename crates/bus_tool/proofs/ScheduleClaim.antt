-- What is claimed of `schedule`.
use Rattle.std.specs.Prelude.{◌≡◌, ℕ, zero, suc, ◌+◌, ◌-◌, ◌*◌, ◌<◌, ◌≤◌, ◌==◌, IsTrue, IsOk, List, [], codes, length, slice_get, Some, Ok}
use Rattle.std.specs.List.{list_all}
use Rattle.std.proofs.Common.{arith, refl, sym, ap, ◌∙◌, subst, inl, inr}
use Rattle.std.proofs.lemmas.Bool.{and_parts, cases_lt}
use Rattle.std.proofs.lemmas.Option.{slice_get_within}
use Rattle.bus_strings.specs.Items.{Item}
use Rattle.bus_strings.specs.Members.{In}
use Rattle.bus_strings.specs.Messages.{Entry}
use Rattle.bus_strings.specs.Transmissions.{IsTransmission}
use Rattle.bus_strings.proofs.MemberLaws.{at_in, in_at, all_in}
use Rattle.bus_table.specs.Tables.{Sender, Table, Hand}
use Rattle.bus_table.specs.Fits.{fits}
use Rattle.bus_table.specs.Hands.{hands_of, are_hands}
use Rattle.bus_table.specs.Turns.{turn_key, turn_order}
use Rattle.bus_table.specs.Valid.{is_valid}
use Rattle.bus_table.proofs.TurnLaws.{from_sort, order_length, numbers_differ}
use Rattle.bus_table.proofs.ValidLaws.{valid_facts}
use Rattle.bus_schedule.specs.Closed.{closed, closed_end}
use Rattle.bus_schedule.specs.Even.{messages_of, rounds, are_even}
use Rattle.bus_schedule.specs.Laws.{AcceptedIsClosed, ClosedIsOrderly, IsOrderly, EvenHandsAgree}
use Rattle.bus_schedule.specs.Limits.{longest_end}
use Rattle.bus_schedule.specs.Uneven.{uneven_of}
use Rattle.bus_schedule.proofs.EvenLemmas.{EvenHandAt, even_hand_at, sender_at}
use Rattle.bus_schedule.proofs.HandLemmas.{own_fit}
use Rattle.bus_hands.specs.Holds.{hand_holds}
use Rattle.bus_command.specs.Claims.{IsOfItems}
use Rattle.bus_command.specs.Due.{outcome_with}
use Rattle.bus_command.specs.Kinds.{kind_of}
use Rattle.bus_command.specs.Outside.{Call}
use Rattle.bus_command.proofs.FewHands.{hands_few}
use Rattle.bus_command.proofs.LawTypes.{FittingItemsGiveHands}
use Rattle.bus_text.specs.Lines.{entries_of}
use Rattle.bus_command.specs.declared.status.Status.TheVariants as status
use Rattle.bus_tool.specs.Acts.{Acts}
use Rattle.bus_tool.specs.Answering.{Answers, IsTextOf}
use Rattle.bus_tool.specs.Due.{even_due, can_schedule}
use Rattle.bus_tool.specs.Forms.{Schedule}
use Rattle.bus_tool.specs.Refusals.{Outcome, status_of}
use Rattle.bus_tool.specs.Replies.{Is, TheTrace}
use Rattle.bus_tool.specs.RunClaims.{AreEvenItems}
use Rattle.bus_tool.specs.ScheduleClaims.{IsScheduled}
use Rattle.bus_tool.specs.Texts.{scheduled}
use Rattle.bus_tool.proofs.AnswerLaws.{done_with}
use Rattle.bus_tool.proofs.EntryLemmas.{IsOfHand, of_hand, few_items, message_items}
use Rattle.bus_tool.proofs.GroupClaims.{ReadLaws, messages_comes}
use Rattle.bus_tool.proofs.ReplyLemmas.{is_text}
use Rattle.bus_tool.proofs.RunClaim.{even_hands, none_is}
use Rattle.bus_tool.proofs.ScheduleLemmas.{can_be_scheduled, schedule_is_trace}

-- a call of `schedule` whose items are as many for each sender, and whose closed end is within its limit
record IsScheduleOf (table : Table) (items : List Item) (call : Call) : Type 0 where
  call_is : IsOfItems (codes "schedule") [] table items call
  even : AreEvenItems table items
  short : closed_end table (hands_of table items) ≤ longest_end

-- the laws by which it is
pub record ScheduleLaws : Type 0 where
  pub give_hands : FittingItemsGiveHands
  pub even_agree : EvenHandsAgree
  pub orderly : ClosedIsOrderly
  pub runs : AcceptedIsClosed

-- ---- each transmission is of a sender's hand
-- the round of a place, and the turn in it
record Turn (wide count place : ℕ) : Type 0 where
  round : ℕ
  turn : ℕ
  at : round * wide + turn ≡ place
  low : round < count
  narrow : turn < wide

one_more : (count wide : ℕ) → suc count * wide ≡ count * wide + wide
one_more count wide = grind arith

turn_of : (wide count place : ℕ) → place < count * wide → Turn wide count place
turn_of wide zero place less = absurd (omega (arith, less))
turn_of wide (suc count) place less = elim (cases_lt place (count * wide)) [
  | inl before ↦ (let so_far = turn_of wide count place before in
      record { round = so_far.round; turn = so_far.turn; at = so_far.at; low = omega (arith, so_far.low); narrow = so_far.narrow })
  | inr behind ↦ record { round = count; turn = place - count * wide; at = omega (arith, behind); low = omega arith; narrow = omega (arith, less, behind, one_more count wide) }
]

module _ (table : Table) (hands : List Hand) (valid : IsTrue (is_valid table)) (even : IsTrue (are_even table hands)) where
  -- the transmission of a sender's message
  of_sender : (x : Entry) (sender : Sender) (round : ℕ) → In sender table.senders → x.terminal ≡ sender.number
      → slice_get (messages_of hands sender.number) round ≡ Some x.message → IsOfHand table hands x
  of_sender x sender round there number message =
      let place = in_at table.senders sender there in
      let own : EvenHandAt hands place.0 sender (rounds hands) = even_hand_at table hands place.0 sender valid even place.1 in
      let are = (and_parts (are_hands table.senders hands) (list_all (λ hand. length hand.messages == rounds hands) hands) even).0 in
      record {
        sender = sender;
        there = there;
        number = number;
        hand = own.hand;
        dealt = at_in hands place.0 own.hand own.at;
        fit = sym (ap (list_all (fits sender)) own.messages) ∙ own_fit table.senders hands are (numbers_differ table (valid_facts table valid)) sender there;
        message = subst (In x.message) own.messages (at_in (messages_of hands sender.number) round x.message message);
      }

  same_entry : (x y : Entry) (place : ℕ) → slice_get (closed table hands) place ≡ Some x → slice_get (closed table hands) place ≡ Some y → y ≡ x
  same_entry x y place h k = cc

  scheduled_of_hand : IsOrderly table hands → (x : Entry) → In x (closed table hands) → IsOfHand table hands x
  scheduled_of_hand orderly x i =
      let place = in_at (closed table hands) x i in
      let turn = turn_of (length table.senders) (rounds hands) place.0 (let within = slice_get_within (closed table hands) place.0 x place.1 in omega (arith, within, orderly.turns.whole)) in
      let who = sender_at (turn_order table) turn.turn (omega (arith, turn.narrow, order_length table)) in
      let has = orderly.turns.turn turn.round turn.turn who.0 turn.low who.1 in
      let same : has.entry ≡ x = same_entry x has.entry place.0 place.1 (ap (slice_get (closed table hands)) (sym turn.at) ∙ has.at) in
      of_sender x who.0 turn.round (from_sort (turn_key table.mode) table.senders who.0 (at_in (turn_order table) turn.turn who.0 who.1))
      (ap (λ (y : Entry). y.terminal) (sym same) ∙ has.terminal) (has.message ∙ ap (λ (y : Entry). Some y.message) same)

-- ---- the claim
dealt_to : ScheduleLaws → (table : Table) (items : List Item) (call : Call) → IsScheduleOf table items call → IsTrue (are_hands table.senders (hands_of table items))
dealt_to laws table items call h = laws.give_hands table items h.call_is.table_told.valid (subst IsOk (sym h.call_is.items_told.fit) refl)

are_even_hands : ScheduleLaws → (table : Table) (items : List Item) (call : Call) → IsScheduleOf table items call → IsTrue (are_even table (hands_of table items))
are_even_hands laws table items call h = even_hands table items (dealt_to laws table items call h) h.even

can : ScheduleLaws → (table : Table) (items : List Item) (call : Call) → IsScheduleOf table items call → can_schedule table (hands_of table items) ≡ Ok tt
can laws table items call h =
    let hands = hands_of table items in
    let none = none_is (uneven_of table hands) ((laws.even_agree table hands h.call_is.table_told.valid (dealt_to laws table items call h)).1 (are_even_hands laws table items call h)) in
    can_be_scheduled table hands (ap even_due none) h.short

is_scheduled : ScheduleLaws → (table : Table) (items : List Item) (call : Call) → IsScheduleOf table items call → IsScheduled table (hands_of table items)
is_scheduled laws table items call h =
    let hands = hands_of table items in
    let valid = h.call_is.table_told.valid in
    let even = are_even_hands laws table items call h in
    let told = h.call_is.items_told in
    let count = few_items items told.text told.stands in
    let own = message_items items (entries_of told.text) told.stands in
    let orderly = laws.orderly table hands valid even in
    let ranged = all_in IsTransmission (closed table hands) (λ x i. of_hand table items own.0 x valid own.1 (scheduled_of_hand table hands valid even orderly x i)) in
    record {
      trace = schedule_is_trace table hands (closed_end table hands) (hand_holds hands) (closed table hands) refl h.short
          (hands_few items table.senders (omega (arith, count, told.short))) refl refl orderly.ascends ranged;
      ran = λ accepted. record { horizon = refl; holds = refl; run = laws.runs table hands valid accepted even };
    }

pub schedule_claim : ReadLaws → ScheduleLaws → (call : Call) (outcome : Outcome) (table : Table) (items : List Item) → Acts call outcome
    → IsOfItems (codes "schedule") [] table items call → AreEvenItems table items → closed_end table (hands_of table items) ≤ longest_end
    → Answers call (status_of outcome) status.Done (Is (TheTrace (scheduled table (hands_of table items)))) × IsScheduled table (hands_of table items)
schedule_claim texts laws call outcome table items acts call_is even short =
    let h : IsScheduleOf table items call = record { call_is = call_is; even = even; short = short } in
    let is = can laws table items call h in
    let tells = is_scheduled laws table items call h in
    let reply = TheTrace (scheduled table (hands_of table items)) in (
      subst (λ o. Answers call (status_of outcome) (status_of o) (Is reply)) (ap (outcome_with done_with) is)
          (messages_comes texts Schedule (codes "schedule") [] call outcome table items (IsTextOf (Is reply)) tt (λ a b. refl) tt
          (ap (λ r. kind_of (outcome_with done_with r)) is) (λ text is. is_text reply _ text tells.trace refl is) acts h.call_is),
      tells,
    )
