-- What is claimed of `run`.
use Rattle.std.specs.Prelude.{◌≡◌, ℕ, ◌≤◌, true, ◌==◌, IsTrue, IsOk, IsNone, List, [], ◌∷◌, length, map, codes, Option, Some, None, Ok, Err}
use Rattle.std.specs.List.{list_all, AllByRecursion}
use Rattle.std.proofs.Common.{arith, refl, sym, ap, ◌∙◌, subst, cond}
use Rattle.std.proofs.lemmas.Bool.{eq-eqb, and_from}
use Rattle.bus_text.specs.AllOf.{◌>>=◌}
use Rattle.bus_strings.specs.Items.{Item}
use Rattle.bus_strings.specs.Limits.{horizon_limit}
use Rattle.bus_strings.specs.Messages.{Message}
use Rattle.bus_table.specs.Tables.{Sender, Table, Hand}
use Rattle.bus_table.specs.Hands.{message_of, items_of, hand_of, hands_of, are_hands}
use Rattle.bus_regime.specs.Verdicts.{verdict_of, is_accepted}
use Rattle.bus_schedule.specs.declared.uneven.Uneven.{Uneven as UnevenHands}
use Rattle.bus_schedule.specs.Closed.{closed_end}
use Rattle.bus_schedule.specs.Even.{rounds, are_even}
use Rattle.bus_schedule.specs.Laws.{EvenHandsAgree}
use Rattle.bus_schedule.specs.Limits.{longest_end}
use Rattle.bus_schedule.specs.Uneven.{uneven_of}
use Rattle.bus_command.specs.Kinds.{kind_of}
use Rattle.bus_command.specs.Due.{outcome_with}
use Rattle.bus_command.specs.Outside.{Call}
use Rattle.bus_command.proofs.LawTypes.{FittingItemsGiveHands}
use Rattle.bus_command.specs.Claims.{IsOfItems}
use Rattle.bus_command.specs.declared.status.Status.TheVariants as status
use Rattle.bus_tool.specs.Acts.{Acts}
use Rattle.bus_tool.specs.Answering.{Answers, IsTextOf}
use Rattle.bus_tool.specs.Due.{even_due, accepted_due, may_run, can_run}
use Rattle.bus_tool.specs.Forms.{Run}
use Rattle.bus_tool.specs.Refusals.{Outcome, status_of, refuse, NotAccepted}
use Rattle.bus_tool.specs.Replies.{TheRun, receipts_of}
use Rattle.bus_tool.specs.RunClaims.{AreEvenItems, IsTheRun}
use Rattle.bus_tool.specs.Texts.{IsObserved, IsMessagesAnswerText}
use Rattle.bus_tool.proofs.AnswerLaws.{done_with}
use Rattle.bus_tool.proofs.EntryLemmas.{observed_recording}
use Rattle.bus_tool.proofs.GroupClaims.{ReadLaws, messages_comes}
use Rattle.bus_tool.proofs.ReplyLemmas.{run_same}
use Rattle.bus_tool.proofs.RunLemmas.{can_be_run}

-- a call of `run` whose items are as many for each sender of an accepted table, and whose closed end is within its limit
record IsRunOf (table : Table) (items : List Item) (call : Call) : Type 0 where
  call_is : IsOfItems (codes "run") [] table items call
  accepted : IsTrue (is_accepted (verdict_of table))
  even : AreEvenItems table items
  short : closed_end table (hands_of table items) ≤ longest_end

-- ---- as many items are as many messages
length_map : (f : Item → Message) → (items : List Item) → length (map f items) ≡ length items
length_map f [] = refl
length_map f (item ∷ items) = omega (arith, length_map f items)

count_is : (items : List Item) (n : ℕ) (sender : Sender) → length (items_of sender.number items) ≡ n → length (hand_of items sender).messages ≡ n
count_is items n sender h = length_map (λ item. message_of sender.sends item.strings) (items_of sender.number items) ∙ h

counts_are : (items : List Item) (n : ℕ) (senders : List Sender) → AllByRecursion (λ sender. length (items_of sender.number items) ≡ n) senders → list_all (λ hand. length hand.messages == n) (map (hand_of items) senders) ≡ true
counts_are items n [] h = refl
counts_are items n (s ∷ senders) h = and_from _ _ (eq-eqb (length (hand_of items s).messages) n (count_is items n s h.0)) (counts_are items n senders h.1)

even_counts : (items : List Item) (n : ℕ) (senders : List Sender) → AllByRecursion (λ sender. length (items_of sender.number items) ≡ n) senders
    → list_all (λ hand. length hand.messages == rounds (map (hand_of items) senders)) (map (hand_of items) senders) ≡ true
even_counts items n [] h = refl
even_counts items n (s ∷ senders) h = ap (λ k. list_all (λ hand. length hand.messages == k) (map (hand_of items) (s ∷ senders))) (count_is items n s h.0) ∙ counts_are items n (s ∷ senders) h

pub even_hands : (table : Table) (items : List Item) → IsTrue (are_hands table.senders (hands_of table items)) → AreEvenItems table items → IsTrue (are_even table (hands_of table items))
even_hands table items dealt even =
    and_from (are_hands table.senders (hands_of table items)) (list_all (λ hand. length hand.messages == rounds (hands_of table items)) (hands_of table items)) dealt (even_counts items even.rounds table.senders even.each)

-- ---- what is due
pub none_is : (found : Option UnevenHands) → IsNone found → found ≡ None
none_is None h = refl
none_is (Some uneven) h = absurd cc

may_be_run : (table : Table) (hands : List Hand) → uneven_of table hands ≡ None → IsTrue (is_accepted (verdict_of table)) → may_run table hands ≡ Ok tt
may_be_run table hands none accepted =
    ap (λ found. even_due found >>= λ _. accepted_due (verdict_of table)) none
    ∙ ap (λ b. cond b (Ok tt) (Err (refuse (NotAccepted (verdict_of table))))) accepted

is_run : FittingItemsGiveHands → EvenHandsAgree → (table : Table) (items : List Item) (call : Call) → IsRunOf table items call
    → can_run table (hands_of table items) ≡ Ok tt
is_run give agree table items call h =
    let dealt : IsTrue (are_hands table.senders (hands_of table items)) = give table items h.call_is.table_told.valid (subst IsOk (sym h.call_is.items_told.fit) refl) in
    let none : uneven_of table (hands_of table items) ≡ None = none_is (uneven_of table (hands_of table items))
    ((agree table (hands_of table items) h.call_is.table_told.valid dealt).1 (even_hands table items dealt h.even)) in
    can_be_run table (hands_of table items) (may_be_run table (hands_of table items) none h.accepted) h.short

-- ---- the claim
the_run : FittingItemsGiveHands → (table : Table) (items : List Item) (call : Call) (text : List ℕ) → IsRunOf table items call
    → IsMessagesAnswerText Run table (hands_of table items) text → IsTextOf (IsTheRun table (hands_of table items)) text
the_run give table items call text told h =
    let dealt = give table items told.call_is.table_told.valid (subst IsOk (sym told.call_is.items_told.fit) refl) in
    let observed : IsObserved table (hands_of table items) (closed_end table (hands_of table items)) h.recording = record { horizon = h.ran.horizon; holds = h.ran.holds; lawful = h.ran.run.lawful } in
    let within : closed_end table (hands_of table items) ≤ horizon_limit = omega (arith, told.short) in
    let trace = observed_recording table items told.call_is.items_told.text (closed_end table (hands_of table items)) h.recording told.call_is.table_told.valid dealt told.call_is.items_told.stands told.call_is.items_told.short within observed in
    record {
      reply = TheRun h.recording (receipts_of table h.recording.list);
      is = record { trace = h.recording; ran = h.ran; reply_is = refl };
      stands = trace;
      text_is = h.text_is ∙ run_same table h.recording;
    }

pub run_claim : ReadLaws → FittingItemsGiveHands → EvenHandsAgree → (call : Call) (outcome : Outcome) (table : Table) (items : List Item) → Acts call outcome
    → IsOfItems (codes "run") [] table items call → IsTrue (is_accepted (verdict_of table)) → AreEvenItems table items
    → closed_end table (hands_of table items) ≤ longest_end
    → Answers call (status_of outcome) status.Done (IsTheRun table (hands_of table items))
run_claim laws give agree call outcome table items acts call_is accepted even short =
    let h : IsRunOf table items call = record { call_is = call_is; accepted = accepted; even = even; short = short } in
    let can = is_run give agree table items call h in
    subst (λ o. Answers call (status_of outcome) (status_of o) (IsTheRun table (hands_of table items))) (ap (outcome_with done_with) can)
    (messages_comes laws Run (codes "run") [] call outcome table items (IsTextOf (IsTheRun table (hands_of table items))) tt (λ a b. refl) tt
    (ap (λ r. kind_of (outcome_with done_with r)) can) (λ text is. the_run give table items call text h is) acts h.call_is)
