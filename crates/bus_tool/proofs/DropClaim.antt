-- What is claimed of `drop`.
use Rattle.std.specs.Prelude.{◌≡◌, ℕ, ◌≤◌, IsTrue, IsOk, List, [], codes, Ok, Err}
use Rattle.std.proofs.Common.{arith, refl, sym, ap, ◌∙◌, subst, cond}
use Rattle.bus_text.specs.AllOf.{◌>>=◌}
use Rattle.bus_strings.specs.Items.{Item}
use Rattle.bus_strings.specs.Limits.{horizon_limit}
use Rattle.bus_table.specs.declared.mode.Mode.TheVariants.{Aperiodic}
use Rattle.bus_table.specs.Hands.{hands_of}
use Rattle.bus_table.specs.Tables.{Table, Hand}
use Rattle.bus_dropout.specs.DropOut.{last_cycle, drop_end, LastIsLong}
use Rattle.bus_regime.specs.Verdicts.{verdict_of, is_accepted}
use Rattle.bus_schedule.specs.Limits.{longest_end}
use Rattle.bus_command.specs.Claims.{IsOfItems}
use Rattle.bus_command.specs.Due.{outcome_with}
use Rattle.bus_command.specs.Kinds.{kind_of}
use Rattle.bus_command.specs.Outside.{Call}
use Rattle.bus_command.specs.declared.status.Status.TheVariants as status
use Rattle.bus_command.proofs.LawTypes.{FittingItemsGiveHands}
use Rattle.bus_tool.specs.Acts.{Acts}
use Rattle.bus_tool.specs.Answering.{Answers, IsTextOf}
use Rattle.bus_tool.specs.DropClaims.{IsTheDrop}
use Rattle.bus_tool.specs.Due.{last_due, may_drop}
use Rattle.bus_tool.specs.Forms.{Drop}
use Rattle.bus_tool.specs.Refusals.{Outcome, status_of, refuse, NotAccepted}
use Rattle.bus_tool.specs.Replies.{TheRun, receipts_of}
use Rattle.bus_tool.specs.Texts.{IsObserved, IsMessagesAnswerText}
use Rattle.bus_tool.proofs.AnswerLaws.{done_with, long_last}
use Rattle.bus_tool.proofs.DropLemmas.{can_be_dropped}
use Rattle.bus_tool.proofs.EntryLemmas.{observed_recording}
use Rattle.bus_tool.proofs.GroupClaims.{ReadLaws, messages_comes}
use Rattle.bus_tool.proofs.ReplyLemmas.{run_same}

-- a call of `drop` whose items are of an accepted aperiodic table with a last cycle that is long enough, and whose end is within its limit
record IsDropOf (table : Table) (items : List Item) (call : Call) : Type 0 where
  call_is : IsOfItems (codes "drop") [] table items call
  aperiodic : table.mode ≡ Aperiodic
  accepted : IsTrue (is_accepted (verdict_of table))
  long : LastIsLong table (hands_of table items)
  short : drop_end table (hands_of table items) ≤ longest_end

may_be_dropped : (table : Table) (hands : List Hand) → IsTrue (is_accepted (verdict_of table)) → LastIsLong table hands → may_drop table hands ≡ Ok tt
may_be_dropped table hands accepted long =
    ap (λ b. cond b (Ok tt) (Err (refuse (NotAccepted (verdict_of table)))) >>= λ _. last_due (last_cycle table hands) table.ti) accepted
    ∙ long_last (last_cycle table hands) table.ti long

the_drop : FittingItemsGiveHands → (table : Table) (items : List Item) (call : Call) (text : List ℕ) → IsDropOf table items call
    → IsMessagesAnswerText Drop table (hands_of table items) text → IsTextOf (IsTheDrop table (hands_of table items)) text
the_drop give table items call text told h =
    let dealt = give table items told.call_is.table_told.valid (subst IsOk (sym told.call_is.items_told.fit) refl) in
    let observed : IsObserved table (hands_of table items) (drop_end table (hands_of table items)) h.recording = record { horizon = h.ran.horizon; holds = h.ran.holds; lawful = h.ran.run.lawful } in
    let within : drop_end table (hands_of table items) ≤ horizon_limit = omega (arith, told.short) in
    let trace = observed_recording table items told.call_is.items_told.text (drop_end table (hands_of table items)) h.recording told.call_is.table_told.valid dealt told.call_is.items_told.stands told.call_is.items_told.short within observed in
    record {
      reply = TheRun h.recording (receipts_of table h.recording.list);
      is = record { trace = h.recording; ran = h.ran; reply_is = refl };
      stands = trace;
      text_is = h.text_is ∙ run_same table h.recording;
    }

pub drop_claim : ReadLaws → FittingItemsGiveHands → (call : Call) (outcome : Outcome) (table : Table) (items : List Item) → Acts call outcome
    → IsOfItems (codes "drop") [] table items call → table.mode ≡ Aperiodic → IsTrue (is_accepted (verdict_of table))
    → LastIsLong table (hands_of table items) → drop_end table (hands_of table items) ≤ longest_end
    → Answers call (status_of outcome) status.Done (IsTheDrop table (hands_of table items))
drop_claim laws give call outcome table items acts call_is aperiodic accepted long short =
    let h : IsDropOf table items call = record { call_is = call_is; aperiodic = aperiodic; accepted = accepted; long = long; short = short } in
    let can = can_be_dropped table (hands_of table items) (may_be_dropped table (hands_of table items) h.accepted h.long) h.short in
    subst (λ o. Answers call (status_of outcome) (status_of o) (IsTheDrop table (hands_of table items))) (ap (outcome_with done_with) can)
    (messages_comes laws Drop (codes "drop") [] call outcome table items (IsTextOf (IsTheDrop table (hands_of table items))) tt (λ a b. refl) h.aperiodic
    (ap (λ r. kind_of (outcome_with done_with r)) can) (λ text is. the_drop give table items call text h is) acts h.call_is)
