-- What the status of `check` tells of a table.
use Rattle.std.specs.Prelude.{◌≡◌, Bool, true, false, IsTrue}
use Rattle.std.proofs.Common.{refl, sym, ◌∙◌, true≢false, inl, inr}
use Rattle.bus_table.specs.Hands.{are_hands}
use Rattle.bus_table.specs.Tables.{Table}
use Rattle.bus_table.specs.Valid.{is_valid}
use Rattle.std.proofs.lemmas.Bool.{and_parts}
use Rattle.bus_regime.specs.Verdicts.{verdict_of, is_accepted}
use Rattle.bus_schedule.specs.Laws.{TheSettledAreAccepted, TheRefusedFail, WitnessesAreEven}
use Rattle.bus_schedule.specs.Settled.{witness_hands}
use Rattle.bus_command.specs.Outside.{Call}
use Rattle.bus_command.specs.declared.status.Status.{Status}
use Rattle.bus_command.specs.declared.status.Status.TheVariants.{Done, Refused, NoMemory}
use Rattle.bus_tool.specs.Answering.{Answers}
use Rattle.bus_tool.specs.Replies.{Reply, yes_or_no}
use Rattle.bus_tool.specs.TableClaims.{FailsWithWitness, TellsSettled}

-- what the status that is given tells of the verdict
accepts : (is_yes : Bool) → yes_or_no is_yes ≡ Done → is_yes ≡ true
accepts true h = refl
accepts false h = absurd cc

refuses : (is_yes : Bool) → yes_or_no is_yes ≡ Refused → is_yes ≡ false
refuses true h = absurd cc
refuses false h = refl

done_accepts : (call : Call) (status : Status) (is_yes : Bool) (IsReply : Reply → Type 0) → Answers call status (yes_or_no is_yes) IsReply → status ≡ Done → is_yes ≡ true
done_accepts call status is_yes IsReply (inl told) e = accepts is_yes (sym told.0 ∙ e)
done_accepts call status is_yes IsReply (inr none) e = absurd (let k : NoMemory ≡ Done = sym none.0 ∙ e in cc)

refused_refuses : (call : Call) (status : Status) (is_yes : Bool) (IsReply : Reply → Type 0) → Answers call status (yes_or_no is_yes) IsReply → status ≡ Refused
    → is_yes ≡ false
refused_refuses call status is_yes IsReply (inl told) e = refuses is_yes (sym told.0 ∙ e)
refused_refuses call status is_yes IsReply (inr none) e = absurd (let k : NoMemory ≡ Refused = sym none.0 ∙ e in cc)

fails_with : TheRefusedFail → WitnessesAreEven → (table : Table) → IsTrue (is_valid table) → is_accepted (verdict_of table) ≡ false → FailsWithWitness table
fails_with fails even table valid isnt = record {
  fit = (and_parts (are_hands table.senders (witness_hands table)) _ (even table valid)).0;
  even = even table valid;
  fails = fails table valid isnt;
}

pub told_settled : TheSettledAreAccepted → TheRefusedFail → WitnessesAreEven → (table : Table) (call : Call) (status : Status) (IsReply : Reply → Type 0)
    → IsTrue (is_valid table) → Answers call status (yes_or_no (is_accepted (verdict_of table))) IsReply → TellsSettled table status
told_settled exact fails even table call status IsReply valid gives =
    let is_yes = is_accepted (verdict_of table) in
    record {
      settled = λ e. (exact table valid).0 (done_accepts call status is_yes IsReply gives e);
      unsettled = λ e is. true≢false (sym ((exact table valid).1 is) ∙ refused_refuses call status is_yes IsReply gives e);
      witness = λ e. fails_with fails even table valid (refused_refuses call status is_yes IsReply gives e);
    }
