-- A text that is answered is the text of a reply.
use Rattle.std.specs.Prelude.{◌≡◌, ℕ, Bool, true, false, List, Result, Ok, Err}
use Rattle.std.proofs.Common.{cond, refl, ◌∙◌, inl, inr}
use Rattle.bus_table.specs.Tables.{Table}
use Rattle.bus_table.specs.declared.error.TableError.{TableError}
use Rattle.bus_regime.specs.Verdicts.{is_accepted, verdict_of}
use Rattle.bus_command.specs.Claims.{Answers}
use Rattle.bus_command.specs.Outside.{Call}
use Rattle.bus_command.specs.declared.status.Status.{Status}
use Rattle.bus_command.specs.declared.status.Status.TheVariants as status
use Rattle.bus_view.specs.Answering.{Answers as Replies, IsTextOf, reply_text}
use Rattle.bus_view.specs.Claims.{page_status}
use Rattle.bus_view.specs.Due.{accepted_outcome, text_outcome}
use Rattle.bus_view.specs.Refusals.{status_of}
use Rattle.bus_view.specs.Replies.{Is, Reply}

-- a text that is answered is the text of a reply
pub replies : (call : Call) (status answer : Status) (IsIt : List ℕ → Type 0) (IsReply : Reply → Type 0) → ((text : List ℕ) → IsIt text → IsTextOf IsReply text)
    → Answers answer IsIt call status → Replies call status answer IsReply
replies call status answer IsIt IsReply shows (inl told) = inl (told.0, (told.1.0, shows told.1.0 told.1.1, told.1.2))
replies call status answer IsIt IsReply shows (inr none) = inr none

pub is_text : (reply : Reply) (written text : List ℕ) → written ≡ reply_text reply → text ≡ written → IsTextOf (Is reply) text
is_text reply written text same is = record { reply = reply; is = refl; text_is = is ∙ same }

-- the status of a text that gives this
accepted_status : (b : Bool) → status_of (accepted_outcome b) ≡ cond b status.Done status.Refused
accepted_status true = refl
accepted_status false = refl

pub text_status : (given : Result Table TableError) → status_of (text_outcome given) ≡ page_status given
text_status (Ok table) = accepted_status (is_accepted (verdict_of table))
text_status (Err error) = refl
