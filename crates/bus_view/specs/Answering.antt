-- What a call answers, said once for all views: which text is written of each reply.
use Rattle.std.specs.Prelude.{◌≡◌, ℕ, List}
use Rattle.bus_regime.specs.Lines.{verdict_words}
use Rattle.bus_dump.specs.DumpTexts.{dump_text}
use Rattle.bus_dump.specs.SaveFiles.{save_text}
use Rattle.bus_command.specs.Claims as command
use Rattle.bus_command.specs.Outside.{Call}
use Rattle.bus_command.specs.declared.status.Status.{Status}
use Rattle.bus_view.specs.Due.{page, painted}
use Rattle.bus_view.specs.Itself.{itself_text}
use Rattle.bus_view.specs.Replies.{Reply, TheDump, TheSaveFile, ThePicture, ThePage, OfItself}

-- The text of a reply. A dump has the words of the verdict as its comment.
abbrev pub reply_text : Reply → List ℕ
reply_text (TheDump dump window breach verdict table trace) = dump_text dump window breach (verdict_words verdict) table trace
reply_text (TheSaveFile window breach table trace) = save_text window breach table trace
reply_text (ThePicture picture window verdict told table trace) = painted picture window verdict told table trace
reply_text (ThePage bounds text) = page bounds text
reply_text (OfItself about) = itself_text about

-- The text of a reply of which this holds.
pub record IsTextOf (IsReply : Reply → Type 0) (text : List ℕ) : Type 0 where
  pub reply : Reply
  pub is : IsReply reply
  pub text_is : text ≡ reply_text reply

-- The answer: this status, and such a text behind what `out` held; or memory was refused, and nothing is written.
abbrev pub Answers : Call → Status → Status → (Reply → Type 0) → Type 0
Answers call status answer IsReply = command.Answers answer (IsTextOf IsReply) call status

-- Nothing is written, and the status is this one, or memory was refused.
abbrev pub Refuses : Call → Status → Status → Type 0
Refuses call status refusal = command.Refuses refusal call status
