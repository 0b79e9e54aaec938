-- What the lines so far have given, and what a further line makes of it.
-- Draft: what is known of the table. Stage: what stood last, which decides what may follow.
use Rattle.std.specs.Prelude.{ℕ, Bool, true, false, nat_lt, List, [], ◌∷◌, ◌++◌, length, Option, Some, None, Result, Ok, Err, if◌then◌else◌}
use Rattle.bus_text.specs.declared.reason.Reason.{Reason}
use Rattle.bus_text.specs.declared.reason.Reason.TheVariants as reasons
use Rattle.bus_text.specs.AllOf.{◌>>=◌}
pub use Rattle.bus_text.specs.Lasts.{of_last}
use Rattle.bus_strings.specs.Limits.{most_strings}
use Rattle.bus_table.specs.declared.keyword.Keyword.{Keyword}
use Rattle.bus_table.specs.declared.keyword.Keyword.TheVariants as keywords
use Rattle.bus_table.specs.declared.mode.Mode.{Mode}
use Rattle.bus_table.specs.declared.mode.Mode.TheVariants.{Aperiodic}
use Rattle.bus_table.specs.declared.stage.Stage.{Stage}
use Rattle.bus_table.specs.declared.stage.Stage.TheVariants as stages
use Rattle.bus_table.specs.Heads.{Head}
use Rattle.bus_table.specs.Forms.{keyword_of, table_reading, mode_reading, number_reading, head_reading, send_reading, take_reading}
use Rattle.bus_table.specs.Ranges.{is_number, is_ti, is_sg, most_takes}
use Rattle.bus_table.specs.Tables.{SendLine, TakeLine, Sender, Listener}

-- What is known of a table; the mode is aperiodic before its line, and ti and sg are 0 before theirs.
pub record Draft : Type 0 where
  pub stage : Stage
  pub mode : Mode
  pub ti : ℕ
  pub sg : ℕ
  pub senders : List Sender
  pub listeners : List Listener

-- A draft of these parts.
abbrev pub draft_of : Stage → Mode → ℕ → ℕ → List Sender → List Listener → Draft
draft_of stage mode ti sg senders listeners =
    record { stage = stage; mode = mode; ti = ti; sg = sg; senders = senders; listeners = listeners }

-- Before the first line.
abbrev pub start : Draft
start = draft_of stages.Start Aperiodic 0 0 [] []

-- How many SEND lines the last sender has.
abbrev pub last_sends : List Sender → ℕ
last_sends senders = of_last (λ sender. length sender.sends) senders

-- How many TAKE lines the terminal has that stands last: the last listener, or before the first listener the last sender.
abbrev pub last_takes : Stage → List Sender → List Listener → ℕ
last_takes stages.Listener senders listeners = of_last (λ listener. length listener.takes) listeners
last_takes stage senders listeners = of_last (λ sender. length sender.takes) senders

-- Whether a keyword may come at a stage, where the terminal that stands last has so many SEND lines and TAKE lines.
abbrev pub may_follow : Stage → ℕ → ℕ → Keyword → Bool
may_follow stages.Start sends takes keywords.Table = true
may_follow stages.Table sends takes keywords.Mode = true
may_follow stages.Mode sends takes keywords.Ti = true
may_follow stages.Ti sends takes keywords.Sg = true
may_follow stages.Sg sends takes keywords.Sender = true
may_follow stages.Sg sends takes keywords.Listener = true
may_follow (stages.Sender head) sends takes keywords.Send = true
may_follow stages.Send sends takes keywords.Send = nat_lt sends most_strings
may_follow stages.Send sends takes keywords.Take = nat_lt takes most_takes
may_follow stages.Send sends takes keywords.Sender = true
may_follow stages.Send sends takes keywords.Listener = true
may_follow stages.Take sends takes keywords.Take = nat_lt takes most_takes
may_follow stages.Take sends takes keywords.Sender = true
may_follow stages.Take sends takes keywords.Listener = true
may_follow stages.Listener sends takes keywords.Take = nat_lt takes most_takes
may_follow stages.Listener sends takes keywords.Listener = true
may_follow stage sends takes keyword = false

-- Whether a line of a keyword may come next.
abbrev pub may_come : Draft → Keyword → Bool
may_come draft keyword = may_follow draft.stage (last_sends draft.senders) (last_takes draft.stage draft.senders draft.listeners) keyword

-- Whether the text may end at a stage.
abbrev pub may_end : Stage → Bool
may_end stages.Sg = true
may_end stages.Send = true
may_end stages.Take = true
may_end stages.Listener = true
may_end stage = false

-- A sender with its first SEND line.
abbrev pub opened : Head → SendLine → Sender
opened head line = record { number = head.number; tg = head.tg; at = head.at; sends = line ∷ []; takes = [] }

-- A listener without lines.
abbrev pub hearing : ℕ → Listener
hearing number = record { number = number; takes = [] }

-- A sender with one more SEND line.
abbrev pub with_send : SendLine → Sender → Sender
with_send line sender = record sender { sends = sender.sends ++ line ∷ [] }

-- A sender with one more TAKE line.
abbrev pub with_take : TakeLine → Sender → Sender
with_take line sender = record sender { takes = sender.takes ++ line ∷ [] }

-- A listener with one more TAKE line.
abbrev pub with_heard : TakeLine → Listener → Listener
with_heard line listener = record listener { takes = listener.takes ++ line ∷ [] }

-- The last of these is changed.
abbrev pub with_last : {X : Type 0} → (X → X) → List X → List X
with_last change [] = []
with_last change (last ∷ []) = change last ∷ []
with_last change (first ∷ next ∷ others) = first ∷ with_last change (next ∷ others)

-- The senders after a SEND line, which behind a SENDER line is the first of a new one.
abbrev pub senders_after : Stage → SendLine → List Sender → List Sender
senders_after (stages.Sender head) line senders = senders ++ opened head line ∷ []
senders_after stage line senders = with_last (with_send line) senders

-- The draft after a TAKE line, which is of the terminal that stands last.
abbrev pub taken : Stage → Draft → TakeLine → Draft
taken stages.Listener draft line = record draft { listeners = with_last (with_heard line) draft.listeners }
taken stage draft line = record draft { stage = stages.Take; senders = with_last (with_take line) draft.senders }

-- The draft after a line of this keyword, which may come next.
abbrev pub form_reading : Draft → Keyword → List (List ℕ) → Result Draft Reason
form_reading draft keywords.Table fields = table_reading fields >>= λ _. Ok (record draft { stage = stages.Table })
form_reading draft keywords.Mode fields = mode_reading fields >>= λ mode. Ok (record draft { stage = stages.Mode; mode = mode })
form_reading draft keywords.Ti fields = number_reading is_ti fields >>= λ ti. Ok (record draft { stage = stages.Ti; ti = ti })
form_reading draft keywords.Sg fields = number_reading is_sg fields >>= λ sg. Ok (record draft { stage = stages.Sg; sg = sg })
form_reading draft keywords.Sender fields = head_reading draft.mode fields >>= λ head. Ok (record draft { stage = stages.Sender head })
form_reading draft keywords.Send fields =
    send_reading fields >>= λ line. Ok (record draft { stage = stages.Send; senders = senders_after draft.stage line draft.senders })
form_reading draft keywords.Take fields = take_reading fields >>= λ line. Ok (taken draft.stage draft line)
form_reading draft keywords.Listener fields =
    number_reading is_number fields
    >>= λ number. Ok (record draft { stage = stages.Listener; listeners = draft.listeners ++ hearing number ∷ [] })

-- The draft after a line whose keyword is this.
abbrev pub keyword_reading : Draft → Option Keyword → List (List ℕ) → Result Draft Reason
keyword_reading draft None fields = Err reasons.Keyword
keyword_reading draft (Some keyword) fields = if may_come draft keyword then form_reading draft keyword fields else Err reasons.Keyword

-- The draft after a line, or the first reason against it.
unfoldable pub line_reading : Draft → List (List ℕ) → Result Draft Reason
line_reading draft fields = keyword_reading draft (keyword_of fields) fields
