-- A line of each keyword, and how a text ends behind it.
use Rattle.std.proofs.Common.{◌≡◌, ℕ, ◌+◌, true, false, List, [], ◌∷◌, ◌++◌, codes, None, Some, Result, Ok, Err, refl, ap, subst, ◌∙◌, cond}
use Rattle.std.specs.Prelude.{Bool, not, ◌&&◌}
use Rattle.std.specs.List.{AllByRecursion, list_all}
use Rattle.std.proofs.lemmas.Bool.{and_parts}
use Rattle.bus_text.specs.declared.reason.Reason.TheVariants as reasons
use Rattle.bus_text.specs.AllOf.{◌>>=◌}
use Rattle.bus_text.specs.Lines.{is_feed, is_skipped, fields_of, entries_from}
use Rattle.bus_table.specs.declared.mode.Mode.{Mode}
use Rattle.bus_table.specs.declared.mode.Mode.TheVariants.{Aperiodic, Periodic}
use Rattle.bus_table.specs.declared.keyword.Keyword.{Keyword}
use Rattle.bus_table.specs.declared.keyword.Keyword.TheVariants as keywords
use Rattle.bus_table.specs.declared.stage.Stage.{Stage}
use Rattle.bus_table.specs.declared.stage.Stage.TheVariants as stages
use Rattle.bus_table.specs.Drafts.{Draft, may_come, may_end, senders_after, taken, hearing, form_reading, keyword_reading, line_reading}
use Rattle.bus_table.specs.Forms.{keyword_of, table_reading, mode_reading, number_reading, head_reading, sender_reading, offset_reading, send_reading, take_reading}
use Rattle.bus_table.specs.Reading.{steps}
use Rattle.bus_table.specs.Tables.{SendLine, TakeLine}
use Rattle.bus_table.proofs.GoingLemmas.{HasNoFeed, kept_entries, steps_first, no_steps}

-- a SENDER line of this mode
abbrev pub sample_sender : Mode → List ℕ
sample_sender Aperiodic = codes "SENDER 1 TG 8"
sample_sender Periodic = codes "SENDER 1 TG 8 AT 0"

-- a line of a keyword in a table of this mode
abbrev pub sample : Mode → Keyword → List ℕ
sample mode keywords.Table = codes "TABLE 1"
sample mode keywords.Mode = codes "MODE aperiodic"
sample mode keywords.Ti = codes "TI 1000"
sample mode keywords.Sg = codes "SG 9"
sample mode keywords.Sender = sample_sender mode
sample mode keywords.Send = codes "SEND 001 0 0 0"
sample mode keywords.Take = codes "TAKE 001 * 0 1"
sample mode keywords.Listener = codes "LISTENER 1"

-- the lines that have to come behind it
abbrev pub behind : Keyword → List (List ℕ)
behind keywords.Table = codes "MODE aperiodic" ∷ codes "TI 1000" ∷ codes "SG 9" ∷ []
behind keywords.Mode = codes "TI 1000" ∷ codes "SG 9" ∷ []
behind keywords.Ti = codes "SG 9" ∷ []
behind keywords.Sender = codes "SEND 001 0 0 0" ∷ []
behind keyword = []

pub sample_kept : (mode : Mode) (keyword : Keyword) → is_skipped (sample mode keyword) ≡ false
sample_kept mode keywords.Table = refl
sample_kept mode keywords.Mode = refl
sample_kept mode keywords.Ti = refl
sample_kept mode keywords.Sg = refl
sample_kept Aperiodic keywords.Sender = refl
sample_kept Periodic keywords.Sender = refl
sample_kept mode keywords.Send = refl
sample_kept mode keywords.Take = refl
sample_kept mode keywords.Listener = refl

pub sample_word : (mode : Mode) (keyword : Keyword) → keyword_of (fields_of (sample mode keyword)) ≡ Some keyword
sample_word mode keywords.Table = refl
sample_word mode keywords.Mode = refl
sample_word mode keywords.Ti = refl
sample_word mode keywords.Sg = refl
sample_word Aperiodic keywords.Sender = refl
sample_word Periodic keywords.Sender = refl
sample_word mode keywords.Send = refl
sample_word mode keywords.Take = refl
sample_word mode keywords.Listener = refl

-- from this draft the text ends well with these lines
pub record EndsWell (draft : Draft) (n : ℕ) (lines : List (List ℕ)) : Type 0 where
  pub last : Draft
  pub reads : steps draft (entries_from n lines) ≡ Ok last
  pub may : may_end last.stage ≡ true

-- a line that is read
word_read : (draft : Draft) (keyword : Keyword) (fields : List (List ℕ)) → keyword_of fields ≡ Some keyword → may_come draft keyword ≡ true
    → line_reading draft fields ≡ form_reading draft keyword fields
unfolding line_reading
word_read draft keyword fields h may =
    ap (λ k. keyword_reading draft k fields) h ∙ ap (λ t. cond t (form_reading draft keyword fields) (Err reasons.Keyword)) may

-- the sample is read, and then the lines behind it
then_ends : (mode : Mode) (keyword : Keyword) (draft next : Draft) (n : ℕ) (lines : List (List ℕ)) → may_come draft keyword ≡ true
    → form_reading draft keyword (fields_of (sample mode keyword)) ≡ Ok next → EndsWell next (n + 1) lines → EndsWell draft n (sample mode keyword ∷ lines)
then_ends mode keyword draft next n lines may form ends = record {
  last = ends.last;
  reads =
      ap (steps draft) (kept_entries n (sample mode keyword) lines (sample_kept mode keyword))
      ∙ steps_first draft (record { number = n; fields = fields_of (sample mode keyword) }) (entries_from (n + 1) lines) (Ok next)
      (word_read draft keyword (fields_of (sample mode keyword)) (sample_word mode keyword) may ∙ form)
      ∙ ends.reads;
  may = ends.may;
}

ends_here : (draft : Draft) (n : ℕ) → may_end draft.stage ≡ true → EndsWell draft n []
ends_here draft n may = record { last = draft; reads = no_steps draft; may = may }

-- ---- what each sample reads as
reads_table : (draft : Draft) → form_reading draft keywords.Table (fields_of (codes "TABLE 1")) ≡ Ok (record draft { stage = stages.Table })
unfolding table_reading
reads_table draft = refl

reads_mode : (draft : Draft) → form_reading draft keywords.Mode (fields_of (codes "MODE aperiodic")) ≡ Ok (record draft { stage = stages.Mode; mode = Aperiodic })
unfolding mode_reading
reads_mode draft = refl

reads_ti : (draft : Draft) → form_reading draft keywords.Ti (fields_of (codes "TI 1000")) ≡ Ok (record draft { stage = stages.Ti; ti = 1000 })
unfolding number_reading
reads_ti draft = refl

reads_sg : (draft : Draft) → form_reading draft keywords.Sg (fields_of (codes "SG 9")) ≡ Ok (record draft { stage = stages.Sg; sg = 9 })
unfolding number_reading
reads_sg draft = refl

reads_sender : (mode : Mode) (draft : Draft) → draft.mode ≡ mode
    → form_reading draft keywords.Sender (fields_of (sample_sender mode)) ≡ Ok (record draft { stage = stages.Sender (record { number = 1; tg = 8; at = 0 }) })
unfolding sender_reading offset_reading
reads_sender Aperiodic draft e =
    ap (λ m. head_reading m (fields_of (codes "SENDER 1 TG 8")) >>= λ head. Ok (record draft { stage = stages.Sender head })) e
reads_sender Periodic draft e =
    ap (λ m. head_reading m (fields_of (codes "SENDER 1 TG 8 AT 0")) >>= λ head. Ok (record draft { stage = stages.Sender head })) e

-- what the SEND line of the samples says
abbrev sent : SendLine
sent = record { label = 1; ext = 0; least = 0; most = 0 }

reads_send : (draft : Draft) → form_reading draft keywords.Send (fields_of (codes "SEND 001 0 0 0"))
    ≡ Ok (record draft { stage = stages.Send; senders = senders_after draft.stage sent draft.senders })
unfolding send_reading
reads_send draft = refl

-- what the TAKE line of the samples says
abbrev took : TakeLine
took = record { label = 1; ext = None; first = 0; count = 1 }

reads_take : (draft : Draft) → form_reading draft keywords.Take (fields_of (codes "TAKE 001 * 0 1")) ≡ Ok (taken draft.stage draft took)
unfolding take_reading
reads_take draft = refl

-- behind it the text may end
take_ends : (stage : Stage) (draft : Draft) (line : TakeLine) → draft.stage ≡ stage → may_end (taken stage draft line).stage ≡ true
take_ends stages.Start draft line e = refl
take_ends stages.Table draft line e = refl
take_ends stages.Mode draft line e = refl
take_ends stages.Ti draft line e = refl
take_ends stages.Sg draft line e = refl
take_ends (stages.Sender head) draft line e = refl
take_ends stages.Send draft line e = refl
take_ends stages.Take draft line e = refl
take_ends stages.Listener draft line e = ap may_end e

reads_listener : (draft : Draft) → form_reading draft keywords.Listener (fields_of (codes "LISTENER 1"))
    ≡ Ok (record draft { stage = stages.Listener; listeners = draft.listeners ++ hearing 1 ∷ [] })
unfolding number_reading
reads_listener draft = refl

-- ---- so a text goes on with each keyword that may come
sg_ends : (mode : Mode) (draft : Draft) (n : ℕ) → may_come draft keywords.Sg ≡ true → EndsWell draft n (codes "SG 9" ∷ [])
sg_ends mode draft n may =
    then_ends mode keywords.Sg draft (record draft { stage = stages.Sg; sg = 9 }) n [] may (reads_sg draft) (ends_here _ (n + 1) refl)

ti_ends : (mode : Mode) (draft : Draft) (n : ℕ) → may_come draft keywords.Ti ≡ true → EndsWell draft n (codes "TI 1000" ∷ behind keywords.Ti)
ti_ends mode draft n may =
    then_ends mode keywords.Ti draft (record draft { stage = stages.Ti; ti = 1000 }) n (behind keywords.Ti) may (reads_ti draft) (sg_ends mode _ (n + 1) refl)

mode_ends : (mode : Mode) (draft : Draft) (n : ℕ) → may_come draft keywords.Mode ≡ true → EndsWell draft n (codes "MODE aperiodic" ∷ behind keywords.Mode)
mode_ends mode draft n may =
    then_ends mode keywords.Mode draft (record draft { stage = stages.Mode; mode = Aperiodic }) n (behind keywords.Mode) may (reads_mode draft)
    (ti_ends mode _ (n + 1) refl)

send_ends : (mode : Mode) (draft : Draft) (n : ℕ) → may_come draft keywords.Send ≡ true → EndsWell draft n (codes "SEND 001 0 0 0" ∷ [])
send_ends mode draft n may =
    then_ends mode keywords.Send draft (record draft { stage = stages.Send; senders = senders_after draft.stage sent draft.senders }) n [] may (reads_send draft)
    (ends_here _ (n + 1) refl)

pub sample_ends : (mode : Mode) (keyword : Keyword) (draft : Draft) (n : ℕ) → draft.mode ≡ mode → may_come draft keyword ≡ true
    → EndsWell draft n (sample mode keyword ∷ behind keyword)
sample_ends mode keywords.Table draft n e may =
    then_ends mode keywords.Table draft (record draft { stage = stages.Table }) n (behind keywords.Table) may (reads_table draft) (mode_ends mode _ (n + 1) refl)
sample_ends mode keywords.Mode draft n e may = mode_ends mode draft n may
sample_ends mode keywords.Ti draft n e may = ti_ends mode draft n may
sample_ends mode keywords.Sg draft n e may = sg_ends mode draft n may
sample_ends mode keywords.Sender draft n e may =
    then_ends mode keywords.Sender draft (record draft { stage = stages.Sender (record { number = 1; tg = 8; at = 0 }) }) n (behind keywords.Sender) may
    (reads_sender mode draft e) (send_ends mode _ (n + 1) refl)
sample_ends mode keywords.Send draft n e may = send_ends mode draft n may
sample_ends mode keywords.Take draft n e may =
    then_ends mode keywords.Take draft (taken draft.stage draft took) n [] may (reads_take draft) (ends_here _ (n + 1) (take_ends draft.stage draft took refl))
sample_ends mode keywords.Listener draft n e may =
    then_ends mode keywords.Listener draft (record draft { stage = stages.Listener; listeners = draft.listeners ++ hearing 1 ∷ [] }) n [] may (reads_listener draft)
    (ends_here _ (n + 1) refl)

-- ---- and no sample has a line feed
feedless_by : (line : List ℕ) → list_all (λ b. not (is_feed b)) line ≡ true → HasNoFeed line
feedless_by [] h = tt
feedless_by (b ∷ line) h = let parts = and_parts (not (is_feed b)) _ h in (no_feed (is_feed b) parts.0, feedless_by line parts.1)
  where
    no_feed : (t : Bool) → not t ≡ true → t ≡ false
    no_feed false h = refl
    no_feed true h = absurd cc

all_feedless : (lines : List (List ℕ)) → list_all (list_all (λ b. not (is_feed b))) lines ≡ true → AllByRecursion HasNoFeed lines
all_feedless [] h = tt
all_feedless (line ∷ lines) h = let parts = and_parts (list_all (λ b. not (is_feed b)) line) _ h in (feedless_by line parts.0, all_feedless lines parts.1)

pub samples_feedless : (mode : Mode) (keyword : Keyword) → AllByRecursion HasNoFeed (sample mode keyword ∷ behind keyword)
samples_feedless mode keywords.Table = all_feedless (sample mode keywords.Table ∷ behind keywords.Table) refl
samples_feedless mode keywords.Mode = all_feedless (sample mode keywords.Mode ∷ behind keywords.Mode) refl
samples_feedless mode keywords.Ti = all_feedless (sample mode keywords.Ti ∷ behind keywords.Ti) refl
samples_feedless mode keywords.Sg = all_feedless (sample mode keywords.Sg ∷ behind keywords.Sg) refl
samples_feedless Aperiodic keywords.Sender = all_feedless (sample Aperiodic keywords.Sender ∷ behind keywords.Sender) refl
samples_feedless Periodic keywords.Sender = all_feedless (sample Periodic keywords.Sender ∷ behind keywords.Sender) refl
samples_feedless mode keywords.Send = all_feedless (sample mode keywords.Send ∷ behind keywords.Send) refl
samples_feedless mode keywords.Take = all_feedless (sample mode keywords.Take ∷ behind keywords.Take) refl
samples_feedless mode keywords.Listener = all_feedless (sample mode keywords.Listener ∷ behind keywords.Listener) refl
