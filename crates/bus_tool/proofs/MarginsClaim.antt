-- What is claimed of the margins of a table.
use Rattle.std.specs.Prelude.{◌≡◌, codes, Some, None}
use Rattle.std.proofs.Common.{ap, ◌∙◌, cond}
use Rattle.bus_bounds.specs.Bounds.{Bounds, AreBounds}
use Rattle.bus_table.specs.declared.mode.Mode.TheVariants.{Aperiodic, Periodic}
use Rattle.bus_table.specs.Tables.{Table}
use Rattle.bus_regime.specs.Verdicts.{verdict_of}
use Rattle.bus_margins.specs.Laws.{IsAperiodic, AnySettles, LevelKeepsOrder, ApartIsARound}
use Rattle.bus_margins_periodic.specs.Laws.{IsAsked}
use Rattle.bus_command.specs.Outside.{Call}
use Rattle.bus_tool.specs.Acts.{Acts}
use Rattle.bus_tool.specs.Answering.{Answers, IsTextOf}
use Rattle.bus_tool.specs.Asking.{IsMarginsOf}
use Rattle.bus_tool.specs.Forms.{OnTable, Margins, bounds_of, form_of, margins_by}
use Rattle.bus_tool.proofs.FormLemmas.{front_two, with_options}
use Rattle.bus_tool.specs.MarginsClaims.{TellsMargins, TellsTurns, has_margins, margins_reply}
use Rattle.bus_tool.specs.MarginsTexts.{margins_answer}
use Rattle.bus_tool.specs.Refusals.{Outcome, status_of}
use Rattle.bus_tool.specs.Replies.{Is, yes_or_no}
use Rattle.bus_tool.proofs.BorneLemmas.{TurnsLaws, told_bears, tells_turns}
use Rattle.bus_tool.proofs.GroupClaims.{ReadLaws, table_answers}
use Rattle.bus_tool.proofs.ReplyLemmas.{is_text, margins_same, margins_stands, margins_status, with_status}

-- the laws by which it holds
pub record MarginsLaws : Type 0 where
  pub any : AnySettles
  pub common : LevelKeepsOrder
  pub apart : ApartIsARound
  pub turns : TurnsLaws

-- ---- the words
margins_form : (bounds : Bounds) (table : Table) (call : Call) → IsMarginsOf bounds table call → form_of call.words ≡ Some (OnTable (Margins bounds))
margins_form bounds table call h =
    with_options (codes "margins") h.path h.behind call.words (record { plain = 2; options = h.options }) h.form h.given.line
    ∙ front_two (codes "margins") h.path h.behind h.options
    ∙ ap (λ b. cond b (margins_by (bounds_of h.options)) None) h.given.taken ∙ ap margins_by h.asked

-- ---- the claim
-- what is told of an aperiodic table
pub tells_margins : MarginsLaws → (bounds : Bounds) (table : Table) → AreBounds bounds → IsAperiodic table → TellsMargins bounds table
tells_margins laws bounds table within asked = record {
  any = λ level c up course left alone. laws.any bounds table c up asked level course left alone;
  common = λ level c course cold powered even. laws.common bounds table c asked level course cold powered even;
  apart = laws.apart bounds table;
  borne = told_bears bounds table within;
}

pub margins_claim : ReadLaws → MarginsLaws → (call : Call) (outcome : Outcome) (bounds : Bounds) (table : Table) → Acts call outcome
    → IsMarginsOf bounds table call
    → Answers call (status_of outcome) (yes_or_no (has_margins (verdict_of table) bounds table)) (Is (margins_reply (verdict_of table) bounds table))
    × (table.mode ≡ Aperiodic → TellsMargins bounds table) × (table.mode ≡ Periodic → TellsTurns bounds table)
margins_claim texts laws call outcome bounds table acts h =
    let reply = margins_reply (verdict_of table) bounds table in (
      with_status call (status_of outcome) _ _ (Is reply) (margins_status (verdict_of table) bounds table)
          (table_answers texts (Margins bounds) call outcome table (IsTextOf (Is reply)) (margins_form bounds table call h) tt
          (λ text is. is_text reply (margins_answer (verdict_of table) bounds table) text (margins_stands (verdict_of table) bounds table)
          (margins_same (verdict_of table) bounds table) is) acts h.table_told h.undisturbed),
      (λ mode. tells_margins laws bounds table h.within (record { valid = h.table_told.valid; mode = mode })),
      (λ mode.
          let asked : IsAsked bounds table = record { range = h.within; valid = h.table_told.valid; mode = mode } in
          tells_turns laws.turns bounds table asked),
    )
