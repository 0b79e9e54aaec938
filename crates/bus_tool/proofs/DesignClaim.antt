-- What is claimed of the design of a table.
use Rattle.std.specs.Prelude.{◌≡◌, ℕ, List, [], Option, Some, None, IsTrue, codes, false}
use Rattle.std.proofs.Common.{ap, ◌∙◌, cond}
use Rattle.bus_bounds.specs.Bounds.{Bounds}
use Rattle.bus_table.specs.Canonical.{table_text}
use Rattle.bus_table.specs.Tables.{Table}
use Rattle.bus_table.specs.Text.{IsTableText}
use Rattle.bus_table.specs.Valid.{is_valid}
use Rattle.bus_table.specs.declared.mode.Mode.TheVariants.{Aperiodic}
use Rattle.bus_made.specs.declared.answer.Answer.{Answer}
use Rattle.bus_made.specs.declared.answer.Answer.TheVariants.{Made, Infeasible, Late}
use Rattle.bus_made.specs.declared.order.Order.{Order}
use Rattle.bus_made.specs.Answers.{answer_of as design_answer, AnswersAreMeant, Means}
use Rattle.bus_made.specs.Orders.{ordered, FreeIsFreest, IsFreest}
use Rattle.bus_made.specs.Texts.{answer_text}
use Rattle.bus_command.specs.Outside.{Call}
use Rattle.bus_tool.specs.Acts.{Acts}
use Rattle.bus_tool.specs.Answering.{Answers, IsTextOf}
use Rattle.bus_tool.specs.Asking.{IsDesignOf}
use Rattle.bus_tool.specs.DesignClaims.{StandsWhereMade, design_reply, is_made}
use Rattle.bus_tool.specs.Forms.{Form, OnTable, Design, form_of, design_by, designed, order_by, bounds_of}
use Rattle.bus_tool.specs.Refusals.{Outcome, status_of}
use Rattle.bus_tool.specs.Replies.{Is, yes_or_no}
use Rattle.bus_tool.proofs.FormLemmas.{front_two, with_options}
use Rattle.bus_tool.proofs.GroupClaims.{ReadLaws, table_answers}
use Rattle.bus_tool.proofs.ReplyLemmas.{design_same, design_stands as reply_stands, design_status, is_text, with_status}

-- the laws by which it holds
pub record DesignLaws : Type 0 where
  pub text_stands : (table : Table) → IsTrue (is_valid table) → IsTableText table (table_text table)
  pub meant : AnswersAreMeant
  pub freest : FreeIsFreest

-- ---- the words
design_form : (bounds : Bounds) (order : Order) (table : Table) (call : Call) → IsDesignOf bounds order table call
    → form_of call.words ≡ Some (OnTable (Design bounds order))
design_form bounds order table call h =
    with_options (codes "design") h.path h.behind call.words (record { plain = 2; options = h.options }) h.form h.given.line
    ∙ front_two (codes "design") h.path h.behind h.options
    ∙ ap (λ b. cond b (design_by h.options) None) h.given.taken
    ∙ ap (λ b. cond b None (designed (order_by h.options) (bounds_of h.options))) h.ageless
    ∙ ap (λ o. designed o (bounds_of h.options)) h.order_is ∙ ap (designed order) h.asked

-- ---- the claim
stands : DesignLaws → (bounds : Bounds) (table : Table) (answer : Answer) → Means bounds [] table answer → StandsWhereMade answer
stands laws bounds table (Made made) m = laws.text_stands made m.0.another.valid
stands laws bounds table (Infeasible terminal blame) m = tt
stands laws bounds table (Late lack) m = tt

pub design_stands : DesignLaws → (call : Call) (bounds : Bounds) (order : Order) (table : Table) → IsDesignOf bounds order table call
    → table.mode ≡ Aperiodic → StandsWhereMade (design_answer bounds order [] table)
design_stands laws call bounds order table h mode =
    stands laws bounds (ordered order table) (design_answer bounds order [] table)
    (laws.meant bounds order [] table h.within.clocks h.table_told.valid mode)

pub design_claim : ReadLaws → DesignLaws → (call : Call) (outcome : Outcome) (bounds : Bounds) (order : Order) (table : Table) → Acts call outcome
    → IsDesignOf bounds order table call → table.mode ≡ Aperiodic
    → Answers call (status_of outcome) (yes_or_no (is_made (design_answer bounds order [] table))) (Is (design_reply (design_answer bounds order [] table)))
    × Means bounds [] (ordered order table) (design_answer bounds order [] table) × IsFreest bounds table
design_claim texts laws call outcome bounds order table acts h mode =
    let answer = design_answer bounds order [] table in (
      with_status call (status_of outcome) _ _ (Is (design_reply answer)) (design_status answer)
          (table_answers texts (Design bounds order) call outcome table (IsTextOf (Is (design_reply answer))) (design_form bounds order table call h) mode
          (λ text is. is_text (design_reply answer) (answer_text answer) text (reply_stands answer (design_stands laws call bounds order table h mode)) (design_same answer) is)
          acts h.table_told h.undisturbed),
      laws.meant bounds order [] table h.within.clocks h.table_told.valid mode,
      laws.freest bounds table h.within.clocks h.table_told.valid mode,
    )
