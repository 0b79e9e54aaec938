-- The words of what an audit finds, and its line.
use Rattle.std.specs.Prelude.{ℕ, List, [], ◌∷◌, ◌++◌, codes}
use Rattle.std.specs.Fmt.{decimal}
use Rattle.bus_audit.specs.declared.answer.AuditAnswer.{AuditAnswer}
use Rattle.bus_audit.specs.declared.answer.AuditAnswer.TheVariants.{Lawful, Breach}
use Rattle.bus_audit.specs.declared.answer.BreachKind.{BreachKind}
use Rattle.bus_audit.specs.declared.answer.BreachKind.TheVariants.{Stranger, Unheld, Early, Misfit, Missing}

-- The word of a kind of breach.
abbrev pub kind_name : BreachKind → List ℕ
kind_name Stranger = codes "Stranger"
kind_name Unheld = codes "Unheld"
kind_name Early = codes "Early"
kind_name Misfit = codes "Misfit"
kind_name Missing = codes "Missing"

-- `LAWFUL`, and how many transmissions are garbled; or `BREACH`, its moment and terminal, and what is wrong there.
abbrev pub answer_words : AuditAnswer → List ℕ
answer_words (Lawful collided) = codes "LAWFUL " ++ decimal collided
answer_words (Breach moment terminal kind) =
    codes "BREACH " ++ decimal moment ++ 32 ∷ [] ++ decimal terminal ++ 32 ∷ [] ++ kind_name kind

-- The line of an answer.
abbrev pub answer_line : AuditAnswer → List ℕ
answer_line answer = answer_words answer ++ 10 ∷ []
