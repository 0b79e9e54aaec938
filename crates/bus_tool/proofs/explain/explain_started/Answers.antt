use Rattle.std.proofs.Common.{◌≡◌, ℕ, List, ◌++◌, Option, refl, ap, ◌∙◌}
use Rattle.bus_table.specs.Tables.{Table}
use Rattle.bus_advice.specs.declared.advice.Advice.{Advice}
use Rattle.bus_cable_plan.specs.Answers.{most_borne_of}
use Rattle.bus_command.specs.declared.outcome.Outcome.TheVariants.{Done}
use Rattle.bus_command.specs.Readers.{entire, one_source}
use Rattle.bus_command.proofs.DoLaws.{answered}
use Rattle.bus_explain.specs.Accepted.{accepted_text}
use Rattle.bus_regime.specs.Verdicts.{is_accepted}
use Rattle.bus_explain.specs.Beyond.{beyond_text}
use Rattle.bus_tool.specs.Explanations.{accepted_as}
use Rattle.bus_tool.specs.Tolerances.{tolerance_of}
use Rattle.bus_tool.proofs.explain.explain_started.Goals as goal

-- what is said of these
abbrev told : Table → (least most : ℕ) → Option ℕ → Option ℕ → List Advice → List ℕ
told table least most tolerance offsets advices =
    accepted_text table least most tolerance advices ++ beyond_text offsets table

pub tolerance_of-tolerance-requires : goal.tolerance_of-tolerance-requires
tolerance_of-tolerance-requires g c = ap is_accepted c.requires.accepted.1

pub returns : goal.returns
returns g c =
    answered (one_source entire) Done (λ text. text ≡ accepted_as c.args.table.now c.args.least c.args.most) g.K.Sink
    c.args.out.now c.write_told.new.out
    (told c.args.table.now c.args.least c.args.most c.tolerance_of-tolerance.result c.args.offsets c.args.advices.now) c.write_told.result
    c.after_writing.result refl
    (ap (λ o. told c.args.table.now c.args.least c.args.most o c.args.offsets c.args.advices.now) c.tolerance_of-tolerance.ensures
    ∙ ap (λ o. told c.args.table.now c.args.least c.args.most (tolerance_of c.args.table.now) o c.args.advices.now) c.requires.borne
    ∙ ap (told c.args.table.now c.args.least c.args.most (tolerance_of c.args.table.now) (most_borne_of c.args.table.now)) c.requires.all)
    c.write_told.ensures c.after_writing.ensures
