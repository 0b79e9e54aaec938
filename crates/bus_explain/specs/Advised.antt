-- What is said of advices: each stands on a line of its own, which begins with what to change.
use Rattle.std.specs.Prelude.{ℕ, Bool, true, false, ◌==◌, List, [], ◌∷◌, ◌++◌, length}
use Rattle.std.specs.List.{flat_map}
use Rattle.bus_say.specs.Sentences.{said}
use Rattle.bus_advice.specs.declared.advice.Advice.{Advice}
use Rattle.bus_advice.specs.declared.advice.Advice.TheVariants.{Interval, Synchronization, Gap, Least, Plan, AsPeriodic, Start}
use Rattle.bus_explain.specs.declared.wordings.TheConstants as the

-- The line of an advice.
abbrev pub advice_line : Advice → List ℕ
advice_line (Interval ti) = said the.INTERVAL.now (ti ∷ [])
advice_line (Synchronization sg) = said the.SYNCHRONIZATION.now (sg ∷ [])
advice_line (Gap terminal tg) = said the.GAP.now (terminal ∷ tg ∷ [])
advice_line (Least terminal line least) = said the.LEAST.now (terminal ∷ line ∷ least ∷ [])
advice_line (Plan ti) = said the.PLAN.now (ti ∷ [])
advice_line (AsPeriodic ti) = said the.PERIODIC.now (ti ∷ [])
advice_line (Start ti) = said the.START.now (ti ∷ [])

-- What stands before advices, of which there may be none.
abbrev pub advices_head : Bool → List ℕ
advices_head true = said the.NO_ADVICES.now []
advices_head false = said the.ADVICES.now []

-- All that is said of advices.
abbrev pub advised_text : List Advice → List ℕ
advised_text advices = advices_head (length advices == 0) ++ flat_map advice_line advices
