-- The text of what is made, or of why nothing is.
use Rattle.std.specs.Prelude.{ℕ, List, [], ◌∷◌, ◌++◌, codes, decimal, Option, Some, None}
use Rattle.bus_table.specs.Canonical.{table_text}
use Rattle.bus_best.specs.declared.blame.Rule.{Rule}
use Rattle.bus_best.specs.declared.blame.Rule.TheVariants.{Joining, Drop, Opening}
use Rattle.bus_best.specs.declared.blame.Needed.{Needed}
use Rattle.bus_best.specs.declared.blame.Blame.{Blame}
use Rattle.bus_best.specs.declared.blame.Blame.TheVariants.{Lasts, Whole, Gap, Waiting, Interval}
use Rattle.bus_made.specs.declared.answer.Answer.{Answer}
use Rattle.bus_made.specs.declared.wish.Lack.{Lack}
use Rattle.bus_made.specs.declared.answer.Answer.TheVariants.{Made, Infeasible, Late}

-- A rule, a terminal, what is needed and the most there is.
abbrev pub blame_line : List ℕ → ℕ → ℕ → ℕ → List ℕ
blame_line rule terminal needed limit =
    codes "INFEASIBLE " ++ rule ++ 32 ∷ [] ++ decimal terminal ++ 32 ∷ [] ++ decimal needed ++ 32 ∷ [] ++ decimal limit ++ 10 ∷ []

-- A rule of no terminal by itself.
abbrev pub whole_line : List ℕ → ℕ → ℕ → List ℕ
whole_line rule needed limit = codes "INFEASIBLE " ++ rule ++ codes " - " ++ decimal needed ++ 32 ∷ [] ++ decimal limit ++ 10 ∷ []

abbrev pub interval_line : List ℕ
interval_line = codes "INFEASIBLE interval - - -\n"

abbrev pub rule_word : Rule → List ℕ
rule_word Joining = codes "joining"
rule_word Drop = codes "drop"
rule_word Opening = codes "opening"

abbrev pub waiting_line : ℕ → Option Needed → List ℕ
waiting_line terminal None = whole_line (codes "waiting") 1025 1024
waiting_line terminal (Some needed) = blame_line (codes "waiting") terminal needed.bits 256

abbrev pub blame_text : ℕ → Blame → List ℕ
blame_text terminal (Lasts place needed have) = blame_line (codes "lasts") terminal needed have
blame_text terminal (Whole needed) = whole_line (codes "whole") needed 1024
blame_text terminal (Gap needed) = blame_line (rule_word needed.rule) terminal needed.bits 256
blame_text terminal (Waiting needed) = waiting_line terminal needed
blame_text terminal Interval = interval_line

abbrev pub age_line : Lack → List ℕ
age_line lack =
    codes "INFEASIBLE age " ++ decimal lack.terminal ++ 32 ∷ [] ++ decimal lack.least ++ 32 ∷ [] ++ decimal lack.wished ++ 10 ∷ []

-- The canonical text of the made table, or the line of what is to blame, or of the wish that is lacking: the least age and the wish.
abbrev pub answer_text : Answer → List ℕ
answer_text (Made made) = table_text made
answer_text (Infeasible terminal blame) = blame_text terminal blame
answer_text (Late lack) = age_line lack
