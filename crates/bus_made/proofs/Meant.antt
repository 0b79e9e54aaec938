-- What is computed means what is said of it.
use Rattle.std.specs.Prelude.{IsTrue}
use Rattle.std.proofs.Common.{◌≡◌, ◌≤◌, List, Some, None, Option, refl}
use Rattle.bus_bounds.specs.Bounds.{Bounds, most_clocks}
use Rattle.bus_table.specs.declared.mode.Mode.TheVariants.{Aperiodic}
use Rattle.bus_table.specs.Tables.{Table}
use Rattle.bus_table.specs.Valid.{is_valid}
use Rattle.bus_best.proofs.Meaning.{blame_means}
use Rattle.bus_design.specs.Bests.{IsMade}
use Rattle.bus_design.specs.Others.{speakers_of}
use Rattle.bus_made.specs.declared.order.Order.TheVariants.{Kept, Free}
use Rattle.bus_made.specs.declared.wish.Lack.{Lack}
use Rattle.bus_made.specs.declared.wish.Wish.{Wish}
use Rattle.bus_made.specs.Answers.{AnswersAreMeant, Means, answer_in, late_or, made_or}
use Rattle.bus_made.specs.Designs.{design_of}
use Rattle.bus_made.specs.Orders.{freed}
use Rattle.bus_made.specs.Wishes.{lacking}
use Rattle.bus_made.proofs.Freed.{freed_valid}
use Rattle.bus_made.proofs.Late.{are_met, is_late}
use Rattle.bus_made.proofs.One.{IsDesign, designed}

made_means : (bounds : Bounds) (table made : Table) (wishes : List Wish) → IsMade bounds table made → (o : Option Lack)
    → o ≡ lacking bounds made wishes → Means bounds wishes table (late_or o made)
made_means bounds table made wishes is None e = (is, are_met bounds made wishes e)
made_means bounds table made wishes is (Some lack) e = is_late bounds table made wishes lack is e

design_means : (bounds : Bounds) (wishes : List Wish) (table : Table) → bounds.clocks ≤ most_clocks → (o : Option Table) → IsDesign bounds table o
    → Means bounds wishes table (made_or o bounds wishes table)
design_means bounds wishes table within None none = (none, blame_means bounds (speakers_of table) within)
design_means bounds wishes table within (Some made) is = made_means bounds table made wishes is (lacking bounds made wishes) refl

answer_means : (bounds : Bounds) (wishes : List Wish) (table : Table) → bounds.clocks ≤ most_clocks → IsTrue (is_valid table)
    → table.mode ≡ Aperiodic → Means bounds wishes table (answer_in bounds wishes table)
answer_means bounds wishes table within valid mode =
    design_means bounds wishes table within (design_of bounds table) (designed bounds table within valid mode)

pub answers_are_meant : AnswersAreMeant
answers_are_meant bounds Kept wishes table within valid mode = answer_means bounds wishes table within valid mode
answers_are_meant bounds Free wishes table within valid mode =
    answer_means bounds wishes (freed table) within (freed_valid table valid mode) refl
