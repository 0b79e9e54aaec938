-- A table that is made of its parts.
use Rattle.std.proofs.Common.{◌≡◌, Bool, true, false, cond, ◌&&◌, Option, Some, None, Result, refl, ap, ◌∙◌}
use Rattle.std.specs.Prelude.{is_none}
use Rattle.std.specs.Result.{result_ok}
use Rattle.bus_table.specs.declared.error.WholeReason.{WholeReason}
use Rattle.bus_table.specs.declared.error.TableError.{TableError}
use Rattle.bus_table.specs.Reading.{unless_whole, judged}
use Rattle.bus_table.specs.Tables.{Table}
use Rattle.bus_table.specs.Whole.{whole_refusal}

kept : (table : Table) (reason : Option WholeReason) → result_ok (unless_whole reason table) ≡ cond (is_none reason) (Some table) None
kept table None = refl
kept table (Some reason) = refl

all_hold : (a b c d : Bool) → a ≡ true → b ≡ true → c ≡ true → d ≡ (a && (b && (c && d)))
all_hold true true true d h k l = refl
all_hold false b c d h k l = absurd cc
all_hold true false c d h k l = absurd cc
all_hold true true false d h k l = absurd cc

-- what is judged good is made
pub made : (table : Table) (a b c : Bool) (answer : Result Table TableError) (result : Option Table) → a ≡ true → b ≡ true → c ≡ true → answer ≡ judged table → result ≡ result_ok answer
    → result ≡ cond (a && (b && (c && is_none (whole_refusal table)))) (Some table) None
made table a b c answer result h k l e f =
    f ∙ ap result_ok e ∙ kept table (whole_refusal table) ∙ ap (λ t. cond t (Some table) None) (all_hold a b c (is_none (whole_refusal table)) h k l)
