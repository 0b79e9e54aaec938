-- What is lacking of the wishes that a made table doesn't meet is lacking of any table.
use Rattle.std.proofs.Common.{arith, ◌≡◌, List, length, Some, None, sym, ap, subst, ◌∙◌}
use Rattle.std.proofs.lemmas.Option.{slice_get_within}
use Rattle.bus_bounds.specs.Bounds.{Bounds}
use Rattle.bus_table.specs.Tables.{Table}
use Rattle.bus_table.specs.Turns.{turn_order}
use Rattle.bus_design.specs.Bests.{IsMade}
use Rattle.bus_design.specs.Others.{gaps_of}
use Rattle.bus_design.proofs.Ages.{made_has_least_ages}
use Rattle.bus_design.proofs.Orders.{gaps_many}
use Rattle.bus_made.specs.declared.wish.Wish.{Wish}
use Rattle.bus_made.specs.declared.wish.Lack.{Lack}
use Rattle.bus_made.specs.Answers.{IsLate}
use Rattle.bus_made.specs.Wishes.{AreMet, IsLacking, lacking}
use Rattle.bus_made.proofs.Lacking.{Says, lacking_says}

pub is_late : (bounds : Bounds) (table made : Table) (wishes : List Wish) (lack : Lack) → IsMade bounds table made
    → Some lack ≡ lacking bounds made wishes → IsLate bounds table wishes lack
is_late bounds table made wishes lack is e =
    let says : IsLacking bounds made wishes lack = subst (Says bounds made wishes) (sym e) (lacking_says bounds made wishes) in
    let within = slice_get_within (turn_order made) says.place says.sender says.at in
    let order : length (turn_order made) ≡ length (turn_order table) =
    ap length is.another.order ∙ gaps_many (turn_order table) (gaps_of made) is.another.count in
    let least = says.least in
    record {
      made = made;
      is = is;
      lacking = says;
      least = λ other gaps another any.
          (let l = made_has_least_ages bounds table made other gaps says.place is another any (omega (arith, within, order)) in omega (arith, l, least));
    }

pub are_met : (bounds : Bounds) (made : Table) (wishes : List Wish) → None ≡ lacking bounds made wishes → AreMet bounds made wishes
are_met bounds made wishes e = subst (Says bounds made wishes) (sym e) (lacking_says bounds made wishes)
