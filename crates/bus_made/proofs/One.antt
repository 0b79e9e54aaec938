-- There is one made table, and it is the computed one.
use Rattle.std.specs.Prelude.{IfSome, IsNone, IsTrue}
use Rattle.std.specs.Option.{option_map}
use Rattle.std.proofs.Common.{arith, ◌≡◌, ℕ, ◌≤◌, Bool, true, false, cond, List, [], ◌∷◌, Some, None, Option}
use Rattle.std.proofs.Common.{refl, sym, ◌∙◌, ap, subst}
use Rattle.bus_bounds.specs.Bounds.{Bounds, most_clocks}
use Rattle.bus_table.specs.declared.mode.Mode.TheVariants.{Aperiodic}
use Rattle.bus_table.specs.Tables.{Table}
use Rattle.bus_table.specs.Turns.{turn_order}
use Rattle.bus_table.specs.Valid.{is_valid}
use Rattle.bus_margins.specs.Rooms.{lasts, most_apart}
use Rattle.bus_gaps.specs.Designs.{AreAtMost, AreRoomy}
use Rattle.bus_best.specs.Bests.{AreBest, Best, IsAnswer, best_of}
use Rattle.bus_best.proofs.Best.{best_is_best}
use Rattle.bus_design.specs.Bests.{AreNoneFor, IsMade}
use Rattle.bus_design.specs.Others.{gaps_of, IsAnother, made_table, speakers_of}
use Rattle.bus_design.proofs.Designs.{lasts_too, none_best, unlasting_none}
use Rattle.bus_design.proofs.Levels.{any_is_roomy, cycle_is_most, roomy_is_any}
use Rattle.bus_design.proofs.Made.{gaps_made, made_is_valid, roomy_many}
use Rattle.bus_design.proofs.Plans.{sorted}
use Rattle.bus_made.specs.Designs.{design_of, table_with}

-- ---- the computed one is made
is_made : (bounds : Bounds) (table : Table) (best : Best) → bounds.clocks ≤ most_clocks → IsTrue (is_valid table) → table.mode ≡ Aperiodic
    → lasts bounds table ≡ true → AreBest bounds (speakers_of table) best → IsMade bounds table (table_with table best)
is_made bounds table best within valid mode lasting are =
    let made : Table = table_with table best in
    let count = roomy_many bounds table best.sg best.gaps are.roomy in
    let own : gaps_of made ≡ best.gaps = gaps_made (turn_order table) best.gaps count in
    let another : IsAnother table made best.gaps = record {
      valid = made_is_valid bounds table best.sg best.gaps within valid mode are.roomy;
      mode = refl;
      count = count;
      order = sorted bounds best.sg _ (turn_order table) best.gaps _ within are.roomy.taken;
    } in
    let cycle : most_apart bounds made ≡ best.cycle = cycle_is_most bounds table made best.gaps another ∙ sym are.cycle in
    record {
      parts = ap (made_table table best.sg) (sym own);
      another = subst (IsAnother table made) (sym own) another;
      any = roomy_is_any bounds table made best.gaps another refl (lasts_too bounds table made best.gaps another lasting) are.roomy;
      best = λ other gaps is any. (let l = are.best other.sg gaps (any_is_roomy bounds table other gaps within is any) in
          let e = cycle_is_most bounds table other gaps is in
          omega (arith, l, cycle, e));
      last = λ other gaps is any same. are.last other.sg gaps (any_is_roomy bounds table other gaps within is any)
          (sym (cycle_is_most bounds table other gaps is) ∙ same ∙ cycle);
      least = λ other gaps is any sg. subst (λ l. AreAtMost l gaps) (sym own)
          (are.least gaps (subst (λ n. AreRoomy bounds (speakers_of table) n gaps) sg (any_is_roomy bounds table other gaps within is any)));
    }

abbrev pub IsDesign : Bounds → Table → Option Table → Type 0
IsDesign bounds table None = AreNoneFor bounds table
IsDesign bounds table (Some made) = IsMade bounds table made

pub designed : (bounds : Bounds) (table : Table) → bounds.clocks ≤ most_clocks → IsTrue (is_valid table) → table.mode ≡ Aperiodic
    → IsDesign bounds table (design_of bounds table)
designed bounds table within valid mode = by (lasts bounds table) refl where
  from : (o : Option Best) → lasts bounds table ≡ true → IsAnswer bounds (speakers_of table) o → IsDesign bounds table (option_map (table_with table) o)
  from None lasting none = none_best bounds table within none
  from (Some best) lasting are = is_made bounds table best within valid mode lasting are

  by : (b : Bool) → lasts bounds table ≡ b → IsDesign bounds table (cond b (option_map (table_with table) (best_of bounds (speakers_of table))) None)
  by true e = from (best_of bounds (speakers_of table)) e (best_is_best bounds (speakers_of table) within)
  by false e = unlasting_none bounds table e

-- ---- there is one
same_gaps : (xs ys : List ℕ) → AreAtMost xs ys → AreAtMost ys xs → xs ≡ ys
same_gaps [] [] l m = refl
same_gaps [] (y ∷ ys) l m = absurd l
same_gaps (x ∷ xs) [] l m = absurd l
same_gaps (x ∷ xs) (y ∷ ys) l m =
    let a = l.0 in let b = m.0 in
    let e : x ≡ y = omega (arith, a, b) in
    ap (λ z. z ∷ xs) e ∙ ap (λ zs. y ∷ zs) (same_gaps xs ys l.1 m.1)

one_made : (bounds : Bounds) (table a b : Table) → IsMade bounds table a → IsMade bounds table b → a ≡ b
one_made bounds table a b m n =
    let l = m.best b (gaps_of b) n.another n.any in
    let k = n.best a (gaps_of a) m.another m.any in
    let same : most_apart bounds b ≡ most_apart bounds a = omega (arith, l, k) in
    let x = m.last b (gaps_of b) n.another n.any same in
    let y = n.last a (gaps_of a) m.another m.any (sym same) in
    let sg : a.sg ≡ b.sg = omega (arith, x, y) in
    let gaps = same_gaps (gaps_of a) (gaps_of b) (m.least b (gaps_of b) n.another n.any (sym sg)) (n.least a (gaps_of a) m.another m.any sg) in
    m.parts ∙ ap (λ s. made_table table s (gaps_of a)) sg ∙ ap (made_table table b.sg) gaps ∙ sym n.parts

pub one_design : (bounds : Bounds) (table : Table) (o p : Option Table) → IsDesign bounds table o → IsDesign bounds table p → o ≡ p
one_design bounds table None None a b = refl
one_design bounds table None (Some made) none is = absurd (none made (gaps_of made) is.another is.any)
one_design bounds table (Some made) None is none = absurd (none made (gaps_of made) is.another is.any)
one_design bounds table (Some a) (Some b) m n = ap (λ t. Some t) (one_made bounds table a b m n)

-- what the maker gives is that
pub maker_gives : (bounds : Bounds) (table : Table) (o : Option Table) → IfSome o (IsMade bounds table) → (IsNone o → AreNoneFor bounds table)
    → IsDesign bounds table o
maker_gives bounds table None made none = none refl
maker_gives bounds table (Some t) made none = made
