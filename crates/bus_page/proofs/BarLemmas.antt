-- What the bars of the rules tell.
use Rattle.std.specs.Prelude.{◌≡◌, ◌↔◌, ℕ, ◌+◌, ◌*◌, ◌<◌, ◌≤◌, ◌==◌, Bool, true, false, nat_le, nat_lt, IsTrue, List, [], ◌∷◌, ◌&&◌, length, Option, Some, None}
use Rattle.std.specs.List.{list_all}
use Rattle.std.specs.Option.{option_map_or}
use Rattle.std.proofs.Common.{arith, cond, inl, inr, refl, sym, ap, ◌∙◌, subst}
use Rattle.std.proofs.lemmas.Bool.{and_parts}
use Rattle.std.proofs.lemmas.Bool.Decides.{nat_tests}
use Rattle.bus_strings.specs.Members.{In}
use Rattle.bus_table.specs.Tables.{Table}
use Rattle.bus_table.specs.Valid.{is_valid}
use Rattle.bus_regime.specs.Verdicts.{is_accepted, verdict_of}
use Rattle.bus_margins.specs.Least as aperiodic_least
use Rattle.bus_margins.specs.declared.room.Room.{Room as AperiodicRoom}
use Rattle.bus_margins_periodic.specs.Least as periodic_least
use Rattle.bus_margins_periodic.specs.declared.room.Room.{Room as PeriodicRoom}
use Rattle.bus_reach.specs.declared.limit.Limit.{Limit}
use Rattle.bus_reach.specs.Bearing.{bears, greatest_to, tolerance_of}
use Rattle.bus_reach.specs.Limits.{LimitsTellBearing, is_borne, limits_of}
use Rattle.bus_reach.specs.PeriodicLaws.{AcceptedBearZero}
use Rattle.bus_reach.proofs.GreatestLemmas.{greatest_takes}
use Rattle.bus_page.specs.Bars.{is_least}
use Rattle.bus_page.specs.Laws.{AreBarsOf, BarsAreTheRules, RoomsAreTheRules}
use Rattle.bus_page.specs.Rooms.{Span, aperiodic_span, is_short, periodic_span}

-- what each bears, one bears
one_bears : (d : ℕ) (limits : List Limit) (limit : Limit) → list_all (is_borne d) limits ≡ true → In limit limits → is_borne d limit ≡ true
one_bears d [] limit h i = absurd i
one_bears d (first ∷ limits) limit h (inl same) =
    subst (λ l. is_borne d l ≡ true) (sym same) (and_parts (is_borne d first) (list_all (is_borne d) limits) h).0
one_bears d (first ∷ limits) limit h (inr i) = one_bears d limits limit (and_parts (is_borne d first) (list_all (is_borne d) limits) h).1 i

-- what is borne alone is the tolerance, where no more is borne
by_borne : (d : ℕ) (bears : Option ℕ) → option_map_or (λ most. nat_le d most) bears true ≡ true
    → (is_least (Some d) bears ≡ true) ↔ (option_map_or (λ most. nat_le (d + 1) most) bears true ≡ false)
by_borne d None h = (λ k. absurd cc, λ k. absurd cc)
by_borne d (Some most) h =
    let told : nat_le d most ≡ true = h in
    let low : d ≤ most = grind (arith, nat_tests, told) in
    (λ k. grind (arith, nat_tests, k), λ k. grind (arith, nat_tests, k, low))

-- the tolerance is borne
alone_or : (alone : Bool) (most d : ℕ) → cond alone None (Some most) ≡ Some d → most ≡ d
alone_or true most d h = absurd cc
alone_or false most d h = cc

tolerance_borne : (table : Table) (d : ℕ) → IsTrue (bears table 0) → tolerance_of table ≡ Some d → bears table d ≡ true
tolerance_borne table d zero is =
    let same = alone_or (length table.senders == 1) (greatest_to (bears table) (2 * table.ti)) d is in
    subst (λ n. bears table n ≡ true) same (greatest_takes (bears table) (2 * table.ti) zero)

pub bars_are_the_rules : LimitsTellBearing → AcceptedBearZero → BarsAreTheRules
bars_are_the_rules tell zero table valid accepted = record {
  together = λ d. tell table d valid accepted;
  out = λ limit d i is.
      let borne = one_bears d (limits_of table) limit (sym (tell table d valid accepted) ∙ tolerance_borne table d (zero table valid accepted) is) i in
      subst (λ (t : Option ℕ). (is_least t limit.bears ≡ true) ↔ (is_borne (d + 1) limit ≡ false)) (sym is) (by_borne d limit.bears borne);
}

-- ---- margins
lacks : (need have : ℕ) → (nat_lt have need ≡ true) ↔ (nat_le need have ≡ false)
lacks need have = (λ k. grind (arith, nat_tests, k), λ k. grind (arith, nat_tests, k))

pub rooms_are_the_rules : RoomsAreTheRules
rooms_are_the_rules = record {
  aperiodic = λ room span is.
      (let same : span ≡ record { need = room.need; have = room.have } = cc in
      subst (λ (s : Span). (is_short s ≡ true) ↔ (aperiodic_least.holds (Some room) ≡ false)) (sym same) (lacks room.need room.have));
  periodic = λ room span is.
      (let same : span ≡ record { need = room.need; have = room.have } = cc in
      subst (λ (s : Span). (is_short s ≡ true) ↔ (periodic_least.holds (Some room) ≡ false)) (sym same) (lacks room.need room.have));
}
