-- Pairs that are seen on SEND lines.
use Rattle.std.proofs.Common.{◌≡◌, ◌≢◌, ℕ, ◌<◌, Bool, true, false, ◌||◌, ◌==◌, List, [], ◌∷◌, ◌++◌, length, get_or, set, inl, inr, refl, sym, ap, ◌∙◌, arith}
use Rattle.std.proofs.lemmas.Bool.{cases_eq, and_parts, eqb-true}
use Rattle.std.proofs.lemmas.List.{get_or-set_same, get_or-set_other}
use Rattle.std.proofs.lemmas.List.Folds.{list_any-append}
use Rattle.std.specs.List.{list_any}
use Rattle.bus_table.specs.Tables.{SendLine}
use Rattle.bus_table.specs.Whole.{same_pair}
use Rattle.bus_table.specs.inside.Seen.{AreSeen, pair_place}

-- lines of other places have other pairs
other_pair : (x line : SendLine) → pair_place line ≢ pair_place x → same_pair x line ≡ false
other_pair x line h = by (same_pair x line) refl where
  by : (t : Bool) → same_pair x line ≡ t → same_pair x line ≡ false
  by true e =
      let p = and_parts (x.label == line.label) (x.ext == line.ext) e in
      absurd (h (omega (arith, eqb-true x.label line.label p.0, eqb-true x.ext line.ext p.1)))
  by false e = e

-- a line more is seen
pub seen_more : (seen : List Bool) (lines : List SendLine) (x : SendLine) (place : ℕ) → place ≡ pair_place x → place < length seen → AreSeen seen lines → AreSeen (set seen place true) (lines ++ x ∷ [])
seen_more seen lines x place e less h line unseen =
    elim (cases_eq (pair_place line) place) [
      | inl same ↦
          let here : get_or (set seen place true) (pair_place line) false ≡ true = ap (λ n. get_or (set seen place true) n false) same ∙ get_or-set_same seen place true false less in
          let wrong : true ≡ false = sym here ∙ unseen in
          absurd cc
      | inr apart ↦
          let before : list_any (λ other. same_pair other line) lines ≡ false = h line (sym (get_or-set_other seen place (pair_place line) true false apart) ∙ unseen) in
          let now : same_pair x line ≡ false = other_pair x line (λ k. apart (k ∙ sym e)) in
          list_any-append (λ other. same_pair other line) lines (x ∷ []) ∙ ap (λ b. b || (same_pair x line || false)) before ∙ ap (λ b. b || false) now
    ]
