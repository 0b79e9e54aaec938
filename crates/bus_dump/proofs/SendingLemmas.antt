-- Which terminals send in a list, entry by entry.
use Rattle.std.proofs.Common.{◌≡◌, ℕ, ◌+◌, ◌<◌, ◌≤◌, Bool, true, false, ◌||◌, eqb, List, length, take, get_or, set, Some, inl, inr, arith, sym, refl, ap, ◌∙◌}
use Rattle.std.specs.Prelude.{slice_get}
use Rattle.std.specs.List.{list_any}
use Rattle.std.proofs.lemmas.Bool.{cases_eq, eq-eqb, ne_eqb, or_right}
use Rattle.std.proofs.lemmas.List.{get_or-set_same, get_or-set_other}
use Rattle.std.proofs.lemmas.List.Folds.{list_any_more}
use Rattle.std.proofs.lemmas.Option.{slice_get_within, get_or_from_slice_get}
use Rattle.bus_strings.specs.Messages.{Entry}
use Rattle.bus_strings.proofs.TestLaws.{or_false}

abbrev pub is_sent : ℕ → Entry → Bool
is_sent n x = eqb x.terminal n

-- for each terminal is kept whether it sends in the first k entries
abbrev pub KeepsSending : List Entry → List Bool → ℕ → Type 0
KeepsSending list sending k = (n : ℕ) → n ≤ 128 → get_or sending n false ≡ list_any (is_sent n) (take k list)

pub sending_more : (list : List Entry) (sending : List Bool) (k terminal : ℕ) (x : Entry) → KeepsSending list sending k → length sending ≡ 129
    → terminal ≤ 128 → slice_get list k ≡ Some x → x.terminal ≡ terminal → KeepsSending list (set sending terminal true) (k + 1)
sending_more list sending k terminal x keeps long low at own n h =
    let within : k < length list = slice_get_within list k x at in
    let more : list_any (is_sent n) (take (k + 1) list) ≡ (list_any (is_sent n) (take k list) || is_sent n x) =
    list_any_more (is_sent n) list k x within ∙ ap (λ y. list_any (is_sent n) (take k list) || is_sent n y) (get_or_from_slice_get list k x x at) in
    elim (cases_eq n terminal) [
      | inl same ↦
          ap (λ j. get_or (set sending terminal true) j false) same
          ∙ get_or-set_same sending terminal true false (omega arith)
          ∙ sym (or_right (list_any (is_sent n) (take k list)) true refl)
          ∙ ap (λ b. list_any (is_sent n) (take k list) || b) (sym (eq-eqb x.terminal n (own ∙ sym same)))
          ∙ sym more
      | inr other ↦
          get_or-set_other sending terminal n true false other
          ∙ keeps n h
          ∙ sym (or_false (list_any (is_sent n) (take k list)))
          ∙ ap (λ b. list_any (is_sent n) (take k list) || b) (sym (ne_eqb x.terminal n (λ e. other (sym e ∙ own))))
          ∙ sym more
    ]
