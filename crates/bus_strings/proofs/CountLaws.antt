-- How many transmissions of a list are of each terminal, with one entry more.
use Rattle.std.proofs.Common.{◌≡◌, ℕ, ◌+◌, ◌<◌, ◌≤◌, Bool, true, false, List, length, take, get_or, set, Some, inl, inr, arith, sym, ap, ◌∙◌}
use Rattle.std.specs.Prelude.{◌==◌, slice_get}
use Rattle.std.specs.List.{count_by}
use Rattle.std.proofs.lemmas.Bool.{cases_eq, eq-eqb, ne_eqb}
use Rattle.std.proofs.lemmas.List.{get_or-set_same, get_or-set_other}
use Rattle.std.proofs.lemmas.List.Sums.{count_by_more_no, count_by_more_yes}
use Rattle.std.proofs.lemmas.Option.{slice_get_within, get_or_from_slice_get}
use Rattle.bus_strings.specs.Limits.{most_terminal}
use Rattle.bus_strings.specs.Messages.{Entry}

abbrev pub is_sent_by : ℕ → Entry → Bool
is_sent_by terminal x = x.terminal == terminal

-- How many of each terminal there are, with one entry more.
pub counted : (list : List Entry) (counts : List ℕ) (i terminal : ℕ) (x : Entry) → length counts ≡ most_terminal + 1 → terminal ≤ most_terminal → slice_get list i ≡ Some x → x.terminal ≡ terminal
    → ((n : ℕ) → n ≤ most_terminal → get_or counts n 0 ≡ count_by (is_sent_by n) (take i list))
    → (n : ℕ) → n ≤ most_terminal → get_or (set counts terminal (get_or counts terminal 0 + 1)) n 0 ≡ count_by (is_sent_by n) (take (i + 1) list)
counted list counts i terminal x long low at own old n h =
    let within : i < length list = slice_get_within list i x at in
    let is : get_or list i x ≡ x = get_or_from_slice_get list i x x at in
    elim (cases_eq n terminal) [
      | inl same ↦
          let fits : terminal < length counts = omega arith in
          let yes : is_sent_by n (get_or list i x) ≡ true = ap (is_sent_by n) is ∙ eq-eqb x.terminal n (own ∙ sym same) in
          ap (λ k. get_or (set counts terminal (get_or counts terminal 0 + 1)) k 0) same
          ∙ get_or-set_same counts terminal (get_or counts terminal 0 + 1) 0 fits
          ∙ ap (λ k. get_or counts k 0 + 1) (sym same)
          ∙ ap (λ k. k + 1) (old n h)
          ∙ sym (count_by_more_yes (is_sent_by n) list i x within yes)
      | inr other ↦
          let no : is_sent_by n (get_or list i x) ≡ false = ap (is_sent_by n) is ∙ ne_eqb x.terminal n (λ e. other (sym e ∙ own)) in
          get_or-set_other counts terminal n (get_or counts terminal 0 + 1) 0 other ∙ old n h ∙ sym (count_by_more_no (is_sent_by n) list i x within no)
    ]
