-- Turns that grow by one, with those to come.
use Rattle.std.specs.Prelude.{◌≡◌, ℕ, ◌+◌, ◌≤◌, List, [], ◌∷◌, ◌++◌, length, slice_get, Some}
use Rattle.std.proofs.Common.{arith, ap, sym, ◌∙◌, drop, append_assoc, append-nil}
use Rattle.std.proofs.lemmas.List.{drop_all}
use Rattle.bus_strings.proofs.ListLaws.{drop_at}
use Rattle.bus_table.specs.Lengths.{longest, shortest}
use Rattle.bus_table.specs.Tables.{Sender}
use Rattle.bus_page.specs.Turns.{Turn, turn_of, turns_from}

-- one turn more
pub turn_step : (order : List Sender) (k : ℕ) (sender : Sender) (short long : ℕ) (old new whole : List Turn) → slice_get order k ≡ Some sender
    → new ≡ old ++ turn_of short long sender ∷ [] → old ++ turns_from short long (drop k order) ≡ whole
    → new ++ turns_from (short + sender.tg + shortest sender) (long + sender.tg + longest sender) (drop (k + 1) order) ≡ whole
turn_step order k sender short long old new whole at added h =
    let rest = turns_from (short + sender.tg + shortest sender) (long + sender.tg + longest sender) (drop (k + 1) order) in
    ap (λ ts. ts ++ rest) added ∙ append_assoc old (turn_of short long sender ∷ []) rest
    ∙ ap (λ ss. old ++ turns_from short long ss) (sym (drop_at order k sender at)) ∙ h

-- all turns
pub turn_end : (order : List Sender) (k short long : ℕ) (turns whole : List Turn) → length order ≤ k
    → turns ++ turns_from short long (drop k order) ≡ whole → turns ≡ whole
turn_end order k short long turns whole past h =
    sym (append-nil turns) ∙ ap (λ ss. turns ++ turns_from short long ss) (sym (drop_all k order past)) ∙ h
