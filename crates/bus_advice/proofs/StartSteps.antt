-- How the greatest number that is enough for each sender goes with the senders looked at.
use Rattle.std.specs.Prelude.{◌≡◌, ℕ, ◌+◌, ◌<◌, ◌≤◌, ◌↔◌, min, Bool, true, ◌&&◌, nat_le, List, length, get_or, take}
use Rattle.std.specs.List.{list_all}
use Rattle.std.proofs.Common.{arith, sym, ap, ◌∙◌, subst}
use Rattle.std.proofs.lemmas.Bool.{and_parts, and_from, le-leb, leb-true}
use Rattle.std.proofs.lemmas.List.{take_all}
use Rattle.std.proofs.lemmas.List.Folds.{list_all_more}
use Rattle.bus_table.specs.Lengths.{shortest}
use Rattle.bus_table.specs.Tables.{Sender}

-- a number is enough for a sender
abbrev pub is_enough : ℕ → ℕ → Sender → Bool
is_enough sg n sender = nat_le n (sg + sender.tg + shortest sender)

-- room is the greatest number up to most that is enough for each of these
abbrev pub IsEnough : ℕ → List Sender → ℕ → ℕ → Type 0
IsEnough sg senders most room = (n : ℕ) → (n ≤ room) ↔ ((n ≤ most) × (list_all (is_enough sg n) senders ≡ true))

pub enough_more : (sg : ℕ) (xs : List Sender) (i : ℕ) (b : Sender) (most room wait next : ℕ) → i < length xs → b ≡ get_or xs i b
    → wait ≡ sg + b.tg + shortest b → next ≡ min room wait → IsEnough sg (take i xs) most room → IsEnough sg (take (i + 1) xs) most next
enough_more sg xs i b most room wait next inside is waits least so_far n =
    let more : list_all (is_enough sg n) (take (i + 1) xs) ≡ (list_all (is_enough sg n) (take i xs) && is_enough sg n b) =
    list_all_more (is_enough sg n) xs i b inside ∙ ap (λ (s : Sender). list_all (is_enough sg n) (take i xs) && is_enough sg n s) (sym is) in (
      (λ low.
          let r = (so_far n).0 (omega (arith, low, least)) in (
            r.0,
            more ∙ and_from (list_all (is_enough sg n) (take i xs)) (is_enough sg n b) r.1
                (le-leb n (sg + b.tg + shortest b) (omega (arith, low, least, waits))),
          )),
      (λ all.
          let p = and_parts (list_all (is_enough sg n) (take i xs)) (is_enough sg n b) (sym more ∙ all.1) in
          let old = (so_far n).1 (all.0, p.0) in
          let here = leb-true n (sg + b.tg + shortest b) p.1 in
          omega (arith, old, here, least, waits)),
    )

pub enough_whole : (sg : ℕ) (xs : List Sender) (i most room : ℕ) → length xs ≤ i → IsEnough sg (take i xs) most room → IsEnough sg xs most room
enough_whole sg xs i most room past h = subst (λ s. IsEnough sg s most room) (take_all i xs past) h
