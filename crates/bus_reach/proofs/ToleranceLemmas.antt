-- The greatest delay that a table of several senders bears.
use Rattle.std.proofs.Common.{◌≡◌, ◌≢◌, ℕ, ◌<◌, ◌≤◌, ◌↔◌, true, ◌||◌, List, length, get_or, min, arith, sym, refl, ap, ◌∙◌, subst}
use Rattle.std.specs.Prelude.{slice_get}
use Rattle.std.specs.List.{list_all}
use Rattle.std.proofs.lemmas.Bool.{ne_eqb}
use Rattle.std.proofs.lemmas.Option.{slice_get_read}
use Rattle.bus_strings.proofs.MemberLaws.{pass_in}
use Rattle.bus_table.specs.Tables.{Sender, Table}
use Rattle.bus_table.specs.inside.Facts.{SenderFacts, TableFacts}
use Rattle.bus_table.proofs.TurnLaws.{of_each, at_in}
use Rattle.bus_reach.specs.Tolerance.{leaves_room, lengths_bear}
use Rattle.bus_reach.proofs.RoomLemmas.{IsRoom}
use Rattle.bus_reach.proofs.SpreadLemmas.{first_of_some, room_left}

min_both : (d a b m : ℕ) → m ≡ min a b → (d ≤ m) ↔ ((d ≤ a) × (d ≤ b))
min_both d a b m is = ((λ low. (first d a b m is low, second d a b m is low)), (λ p. all d a b m is p.0 p.1))
  where
    first : (d a b m : ℕ) → m ≡ min a b → d ≤ m → d ≤ a
    first d a b m is low = omega arith

    second : (d a b m : ℕ) → m ≡ min a b → d ≤ m → d ≤ b
    second d a b m is low = omega arith

    all : (d a b m : ℕ) → m ≡ min a b → d ≤ a → d ≤ b → d ≤ m
    all d a b m is x y = omega arith

-- the lesser of two rooms
pub least_of_two : (room between next : ℕ) → next ≡ min room between → (d : ℕ) → (d ≤ next) ↔ ((d ≤ room) × (d ≤ between))
least_of_two room between next is d = min_both d room between next is

-- and of three
pub least_of_three : (room gap tg between two next : ℕ) → gap ≡ tg → two ≡ min room gap → next ≡ min two between → (d : ℕ) → (d ≤ next) ↔ ((d ≤ room) × (d ≤ tg) × (d ≤ between))
least_of_three room gap tg between two next same is is2 d = (
  (λ low. let p = (min_both d two between next is2).0 low in let r = (min_both d room gap two is).0 p.0 in (r.0, (let k : d ≤ gap = r.1 in omega arith), p.1)),
  (λ p. (min_both d two between next is2).1 ((min_both d room gap two is).1 (p.0, (let k : d ≤ tg = p.1 in omega arith)), p.2)),
)

-- a sender that is read
pub read_facts : (table : Table) (senders : List Sender) (k : ℕ) (sender : Sender) → TableFacts table → senders ≡ table.senders → k < length senders → sender ≡ get_or senders k sender
    → SenderFacts table sender
read_facts table senders k sender facts same inside is =
    of_each (SenderFacts table) table.senders facts.senders sender
    (at_in table.senders k sender (ap (λ ss. slice_get ss k) (sym same) ∙ slice_get_read senders (length senders) k sender refl inside is))

pub tolerance_whole : (table : Table) (senders : List Sender) (sg room : ℕ) → TableFacts table → senders ≡ table.senders → sg ≡ table.sg → length senders ≢ 1
    → IsRoom (λ d b. leaves_room d sg senders b) senders 256 room → (d : ℕ) → (d ≤ room) ↔ (lengths_bear table d ≡ true)
tolerance_whole table senders sg room facts same sg_is several h d =
    let here : IsRoom (λ e b. leaves_room e table.sg table.senders b) table.senders 256 room =
    subst (λ s. IsRoom (λ e b. leaves_room e s table.senders b) table.senders 256 room) sg_is (subst (λ ss. IsRoom (λ e b. leaves_room e sg ss b) ss 256 room) same h) in
    let not_one : length table.senders ≢ 1 = λ e. several (ap length same ∙ e) in
    let either : lengths_bear table d ≡ list_all (leaves_room d table.sg table.senders) table.senders =
    ap (λ b. b || list_all (leaves_room d table.sg table.senders) table.senders) (ne_eqb (length table.senders) 1 not_one) in (
      (λ low. either ∙ ((here d).0 low).1),
      (λ yes'.
          let all : list_all (leaves_room d table.sg table.senders) table.senders ≡ true = sym either ∙ yes' in
          let first = first_of_some table.senders facts.some in
          let room_there = room_left d table.sg table.senders first.0 (pass_in (leaves_room d table.sg table.senders) table.senders first.0 all first.1) in
          let least : d ≤ first.0.tg = room_there.least in
          let most : first.0.tg ≤ 256 = (of_each (SenderFacts table) table.senders facts.senders first.0 first.1).tg_most in
          (here d).1 (omega arith, all)),
    )
