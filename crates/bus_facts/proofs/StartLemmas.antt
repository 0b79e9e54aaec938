-- The greatest transmit interval with which a table starts itself.
use Rattle.std.proofs.Common.{◌≡◌, ℕ, zero, suc, ◌+◌, ◌<◌, ◌≤◌, ◌↔◌, Bool, true, false, cond, List, length, take, Some, None, min, inl, inr, arith, sym, refl, ap, ◌∙◌, subst}
use Rattle.std.specs.Prelude.{nat_le}
use Rattle.std.proofs.lemmas.Bool.{cases_Bool, cases_lt, leb-true, le-leb, true≢false}
use Rattle.bus_table.specs.Lengths.{shortest}
use Rattle.bus_table.specs.Tables.{Sender, Table}
use Rattle.bus_reach.specs.Bearing.{greatest_to}
use Rattle.bus_reach.proofs.RoomLemmas.{IsRoom, IsRoomOf, room_whole}
use Rattle.bus_facts.specs.Starts.{starts_with, greatest_start}

-- whether an interval is no longer than what a sender waits at least
abbrev pub is_waited : ℕ → ℕ → Sender → Bool
is_waited sg d s = nat_le d (sg + s.tg + shortest s)

pub waited_by : (sg : ℕ) (s : Sender) (most wait next : ℕ) → wait ≡ sg + s.tg + shortest s → next ≡ min most wait → IsRoomOf (is_waited sg) s most next
waited_by sg s most wait next is least d = (
  (λ low. (omega arith, le-leb d (sg + s.tg + shortest s) (omega arith))),
  (λ p. let k : d ≤ sg + s.tg + shortest s = leb-true d (sg + s.tg + shortest s) p.1 in let l : d ≤ most = p.0 in omega arith),
)

-- the greatest up to a bound, where all up to it pass
capped : (test : ℕ → Bool) (most bound n : ℕ) → ((d : ℕ) → (d ≤ most) ↔ ((d ≤ bound) × (test d ≡ true))) → most ≤ n → n ≤ bound → greatest_to test n ≡ most
capped test most bound zero all low within = let none : greatest_to test zero ≡ 0 = refl in omega arith
capped test most bound (suc n) all low within = elim (cases_Bool (test (suc n))) [
  | inl yes' ↦
      let e : greatest_to test (suc n) ≡ suc n = ap (λ b. cond b (suc n) (greatest_to test n)) yes' in
      let here : suc n ≤ most = (all (suc n)).1 (within, yes') in
      omega arith
  | inr no' ↦
      let e : greatest_to test (suc n) ≡ greatest_to test n = ap (λ b. cond b (suc n) (greatest_to test n)) no' in
      elim (cases_lt n most) [
        | inl over ↦ absurd (true≢false (sym ((all (suc n)).0 (omega arith)).1 ∙ no'))
        | inr less ↦ e ∙ capped test most bound n all less (omega arith)
      ]
]

pub start_some : (table : Table) (most : ℕ) → IsRoom (is_waited table.sg) table.senders 128000 most → 1000 ≤ most → Some most ≡ greatest_start table
unfolding greatest_start
start_some table most all enough =
    let within : most ≤ 128000 = ((all most).0 (omega arith)).0 in
    let least : starts_with table 1000 ≡ true = ((all 1000).0 enough).1 in
    ap Some (sym (capped (starts_with table) most 128000 128000 all within (omega arith)))
    ∙ sym (ap (λ b. cond b (Some (greatest_to (starts_with table) 128000)) None) least)

pub start_none : (table : Table) (most : ℕ) → IsRoom (is_waited table.sg) table.senders 128000 most → most < 1000 → None ≡ greatest_start table
unfolding greatest_start
start_none table most all short =
    let least : starts_with table 1000 ≡ false = elim (cases_Bool (starts_with table 1000)) [
      | inl yes' ↦ absurd (let k : 1000 ≤ most = (all 1000).1 (omega arith, yes') in omega arith)
      | inr no' ↦ no'
    ] in
    sym (ap (λ b. cond b (Some (greatest_to (starts_with table) 128000)) None) least)

-- what all senders wait
pub whole_room : (table : Table) (senders : List Sender) (sg i most : ℕ) → senders ≡ table.senders → sg ≡ table.sg → length senders ≤ i
    → IsRoom (is_waited sg) (take i senders) 128000 most → IsRoom (is_waited table.sg) table.senders 128000 most
whole_room table senders sg i most same is past h =
    subst (λ s. IsRoom (is_waited s) table.senders 128000 most) is
    (subst (λ ss. IsRoom (is_waited sg) ss 128000 most) same (room_whole (is_waited sg) senders i 128000 most past h))
