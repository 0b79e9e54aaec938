-- How small the numbers of a latency are.
use Rattle.std.proofs.Common.{◌≡◌, ℕ, zero, suc, ◌+◌, ◌*◌, ◌^◌, ◌≤◌, List, [], ◌∷◌, length, take, ap, arith}
use Rattle.std.specs.Prelude.{IsTrue}
use Rattle.std.proofs.lemmas.List.Sums.{sum_by-cons}
use Rattle.std.proofs.lemmas.Nat.{mul-le}
use Rattle.bus_table.specs.declared.line.SendLine.{SendLine}
use Rattle.bus_table.specs.Lengths.{words_at_most}
use Rattle.bus_table.specs.Tables.{Sender, Table}
use Rattle.bus_table.specs.Valid.{is_valid}
use Rattle.bus_table.proofs.ValidLaws.{valid_facts}

-- no more words than on all lines
pub taken_words : (sends : List SendLine) (n : ℕ) → words_at_most (take n sends) ≤ words_at_most sends
taken_words sends zero = omega arith
taken_words [] (suc n) = omega arith
taken_words (line ∷ sends) (suc n) =
    omega (arith, taken_words sends n, sum_by-cons (λ (l : SendLine). 1 + l.most) line (take n sends), sum_by-cons (λ (l : SendLine). 1 + l.most) line sends)

-- what delays add to a cycle
pub delays_small : (table : Table) (senders : List Sender) (d : ℕ) → IsTrue (is_valid table) → senders ≡ table.senders → d ≤ 2 ^ 40
    → length senders * d ≤ 2 ^ 48
delays_small table senders d valid same low =
    let few : length table.senders ≤ 128 = (valid_facts table valid).few in
    let long : length senders ≤ 128 = omega (arith, ap length same, few) in
    let product : length senders * d ≤ 128 * 2 ^ 40 = mul-le (length senders) d 128 (2 ^ 40) long low in
    omega arith
