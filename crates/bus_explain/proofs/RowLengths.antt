-- How long the lines of senders are.
use Rattle.std.specs.Prelude.{◌≡◌, ℕ, ◌+◌, ◌-◌, ◌/◌, ◌%◌, ◌<◌, ◌≤◌, ◌==◌, true, false, List, [], ◌∷◌, ◌++◌, length, replicate, codes, decimal}
use Rattle.std.proofs.Common.{arith, cond, inl, inr, refl, sym, ap, ◌∙◌, subst}
use Rattle.std.proofs.lemmas.Fmt.{length-decimal-le}
use Rattle.std.proofs.lemmas.List.{length-append, length-replicate}
use Rattle.bus_strings.specs.Members.{In}
use Rattle.bus_table.specs.declared.mode.Mode.{Mode}
use Rattle.bus_table.specs.inside.Facts.{FitsMode, SenderFacts}
use Rattle.bus_table.specs.Lengths.{longest, shortest}
use Rattle.bus_table.specs.Tables.{Sender, Table}
use Rattle.bus_table.specs.Turns.{turn_key, turn_order}
use Rattle.bus_table.proofs.LengthLemmas.{word_bounds}
use Rattle.bus_table.proofs.TurnLaws.{from_sort, of_each}
use Rattle.bus_table.proofs.ValidLaws.{valid_facts}
use Rattle.bus_regime.specs.Gaps.{Gap, gaps_from, last_end, latest_end}
use Rattle.bus_regime.proofs.GapLaws.{gap_sender}
use Rattle.bus_explain.specs.Aligned.{RowsAreAligned, row_length}
use Rattle.bus_explain.specs.Columns.{column, half_digit, number_column, time_columns}
use Rattle.bus_explain.specs.Figures.{gap_bits}
use Rattle.bus_explain.specs.Senders.{last_columns, offset_row, turn_row}

fills : (width : ℕ) (field : List ℕ) → length field ≤ width → length (column width field) ≡ width
fills width field h =
    let all = length-append (replicate (width - length field) 32) field in
    let spaces = length-replicate {A = ℕ} (width - length field) 32 in
    omega (arith, all, spaces, h)

number_fills : (n : ℕ) → n ≤ 128 → length (number_column n) ≡ 8
number_fills n h =
    let short = length-decimal-le 3 n (omega arith) (omega (arith, h)) (omega (arith, h)) in
    fills 8 (decimal n) (omega (arith, short))

half_fills : (n : ℕ) → length (half_digit n) ≡ 2
half_fills n = elim (n % 2 == 1) as (λ odd. length (cond odd (codes ".5") (codes ".0")) ≡ 2) [
  | true ↦ refl
  | false ↦ refl
]

time_fills : (n : ℕ) → n < 1000000 → length (time_columns n) ≡ 20
time_fills n h =
    let bits = length-decimal-le 6 n (omega arith) (omega (arith, h)) (omega (arith, h)) in
    let half : n / 2 < 1000000 = omega (arith, h) in
    let micro = length-decimal-le 6 (n / 2) (omega arith) (omega (arith, half)) (omega (arith, half)) in
    let first = fills 11 (decimal n) (omega (arith, bits)) in
    let second = fills 7 (decimal (n / 2)) (omega (arith, micro)) in
    let two = length-append (column 11 (decimal n)) (column 7 (decimal (n / 2))) in
    let all = length-append (column 11 (decimal n) ++ column 7 (decimal (n / 2))) (half_digit n) in
    let end = half_fills n in
    omega (arith, first, second, two, all, end)

last_fills : (tg short long : ℕ) → tg < 1000000 → short < 1000000 → long < 1000000 → length (last_columns tg short long) ≡ 61
last_fills tg short long a b c =
    let first = time_fills tg a in let second = time_fills short b in let third = time_fills long c in
    let two = length-append (time_columns tg) (time_columns short) in
    let three = length-append (time_columns tg ++ time_columns short) (time_columns long) in
    let all = length-append (time_columns tg ++ time_columns short ++ time_columns long) (codes "\n") in
    omega (arith, first, second, third, two, three, all)

-- ---- a sender
-- its messages take few bit times
record Short (sender : Sender) : Type 0 where
  tg : sender.tg < 1000000
  short : shortest sender < 1000000
  long : longest sender < 1000000

is_short : (table : Table) (sender : Sender) → SenderFacts table sender → Short sender
is_short table sender facts =
    let words = word_bounds sender facts.in_range in
    let least = words.least in let most = words.most in let few = words.few in let tg = facts.tg_most in record {
      tg = omega (arith, tg);
      short = omega (arith, least, few);
      long = omega (arith, most, few);
    }

turn_fills : (table : Table) (sender : Sender) → SenderFacts table sender → length (turn_row sender) ≡ row_length 3
turn_fills table sender facts =
    let short = is_short table sender facts in
    let first = number_fills sender.number facts.number_most in
    let rest = last_fills sender.tg (shortest sender) (longest sender) short.tg short.short short.long in
    let all = length-append (number_column sender.number) (last_columns sender.tg (shortest sender) (longest sender)) in
    omega (arith, first, rest, all)

-- ---- a gap
gap_ends : (ti from : ℕ) (ss : List Sender) (gap : Gap) → In gap (gaps_from ti from ss) → gap.to ≡ ti + gap.sender.at
gap_ends ti from [] gap i = absurd i
gap_ends ti from (s ∷ ss) gap (inl e) = ap (λ (g : Gap). g.to) e ∙ ap (λ n. ti + n) (sym (ap (λ (g : Gap). g.sender.at) e))
gap_ends ti from (s ∷ ss) gap (inr i) = gap_ends ti (ti + latest_end s) ss gap i

offset_fills : (table : Table) (gap : Gap) → SenderFacts table gap.sender → gap.to ≡ table.ti + gap.sender.at → table.ti ≤ 128000
    → gap.sender.at < table.ti → length (offset_row gap) ≡ row_length 5
offset_fills table gap facts to most below =
    let sender = gap.sender in
    let short = is_short table sender facts in
    let first = number_fills sender.number facts.number_most in
    let at = time_fills sender.at (omega (arith, most, below)) in
    let bits = time_fills (gap_bits gap) (omega (arith, to, most, below)) in
    let rest = last_fills sender.tg (shortest sender) (longest sender) short.tg short.short short.long in
    let two = length-append (number_column sender.number) (time_columns sender.at) in
    let three = length-append (number_column sender.number ++ time_columns sender.at) (time_columns (gap_bits gap)) in
    let all = length-append (number_column sender.number ++ time_columns sender.at ++ time_columns (gap_bits gap))
    (last_columns sender.tg (shortest sender) (longest sender)) in
    omega (arith, first, at, bits, rest, two, three, all)

pub rows_are_aligned : RowsAreAligned
rows_are_aligned table valid =
    let facts = valid_facts table valid in
    let each = λ (sender : Sender) (i : In sender table.senders). of_each (SenderFacts table) table.senders facts.senders sender i in record {
      turns = λ sender i. turn_fills table sender (each sender i);
      offsets = λ mode gap i.
          let among = from_sort (turn_key table.mode) table.senders gap.sender (gap_sender table.ti (last_end 0 (turn_order table)) (turn_order table) gap i) in
          let own = each gap.sender among in
          let below : gap.sender.at < table.ti = subst (λ (m : Mode). FitsMode m table.ti gap.sender.at) mode own.mode in
          offset_fills table gap own (gap_ends table.ti (last_end 0 (turn_order table)) (turn_order table) gap i) facts.ti_most below;
    }
