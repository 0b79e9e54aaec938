-- What holds of the pictures and numbers of a page.
use Rattle.std.proofs.Common.{◌≡◌, ℕ, suc, ◌+◌, ◌-◌, ◌*◌, ◌/◌, ◌%◌, ◌<◌, ◌≤◌, Bool, true, false, cond, ◌==◌, List, [], ◌∷◌, map, length, inl, inr, arith, refl, sym, ap, subst, ◌∙◌, take}
use Rattle.std.specs.Prelude.{IsTrue}
use Rattle.std.specs.List.{sum_by}
use Rattle.std.proofs.lemmas.List.{take_all}
use Rattle.std.proofs.Math.Nat.{add-mul, div-add-mod, div-lt_iff_lt-mul, mod-lt, mul-add, mul-add-div}
use Rattle.std.proofs.lemmas.List.Sums.{sum_by-cons}
use Rattle.bus_strings.specs.Limits.{inner_gap, word_bits}
use Rattle.bus_strings.specs.Messages.{bits_of}
use Rattle.bus_table.specs.declared.line.SendLine.{SendLine}
use Rattle.bus_table.specs.declared.mode.Mode.{Mode}
use Rattle.bus_table.specs.declared.mode.Mode.TheVariants.{Aperiodic, Periodic}
use Rattle.bus_table.specs.Lengths.{longest, shortest, words_at_most}
use Rattle.bus_table.specs.Tables.{Sender, Table}
use Rattle.bus_table.specs.Turns.{turn_key, turn_order}
use Rattle.bus_table.proofs.LengthLemmas.{word_bounds}
use Rattle.bus_table.proofs.TurnLaws.{sum_sort}
use Rattle.bus_regime.specs.Verdicts.{least_cycle, most_cycle}
use Rattle.bus_reach.specs.Latency.{latency, longest_wait, string_end, wait_in}
use Rattle.bus_regime.specs.Gaps.{Gap, gaps, gaps_from}
use Rattle.bus_regime.specs.Gaps.{last_end as last_end_of}
use Rattle.bus_explain.specs.Figures.{gap_bits, longest_bits}
use Rattle.bus_explain.specs.Laws.{LoadIsOfLongestCycle, idle_in}
use Rattle.bus_pen.specs.declared.scale.Scale.{Scale}
use Rattle.bus_pen.specs.Scales.{IsScale, held, place}
use Rattle.bus_page.specs.Laws.{CyclesAreTheVerdicts, SlotsFillTheInterval, WaitsAreLatencies, WidthsAreOfTheScale, FollowOneAnother, TurnsFollowOneAnother, last_end, scaled, slot_bits}
use Rattle.bus_page.specs.Slots.{slot_of}
use Rattle.bus_page.specs.Turns.{Stretch, Turn, turns_from, turns_of}
use Rattle.bus_page.proofs.AcceptLemmas.{cycles_of}

-- ---- cycles
short_end : (short long : ℕ) (order : List Sender)
    → last_end (λ turn. turn.short) short (turns_from short long order) ≡ short + sum_by (λ s. s.tg + shortest s) order
short_end short long [] = omega arith
short_end short long (s ∷ order) =
    short_end (short + s.tg + shortest s) (long + s.tg + longest s) order
    ∙ omega (arith, sum_by-cons (λ (t : Sender). t.tg + shortest t) s order)

long_end : (short long : ℕ) (order : List Sender)
    → last_end (λ turn. turn.long) long (turns_from short long order) ≡ long + sum_by (λ s. s.tg + longest s) order
long_end short long [] = omega arith
long_end short long (s ∷ order) =
    long_end (short + s.tg + shortest s) (long + s.tg + longest s) order
    ∙ omega (arith, sum_by-cons (λ (t : Sender). t.tg + longest t) s order)

pub cycles_are_the_verdicts : CyclesAreTheVerdicts
cycles_are_the_verdicts table least most aperiodic accepted =
    let cycles = cycles_of table least most aperiodic accepted in
    let key = turn_key table.mode in (
      short_end table.sg table.sg (turn_order table)
          ∙ ap (λ n. table.sg + n) (sum_sort (λ s. s.tg + shortest s) key table.senders) ∙ cycles.least_is,
      long_end table.sg table.sg (turn_order table)
          ∙ ap (λ n. table.sg + n) (sum_sort (λ s. s.tg + longest s) key table.senders) ∙ cycles.most_is,
    )

-- ---- waits
-- without delays nothing is added to the wait
alone : (test : Bool) (count : ℕ) → cond test 0 (count * 0) ≡ 0
alone true count = refl
alone false count = omega arith

no_delay : (mode : Mode) (table : Table) (most : ℕ) → wait_in mode table most 0 ≡ most
no_delay Aperiodic table most = omega (arith, alone (length table.senders == 1) (length table.senders))
no_delay Periodic table most = refl

last_line : (sends : List SendLine) → 1 ≤ length sends → string_end sends (length sends - 1) ≡ bits_of (words_at_most sends) (length sends)
last_line sends some =
    let whole : length sends - 1 + 1 ≡ length sends = omega (arith, some) in
    ap (λ lines. word_bits * words_at_most lines + inner_gap * (length sends - 1))
    (ap (λ n. take n sends) whole ∙ take_all (length sends) sends (omega arith))

pub waits_are_latencies : WaitsAreLatencies
waits_are_latencies table most sender valid =
    let bounds = word_bounds sender valid in
    omega (arith, no_delay table.mode table most, last_line sender.sends bounds.some)

-- ---- widths
-- a quotient of a sum is the sum of the quotients, or one more
quotients : (a d s : ℕ) → 0 < s → (a / s + d / s ≤ (a + d) / s) × ((a + d) / s ≤ a / s + d / s + 1)
quotients a d s some =
    let rest = a % s + d % s in
    let left : a % s < s = mod-lt a some in
    let right : d % s < s = mod-lt d some in
    let split : a + d ≡ s * (a / s + d / s) + rest =
    omega (arith, div-add-mod a s, div-add-mod d s, mul-add s (a / s) (d / s)) in
    let whole : (a + d) / s ≡ (a / s + d / s) + rest / s = ap (λ n. n / s) split ∙ mul-add-div some (a / s + d / s) rest in
    let less : rest / s < 2 = (div-lt_iff_lt-mul some).1 (omega (arith, left, right)) in
    (omega (arith, whole), omega (arith, whole, less))

places_are_apart : (scale : Scale) (a b : ℕ) → IsScale scale → scale.from ≤ a → a ≤ b → b ≤ scale.to
    → (scaled scale (b - a) ≤ place scale b - place scale a) × (place scale b - place scale a ≤ scaled scale (b - a) + 1)
places_are_apart scale a b is from rise to =
    let some : scale.from < scale.to = is.some in
    let width = scale.width in
    let span = scale.to - scale.from in
    let first : held scale a - scale.from ≡ a - scale.from = omega (arith, from, rise, to) in
    let second : held scale b - scale.from ≡ (a - scale.from) + (b - a) = omega (arith, from, rise, to) in
    let split : (held scale b - scale.from) * width ≡ (a - scale.from) * width + (b - a) * width =
    ap (λ n. n * width) second ∙ add-mul (a - scale.from) (b - a) width in
    let both = quotients ((a - scale.from) * width) ((b - a) * width) span (omega (arith, some)) in
    let left : place scale a ≡ scale.left + (a - scale.from) * width / span = ap (λ n. scale.left + n * width / span) first in
    let right : place scale b ≡ scale.left + ((a - scale.from) * width + (b - a) * width) / span = ap (λ n. scale.left + n / span) split in
    (omega (arith, left, right, both.0), omega (arith, left, right, both.1))

pub widths_are_of_the_scale : WidthsAreOfTheScale
widths_are_of_the_scale scale a b top height is from rise to =
    let apart = places_are_apart scale a b is from rise to in
    (omega (arith, apart.0), omega (arith, apart.1), omega arith)

-- ---- turns
short_follow : (short long : ℕ) (order : List Sender) → FollowOneAnother (λ turn. turn.short) short (turns_from short long order)
short_follow short long [] = tt
short_follow short long (s ∷ order) = (refl, short_follow (short + s.tg + shortest s) (long + s.tg + longest s) order)

long_follow : (short long : ℕ) (order : List Sender) → FollowOneAnother (λ turn. turn.long) long (turns_from short long order)
long_follow short long [] = tt
long_follow short long (s ∷ order) = (refl, long_follow (short + s.tg + shortest s) (long + s.tg + longest s) order)

pub turns_follow_one_another : TurnsFollowOneAnother
turns_follow_one_another table = (short_follow table.sg table.sg (turn_order table), long_follow table.sg table.sg (turn_order table))

-- ---- intervals
-- the gaps and the messages behind them
slots_sum : (table : Table) (gs : List Gap) → sum_by slot_bits (map (slot_of table) gs) ≡ sum_by gap_bits gs + sum_by (λ g. longest g.sender) gs
slots_sum table [] = refl
slots_sum table (gap ∷ gs) =
    omega (
      arith,
      slots_sum table gs,
      sum_by-cons slot_bits (slot_of table gap) (map (slot_of table) gs),
      sum_by-cons gap_bits gap gs,
      sum_by-cons (λ (g : Gap). longest g.sender) gap gs,
    )

messages_sum : (ti from : ℕ) (order : List Sender) → sum_by (λ g. longest g.sender) (gaps_from ti from order) ≡ sum_by longest order
messages_sum ti from [] = refl
messages_sum ti from (sender ∷ order) =
    omega (
      arith,
      messages_sum ti (ti + (sender.at + longest sender)) order,
      sum_by-cons (λ (g : Gap). longest g.sender) (record { sender = sender; from = from; to = ti + sender.at }) (gaps_from ti (ti + (sender.at + longest sender)) order),
      sum_by-cons longest sender order,
    )

pub slots_fill_the_interval : LoadIsOfLongestCycle → SlotsFillTheInterval
slots_fill_the_interval load table least most valid periodic accepted =
    let whole : longest_bits table + sum_by gap_bits (gaps table) ≡ most =
    ap (λ m. longest_bits table + idle_in m table) (sym periodic) ∙ (load table least most valid accepted).whole in
    let messages : sum_by (λ g. longest g.sender) (gaps table) ≡ longest_bits table =
    messages_sum table.ti (last_end_of 0 (turn_order table)) (turn_order table) ∙ sum_sort longest (turn_key table.mode) table.senders in
    omega (arith, whole, messages, slots_sum table (gaps table))
