-- No accepted table has a transmit interval below the least interval.
use Rattle.std.specs.Prelude.{◌≡◌, ◌≢◌, ℕ, ◌+◌, ◌-◌, ◌*◌, ◌<◌, ◌≤◌, true, false, nat_le, List, [], ◌∷◌, length}
use Rattle.std.specs.List.{sum_by}
use Rattle.std.proofs.Common.{inl, inr, arith, sym, refl, ap, ◌∙◌, cond}
use Rattle.std.proofs.lemmas.Bool.Decides.{nat_tests}
use Rattle.bus_strings.specs.Members.{In}
use Rattle.bus_table.specs.Tables.{Sender, Table}
use Rattle.bus_table.specs.Turns.{turn_key, turn_order}
use Rattle.bus_table.proofs.TurnLaws.{from_sort, length-sort, sum_sort}
use Rattle.bus_regime.specs.Verdicts.{is_accepted}
use Rattle.bus_regime.specs.Gaps.{Gap, gaps_from, latest_end, last_end}
use Rattle.bus_regime.specs.Verdicts.{verdict_of}
use Rattle.bus_plan.specs.Plans.{turn_time, sync_time, planned_order, least_interval}
use Rattle.bus_plan.proofs.Orders.{in_planned, Tops, TopsBehind, planned_tops, planned_behind}
use Rattle.bus_plan.proofs.Slack.{slack, ends_later, filled, one_excess, two_excess}
use Rattle.bus_regime.specs.inside.Fine.{IsFine}
use Rattle.bus_regime.proofs.GapLaws.{gap_sender}
use Rattle.bus_regime.proofs.VerdictLaws.{accepted_gaps}
use Rattle.bus_table.specs.declared.mode.Mode.TheVariants.{Periodic}

-- what synchronization needs is at most one synchronization gap, and at most two less two terminal gaps
sync_one : (sg : ℕ) (order : List Sender) → sync_time sg order ≤ sg
sync_one sg [] = omega arith
sync_one sg (a ∷ []) = omega arith
sync_one sg (a ∷ b ∷ others) =
    (elim (nat_le (a.tg + b.tg) sg) as (λ w. nat_le (a.tg + b.tg) sg ≡ w → cond w sg (2 * sg - (a.tg + b.tg)) ≤ sg) [
      | true ↦ λ h. omega arith
      | false ↦ λ h. (let more : sg < a.tg + b.tg = grind (arith, nat_tests) in omega arith)
    ]) refl

top_pair : (a b : Sender) (others : List Sender) (x y : Sender) → Tops (a ∷ b ∷ others) → Tops (b ∷ others) → In x (a ∷ b ∷ others)
    → In y (a ∷ b ∷ others) → x.number ≢ y.number → x.tg + y.tg ≤ a.tg + b.tg
top_pair a b others x y first second (inl e) (inl f) apart = absurd (apart (ap (λ (s : Sender). s.number) (e ∙ sym f)))
top_pair a b others x y first second (inl e) (inr j) apart =
    let p : x.tg ≡ a.tg = ap (λ (s : Sender). s.tg) e in let q = second y j in omega (arith, p, q)
top_pair a b others x y first second (inr i) j apart = let p = second x i in let q = first y j in omega (arith, p, q)

sync_pair : (sg : ℕ) (order : List Sender) (x y : Sender) → Tops order → TopsBehind order → In x order → In y order → x.number ≢ y.number
    → sync_time sg order ≤ (sg - x.tg) + (sg - y.tg)
sync_pair sg [] x y first second i j apart = absurd i
sync_pair sg (a ∷ []) x y first second (inl e) (inl f) apart = absurd (apart (ap (λ (s : Sender). s.number) (e ∙ sym f)))
sync_pair sg (a ∷ []) x y first second (inl e) (inr j) apart = absurd j
sync_pair sg (a ∷ []) x y first second (inr i) j apart = absurd i
sync_pair sg (a ∷ b ∷ others) x y first second i j apart =
    let pair = top_pair a b others x y first second i j apart in
    (elim (nat_le (a.tg + b.tg) sg) as (λ w. nat_le (a.tg + b.tg) sg ≡ w → cond w sg (2 * sg - (a.tg + b.tg)) ≤ (sg - x.tg) + (sg - y.tg)) [
      | true ↦ λ h. (let less : a.tg + b.tg ≤ sg = grind (arith, nat_tests) in omega (arith, pair, less))
      | false ↦ λ h. omega (arith, pair)
    ]) refl

-- the slack is enough for a sender that has sync by its own gap
own_sync : (sg : ℕ) (order : List Sender) (all : List Gap) (g : Gap) → In g all → g.from + (sg + g.sender.tg) ≤ g.to
    → sync_time sg order ≤ slack all
own_sync sg order all g i h = let p = one_excess all g i in let q = sync_one sg order in omega (arith, p, q)

-- and for one that has it by another's, which has its own sync
other_sync : (sg : ℕ) (senders : List Sender) (all : List Gap) → ((g : Gap) → In g all → In g.sender senders) → (g h : Gap) → In g all
    → In h all → g.sender.number ≢ h.sender.number → g.from + sg ≤ g.to → h.from + sg ≤ h.to
    → sync_time sg (planned_order senders) ≤ slack all
other_sync sg senders all of g h i j apart wide wider =
    let p = two_excess all g h i j apart in
    let q = sync_pair sg (planned_order senders) g.sender h.sender (planned_tops senders) (planned_behind senders)
    (in_planned senders g.sender (of g i)) (in_planned senders h.sender (of h j)) apart in
    omega (arith, p, q)

enough : (sg : ℕ) (senders : List Sender) (all : List Gap) → ((g : Gap) → In g all → In g.sender senders)
    → ((g : Gap) → In g all → IsFine sg all g) → (g : Gap) → In g all → sync_time sg (planned_order senders) ≤ slack all
enough sg senders all of fine g i =
    elim (fine g i).sync [
      | inl own ↦ own_sync sg (planned_order senders) all g i own
      | inr s ↦
          elim (fine s.other s.among).sync [
            | inl own ↦ own_sync sg (planned_order senders) all s.other s.among own
            | inr t ↦ other_sync sg senders all of t.other s.other t.among s.among t.apart t.wide s.wide
          ]
    ]

-- the time that the gaps of senders in some order fill
least_filled : (sg ti : ℕ) (senders order : List Sender) → sum_by turn_time order ≡ sum_by turn_time senders
    → ((s : Sender) → In s order → In s senders) → 0 < length order
    → ((g : Gap) → In g (gaps_from ti (last_end 0 order) order) → IsFine sg (gaps_from ti (last_end 0 order) order) g)
    → sum_by turn_time senders + sync_time sg (planned_order senders) ≤ ti
least_filled sg ti senders [] same of some fine = absurd (omega arith)
least_filled sg ti senders (s ∷ ss) same of some fine =
    let from : ℕ = last_end 0 (s ∷ ss) in
    let all : List Gap = gaps_from ti from (s ∷ ss) in
    let full = filled ti from (s ∷ ss) (λ g i. (fine g i).wide) in
    let later = ends_later ti (latest_end s) ss in
    let much = enough sg senders all (λ g i. of g.sender (gap_sender ti from (s ∷ ss) g i)) fine
    (record { sender = s; from = from; to = ti + s.at }) (inl refl) in
    omega (arith, full, later, much, same)

-- an accepted table has at least its least interval
pub accepted_least : (table : Table) → table.mode ≡ Periodic → 0 < length table.senders → is_accepted (verdict_of table) ≡ true
    → least_interval table ≤ table.ti
accepted_least table mode some h =
    let key = turn_key table.mode in
    let long = length-sort key table.senders in
    least_filled table.sg table.ti table.senders (turn_order table) (sum_sort turn_time key table.senders) (from_sort key table.senders)
    (omega (arith, some, long))
    (accepted_gaps table mode h)
