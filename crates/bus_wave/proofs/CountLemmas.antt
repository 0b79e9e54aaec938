-- The holds of a list, and that spaced lists are those of traces.
use Rattle.std.proofs.Common.{arith, ◌≡◌, ℕ, ◌+◌, ◌-◌, ◌<◌, ◌≤◌, true, false, cond, ◌==◌, List, [], ◌∷◌, length, Option, Some, None}
use Rattle.std.proofs.Common.{◌≢◌, refl, sym, ap, ◌∙◌, inl, get_or, take, set}
use Rattle.std.specs.Prelude.{IfSome, is_some, IsTrue}
use Rattle.std.proofs.lemmas.Bool.{eqb-true}
use Rattle.std.proofs.lemmas.Bool.Decides.{nat_tests}
use Rattle.std.proofs.lemmas.Grind.{get_or-set_at}
use Rattle.std.proofs.lemmas.List.{get_or-set_other}
use Rattle.std.proofs.lemmas.List.Sums.{count_by-le-length, count_by_more_no, count_by_more_yes}
use Rattle.std.specs.List.{AllByRecursion}
use Rattle.bus_strings.specs.Limits.{horizon_limit}
use Rattle.bus_strings.proofs.MessageLaws.{bits_some}
use Rattle.bus_strings.specs.Messages.{Entry, IsMessage}
use Rattle.bus_strings.specs.Transmissions.{end_of, Precedes, IsAscending}
use Rattle.bus_table.specs.Fits.{sender_of}
use Rattle.bus_table.specs.Tables.{Sender, Table}
use Rattle.bus_table.specs.Valid.{is_valid}
use Rattle.bus_trace.specs.declared.hold.Hold.{Hold}
use Rattle.bus_trace.specs.Limits.{most_count}
use Rattle.bus_trace.specs.Traces.{AscendAbove, IsHold, IsBelow, IsTrace}
use Rattle.bus_trace.proofs.HoldLists.{ascend_from, ranged_from}
use Rattle.bus_wave.specs.Counted.{entries_of, hold_at, holds_of}
use Rattle.bus_wave.specs.Spacing.{least_gap, IsOfSender, AreApart}
use Rattle.bus_wave.proofs.BeginLemmas.{of_number}
use Rattle.bus_wave.proofs.SenderLemmas.{send_facts}

-- ---- counts of entries
-- one entry more is counted at its terminal
pub counted_more : (list : List Entry) (i : ℕ) (x : Entry) (counts : List ℕ) (count : ℕ) → i < length list → x ≡ get_or list i x
    → x.terminal < length counts → count ≡ get_or counts x.terminal 0 + 1
    → ((n : ℕ) → n < 256 → get_or counts n 0 ≡ entries_of (take i list) n)
    → (n : ℕ) → n < 256 → get_or (set counts x.terminal count) n 0 ≡ entries_of (take (i + 1) list) n
counted_more list i x counts count less is room next h n low =
    elim (x.terminal == n) as (λ b. (x.terminal == n) ≡ b → get_or (set counts x.terminal count) n 0 ≡ entries_of (take (i + 1) list) n) [
      | true ↦ λ e. (let same : n ≡ x.terminal = sym (eqb-true _ _ e) in
          get_or-set_at counts x.terminal n count 0 same room ∙ next ∙ ap (λ t. get_or counts t 0 + 1) (sym same) ∙ ap (λ m. m + 1) (h n low)
          ∙ sym (count_by_more_yes (λ (y : Entry). y.terminal == n) list i x less (ap (λ (y : Entry). y.terminal == n) (sym is) ∙ e)))
      | false ↦ λ e. (let other : n ≢ x.terminal = grind (arith, nat_tests) in
          get_or-set_other counts x.terminal n count 0 other ∙ h n low
          ∙ sym (count_by_more_no (λ (y : Entry). y.terminal == n) list i x less (ap (λ (y : Entry). y.terminal == n) (sym is) ∙ e)))
    ] refl

-- ---- holds
pub count_le : (list : List Entry) (n : ℕ) → entries_of list n ≤ length list
count_le list n = count_by-le-length (λ x. x.terminal == n) list

-- a hold is of its number, and of no more entries than there are
numbered : (senders : List Sender) (list : List Entry) (n : ℕ) → IfSome (hold_at senders list n) (λ hold. hold.terminal ≡ n)
numbered senders list n =
    elim (is_some (sender_of senders n)) as (λ b. IfSome (cond b (let o : Option Hold = Some (record { terminal = n; count = entries_of list n }) in o) None) (λ hold. hold.terminal ≡ n)) [
      | true ↦ refl
      | false ↦ tt
    ]

counted : (senders : List Sender) (list : List Entry) (n : ℕ) → length list ≤ most_count → IfSome (hold_at senders list n) (λ hold. hold.count ≤ most_count)
counted senders list n few =
    elim (is_some (sender_of senders n)) as (λ b. IfSome (cond b (let o : Option Hold = Some (record { terminal = n; count = entries_of list n }) in o) None) (λ hold. hold.count ≤ most_count)) [
      | true ↦ omega (arith, few, count_le list n)
      | false ↦ tt
    ]

pub holds_ascend : (table : Table) (list : List Entry) → AscendAbove 0 (holds_of table list)
unfolding holds_of
holds_ascend table list = ascend_from (hold_at table.senders list) (numbered table.senders list) 128 0

pub holds_ranged : (table : Table) (list : List Entry) → length list ≤ most_count → AllByRecursion IsHold (holds_of table list)
unfolding holds_of
holds_ranged table list few =
    ranged_from (hold_at table.senders list) (numbered table.senders list) (λ n. counted table.senders list n few) 128 0 (omega arith)

-- ---- lists
all_below : (table : Table) → IsTrue (is_valid table) → (start horizon : ℕ) (list : List Entry) → AreApart start horizon list
    → AllByRecursion (IsOfSender table) list → AllByRecursion (λ x. IsMessage x.message) list → AllByRecursion (IsBelow horizon) list
all_below table valid start horizon [] a of m = tt
all_below table valid start horizon (x ∷ xs) a of m =
    let w = of_number table.senders x.terminal of.0.sender of.0.found in
    let facts = send_facts table valid of.0.sender w.0 in
    let low : 1 ≤ of.0.sender.number = facts.low in
    let high : of.0.sender.number ≤ 128 = facts.high in
    let number : of.0.sender.number ≡ x.terminal = w.1 in (
      record {
        moment = omega (arith, a.1, bits_some x.message m.0.some);
        positive = omega (arith, low, number);
        low = omega (arith, high, number);
        message = m.0;
      },
      all_below table valid (end_of x + least_gap) horizon xs a.2 of.1 m.1,
    )

all_after : (start horizon : ℕ) (x : Entry) (list : List Entry) → x.moment < start → AreApart start horizon list → AllByRecursion (Precedes x) list
all_after start horizon x [] low a = tt
all_after start horizon x (y ∷ ys) low a =
    let early : x.moment < y.moment = omega (arith, a.0) in
    (inl early, all_after (end_of y + least_gap) horizon x ys (omega arith) a.2)

pub ascending : (start horizon : ℕ) (list : List Entry) → AreApart start horizon list → IsAscending list
ascending start horizon [] a = tt
ascending start horizon (x ∷ xs) a = (all_after (end_of x + least_gap) horizon x xs (omega arith) a.2, ascending (end_of x + least_gap) horizon xs a.2)

pub is_trace : (table : Table) → IsTrue (is_valid table) → (horizon : ℕ) (list : List Entry) → horizon ≤ horizon_limit → length list ≤ most_count
    → AreApart 0 horizon list → AllByRecursion (IsOfSender table) list → AllByRecursion (λ x. IsMessage x.message) list
    → IsTrace (record { horizon = horizon; holds = holds_of table list; list = list })
is_trace table valid horizon list low few a of m = record {
  horizon = low;
  holds = holds_ranged table list few;
  terminals = holds_ascend table list;
  list = all_below table valid 0 horizon list a of m;
  order = ascending 0 horizon list a;
}
