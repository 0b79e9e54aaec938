-- What holds of the transmissions of a list and of a window.
use Rattle.std.proofs.Common.{ℕ, zero, suc, ◌+◌, ◌*◌, ◌^◌, ◌<◌, ◌≤◌, Bool, true, false, cond, max, List, [], ◌∷◌, length, take, arith}
use Rattle.std.specs.Prelude.{fold}
use Rattle.std.specs.List.{AllByRecursion, filter, sum_by}
use Rattle.bus_strings.specs.Messages.{Entry, word_count}
use Rattle.bus_strings.specs.Transmissions.{end_of}
use Rattle.bus_strings.proofs.KeptLemmas.{words_most}
use Rattle.bus_trace.specs.Traces.{IsBelow}
use Rattle.bus_shapes.specs.Sending.{sent_of, sents, sents_from}
use Rattle.bus_cycles.specs.inside.Bounds.{IsSent}

entry_ends : (horizon : ℕ) (x : Entry) → horizon ≤ 2 ^ 40 → IsBelow horizon x → end_of x ≤ 2 ^ 40 + 2 ^ 18
entry_ends horizon x low below =
    let few : length x.message ≤ 31 = below.message.few in
    let words : sum_by word_count x.message ≤ 257 * length x.message = words_most x.message below.message.strings in
    let early : x.moment < horizon = below.moment in
    omega arith

all_end : (horizon k end : ℕ) (xs : List Entry) → horizon ≤ 2 ^ 40 → end ≤ 2 ^ 40 + 2 ^ 18 → AllByRecursion (IsBelow horizon) xs
    → fold (λ (n : ℕ) (x : Entry). max n (end_of x)) end (take k xs) ≤ 2 ^ 40 + 2 ^ 18
all_end horizon zero end xs low so_far below = so_far
all_end horizon (suc k) end [] low so_far below = so_far
all_end horizon (suc k) end (x ∷ xs) low so_far below =
    let here : end_of x ≤ 2 ^ 40 + 2 ^ 18 = entry_ends horizon x low below.0 in
    all_end horizon k (max end (end_of x)) xs low (omega arith) below.1

entry_is_sent : (list : List Entry) (horizon k : ℕ) (x : Entry) → horizon ≤ 2 ^ 40 → AllByRecursion (IsBelow horizon) list → IsBelow horizon x
    → IsSent (sent_of list k x)
entry_is_sent list horizon k x low all below =
    record { order = omega arith; low = entry_ends horizon x low below; before = all_end horizon k 0 list low (omega arith) all }

each_from : (all : List Entry) (horizon n : ℕ) (xs : List Entry) → horizon ≤ 2 ^ 40 → AllByRecursion (IsBelow horizon) all
    → AllByRecursion (IsBelow horizon) xs → AllByRecursion IsSent (sents_from all n xs)
each_from all horizon n [] low whole below = tt
each_from all horizon n (x ∷ xs) low whole below = (entry_is_sent all horizon n x low whole below.0, each_from all horizon (n + 1) xs low whole below.1)

pub each_sent : (list : List Entry) (horizon : ℕ) → horizon ≤ 2 ^ 40 → AllByRecursion (IsBelow horizon) list → AllByRecursion IsSent (sents list)
each_sent list horizon low below = each_from list horizon 0 list low below below

pub filtered : {X : Type 0} (P : X → Type 0) (p : X → Bool) → (xs : List X) → AllByRecursion P xs → AllByRecursion P (filter p xs)
filtered P p [] all = tt
filtered P p (x ∷ xs) all =
    elim (p x) as (λ b. AllByRecursion P (cond b (x ∷ filter p xs) (filter p xs))) [ true ↦ (all.0, filtered P p xs all.1) | false ↦ filtered P p xs all.1 ]

pub filtered_few : {X : Type 0} (p : X → Bool) → (xs : List X) → length (filter p xs) ≤ length xs
filtered_few p [] = omega arith
filtered_few p (x ∷ xs) =
    let rest : length (filter p xs) ≤ length xs = filtered_few p xs in
    elim (p x) as (λ b. length (cond b (x ∷ filter p xs) (filter p xs)) ≤ length (x ∷ xs)) [ true ↦ omega arith | false ↦ omega arith ]
