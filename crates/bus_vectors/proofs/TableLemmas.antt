-- Every made table is valid: there are thirty of them.
use Rattle.std.proofs.Common.{arith, ◌≡◌, ℕ, zero, suc, ◌+◌, ◌-◌, ◌<◌, ◌≤◌, Bool, true, cond, List, [], ◌∷◌, ◌++◌, map, Option, Some, None, refl}
use Rattle.std.proofs.Common.{sym, ap, subst, ◌∙◌}
use Rattle.std.specs.Prelude.{IsSome}
use Rattle.std.specs.List.{list_all, range_with_len}
use Rattle.std.proofs.lemmas.Bool.{and_parts}
use Rattle.std.proofs.lemmas.List.FromFn.{map-range_with_len_more}
use Rattle.bus_strings.specs.Limits.{most_terminal}
use Rattle.bus_table.specs.declared.line.TakeLine.{TakeLine}
use Rattle.bus_table.specs.declared.mode.Mode.TheVariants.{Aperiodic}
use Rattle.bus_table.specs.Ranges.{is_sender, is_listener, kept}
use Rattle.bus_table.specs.Tables.{Sender, Listener, Table}
use Rattle.bus_table.specs.Valid.{is_table, is_valid}
use Rattle.bus_vectors.specs.Made.{sender_count, sender_numbers, made_sender, made_senders, made_take, made_listener, made_gap, made_cycle, table_of, made_table}
use Rattle.bus_vectors.specs.MadeLaws.{MadeTablesAreValid}

-- what holds of each of some numbers holds of one of them
pub each_of : (p : ℕ → Bool) (a n k : ℕ) → list_all p (range_with_len a n) ≡ true → k < n → p (a + k) ≡ true
each_of p a zero k h less = absurd (omega arith)
each_of p a (suc n) zero h less = let e : a ≡ a + 0 = omega arith in subst (λ m. p m ≡ true) e (and_parts (p a) _ h).0
each_of p a (suc n) (suc k) h less =
    let e : (a + 1) + k ≡ a + suc k = omega arith in
    subst (λ m. p m ≡ true) e (each_of p (a + 1) n k (and_parts (p a) _ h).1 (omega arith))

pub each_between : (p : ℕ → Bool) (a n i : ℕ) → list_all p (range_with_len a n) ≡ true → a ≤ i → i < a + n → p i ≡ true
each_between p a n i h least less = let e : a + (i - a) ≡ i = omega arith in subst (λ m. p m ≡ true) e (each_of p a n (i - a) h (omega arith))

senders_range : list_all (λ i. is_sender (made_sender i)) (range_with_len 1 31) ≡ true
senders_range = refl

pub sender_is : (i : ℕ) → 1 ≤ i → i ≤ 31 → is_sender (made_sender i) ≡ true
sender_is i least most = each_between (λ i. is_sender (made_sender i)) 1 31 i senders_range least (omega arith)

listeners_range : list_all (λ k. is_listener (made_listener k)) (range_with_len 0 32) ≡ true
listeners_range = refl

pub listener_is : (k : ℕ) → k ≤ 31 → is_listener (made_listener k) ≡ true
listener_is k most = each_between (λ k. is_listener (made_listener k)) 0 32 k listeners_range (omega arith) (omega arith)

tables_range : list_all (λ k. is_table (table_of k)) (range_with_len 2 30) ≡ true
tables_range = refl

tables_valid : list_all (λ k. is_valid (table_of k)) (range_with_len 2 30) ≡ true
tables_valid = refl

pub table_is : (number : ℕ) → is_table (made_table number) ≡ true
table_is number = each_between (λ k. is_table (table_of k)) 2 30 (sender_count number) tables_range (omega arith) (omega arith)

pub made_tables_are_valid : MadeTablesAreValid
made_tables_are_valid number = each_between (λ k. is_valid (table_of k)) 2 30 (sender_count number) tables_valid (omega arith) (omega arith)

-- ---- values that are made
kept_true : {X : Type 0} (test : X → Bool) (value : X) → test value ≡ true → kept test value ≡ Some value
kept_true test value h = ap (λ b. cond b (Some value) None) h

pub is_some_of : {X : Type 0} (result : Option X) (value : X) → result ≡ Some value → IsSome result
is_some_of result value h = subst IsSome (sym h) refl

pub unwrapped : {X : Type 0} (result : Option X) (value made : X) → result ≡ Some made → result ≡ Some value → value ≡ made
unwrapped result value made h k = cc

-- one more behind those that were made
pub mapped_next : {X : Type 0} (f : ℕ → X) (i : ℕ) (x : X) (old new : List X) → 1 ≤ i → new ≡ old ++ x ∷ [] → x ≡ f i
    → old ≡ map f (range_with_len 1 (i - 1)) → (1 ≤ i + 1) × (new ≡ map f (range_with_len 1 (i + 1 - 1)))
mapped_next {X} f i x old new least h value before =
    let n : (i - 1) + 1 ≡ i + 1 - 1 = omega arith in
    let at : 1 + (i - 1) ≡ i = omega arith in (
      omega arith,
      h ∙ ap (λ (l : List X). l ++ x ∷ []) before ∙ ap (λ (y : X). map f (range_with_len 1 (i - 1)) ++ y ∷ []) value
          ∙ sym (map-range_with_len_more f 1 (i - 1) i at) ∙ ap (λ m. map f (range_with_len 1 m)) n,
    )

-- the listener
pub listener_made : (count i : ℕ) (takes : List TakeLine) (result : Option Listener) → count ≤ 31 → i ≡ count + 1
    → takes ≡ map made_take (range_with_len 1 (i - 1)) → result ≡ kept is_listener (record { number = most_terminal; takes = takes })
    → result ≡ Some (made_listener count)
listener_made count i takes result most end takes_are h =
    let e : i - 1 ≡ count = omega arith in
    let all : takes ≡ map made_take (sender_numbers count) = takes_are ∙ ap (λ n. map made_take (range_with_len 1 n)) e in
    h ∙ ap (λ (ts : List TakeLine). kept is_listener (record { number = 128; takes = ts })) all
    ∙ kept_true is_listener (made_listener count) (listener_is count most)

abbrev made_of : ℕ → List Sender → List Listener → Table
made_of ti senders listeners = record { mode = Aperiodic; ti = ti; sg = made_gap; senders = senders; listeners = listeners }

-- the table
pub table_made : (number ti : ℕ) (senders : List Sender) (listeners : List Listener) (result : Option Table)
    → senders ≡ made_senders (sender_count number) → listeners ≡ made_listener (sender_count number) ∷ [] → ti ≡ made_cycle senders
    → result ≡ kept is_table (record { mode = Aperiodic; ti = ti; sg = made_gap; senders = senders; listeners = listeners })
    → result ≡ Some (made_table number)
table_made number ti senders listeners result s l t h =
    let same : made_of ti senders listeners ≡ made_table number =
    ap (λ n. made_of n senders listeners) (t ∙ ap made_cycle s)
    ∙ ap (λ (ss : List Sender). made_of (made_cycle (made_senders (sender_count number))) ss listeners) s
    ∙ ap (λ (ls : List Listener). made_of (made_cycle (made_senders (sender_count number))) (made_senders (sender_count number)) ls) l in
    h ∙ ap (kept is_table) same ∙ kept_true is_table (made_table number) (table_is number)
