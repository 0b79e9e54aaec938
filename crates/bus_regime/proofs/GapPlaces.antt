-- The gaps by their places in turn order.
use Rattle.std.proofs.Common.{◌≡◌, ◌≢◌, ℕ, zero, suc, ◌+◌, ◌<◌, ◌≤◌, ◌⊎◌, List, [], ◌∷◌, ◌++◌, length, get_or, take, drop, set, ◌^◌, inl, inr, arith, sym, refl, ap, ◌∙◌, subst, cond}
use Rattle.std.specs.Prelude.{Bool, true, false, Option, Some, None, slice_get, IsSomeAnd, IsTrue}
use Rattle.std.specs.List.{find}
use Rattle.std.proofs.lemmas.Bool.{cases_lt}
use Rattle.std.proofs.lemmas.List.{take_all, drop_all, get_or-set_same, get_or-set_other}
use Rattle.std.proofs.lemmas.Option.{slice_get_read}
use Rattle.bus_strings.specs.Members.{In}
use Rattle.bus_strings.proofs.ListLaws.{some_at, take_read, drop_at}
use Rattle.bus_table.specs.Tables.{Sender, Table}
use Rattle.bus_table.specs.Turns.{turn_key, turn_order}
use Rattle.bus_table.proofs.TurnLaws.{at_in, from_sort, length-sort, numbers_differ}
use Rattle.bus_table.specs.Valid.{is_valid}
use Rattle.bus_table.proofs.ValidLaws.{valid_facts}
use Rattle.bus_regime.proofs.GapLaws.{gap_first, gap_next, last_of, same_by_number}
use Rattle.bus_regime.specs.Ends.{IsEnd, AreEnds}
use Rattle.bus_regime.specs.Gaps.{Gap, latest_end, last_end, gaps_from, gaps}

first_gap : (table : Table) (n : ℕ) (p s : Sender) → suc n ≡ length table.senders → slice_get (turn_order table) n ≡ Some p
    → slice_get (turn_order table) 0 ≡ Some s → slice_get (gaps table) 0 ≡ Some (record { sender = s; from = latest_end p; to = table.ti + s.at })
first_gap table n p s e h i =
    let long = length-sort (turn_key table.mode) table.senders in
    let last : last_end 0 (turn_order table) ≡ latest_end p = last_of (turn_order table) n p (e ∙ sym long) h in
    ap (λ (f : ℕ). slice_get (gaps_from table.ti f (turn_order table)) 0) last ∙ gap_first table.ti (latest_end p) (turn_order table) s i

length-gaps_from : (ti from : ℕ) (order : List Sender) → length (gaps_from ti from order) ≡ length order
length-gaps_from ti from [] = refl
length-gaps_from ti from (s ∷ order) = let rest = length-gaps_from ti (ti + latest_end s) order in omega (arith, rest)

-- there are as many gaps as senders
pub length-gaps : (table : Table) → length (gaps table) ≡ length table.senders
length-gaps table = length-gaps_from table.ti (last_end 0 (turn_order table)) (turn_order table) ∙ length-sort (turn_key table.mode) table.senders

pub turn_in : (table : Table) (k : ℕ) (a : Sender) → slice_get (turn_order table) k ≡ Some a → In a table.senders
turn_in table k a h = from_sort (turn_key table.mode) table.senders a (at_in (turn_order table) k a h)

pub some_of : {A : Type 0} (P : A → Type 0) (o : Option A) → IsSomeAnd o P → (a : A) × (o ≡ Some a) × P a
some_of P None h = absurd h
some_of P (Some a) h = (a, refl, h)

pub some_and : {A : Type 0} (P : A → Type 0) (o : Option A) (a : A) → o ≡ Some a → P a → IsSomeAnd o P
some_and P o a e h = subst (λ q. IsSomeAnd q P) (sym e) h

-- the sender with the number of the one in this place of turn order is that one
pub turn_told : (table : Table) (k number : ℕ) (senders : List Sender) (i : ℕ) (b : Sender) → IsTrue (is_valid table) → senders ≡ table.senders
    → IsSomeAnd (slice_get (turn_order table) k) (λ s. number ≡ s.number) → i < length senders → b ≡ get_or senders i b → b.number ≡ number
    → slice_get (turn_order table) k ≡ Some b
turn_told table k number senders i b valid same has h e n =
    let w = some_of (λ (s : Sender). number ≡ s.number) (slice_get (turn_order table) k) has in
    let there : In b table.senders = subst (λ ss. In b ss) same (at_in senders i b (slice_get_read senders (length senders) i b refl h e)) in
    let found : b ≡ w.0 = same_by_number table.senders (numbers_differ table (valid_facts table valid)) b w.0 there (turn_in table k w.0 w.1) (n ∙ w.2) in
    w.1 ∙ ap Some (sym found)

-- and there is one
pub turn_missing : (table : Table) (k number : ℕ) (senders : List Sender) (i : ℕ) → senders ≡ table.senders
    → IsSomeAnd (slice_get (turn_order table) k) (λ s. number ≡ s.number) → length senders ≤ i
    → ((s : Sender) → In s (take i senders) → s.number ≢ number) → ⊥
turn_missing table k number senders i same has all none =
    let w = some_of (λ (s : Sender). number ≡ s.number) (slice_get (turn_order table) k) has in
    none w.0 (subst (λ ss. In w.0 ss) (sym (take_all i senders all)) (subst (λ ss. In w.0 ss) (sym same) (turn_in table k w.0 w.1))) (sym w.2)

in_push : (xs : List Sender) (y x : Sender) → In x (xs ++ y ∷ []) → In x xs ⊎ (x ≡ y)
in_push [] y x (inl e) = inr e
in_push [] y x (inr i) = absurd i
in_push (z ∷ xs) y x (inl e) = inl (inl e)
in_push (z ∷ xs) y x (inr i) = elim (in_push xs y x i) [ inl j ↦ inl (inr j) | inr e ↦ inr e ]

-- none of the senders so far has this number, and the next one hasn't
pub none_further : (senders : List Sender) (number i : ℕ) (b : Sender) → i < length senders → b ≡ get_or senders i b → b.number ≢ number
    → ((s : Sender) → In s (take i senders) → s.number ≢ number) → (s : Sender) → In s (take (i + 1) senders) → s.number ≢ number
none_further senders number i b h e unlike none s j =
    elim (in_push (take i senders) b s (subst (λ l. In s l) (take_read senders i b h e) j)) [
      | inl k ↦ none s k
      | inr same ↦ λ n. unlike (sym (ap (λ (x : Sender). x.number) same) ∙ n)
    ]

pub in_order : (table : Table) (k : ℕ) → k < length table.senders → (a : Sender) × (slice_get (turn_order table) k ≡ Some a)
in_order table k h =
    let same : length (turn_order table) ≡ length table.senders = length-sort (turn_key table.mode) table.senders in
    some_at (turn_order table) k (omega (arith, h, same))

-- where the first gap begins, and each other
pub first_from : (table : Table) (k n end : ℕ) (p : Sender) → k ≡ 0 → k < length table.senders → suc n ≡ length table.senders
    → slice_get (turn_order table) n ≡ Some p → end ≡ latest_end p → IsSomeAnd (slice_get (gaps table) k) (λ gap. end ≡ gap.from)
first_from table k n end p zero_k h last at is =
    let s = in_order table 0 (omega (arith, zero_k, h)) in
    some_and (λ (gap : Gap). end ≡ gap.from) (slice_get (gaps table) k) (record { sender = s.0; from = latest_end p; to = table.ti + s.0.at })
    (ap (slice_get (gaps table)) zero_k ∙ first_gap table n p s.0 last at s.1) is

pub next_from : (table : Table) (k n end : ℕ) (p : Sender) → suc n ≡ k → k < length table.senders → slice_get (turn_order table) n ≡ Some p
    → end ≡ table.ti + latest_end p → IsSomeAnd (slice_get (gaps table) k) (λ gap. end ≡ gap.from)
next_from table k n end p next h at is =
    let s = in_order table k h in
    some_and (λ (gap : Gap). end ≡ gap.from) (slice_get (gaps table) k) (record { sender = s.0; from = table.ti + latest_end p; to = table.ti + s.0.at })
    (ap (slice_get (gaps table)) (sym next) ∙ gap_next table.ti (last_end 0 (turn_order table)) (turn_order table) n p s.0 at (ap (slice_get (turn_order table)) next ∙ s.1)) is

-- so it is told by the ends of the longest messages
pub first_end : (table : Table) (ends : List ℕ) (k n : ℕ) → k ≡ 0 → k < length table.senders → suc n ≡ length table.senders → AreEnds table ends
    → IsSomeAnd (slice_get (gaps table) k) (λ gap. get_or ends n 0 ≡ gap.from)
first_end table ends k n zero_k h last are =
    let w = some_of (λ (s : Sender). get_or ends n 0 ≡ latest_end s) (slice_get (turn_order table) n) (are n (omega arith)).value in
    first_from table k n (get_or ends n 0) w.0 zero_k h last w.1 w.2

pub next_end : (table : Table) (ends : List ℕ) (k n from : ℕ) → suc n ≡ k → k < length table.senders → AreEnds table ends → from ≡ table.ti + get_or ends n 0
    → IsSomeAnd (slice_get (gaps table) k) (λ gap. from ≡ gap.from)
next_end table ends k n from next h are is =
    let w = some_of (λ (s : Sender). get_or ends n 0 ≡ latest_end s) (slice_get (turn_order table) n) (are n (omega arith)).value in
    next_from table k n from w.0 next h w.1 (is ∙ ap (λ e. table.ti + e) w.2)

-- one end more is told
pub end_more : (table : Table) (ends : List ℕ) (k v : ℕ) (s : Sender) → k < length ends → slice_get (turn_order table) k ≡ Some s → v ≡ latest_end s → v ≤ 2 ^ 33
    → ((i : ℕ) → i < k → IsEnd table ends i) → (i : ℕ) → i < k + 1 → IsEnd table (set ends k v) i
end_more table ends k v s inside at is low so i less = elim (cases_lt i k) [
  | inl before ↦
      let kept : get_or (set ends k v) i 0 ≡ get_or ends i 0 = get_or-set_other ends k i v 0 (λ e. omega arith) in
      record {
        bound = omega (arith, kept, (so i before).bound);
        value = subst (λ e. IsSomeAnd (slice_get (turn_order table) i) (λ (w : Sender). e ≡ latest_end w)) (sym kept) (so i before).value;
      }
  | inr here ↦
      let same : i ≡ k = omega arith in
      let put : get_or (set ends k v) i 0 ≡ v = ap (λ n. get_or (set ends k v) n 0) same ∙ get_or-set_same ends k v 0 inside in
      record {
        bound = omega arith;
        value = some_and (λ (w : Sender). get_or (set ends k v) i 0 ≡ latest_end w) (slice_get (turn_order table) i) s (ap (slice_get (turn_order table)) same ∙ at) (put ∙ is);
      }
]

gap_here : (ti from : ℕ) (order : List Sender) (k : ℕ) (s : Sender) → slice_get order k ≡ Some s
    → (f : ℕ) × (slice_get (gaps_from ti from order) k ≡ Some (record { sender = s; from = f; to = ti + s.at }))
gap_here ti from [] k s h = absurd (let w : None ≡ Some s = h in cc)
gap_here ti from (x ∷ xs) zero s h = (from, gap_first ti from (x ∷ xs) s h)
gap_here ti from (x ∷ xs) (suc k) s h = gap_here ti (ti + latest_end x) xs k s h

-- the gap of a sender, where its beginning is told
pub gap_told : (table : Table) (k from to : ℕ) (s : Sender) → slice_get (turn_order table) k ≡ Some s
    → IsSomeAnd (slice_get (gaps table) k) (λ gap. from ≡ gap.from) → to ≡ table.ti + s.at
    → slice_get (gaps table) k ≡ Some (record { sender = s; from = from; to = to })
gap_told table k from to s at has is =
    let g = some_of (λ (gap : Gap). from ≡ gap.from) (slice_get (gaps table) k) has in
    let here = gap_here table.ti (last_end 0 (turn_order table)) (turn_order table) k s at in
    let one : Gap = record { sender = s; from = here.0; to = table.ti + s.at } in
    let both : Some g.0 ≡ Some one = sym g.1 ∙ here.1 in
    let same : g.0 ≡ one = cc in
    let f : from ≡ here.0 = g.2 ∙ ap (λ (x : Gap). x.from) same in
    here.1 ∙ ap (λ n. let x : Gap = record { sender = s; from = n; to = table.ti + s.at } in Some x) (sym f)
    ∙ ap (λ n. let x : Gap = record { sender = s; from = from; to = n } in Some x) (sym is)

-- steps of a search over the gaps
pub step_found : (p : Gap → Bool) (all : List Gap) (k : ℕ) (g : Gap) → slice_get all k ≡ Some g → p g ≡ true → find p all ≡ find p (drop k all)
    → find p all ≡ Some g
step_found p all k g at passes h = h ∙ ap (find p) (drop_at all k g at) ∙ ap (λ b. cond b (Some g) (find p (drop (k + 1) all))) passes

pub step_next : (p : Gap → Bool) (all : List Gap) (k : ℕ) (g : Gap) → slice_get all k ≡ Some g → p g ≡ false → find p all ≡ find p (drop k all)
    → find p all ≡ find p (drop (k + 1) all)
step_next p all k g at fails h = h ∙ ap (find p) (drop_at all k g at) ∙ ap (λ b. cond b (Some g) (find p (drop (k + 1) all))) fails

pub step_end : (p : Gap → Bool) (all : List Gap) (k : ℕ) → find p all ≡ find p (drop k all) → length all ≤ k → find p all ≡ None
step_end p all k h whole = h ∙ ap (find p) (drop_all k all whole)
