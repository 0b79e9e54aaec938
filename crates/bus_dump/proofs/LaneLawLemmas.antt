-- How many lanes a terminal has.
use Rattle.std.proofs.Common.{◌≡◌, ℕ, zero, suc, ◌+◌, ◌<◌, ◌≤◌, Bool, true, false, not, cond, ◌&&◌, ◌||◌, eqb, List, [], ◌∷◌, ◌++◌, length, map}
use Rattle.std.proofs.Common.{inl, inr, arith, subst, sym, refl, ap, ◌∙◌}
use Rattle.std.specs.Prelude.{nat_lt, IsTrue}
use Rattle.std.specs.List.{AllByRecursion, filter, list_any, range_with_len}
use Rattle.std.proofs.lemmas.Bool.{and_parts, cases_Bool, cases_eq, eq-eqb, eqb-true, ne_eqb, not-true, true≢false}
use Rattle.std.proofs.lemmas.List.{length-append}
use Rattle.std.proofs.lemmas.List.Elements.{filter-append}
use Rattle.std.proofs.lemmas.List.Sums.{length-filter}
use Rattle.bus_strings.proofs.MemberLaws.{any_in, from_filter, from_map, in_append_cases, none_any}
use Rattle.bus_strings.specs.Members.{In}
use Rattle.bus_strings.specs.Messages.{Entry}
use Rattle.bus_table.specs.inside.Facts.{TableFacts}
use Rattle.bus_table.specs.Tables.{Sender, Table}
use Rattle.bus_table.proofs.TurnLaws.{from_sort, numbers_differ}
use Rattle.bus_table.specs.Turns.{insert, sort, turn_key, turn_order}
use Rattle.bus_table.specs.inside.Orders.{Differ}
use Rattle.bus_table.specs.Valid.{is_valid}
use Rattle.bus_table.proofs.ValidLaws.{valid_facts}
use Rattle.bus_trace.specs.Traces.{IsBelow, IsTrace, Recording}
use Rattle.bus_dump.specs.declared.lane.Lane.{Lane}
use Rattle.bus_dump.specs.Lanes.{is_sender, is_stranger, lanes, sender_lane, sends, stranger_lane}
use Rattle.bus_dump.specs.Laws.{LanesAreTerminals, lane_count}

-- ---- counts
-- how many pass a test
abbrev kept : {X : Type 0} → (X → Bool) → List X → ℕ
kept p xs = length (filter p xs)

kept_append : {X : Type 0} (p : X → Bool) (xs ys : List X) → kept p (xs ++ ys) ≡ kept p xs + kept p ys
kept_append p xs ys = ap length (filter-append p xs ys) ∙ length-append (filter p xs) (filter p ys)

kept_map : {X Y : Type 0} (p : Y → Bool) (f : X → Y) (xs : List X) → kept p (map f xs) ≡ kept (λ x. p (f x)) xs
kept_map p f [] = refl
kept_map p f (x ∷ xs) =
    let rest : kept p (map f xs) ≡ kept (λ x. p (f x)) xs = kept_map p f xs in
    elim (p (f x)) as (λ b. length (cond b (f x ∷ filter p (map f xs)) (filter p (map f xs)))
    ≡ length (cond b (x ∷ filter (λ x. p (f x)) xs) (filter (λ x. p (f x)) xs))) [
      | true ↦ ap suc rest
      | false ↦ rest
    ]

kept_first : {X : Type 0} (p : X → Bool) (x : X) (xs : List X) → kept p (x ∷ xs) ≡ cond (p x) 1 0 + kept p xs
kept_first p x xs =
    elim (p x) as (λ b. length (cond b (x ∷ filter p xs) (filter p xs)) ≡ cond b 1 0 + length (filter p xs)) [
      | true ↦ omega arith
      | false ↦ omega arith
    ]

-- turn order has as many as the senders
kept_insert : (key : Sender → ℕ) (p : Sender → Bool) (a : Sender) (bs : List Sender)
    → kept p (insert key a bs) ≡ cond (p a) 1 0 + kept p bs
kept_insert key p a [] = kept_first p a []
kept_insert key p a (b ∷ bs) =
    let rest : kept p (insert key a bs) ≡ cond (p a) 1 0 + kept p bs = kept_insert key p a bs in
    let later : kept p (b ∷ insert key a bs) ≡ cond (p b) 1 0 + kept p (insert key a bs) = kept_first p b (insert key a bs) in
    let own : kept p (b ∷ bs) ≡ cond (p b) 1 0 + kept p bs = kept_first p b bs in
    elim (nat_lt (key a) (key b)) as (λ w. kept p (cond w (a ∷ (b ∷ bs)) (b ∷ insert key a bs)) ≡ cond (p a) 1 0 + kept p (b ∷ bs)) [
      | true ↦ kept_first p a (b ∷ bs)
      | false ↦ omega (arith, rest, later, own)
    ]

kept_sort : (key : Sender → ℕ) (p : Sender → Bool) (bs : List Sender) → kept p (sort key bs) ≡ kept p bs
kept_sort key p [] = refl
kept_sort key p (a ∷ bs) =
    kept_insert key p a (sort key bs) ∙ ap (λ n. cond (p a) 1 0 + n) (kept_sort key p bs) ∙ sym (kept_first p a bs)

-- senders whose numbers differ have each number once
kept_senders : (n : ℕ) (bs : List Sender) → Differ (λ s. s.number) bs
    → kept (λ (s : Sender). eqb s.number n) bs ≡ cond (list_any (λ (s : Sender). eqb s.number n) bs) 1 0
kept_senders n [] d = refl
kept_senders n (b ∷ bs) d =
    let is : Sender → Bool = λ s. eqb s.number n in
    let rest : kept is bs ≡ cond (list_any is bs) 1 0 = kept_senders n bs d.1 in
    elim (cases_Bool (eqb b.number n)) [
      | inl own ↦
          let none : list_any is bs ≡ false = none_any is bs (λ c i. ne_eqb c.number n (λ k. d.0 c i (eqb-true b.number n own ∙ sym k))) in
          ap (λ w. length (cond w (b ∷ filter is bs) (filter is bs))) own
          ∙ ap suc (rest ∙ ap (λ w. cond w 1 0) none)
          ∙ sym (ap (λ w. cond (w || list_any is bs) 1 0) own)
      | inr other ↦
          ap (λ w. length (cond w (b ∷ filter is bs) (filter is bs))) other ∙ rest ∙ sym (ap (λ w. cond (w || list_any is bs) 1 0) other)
    ]

-- a number that a test refuses isn't kept
kept_refused : (n : ℕ) (p : ℕ → Bool) (ks : List ℕ) → p n ≡ false → kept (λ k. eqb k n) (filter p ks) ≡ 0
kept_refused n p [] h = refl
kept_refused n p (k ∷ ks) h =
    let is : ℕ → Bool = λ k. eqb k n in
    let ns : List ℕ = filter p ks in
    let rest : kept is ns ≡ 0 = kept_refused n p ks h in
    elim (p k) as (λ b. p k ≡ b → kept is (cond b (k ∷ ns) ns) ≡ 0) [
      | true ↦ λ yes'. ap (λ b. length (cond b (k ∷ filter is ns) (filter is ns)))
          (ne_eqb k n (λ same. true≢false (sym yes' ∙ ap p same ∙ h)))
          ∙ rest
      | false ↦ λ no'. rest
    ] refl

-- a number before a range isn't of it, and one in it is of it once
kept_before : (n a m : ℕ) (p : ℕ → Bool) → n < a → kept (λ k. eqb k n) (filter p (range_with_len a m)) ≡ 0
kept_before n a zero p h = refl
kept_before n a (suc m) p h =
    let is : ℕ → Bool = λ k. eqb k n in
    let ks : List ℕ = filter p (range_with_len (a + 1) m) in
    let other : eqb a n ≡ false = ne_eqb a n (λ e. let w : a ≡ n = e in absurd (omega arith)) in
    let rest : kept is ks ≡ 0 = kept_before n (a + 1) m p (omega arith) in
    elim (p a) as (λ b. kept is (cond b (a ∷ ks) ks) ≡ 0) [
      | true ↦ ap (λ b. length (cond b (a ∷ filter is ks) (filter is ks))) other ∙ rest
      | false ↦ rest
    ]

kept_within : (n a m : ℕ) (p : ℕ → Bool) → a ≤ n → n < a + m
    → kept (λ k. eqb k n) (filter p (range_with_len a m)) ≡ cond (p n) 1 0
kept_within n a zero p h l = absurd (omega arith)
kept_within n a (suc m) p h l =
    let is : ℕ → Bool = λ k. eqb k n in
    let ks : List ℕ = filter p (range_with_len (a + 1) m) in
    elim (cases_eq a n) [
      | inl same ↦
          let rest : kept is ks ≡ 0 = kept_before n (a + 1) m p (omega arith) in
          let both : kept is (cond (p a) (a ∷ ks) ks) ≡ cond (p a) 1 0 =
          elim (p a) as (λ b. kept is (cond b (a ∷ ks) ks) ≡ cond b 1 0) [
            | true ↦ ap (λ b. length (cond b (a ∷ filter is ks) (filter is ks))) (eq-eqb a n same) ∙ ap suc rest
            | false ↦ rest
          ] in
          both ∙ ap (λ k. cond (p k) 1 0) same
      | inr other ↦
          let rest : kept is ks ≡ cond (p n) 1 0 = kept_within n (a + 1) m p (omega (arith, other)) (omega arith) in
          elim (p a) as (λ b. kept is (cond b (a ∷ ks) ks) ≡ cond (p n) 1 0) [
            | true ↦ ap (λ b. length (cond b (a ∷ filter is ks) (filter is ks))) (ne_eqb a n other) ∙ rest
            | false ↦ rest
          ]
    ]

-- ---- lanes
-- who sends in a list is in the range of terminals
pub senders_range : (horizon n : ℕ) (list : List Entry) → AllByRecursion (IsBelow horizon) list → sends list n ≡ true → (1 ≤ n) × (n ≤ 128)
senders_range horizon n [] all h = absurd (true≢false (sym h))
senders_range horizon n (x ∷ list) all h =
    elim (cases_Bool (eqb x.terminal n)) [
      | inl own ↦
          let same : x.terminal ≡ n = eqb-true x.terminal n own in
          let least : 1 ≤ x.terminal = all.0.positive in
          let most : x.terminal ≤ 128 = all.0.low in
          (omega (arith, same, least), omega (arith, same, most))
      | inr other ↦ senders_range horizon n list all.1 (sym (ap (λ b. b || sends list n) other) ∙ h)
    ]

-- a terminal has one lane where it is a sender or sends, and else none
strangers_of : (table : Table) (list : List Entry) (n : ℕ) → (sends list n ≡ true → (1 ≤ n) × (n ≤ 128))
    → kept (λ k. eqb k n) (filter (is_stranger table list) (range_with_len 1 128)) ≡ cond (is_stranger table list n) 1 0
strangers_of table list n within =
    elim (cases_Bool (sends list n)) [
      | inl yes' ↦ let w = within yes' in kept_within n 1 128 (is_stranger table list) w.0 (omega (arith, w.1))
      | inr no' ↦
          let not_one : is_stranger table list n ≡ false = ap (λ b. not (is_sender table n) && b) no' ∙ never (not (is_sender table n)) in
          kept_refused n (is_stranger table list) (range_with_len 1 128) not_one ∙ sym (ap (λ b. cond b 1 0) not_one)
    ]
  where
    never : (b : Bool) → (b && false) ≡ false
    never true = refl
    never false = refl

either_once : (s w : Bool) → cond s 1 0 + cond (not s && w) 1 0 ≡ cond (s || w) 1 0
either_once true w = refl
either_once false w = omega arith

pub lanes_counted : (table : Table) (list : List Entry) (n : ℕ) → TableFacts table → (sends list n ≡ true → (1 ≤ n) × (n ≤ 128))
    → lane_count table list n ≡ cond (is_sender table n || sends list n) 1 0
lanes_counted table list n facts within =
    let of : Lane → Bool = λ lane. eqb lane.terminal n in
    let strangers : List ℕ = filter (is_stranger table list) (range_with_len 1 128) in
    let front : kept of (map sender_lane (turn_order table)) ≡ cond (is_sender table n) 1 0 =
    kept_map of sender_lane (turn_order table)
    ∙ kept_sort (turn_key table.mode) (λ (s : Sender). eqb s.number n) table.senders
    ∙ kept_senders n table.senders (numbers_differ table facts) in
    let behind : kept of (map stranger_lane strangers) ≡ cond (not (is_sender table n) && sends list n) 1 0 =
    kept_map of stranger_lane strangers ∙ strangers_of table list n within in
    sym (length-filter of (lanes table list))
    ∙ kept_append of (map sender_lane (turn_order table)) (map stranger_lane strangers)
    ∙ ap (λ k. k + kept of (map stranger_lane strangers)) front
    ∙ ap (λ k. cond (is_sender table n) 1 0 + k) behind
    ∙ either_once (is_sender table n) (sends list n)

-- what a lane tells of its terminal
pub record LaneFacts (table : Table) (list : List Entry) (lane : Lane) : Type 0 where
  pub kind : lane.sender ≡ is_sender table lane.terminal
  pub some : (is_sender table lane.terminal || sends list lane.terminal) ≡ true

of_sender : (table : Table) (list : List Entry) (sender : Sender) → In sender table.senders → LaneFacts table list (sender_lane sender)
of_sender table list sender i =
    let is : is_sender table sender.number ≡ true =
    any_in (λ (s : Sender). eqb s.number sender.number) table.senders sender i (eq-eqb sender.number sender.number refl) in
    record { kind = sym is; some = ap (λ b. b || sends list sender.number) is }

of_stranger : (table : Table) (list : List Entry) (n : ℕ) → is_stranger table list n ≡ true → LaneFacts table list (stranger_lane n)
of_stranger table list n h =
    let parts = and_parts (not (is_sender table n)) (sends list n) h in
    let no' : is_sender table n ≡ false = not-true (is_sender table n) parts.0 in
    record { kind = sym no'; some = ap (λ b. b || sends list n) no' ∙ parts.1 }

pub lane_facts : (table : Table) (list : List Entry) (lane : Lane) → In lane (lanes table list) → LaneFacts table list lane
lane_facts table list lane i =
    let strangers : List ℕ = filter (is_stranger table list) (range_with_len 1 128) in
    elim (in_append_cases (map sender_lane (turn_order table)) (map stranger_lane strangers) lane i) [
      | inl front ↦
          let w = from_map sender_lane (turn_order table) lane front in
          subst (LaneFacts table list) w.2 (of_sender table list w.0 (from_sort (turn_key table.mode) table.senders w.0 w.1))
      | inr behind ↦
          let w = from_map stranger_lane strangers lane behind in
          subst (LaneFacts table list) w.2
          (of_stranger table list w.0 (from_filter (is_stranger table list) (range_with_len 1 128) w.0 w.1).1)
    ]

-- ---- the law
pub lanes_agree : LanesAreTerminals
lanes_agree table trace valid is =
    let list : List Entry = trace.list in
    let counted : (n : ℕ) → lane_count table list n ≡ cond (is_sender table n || sends list n) 1 0 =
    λ n. lanes_counted table list n (valid_facts table valid) (senders_range trace.horizon n list is.list) in
    record {
      senders = λ sender i.
          let own : is_sender table sender.number ≡ true =
          any_in (λ (s : Sender). eqb s.number sender.number) table.senders sender i (eq-eqb sender.number sender.number refl) in
          counted sender.number ∙ ap (λ b. cond (b || sends list sender.number) 1 0) own;
      sending = λ x i.
          let own : sends list x.terminal ≡ true =
          any_in (λ (y : Entry). eqb y.terminal x.terminal) list x i (eq-eqb x.terminal x.terminal refl) in
          counted x.terminal ∙ ap (λ b. cond (is_sender table x.terminal || b) 1 0) own ∙ ap (λ b. cond b 1 0) (either (is_sender table x.terminal));
      others = λ n first second.
          counted n ∙ ap (λ b. cond (b || sends list n) 1 0) first ∙ ap (λ b. cond b 1 0) second;
      some = λ lane i. (lane_facts table list lane i).some;
      kind = λ lane i. (lane_facts table list lane i).kind;
    }
  where
    either : (b : Bool) → (b || true) ≡ true
    either true = refl
    either false = refl

-- so no terminal has two
pub lane_once : (table : Table) (trace : Recording) (n : ℕ) → IsTrue (is_valid table) → IsTrace trace → lane_count table trace.list n ≤ 1
lane_once table trace n valid is =
    let list : List Entry = trace.list in
    subst (λ k. k ≤ 1) (sym (lanes_counted table list n (valid_facts table valid) (senders_range trace.horizon n list is.list)))
    (once (is_sender table n || sends list n))
  where
    once : (b : Bool) → cond b 1 0 ≤ 1
    once true = omega arith
    once false = omega arith

-- so who sends has a lane
kept_in : (n : ℕ) (ls : List Lane) → 0 < kept (λ (l : Lane). eqb l.terminal n) ls → (lane : Lane) × In lane ls × (lane.terminal ≡ n)
kept_in n [] some = absurd (omega arith)
kept_in n (l ∷ ls) some =
    let of : Lane → Bool = λ k. eqb k.terminal n in
    elim (cases_Bool (eqb l.terminal n)) [
      | inl own ↦ (l, inl refl, eqb-true l.terminal n own)
      | inr other ↦
          let less : kept of (l ∷ ls) ≡ kept of ls = ap (λ b. length (cond b (l ∷ filter of ls) (filter of ls))) other in
          let more = kept_in n ls (omega (arith, some, less)) in (more.0, inr more.1, more.2)
    ]

pub lane_of : (table : Table) (trace : Recording) → IsTrue (is_valid table) → IsTrace trace → (x : Entry) → In x trace.list
    → (lane : Lane) × In lane (lanes table trace.list) × (lane.terminal ≡ x.terminal)
lane_of table trace valid is x i =
    let one : lane_count table trace.list x.terminal ≡ 1 = (lanes_agree table trace valid is).sending x i in
    let same : kept (λ (l : Lane). eqb l.terminal x.terminal) (lanes table trace.list) ≡ lane_count table trace.list x.terminal =
    length-filter (λ (l : Lane). eqb l.terminal x.terminal) (lanes table trace.list) in
    kept_in x.terminal (lanes table trace.list) (omega (arith, one, same))
