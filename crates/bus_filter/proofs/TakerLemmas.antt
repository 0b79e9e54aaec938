-- The terminals of a valid table by number: one taker stands for each.
use Rattle.std.proofs.Common.{arith, zero, suc, ◌≡◌, ℕ, ◌<◌, Bool, true, false, cond, ◌||◌, ◌==◌, IsTrue, List, [], ◌∷◌, ◌++◌, length, map, get_or, None, refl, ap, sym, subst, ◌∙◌, append-nil}
use Rattle.std.specs.List.{list_any, filter, flat_map, Contains}
use Rattle.std.proofs.lemmas.Bool.Decides.{nat_tests}
use Rattle.std.proofs.lemmas.List.{map-append}
use Rattle.std.proofs.lemmas.List.Folds.{list_any-append}
use Rattle.bus_strings.specs.Messages.{Entry}
use Rattle.bus_table.specs.Tables.{Sender, Listener, Table}
use Rattle.bus_table.specs.Whole.{first_again, numbers, sender_numbers, listener_numbers}
use Rattle.bus_table.specs.Valid.{is_valid}
use Rattle.bus_table.proofs.TerminalLaws.{once}
use Rattle.bus_table.proofs.ValidLaws.{fresh_first}
use Rattle.bus_filter.specs.Received.{Taker, received_by, received, sender_taker, listener_taker, takers}

-- ---- numbers that stand once
-- a number that is one of the earlier ones stands no more
stands_no_more : (earlier : List ℕ) (ts : List Taker) (n : ℕ) → list_any (λ y. y == n) earlier ≡ true → first_again (λ y z. y == z) earlier (map (λ t. t.number) ts) ≡ None → filter (λ (t : Taker). t.number == n) ts ≡ []
stands_no_more earlier [] n e h = refl
stands_no_more earlier (t ∷ ts) n e h =
    let f = fresh_first (λ y z. y == z) earlier t.number (map (λ t. t.number) ts) h in
    let more : list_any (λ y. y == n) (earlier ++ t.number ∷ []) ≡ true = list_any-append (λ y. y == n) earlier (t.number ∷ []) ∙ ap (λ b. b || (t.number == n || false)) e in
    let other : (t.number == n) ≡ false = differs t.number n (list_any (λ y. y == t.number) earlier) f.0 (λ same. subst (λ m. list_any (λ y. y == m) earlier ≡ true) (sym same) e) in
    ap (λ b. cond b (t ∷ filter (λ (u : Taker). u.number == n) ts) (filter (λ (u : Taker). u.number == n) ts)) other ∙ stands_no_more (earlier ++ t.number ∷ []) ts n more f.1 where
      differs : (m n : ℕ) (b : Bool) → b ≡ false → (m ≡ n → b ≡ true) → (m == n) ≡ false
      differs m n b f k = by_eq (m == n) refl where
        by_eq : (t : Bool) → (m == n) ≡ t → t ≡ false
        by_eq true e = let same : m ≡ n = grind (arith, nat_tests) in let u = k same in absurd cc
        by_eq false e = refl

-- a taker is the one of its number
stands_once : (earlier : List ℕ) (ts : List Taker) (k : ℕ) (taker : Taker) → first_again (λ y z. y == z) earlier (map (λ t. t.number) ts) ≡ None → k < length ts → get_or ts k taker ≡ taker → filter (λ (t : Taker). t.number == taker.number) ts ≡ taker ∷ []
stands_once earlier [] k taker h within e = absurd (omega arith)
stands_once earlier (t ∷ ts) zero taker h within e =
    let f = fresh_first (λ y z. y == z) earlier t.number (map (λ t. t.number) ts) h in
    let number : t.number ≡ taker.number = ap (λ (u : Taker). u.number) e in
    let same : (t.number == taker.number) ≡ true = grind (arith, nat_tests) in
    let last : list_any (λ y. y == taker.number) (earlier ++ t.number ∷ []) ≡ true = list_any-append (λ y. y == taker.number) earlier (t.number ∷ []) ∙ ap (λ b. list_any (λ y. y == taker.number) earlier || (b || false)) same ∙ or_true (list_any (λ y. y == taker.number) earlier) in
    ap (λ b. cond b (t ∷ filter (λ (u : Taker). u.number == taker.number) ts) (filter (λ (u : Taker). u.number == taker.number) ts)) same
    ∙ ap (λ (us : List Taker). t ∷ us) (stands_no_more (earlier ++ t.number ∷ []) ts taker.number last f.1) ∙ ap (λ (u : Taker). u ∷ []) e where
      or_true : (b : Bool) → (b || true) ≡ true
      or_true true = refl
      or_true false = refl
stands_once earlier (t ∷ ts) (suc k) taker h within e =
    let f = fresh_first (λ y z. y == z) earlier t.number (map (λ t. t.number) ts) h in
    let rest = stands_once (earlier ++ t.number ∷ []) ts k taker f.1 (omega arith) e in
    by_test (t.number == taker.number) refl rest f.1 where
      by_test : (b : Bool) → (t.number == taker.number) ≡ b → filter (λ (u : Taker). u.number == taker.number) ts ≡ taker ∷ [] → first_again (λ y z. y == z) (earlier ++ t.number ∷ []) (map (λ t. t.number) ts) ≡ None
          → cond b (t ∷ filter (λ (u : Taker). u.number == taker.number) ts) (filter (λ (u : Taker). u.number == taker.number) ts) ≡ taker ∷ []
      by_test true q r g =
          let last : list_any (λ y. y == taker.number) (earlier ++ t.number ∷ []) ≡ true = list_any-append (λ y. y == taker.number) earlier (t.number ∷ []) ∙ ap (λ b. list_any (λ y. y == taker.number) earlier || (b || false)) q ∙ or_true (list_any (λ y. y == taker.number) earlier) in
          let none = stands_no_more (earlier ++ t.number ∷ []) ts taker.number last g in
          let wrong : taker ∷ [] ≡ [] = sym r ∙ none in absurd cc where
            or_true : (b : Bool) → (b || true) ≡ true
            or_true true = refl
            or_true false = refl
      by_test false q r g = r

-- ---- the numbers of a valid table
map_numbers : (table : Table) → map (λ (t : Taker). t.number) (takers table) ≡ numbers table
map_numbers table = map-append (λ (t : Taker). t.number) (map sender_taker table.senders) (map listener_taker table.listeners)
    ∙ ap (λ ns. ns ++ map (λ (t : Taker). t.number) (map listener_taker table.listeners)) (of_senders table.senders)
    ∙ ap (λ ns. sender_numbers table.senders ++ ns) (of_listeners table.listeners) where
      of_senders : (senders : List Sender) → map (λ (t : Taker). t.number) (map sender_taker senders) ≡ sender_numbers senders
      of_senders [] = refl
      of_senders (s ∷ senders) = ap (λ ns. s.number ∷ ns) (of_senders senders)

      of_listeners : (listeners : List Listener) → map (λ (t : Taker). t.number) (map listener_taker listeners) ≡ listener_numbers listeners
      of_listeners [] = refl
      of_listeners (l ∷ listeners) = ap (λ ns. l.number ∷ ns) (of_listeners listeners)

pub by_number : (table : Table) (list : List Entry) (taker : Taker) → IsTrue (is_valid table) → Contains (takers table) taker → received table list taker.number ≡ received_by list taker
by_number table list taker h w =
    let o = subst (λ ns. first_again (λ y z. y == z) [] ns ≡ None) (sym (map_numbers table)) (once table h) in
    ap (flat_map (received_by list)) (stands_once [] (takers table) w.0 taker o w.1 w.2) ∙ append-nil (received_by list taker)
