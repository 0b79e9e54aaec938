-- Who takes words of a wordstring: what is noted of receive lines, and how numbers are written.
use Rattle.std.proofs.Common.{◌≡◌, ℕ, ◌+◌, ◌<◌, Bool, true, false, cond, List, [], ◌∷◌, ◌++◌, length, get_or, set, map, filter, codes, decimal, inl, inr, append-nil, arith, refl, sym, ap, subst, ◌∙◌}
use Rattle.std.specs.Prelude.{◌&&◌, ◌||◌, ◌==◌, nat_lt, not}
use Rattle.std.specs.List.{list_any, range_with_len}
use Rattle.std.proofs.lemmas.Bool.{and_parts, cases_eq, eqb-true, true≢false}
use Rattle.std.proofs.lemmas.Grind.{flat_map-append}
use Rattle.std.proofs.lemmas.List.{append_assoc, get_or-set_same, get_or-set_other, map-id}
use Rattle.std.proofs.lemmas.List.Elements.{filter-append}
use Rattle.std.proofs.lemmas.List.Folds.{list_any-append}
use Rattle.std.proofs.lemmas.List.FromFn.{map-range_with_len_more}
use Rattle.bus_strings.proofs.MemberLaws.{in_append_cases, in_push_cases, none_any, any_found}
use Rattle.bus_strings.specs.Messages.{Wordstring}
use Rattle.bus_table.specs.declared.line.TakeLine.{TakeLine}
use Rattle.bus_table.specs.Tables.{Listener, Sender, Table}
use Rattle.bus_table.proofs.WholeLemmas.{list_any-map}
use Rattle.bus_filter.specs.Received.{Taker, listener_taker, matches, selection, sender_taker, takers}
use Rattle.bus_shapes.specs.declared.sent.Sent.{Sent}
use Rattle.bus_picture.specs.Takings.{after_commas, does_take, is_taken_by, numbers_words, takes_words}
use Rattle.bus_picture.specs.inside.Noting.{AreNoted, KeepsNoted, LinesNoted, has_numbers, none_words, number_more, numbers_so_far, place_of}

-- ---- what is noted
set_kept : (may : List Bool) (place j : ℕ) → place < length may → get_or may j false ≡ true → get_or (set may place true) j false ≡ true
set_kept may place j within h =
    elim (cases_eq j place) [
      | inl same ↦ ap (λ k. get_or (set may place true) k false) same ∙ get_or-set_same may place true false within
      | inr other ↦ get_or-set_other may place j true false other ∙ h
    ]

pub kept_more : (before may : List Bool) (place : ℕ) → place < length may → KeepsNoted before may → KeepsNoted before (set may place true)
kept_more before may place within kept j h = set_kept may place j within (kept j h)

-- One receive line more.
pub line_more : (n : ℕ) (takes : List TakeLine) (line : TakeLine) (may : List Bool) (place : ℕ) → place < length may → place ≡ place_of line.label n
    → LinesNoted n takes may → LinesNoted n (takes ++ line ∷ []) (set may place true)
line_more n takes line may place within is noted l i =
    elim (in_push_cases takes line l i) [
      | inl old ↦ set_kept may place (place_of l.label n) within (noted l old)
      | inr new ↦
          ap (λ k. get_or (set may place true) k false) (ap (λ (m : TakeLine). place_of m.label n) new ∙ sym is)
          ∙ get_or-set_same may place true false within
    ]

pub lines_kept : (n : ℕ) (takes : List TakeLine) (before may : List Bool) → KeepsNoted before may → LinesNoted n takes before → LinesNoted n takes may
lines_kept n takes before may kept noted l i = kept (place_of l.label n) (noted l i)

pub noted_kept : (ts : List Taker) (before may : List Bool) → KeepsNoted before may → AreNoted ts before → AreNoted ts may
noted_kept ts before may kept noted taker i = lines_kept taker.number taker.takes before may kept (noted taker i)

-- One terminal more.
pub taker_more : (ts : List Taker) (taker : Taker) (before may : List Bool) → KeepsNoted before may → AreNoted ts before
    → LinesNoted taker.number taker.takes may → AreNoted (ts ++ taker ∷ []) may
taker_more ts taker before may kept noted lines t i =
    elim (in_push_cases ts taker t i) [
      | inl old ↦ noted_kept ts before may kept noted t old
      | inr new ↦ subst (λ (u : Taker). LinesNoted u.number u.takes may) (sym new) lines
    ]

pub both_noted : (ts us : List Taker) (before may : List Bool) → KeepsNoted before may → AreNoted ts before → AreNoted us may → AreNoted (ts ++ us) may
both_noted ts us before may kept first second t i =
    elim (in_append_cases ts us t i) [
      | inl one ↦ noted_kept ts before may kept first t one
      | inr other ↦ second t other
    ]

-- ---- who takes
-- None takes words of a label of which nothing is noted.
none_takes : (string : Wordstring) (n : ℕ) (may : List Bool) (takes : List TakeLine) → LinesNoted n takes may
    → get_or may (place_of string.label n) false ≡ false → list_any (takes_words string) takes ≡ true → ⊥
none_takes string n may takes noted none h =
    let found = any_found (takes_words string) takes h in
    let line : TakeLine = found.0 in
    let matching = (and_parts (matches line string.label string.ext) (nat_lt 0 (length (selection line string.words))) found.2).0 in
    let label : line.label ≡ string.label = eqb-true line.label string.label (and_parts (line.label == string.label) _ matching).0 in
    true≢false (sym (noted line found.1) ∙ ap (λ l. get_or may (place_of l n) false) label ∙ none)

untaken : (sent : Sent) (string : Wordstring) (n : ℕ) (may : List Bool) (taker : Taker) → LinesNoted taker.number taker.takes may
    → get_or may (place_of string.label n) false ≡ false → (taker.number == n && does_take sent string taker) ≡ false
untaken sent string n may taker noted none =
    (elim (taker.number == n && does_take sent string taker) as (λ b. (taker.number == n && does_take sent string taker) ≡ b → b ≡ false) [
      | true ↦ λ h.
          let parts = and_parts (taker.number == n) (does_take sent string taker) h in
          let number : taker.number ≡ n = eqb-true taker.number n parts.0 in
          let takes = (and_parts (not sent.garbled && not (sent.terminal == taker.number)) (list_any (takes_words string) taker.takes) parts.1).1 in
          absurd (none_takes string taker.number may taker.takes noted (ap (λ m. get_or may (place_of string.label m) false) number ∙ none) takes)
      | false ↦ λ h. refl
    ]) refl

pub not_taken : (table : Table) (sent : Sent) (string : Wordstring) (n : ℕ) (may : List Bool) → AreNoted (takers table) may
    → get_or may (place_of string.label n) false ≡ false → is_taken_by table sent string n ≡ false
not_taken table sent string n may noted none =
    none_any (λ (taker : Taker). taker.number == n && does_take sent string taker) (takers table)
    (λ taker i. untaken sent string n may taker (noted taker i) none)

-- One of the senders takes words, or one of the listeners.
pub by_kinds : (table : Table) (sent : Sent) (string : Wordstring) (n : ℕ)
    → is_taken_by table sent string n
    ≡ (list_any (λ (s : Sender). s.number == n && does_take sent string (sender_taker s)) table.senders
    || list_any (λ (s : Listener). s.number == n && does_take sent string (listener_taker s)) table.listeners)
by_kinds table sent string n =
    let test : Taker → Bool = λ (taker : Taker). taker.number == n && does_take sent string taker in
    list_any-append test (map sender_taker table.senders) (map listener_taker table.listeners)
    ∙ ap (λ b. b || list_any test (map listener_taker table.listeners)) (list_any-map sender_taker test table.senders)
    ∙ ap (λ b. list_any (λ (s : Sender). test (sender_taker s)) table.senders || b) (list_any-map listener_taker test table.listeners)

-- ---- what is written
more_numbers : (ns : List ℕ) (n : ℕ) (b : Bool) → numbers_so_far (ns ++ cond b (n ∷ []) []) ≡ numbers_so_far ns ++ number_more (has_numbers ns) b n
more_numbers [] n true = append-nil (decimal n)
more_numbers [] n false = refl
more_numbers (m ∷ ns) n true =
    ap (λ (t : List ℕ). decimal m ++ t)
    (flat_map-append (λ k. codes ", " ++ decimal k) ns (n ∷ []) ∙ ap (λ (t : List ℕ). after_commas ns ++ t) (append-nil (codes ", " ++ decimal n)))
    ∙ sym (append_assoc (decimal m) (after_commas ns) (codes ", " ++ decimal n))
more_numbers (m ∷ ns) n false =
    ap (λ (t : List ℕ). decimal m ++ after_commas t) (append-nil ns) ∙ sym (append-nil (decimal m ++ after_commas ns))

more_some : (ns : List ℕ) (n : ℕ) (b : Bool) → has_numbers (ns ++ cond b (n ∷ []) []) ≡ (has_numbers ns || b)
more_some [] n true = refl
more_some [] n false = refl
more_some (m ∷ ns) n b = refl

range_more : (k : ℕ) → range_with_len 1 (k + 1) ≡ range_with_len 1 k ++ (k + 1) ∷ []
range_more k =
    sym (map-id (range_with_len 1 (k + 1))) ∙ map-range_with_len_more (λ (m : ℕ). m) 1 k (k + 1) (omega arith)
    ∙ ap (λ (l : List ℕ). l ++ (k + 1) ∷ []) (map-id (range_with_len 1 k))

filter_more : (p : ℕ → Bool) (k : ℕ) → filter p (range_with_len 1 (k + 1)) ≡ filter p (range_with_len 1 k) ++ cond (p (k + 1)) ((k + 1) ∷ []) []
filter_more p k = ap (filter p) (range_more k) ∙ filter-append p (range_with_len 1 k) ((k + 1) ∷ [])

pub numbers_more : (p : ℕ → Bool) (k : ℕ) (some takes : Bool) → some ≡ has_numbers (filter p (range_with_len 1 k)) → takes ≡ p (k + 1)
    → numbers_so_far (filter p (range_with_len 1 k)) ++ number_more some takes (k + 1) ≡ numbers_so_far (filter p (range_with_len 1 (k + 1)))
numbers_more p k some takes has is =
    ap (λ b. numbers_so_far (filter p (range_with_len 1 k)) ++ number_more b takes (k + 1)) has
    ∙ ap (λ b. numbers_so_far (filter p (range_with_len 1 k)) ++ number_more (has_numbers (filter p (range_with_len 1 k))) b (k + 1)) is
    ∙ sym (more_numbers (filter p (range_with_len 1 k)) (k + 1) (p (k + 1))) ∙ sym (ap numbers_so_far (filter_more p k))

pub some_more : (p : ℕ → Bool) (k : ℕ) (some takes : Bool) → some ≡ has_numbers (filter p (range_with_len 1 k)) → takes ≡ p (k + 1)
    → (some || takes) ≡ has_numbers (filter p (range_with_len 1 (k + 1)))
some_more p k some takes has is =
    ap (λ b. b || takes) has ∙ ap (λ b. has_numbers (filter p (range_with_len 1 k)) || b) is
    ∙ sym (more_some (filter p (range_with_len 1 k)) (k + 1) (p (k + 1))) ∙ sym (ap has_numbers (filter_more p k))

pub all_numbers : (ns : List ℕ) (some : Bool) → some ≡ has_numbers ns → numbers_so_far ns ++ none_words some ≡ numbers_words ns
all_numbers [] some has = ap none_words has
all_numbers (n ∷ ns) some has = ap (λ b. (decimal n ++ after_commas ns) ++ none_words b) has ∙ append-nil (decimal n ++ after_commas ns)
