-- Every terminal receives the same words as without delays, and each wordstring of another that one of its receive lines matches.
use Rattle.std.proofs.Common.{◌≡◌, ◌≢◌, ℕ, zero, suc, ◌+◌, Bool, true, false, cond, List, [], ◌∷◌, ◌++◌, map, inl, inr, sym, refl, ap, ◌∙◌, subst}
use Rattle.std.specs.Prelude.{◌==◌, not}
use Rattle.std.specs.List.{filter, flat_map}
use Rattle.std.proofs.lemmas.Bool.{ne_eqb}
use Rattle.std.proofs.lemmas.List.{map-append}
use Rattle.bus_strings.specs.Members.{In}
use Rattle.bus_strings.proofs.ClearLaws.{unmarked}
use Rattle.bus_strings.proofs.MemberLaws.{in_append_left, in_append_right, in_filter, in_map}
use Rattle.bus_strings.specs.Messages.{Wordstring, Message, Entry}
use Rattle.bus_strings.specs.Transmissions.{end_of}
use Rattle.bus_table.specs.declared.line.TakeLine.{TakeLine}
use Rattle.bus_table.specs.Tables.{Sender}
use Rattle.bus_table.specs.Turns.{turn_order}
use Rattle.bus_medium.specs.Delays.{Delays, later, heard, heard_end}
use Rattle.bus_schedule.specs.Closed as schedule
use Rattle.bus_schedule.specs.Closed.{sends, closed, schedule_in}
use Rattle.bus_schedule.specs.Even.{messages_of, rounds}
use Rattle.bus_schedule.specs.Laws.{AcceptedIsClosed}
use Rattle.bus_schedule.specs.Runs.{IsClear}
use Rattle.bus_filter.specs.Received as filters
use Rattle.bus_filter.specs.Received.{Taker, received_line, string_lines, entry_lines, is_heard}
use Rattle.bus_reach.specs.Laws.{BorneIsClosed}
use Rattle.bus_reach.specs.PeriodicLaws.{PeriodicBorneIsClosed}
use Rattle.bus_reach.specs.Receiving.{content, ReceivesAlike, AperiodicBorneIsReceived, PeriodicBorneIsReceived, lines_later, IsReceivedLater, AperiodicIsReceivedLater, PeriodicIsReceivedLater, MatchesAreReceived}
use Rattle.bus_reach.specs.Schedule.{cable_turns, cable_origin, cable_rounds, cable_closed}

-- the transmissions of others
of_others : ℕ → List Entry → List Entry
of_others number list = filter (λ x. not (x.terminal == number)) list

others_of : (number : ℕ) (xs : List Entry) → map (λ (m : Entry × Bool). m.0) (filter (is_heard number) (map (λ x. (x, false)) xs)) ≡ of_others number xs
unfolding of_others
others_of number [] = refl
others_of number (x ∷ xs) =
    elim (x.terminal == number) as (λ b. map (λ (m : Entry × Bool). m.0) (cond (not b) ((x, false) ∷ filter (is_heard number) (map (λ x. (x, false)) xs)) (filter (is_heard number) (map (λ x. (x, false)) xs)))
    ≡ cond (not b) (x ∷ filter (λ x. not (x.terminal == number)) xs) (filter (λ x. not (x.terminal == number)) xs)) [
      | true ↦ others_of number xs
      | false ↦ ap (λ t. x ∷ t) (others_of number xs)
    ]

taken_of : (number : ℕ) (list : List Entry) → IsClear list → filters.heard number list ≡ of_others number list
taken_of number list clear =
    ap (λ m. map (λ (m : Entry × Bool). m.0) (filter (is_heard number) m)) (unmarked list clear) ∙ others_of number list

-- ---- what a received line has beside its moment hangs on no moment
lines_same : (m n : ℕ) (string : Wordstring) (lines : List TakeLine) → map content (map (received_line m string) lines) ≡ map content (map (received_line n string) lines)
lines_same m n string [] = refl
lines_same m n string (line ∷ lines) = ap (λ t. content (received_line n string line) ∷ t) (lines_same m n string lines)

strings_same : (takes : List TakeLine) (m n : ℕ) (message : Message) → map content (flat_map (string_lines takes m) message) ≡ map content (flat_map (string_lines takes n) message)
strings_same takes m n [] = refl
strings_same takes m n (string ∷ message) =
    map-append content (string_lines takes m string) (flat_map (string_lines takes m) message)
    ∙ ap (λ t. t ++ map content (flat_map (string_lines takes m) message)) (lines_same m n string (filter (λ line. filters.matches line string.label string.ext) takes))
    ∙ ap (λ t. map content (string_lines takes n string) ++ t) (strings_same takes m n message)
    ∙ sym (map-append content (string_lines takes n string) (flat_map (string_lines takes n) message))

-- ---- two lists of the same messages of the same terminals, at whatever moments
abbrev pub AreAlike : List Entry → List Entry → Type 0
AreAlike [] [] = Unit {0}
AreAlike [] (y ∷ ys) = ⊥
AreAlike (x ∷ xs) [] = ⊥
AreAlike (x ∷ xs) (y ∷ ys) = (x.terminal ≡ y.terminal) × (x.message ≡ y.message) × AreAlike xs ys

entries_alike : (number : ℕ) (takes : List TakeLine) (xs ys : List Entry) → AreAlike xs ys
    → map content (flat_map (entry_lines takes) (of_others number xs)) ≡ map content (flat_map (entry_lines takes) (of_others number ys))
unfolding of_others
entries_alike number takes [] [] h = refl
entries_alike number takes [] (y ∷ ys) h = absurd h
entries_alike number takes (x ∷ xs) [] h = absurd h
entries_alike number takes (x ∷ xs) (y ∷ ys) h =
    let rest = entries_alike number takes xs ys h.2 in
    let tail = λ (zs : List Entry). filter (λ z. not (z.terminal == number)) zs in
    ap (λ t. map content (flat_map (entry_lines takes) (cond (not (t == number)) (x ∷ filter (λ z. not (z.terminal == number)) xs) (filter (λ z. not (z.terminal == number)) xs)))) h.0
    ∙ elim (y.terminal == number) as (λ b. map content (flat_map (entry_lines takes) (cond (not b) (x ∷ filter (λ z. not (z.terminal == number)) xs) (filter (λ z. not (z.terminal == number)) xs)))
    ≡ map content (flat_map (entry_lines takes) (cond (not b) (y ∷ filter (λ z. not (z.terminal == number)) ys) (filter (λ z. not (z.terminal == number)) ys)))) [
      | true ↦ rest
      | false ↦
          map-append content (entry_lines takes x) (flat_map (entry_lines takes) (filter (λ z. not (z.terminal == number)) xs))
          ∙ ap (λ t. t ++ map content (flat_map (entry_lines takes) (filter (λ z. not (z.terminal == number)) xs)))
          (strings_same takes x.moment y.moment x.message ∙ ap (λ m. map content (flat_map (string_lines takes y.moment) m)) h.1)
          ∙ ap (λ t. map content (entry_lines takes y) ++ t) rest
          ∙ sym (map-append content (entry_lines takes y) (flat_map (entry_lines takes) (filter (λ z. not (z.terminal == number)) ys)))
    ]

alike_received : (list other : List Entry) (taker : Taker) → IsClear list → IsClear other → AreAlike list other → ReceivesAlike taker list other
alike_received list other taker clear clear_other alike =
    ap (λ l. map content (flat_map (entry_lines taker.takes) l)) (taken_of taker.number list clear)
    ∙ entries_alike taker.number taker.takes list other alike
    ∙ ap (λ l. map content (flat_map (entry_lines taker.takes) l)) (sym (taken_of taker.number other clear_other))

alike_self : (list : List Entry) → AreAlike list list
alike_self [] = tt
alike_self (x ∷ list) = (refl, refl, alike_self list)

alike_heard : (delay : Delays) (number : ℕ) (list other : List Entry) → AreAlike list other → AreAlike (heard delay number list) other
alike_heard delay number [] [] h = tt
alike_heard delay number [] (y ∷ ys) h = absurd h
alike_heard delay number (x ∷ xs) [] h = absurd h
alike_heard delay number (x ∷ xs) (y ∷ ys) h = (h.0, h.1, alike_heard delay number xs ys h.2)

alike_append : (xs ys us vs : List Entry) → AreAlike xs ys → AreAlike us vs → AreAlike (xs ++ us) (ys ++ vs)
alike_append [] [] us vs h k = k
alike_append [] (y ∷ ys) us vs h k = absurd h
alike_append (x ∷ xs) [] us vs h k = absurd h
alike_append (x ∷ xs) (y ∷ ys) us vs h k = (h.0, h.1, alike_append xs ys us vs h.2 k)

turns_alike : (delay : Delays) (messages : ℕ → List Message) (round : ℕ) (order : List Sender) (from : ℕ → ℕ) (at : ℕ)
    → AreAlike (cable_turns delay messages round order from) (schedule.turns messages round order at)
turns_alike delay messages round [] from at = tt
turns_alike delay messages round (a ∷ order) from at =
    (refl, refl, turns_alike delay messages round order (heard_end delay (sends messages round a (from a.number + a.tg))) (end_of (sends messages round a (at + a.tg))))

rounds_alike : (delay : Delays) (wake : ℕ → ℕ) (messages : ℕ → List Message) (sg : ℕ) (order : List Sender) (n : ℕ)
    → AreAlike (cable_rounds delay wake messages sg order n) (schedule.gap_schedule messages sg (λ _. order) n)
rounds_alike delay wake messages sg order zero = tt
rounds_alike delay wake messages sg order (suc n) =
    alike_append (cable_rounds delay wake messages sg order n) (schedule.gap_schedule messages sg (λ _. order) n)
    (cable_turns delay messages n order (cable_origin delay wake messages sg order n)) (schedule.turns messages n order (schedule.origin messages sg (λ _. order) n))
    (rounds_alike delay wake messages sg order n)
    (turns_alike delay messages n order (cable_origin delay wake messages sg order n) (schedule.origin messages sg (λ _. order) n))

pub aperiodic_is_received : AcceptedIsClosed → BorneIsClosed → AperiodicBorneIsReceived
aperiodic_is_received accepts closes table hands most delay wake taker valid mode accepted even delays wakes borne far =
    let is : closed table hands ≡ schedule.gap_schedule (messages_of hands) table.sg (λ _. turn_order table) (rounds hands) =
    ap (λ m. schedule_in m table (messages_of hands) (rounds hands)) mode in
    alike_received (heard delay taker.number (cable_closed delay wake table hands)) (closed table hands) taker
    ((closes table hands most delay wake valid mode accepted even delays wakes borne).clear taker.number far)
    (accepts table hands valid accepted even).clear
    (alike_heard delay taker.number (cable_closed delay wake table hands) (closed table hands)
    (subst (AreAlike (cable_closed delay wake table hands)) (sym is) (rounds_alike delay wake (messages_of hands) table.sg (turn_order table) (rounds hands))))

pub periodic_is_received : AcceptedIsClosed → PeriodicBorneIsClosed → PeriodicBorneIsReceived
periodic_is_received accepts closes table hands most delay taker valid mode accepted even delays borne far =
    alike_received (heard delay taker.number (closed table hands)) (closed table hands) taker
    ((closes table hands most delay valid mode accepted even delays borne).clear taker.number far)
    (accepts table hands valid accepted even).clear
    (alike_heard delay taker.number (closed table hands) (closed table hands) (alike_self (closed table hands)))

-- ---- what is received, at which moment
others_later : (delay : Delays) (taker : Taker) (list : List Entry)
    → flat_map (entry_lines taker.takes) (of_others taker.number (heard delay taker.number list)) ≡ flat_map (lines_later delay taker) list
unfolding of_others
others_later delay taker [] = refl
others_later delay taker (x ∷ list) =
    let rest = others_later delay taker list in
    elim (x.terminal == taker.number) as (λ b. flat_map (entry_lines taker.takes)
    (cond (not b) (later (delay x taker.number) x ∷ filter (λ z. not (z.terminal == taker.number)) (heard delay taker.number list)) (filter (λ z. not (z.terminal == taker.number)) (heard delay taker.number list)))
    ≡ cond b [] (entry_lines taker.takes (later (delay x taker.number) x)) ++ flat_map (lines_later delay taker) list) [
      | true ↦ rest
      | false ↦ ap (λ t. entry_lines taker.takes (later (delay x taker.number) x) ++ t) rest
    ]

clear_later : (delay : Delays) (taker : Taker) (list : List Entry) → IsClear (heard delay taker.number list) → IsReceivedLater delay taker list
clear_later delay taker list clear =
    ap (flat_map (entry_lines taker.takes)) (taken_of taker.number (heard delay taker.number list) clear) ∙ others_later delay taker list

pub aperiodic_is_later : BorneIsClosed → AperiodicIsReceivedLater
aperiodic_is_later closes table hands most delay wake taker valid mode accepted even delays wakes borne far =
    clear_later delay taker (cable_closed delay wake table hands)
    ((closes table hands most delay wake valid mode accepted even delays wakes borne).clear taker.number far)

pub periodic_is_later : PeriodicBorneIsClosed → PeriodicIsReceivedLater
periodic_is_later closes table hands most delay taker valid mode accepted even delays borne far =
    clear_later delay taker (closed table hands) ((closes table hands most delay valid mode accepted even delays borne).clear taker.number far)

-- ---- what is received of one wordstring
in_flat_map : {X Y : Type 0} (f : X → List Y) → (xs : List X) (x : X) (y : Y) → In x xs → In y (f x) → In y (flat_map f xs)
in_flat_map f [] x y i j = absurd i
in_flat_map f (z ∷ xs) x y (inl same) j = in_append_left (f z) (flat_map f xs) y (subst (λ w. In y (f w)) same j)
in_flat_map f (z ∷ xs) x y (inr i) j = in_append_right (f z) (flat_map f xs) y (in_flat_map f xs x y i j)

in_others : (number : ℕ) (list : List Entry) (x : Entry) → In x list → x.terminal ≢ number → In x (of_others number list)
unfolding of_others
in_others number list x i apart = in_filter (λ z. not (z.terminal == number)) list x i (rw (ne_eqb x.terminal number apart) refl)

pub matches_are_received : AcceptedIsClosed → MatchesAreReceived
matches_are_received accepts table hands taker x string line valid accepted even i apart s t matched =
    subst (λ l. In (received_line x.moment string line) (flat_map (entry_lines taker.takes) l))
    (sym (taken_of taker.number (closed table hands) (accepts table hands valid accepted even).clear))
    (in_flat_map (entry_lines taker.takes) (of_others taker.number (closed table hands)) x (received_line x.moment string line)
    (in_others taker.number (closed table hands) x i apart)
    (in_flat_map (string_lines taker.takes x.moment) x.message string (received_line x.moment string line) s
    (in_map (received_line x.moment string) (filter (λ l. filters.matches l string.label string.ext) taker.takes) line
    (in_filter (λ l. filters.matches l string.label string.ext) taker.takes line t matched))))
