-- The turns of a sender in the closed schedule: one a round.
use Rattle.std.proofs.Common.{◌≡◌, ◌≢◌, ℕ, zero, suc, ◌+◌, ◌*◌, ◌<◌, Bool, true, false, cond, ◌==◌, List, [], ◌∷◌, ◌++◌, length, Some, inl, inr, refl, ap, sym, ◌∙◌, arith, length-append}
use Rattle.std.specs.Prelude.{slice_get}
use Rattle.std.specs.List.{filter}
use Rattle.std.proofs.lemmas.Bool.{eq-eqb, ne_eqb, cases_lt}
use Rattle.std.proofs.lemmas.List.Elements.{filter-append}
use Rattle.bus_regime.proofs.GapLaws.{same_by_number}
use Rattle.bus_strings.specs.Members.{In}
use Rattle.bus_strings.specs.Messages.{Message, Entry}
use Rattle.bus_strings.specs.Transmissions.{end_of}
use Rattle.bus_strings.proofs.ListLaws.{get_left}
use Rattle.bus_table.specs.declared.mode.Mode.{Mode}
use Rattle.bus_table.specs.declared.mode.Mode.TheVariants.{Aperiodic, Periodic}
use Rattle.bus_table.specs.Tables.{Sender, Table, Hand}
use Rattle.bus_table.specs.inside.Facts.{TableFacts}
use Rattle.bus_table.specs.Turns.{turn_key, turn_order}
use Rattle.bus_table.specs.inside.Orders.{Rises}
use Rattle.bus_table.proofs.TurnLaws.{from_sort, in_sort, behind_rises, numbers_differ, order_rises}
use Rattle.bus_schedule.specs.Even.{messages_of, rounds}
use Rattle.bus_schedule.specs.Closed.{sends, turns, origin, offset_turns, in_rounds, schedule_in, closed}

-- whether a transmission is of a terminal
abbrev pub is_own : ℕ → Entry → Bool
is_own number x = x.terminal == number

-- one transmission of each of these senders in this order, of its message of a round, at any moments
Laid : (ℕ → List Message) → ℕ → List Sender → List Entry → Type 0
Laid messages round [] [] = Unit {0}
Laid messages round [] (x ∷ xs) = ⊥
Laid messages round (sender ∷ order) [] = ⊥
Laid messages round (sender ∷ order) (x ∷ xs) = ((moment : ℕ) × (x ≡ sends messages round sender moment)) × Laid messages round order xs

laid_turns : (messages : ℕ → List Message) (round : ℕ) (order : List Sender) (from : ℕ) → Laid messages round order (turns messages round order from)
unfolding Laid
laid_turns messages round [] from = tt
laid_turns messages round (sender ∷ order) from =
    ((from + sender.tg, refl), laid_turns messages round order (end_of (sends messages round sender (from + sender.tg))))

laid_offsets : (messages : ℕ → List Message) (round : ℕ) (order : List Sender) (base : ℕ) → Laid messages round order (offset_turns messages round order base)
unfolding Laid
laid_offsets messages round [] base = tt
laid_offsets messages round (sender ∷ order) base = ((base + sender.at, refl), laid_offsets messages round order base)

-- senders of other numbers
none_own : (messages : ℕ → List Message) (round number : ℕ) (order : List Sender) (xs : List Entry) → Laid messages round order xs
    → ((b : Sender) → In b order → b.number ≢ number) → filter (is_own number) xs ≡ []
unfolding Laid
none_own messages round number [] [] l h = refl
none_own messages round number [] (x ∷ xs) l h = absurd l
none_own messages round number (sender ∷ order) [] l h = absurd l
none_own messages round number (sender ∷ order) (x ∷ xs) l h =
    let other : (x.terminal == number) ≡ false = ap (λ (e : Entry). e.terminal == number) l.0.1 ∙ ne_eqb sender.number number (h sender (inl refl)) in
    ap (λ (t : Bool). cond t (x ∷ filter (is_own number) xs) (filter (is_own number) xs)) other
    ∙ none_own messages round number order xs l.1 (λ b i. h b (inr i))

-- the one transmission of a sender
Once : (ℕ → List Message) → ℕ → Sender → List Entry → Type 0
Once messages round sender xs = (moment : ℕ) × (filter (is_own sender.number) xs ≡ sends messages round sender moment ∷ [])

own_once : (key : Sender → ℕ) (messages : ℕ → List Message) (round : ℕ) (sender : Sender) (order : List Sender) (xs : List Entry) → Laid messages round order xs
    → Rises key order → ((b : Sender) → In b order → b.number ≡ sender.number → b ≡ sender) → In sender order → Once messages round sender xs
unfolding Laid Once
own_once key messages round sender [] xs l r h i = absurd i
own_once key messages round sender (a ∷ order) [] l r h i = absurd l
own_once key messages round sender (a ∷ order) (x ∷ xs) l r h (inl same) =
    let others : (b : Sender) → In b order → b.number ≢ sender.number = λ b j e.
    (let less : key a < key b = behind_rises key a order b r.0 j in
    let k : key b ≡ key a = ap key (h b (inr j) e ∙ same) in absurd (omega arith)) in
    let is : x ≡ sends messages round sender l.0.0 = l.0.1 ∙ ap (λ (s : Sender). sends messages round s l.0.0) (sym same) in
    let own : (x.terminal == sender.number) ≡ true = ap (λ (e : Entry). e.terminal == sender.number) is ∙ eq-eqb sender.number sender.number refl in (
      l.0.0,
      ap (λ (t : Bool). cond t (x ∷ filter (is_own sender.number) xs) (filter (is_own sender.number) xs)) own
          ∙ ap (λ (ys : List Entry). x ∷ ys) (none_own messages round sender.number order xs l.1 others) ∙ ap (λ (y : Entry). y ∷ []) is,
    )
own_once key messages round sender (a ∷ order) (x ∷ xs) l r h (inr i) =
    let rest = own_once key messages round sender order xs l.1 r.1 (λ b j. h b (inr j)) i in
    let less : key a < key sender = behind_rises key a order sender r.0 i in
    let apart : a.number ≢ sender.number = λ e. (let k : key a ≡ key sender = ap key (h a (inl refl) e) in absurd (omega arith)) in
    let other : (x.terminal == sender.number) ≡ false = ap (λ (e : Entry). e.terminal == sender.number) l.0.1 ∙ ne_eqb a.number sender.number apart in
    (rest.0, ap (λ (t : Bool). cond t (x ∷ filter (is_own sender.number) xs) (filter (is_own sender.number) xs)) other ∙ rest.1)

-- ---- rounds
get_last : {X : Type 0} (xs : List X) (x : X) (k : ℕ) → k ≡ length xs → slice_get (xs ++ x ∷ []) k ≡ Some x
get_last [] x k h = ap (slice_get (x ∷ [])) h
get_last (y ∷ xs) x k h = ap (slice_get (y ∷ (xs ++ x ∷ []))) h ∙ get_last xs x (length xs) refl

-- so many rounds that have one each
counted : (messages : ℕ → List Message) (sender : Sender) (f : ℕ → List Entry) (n : ℕ) → ((r : ℕ) → Once messages r sender (f r))
    → length (filter (is_own sender.number) (in_rounds f n)) ≡ n
unfolding Once
counted messages sender f zero h = refl
counted messages sender f (suc n) h =
    let one = h n in
    let last = ap length (filter-append (is_own sender.number) (in_rounds f n) (f n))
    ∙ length-append (filter (is_own sender.number) (in_rounds f n)) (filter (is_own sender.number) (f n)) in
    let own : length (filter (is_own sender.number) (f n)) ≡ 1 = ap length one.1 in
    omega (arith, last, own, counted messages sender f n h)

-- the transmission of a round is the one of that number
abbrev pub Turn : (ℕ → List Message) → Sender → List Entry → ℕ → Type 0
Turn messages sender xs k = (moment : ℕ) × (slice_get (filter (is_own sender.number) xs) k ≡ Some (sends messages k sender moment))

turned : (messages : ℕ → List Message) (sender : Sender) (f : ℕ → List Entry) (n k : ℕ) → ((r : ℕ) → Once messages r sender (f r)) → k < n
    → Turn messages sender (in_rounds f n) k
unfolding Once
turned messages sender f zero k h within = absurd (omega arith)
turned messages sender f (suc n) k h within =
    let own : Entry → Bool = is_own sender.number in
    let parts = filter-append own (in_rounds f n) (f n) in
    let count = counted messages sender f n h in
    elim (cases_lt k n) [
      | inl less ↦ (let t = turned messages sender f n k h less in
          (t.0, ap (λ ys. slice_get ys k) parts ∙ get_left (filter own (in_rounds f n)) (filter own (f n)) k (omega (arith, count)) ∙ t.1))
      | inr more ↦ (let same : k ≡ n = omega arith in let one = h k in (
        one.0,
        ap (λ ys. slice_get ys k) (parts ∙ ap (λ m. filter own (in_rounds f n) ++ filter own (f m)) (sym same) ∙ ap (λ ys. filter own (in_rounds f n) ++ ys) one.1)
            ∙ get_last (filter own (in_rounds f n)) (sends messages k sender one.0) k (omega (arith, count)),
      ))
    ]

-- ---- the closed schedule
-- each sender speaks once in whatever is laid in turn order
spoken : (table : Table) (messages : ℕ → List Message) (sender : Sender) (round : ℕ) (xs : List Entry) → TableFacts table → In sender table.senders
    → Laid messages round (turn_order table) xs → Once messages round sender xs
spoken table messages sender round xs facts i l =
    own_once (turn_key table.mode) messages round sender (turn_order table) xs l (order_rises table facts)
    (λ b j e. same_by_number table.senders (numbers_differ table facts) b sender (from_sort (turn_key table.mode) table.senders b j) i e)
    (in_sort (turn_key table.mode) table.senders sender i)

in_mode : (mode : Mode) (table : Table) (messages : ℕ → List Message) (sender : Sender) (n round : ℕ) → TableFacts table → In sender table.senders → round < n
    → Turn messages sender (schedule_in mode table messages n) round
in_mode Aperiodic table messages sender n round facts i within =
    let order : ℕ → List Sender = λ r. turn_order table in
    turned messages sender (λ r. turns messages r (turn_order table) (origin messages table.sg order r)) n round
    (λ r. spoken table messages sender r _ facts i (laid_turns messages r (turn_order table) (origin messages table.sg order r))) within
in_mode Periodic table messages sender n round facts i within =
    turned messages sender (λ r. offset_turns messages r (turn_order table) (r * table.ti)) n round
    (λ r. spoken table messages sender r _ facts i (laid_offsets messages r (turn_order table) (r * table.ti))) within

pub turn_of : (table : Table) (hands : List Hand) (sender : Sender) (round : ℕ) → TableFacts table → In sender table.senders → round < rounds hands
    → Turn (messages_of hands) sender (closed table hands) round
turn_of table hands sender round facts i within = in_mode table.mode table (messages_of hands) sender (rounds hands) round facts i within
