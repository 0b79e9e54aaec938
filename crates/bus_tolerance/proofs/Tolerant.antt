-- The rules with exact clocks are those of tolerance.
use Rattle.std.specs.Prelude.{nat_le}
use Rattle.std.specs.List.{list_all, sum_by}
use Rattle.std.proofs.Common.{arith, ◌≡◌, ◌≢◌, ℕ, ◌+◌, ◌*◌, ◌<◌, ◌≤◌, ◌⊎◌, Bool, true, false, ◌||◌, List, [], ◌∷◌, length}
use Rattle.std.proofs.Common.{refl, sym, ◌∙◌, ap, subst, inl, inr}
use Rattle.std.proofs.lemmas.Bool.{and_from, ne_eqb, cases_lt}
use Rattle.std.proofs.lemmas.Bool.Decides.{nat_tests}
use Rattle.std.proofs.lemmas.List.Sums.{sum_by-cons}
use Rattle.bus_strings.specs.Members.{In}
use Rattle.bus_strings.proofs.MemberLaws.{pass_in}
use Rattle.bus_table.specs.Lengths.{shortest, words_at_least}
use Rattle.bus_table.specs.declared.line.SendLine.{SendLine}
use Rattle.bus_table.specs.Tables.{Sender, Table}
use Rattle.bus_table.specs.Turns.{turn_key, turn_order}
use Rattle.bus_table.specs.inside.Facts.{SenderFacts, TableFacts}
use Rattle.bus_table.specs.inside.Orders.{Rises}
use Rattle.bus_table.specs.declared.mode.Mode.TheVariants.{Aperiodic}
use Rattle.bus_table.proofs.LengthLemmas.{word_bounds}
use Rattle.bus_table.proofs.TurnLaws.{of_each, behind_rises}
use Rattle.bus_table.proofs.ValidLaws.{valid_facts}
use Rattle.bus_regime.specs.Verdicts.{least_cycle}
use Rattle.bus_regime.specs.Starting.{starts_itself}
use Rattle.bus_regime.proofs.VerdictLaws.{accepted_cycle}
use Rattle.bus_reach.specs.Tolerance.{is_apart, leaves_room, lengths_bear}
use Rattle.bus_reach.proofs.Modes.{in_aperiodic}
use Rattle.bus_reach.proofs.SpreadLemmas.{LeavesRoom, room_left}
use Rattle.bus_bounds.specs.Bounds.{drift}
use Rattle.bus_margins.specs.Times.{least_time, most_time, drop_of}
use Rattle.bus_clocks.specs.Room as clocks
use Rattle.bus_margins.specs.Buses.{bus_in}
use Rattle.bus_margins.specs.Rooms.{behind, spoken_by, least_spoken}
use Rattle.bus_margins.proofs.FitLemmas.{Ahead}
use Rattle.bus_margins.proofs.FactLemmas.{OrderFacts, AreLasting, Lasts, Cycles}
use Rattle.bus_margins.proofs.Ordering.{Ordered, ordered}
use Rattle.bus_margins.proofs.TellingLemmas.{aperiodic_rises}
use Rattle.bus_margins.proofs.Levels.{any_is_room, level_is_room}
use Rattle.bus_margins.proofs.Roomy.{room_from, facts_of, starts_from, lasts_of, cycle_from}
use Rattle.bus_tolerance.specs.Laws.{exact, ToleranceTellsLevel, ToleranceTellsAny}

-- ---- exact clocks

no_drift : (n : ℕ) → drift 0 n ≡ 0
unfolding drift
no_drift n = let z : n * 0 ≡ 0 = omega arith in rw z refl

record Exact (d x : ℕ) : Type 0 where
  pub least : least_time (exact d) x ≡ 500 * x
  pub most : most_time (exact d) x ≡ 500 * x

exactly : (d x : ℕ) → Exact d x
exactly d x = let e = no_drift (500 * x) in record { least = omega (arith, e); most = omega (arith, e) }

exact_drop : (d : ℕ) → drop_of (exact d) ≡ 2001 + 500 * d
exact_drop d = let e = no_drift 2000 in omega (arith, e)

exact_spoken : (d : ℕ) (xs : List Sender) → least_spoken (exact d) xs ≡ 500 * sum_by (λ s. s.tg + shortest s) xs
exact_spoken d [] = refl
exact_spoken d (x ∷ xs) =
    let e = exact_spoken d xs in let t = exactly d x.tg in let m = exactly d (shortest x) in
    omega (arith, e, t.least, m.least, sum_by-cons (spoken_by (exact d)) x xs, sum_by-cons (λ (s : Sender). s.tg + shortest s) x xs)

words_some : (sends : List SendLine) → 1 ≤ length sends → 1 ≤ words_at_least sends
words_some [] h = absurd (omega arith)
words_some (line ∷ sends) h = omega (arith, sum_by-cons (λ (l : SendLine). 1 + l.least) line sends)

-- ---- senders in turn order

one_ahead : (xs : List Sender) (a b : Sender) → In a xs → In b xs → (a ≡ b) ⊎ (Ahead a b xs ⊎ Ahead b a xs)
one_ahead [] a b i j = absurd i
one_ahead (x ∷ xs) a b (inl e) (inl f) = inl (e ∙ sym f)
one_ahead (x ∷ xs) a b (inl e) (inr j) = inr (inl (inl (e, j)))
one_ahead (x ∷ xs) a b (inr i) (inl f) = inr (inr (inl (f, i)))
one_ahead (x ∷ xs) a b (inr i) (inr j) =
    elim (one_ahead xs a b i j) [ inl e ↦ inl e | inr w ↦ elim w [ inl p ↦ inr (inl (inr p)) | inr p ↦ inr (inr (inr p)) ] ]

ahead_left : (xs : List Sender) (a b : Sender) → Ahead a b xs → In a xs
ahead_left [] a b p = absurd p
ahead_left (x ∷ xs) a b (inl p) = inl p.0
ahead_left (x ∷ xs) a b (inr p) = inr (ahead_left xs a b p)

ahead_right : (xs : List Sender) (a b : Sender) → Ahead a b xs → In b xs
ahead_right [] a b p = absurd p
ahead_right (x ∷ xs) a b (inl p) = inr p.1
ahead_right (x ∷ xs) a b (inr p) = inr (ahead_right xs a b p)

ahead_behind : (xs : List Sender) (a b : Sender) → Ahead a b (behind xs) → Ahead a b xs
ahead_behind [] a b p = absurd p
ahead_behind (x ∷ xs) a b p = inr p

in_behind : (xs : List Sender) (a : Sender) → In a (behind xs) → In a xs
in_behind [] a i = absurd i
in_behind (x ∷ xs) a i = inr i

rises_ahead : (xs : List Sender) → Rises (turn_key Aperiodic) xs → (a b : Sender) → Ahead a b xs → a.tg < b.tg
rises_ahead [] r a b h = absurd h
rises_ahead (x ∷ xs) r a b (inl p) = subst (λ (z : Sender). z.tg < b.tg) (sym p.0) (behind_rises (turn_key Aperiodic) x xs b r.0 p.1)
rises_ahead (x ∷ xs) r a b (inr p) = rises_ahead xs r.1 a b p

-- of several there is a first, and one behind it
two_of : (xs : List Sender) → 1 < length xs → (a b : Sender) × Ahead a b xs × In b (behind xs)
    × ((c : Sender) → In c xs → (c ≡ a) ⊎ Ahead a c xs) × ((c : Sender) → In c (behind xs) → Ahead a c xs)
two_of [] h = absurd (omega arith)
two_of (x ∷ []) h = absurd (let m : 1 < 1 = h in omega arith)
two_of (x ∷ y ∷ xs) h =
    (x, y, inl (refl, inl refl), inl refl, (λ c i. elim i [ inl e ↦ inl e | inr j ↦ inr (inl (refl, j)) ]), (λ c j. inl (refl, j)))

all_pass : (p : Sender → Bool) (xs : List Sender) → ((a : Sender) → In a xs → p a ≡ true) → list_all p xs ≡ true
all_pass p [] h = refl
all_pass p (x ∷ xs) h = and_from (p x) (list_all p xs) (h x (inl refl)) (all_pass p xs (λ a i. h a (inr i)))

-- ---- each leaves room

abbrev pub AllLeave : ℕ → Table → List Sender → Type 0
AllLeave d table xs = (a : Sender) → In a xs → LeavesRoom d table.sg xs a

or_right : (x y : Bool) → y ≡ true → (x || y) ≡ true
or_right x y h = ap (λ z. x || z) h ∙ or_true x where
  or_true : (b : Bool) → (b || true) ≡ true
  or_true true = refl
  or_true false = refl

leave_room : (d sg : ℕ) (senders : List Sender) (a : Sender) → LeavesRoom d sg senders a → leaves_room d sg senders a ≡ true
leave_room d sg senders a l =
    let least = l.least in
    let short = l.short in
    and_from (nat_le d a.tg) _ (grind (arith, nat_tests, least))
    (and_from (is_apart d a.tg sg) _ (grind (arith, nat_tests, short))
    (all_pass (λ b. nat_le b.tg a.tg || is_apart d a.tg b.tg) senders (λ b i. elim (cases_lt a.tg b.tg) [
      | inl less ↦ (let far = l.apart b i less in let t : is_apart d a.tg b.tg ≡ true = grind (arith, nat_tests, far) in or_right _ _ t)
      | inr more ↦ (let t : nat_le b.tg a.tg ≡ true = grind (arith, nat_tests, more) in ap (λ z. z || is_apart d a.tg b.tg) t)
    ])))

several_bear : (table : Table) (d : ℕ) → 1 < length table.senders
    → lengths_bear table d ≡ list_all (leaves_room d table.sg table.senders) table.senders
several_bear table d several =
    let other : length table.senders ≢ 1 = λ e. (omega arith) in
    ap (λ b. b || list_all (leaves_room d table.sg table.senders) table.senders) (ne_eqb (length table.senders) 1 other)

module _ (d : ℕ) (table : Table) (order : List Sender) (facts : TableFacts table) (stands : Ordered table order) (several : 1 < length table.senders)
    (rises : (a b : Sender) → Ahead a b order → a.tg < b.tg) where
  more : 1 < length order
  more = omega (arith, several, stands.count)

  inside : (a : Sender) → In a order → SenderFacts table a
  inside a i = of_each (SenderFacts table) table.senders facts.senders a (stands.known a i)

  bear_leave : lengths_bear table d ≡ true → AllLeave d table order
  bear_leave h a i =
      let l = room_left d table.sg table.senders a
      (pass_in (leaves_room d table.sg table.senders) table.senders a (sym (several_bear table d several) ∙ h) (stands.known a i)) in
      record { least = l.least; short = l.short; apart = λ b j less. l.apart b (stands.known b j) less }

  leave_bear : AllLeave d table order → lengths_bear table d ≡ true
  leave_bear h =
      several_bear table d several
      ∙ all_pass (leaves_room d table.sg table.senders) table.senders (λ a i.
      let l = h a (stands.all a i) in
      leave_room d table.sg table.senders a (record { least = l.least; short = l.short; apart = λ b j less. l.apart b (stands.all b j) less }))

  -- no message is empty
  lasting : AreLasting (exact d) order
  lasting a i =
      let w = words_some a.sends (word_bounds a (inside a i).in_range).some in
      let s : 20 ≤ shortest a = omega (arith, w) in
      let m = exactly d (shortest a) in
      omega (arith, m.least, s)

  -- a terminal gap that stands apart from another outlasts the quiet within a message
  drop_from : AllLeave d table order → (a : Sender) → In a (behind order) → drop_of (exact d) ≤ least_time (exact d) a.tg
  drop_from h a i =
      let two = two_of order more in
      let q = two.5 a i in
      let j = ahead_left order two.0 a q in
      let l = (h two.0 j).apart a (ahead_right order two.0 a q) (rises two.0 a q) in
      let s = (inside two.0 j).tg_least in
      let t = exactly d a.tg in
      omega (arith, exact_drop d, t.least, l, s)

  order_from : AllLeave d table order → OrderFacts (exact d) table order
  order_from h =
      let sg = exactly d table.sg in
      let two = two_of order more in
      record {
        whole = λ a i.
            (let l = drop_from h two.1 two.3 in
            let t = exactly d two.1.tg in
            let s = (inside two.1 (in_behind order two.1 two.3)).tg_short in
            omega (arith, sg.least, t.least, s, l));
        drop = drop_from h;
        turns = λ a b p.
            (let q = ahead_behind order a b p in
            let l = (h a (ahead_left order a b q)).apart b (ahead_right order a b q) (rises a b q) in
            let s = exactly d a.tg in let t = exactly d b.tg in
            omega (arith, s.most, t.least, l));
        opening = λ a b q.
            (let l = (h a (ahead_left order a b q)).apart b (ahead_right order a b q) (rises a b q) in
            let s = exactly d a.tg in let t = exactly d b.tg in
            omega (arith, sg.least, sg.most, s.most, t.least, l));
        waiting = λ m a i. (let l = (h a i).short in let t = exactly d a.tg in omega (arith, sg.least, t.most, l));
        joining = λ a b q. (let l = (h a (ahead_left order a b q)).least in let t = exactly d a.tg in omega (arith, sg.least, sg.most, t.least, l));
        alone = λ n a i. (let l = (h a i).least in let t = exactly d a.tg in omega (arith, sg.least, t.least, l));
      }

  leave_from : OrderFacts (exact d) table order → AllLeave d table order
  leave_from f a i =
      let sg = exactly d table.sg in
      let two = two_of order more in
      let tg = exactly d two.0.tg in
      let t = exactly d a.tg in
      let j = f.joining two.0 two.1 two.2 in
      let least : d ≤ two.0.tg = omega (arith, sg.least, sg.most, tg.least, j) in
      let most : two.0.tg ≤ a.tg = elim (two.4 a i) [
        | inl e ↦ (let g : a.tg ≡ two.0.tg = ap (λ (z : Sender). z.tg) e in omega arith)
        | inr p ↦ (let g = rises two.0 a p in omega (arith, g))
      ] in
      record {
        least = omega (arith, least, most);
        short = (let l = f.waiting more a i in omega (arith, sg.least, t.most, l));
        apart = λ c l less. elim (one_ahead order a c i l) [
          | inl e ↦ absurd (let g : a.tg ≡ c.tg = ap (λ (z : Sender). z.tg) e in omega (arith, g, less))
          | inr q ↦ elim q [
            | inl p ↦ (let o = f.opening a c p in let u = exactly d c.tg in omega (arith, sg.least, sg.most, t.most, u.least, o))
            | inr p ↦ absurd (let g = rises c a p in omega (arith, g, less))
          ]
        ];
      }

  lasts_from : starts_itself table ≡ true → Lasts (exact d) table order
  lasts_from h a i =
      let l : nat_le table.ti (table.sg + a.tg + shortest a) ≡ true =
      pass_in (λ sender. nat_le table.ti (table.sg + sender.tg + shortest sender)) table.senders a h (stands.known a i) in
      let m : table.ti ≤ table.sg + a.tg + shortest a = grind (arith, nat_tests, l) in
      let sg = exactly d table.sg in let ti = exactly d table.ti in let t = exactly d a.tg in let n = exactly d (shortest a) in
      omega (arith, sg.least, ti.most, t.most, n.least, m)

  itself_from : Lasts (exact d) table order → starts_itself table ≡ true
  itself_from h =
      all_pass (λ sender. nat_le table.ti (table.sg + sender.tg + shortest sender)) table.senders (λ a i.
      let l = h a (stands.all a i) in
      let sg = exactly d table.sg in let ti = exactly d table.ti in let t = exactly d a.tg in let n = exactly d (shortest a) in
      let m : table.ti ≤ table.sg + a.tg + shortest a = omega (arith, sg.least, ti.most, t.most, n.least, l) in
      grind (arith, nat_tests, m))

  room_of : lengths_bear table d ≡ true → clocks.LeavesRoom (bus_in (exact d) table order)
  room_of h = room_from (exact d) table order stands.some lasting (order_from (bear_leave h))

  bears_of : clocks.LeavesRoom (bus_in (exact d) table order) → lengths_bear table d ≡ true
  bears_of r = leave_bear (leave_from (facts_of (exact d) table order r))

  cycles : table.ti ≤ least_cycle table → (first : Sender) (others : List Sender) → Cycles (exact d) table first others
  cycles c first others =
      let sg = exactly d table.sg in let ti = exactly d table.ti in let tg = exactly d first.tg in
      let s = exact_spoken d table.senders in
      record {
        behind = λ a i. (let t = exactly d a.tg in omega (arith, sg.least, ti.most, t.least, t.most, s, c));
        opener = omega (arith, sg.most, ti.most, tg.least, tg.most, s, c);
      }

  cycles_in : table.ti ≤ least_cycle table → (xs : List Sender) → Ordered table xs → clocks.HasCycle (bus_in (exact d) table xs)
  cycles_in c [] o = absurd (let s : 0 < 0 = o.some in omega arith)
  cycles_in c (first ∷ others) o = cycle_from (exact d) table first others o (cycles c first others)

  cycles_from : table.ti ≤ least_cycle table → clocks.HasCycle (bus_in (exact d) table order)
  cycles_from c = cycles_in c order stands

-- ---- the laws

pub tells_level : ToleranceTellsLevel
tells_level table d ok =
    let facts = valid_facts table ok.valid in
    let stands = ordered table facts in
    let rises = rises_ahead (turn_order table) (aperiodic_rises table ok.mode facts) in
    let level = level_is_room (exact d) table (record { valid = ok.valid; mode = ok.mode }) in
    let aperiodic = in_aperiodic table d ok.mode in (
      (λ b. level.1 (
        room_of d table (turn_order table) facts stands ok.several rises (sym aperiodic ∙ b),
        cycles_from d table (turn_order table) facts stands ok.several rises (accepted_cycle table ok.mode ok.accepted),
      )),
      (λ h. aperiodic ∙ bears_of d table (turn_order table) facts stands ok.several rises (level.0 h).0),
    )

pub tells_any : ToleranceTellsAny
tells_any table d ok =
    let facts = valid_facts table ok.valid in
    let stands = ordered table facts in
    let rises = rises_ahead (turn_order table) (aperiodic_rises table ok.mode facts) in
    let any = any_is_room (exact d) table (record { valid = ok.valid; mode = ok.mode }) in
    let aperiodic = in_aperiodic table d ok.mode in (
      (λ b. any.1 (
        room_of d table (turn_order table) facts stands ok.several rises (sym aperiodic ∙ b.0),
        starts_from (exact d) table (turn_order table) (lasts_from d table (turn_order table) facts stands ok.several rises b.1),
      )),
      (λ h.
          (let r = any.0 h in (
            aperiodic ∙ bears_of d table (turn_order table) facts stands ok.several rises r.0,
            itself_from d table (turn_order table) facts stands ok.several rises (lasts_of (exact d) table (turn_order table) r.1),
          ))),
    )
