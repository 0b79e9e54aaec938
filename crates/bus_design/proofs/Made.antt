-- The made table is valid: the same senders in turn order, with gaps that are taken.
use Rattle.std.specs.Prelude.{◌≡◌, ℕ, ◌<◌, ◌≤◌, Bool, true, false, ◌==◌, nat_lt, IsTrue, List, [], ◌∷◌, ◌++◌, map, length, Option, Some, None}
use Rattle.std.specs.List.{list_all, flat_map}
use Rattle.std.specs.Option.{option_map}
use Rattle.std.proofs.Common.{inl, inr, arith, refl, sym, ap, ◌∙◌, subst, cond}
use Rattle.std.proofs.lemmas.Bool.{and_parts, and_from, cases_lt}
use Rattle.std.proofs.lemmas.Bool.Decides.{nat_tests}
use Rattle.bus_strings.specs.Members.{In}
use Rattle.bus_bounds.specs.Bounds.{Bounds, most_clocks}
use Rattle.bus_table.specs.declared.mode.Mode.TheVariants.{Aperiodic}
use Rattle.bus_table.specs.declared.error.WholeReason.TheVariants.{NumberTwice, GapTwice, PairTwice}
use Rattle.bus_table.specs.declared.line.SendLine.{SendLine}
use Rattle.bus_table.specs.Tables.{Sender, Listener, Table}
use Rattle.bus_table.specs.Ranges.{is_number, is_tg, is_sender}
use Rattle.bus_table.specs.Turns.{turn_key, turn_order, insert, sort}
use Rattle.bus_table.specs.Ranges.{kept}
use Rattle.bus_table.specs.Valid.{fits_mode, is_in_range, is_table, is_valid}
use Rattle.std.specs.Prelude.{IsSome, get_or}
use Rattle.std.proofs.Common.{zero, suc}
use Rattle.bus_gaps.specs.declared.speaker.Speaker.{Speaker}
use Rattle.bus_table.specs.Whole.{sender_numbers, listener_numbers, send_lines, same_pair, no_sender}
use Rattle.bus_table.proofs.PartLaws.{parts_of, valid_of, none_long, sg_range}
use Rattle.bus_table.proofs.TurnLaws.{from_sort}
use Rattle.bus_table.proofs.ValidLaws.{map_none}
use Rattle.bus_gaps.specs.Gaps.{least_time, most_time, next_low, Waits, AreTaken}
use Rattle.bus_gaps.specs.Designs.{AreRoomy}
use Rattle.bus_margins.proofs.TimeLemmas.{least_time_more}
use Rattle.bus_margins.proofs.FitLemmas.{Ahead}
use Rattle.bus_design.specs.Others.{at_gap, with_gaps, made_table, speaker_of, speakers_of}
use Rattle.bus_gaps.specs.declared.design.Design.{Design}
use Rattle.bus_gaps.specs.Designs.{AreAtMost}
use Rattle.bus_design.specs.Bests.{IsBestFor, IsMade, MadeIsValid}
use Rattle.bus_design.specs.Others.{IsAnother, gaps_of}
use Rattle.bus_gaps.proofs.Chains.{taken_many}
use Rattle.std.proofs.lemmas.List.{length-map}
use Rattle.bus_design.proofs.Apart.{Apart, apart_of, none_again, apart_front, apart_back, apart_across, apart_join, in_sorted, apart_sorted}
use Rattle.bus_design.proofs.Orders.{Facts, facts_from}
use Rattle.bus_design.proofs.Plans.{ascends, sorted}

-- ---- what gaps don't change
abbrev pub number_of : Sender → List ℕ
number_of s = s.number ∷ []

pub numbers_flat : (senders : List Sender) → flat_map number_of senders ≡ sender_numbers senders
numbers_flat [] = refl
numbers_flat (s ∷ senders) = ap (λ l. s.number ∷ l) (numbers_flat senders)

pub numbers_kept : (senders : List Sender) (gaps : List ℕ) → length gaps ≡ length senders → sender_numbers (with_gaps senders gaps) ≡ sender_numbers senders
numbers_kept [] gaps n = refl
numbers_kept (s ∷ senders) [] n = absurd (let m : 0 ≡ length (s ∷ senders) = n in cc)
numbers_kept (s ∷ senders) (x ∷ gaps) n =
    ap (λ l. s.number ∷ l) (numbers_kept senders gaps (let m : length (x ∷ gaps) ≡ length (s ∷ senders) = n in omega (arith, m)))

pub lines_kept : (senders : List Sender) (gaps : List ℕ) → length gaps ≡ length senders → send_lines (with_gaps senders gaps) ≡ send_lines senders
lines_kept [] gaps n = refl
lines_kept (s ∷ senders) [] n = absurd (let m : 0 ≡ length (s ∷ senders) = n in cc)
lines_kept (s ∷ senders) (x ∷ gaps) n =
    ap (λ l. s.sends ++ l) (lines_kept senders gaps (let m : length (x ∷ gaps) ≡ length (s ∷ senders) = n in omega (arith, m)))

-- a sender with another gap comes of one of them
pub record Of (s : Sender) (senders : List Sender) : Type 0 where
  pub own : Sender
  pub among : In own senders
  pub same : s ≡ at_gap s.tg own

pub comes_of : (senders : List Sender) (gaps : List ℕ) (s : Sender) → In s (with_gaps senders gaps) → Of s senders
comes_of [] gaps s i = absurd i
comes_of (a ∷ senders) [] s i = absurd i
comes_of (a ∷ senders) (x ∷ gaps) s (inl e) =
    record { own = a; among = inl refl; same = e ∙ ap (λ t. at_gap t a) (sym (ap (λ (z : Sender). z.tg) e)) }
comes_of (a ∷ senders) (x ∷ gaps) s (inr i) =
    let o = comes_of senders gaps s i in record { own = o.own; among = inr o.among; same = o.same }

-- ---- tests of lists by their elements
pub all_from : {X : Type 0} (p : X → Bool) (xs : List X) → ((x : X) → In x xs → p x ≡ true) → list_all p xs ≡ true
all_from p [] h = refl
all_from p (x ∷ xs) h = and_from _ _ (h x (inl refl)) (all_from p xs (λ y i. h y (inr i)))

pub all_at : {X : Type 0} (p : X → Bool) (xs : List X) → list_all p xs ≡ true → (x : X) → In x xs → p x ≡ true
all_at p [] h x i = absurd i
all_at p (y ∷ ys) h x (inl e) = ap p e ∙ (and_parts (p y) _ h).0
all_at p (y ∷ ys) h x (inr i) = all_at p ys (and_parts (p y) _ h).1 x i

-- there is a sender
some_sorted : (senders : List Sender) → no_sender senders ≡ None → no_sender (sort (turn_key Aperiodic) senders) ≡ None
some_sorted [] h = h
some_sorted (a ∷ bs) h = some_inserted (sort (turn_key Aperiodic) bs) where
  some_inserted : (cs : List Sender) → no_sender (insert (turn_key Aperiodic) a cs) ≡ None
  some_inserted [] = refl
  some_inserted (c ∷ cs) =
      elim (nat_lt (turn_key Aperiodic a) (turn_key Aperiodic c)) as (λ w. no_sender (cond w (a ∷ (c ∷ cs)) (c ∷ insert (turn_key Aperiodic) a cs)) ≡ None) [
        | true ↦ refl
        | false ↦ refl
      ]

pub some_made : (order : List Sender) (gaps : List ℕ) → no_sender order ≡ None → length gaps ≡ length order → no_sender (with_gaps order gaps) ≡ None
some_made [] gaps h n = h
some_made (s ∷ order) [] h n = absurd (let m : 0 ≡ length (s ∷ order) = n in cc)
some_made (s ∷ order) (x ∷ gaps) h n = refl

-- ---- the made table
pub turned_number : (n m : ℕ) → (n == m) ≡ false → (m == n) ≡ false
turned_number n m h = grind (arith, nat_tests, h)

pub turned_pair : (a b : SendLine) → same_pair a b ≡ false → same_pair b a ≡ false
turned_pair a b h = grind (arith, nat_tests, h)

in_numbers : (senders : List Sender) (x : ℕ) → In x (sender_numbers (sort (turn_key Aperiodic) senders)) → In x (sender_numbers senders)
in_numbers senders x i =
    subst (In x) (numbers_flat senders)
    (in_sorted (λ n m. n == m) turned_number number_of (turn_key Aperiodic) senders x
    (subst (In x) (sym (numbers_flat (sort (turn_key Aperiodic) senders))) i))

once_kept : (senders : List Sender) (others : List ℕ) → Apart (λ n m. n == m) (sender_numbers senders ++ others)
    → Apart (λ n m. n == m) (sender_numbers (sort (turn_key Aperiodic) senders) ++ others)
once_kept senders others h =
    let own = apart_front (λ n m. n == m) (sender_numbers senders) others h in
    let sorted = apart_sorted (λ n m. n == m) turned_number number_of (turn_key Aperiodic) senders
    (subst (Apart (λ n m. n == m)) (sym (numbers_flat senders)) own) in
    apart_join (λ n m. n == m) (sender_numbers (sort (turn_key Aperiodic) senders)) others
    (subst (Apart (λ n m. n == m)) (numbers_flat (sort (turn_key Aperiodic) senders)) sorted)
    (apart_back (λ n m. n == m) (sender_numbers senders) others h)
    (λ x y i j. apart_across (λ n m. n == m) (sender_numbers senders) others h x y (in_numbers senders x i) j)

-- gaps that ascend are apart
gaps_apart : (order : List Sender) → ((a b : Sender) → Ahead a b order → a.tg < b.tg) → Apart (λ a b. a.tg == b.tg) order
gaps_apart [] h = tt
gaps_apart (a ∷ order) h =
    ((λ b i. let l = h a b (inl (refl, i)) in grind (arith, nat_tests, l)), gaps_apart order (λ x y k. h x y (inr k)))

-- a gap that waits is shorter than the synchronization gap
short_gap : (bounds : Bounds) (sg : ℕ) (alone : Bool) (x : ℕ) → bounds.clocks ≤ most_clocks → Waits bounds sg alone x → x < sg
short_gap bounds sg true x within w = w
short_gap bounds sg false x within w =
    elim (cases_lt x sg) [
      | inl l ↦ l
      | inr r ↦ absurd (let m = least_time_more bounds sg x within r in let b : least_time bounds x ≤ most_time bounds x = omega arith in omega (arith, m, b, w))
    ]

-- the made table is valid
pub made_valid : (bounds : Bounds) (table : Table) (sg : ℕ) (gaps : List ℕ) → bounds.clocks ≤ most_clocks → IsTrue (is_valid table)
    → table.mode ≡ Aperiodic → AreRoomy bounds (speakers_of table) sg gaps → length gaps ≡ length (turn_order table)
    → IsTrue (is_valid (made_table table sg gaps))
made_valid bounds table sg gaps within valid mode roomy count =
    let p = parts_of table valid in
    let order : List Sender = sort (turn_key Aperiodic) table.senders in
    let sorted : turn_order table ≡ order = ap (λ m. sort (turn_key m) table.senders) mode in
    let n : length gaps ≡ length order = count ∙ ap length sorted in
    let made : List Sender = with_gaps order gaps in
    let alone : Bool = length (speakers_of table) == 1 in
    let facts : Facts bounds sg alone made = subst (λ l. Facts bounds sg alone (with_gaps l gaps)) sorted
    (facts_from bounds sg alone (turn_order table) gaps _ roomy.taken) in
    let free : list_all (λ (s : Sender). s.at == 0) table.senders ≡ true = subst (λ m. fits_mode m table.senders ≡ true) mode p.fits in
    let own : (s : Sender) → In s made → is_sender s ≡ true = λ s i.
    let o = comes_of order gaps s i in
    let f = facts.each s i in
    let whole = all_at is_sender table.senders p.senders o.own (from_sort (turn_key Aperiodic) table.senders o.own o.among) in
    let one = and_parts (is_number o.own.number) _ whole in
    let two = and_parts (is_tg o.own.tg) _ one.1 in
    let gap : is_tg s.tg ≡ true = (let l = f.least in let m = f.most in grind (arith, nat_tests, l, m)) in
    ap is_sender o.same ∙ and_from _ _ one.0 (and_from _ _ gap two.1) in
    let at : (s : Sender) → In s made → (s.at == 0) ≡ true = λ s i.
    let o = comes_of order gaps s i in
    ap (λ (z : Sender). z.at == 0) o.same
    ∙ all_at (λ (z : Sender). z.at == 0) table.senders free o.own (from_sort (turn_key Aperiodic) table.senders o.own o.among) in
    let is : IsTrue (is_valid (record { mode = Aperiodic; ti = 1000; sg = sg; senders = made; listeners = table.listeners })) =
    valid_of (record { mode = Aperiodic; ti = 1000; sg = sg; senders = made; listeners = table.listeners }) (record {
      ti = refl;
      sg = sg_range sg roomy.least roomy.most;
      senders = all_from is_sender made own;
      listeners = p.listeners;
      fits = all_from (λ (s : Sender). s.at == 0) made at;
      some = some_made order gaps (some_sorted table.senders p.some) n;
      once = ap (option_map NumberTwice)
          (none_again (λ n m. n == m) _
          (subst (λ ns. Apart (λ n m. n == m) (ns ++ listener_numbers table.listeners)) (sym (numbers_kept order gaps n))
          (once_kept table.senders (listener_numbers table.listeners)
          (apart_of (λ n m. n == m) (sender_numbers table.senders ++ listener_numbers table.listeners) (map_none NumberTwice _ p.once)))));
      gaps = ap (option_map (λ sender. GapTwice sender.number))
          (none_again (λ a b. a.tg == b.tg) made
          (gaps_apart made (λ a b k. ascends bounds sg a.tg b.tg within (facts.pairs a b k))));
      short = none_long sg made (λ s i. short_gap bounds sg alone s.tg within (facts.each s i).waits);
      pairs = ap (option_map (λ line. PairTwice line.label line.ext))
          (none_again same_pair _
          (subst (Apart same_pair) (sym (lines_kept order gaps n))
          (apart_sorted same_pair turned_pair (λ s. s.sends) (turn_key Aperiodic) table.senders
          (apart_of same_pair (send_lines table.senders) (map_none (λ line. PairTwice line.label line.ext) _ p.pairs)))));
      late = refl;
    }) in
    subst (λ l. IsTrue (is_valid (made_table_of l))) (sym sorted) is
  where
    made_table_of : List Sender → Table
    made_table_of l = record { mode = Aperiodic; ti = 1000; sg = sg; senders = with_gaps l gaps; listeners = table.listeners }

pub made_is_valid : MadeIsValid
made_is_valid bounds table sg gaps within valid mode roomy =
    made_valid bounds table sg gaps within valid mode roomy
    (taken_many bounds sg _ _ (speakers_of table) gaps roomy.taken ∙ length-map (turn_order table) speaker_of)

-- ---- the made table is the best
pub gaps_made : (order : List Sender) (gaps : List ℕ) → length gaps ≡ length order → map (λ (s : Sender). s.tg) (with_gaps order gaps) ≡ gaps
gaps_made [] [] n = refl
gaps_made [] (x ∷ gaps) n = absurd (let m : length (x ∷ gaps) ≡ 0 = n in cc)
gaps_made (s ∷ order) [] n = absurd (let m : 0 ≡ length (s ∷ order) = n in cc)
gaps_made (s ∷ order) (x ∷ gaps) n =
    ap (λ l. x ∷ l) (gaps_made order gaps (let m : length (x ∷ gaps) ≡ length (s ∷ order) = n in omega (arith, m)))

pub roomy_many : (bounds : Bounds) (table : Table) (sg : ℕ) (gaps : List ℕ) → AreRoomy bounds (speakers_of table) sg gaps
    → length gaps ≡ length (turn_order table)
roomy_many bounds table sg gaps roomy =
    taken_many bounds sg _ _ (speakers_of table) gaps roomy.taken ∙ length-map (turn_order table) speaker_of

pub made_best : (bounds : Bounds) (table : Table) (design : Design) → bounds.clocks ≤ most_clocks → IsTrue (is_valid table)
    → table.mode ≡ Aperiodic → IsBestFor bounds table design → IsMade bounds table (made_table table design.sg design.gaps.items)
made_best bounds table design within valid mode best =
    let gaps = design.gaps.items in
    let made : Table = made_table table design.sg gaps in
    let count = roomy_many bounds table design.sg gaps best.roomy in
    let own : gaps_of made ≡ gaps = gaps_made (turn_order table) gaps count in
    let another : IsAnother table made gaps = record {
      valid = made_is_valid bounds table design.sg gaps within valid mode best.roomy;
      mode = refl;
      count = count;
      order = sorted bounds design.sg _ (turn_order table) gaps _ within best.roomy.taken;
    } in
    let cycle = best.cycle made another refl in
    record {
      parts = ap (made_table table design.sg) (sym own);
      another = subst (IsAnother table made) (sym own) another;
      any = best.any made another refl refl;
      best = λ other others is any. (let l = best.best other others is any in omega (arith, l, cycle));
      last = λ other others is any same. best.last other others is any (same ∙ cycle);
      least = λ other others is any sg. subst (λ l. AreAtMost l others) (sym own) (best.least other others is any sg);
    }

-- ---- what is built is the made table
abbrev pub built : ℕ → List Sender → List Listener → Table
built sg senders listeners = record { mode = Aperiodic; ti = 1000; sg = sg; senders = senders; listeners = listeners }

pub built_is : (table : Table) (sg : ℕ) (gaps : List ℕ) (senders : List Sender) (listeners : List Listener)
    → senders ≡ with_gaps (turn_order table) gaps → listeners ≡ table.listeners → built sg senders listeners ≡ made_table table sg gaps
built_is table sg gaps senders listeners s l =
    ap (λ ss. built sg ss listeners) s ∙ ap (λ ls. built sg (with_gaps (turn_order table) gaps) ls) l

-- a valid table is kept
pub kept_table : (t made : Table) → t ≡ made → IsTrue (is_valid made) → kept is_table t ≡ Some made
kept_table t made e valid =
    let p = parts_of made valid in
    let whole = and_parts (is_in_range made) _ valid in
    let is : is_table made ≡ true = and_from _ _ p.ti (and_from _ _ p.sg (and_from _ _ p.fits whole.1)) in
    ap (kept is_table) e ∙ ap (λ b. cond b (Some made) None) is

pub is_some : {X : Type 0} (o : Option X) (x : X) → o ≡ Some x → IsSome o
is_some o x e = subst IsSome (sym e) refl

pub same_some : {X : Type 0} (x y : X) → Some x ≡ Some y → x ≡ y
same_some x y e = cc

-- gaps that are taken are in their range
pub taken_range : (bounds : Bounds) (sg : ℕ) (alone : Bool) (senders : List Speaker) (gaps : List ℕ) (low : ℕ)
    → AreTaken bounds sg alone low senders gaps → (k d : ℕ) → k < length gaps → IsTrue (is_tg (get_or gaps k d))
taken_range bounds sg alone [] [] low t k d l = absurd (let m : k < 0 = l in omega (arith, m))
taken_range bounds sg alone [] (x ∷ gaps) low t k d l = absurd t
taken_range bounds sg alone (a ∷ senders) [] low t k d l = absurd t
taken_range bounds sg alone (a ∷ senders) (x ∷ gaps) low t zero d l =
    let least = t.0.least in let most = t.0.most in grind (arith, nat_tests, least, most)
taken_range bounds sg alone (a ∷ senders) (x ∷ gaps) low t (suc k) d l =
    taken_range bounds sg alone senders gaps (next_low bounds sg x) t.1 k d (let m : suc k < suc (length gaps) = l in omega (arith, m))
