-- What the conditions of a table bear, and that they tell together what the table bears.
use Rattle.std.proofs.Common.{◌≡◌, ◌≢◌, ℕ, zero, suc, ◌+◌, ◌-◌, ◌*◌, ◌<◌, ◌≤◌, Bool, true, false, ◌&&◌, ◌||◌, List, [], ◌∷◌, ◌++◌, map, length, drop, take, Some, None, inl, inr, arith, sym, refl, ap, ◌∙◌, subst, append_assoc, append-nil}
use Rattle.std.specs.Prelude.{◌↔◌, nat_le, slice_get, IsTrue, IsSomeAnd, Option}
use Rattle.std.specs.List.{list_all}
use Rattle.std.proofs.lemmas.Bool.{and_parts, leb-true, le-leb, ltb-true, lt-ltb, ne_eqb}
use Rattle.std.proofs.lemmas.List.{drop_all}
use Rattle.std.proofs.lemmas.Nat.{mul-le}
use Rattle.bus_strings.specs.Members.{In}
use Rattle.bus_strings.proofs.ListLaws.{drop_at}
use Rattle.bus_strings.proofs.MemberLaws.{of_each}
use Rattle.bus_table.specs.declared.mode.Mode.TheVariants.{Aperiodic, Periodic}
use Rattle.bus_table.specs.inside.Facts.{FitsMode, SenderFacts, TableFacts}
use Rattle.bus_table.specs.inside.Orders.{Rises}
use Rattle.bus_table.specs.Tables.{Sender, Table}
use Rattle.bus_table.specs.Turns.{turn_key, turn_order}
use Rattle.bus_table.specs.Valid.{is_valid}
use Rattle.bus_table.proofs.TurnLaws.{from_sort, length-sort, order_rises}
use Rattle.bus_table.proofs.ValidLaws.{valid_facts}
use Rattle.bus_regime.specs.Gaps.{Gap, gaps, gaps_from, last_end, latest_end}
use Rattle.bus_regime.proofs.GapPlaces.{length-gaps, some_of}
use Rattle.bus_regime.specs.Verdicts.{verdict_of, is_accepted}
use Rattle.bus_schedule.specs.Slack.{is_wide, stays, all_stay, gaps_bear}
use Rattle.bus_schedule.proofs.CableRuns.{all_in}
use Rattle.bus_schedule.proofs.FineGaps.{accepted_bears_none}
use Rattle.bus_reach.specs.declared.limit.Limit.{Limit}
use Rattle.bus_reach.specs.declared.limit.Rule.TheVariants.{LeastGap, NextGap, OwnGap}
use Rattle.bus_reach.specs.Limits.{farthest, greatest_taken, least_limit, least_limits, next_limit, next_gap, next_limits, gap_limit, sync_limit, sync_limits}
use Rattle.bus_reach.specs.Tolerance.{is_apart}
use Rattle.bus_reach.proofs.GreatestLemmas.{taken_some, taken_none, taken_between, IsSteady}
use Rattle.bus_reach.proofs.Rotating.{around, length-around, take_here}
use Rattle.bus_reach.proofs.SlackLemmas.{stays_less, stays_far}

-- ---- how far
pub senders_far : (table : Table) → TableFacts table → length table.senders * table.sg ≤ 128 * 1024
senders_far table facts =
    let few : length table.senders ≤ 128 = facts.few in
    let sg : table.sg ≤ 1024 = facts.sg_most in
    let a : length table.senders * table.sg ≤ 128 * table.sg = mul-le (length table.senders) table.sg 128 table.sg few (omega arith) in
    omega arith

pub far_small : (table : Table) (senders : List Sender) (sg : ℕ) → IsTrue (is_valid table) → senders ≡ table.senders → sg ≡ table.sg
    → length senders * sg ≤ 131072
far_small table senders sg valid same is =
    subst (λ s. length senders * s ≤ 131072) (sym is) (subst (λ ss. length ss * table.sg ≤ 131072) (sym same) (senders_far table (valid_facts table valid)))

-- ---- the least terminal gap
pub at_most : (tg : ℕ) → (d : ℕ) → (d ≤ tg) ↔ IsTrue (nat_le d tg)
at_most tg d = ((λ low. le-leb d tg low), (λ yes'. leb-true d tg yes'))

pub tg_near : (table : Table) (sender : Sender) → TableFacts table → In sender table.senders → sender.tg < farthest table
tg_near table sender facts i =
    let tg : sender.tg ≤ 256 = (of_each (SenderFacts table) table.senders facts.senders sender i).tg_most in
    let ti : 1000 ≤ table.ti = facts.ti_least in
    omega arith

pub least_found : (table : Table) (first : Sender) (number tg : ℕ) → IsTrue (is_valid table) → In first table.senders → number ≡ first.number → tg ≡ first.tg
    → (let x : Limit = record { rule = LeastGap number; bears = Some tg } in x) ≡ least_limit table first
least_found table first number tg valid i n t =
    ap (λ k. let x : Limit = record { rule = LeastGap k; bears = Some tg } in x) n
    ∙ ap (λ o. let x : Limit = record { rule = LeastGap first.number; bears = o } in x)
    (ap Some t ∙ taken_some (λ d. nat_le d first.tg) first.tg (farthest table) (at_most first.tg) (tg_near table first (valid_facts table valid) i))

pub least_at : (table : Table) (order : List Sender) (first : Sender) → slice_get order 0 ≡ Some first → least_limits table order ≡ least_limit table first ∷ []
least_at table [] first h = absurd (let none : None ≡ Some first = h in cc)
least_at table (x ∷ order) first h =
    let same : x ≡ first = (let e : Some x ≡ Some first = h in cc) in
    ap (λ s. least_limit table s ∷ []) same

-- ---- the next longer gap
pub apart_as : (a b between : ℕ) → ((d : ℕ) → (d ≤ between) ↔ (a + 2 * d < b)) → (d : ℕ) → (d ≤ between) ↔ IsTrue (is_apart d a b)
apart_as a b between h d = ((λ low. lt-ltb (a + 2 * d) b ((h d).0 low)), (λ yes'. (h d).1 (ltb-true (a + 2 * d) b yes')))

pub between_near : (table : Table) (a b between : ℕ) → TableFacts table → ((d : ℕ) → (d ≤ between) ↔ (a + 2 * d < b)) → b ≤ table.sg → between < farthest table
between_near table a b between facts h low =
    let own : a + 2 * between < b = (h between).0 (omega arith) in
    let sg : table.sg ≤ 1024 = facts.sg_most in
    let ti : 1000 ≤ table.ti = facts.ti_least in
    omega arith

pub next_found : (table : Table) (sender : Sender) (number tg next between : ℕ) → IsTrue (is_valid table) → number ≡ sender.number → tg ≡ sender.tg
    → ((d : ℕ) → (d ≤ between) ↔ (tg + 2 * d < next)) → next ≤ table.sg
    → (let x : Limit = record { rule = NextGap number; bears = Some between } in x) ≡ next_limit table sender next
next_found table sender number tg next between valid n t h low =
    let own : (d : ℕ) → (d ≤ between) ↔ (sender.tg + 2 * d < next) = subst (λ k. (d : ℕ) → (d ≤ between) ↔ (k + 2 * d < next)) t h in
    ap (λ k. let x : Limit = record { rule = NextGap k; bears = Some between } in x) n
    ∙ ap (λ o. let x : Limit = record { rule = NextGap sender.number; bears = o } in x)
    (taken_some (λ d. is_apart d sender.tg next) between (farthest table) (apart_as sender.tg next between own)
    (between_near table sender.tg next between (valid_facts table valid) own low))

one_more : (k : ℕ) → suc k + 1 ≡ suc (k + 1)
one_more k = omega arith

-- the next gap, behind the sender at a place
pub next_at : (sg : ℕ) (order : List Sender) (k : ℕ) (next : Sender) → slice_get order (k + 1) ≡ Some next → next_gap sg (drop (k + 1) order) ≡ next.tg
next_at sg order k next at = ap (next_gap sg) (drop_at order (k + 1) next at)

pub none_at : (sg : ℕ) (order : List Sender) (k : ℕ) → length order ≤ k + 1 → next_gap sg (drop (k + 1) order) ≡ sg
none_at sg order k past = ap (next_gap sg) (drop_all (k + 1) order past)

longer_in : (sg : ℕ) (order : List Sender) (k : ℕ) (a : Sender) → Rises (λ s. s.tg) order → ((b : Sender) → In b order → b.tg < sg) → slice_get order k ≡ Some a
    → a.tg < next_gap sg (drop (k + 1) order)
longer_in sg [] k a r short at = absurd (let none : None ≡ Some a = at in cc)
longer_in sg (x ∷ []) zero a r short at =
    let same : x ≡ a = (let e : Some x ≡ Some a = at in cc) in
    let low : a.tg < sg = short a (inl (sym same)) in
    low
longer_in sg (x ∷ y ∷ order) zero a r short at =
    let same : x ≡ a = (let e : Some x ≡ Some a = at in cc) in
    subst (λ (s : Sender). s.tg < y.tg) same r.0.0
longer_in sg (x ∷ order) (suc k) a r short at =
    subst (λ n. a.tg < next_gap sg (drop n (x ∷ order))) (sym (one_more k)) (longer_in sg order k a r.1 (λ b i. short b (inr i)) at)

low_in : (sg : ℕ) (order : List Sender) (n : ℕ) → ((b : Sender) → In b order → b.tg < sg) → next_gap sg (drop n order) ≤ sg
low_in sg [] zero short = omega arith
low_in sg [] (suc n) short = omega arith
low_in sg (x ∷ order) zero short = let low : x.tg < sg = short x (inl refl) in omega arith
low_in sg (x ∷ order) (suc n) short = low_in sg order n (λ b i. short b (inr i))

pub all_short : (table : Table) → TableFacts table → (b : Sender) → In b (turn_order table) → b.tg < table.sg
all_short table facts b i = (of_each (SenderFacts table) table.senders facts.senders b (from_sort (turn_key table.mode) table.senders b i)).tg_short

pub next_longer : (table : Table) (k : ℕ) (a : Sender) → IsTrue (is_valid table) → table.mode ≡ Aperiodic → slice_get (turn_order table) k ≡ Some a
    → a.tg < next_gap table.sg (drop (k + 1) (turn_order table))
next_longer table k a valid mode at =
    longer_in table.sg (turn_order table) k a (subst (λ m. Rises (turn_key m) (turn_order table)) mode (order_rises table (valid_facts table valid)))
    (all_short table (valid_facts table valid)) at

pub next_low : (table : Table) (k : ℕ) → IsTrue (is_valid table) → next_gap table.sg (drop (k + 1) (turn_order table)) ≤ table.sg
next_low table k valid = low_in table.sg (turn_order table) (k + 1) (all_short table (valid_facts table valid))

-- ---- a list that grows by those to come
grown : (items new rest whole : List Limit) (x : Limit) → new ≡ items ++ x ∷ [] → items ++ x ∷ rest ≡ whole → new ++ rest ≡ whole
grown items new rest whole x e h = ap (λ l. l ++ rest) e ∙ append_assoc items (x ∷ []) rest ∙ h

pub whole_at : (items rest whole : List Limit) → rest ≡ [] → items ++ rest ≡ whole → items ≡ whole
whole_at items rest whole none h = sym (append-nil items) ∙ ap (λ l. items ++ l) (sym none) ∙ h

pub next_end : (table : Table) (k : ℕ) (items whole : List Limit) → length table.senders ≤ k
    → items ++ next_limits table (drop k (turn_order table)) ≡ whole → items ≡ whole
next_end table k items whole past h =
    let long = length-sort (turn_key table.mode) table.senders in
    whole_at items (next_limits table (drop k (turn_order table))) whole
    (ap (next_limits table) (drop_all k (turn_order table) (omega (arith, long)))) h

pub gap_end : (table : Table) (k : ℕ) (items whole : List Limit) → length table.senders ≤ k
    → items ++ map (gap_limit table) (drop k (gaps table)) ≡ whole → items ≡ whole
gap_end table k items whole past h =
    let long = length-gaps table in
    whole_at items (map (gap_limit table) (drop k (gaps table))) whole (ap (map (gap_limit table)) (drop_all k (gaps table) (omega (arith, long)))) h

pub sync_end : (table : Table) (k : ℕ) (items whole : List Limit) → length table.senders ≤ k
    → items ++ sync_limits table (take k (gaps table)) (drop k (gaps table)) ≡ whole → items ≡ whole
sync_end table k items whole past h =
    let long = length-gaps table in
    whole_at items (sync_limits table (take k (gaps table)) (drop k (gaps table))) whole
    (ap (sync_limits table (take k (gaps table))) (drop_all k (gaps table) (omega (arith, long)))) h

pub next_step : (table : Table) (k : ℕ) (a : Sender) (items new whole : List Limit) (x : Limit) (next : ℕ) → slice_get (turn_order table) k ≡ Some a
    → next ≡ next_gap table.sg (drop (k + 1) (turn_order table)) → x ≡ next_limit table a next → new ≡ items ++ x ∷ []
    → items ++ next_limits table (drop k (turn_order table)) ≡ whole → new ++ next_limits table (drop (k + 1) (turn_order table)) ≡ whole
next_step table k a items new whole x next at n is e h =
    let behind : List Sender = drop (k + 1) (turn_order table) in
    grown items new (next_limits table (drop (k + 1) (turn_order table))) whole x e
    (ap (λ l. items ++ l ∷ next_limits table (drop (k + 1) (turn_order table))) (is ∙ ap (next_limit table a) n)
    ∙ ap (λ o. items ++ next_limits table o) (sym (drop_at (turn_order table) k a at)) ∙ h)

pub gap_step : (table : Table) (k : ℕ) (g : Gap) (items new whole : List Limit) (x : Limit) → slice_get (gaps table) k ≡ Some g → x ≡ gap_limit table g
    → new ≡ items ++ x ∷ [] → items ++ map (gap_limit table) (drop k (gaps table)) ≡ whole → new ++ map (gap_limit table) (drop (k + 1) (gaps table)) ≡ whole
gap_step table k g items new whole x at is e h =
    grown items new (map (gap_limit table) (drop (k + 1) (gaps table))) whole x e
    (ap (λ l. items ++ l ∷ map (gap_limit table) (drop (k + 1) (gaps table))) is
    ∙ ap (λ o. items ++ map (gap_limit table) o) (sym (drop_at (gaps table) k g at)) ∙ h)

pub sync_step : (table : Table) (k : ℕ) (items new whole : List Limit) (x : Limit)
    → IsSomeAnd (slice_get (gaps table) k) (λ own. x ≡ sync_limit table (around k (gaps table)) own)
    → new ≡ items ++ x ∷ [] → items ++ sync_limits table (take k (gaps table)) (drop k (gaps table)) ≡ whole
    → new ++ sync_limits table (take (k + 1) (gaps table)) (drop (k + 1) (gaps table)) ≡ whole
sync_step table k items new whole x has e h =
    let w = some_of (λ (own : Gap). x ≡ sync_limit table (around k (gaps table)) own) (slice_get (gaps table) k) has in
    let here : take (k + 1) (gaps table) ≡ take k (gaps table) ++ w.0 ∷ [] = take_here (gaps table) k w.0 w.1 in
    grown items new (sync_limits table (take (k + 1) (gaps table)) (drop (k + 1) (gaps table))) whole x e
    (ap (λ l. items ++ l ∷ sync_limits table (take (k + 1) (gaps table)) (drop (k + 1) (gaps table))) w.2
    ∙ ap (λ b. items ++ sync_limit table (drop (k + 1) (gaps table) ++ b) w.0 ∷ sync_limits table b (drop (k + 1) (gaps table))) here
    ∙ ap (λ o. items ++ sync_limits table (take k (gaps table)) o) (sym (drop_at (gaps table) k w.0 w.1)) ∙ h)

-- ---- the gaps of a periodic table
-- a gap ends where its sender starts
in_gaps : (ti from : ℕ) (order : List Sender) (g : Gap) → In g (gaps_from ti from order) → In g.sender order × (g.to ≡ ti + g.sender.at)
in_gaps ti from [] g i = absurd i
in_gaps ti from (s ∷ order) g (inl same) = (inl (ap (λ (x : Gap). x.sender) same), ap (λ (x : Gap). x.to) same ∙ ap (λ (x : Gap). ti + x.sender.at) (sym same))
in_gaps ti from (s ∷ order) g (inr i) = let so = in_gaps ti (ti + latest_end s) order g i in (inr so.0, so.1)

pub gap_near : (table : Table) (g : Gap) → IsTrue (is_valid table) → table.mode ≡ Periodic → In g (gaps table) → g.to < farthest table
gap_near table g valid mode i =
    let facts = valid_facts table valid in
    let so = in_gaps table.ti (last_end 0 (turn_order table)) (turn_order table) g i in
    let sender : SenderFacts table g.sender = of_each (SenderFacts table) table.senders facts.senders g.sender (from_sort (turn_key table.mode) table.senders g.sender so.0) in
    let early : g.sender.at < table.ti = subst (λ m. FitsMode m table.ti g.sender.at) mode sender.mode in
    let to : g.to ≡ table.ti + g.sender.at = so.1 in
    omega arith

-- what an accepted periodic table of several senders has
pub record Fine (table : Table) : Type 0 where
  pub wide : list_all (is_wide 0) (gaps table) ≡ true
  pub synced : all_stay 0 table.sg [] (gaps table) ≡ true

pub fine : (table : Table) → IsTrue (is_valid table) → table.mode ≡ Periodic → IsTrue (is_accepted (verdict_of table)) → length table.senders ≢ 1 → Fine table
fine table valid mode accepted several =
    let borne : gaps_bear table 0 ≡ true = accepted_bears_none table valid mode accepted in
    let both : (list_all (is_wide 0) (gaps table) && all_stay 0 table.sg [] (gaps table)) ≡ true =
    subst (λ b. (b || (list_all (is_wide 0) (gaps table) && all_stay 0 table.sg [] (gaps table))) ≡ true) (ne_eqb (length table.senders) 1 several) borne in
    let parts = and_parts (list_all (is_wide 0) (gaps table)) _ both in
    record { wide = parts.0; synced = parts.1 }

-- a gap of several or of one
pub wide_gap : (table : Table) (g : Gap) → list_all (is_wide 0) (gaps table) ≡ true → In g (gaps table) → g.from + g.sender.tg ≤ g.to
wide_gap table g wide i = let k : g.from + (g.sender.tg + 0) ≤ g.to = leb-true (g.from + (g.sender.tg + 0)) g.to (all_in (is_wide 0) (gaps table) g wide i) in omega arith

pub wide_as : (g : Gap) (most : ℕ) → g.from + g.sender.tg ≤ g.to → most ≡ g.to - g.from - g.sender.tg → (d : ℕ) → (d ≤ most) ↔ IsTrue (is_wide d g)
wide_as g most wide is d = (
  (λ low. le-leb (g.from + (g.sender.tg + d)) g.to (omega arith)),
  (λ yes'. let k : g.from + (g.sender.tg + d) ≤ g.to = leb-true (g.from + (g.sender.tg + d)) g.to yes' in omega arith),
)

pub gap_found : (table : Table) (g : Gap) (number most : ℕ) → g.from + g.sender.tg ≤ g.to → g.to < farthest table → number ≡ g.sender.number
    → most ≡ g.to - g.from - g.sender.tg → (let x : Limit = record { rule = OwnGap number; bears = Some most } in x) ≡ gap_limit table g
gap_found table g number most wide near n is =
    ap (λ k. let x : Limit = record { rule = OwnGap k; bears = Some most } in x) n
    ∙ ap (λ o. let x : Limit = record { rule = OwnGap g.sender.number; bears = o } in x)
    (taken_some (λ d. is_wide d g) most (farthest table) (wide_as g most wide is) (omega arith))

-- ---- sync
-- with delays up to d the sender of the k-th gap stays in sync, or not
abbrev pub Stays : Table → (k d : ℕ) → Bool → Type 0
Stays table k d b = IsSomeAnd (slice_get (gaps table) k) (λ own. b ≡ stays d table.sg own.sender.number (Some 0) (around k (gaps table)))

-- two that are told of one gap
of_one : {A : Type 0} (o : Option A) (P Q R : A → Type 0) → ((a : A) → o ≡ Some a → P a → Q a → R a) → IsSomeAnd o P → IsSomeAnd o Q → IsSomeAnd o R
of_one None P Q R f p q = absurd p
of_one (Some a) P Q R f p q = f a refl p q

abbrev keeps : Table → ℕ → Gap → ℕ → Bool
keeps table k own d = stays d table.sg own.sender.number (Some 0) (around k (gaps table))

pub sync_none : (table : Table) (k far : ℕ) (b : Bool) → b ≡ true → Stays table k far b
    → IsSomeAnd (slice_get (gaps table) k) (λ own. None ≡ greatest_taken (λ d. stays d table.sg own.sender.number (Some 0) (around k (gaps table))) far)
sync_none table k far b yes' has =
    of_one (slice_get (gaps table) k) _ _ _ (λ own at p q. taken_none (keeps table k own) far (sym p ∙ yes')) has has

pub sync_some : (table : Table) (k far borne above : ℕ) → Stays table k borne true → Stays table k above false → borne < above → above ≤ far → above ≤ borne + 1
    → IsSomeAnd (slice_get (gaps table) k) (λ own. Some borne ≡ greatest_taken (λ d. stays d table.sg own.sender.number (Some 0) (around k (gaps table))) far)
sync_some table k far borne above yes' no' apart within near =
    of_one (slice_get (gaps table) k) _ _ _ (λ own at p q.
    taken_between (keeps table k own) borne above far
    (λ d e low so. stays_less d e table.sg own.sender.number (Some 0) (Some 0) (around k (gaps table)) low (omega arith) so) (sym p) (sym q) near within apart) yes' no'

stay_at : (sg : ℕ) (before gs : List Gap) (k : ℕ) (own : Gap) → all_stay 0 sg before gs ≡ true → slice_get gs k ≡ Some own
    → stays 0 sg own.sender.number (Some 0) (drop (k + 1) gs ++ (before ++ take (k + 1) gs)) ≡ true
stay_at sg before [] k own h at = absurd (let none : None ≡ Some own = at in cc)
stay_at sg before (g ∷ gs) zero own h at =
    let same : g ≡ own = (let e : Some g ≡ Some own = at in cc) in
    subst (λ (o : Gap). stays 0 sg o.sender.number (Some 0) (gs ++ (before ++ g ∷ [])) ≡ true) same (and_parts _ _ h).0
stay_at sg before (g ∷ gs) (suc k) own h at =
    subst (λ n. stays 0 sg own.sender.number (Some 0) (drop n (g ∷ gs) ++ (before ++ take n (g ∷ gs))) ≡ true) (sym (one_more k))
    (subst (λ l. stays 0 sg own.sender.number (Some 0) (drop (k + 1) gs ++ l) ≡ true) (append_assoc before (g ∷ []) (take (k + 1) gs))
    (stay_at sg (before ++ g ∷ []) gs k own (and_parts (stays 0 sg g.sender.number (Some 0) (gs ++ (before ++ g ∷ []))) _ h).1 at))

-- an accepted table's senders stay in sync without delays
pub sync_zero : (table : Table) (k : ℕ) (own : Gap) → Fine table → slice_get (gaps table) k ≡ Some own → keeps table k own 0 ≡ true
sync_zero table k own good at = stay_at table.sg [] (gaps table) k own good.synced at

pub zero_stays : (table : Table) (k d : ℕ) (b : Bool) → Fine table → Stays table k d b → Stays table k 0 true
zero_stays table k d b good has = of_one (slice_get (gaps table) k) _ _ _ (λ own at p q. sym (sync_zero table k own good at)) has has

-- so what is found of a sender is steady
pub sync_steady : (table : Table) (k : ℕ) (own : Gap) → IsTrue (is_valid table) → Fine table → slice_get (gaps table) k ≡ Some own → k < length (gaps table)
    → IsSteady (keeps table k own) (farthest table)
sync_steady table k own valid good at inside = record {
  none = sync_zero table k own good at;
  less = λ d e low so. stays_less d e table.sg own.sender.number (Some 0) (Some 0) (around k (gaps table)) low (omega arith) so;
  beyond = λ d past. stays_far d (farthest table) table.sg own.sender.number 0 (Some 0) (around k (gaps table)) near past (omega arith);
}
  where
    near : 0 + length (around k (gaps table)) * table.sg ≤ farthest table
    near =
        let long : length (around k (gaps table)) ≡ length table.senders = length-around k (gaps table) inside ∙ length-gaps table in
        let e : length (around k (gaps table)) * table.sg ≡ length table.senders * table.sg = ap (λ n. n * table.sg) long in
        omega arith
