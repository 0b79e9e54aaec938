-- What holds with wider bounds, of oscillators that are as exact, holds with narrower ones.
use Rattle.std.specs.List.{sum_by}
use Rattle.std.proofs.Common.{arith, ◌≡◌, ℕ, ◌+◌, ◌-◌, ◌*◌, ◌<◌, ◌≤◌, true, ◌&&◌, List, [], ◌∷◌}
use Rattle.std.proofs.Common.{refl, ap, inl, inr}
use Rattle.std.proofs.lemmas.Bool.{and_parts, and_from}
use Rattle.std.proofs.lemmas.List.Sums.{sum_by-cons}
use Rattle.bus_strings.specs.Members.{In}
use Rattle.bus_table.specs.Lengths.{shortest}
use Rattle.bus_table.specs.Tables.{Sender, Table}
use Rattle.bus_bounds.specs.Bounds.{Bounds, drift}
use Rattle.bus_margins.specs.Times.{least_time, most_time, drop_of}
use Rattle.bus_margins.specs.Least.{holds}
use Rattle.bus_margins.specs.Rooms.{rooms_in, lasts, order_holds, spoken_by}
use Rattle.bus_margins.proofs.FactLemmas.{OrderFacts, Lasts, Cycles, AreLasting, lasting_told, lasting_tell, order_told, order_tell, interval_told, interval_tells, cycle_told, cycle_tells}
use Rattle.bus_margins.proofs.Ordering.{Ordered, in_sum}

pub record Wider (p q : Bounds) : Type 0 where
  pub clocks : p.clocks ≡ q.clocks
  pub delay : p.delay ≤ q.delay
  pub jitter : p.jitter ≤ q.jitter

-- the times of the wider ones
record Times (p q : Bounds) (bits : ℕ) : Type 0 where
  pub least : least_time q bits ≤ least_time p bits
  pub exact : 0 < least_time q bits → least_time p bits ≡ least_time q bits + (q.jitter - p.jitter)
  pub most : most_time q bits ≡ most_time p bits + (q.jitter - p.jitter)

times : (p q : Bounds) (bits : ℕ) → Wider p q → Times p q bits
times p q bits w =
    let e : drift p.clocks (500 * bits) ≡ drift q.clocks (500 * bits) = ap (λ c. drift c (500 * bits)) w.clocks in
    record { least = omega (arith, w.jitter, e); exact = λ h. omega (arith, w.jitter, e, h); most = omega (arith, w.jitter, e) }

drops : (p q : Bounds) → Wider p q → drop_of p ≤ drop_of q
drops p q w = let e : drift p.clocks 2000 ≡ drift q.clocks 2000 = ap (λ c. drift c 2000) w.clocks in omega (arith, w.jitter, w.delay, e)

narrow_order : (p q : Bounds) (table : Table) (order : List Sender) → Wider p q → OrderFacts q table order → OrderFacts p table order
narrow_order p q table order w f =
    let sg = times p q table.sg w in
    let d = drops p q w in
    record {
      whole = λ a i. (let l = f.whole a i in omega (arith, sg.least, d, l));
      drop = λ a i. (let l = f.drop a i in let t = times p q a.tg w in omega (arith, t.least, d, l));
      turns = λ a b i. (let l = f.turns a b i in let s = times p q a.tg w in let t = times p q b.tg w in omega (arith, s.most, t.least, w.delay, l));
      opening = λ a b i. (let l = f.opening a b i in let s = times p q a.tg w in let t = times p q b.tg w in
          omega (arith, sg.least, sg.most, s.most, t.least, w.delay, l));
      waiting = λ more a i. (let l = f.waiting more a i in let t = times p q a.tg w in omega (arith, sg.least, t.most, w.delay, l));
      joining = λ a b i. (let l = f.joining a b i in let t = times p q a.tg w in omega (arith, sg.least, sg.most, t.least, w.delay, l));
      alone = λ e a i. (let l = f.alone e a i in let t = times p q a.tg w in omega (arith, sg.least, t.least, w.delay, l));
    }

narrow_lasting : (p q : Bounds) (xs : List Sender) → Wider p q → AreLasting q xs → AreLasting p xs
narrow_lasting p q xs w h a i = let l = h a i in let t = times p q (shortest a) w in omega (arith, t.least, l)

narrow_lasts : (p q : Bounds) (table : Table) (senders : List Sender) → Wider p q → Lasts q table senders → Lasts p table senders
narrow_lasts p q table senders w h a i =
    let l = h a i in
    let sg = times p q table.sg w in let ti = times p q table.ti w in let t = times p q a.tg w in let m = times p q (shortest a) w in
    omega (arith, sg.least, ti.most, t.most, m.least, l)

-- what the senders take
spoken_more : (p q : Bounds) (xs : List Sender) → Wider p q → sum_by (spoken_by q) xs ≤ sum_by (spoken_by p) xs
spoken_more p q [] w = omega arith
spoken_more p q (x ∷ xs) w =
    let l = spoken_more p q xs w in let t = times p q x.tg w in let m = times p q (shortest x) w in
    omega (arith, sum_by-cons (spoken_by p) x xs, sum_by-cons (spoken_by q) x xs, t.least, m.least, l)

spoken_one : (p q : Bounds) (xs : List Sender) (a : Sender) → Wider p q → In a xs
    → sum_by (spoken_by q) xs + least_time p a.tg ≤ sum_by (spoken_by p) xs + least_time q a.tg
spoken_one p q [] a w i = absurd i
spoken_one p q (x ∷ xs) a w (inl e) =
    let l = spoken_more p q xs w in let m = times p q (shortest x) w in
    let s : least_time p a.tg ≡ least_time p x.tg = ap (λ (z : Sender). least_time p z.tg) e in
    let t : least_time q a.tg ≡ least_time q x.tg = ap (λ (z : Sender). least_time q z.tg) e in
    omega (arith, sum_by-cons (spoken_by p) x xs, sum_by-cons (spoken_by q) x xs, m.least, l, s, t)
spoken_one p q (x ∷ xs) a w (inr i) =
    let l = spoken_one p q xs a w i in let t = times p q x.tg w in let m = times p q (shortest x) w in
    omega (arith, sum_by-cons (spoken_by p) x xs, sum_by-cons (spoken_by q) x xs, t.least, m.least, l)

narrow_cycles : (p q : Bounds) (table : Table) (first : Sender) (others : List Sender) → Wider p q → Ordered table (first ∷ others)
    → AreLasting q (first ∷ others) → Cycles q table first others → Cycles p table first others
narrow_cycles p q table first others w ordered lasting c =
    let sg = times p q table.sg w in let ti = times p q table.ti w in let tg = times p q first.tg w in
    let sp = ordered.spoken (spoken_by p) in let sq = ordered.spoken (spoken_by q) in
    record {
      behind = λ a i.
          let l = c.behind a i in let t = times p q a.tg w in
          let o = spoken_one p q (first ∷ others) a w (inr i) in
          omega (arith, sg.least, ti.most, t.most, o, sp, sq, l);
      opener =
          (let l = c.opener in
          let o = spoken_more p q others w in
          let m = times p q (shortest first) w in
          let x = m.exact (lasting first (inl refl)) in
          omega (arith, sg.most, ti.most, tg.most, o, x, sp, sq, l, sum_by-cons (spoken_by p) first others, sum_by-cons (spoken_by q) first others));
    }

-- the levels
pub keeps_rules : (p q : Bounds) (table : Table) (order : List Sender) → Ordered table order → Wider p q
    → (lasts q table && order_holds (rooms_in q table order)) ≡ true → (lasts p table && order_holds (rooms_in p table order)) ≡ true
keeps_rules p q table order ordered w h =
    let k = and_parts _ _ h in
    and_from _ _ (lasting_tell p table.senders (narrow_lasting p q table.senders w (lasting_told q table.senders k.0)))
    (order_tell p table order (narrow_order p q table order w (order_told q table order k.1)))

pub keeps_interval : (p q : Bounds) (table : Table) (order : List Sender) → Wider p q
    → holds (rooms_in q table order).interval ≡ true → holds (rooms_in p table order).interval ≡ true
keeps_interval p q table order w h = interval_tells p table order (narrow_lasts p q table order w (interval_told q table order h))

pub keeps_cycle : (p q : Bounds) (table : Table) (order : List Sender) → Ordered table order → Wider p q → lasts q table ≡ true
    → holds (rooms_in q table order).cycle ≡ true → holds (rooms_in p table order).cycle ≡ true
keeps_cycle p q table [] ordered w lasting h = absurd (let s : 0 < 0 = ordered.some in omega arith)
keeps_cycle p q table (first ∷ others) ordered w lasting h =
    cycle_tells p table first others
    (narrow_cycles p q table first others w ordered (λ a i. lasting_told q table.senders lasting a (ordered.known a i)) (cycle_told q table first others h))

-- where intervals hold cycles do
cycles_from : (bounds : Bounds) (table : Table) (first : Sender) (others : List Sender) → Ordered table (first ∷ others)
    → Lasts bounds table (first ∷ others) → Cycles bounds table first others
cycles_from bounds table first others ordered lasts =
    let spoken = ordered.spoken (spoken_by bounds) in
    record {
      behind = λ a i.
          let l = lasts a (inr i) in
          let m = in_sum (spoken_by bounds) (first ∷ others) a (inr i) in
          omega (arith, l, m, spoken);
      opener =
          (let l = lasts first (inl refl) in
          let m = in_sum (spoken_by bounds) (first ∷ others) first (inl refl) in
          omega (arith, l, m, spoken));
    }

pub interval_cycle : (bounds : Bounds) (table : Table) (order : List Sender) → Ordered table order
    → holds (rooms_in bounds table order).interval ≡ true → holds (rooms_in bounds table order).cycle ≡ true
interval_cycle bounds table [] ordered h = absurd (let s : 0 < 0 = ordered.some in omega arith)
interval_cycle bounds table (first ∷ others) ordered h =
    cycle_tells bounds table first others (cycles_from bounds table first others ordered (interval_told bounds table (first ∷ others) h))
