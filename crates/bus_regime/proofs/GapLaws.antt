-- Laws of the gaps of a periodic table: which gap is before which sender.
use Rattle.std.specs.Prelude.{◌≡◌, ℕ, zero, suc, ◌+◌, ◌<◌, List, [], ◌∷◌, length, Option, Some, None, slice_get}
use Rattle.std.proofs.Common.{inl, inr, arith, sym, ap, ◌∙◌}
use Rattle.bus_strings.specs.Members.{In}
use Rattle.bus_table.specs.Tables.{Sender}
use Rattle.bus_table.specs.inside.Orders.{Differ, Rises}
use Rattle.bus_table.proofs.TurnLaws.{behind_rises}
use Rattle.bus_regime.specs.Gaps.{Gap, latest_end, last_end, gaps_from}

-- each gap is that of a sender of the order
pub gap_sender : (ti from : ℕ) (order : List Sender) (g : Gap) → In g (gaps_from ti from order) → In g.sender order
gap_sender ti from [] g i = absurd i
gap_sender ti from (s ∷ order) g (inl same) = inl (ap (λ (h : Gap). h.sender) same)
gap_sender ti from (s ∷ order) g (inr i) = inr (gap_sender ti (ti + latest_end s) order g i)

-- a sender has one gap
pub one_gap : (key : Sender → ℕ) (ti from : ℕ) (order : List Sender) (g h : Gap) → Rises key order → In g (gaps_from ti from order)
    → In h (gaps_from ti from order) → g.sender ≡ h.sender → g ≡ h
one_gap key ti from [] g h r i j e = absurd i
one_gap key ti from (a ∷ order) g h r (inl p) (inl s) e = p ∙ sym s
one_gap key ti from (a ∷ order) g h r (inl p) (inr j) e =
    let k : key a < key h.sender = behind_rises key a order h.sender r.0 (gap_sender ti (ti + latest_end a) order h j) in
    let l : key h.sender ≡ key a = ap key (sym e) ∙ ap (λ (w : Gap). key w.sender) p in absurd (omega arith)
one_gap key ti from (a ∷ order) g h r (inr i) (inl s) e =
    let k : key a < key g.sender = behind_rises key a order g.sender r.0 (gap_sender ti (ti + latest_end a) order g i) in
    let l : key g.sender ≡ key a = ap key e ∙ ap (λ (w : Gap). key w.sender) s in absurd (omega arith)
one_gap key ti from (a ∷ order) g h r (inr i) (inr j) e = one_gap key ti (ti + latest_end a) order g h r.1 i j e

-- the first gap of an order, and each other
pub gap_first : (ti from : ℕ) (order : List Sender) (s : Sender) → slice_get order 0 ≡ Some s
    → slice_get (gaps_from ti from order) 0 ≡ Some (record { sender = s; from = from; to = ti + s.at })
gap_first ti from [] s h = absurd (let k : None ≡ Some s = h in cc)
gap_first ti from (x ∷ xs) s h = ap gap_of h where
  gap_of : Option Sender → Option Gap
  gap_of None = None
  gap_of (Some y) = Some (record { sender = y; from = from; to = ti + y.at })

pub gap_next : (ti from : ℕ) (order : List Sender) (k : ℕ) (p s : Sender) → slice_get order k ≡ Some p → slice_get order (suc k) ≡ Some s
    → slice_get (gaps_from ti from order) (suc k) ≡ Some (record { sender = s; from = ti + latest_end p; to = ti + s.at })
gap_next ti from [] k p s h i = absurd (let w : None ≡ Some p = h in cc)
gap_next ti from (x ∷ xs) zero p s h i =
    let same : x ≡ p = (let w : Some x ≡ Some p = h in cc) in
    ap (λ (q : Sender). slice_get (gaps_from ti (ti + latest_end q) xs) 0) same ∙ gap_first ti (ti + latest_end p) xs s i
gap_next ti from (x ∷ xs) (suc k) p s h i = gap_next ti (ti + latest_end x) xs k p s h i

last_is : (end : ℕ) (x : Sender) (xs : List Sender) (p : Sender) → slice_get (x ∷ xs) (length xs) ≡ Some p
    → last_end end (x ∷ xs) ≡ latest_end p
last_is end x [] p h = let same : x ≡ p = (let w : Some x ≡ Some p = h in cc) in ap latest_end same
last_is end x (y ∷ ys) p h = last_is (latest_end x) y ys p h

-- the end of the last of an order
pub last_of : (order : List Sender) (n : ℕ) (p : Sender) → suc n ≡ length order → slice_get order n ≡ Some p
    → last_end 0 order ≡ latest_end p
last_of [] n p e h = absurd (omega (arith, e))
last_of (x ∷ xs) n p e h = last_is 0 x xs p (let same : length xs ≡ n = omega (arith, e) in ap (slice_get (x ∷ xs)) same ∙ h)

-- senders whose numbers differ are told by their numbers
pub same_by_number : (senders : List Sender) → Differ (λ s. s.number) senders → (a b : Sender) → In a senders → In b senders
    → a.number ≡ b.number → a ≡ b
same_by_number [] d a b i j e = absurd i
same_by_number (s ∷ senders) d a b (inl p) (inl q) e = p ∙ sym q
same_by_number (s ∷ senders) d a b (inl p) (inr j) e = absurd (d.0 b j (sym (ap (λ (x : Sender). x.number) p) ∙ e))
same_by_number (s ∷ senders) d a b (inr i) (inl q) e = absurd (d.0 a i (sym (ap (λ (x : Sender). x.number) q) ∙ sym e))
same_by_number (s ∷ senders) d a b (inr i) (inr j) e = same_by_number senders d.1 a b i j e
