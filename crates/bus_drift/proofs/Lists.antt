-- Transmissions by their place in the list.
use Rattle.std.proofs.Common.{◌≡◌, ℕ, zero, suc, ◌+◌, ◌<◌, ◌≤◌, List, [], ◌∷◌, length, get_or, inl, inr, arith, sym, refl, subst}
use Rattle.bus_clocks.specs.Entries.{Entry, end_of, In, IsBefore, IsAscending, AreClear}

pub in_place : (list : List Entry) (n : ℕ) (d : Entry) → n < length list → In (get_or list n d) list
in_place [] n d less = absurd (omega arith)
in_place (x ∷ xs) zero d less = inl refl
in_place (x ∷ xs) (suc n) d less = inr (in_place xs n d (omega arith))

pub record Place (list : List Entry) (d x : Entry) : Type 0 where
  pub at : ℕ
  pub less : at < length list
  pub is : x ≡ get_or list at d

pub place : (list : List Entry) (d x : Entry) → In x list → Place list d x
place [] d x i = absurd i
place (y ∷ ys) d x (inl same) = record { at = 0; less = omega arith; is = same }
place (y ∷ ys) d x (inr i) =
    let p : Place ys d x = place ys d x i in
    let less : p.at < length ys = p.less in
    record { at = suc p.at; less = omega arith; is = p.is }

pub ascending : (list : List Entry) (d : Entry) (m n : ℕ) → IsAscending list → m < n → n < length list → IsBefore (get_or list m d) (get_or list n d)
ascending [] d m n up less on = absurd (omega arith)
ascending (x ∷ xs) d m zero up less on = absurd (omega arith)
ascending (x ∷ xs) d zero (suc n) up less on = up.0 (get_or xs n d) (in_place xs n d (omega arith))
ascending (x ∷ xs) d (suc m) (suc n) up less on = ascending xs d m n up.1 (omega arith) (omega arith)

pub clear : (delay : ℕ) (list : List Entry) (d : Entry)
    → ((m n : ℕ) → m < n → n < length list → end_of (get_or list m d) + delay ≤ (get_or list n d).moment) → AreClear delay list
clear delay [] d h = tt
clear delay (x ∷ xs) d h = (
  (λ y i.
      let p : Place xs d y = place xs d y i in
      let less : p.at < length xs = p.less in
      subst (λ (z : Entry). end_of x + delay ≤ z.moment) (sym p.is) (h 0 (suc p.at) (omega arith) (omega arith))),
  clear delay xs d (λ m n less on. h (suc m) (suc n) (omega arith) (omega arith)),
)
