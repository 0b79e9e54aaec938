-- Senders of a table by their numbers and gaps, and one of them changed.
use Rattle.std.specs.Prelude.{◌≡◌, ◌≢◌, ℕ, ◌+◌, Bool, true, false, ◌||◌, ◌==◌, List, [], ◌∷◌, ◌++◌, map, Some, None}
use Rattle.std.specs.List.{list_any, list_all, sum_by}
use Rattle.std.proofs.Common.{inl, inr, arith, sym, refl, ap, ◌∙◌, cond, subst}
use Rattle.std.proofs.lemmas.Bool.{eq-eqb, ne_eqb, true≢false, false_from_ne_true, and_parts, and_from, or_parts}
use Rattle.std.proofs.lemmas.List.{map-append}
use Rattle.std.proofs.lemmas.List.Sums.{sum_by-cons}
use Rattle.bus_strings.specs.Members.{In}
use Rattle.bus_strings.proofs.MemberLaws.{in_push_cases}
use Rattle.bus_table.specs.Tables.{Sender}
use Rattle.bus_table.specs.inside.Orders.{Differ}
use Rattle.bus_table.specs.Whole.{first_again}
use Rattle.bus_table.proofs.ValidLaws.{fresh_first}
use Rattle.bus_advice.specs.Changes.{change_sender}

-- senders whose keys differ are told by their keys
pub same_by : (key : Sender → ℕ) (senders : List Sender) → Differ key senders → (a b : Sender) → In a senders → In b senders
    → key a ≡ key b → a ≡ b
same_by key [] d a b i j e = absurd i
same_by key (s ∷ senders) d a b (inl p) (inl q) e = p ∙ sym q
same_by key (s ∷ senders) d a b (inl p) (inr j) e = absurd (d.0 b j (sym (ap key p) ∙ e))
same_by key (s ∷ senders) d a b (inr i) (inl q) e = absurd (d.0 a i (sym (ap key q) ∙ sym e))
same_by key (s ∷ senders) d a b (inr i) (inr j) e = same_by key senders d.1 a b i j e

-- one sender changed
pub changed_here : (terminal : ℕ) (change : Sender → Sender) (x : Sender) → x.number ≡ terminal → change_sender terminal change x ≡ change x
changed_here terminal change x e = ap (λ b. cond b (change x) x) (eq-eqb x.number terminal e)

pub changed_there : (terminal : ℕ) (change : Sender → Sender) (x : Sender) → x.number ≢ terminal → change_sender terminal change x ≡ x
changed_there terminal change x e = ap (λ b. cond b (change x) x) (ne_eqb x.number terminal e)

-- what a change keeps of each sender
pub kept_by : {X : Type 0} (P : Sender → X) (terminal : ℕ) (change : Sender → Sender) → ((s : Sender) → P (change s) ≡ P s) → (x : Sender)
    → P (change_sender terminal change x) ≡ P x
kept_by P terminal change keeps x =
    elim (x.number == terminal) as (λ b. P (cond b (change x) x) ≡ P x) [ true ↦ keeps x | false ↦ refl ]

pub none_changed : (terminal : ℕ) (change : Sender → Sender) (xs : List Sender) → ((x : Sender) → In x xs → x.number ≢ terminal)
    → map (change_sender terminal change) xs ≡ xs
none_changed terminal change [] apart = refl
none_changed terminal change (x ∷ xs) apart =
    ap (λ y. y ∷ map (change_sender terminal change) xs) (changed_there terminal change x (apart x (inl refl)))
    ∙ ap (λ ys. x ∷ ys) (none_changed terminal change xs (λ y i. apart y (inr i)))

-- a sum over senders of which one is changed
pub sum_changed : (h : Sender → ℕ) (change : Sender → Sender) (senders : List Sender) (s : Sender) → In s senders
    → Differ (λ x. x.number) senders → sum_by h (map (change_sender s.number change) senders) + h s ≡ sum_by h senders + h (change s)
sum_changed h change [] s i differ = absurd i
sum_changed h change (x ∷ xs) s (inl same) differ =
    let f : Sender → Sender = change_sender s.number change in
    let n : x.number ≡ s.number = ap (λ (y : Sender). y.number) (sym same) in
    let here : f x ≡ change x = changed_here s.number change x n in
    let rest : map f xs ≡ xs = none_changed s.number change xs (λ y i k. differ.0 y i (n ∙ sym k)) in
    let value : h (f x) ≡ h (change s) = ap h here ∙ ap (λ y. h (change y)) (sym same) in
    let own : h x ≡ h s = ap h (sym same) in
    let sums : sum_by h (map f xs) ≡ sum_by h xs = ap (sum_by h) rest in
    omega (arith, sum_by-cons h (f x) (map f xs), sum_by-cons h x xs, value, own, sums)
sum_changed h change (x ∷ xs) s (inr i) differ =
    let f : Sender → Sender = change_sender s.number change in
    let here : f x ≡ x = changed_there s.number change x (differ.0 s i) in
    let value : h (f x) ≡ h x = ap h here in
    let rest = sum_changed h change xs s i differ.1 in
    omega (arith, sum_by-cons h (f x) (map f xs), sum_by-cons h x xs, value, rest)

-- a test that each passes, of which one is changed
pub all_changed : (p : Sender → Bool) (f : Sender → Sender) (xs : List Sender) → ((x : Sender) → In x xs → p x ≡ true → p (f x) ≡ true)
    → list_all p xs ≡ true → list_all p (map f xs) ≡ true
all_changed p f [] keeps h = refl
all_changed p f (x ∷ xs) keeps h =
    let parts = and_parts (p x) _ h in
    and_from _ _ (keeps x (inl refl) parts.0) (all_changed p f xs (λ y i. keeps y (inr i)) parts.1)

-- nothing stands again among mapped elements, where those that are the same were the same before
module _ {A B : Type 0} (same : A → A → Bool) (other : B → B → Bool) (f : A → B) (Of : A → Type 0)
    (tells : (a b : A) → Of a → Of b → other (f a) (f b) ≡ true → same a b ≡ true) where
  none_again : (earlier : List A) (x : A) → ((a : A) → In a earlier → Of a) → Of x → list_any (λ y. same y x) earlier ≡ false
      → list_any (λ y. other y (f x)) (map f earlier) ≡ false
  none_again [] x all here h = refl
  none_again (y ∷ ys) x all here h =
      let parts = or_parts (same y x) _ h in
      let not : other (f y) (f x) ≡ false =
      false_from_ne_true (other (f y) (f x)) (λ e. true≢false (sym (tells y x (all y (inl refl)) here e) ∙ parts.0)) in
      ap (λ b. b || list_any (λ z. other z (f x)) (map f ys)) not ∙ none_again ys x (λ a i. all a (inr i)) here parts.1

  pub again_map : (earlier xs : List A) → ((a : A) → In a earlier → Of a) → ((a : A) → In a xs → Of a) → first_again same earlier xs ≡ None
      → first_again other (map f earlier) (map f xs) ≡ None
  again_map earlier [] before all h = refl
  again_map earlier (x ∷ xs) before all h =
      let parts = fresh_first same earlier x xs h in
      ap (λ b. cond b (Some (f x)) (first_again other (map f earlier ++ f x ∷ []) (map f xs)))
      (none_again earlier x before (all x (inl refl)) parts.0)
      ∙ ap (λ l. first_again other l (map f xs)) (sym (map-append f earlier (x ∷ [])))
      ∙ again_map (earlier ++ x ∷ []) xs
      (λ a i. elim (in_push_cases earlier x a i) [ inl j ↦ before a j | inr e ↦ subst Of (sym e) (all x (inl refl)) ])
      (λ a i. all a (inr i)) parts.1

-- and back
module _ {A B : Type 0} (same : A → A → Bool) (other : B → B → Bool) (f : A → B)
    (told : (a b : A) → same a b ≡ true → other (f a) (f b) ≡ true) where
  none_before : (earlier : List A) (x : A) → list_any (λ y. other y (f x)) (map f earlier) ≡ false → list_any (λ y. same y x) earlier ≡ false
  none_before [] x h = refl
  none_before (y ∷ ys) x h =
      let parts = or_parts (other (f y) (f x)) _ h in
      let not : same y x ≡ false = false_from_ne_true (same y x) (λ e. true≢false (sym (told y x e) ∙ parts.0)) in
      ap (λ b. b || list_any (λ z. same z x) ys) not ∙ none_before ys x parts.1

  pub again_unmap : (earlier xs : List A) → first_again other (map f earlier) (map f xs) ≡ None → first_again same earlier xs ≡ None
  again_unmap earlier [] h = refl
  again_unmap earlier (x ∷ xs) h =
      let parts = fresh_first other (map f earlier) (f x) (map f xs) h in
      ap (λ b. cond b (Some x) (first_again same (earlier ++ x ∷ []) xs)) (none_before earlier x parts.0)
      ∙ again_unmap (earlier ++ x ∷ []) xs (ap (λ l. first_again other l (map f xs)) (map-append f earlier (x ∷ [])) ∙ parts.1)
