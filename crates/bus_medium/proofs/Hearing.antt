-- What a terminal hears: nothing before its power-up, nothing that is sent later, and without delays what is sent.
use Rattle.std.proofs.Common.{◌≡◌, ℕ, zero, suc, ◌+◌, ◌-◌, ◌<◌, ◌≤◌, ◌↔◌, Bool, true, false, ◌||◌, ◌&&◌, cond, eqb, ltb, List, [], ◌∷◌, ◌++◌, map, length, drop, Option, Some, None, inl, inr, arith, sym, refl, ap, ◌∙◌, subst}
use Rattle.std.specs.List.{list_any}
use Rattle.std.specs.Option.{option_map}
use Rattle.std.proofs.lemmas.Bool.{lt-ltb, eqb-true}
use Rattle.std.proofs.lemmas.List.{length-drop, append-nil}
use Rattle.std.proofs.lemmas.List.Elements.{filter-append}
use Rattle.std.proofs.lemmas.List.Folds.{list_any-append}
use Rattle.bus_timers.specs.MayStart.{MayStart}
use Rattle.bus_strings.specs.Members.{In}
use Rattle.bus_strings.specs.Messages.{Entry, bits}
use Rattle.bus_strings.specs.Transmissions.{pulses, carrier, end_of}
use Rattle.bus_strings.proofs.MemberLaws.{any_filter, from_map, in_map}
use Rattle.bus_strings.proofs.TestLaws.{or_false}
use Rattle.bus_table.specs.Tables.{Sender, Table, sender_numbers}
use Rattle.bus_medium.specs.Past.{past, own, last_place}
use Rattle.bus_medium.specs.inside.Lazy.{HaveEnded}
use Rattle.bus_medium.specs.Delays.{Delays, AreDelays, at_once, later, heard}
use Rattle.bus_medium.specs.Wakes.{Wakes, woken_past, woken_place}
use Rattle.bus_medium.specs.Lawful.{Station, IsDue, IsNext}
use Rattle.bus_medium.specs.CableLawful.{IsDueOnCable}
use Rattle.bus_medium.specs.CableLaws.{NoDelayIsTheBus}
use Rattle.bus_medium.proofs.PastLaws.{length_past, pulses_begun, pulses_later, not_own_test, before, past_push}
use Rattle.bus_medium.proofs.Ruled.{same_own}

-- a test of what a function makes of a list
any_of_map : {X Y : Type 0} (p : Y → Bool) (f : X → Y) → (xs : List X) → list_any p (map f xs) ≡ list_any (λ x. p (f x)) xs
any_of_map p f [] = refl
any_of_map p f (x ∷ xs) = ap (λ b. p (f x) || b) (any_of_map p f xs)

-- what is heard of two lists, one behind the other
pub heard_append : (delay : Delays) (k : ℕ) (xs ys : List Entry) → heard delay k (xs ++ ys) ≡ heard delay k xs ++ heard delay k ys
heard_append delay k [] ys = refl
heard_append delay k (x ∷ xs) ys = ap (λ l. later (delay x k) x ∷ l) (heard_append delay k xs ys)

pub heard_push : (delay : Delays) (k : ℕ) (list : List Entry) (x : Entry) → heard delay k (list ++ x ∷ []) ≡ heard delay k list ++ later (delay x k) x ∷ []
heard_push delay k list x = heard_append delay k list (x ∷ [])

-- nothing is heard later than by `most` behind its end
pub heard_ended : (delay : Delays) (k most e : ℕ) (list : List Entry) → ((x : Entry) → In x list → delay x k ≤ most) → HaveEnded list e → HaveEnded (heard delay k list) (e + most)
heard_ended delay k most e list within ended y i =
    let f = from_map (λ (x : Entry). later (delay x k) x) list y i in
    let a : end_of f.0 ≤ e = ended f.0 f.1 in
    let b : delay f.0 k ≤ most = within f.0 f.1 in
    let c : y.moment ≡ f.0.moment + delay f.0 k = ap (λ (z : Entry). z.moment) (sym f.2) in
    let d : bits y.message ≡ bits f.0.message = ap (λ (z : Entry). bits z.message) (sym f.2) in
    omega arith

pub later_none : (x : Entry) → later 0 x ≡ x
later_none x =
    let at : ℕ → Entry = λ m. record { moment = m; terminal = x.terminal; message = x.message } in
    ap at (let e : x.moment + 0 ≡ x.moment = omega arith in e)

-- a terminal hears its own transmissions at once
pub own_heard : (delay : Delays) (k t : ℕ) (list : List Entry) → ((x : Entry) → delay x x.terminal ≡ 0) → own (heard delay k list) k t ≡ own list k t
own_heard delay k t [] at_once = refl
own_heard delay k t (x ∷ list) at_once =
    let rest : own (heard delay k list) k t ≡ own list k t = own_heard delay k t list at_once in
    elim (eqb x.terminal k) as (λ b. eqb x.terminal k ≡ b
    → cond (b && ltb (x.moment + delay x k) t) (later (delay x k) x ∷ own (heard delay k list) k t) (own (heard delay k list) k t)
    ≡ cond (b && ltb x.moment t) (x ∷ own list k t) (own list k t)) [
      | true ↦ λ is.
          let none : delay x k ≡ 0 = ap (delay x) (sym (eqb-true x.terminal k is)) ∙ at_once x in
          ap (λ d. cond (ltb (x.moment + d) t) (later d x ∷ own (heard delay k list) k t) (own (heard delay k list) k t)) none
          ∙ ap (λ y. cond (ltb y.moment t) (y ∷ own (heard delay k list) k t) (own (heard delay k list) k t)) (later_none x)
          ∙ ap (λ l. cond (ltb x.moment t) (x ∷ l) l) rest
      | false ↦ λ is. rest
    ] refl

-- nobody is due before its power-up
pub not_before : (q : ℕ) (delay : Delays) (wake : Wakes) (list : List Entry) (s : Station) (t : ℕ) → 0 < s.timing.tg → t < wake s.number - q
    → IsDueOnCable q delay wake list s t → ⊥
not_before q delay wake list s t some low d =
    let w : ℕ = wake s.number in
    let l : List Entry = heard delay s.number list in
    let fits : s.timing.tg ≤ length (woken_past q w l t) = d.may.gap_fits in
    let none : length (drop w (past q l t)) ≡ length (past q l t) - w = length-drop w (past q l t) in
    omega (arith, length_past q (heard delay s.number list) t)

-- what was sent before a moment alone tells who is due then
carrier_heard : (delay : Delays) (k : ℕ) (l : List Entry) (t u : ℕ) → u < t → carrier (heard delay k (before l t)) u ≡ carrier (heard delay k l) u
carrier_heard delay k l t u h =
    any_of_map (pulses u) (λ (x : Entry). later (delay x k) x) (before l t)
    ∙ any_filter (λ (x : Entry). pulses u (later (delay x k) x)) (λ x. ltb x.moment t) l
    (λ x e. lt-ltb x.moment t (let w : x.moment + delay x k ≤ u = pulses_begun u (later (delay x k) x) e in omega arith))
    ∙ sym (any_of_map (pulses u) (λ (x : Entry). later (delay x k) x) l)

past_heard : (q : ℕ) (delay : Delays) (k : ℕ) (l : List Entry) (t u : ℕ) → u ≤ t → past q (heard delay k (before l t)) u ≡ past q (heard delay k l) u
past_heard q delay k l t zero h = refl
past_heard q delay k l t (suc u) h =
    ap (λ p. p ++ carrier (heard delay k (before l t)) u ∷ []) (past_heard q delay k l t u (omega arith))
    ∙ ap (λ b. past q (heard delay k l) u ++ b ∷ []) (carrier_heard delay k l t u (omega arith))

pub past_heard_before : (delay : Delays) (q k t : ℕ) (list : List Entry) → past q (heard delay k (before list t)) t ≡ past q (heard delay k list) t
past_heard_before delay q k t list = past_heard q delay k list t t (omega arith)

-- one transmission more changes nothing before it is heard
pub past_heard_push : (delay : Delays) (q k u : ℕ) (list : List Entry) (x : Entry) → u ≤ x.moment + delay x k
    → past q (heard delay k (list ++ x ∷ [])) u ≡ past q (heard delay k list) u
past_heard_push delay q k u list x low =
    ap (λ l. past q l u) (heard_push delay k list x) ∙ past_push q (heard delay k list) (later (delay x k) x) u low

-- who is due where the past and the own are the same
due_same : (q : ℕ) (delay : Delays) (wake : Wakes) (l m : List Entry) (s : Station) (t : ℕ)
    → past q (heard delay s.number l) t ≡ past q (heard delay s.number m) t → own l s.number t ≡ own m s.number t
    → IsDueOnCable q delay wake l s t → IsDueOnCable q delay wake m s t
due_same q delay wake l m s t pasts owns d =
    let w : ℕ = wake s.number in
    record {
      may = subst (λ p. MayStart s.timing (drop w p) (woken_place q w (own m s.number t))) pasts
          (subst (λ o. MayStart s.timing (woken_past q w (heard delay s.number l) t) (woken_place q w o)) owns d.may);
      left = subst (λ o. length o < length s.hand) owns d.left;
    }

-- the rule looks only at what was sent before the moment
pub cable_looks : (q : ℕ) (delay : Delays) (wake : Wakes) (l m : List Entry) (s : Station) (t : ℕ) → before l t ≡ before m t
    → IsDueOnCable q delay wake l s t → IsDueOnCable q delay wake m s t
cable_looks q delay wake l m s t e = due_same q delay wake l m s t
    (sym (past_heard_before delay q s.number t l) ∙ ap (λ v. past q (heard delay s.number v) t) e ∙ past_heard_before delay q s.number t m)
    (same_own l m s.number t e)

-- nothing of a list is heard by this terminal before moment t, and nothing of it is its own before
pub record IsUnheard (delay : Delays) (k t : ℕ) (list : List Entry) : Type 0 where
  pub heard : (x : Entry) → In x list → t ≤ x.moment + delay x k
  pub own : (x : Entry) → In x list → x.terminal ≡ k → t ≤ x.moment

nothing_heard : (delay : Delays) (k u : ℕ) (ys : List Entry) → ((x : Entry) → In x ys → u < x.moment + delay x k) → carrier (heard delay k ys) u ≡ false
nothing_heard delay k u [] h = refl
nothing_heard delay k u (y ∷ ys) h =
    ap (λ b. b || carrier (heard delay k ys) u) (pulses_later u (later (delay y k) y) (h y (inl refl)))
    ∙ nothing_heard delay k u ys (λ x i. h x (inr i))

past_unheard : (q : ℕ) (delay : Delays) (k : ℕ) (xs ys : List Entry) (t u : ℕ) → u ≤ t → IsUnheard delay k t ys
    → past q (heard delay k (xs ++ ys)) u ≡ past q (heard delay k xs) u
past_unheard q delay k xs ys t zero low h = refl
past_unheard q delay k xs ys t (suc u) low h =
    let silent : carrier (heard delay k (xs ++ ys)) u ≡ carrier (heard delay k xs) u =
    ap (λ l. carrier l u) (heard_append delay k xs ys) ∙ list_any-append (pulses u) (heard delay k xs) (heard delay k ys)
    ∙ ap (λ b. carrier (heard delay k xs) u || b)
    (nothing_heard delay k u ys (λ x i. let w : t ≤ x.moment + delay x k = h.heard x i in omega arith)) ∙ or_false (carrier (heard delay k xs) u) in
    ap (λ p. p ++ carrier (heard delay k (xs ++ ys)) u ∷ []) (past_unheard q delay k xs ys t u (omega arith) h)
    ∙ ap (λ b. past q (heard delay k xs) u ++ b ∷ []) silent

pub own_none : (ys : List Entry) (k t : ℕ) → ((x : Entry) → In x ys → x.terminal ≡ k → t ≤ x.moment) → own ys k t ≡ []
own_none [] k t h = refl
own_none (y ∷ ys) k t h =
    rw (not_own_test k t y (λ p. let w : t ≤ y.moment = h y (inl refl) p.0 in let v : y.moment < t = p.1 in omega arith)) (own_none ys k t (λ x i. h x (inr i)))

own_unheard : (xs ys : List Entry) (k t : ℕ) → ((x : Entry) → In x ys → x.terminal ≡ k → t ≤ x.moment) → own (xs ++ ys) k t ≡ own xs k t
own_unheard xs ys k t h = filter-append (λ x. eqb x.terminal k && ltb x.moment t) xs ys ∙ ap (λ l. own xs k t ++ l) (own_none ys k t h)
    ∙ append-nil (own xs k t)

-- what isn't heard yet tells nothing of who is due
pub due_unheard : (q : ℕ) (delay : Delays) (wake : Wakes) (xs ys : List Entry) (s : Station) (t : ℕ) → IsUnheard delay s.number t ys
    → IsDueOnCable q delay wake (xs ++ ys) s t ↔ IsDueOnCable q delay wake xs s t
due_unheard q delay wake xs ys s t h =
    let pasts : past q (heard delay s.number (xs ++ ys)) t ≡ past q (heard delay s.number xs) t = past_unheard q delay s.number xs ys t t (omega arith) h in
    let owns : own (xs ++ ys) s.number t ≡ own xs s.number t = own_unheard xs ys s.number t h.own in
    (due_same q delay wake (xs ++ ys) xs s t pasts owns, due_same q delay wake xs (xs ++ ys) s t (sym pasts) (sym owns))

-- without delays a terminal hears what is sent
pub heard_none : (delay : Delays) (k : ℕ) (list : List Entry) → ((x : Entry) → In x list → delay x k ≤ 0) → heard delay k list ≡ list
heard_none delay k [] none = refl
heard_none delay k (x ∷ list) none =
    let zero : delay x k ≡ 0 = (let w : delay x k ≤ 0 = none x (inl refl) in omega arith) in
    ap (λ d. later d x ∷ heard delay k list) zero ∙ ap (λ y. y ∷ heard delay k list) (later_none x) ∙ ap (λ l. x ∷ l) (heard_none delay k list (λ y i. none y (inr i)))

pub place_none : (o : Option ℕ) → option_map (λ p. p - 0) o ≡ o
place_none None = refl
place_none (Some p) = ap (λ n. Some n) (let e : p - 0 ≡ p = omega arith in e)

-- and `at_once` is without delays
pub none_at_once : (senders : List ℕ) → AreDelays 0 senders at_once
none_at_once senders = record { own = λ x. refl; within = λ number i x j. omega arith }

-- what one sender of a table hears of another
pub hears_sender : (most : ℕ) (table : Table) (delay : Delays) → AreDelays most (sender_numbers table) delay → (x : Entry) (a b : Sender) → In a table.senders → In b table.senders
    → x.terminal ≡ a.number → delay x b.number ≤ most
hears_sender most table delay delays x a b i j mine =
    delays.within b.number (in_map (λ (s : Sender). s.number) table.senders b j) x
    (subst (λ n. In n (sender_numbers table)) (sym mine) (in_map (λ (s : Sender). s.number) table.senders a i))

-- and is due as on the bus, where it wakes at the settled start
pub due_none : (q : ℕ) (delay : Delays) (wake : Wakes) (list : List Entry) (s : Station) (t : ℕ) → ((x : Entry) → In x list → delay x s.number ≤ 0) → wake s.number ≡ 0
    → IsDueOnCable q delay wake list s t ↔ IsDue q list s t
due_none q delay wake list s t none awake =
    let pasts : woken_past q (wake s.number) (heard delay s.number list) t ≡ past q list t =
    ap (λ w. woken_past q w (heard delay s.number list) t) awake ∙ ap (λ l. past q l t) (heard_none delay s.number list none) in
    let places : woken_place q (wake s.number) (own list s.number t) ≡ last_place q (own list s.number t) =
    ap (λ w. woken_place q w (own list s.number t)) awake ∙ place_none (last_place q (own list s.number t)) in (
      (λ d. record {
        may = subst (λ p. MayStart s.timing p (last_place q (own list s.number t))) pasts
            (subst (λ o. MayStart s.timing (woken_past q (wake s.number) (heard delay s.number list) t) o) places d.may);
        left = d.left;
      }),
      (λ d. record {
        may = subst (λ p. MayStart s.timing p (woken_place q (wake s.number) (own list s.number t))) (sym pasts)
            (subst (λ o. MayStart s.timing (past q list t) o) (sym places) d.may);
        left = d.left;
      }),
    )

pub no_delay_is_the_bus : NoDelayIsTheBus
no_delay_is_the_bus q delay wake ss horizon list none awake = (
  (λ law. record {
    ordered = law.ordered;
    sent = law.sent;
    exact = λ t s less i.
        let both = law.exact t s less i in
        let same = due_none q delay wake list s t (within s i (λ x j. (law.sent x j).1)) (awake s i) in
        ((λ h. same.0 (both.0 h)), (λ d. both.1 (same.1 d)));
  }),
  (λ law. record {
    ordered = law.ordered;
    sent = law.sent;
    exact = λ t s less i.
        let both = law.exact t s less i in
        let same = due_none q delay wake list s t (within s i (λ x j. (law.sent x j).1)) (awake s i) in
        ((λ h. same.1 (both.0 h)), (λ d. both.1 (same.0 d)));
  }),
)
  where
    within : (s : Station) → In s ss → ((x : Entry) → In x list → IsNext ss list x) → (x : Entry) → In x list → delay x s.number ≤ 0
    within s i nexts x j =
        let next = nexts x j in
        none.within s.number (in_map (λ (w : Station). w.number) ss s i) x
        (subst (λ n. In n (map (λ (w : Station). w.number) ss)) next.number (in_map (λ (w : Station). w.number) ss next.sender next.there))
