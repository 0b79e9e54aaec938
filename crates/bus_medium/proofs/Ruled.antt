-- Lists that a rule makes which says who is due, from what was sent before alone: how they grow, a terminal and a moment at a time, and that
-- there is one at most. The rule is the module's
-- parameter; that of `IsDue` is one, and that of senders that hear one another later.
use Rattle.std.proofs.Common.{◌≡◌, ◌≢◌, ℕ, zero, suc, ◌+◌, ◌<◌, ◌≤◌, ◌↔◌, Bool, ltb, List, [], ◌∷◌, ◌++◌, length, Some, inl, inr, arith, sym, refl, ap, ◌∙◌, subst}
use Rattle.std.specs.Prelude.{slice_get}
use Rattle.std.proofs.lemmas.Bool.{cases_lt, ltb-true, le-ltb}
use Rattle.std.proofs.lemmas.List.{append-nil}
use Rattle.std.proofs.lemmas.List.Elements.{filter-append}
use Rattle.bus_strings.specs.Members.{In}
use Rattle.bus_strings.specs.Messages.{Message, Entry}
use Rattle.bus_strings.specs.Transmissions.{Precedes, IsAscending}
use Rattle.bus_strings.proofs.MemberLaws.{in_append_left, in_push, in_push_cases, in_filter, from_filter}
use Rattle.bus_medium.specs.Past.{own}
use Rattle.bus_medium.specs.Lawful.{Station, HaveOwnNumbers, HasEntry, IsBefore, IsRuled, IsRuledTo}
use Rattle.bus_medium.specs.LawfulList.{above}
use Rattle.bus_medium.proofs.AscendingLaws.{ascending_push, ascending_filter, same_ascending}
use Rattle.bus_medium.proofs.PastLaws.{before, own_push_other, own_before}

before_more : (u n t m k : ℕ) → m ≤ k → IsBefore u n t m → IsBefore u n t k
before_more u n t m k h (inl less) = inl less
before_more u n t m k h (inr same) = let b : n < m = same.1 in inr (same.0, omega arith)

pub before_within : (u k t n : ℕ) → IsBefore u k t n → u ≤ t
before_within u k t n (inl less) = omega arith
before_within u k t n (inr now) = let e : u ≡ t = now.0 in omega arith

-- the entries so far stand before one of the terminal with number n at moment t
before_precedes : (x y : Entry) (t n : ℕ) → x.moment ≡ t → x.terminal ≡ n → IsBefore y.moment y.terminal t n → Precedes y x
before_precedes x y t n at of (inl less) = inl (omega arith)
before_precedes x y t n at of (inr now) = let e : y.moment ≡ t = now.0 in let k : y.terminal < n = now.1 in inr (omega arith, omega arith)

still_entry : (l : List Entry) (x : Entry) (n u : ℕ) → ((x.moment ≡ u) × (x.terminal ≡ n) → ⊥) → HasEntry l n u ↔ HasEntry (l ++ x ∷ []) n u
still_entry l x n u h = (
  (λ e. record { entry = e.entry; there = in_append_left l (x ∷ []) e.entry e.there; moment = e.moment; terminal = e.terminal }),
  (λ e. elim (in_push_cases l x e.entry e.there) [
    | inl old ↦ record { entry = e.entry; there = old; moment = e.moment; terminal = e.terminal }
    | inr same ↦ absurd (h (ap (λ y. y.moment) (sym same) ∙ e.moment, ap (λ y. y.terminal) (sym same) ∙ e.terminal))
  ]),
)

-- what was before a moment is so with one more that isn't
pub before_push : (l : List Entry) (x : Entry) (u : ℕ) → u ≤ x.moment → before (l ++ x ∷ []) u ≡ before l u
before_push l x u h = filter-append (λ y. ltb y.moment u) l (x ∷ []) ∙ rw (le-ltb x.moment u h) (append-nil (before l u))

pub below_above : (ss : List Station) (s : Station) → In s ss → s.number < above ss
below_above [] s i = absurd i
below_above (r ∷ ss) s (inl e) = let h : s.number ≡ r.number = ap (λ w. w.number) e in omega arith
below_above (r ∷ ss) s (inr i) = let h : s.number < above ss = below_above ss s i in omega arith

pub same_entry : (x y : Entry) → x.moment ≡ y.moment → x.terminal ≡ y.terminal → x.message ≡ y.message → x ≡ y
same_entry x y a b c =
    let mk : ℕ → ℕ → Message → Entry = λ m n ws. record { moment = m; terminal = n; message = ws } in
    ap (λ m. mk m x.terminal x.message) a ∙ ap (λ n. mk y.moment n x.message) b ∙ ap (λ ws. mk y.moment y.terminal ws) c

same_before : (l m : List Entry) (t : ℕ) → IsAscending l → IsAscending m → ((x : Entry) → In x l → x.moment < t → In x m) → ((x : Entry) → In x m → x.moment < t → In x l) → before l t ≡ before m t
same_before l m t a b f g =
    let test : Entry → Bool = λ x. ltb x.moment t in
    same_ascending (before l t) (before m t) (ascending_filter test l a) (ascending_filter test m b)
    (λ x h. let k = from_filter test l x h in in_filter test m x (f x k.0 (ltb-true x.moment t k.1)) k.1)
    (λ x h. let k = from_filter test m x h in in_filter test l x (g x k.0 (ltb-true x.moment t k.1)) k.1)

pub same_own : (l m : List Entry) (n t : ℕ) → before l t ≡ before m t → own l n t ≡ own m n t
same_own l m n t e = sym (own_before l n t) ∙ ap (λ k. own k n t) e ∙ own_before m n t

module _ (due : List Entry → Station → ℕ → Type 0) (looks : (l m : List Entry) (s : Station) (t : ℕ) → before l t ≡ before m t → due l s t → due m s t) where
  -- what was known of a sender before an entry is known after it
  pub still_due : (l : List Entry) (x : Entry) (s : Station) (u : ℕ) → u ≤ x.moment → due l s u ↔ due (l ++ x ∷ []) s u
  still_due l x s u h = (looks l (l ++ x ∷ []) s u (sym (before_push l x u h)), looks (l ++ x ∷ []) l s u (before_push l x u h))

  pub ruled_none : (ss : List Station) → IsRuledTo due ss 0 0 []
  ruled_none ss = record {
    ordered = tt;
    sent = λ x i. absurd i;
    exact = λ u s there b. elim b [ inl less ↦ absurd (omega arith) | inr same ↦ let k : s.number < 0 = same.1 in absurd (omega arith) ];
  }

  -- a terminal whose number is not before n has sent nothing there
  pub not_yet : (ss : List Station) (t n : ℕ) (l : List Entry) (k : ℕ) → IsRuledTo due ss t n l → n ≤ k → HasEntry l k t → ⊥
  not_yet ss t n l k law low h =
      let x : Entry = h.entry in
      let at : x.moment ≡ t = h.moment in
      let of : x.terminal ≡ k = h.terminal in
      elim ((law.sent x h.there).0) [
        | inl less ↦ omega arith
        | inr here ↦ let b : x.terminal < n = here.1 in omega arith
      ]

  -- no sender with a number from n up to m is due
  pub ruled_idle : (ss : List Station) (t n m : ℕ) (l : List Entry) → IsRuledTo due ss t n l → n ≤ m → ((s : Station) → In s ss → n ≤ s.number → s.number < m → due l s t → ⊥) → IsRuledTo due ss t m l
  ruled_idle ss t n m l law low idle = record {
    ordered = law.ordered;
    sent = λ x i. let w = law.sent x i in (before_more x.moment x.terminal t n m low w.0, w.1);
    exact = λ u s there b. elim b [
      | inl less ↦ law.exact u s there (inl less)
      | inr now ↦ elim (cases_lt s.number n) [
        | inl below ↦ law.exact u s there (inr (now.0, below))
        | inr this ↦
            let at : u ≡ t = now.0 in
            subst (λ v. HasEntry l s.number v ↔ due l s v) (sym at)
            ((λ h. absurd (not_yet ss t n l s.number law this h)), (λ d. absurd (idle s there this now.1 d)))
      ]
    ];
  }

  -- the sender with number n starts
  pub ruled_start : (ss : List Station) (t n : ℕ) (l : List Entry) (s : Station) (x : Entry) → HaveOwnNumbers ss → IsRuledTo due ss t n l → In s ss → s.number ≡ n → due l s t
      → x.moment ≡ t → x.terminal ≡ s.number → slice_get s.hand (length (own l s.number t)) ≡ Some x.message → IsRuledTo due ss t (n + 1) (l ++ x ∷ [])
  ruled_start ss t n l s x o law there number is_due em et next = record {
    ordered = ascending_push l x law.ordered (λ y i. before_precedes x y t n em (et ∙ number) (law.sent y i).0);
    sent = λ y i. elim (in_push_cases l x y i) [
      | inl old ↦
          let w = law.sent y old in
          let r : Station = w.1.sender in
          let within : y.moment ≤ t = before_within y.moment y.terminal t n w.0 in
          let kept : own (l ++ x ∷ []) r.number y.moment ≡ own l r.number y.moment = own_push_other l r.number y.moment x (λ e. let h : x.moment < y.moment = e.1 in omega arith) in (
            before_more y.moment y.terminal t n (n + 1) (omega arith) w.0,
            record { sender = r; there = w.1.there; number = w.1.number; message = ap (λ v. slice_get r.hand (length v)) kept ∙ w.1.message },
          )
      | inr same ↦
          let at : y.moment ≡ t = ap (λ w. w.moment) same ∙ em in
          let of : y.terminal ≡ n = ap (λ w. w.terminal) same ∙ et ∙ number in
          let kept : own (l ++ x ∷ []) s.number y.moment ≡ own l s.number t = ap (own (l ++ x ∷ []) s.number) at ∙ own_push_other l s.number t x (λ e. let h : x.moment < t = e.1 in omega arith) in (
            inr (at, omega arith),
            record { sender = s; there = there; number = number ∙ sym of; message = ap (λ w. slice_get s.hand (length w)) kept ∙ next ∙ ap (λ w. Some w.message) (sym same) },
          )
    ];
    exact = λ u r r_there b.
        let old : IsBefore u r.number t n → HasEntry (l ++ x ∷ []) r.number u ↔ due (l ++ x ∷ []) r u = λ c.
        let apart : (x.moment ≡ u) × (x.terminal ≡ r.number) → ⊥ = λ e.
        let eu : x.moment ≡ u = e.0 in
        let en : x.terminal ≡ r.number = e.1 in
        elim c [
          | inl less ↦ omega arith
          | inr now ↦ let lower : r.number < n = now.1 in omega arith
        ] in
        let within : u ≤ t = before_within u r.number t n c in
        let both = law.exact u r r_there c in
        let entries = still_entry l x r.number u apart in
        let dues = still_due l x r u (omega arith) in
        ((λ h. dues.0 (both.0 (entries.1 h))), (λ d. entries.0 (both.1 (dues.1 d)))) in
        elim b [
          | inl less ↦ old (inl less)
          | inr now ↦ elim (cases_lt r.number n) [
            | inl below ↦ old (inr (now.0, below))
            | inr this ↦
                let most : r.number < n + 1 = now.1 in
                let rs : s ≡ r = o s r there r_there (omega arith) in
                let ut : u ≡ t = now.0 in
                let here_due : due (l ++ x ∷ []) s t = (still_due l x s t (omega arith)).0 is_due in
                let here_entry : HasEntry (l ++ x ∷ []) s.number t = record { entry = x; there = in_push l x; moment = em; terminal = et } in
                subst (λ w. HasEntry (l ++ x ∷ []) w.number u ↔ due (l ++ x ∷ []) w u) rs (subst (λ v. HasEntry (l ++ x ∷ []) s.number v ↔ due (l ++ x ∷ []) s v) (sym ut)
                ((λ h. here_due), (λ d. here_entry)))
          ]
        ];
  }

  -- every sender has decided
  pub ruled_next : (ss : List Station) (t n : ℕ) (l : List Entry) → ((s : Station) → In s ss → s.number < n) → IsRuledTo due ss t n l → IsRuledTo due ss (t + 1) 0 l
  ruled_next ss t n l all law = record {
    ordered = law.ordered;
    sent = λ x i. let w = law.sent x i in (let k : x.moment ≤ t = before_within x.moment x.terminal t n w.0 in inl (omega arith), w.1);
    exact = λ u s there b.
        let below : u < t + 1 = elim b [ inl less ↦ less | inr now ↦ let h : s.number < 0 = now.1 in absurd (omega arith) ] in
        law.exact u s there (elim (cases_lt u t) [ inl less ↦ inl less | inr now ↦ inr (omega arith, all s there) ]);
  }

  pub ruled_whole : (ss : List Station) (horizon : ℕ) (l : List Entry) → IsRuledTo due ss horizon 0 l → IsRuled due ss horizon l
  ruled_whole ss horizon l law = record {
    ordered = law.ordered;
    sent = λ x i. let w = law.sent x i in (elim (w.0) [ inl less ↦ less | inr now ↦ let h : x.terminal < 0 = now.1 in absurd (omega arith) ], w.1);
    exact = λ t s below there. law.exact t s there (inl below);
  }

  -- a bit time in which nobody more is due, from the number n on
  idle_rest : (ss : List Station) (t n : ℕ) (l : List Entry) → IsRuledTo due ss t n l → ((s : Station) → In s ss → n ≤ s.number → due l s t → ⊥) → IsRuledTo due ss (t + 1) 0 l
  idle_rest ss t n l law idle =
      ruled_next ss t (n + above ss) l (λ s i. let h : s.number < above ss = below_above ss s i in omega arith)
      (ruled_idle ss t n (n + above ss) l law (omega arith) (λ s i low high. idle s i low))

  pub idle_stretch : (ss : List Station) (t n : ℕ) (l : List Entry) → IsRuledTo due ss t 0 l
      → ((u : ℕ) (s : Station) → t ≤ u → u < t + n → In s ss → due l s u → ⊥) → IsRuledTo due ss (t + n) 0 l
  idle_stretch ss t zero l law idle = subst (λ u. IsRuledTo due ss u 0 l) (let e : t ≡ t + 0 = omega arith in e) law
  idle_stretch ss t (suc n) l law idle =
      let so : IsRuledTo due ss (t + n) 0 l = idle_stretch ss t n l law (λ u s low high i. idle u s low (omega arith) i) in
      subst (λ u. IsRuledTo due ss u 0 l) (let e : t + n + 1 ≡ t + suc n = omega arith in e) (idle_rest ss (t + n) 0 l so (λ s i low. idle (t + n) s (omega arith) (omega arith) i))

  pub lone_start : (ss : List Station) (l : List Entry) (s : Station) (x : Entry) → HaveOwnNumbers ss
      → IsRuledTo due ss x.moment 0 l → In s ss → due l s x.moment → ((r : Station) → In r ss → r.number ≢ s.number → due l r x.moment → ⊥)
      → x.terminal ≡ s.number → slice_get s.hand (length (own l s.number x.moment)) ≡ Some x.message → IsRuledTo due ss (x.moment + 1) 0 (l ++ x ∷ [])
  lone_start ss l s x o law there is_due alone mine next =
      let first : IsRuledTo due ss x.moment s.number l = ruled_idle ss x.moment 0 s.number l law (omega arith) (λ r i low high. alone r i (λ e. omega arith)) in
      let here : IsRuledTo due ss x.moment (s.number + 1) (l ++ x ∷ []) = ruled_start ss x.moment s.number l s x o first there refl is_due refl mine next in
      idle_rest ss x.moment (s.number + 1) (l ++ x ∷ []) here (λ r i low d. alone r i (λ e. omega arith) ((still_due l x r x.moment (omega arith)).1 d))

  -- the lists agree at a moment where they agree before it
  next_in : (ss : List Station) (horizon : ℕ) (l m : List Entry) (t : ℕ) → HaveOwnNumbers ss → IsRuled due ss horizon l → IsRuled due ss horizon m → t < horizon → before l t ≡ before m t
      → (x : Entry) → In x l → x.moment ≡ t → In x m
  next_in ss horizon l m t o a b h e x i at =
      let nx = (a.sent x i).1 in
      let s : Station = nx.sender in
      let due_l : due l s t = (a.exact t s h nx.there).0 (record { entry = x; there = i; moment = at; terminal = sym nx.number }) in
      let due_m : due m s t = looks l m s t e due_l in
      let found : HasEntry m s.number t = (b.exact t s h nx.there).1 due_m in
      let y : Entry = found.entry in
      let ny = (b.sent y found.there).1 in
      let same : s ≡ ny.sender = o s ny.sender nx.there ny.there (sym (ny.number ∙ found.terminal)) in
      let of_x : slice_get s.hand (length (own l s.number t)) ≡ Some x.message = subst (λ u. slice_get s.hand (length (own l s.number u)) ≡ Some x.message) at nx.message in
      let of_y : slice_get s.hand (length (own m s.number t)) ≡ Some y.message =
      subst (λ w. slice_get w.hand (length (own m w.number t)) ≡ Some y.message) (sym same) (subst (λ u. slice_get ny.sender.hand (length (own m ny.sender.number u)) ≡ Some y.message) found.moment ny.message) in
      let messages : Some x.message ≡ Some y.message = sym of_x ∙ ap (λ k. slice_get s.hand (length k)) (same_own l m s.number t e) ∙ of_y in
      let here : x ≡ y = same_entry x y (at ∙ sym found.moment) (sym nx.number ∙ sym found.terminal) (cc messages) in
      subst (λ z. In z m) (sym here) found.there

  both_in : (ss : List Station) (horizon : ℕ) (l m : List Entry) → HaveOwnNumbers ss → IsRuled due ss horizon l → IsRuled due ss horizon m → (t : ℕ) → t ≤ horizon
      → ((x : Entry) → In x l → x.moment < t → In x m) × ((x : Entry) → In x m → x.moment < t → In x l)
  both_in ss horizon l m o a b zero h = ((λ x i k. absurd (omega arith)), (λ x i k. absurd (omega arith)))
  both_in ss horizon l m o a b (suc t) h =
      let so_far = both_in ss horizon l m o a b t (omega arith) in
      let e : before l t ≡ before m t = same_before l m t a.ordered b.ordered so_far.0 so_far.1 in (
        (λ x i k. elim (cases_lt x.moment t) [ inl old ↦ so_far.0 x i old | inr now ↦ next_in ss horizon l m t o a b (omega arith) e x i (omega arith) ]),
        (λ x i k. elim (cases_lt x.moment t) [ inl old ↦ so_far.1 x i old | inr now ↦ next_in ss horizon m l t o b a (omega arith) (sym e) x i (omega arith) ]),
      )

  -- there is one such list at most
  pub ruled_once : (ss : List Station) (horizon : ℕ) (l m : List Entry) → HaveOwnNumbers ss → IsRuled due ss horizon l → IsRuled due ss horizon m → l ≡ m
  ruled_once ss horizon l m o a b =
      let both = both_in ss horizon l m o a b horizon (omega arith) in
      same_ascending l m a.ordered b.ordered (λ x i. both.0 x i (a.sent x i).0) (λ x i. both.1 x i (b.sent x i).0)
