-- Gaps that bear a delay have enough.
use Rattle.std.proofs.Common.{◌≡◌, ℕ, ◌+◌, ◌≤◌, true, List, [], ◌∷◌, ◌++◌, inl, inr, arith, refl, sym, ap, ◌∙◌, subst}
use Rattle.std.proofs.lemmas.Bool.{and_parts}
use Rattle.std.proofs.lemmas.List.{append-nil, append_assoc}
use Rattle.bus_strings.specs.Members.{In}
use Rattle.bus_regime.specs.Gaps.{Gap}
use Rattle.bus_cable_plan.specs.inside.Lists.{Apart, excess, total, want, wants, AreNear, IsUp, IsStrong, HasUpEnds, HasEnough, gaps_hold}
use Rattle.bus_cable_plan.proofs.Splits.{append_cases, in_left, in_right, total_append, wants_append}
use Rattle.bus_cable_plan.proofs.Walking.{Outcome, IsWeak, IsSeen}
use Rattle.bus_cable_plan.proofs.Ring.{Ring, IsTop, HasUpRest, all_wide, ring_of, ring_turned, ends_in, top_of}
use Rattle.bus_cable_plan.proofs.Turning.{apart_across, apart_turned, enough_turned}

want_in : (d sg : ℕ) (gaps : List Gap) (g : Gap) → In g gaps → want d sg g.sender ≤ wants d sg gaps
want_in d sg [] g i = absurd i
want_in d sg (x ∷ gaps) g (inl e) =
    let same : want d sg g.sender ≡ want d sg x.sender = ap (λ (y : Gap). want d sg y.sender) e in omega (arith, same)
want_in d sg (x ∷ gaps) g (inr i) = let k = want_in d sg gaps g i in omega (arith, k)

-- the sender at the top hears gaps that are up right behind its message: then there are two parts that are up
weak_top : (d sg : ℕ) (gaps : List Gap) (t : IsTop d sg gaps) → IsWeak d sg (t.behind ++ t.ahead)
    → 2 + wants d sg (t.behind ++ t.ahead) + want d sg t.own.sender ≤ total d (t.behind ++ t.ahead) + excess d t.own
weak_top d sg gaps t w = elim (append_cases t.behind t.ahead w.run w.after w.is) [
  | inl k ↦ at k.0 k.1 k.2
  | inr k ↦ let flat = t.flat w.run k.0 k.1 in let up = w.up in absurd (omega (arith, flat, up))
] where
  at : (k : List Gap) → w.run ≡ t.behind ++ k → t.ahead ≡ k ++ w.after
      → 2 + wants d sg (t.behind ++ t.ahead) + want d sg t.own.sender ≤ total d (t.behind ++ t.ahead) + excess d t.own
  at [] e f =
      let flat = t.flat w.run [] (sym (append-nil t.behind) ∙ sym e ∙ sym (append-nil w.run)) in
      let up = w.up in
      absurd (omega (arith, flat, up))
  at (z ∷ k) e f =
      let up = w.up in
      let rest : HasUpEnds d sg ((k ++ w.after) ++ t.own ∷ []) = subst (λ l. HasUpRest d sg l t.own) f t.ups in
      let end = ends_in d sg k w.after t.own (subst (HasUpEnds d sg) (append_assoc k w.after (t.own ∷ [])) rest) in
      let t1 = ap (total d) w.is ∙ total_append d w.run w.after in
      let w1 = ap (wants d sg) w.is ∙ wants_append d sg w.run w.after in
      let t2 = total_append d w.after (t.own ∷ []) in
      let w2 = wants_append d sg w.after (t.own ∷ []) in
      omega (arith, up, end, t1, w1, t2, w2)

-- some gaps at the end of the list are up by more than d, and their last sender hears something among the others
module _ (d sg : ℕ) (others front : List Gap) (last : Gap) (apart : Apart (others ++ (front ++ last ∷ [])))
    (strong : IsStrong d sg (front ++ last ∷ [])) (ends : HasUpEnds d sg (front ++ last ∷ [])) where
  last_in : In last (front ++ last ∷ [])
  last_in = in_right front (last ∷ []) last (inl refl)

  -- up to the message of the last come gaps that are up, into these
  by_end : (u v : List Gap) → u ++ v ≡ others ++ front → (k : List Gap) → front ≡ k ++ v
      → (IsUp d sg (v ++ last ∷ [])) × (others ++ (front ++ last ∷ []) ≡ u ++ (v ++ last ∷ []))
  by_end u v is k e = (
    ends_in d sg k v last (subst (HasUpEnds d sg) (ap (λ l. l ++ last ∷ []) e ∙ append_assoc k v (last ∷ [])) ends),
    sym (append_assoc others front (last ∷ [])) ∙ ap (λ l. l ++ last ∷ []) (sym is) ∙ append_assoc u v (last ∷ []),
  )

  close_weak : (run after : List Gap) → others ++ front ≡ run ++ after → IsUp d sg run → (k : List Gap) → others ≡ run ++ k
      → HasEnough d sg (others ++ (front ++ last ∷ []))
  close_weak [] after is up k e = absurd (omega (arith, up))
  close_weak (g ∷ run) after is up k e =
      let t = total_append d others (front ++ last ∷ []) in
      let t1 = ap (total d) e ∙ total_append d (g ∷ run) k in
      let mine = want_in d sg (front ++ last ∷ []) last last_in in
      let whole : others ++ (front ++ last ∷ []) ≡ g ∷ (((run ++ k) ++ front) ++ last ∷ []) =
      ap (λ l. l ++ (front ++ last ∷ [])) e ∙ ap (λ l. g ∷ l) (sym (append_assoc (run ++ k) front (last ∷ []))) in
      inr (inr (inl (record {
        first = last;
        second = g;
        next = inr ((run ++ k) ++ front, whole);
        enough = omega (arith, t, t1, up, mine, strong);
      })))

  seen_weak : IsWeak d sg (others ++ front) → HasEnough d sg (others ++ (front ++ last ∷ []))
  seen_weak w = elim (append_cases others front w.run w.after w.is) [
    | inl k ↦
        let b = by_end w.run w.after (sym w.is) k.0 k.2 in
        let up = w.up in
        let end = b.0 in
        let t = ap (total d) b.1 ∙ total_append d w.run (w.after ++ last ∷ []) in
        let v = ap (wants d sg) b.1 ∙ wants_append d sg w.run (w.after ++ last ∷ []) in
        inr (inl (omega (arith, up, end, t, v)))
    | inr k ↦ close_weak w.run w.after w.is w.up k.0 k.1
  ]

  close_strong : (before front2 : List Gap) (last2 : Gap) (v : List Gap) → IsStrong d sg (front2 ++ last2 ∷ []) → IsUp d sg (v ++ last ∷ [])
      → others ++ (front ++ last ∷ []) ≡ (before ++ (front2 ++ last2 ∷ [])) ++ (v ++ last ∷ [])
      → HasEnough d sg (others ++ (front ++ last ∷ []))
  close_strong before front2 last2 v strong2 up whole =
      let t = ap (total d) whole ∙ total_append d (before ++ (front2 ++ last2 ∷ [])) (v ++ last ∷ []) in
      let t1 = total_append d before (front2 ++ last2 ∷ []) in
      let one = want_in d sg (front2 ++ last2 ∷ []) last2 (in_right front2 (last2 ∷ []) last2 (inl refl)) in
      at v up whole t t1 one
    where
      at : (v : List Gap) → IsUp d sg (v ++ last ∷ [])
          → others ++ (front ++ last ∷ []) ≡ (before ++ (front2 ++ last2 ∷ [])) ++ (v ++ last ∷ [])
          → total d (others ++ (front ++ last ∷ [])) ≡ total d (before ++ (front2 ++ last2 ∷ [])) + total d (v ++ last ∷ [])
          → total d (before ++ (front2 ++ last2 ∷ [])) ≡ total d before + total d (front2 ++ last2 ∷ [])
          → want d sg last2.sender ≤ wants d sg (front2 ++ last2 ∷ []) → HasEnough d sg (others ++ (front ++ last ∷ []))
      at [] up whole t t1 one =
          let shape : others ++ (front ++ last ∷ []) ≡ (before ++ front2) ++ last2 ∷ last ∷ [] =
          whole ∙ ap (λ l. l ++ last ∷ []) (sym (append_assoc before front2 (last2 ∷ []))) ∙ append_assoc (before ++ front2) (last2 ∷ []) (last ∷ []) in
          inr (inr (inl (record {
            first = last2;
            second = last;
            next = inl (before ++ front2, [], shape);
            enough = omega (arith, t, t1, one, up, strong2);
          })))
      at (z ∷ w) up whole t t1 one =
          let shape : others ++ (front ++ last ∷ []) ≡ (before ++ front2) ++ last2 ∷ z ∷ (w ++ last ∷ []) =
          whole ∙ ap (λ l. l ++ z ∷ (w ++ last ∷ [])) (sym (append_assoc before front2 (last2 ∷ [])))
          ∙ append_assoc (before ++ front2) (last2 ∷ []) (z ∷ (w ++ last ∷ [])) in
          inr (inr (inl (record {
            first = last2;
            second = z;
            next = inl (before ++ front2, w ++ last ∷ [], shape);
            enough = omega (arith, t, t1, one, up, strong2);
          })))

  seen_strong : IsSeen d sg (others ++ front) → HasEnough d sg (others ++ (front ++ last ∷ []))
  seen_strong s =
      let run : List Gap = s.front ++ s.last ∷ [] in
      let is : others ++ front ≡ (s.before ++ run) ++ s.after =
      s.is ∙ ap (λ l. s.before ++ l) (sym (append_assoc s.front (s.last ∷ []) s.after)) ∙ sym (append_assoc s.before run s.after) in
      elim (append_cases others front (s.before ++ run) s.after is) [
        | inl k ↦
            let b = by_end (s.before ++ run) s.after (sym is) k.0 k.2 in
            close_strong s.before s.front s.last s.after s.strong b.0 b.1
        | inr k ↦
            let strong2 = s.strong in
            let there : In s.last run = in_right s.front (s.last ∷ []) s.last (inl refl) in
            let here : In s.last others = subst (In s.last) (sym k.1) (in_left (s.before ++ run) k.0 s.last (in_right s.before run s.last there)) in
            let t = total_append d others (front ++ last ∷ []) in
            let t1 = ap (total d) k.1 ∙ total_append d (s.before ++ run) k.0 in
            let t2 = total_append d s.before run in
            let one = want_in d sg run s.last there in
            let two = want_in d sg (front ++ last ∷ []) last last_in in
            inr (inr (inr (record {
              first = s.last;
              second = last;
              first_in = in_left others (front ++ last ∷ []) s.last here;
              second_in = in_right others (front ++ last ∷ []) last last_in;
              apart = apart_across others (front ++ last ∷ []) apart s.last last here last_in;
              enough = omega (arith, t, t1, t2, one, two, strong, strong2);
            })))
      ]

  pub by_last : Outcome d sg (others ++ front) last → HasEnough d sg (others ++ (front ++ last ∷ []))
  by_last (inl w) = seen_weak w
  by_last (inr (inl s)) = seen_strong s
  by_last (inr (inr whole)) =
      let same = sym (append_assoc others front (last ∷ [])) in
      let t = ap (total d) same ∙ total_append d (others ++ front) (last ∷ []) in
      let v = ap (wants d sg) same ∙ wants_append d sg (others ++ front) (last ∷ []) in
      elim whole [ inl one ↦ inl (omega (arith, one, t)) | inr all ↦ inr (inl (omega (arith, all, t, v))) ]

-- the sender at the top sees such gaps among the others
from_seen : (d sg : ℕ) (ahead : List Gap) (own : Gap) (behind : List Gap) → Apart (ahead ++ own ∷ behind) → Ring d sg (ahead ++ own ∷ behind)
    → IsSeen d sg (behind ++ ahead) → HasEnough d sg (ahead ++ own ∷ behind)
from_seen d sg ahead own behind apart ring s =
    let p : List Gap = s.before ++ (s.front ++ s.last ∷ []) in
    let q : List Gap = s.after ++ own ∷ [] in
    let cut : ahead ++ own ∷ behind ≡ (ahead ++ own ∷ []) ++ behind = sym (append_assoc ahead (own ∷ []) behind) in
    let joined : behind ++ (ahead ++ own ∷ []) ≡ p ++ q =
    sym (append_assoc behind ahead (own ∷ [])) ∙ ap (λ l. l ++ own ∷ []) s.is ∙ append_assoc s.before (s.front ++ s.last ∷ s.after) (own ∷ [])
    ∙ ap (λ l. s.before ++ l) (append_assoc s.front (s.last ∷ s.after) (own ∷ []) ∙ sym (append_assoc s.front (s.last ∷ []) q))
    ∙ sym (append_assoc s.before (s.front ++ s.last ∷ []) q) in
    let turned : Ring d sg (p ++ q) = subst (Ring d sg) joined (ring_turned d sg (ahead ++ own ∷ []) behind (subst (Ring d sg) cut ring)) in
    let apart_pq : Apart (p ++ q) = subst Apart joined (apart_turned (ahead ++ own ∷ []) behind (subst Apart cut apart)) in
    let at_last : p ++ q ≡ (s.before ++ s.front) ++ s.last ∷ q =
    ap (λ l. l ++ q) (sym (append_assoc s.before s.front (s.last ∷ []))) ∙ append_assoc (s.before ++ s.front) (s.last ∷ []) q in
    let heard : Outcome d sg (q ++ (s.before ++ s.front)) s.last = turned (s.before ++ s.front) s.last q at_last in
    let others : List Gap = q ++ s.before in
    let ring_end : q ++ p ≡ others ++ (s.front ++ s.last ∷ []) = sym (append_assoc q s.before (s.front ++ s.last ∷ [])) in
    let found : HasEnough d sg (others ++ (s.front ++ s.last ∷ [])) =
    by_last d sg others s.front s.last (subst Apart ring_end (apart_turned p q apart_pq)) s.strong s.ends
    (subst (λ l. Outcome d sg l s.last) (sym (append_assoc q s.before s.front)) heard) in
    let there : HasEnough d sg (p ++ q) = enough_turned d sg q p (subst (HasEnough d sg) (sym ring_end) found) in
    subst (HasEnough d sg) (sym cut) (enough_turned d sg behind (ahead ++ own ∷ []) (subst (HasEnough d sg) (sym joined) there))

pub borne_have_enough : (d sg : ℕ) (g : Gap) (gaps : List Gap) → Apart (g ∷ gaps) → AreNear d sg (g ∷ gaps)
    → gaps_hold d sg (g ∷ gaps) ≡ true → HasEnough d sg (g ∷ gaps)
borne_have_enough d sg g gaps apart near borne =
    let parts = and_parts _ _ borne in
    let ring = ring_of d sg (g ∷ gaps) apart near (all_wide d (g ∷ gaps) parts.0) parts.1 in
    let t : IsTop d sg (g ∷ gaps) = top_of d sg g gaps in
    let cut : g ∷ gaps ≡ (t.ahead ++ t.own ∷ []) ++ t.behind = t.is ∙ sym (append_assoc t.ahead (t.own ∷ []) t.behind) in
    let t1 = ap (total d) cut ∙ total_append d (t.ahead ++ t.own ∷ []) t.behind in
    let w1 = ap (wants d sg) cut ∙ wants_append d sg (t.ahead ++ t.own ∷ []) t.behind in
    let t2 = total_append d t.ahead (t.own ∷ []) in
    let w2 = wants_append d sg t.ahead (t.own ∷ []) in
    let t3 = total_append d t.behind t.ahead in
    let w3 = wants_append d sg t.behind t.ahead in
    elim (ring t.ahead t.own t.behind t.is) [
      | inl w ↦ let k = weak_top d sg (g ∷ gaps) t w in inr (inl (omega (arith, k, t1, w1, t2, w2, t3, w3)))
      | inr r ↦ elim r [
        | inl s ↦
            subst (HasEnough d sg) (sym t.is)
            (from_seen d sg t.ahead t.own t.behind (subst Apart t.is apart) (subst (Ring d sg) t.is ring) s)
        | inr whole ↦ elim whole [
          | inl one ↦ inl (omega (arith, one, t1, t2, t3))
          | inr all ↦ inr (inl (omega (arith, all, t1, w1, t2, w2, t3, w3)))
        ]
      ]
    ]
