-- Where it can be told who is due there is a list that a rule makes: moment by moment, and at each moment by rising number.
use Rattle.std.proofs.Common.{◌≡◌, ℕ, zero, suc, ◌+◌, ◌<◌, ◌↔◌, Bool, true, false, cond, eqb, List, [], ◌∷◌, ◌++◌, length, Some, None, inl, inr, arith, sym, refl, ap, ◌∙◌, subst}
use Rattle.std.proofs.lemmas.Bool.{eq-eqb, eqb-true, true≢false}
use Rattle.std.proofs.lemmas.Option.{slice_get-get_or}
use Rattle.bus_strings.specs.Members.{In}
use Rattle.bus_strings.specs.Messages.{Entry}
use Rattle.bus_medium.specs.Past.{own}
use Rattle.bus_medium.specs.Lawful.{Station, HaveOwnNumbers, IsRuled, IsRuledTo}
use Rattle.bus_medium.specs.LawfulList.{next_entry, with_number, above, decided, decided_below, ruled_list}
use Rattle.bus_medium.proofs.PastLaws.{before}
use Rattle.bus_medium.proofs.Ruled.{below_above, ruled_none, ruled_idle, ruled_start, ruled_next, ruled_whole}

-- who is found has the number, and where nobody is found nobody has it
found_number : (ss : List Station) (n : ℕ) (s : Station) → with_number ss n ≡ Some s → In s ss × (s.number ≡ n)
found_number [] n s e = absurd (let none : None ≡ Some s = e in cc)
found_number (r ∷ ss) n s e =
    elim (eqb r.number n) as (λ b. eqb r.number n ≡ b → cond b (Some r) (with_number ss n) ≡ Some s → In s (r ∷ ss) × (s.number ≡ n)) [
      | true ↦ λ is k. let same : r ≡ s = cc in (inl (sym same), ap (λ w. w.number) (sym same) ∙ eqb-true r.number n is)
      | false ↦ λ is k. let so = found_number ss n s k in (inr so.0, so.1)
    ] refl e

nobody_found : (ss : List Station) (n : ℕ) (s : Station) → with_number ss n ≡ None → In s ss → s.number ≡ n → ⊥
nobody_found [] n s e there number = there
nobody_found (r ∷ ss) n s e there number =
    elim (eqb r.number n) as (λ b. eqb r.number n ≡ b → cond b (Some r) (with_number ss n) ≡ None → ⊥) [
      | true ↦ λ is k. cc
      | false ↦ λ is k. elim there [
        | inl same ↦ true≢false (sym (eq-eqb r.number n (ap (λ w. w.number) (sym same) ∙ number)) ∙ is)
        | inr behind ↦ nobody_found ss n s k behind number
      ]
    ] refl e

module _ (due : List Entry → Station → ℕ → Type 0) (looks : (l m : List Entry) (s : Station) (t : ℕ) → before l t ≡ before m t → due l s t → due m s t)
    (is_due : List Entry → Station → ℕ → Bool) (decides : (l : List Entry) (s : Station) (t : ℕ) → (is_due l s t ≡ true) ↔ due l s t)
    (left : (l : List Entry) (s : Station) (t : ℕ) → due l s t → length (own l s.number t) < length s.hand) where
  -- the sender decides
  one_decides : (ss : List Station) (t n : ℕ) (l : List Entry) (s : Station) → HaveOwnNumbers ss → IsRuledTo due ss t n l → In s ss → s.number ≡ n → IsRuledTo due ss t (n + 1) (decided is_due l (Some s) t)
  one_decides ss t n l s o law there number =
      elim (is_due l s t) as (λ b. is_due l s t ≡ b → IsRuledTo due ss t (n + 1) (cond b (l ++ next_entry l s t ∷ []) l)) [
        | true ↦ λ e.
            let now : due l s t = (decides l s t).0 e in
            ruled_start due looks ss t n l s (next_entry l s t) o law there number now refl refl (slice_get-get_or s.hand (length (own l s.number t)) [] (left l s t now))
        | false ↦ λ e. ruled_idle due looks ss t n (n + 1) l law (omega arith) (λ r r_in low high d.
            let same : s ≡ r = o s r there r_in (omega arith) in
            true≢false (sym ((decides l s t).1 (subst (λ w. due l w t) (sym same) d)) ∙ e))
      ] refl

  -- the one with the number n decides, if there is one
  number_decides : (ss : List Station) (t n : ℕ) (l : List Entry) → HaveOwnNumbers ss → IsRuledTo due ss t n l → IsRuledTo due ss t (n + 1) (decided is_due l (with_number ss n) t)
  number_decides ss t n l o law =
      elim (with_number ss n) as (λ found. with_number ss n ≡ found → IsRuledTo due ss t (n + 1) (decided is_due l found t)) [
        | None ↦ λ e. ruled_idle due looks ss t n (n + 1) l law (omega arith) (λ r there low high d. nobody_found ss n r e there (omega arith))
        | Some s ↦ λ e. let so = found_number ss n s e in one_decides ss t n l s o law so.0 so.1
      ] refl

  below_decided : (ss : List Station) (t n : ℕ) (l : List Entry) → HaveOwnNumbers ss → IsRuledTo due ss t 0 l → IsRuledTo due ss t n (decided_below is_due ss l t n)
  below_decided ss t zero l o law = law
  below_decided ss t (suc n) l o law =
      subst (λ k. IsRuledTo due ss t k (decided_below is_due ss l t (suc n))) (let e : n + 1 ≡ suc n = omega arith in e) (number_decides ss t n (decided_below is_due ss l t n) o (below_decided ss t n l o law))

  list_to : (ss : List Station) (t : ℕ) → HaveOwnNumbers ss → IsRuledTo due ss t 0 (ruled_list is_due ss t)
  list_to ss zero o = ruled_none due looks ss
  list_to ss (suc t) o =
      subst (λ u. IsRuledTo due ss u 0 (ruled_list is_due ss (suc t))) (let e : t + 1 ≡ suc t = omega arith in e)
      (ruled_next due looks ss t (above ss) (ruled_list is_due ss (suc t)) (below_above ss) (below_decided ss t (above ss) (ruled_list is_due ss t) o (list_to ss t o)))

  -- the computed list is the one
  pub ruled_list_is : (ss : List Station) (horizon : ℕ) → HaveOwnNumbers ss → IsRuled due ss horizon (ruled_list is_due ss horizon)
  ruled_list_is ss horizon o = ruled_whole due looks ss horizon (ruled_list is_due ss horizon) (list_to ss horizon o)
