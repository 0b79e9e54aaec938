-- A valid periodic table stays valid at other offsets below its transmit interval.
use Rattle.std.specs.Prelude.{◌≡◌, ℕ, ◌<◌, Bool, true, false, ◌||◌, ◌==◌, nat_le, IsTrue, List, [], ◌∷◌, ◌++◌, map}
use Rattle.std.specs.Prelude.{Option, Some}
use Rattle.std.specs.List.{list_all, list_any, find}
use Rattle.std.specs.Option.{option_map}
use Rattle.std.proofs.Common.{inl, inr, arith, sym, refl, ap, ◌∙◌, subst, cond}
use Rattle.std.proofs.lemmas.Bool.{and_parts, and_from}
use Rattle.std.proofs.lemmas.Bool.Decides.{nat_tests}
use Rattle.bus_strings.specs.Members.{In}
use Rattle.bus_table.specs.declared.mode.Mode.TheVariants.{Periodic}
use Rattle.bus_table.specs.declared.error.WholeReason.{WholeReason}
use Rattle.bus_table.specs.declared.error.WholeReason.TheVariants.{NumberTwice, GapTwice, GapNotShort, PairTwice}
use Rattle.bus_table.specs.Tables.{Sender, Table}
use Rattle.bus_table.specs.inside.Facts.{FitsMode, SenderFacts}
use Rattle.bus_table.proofs.PartLaws.{parts_of, valid_of, none_late}
use Rattle.bus_table.proofs.ValidLaws.{valid_facts}
use Rattle.bus_table.proofs.TurnLaws.{of_each}
use Rattle.bus_table.specs.Ranges.{is_number, is_tg, is_offset, is_sender}
use Rattle.bus_table.specs.Valid.{fits_mode, is_valid}
use Rattle.bus_table.specs.Whole.{first_again, sender_numbers, listener_numbers, send_lines, same_pair, no_sender}
use Rattle.bus_table.specs.Whole.{gap_twice, gap_not_short, periodic_refusal}
use Rattle.bus_table.specs.Offsets.{at_offset, at_offsets, with_offsets}

-- the senders with no offset
abbrev free : List Sender → List Sender
free senders = map (at_offset 0) senders

pub strip_offsets : (offsets : List ℕ) (senders : List Sender) → map (at_offset 0) (at_offsets offsets senders) ≡ map (at_offset 0) senders
strip_offsets [] senders = refl
strip_offsets (at ∷ offsets) [] = refl
strip_offsets (at ∷ offsets) (s ∷ senders) = ap (λ l. at_offset 0 s ∷ l) (strip_offsets offsets senders)

-- what doesn't see offsets is the same at other offsets
unseen : {X : Type 0} (f : List Sender → X) → ((senders : List Sender) → f (free senders) ≡ f senders)
    → (offsets : List ℕ) (senders : List Sender) → f (at_offsets offsets senders) ≡ f senders
unseen f blind offsets senders = sym (blind (at_offsets offsets senders)) ∙ ap f (strip_offsets offsets senders) ∙ blind senders

blind_numbers : (senders : List Sender) → sender_numbers (free senders) ≡ sender_numbers senders
blind_numbers [] = refl
blind_numbers (s ∷ senders) = ap (λ l. s.number ∷ l) (blind_numbers senders)

blind_lines : (senders : List Sender) → send_lines (free senders) ≡ send_lines senders
blind_lines [] = refl
blind_lines (s ∷ senders) = ap (λ l. s.sends ++ l) (blind_lines senders)

blind_none : (senders : List Sender) → no_sender (free senders) ≡ no_sender senders
blind_none [] = refl
blind_none (s ∷ senders) = refl

blind_short : (sg : ℕ) (senders : List Sender) → gap_not_short sg (free senders) ≡ gap_not_short sg senders
blind_short sg [] = refl
blind_short sg (s ∷ senders) = chosen (nat_le sg s.tg) (blind_short sg senders) where
  reason : Option Sender → Option WholeReason
  reason found = option_map (λ t. GapNotShort t.number) found

  first : List Sender → Option Sender
  first ss = find (λ (t : Sender). nat_le sg t.tg) ss

  chosen : (b : Bool) → reason (first (free senders)) ≡ reason (first senders)
      → reason (cond b (Some (at_offset 0 s)) (first (free senders))) ≡ reason (cond b (Some s) (first senders))
  chosen true rest = refl
  chosen false rest = rest

-- the first sender whose terminal gap an earlier one has
abbrev same_gap : Sender → Sender → Bool
same_gap a b = a.tg == b.tg

abbrev twice : Option Sender → Option WholeReason
twice found = option_map (λ sender. GapTwice sender.number) found

blind_any : (n : ℕ) (senders : List Sender) → list_any (λ s. s.tg == n) (free senders) ≡ list_any (λ s. s.tg == n) senders
blind_any n [] = refl
blind_any n (s ∷ senders) = ap (λ b. (s.tg == n) || b) (blind_any n senders)

free_push : (xs : List Sender) (y : Sender) → free xs ++ at_offset 0 y ∷ [] ≡ free (xs ++ y ∷ [])
free_push [] y = refl
free_push (x ∷ xs) y = ap (λ l. at_offset 0 x ∷ l) (free_push xs y)

-- the first that stands again, where these stand before
abbrev again : List Sender → List Sender → Option Sender
again earlier senders = first_again same_gap earlier senders

blind_again : (earlier senders : List Sender) → twice (again (free earlier) (free senders)) ≡ twice (again earlier senders)
blind_again earlier [] = refl
blind_again earlier (s ∷ senders) =
    ap (λ b. twice (cond b (Some (at_offset 0 s)) (again (free earlier ++ at_offset 0 s ∷ []) (free senders)))) (blind_any s.tg earlier)
    ∙ chosen (list_any (λ (t : Sender). t.tg == s.tg) earlier) (blind_again (earlier ++ s ∷ []) senders)
  where
    chosen : (b : Bool) → twice (again (free (earlier ++ s ∷ [])) (free senders)) ≡ twice (again (earlier ++ s ∷ []) senders)
        → twice (cond b (Some (at_offset 0 s)) (again (free earlier ++ at_offset 0 s ∷ []) (free senders)))
        ≡ twice (cond b (Some s) (again (earlier ++ s ∷ []) senders))
    chosen true rest = refl
    chosen false rest = ap (λ l. twice (again l (free senders))) (free_push earlier s) ∙ rest

-- offsets below the transmit interval
moved_below : (ti : ℕ) (offsets : List ℕ) (senders : List Sender) → ((n : ℕ) → In n offsets → n < ti)
    → ((s : Sender) → In s senders → s.at < ti) → (s : Sender) → In s (at_offsets offsets senders) → s.at < ti
moved_below ti [] senders low own s i = own s i
moved_below ti (at ∷ offsets) [] low own s i = absurd i
moved_below ti (at ∷ offsets) (t ∷ senders) low own s (inl e) =
    let k : s.at ≡ at = ap (λ (x : Sender). x.at) e in
    let m = low at (inl refl) in
    omega (arith, k, m)
moved_below ti (at ∷ offsets) (t ∷ senders) low own s (inr i) =
    moved_below ti offsets senders (λ n j. low n (inr j)) (λ x j. own x (inr j)) s i

-- the ranges
sender_moved : (at : ℕ) (s : Sender) → at < 128000 → is_sender s ≡ true → is_sender (at_offset at s) ≡ true
sender_moved at s low h =
    let one = and_parts (is_number s.number) _ h in
    let two = and_parts (is_tg s.tg) _ one.1 in
    let three = and_parts (is_offset s.at) _ two.1 in
    let offset : is_offset at ≡ true = (let k : at < 128000 = low in grind (arith, nat_tests)) in
    and_from _ _ one.0 (and_from _ _ two.0 (and_from _ _ offset three.1))

senders_moved : (offsets : List ℕ) (senders : List Sender) → ((n : ℕ) → In n offsets → n < 128000)
    → list_all is_sender senders ≡ true → list_all is_sender (at_offsets offsets senders) ≡ true
senders_moved [] senders low h = h
senders_moved (at ∷ offsets) [] low h = refl
senders_moved (at ∷ offsets) (s ∷ senders) low h =
    let p = and_parts (is_sender s) _ h in
    and_from _ _ (sender_moved at s (low at (inl refl)) p.0) (senders_moved offsets senders (λ n i. low n (inr i)) p.1)

-- a valid periodic table stays valid at offsets below its transmit interval
pub kept_valid : (table : Table) (offsets : List ℕ) → IsTrue (is_valid table) → table.mode ≡ Periodic
    → ((n : ℕ) → In n offsets → n < table.ti) → IsTrue (is_valid (with_offsets offsets table))
kept_valid table offsets valid periodic low =
    let facts = valid_facts table valid in
    let most = facts.ti_most in
    let p = parts_of table valid in
    let moved : List Sender = at_offsets offsets table.senders in
    let own : (s : Sender) → In s table.senders → s.at < table.ti = λ s i.
    subst (λ m. FitsMode m table.ti s.at) periodic (of_each (SenderFacts table) table.senders facts.senders s i).mode in
    valid_of (with_offsets offsets table) (record {
      ti = p.ti;
      sg = p.sg;
      senders = senders_moved offsets table.senders (λ n i. let k = low n i in omega (arith, k, most)) p.senders;
      listeners = p.listeners;
      fits = ap (λ m. fits_mode m moved) periodic;
      some = unseen no_sender blind_none offsets table.senders ∙ p.some;
      once = ap (λ ns. option_map NumberTwice (first_again (λ (n m : ℕ). n == m) [] (ns ++ listener_numbers table.listeners)))
          (unseen sender_numbers blind_numbers offsets table.senders)
          ∙ p.once;
      gaps = unseen gap_twice (blind_again []) offsets table.senders ∙ p.gaps;
      short = unseen (gap_not_short table.sg) (blind_short table.sg) offsets table.senders ∙ p.short;
      pairs = ap (λ ls. option_map (λ l. PairTwice l.label l.ext) (first_again same_pair [] ls)) (unseen send_lines blind_lines offsets table.senders)
          ∙ p.pairs;
      late = ap (λ m. periodic_refusal m table.ti moved) periodic
          ∙ none_late table.ti moved (moved_below table.ti offsets table.senders low own);
    })
