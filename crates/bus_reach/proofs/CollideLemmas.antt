-- The wakes with which senders that never part all start at once.
use Rattle.std.proofs.Common.{◌≡◌, ℕ, ◌+◌, ◌-◌, ◌<◌, ◌≤◌, Bool, true, false, cond, List, [], ◌∷◌, eqb, inl, inr, arith, sym, refl, ap, ◌∙◌}
use Rattle.std.specs.Prelude.{IsTrue, nat_le, max, fold}
use Rattle.std.specs.List.{list_all}
use Rattle.std.proofs.lemmas.Bool.{and_parts, leb-true, eqb-true, eq-eqb, true≢false}
use Rattle.bus_strings.specs.Members.{In}
use Rattle.bus_table.specs.Lengths.{longest}
use Rattle.bus_table.specs.Tables.{Sender, Table}
use Rattle.bus_table.specs.Timers.{greatest_gap}
use Rattle.bus_table.specs.Valid.{is_valid}
use Rattle.bus_table.specs.declared.mode.Mode.TheVariants.{Aperiodic}
use Rattle.bus_table.proofs.TurnLaws.{numbers_differ}
use Rattle.bus_table.proofs.ValidLaws.{valid_facts}
use Rattle.bus_medium.proofs.StationLaws.{timings_are_sound}
use Rattle.bus_schedule.proofs.Orders.{same_sender}
use Rattle.bus_regime.specs.Starting.{never_parts}
use Rattle.bus_reach.specs.Colliding.{CollideForEver, SomeNeverPart}
use Rattle.bus_reach.proofs.Sending.{run_of}
use Rattle.bus_reach.proofs.Colliding.{Pack, at_turns}

-- the terminal gap of the sender with this number
abbrev gap_of : List Sender → ℕ → ℕ
gap_of [] n = 0
gap_of (s ∷ senders) n = cond (eqb s.number n) s.tg (gap_of senders n)

gap_found : (senders : List Sender) (b : Sender) → In b senders → (a : Sender) × In a senders × (a.number ≡ b.number) × (gap_of senders b.number ≡ a.tg)
gap_found [] b i = absurd i
gap_found (s ∷ senders) b i =
    (elim (eqb s.number b.number) as (λ w. eqb s.number b.number ≡ w
    → (a : Sender) × In a (s ∷ senders) × (a.number ≡ b.number) × (cond w s.tg (gap_of senders b.number) ≡ a.tg)) [
      | true ↦ λ e. (s, inl refl, eqb-true s.number b.number e, refl)
      | false ↦ λ e. elim i [
        | inl same ↦ absurd (true≢false (sym (eq-eqb s.number b.number (sym (ap (λ (x : Sender). x.number) same))) ∙ e))
        | inr j ↦ (let w = gap_found senders b j in (w.0, inr w.1, w.2, w.3))
      ]
    ]) refl

gap_is : (table : Table) → IsTrue (is_valid table) → (b : Sender) → In b table.senders → gap_of table.senders b.number ≡ b.tg
gap_is table valid b i =
    let w = gap_found table.senders b i in
    w.3 ∙ ap (λ (x : Sender). x.tg) (same_sender (λ c. c.number) table.senders w.0 b (numbers_differ table (valid_facts table valid)) w.1 i w.2)

-- no terminal gap is greater than the greatest
gap_from : (n : ℕ) (senders : List Sender) → n ≤ fold (λ gap sender. max gap sender.tg) n senders
gap_from n [] = omega arith
gap_from n (s ∷ senders) = let k = gap_from (max n s.tg) senders in omega (arith, k)

gap_in : (n : ℕ) (senders : List Sender) (b : Sender) → In b senders → b.tg ≤ fold (λ gap sender. max gap sender.tg) n senders
gap_in n [] b i = absurd i
gap_in n (s ∷ senders) b (inl same) =
    let e : b.tg ≡ s.tg = ap (λ (x : Sender). x.tg) same in
    let k = gap_from (max n s.tg) senders in
    omega (arith, e, k)
gap_in n (s ∷ senders) b (inr i) = gap_in (max n s.tg) senders b i

over_in : (sg gap ti : ℕ) (senders : List Sender) → list_all (λ s. nat_le (sg + gap + longest s) ti) senders ≡ true → (b : Sender) → In b senders
    → sg + gap + longest b ≤ ti
over_in sg gap ti [] h b i = absurd i
over_in sg gap ti (s ∷ senders) h b (inl same) =
    let e : longest b ≡ longest s = ap (λ (x : Sender). longest x) same in
    let k : sg + gap + longest s ≤ ti = leb-true (sg + gap + longest s) ti (and_parts (nat_le (sg + gap + longest s) ti) _ h).0 in
    omega (arith, e, k)
over_in sg gap ti (s ∷ senders) h b (inr i) = over_in sg gap ti senders (and_parts (nat_le (sg + gap + longest s) ti) _ h).1 b i

pub some_never_part : SomeNeverPart
some_never_part table valid mode never = record {
  wake = λ n. table.sg + 256 - gap_of table.senders n;
  up = table.sg + 256;
  once = λ hands horizon list dealt left law b t i soon.
      at_turns (record {
        run = run_of table hands (λ n. table.sg + 256 - gap_of table.senders n) horizon list valid mode dealt left law;
        up = table.sg + 256;
        ready = λ a j. (let most = (timings_are_sound table a valid j).tg_most in let e = gap_is table valid a j in omega (arith, most, e));
        late = λ a j. (let most = (timings_are_sound table a valid j).tg_most in let e = gap_is table valid a j in omega (arith, most, e));
        over = λ a c j k.
            (let gap : a.tg ≤ greatest_gap table.senders = gap_in 0 table.senders a j in
            let over = over_in table.sg (greatest_gap table.senders) table.ti table.senders never c k in
            omega (arith, gap, over));
      }) b t i soon;
}
