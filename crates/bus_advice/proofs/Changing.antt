-- A table of which one sender is changed in something else than its number and its offset.
use Rattle.std.specs.Prelude.{◌≡◌, ℕ, true, ◌&&◌, ◌==◌, IsTrue, List, [], ◌∷◌, ◌++◌, map, None}
use Rattle.std.specs.List.{list_all}
use Rattle.std.specs.Option.{option_map}
use Rattle.std.proofs.Common.{sym, refl, ap, ◌∙◌}
use Rattle.bus_table.specs.declared.mode.Mode.{Mode}
use Rattle.bus_table.specs.declared.mode.Mode.TheVariants.{Aperiodic}
use Rattle.bus_table.specs.declared.error.WholeReason.TheVariants.{NumberTwice}
use Rattle.bus_table.specs.Tables.{Sender, Table}
use Rattle.bus_table.specs.Ranges.{is_sender}
use Rattle.bus_table.specs.Valid.{fits_mode, is_valid}
use Rattle.bus_table.specs.Whole.{first_again, sender_numbers, listener_numbers, no_sender, gap_twice, gap_not_short, pair_twice, periodic_refusal}
use Rattle.bus_table.proofs.PartLaws.{parts_of, valid_of}
use Rattle.bus_advice.specs.Changes.{with_senders}

same_numbers : (f : Sender → Sender) (senders : List Sender) → ((s : Sender) → (f s).number ≡ s.number)
    → sender_numbers (map f senders) ≡ sender_numbers senders
same_numbers f [] keeps = refl
same_numbers f (s ∷ senders) keeps =
    ap (λ n. n ∷ sender_numbers (map f senders)) (keeps s) ∙ ap (λ ns. s.number ∷ ns) (same_numbers f senders keeps)

same_offsets : (f : Sender → Sender) (senders : List Sender) → ((s : Sender) → (f s).at ≡ s.at)
    → list_all (λ s. s.at == 0) (map f senders) ≡ list_all (λ s. s.at == 0) senders
same_offsets f [] keeps = refl
same_offsets f (s ∷ senders) keeps =
    ap (λ (n : ℕ). (n == 0) && list_all (λ (t : Sender). t.at == 0) (map f senders)) (keeps s)
    ∙ ap (λ b. (s.at == 0) && b) (same_offsets f senders keeps)

same_some : (f : Sender → Sender) (senders : List Sender) → no_sender senders ≡ None → no_sender (map f senders) ≡ None
same_some f [] h = h
same_some f (s ∷ senders) h = refl

fits_again : (f : Sender → Sender) (mode : Mode) (senders : List Sender) → mode ≡ Aperiodic → ((s : Sender) → (f s).at ≡ s.at)
    → fits_mode mode senders ≡ true → fits_mode mode (map f senders) ≡ true
fits_again f mode senders e at h =
    ap (λ m. fits_mode m (map f senders)) e ∙ same_offsets f senders at ∙ sym (ap (λ m. fits_mode m senders) e) ∙ h

-- what is left to show of such a table
pub record Stays (table : Table) (f : Sender → Sender) : Type 0 where
  pub number : (s : Sender) → (f s).number ≡ s.number
  pub at : (s : Sender) → (f s).at ≡ s.at
  pub range : list_all is_sender (map f table.senders) ≡ true
  pub gaps : gap_twice (map f table.senders) ≡ None
  pub short : gap_not_short table.sg (map f table.senders) ≡ None
  pub pairs : pair_twice (map f table.senders) ≡ None

pub stays_valid : (table : Table) (f : Sender → Sender) → IsTrue (is_valid table) → table.mode ≡ Aperiodic → Stays table f
    → IsTrue (is_valid (with_senders (map f table.senders) table))
stays_valid table f valid aperiodic stays =
    let p = parts_of table valid in
    valid_of (with_senders (map f table.senders) table) (record {
      ti = p.ti;
      sg = p.sg;
      senders = stays.range;
      listeners = p.listeners;
      fits = fits_again f table.mode table.senders aperiodic stays.at p.fits;
      some = same_some f table.senders p.some;
      once = ap (λ ns. option_map NumberTwice (first_again (λ (n m : ℕ). n == m) [] (ns ++ listener_numbers table.listeners)))
          (same_numbers f table.senders stays.number)
          ∙ p.once;
      gaps = stays.gaps;
      short = stays.short;
      pairs = stays.pairs;
      late = ap (λ m. periodic_refusal m table.ti (map f table.senders)) aperiodic;
    })
