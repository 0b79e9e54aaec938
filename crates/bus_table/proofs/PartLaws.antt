-- The parts of a valid table: each range and each whole reason by itself.
use Rattle.std.specs.Prelude.{◌≡◌, ℕ, ◌<◌, ◌≤◌, true, false, nat_le, is_none, IsTrue, List, [], ◌∷◌, Option, Some, None}
use Rattle.std.specs.List.{list_all, find}
use Rattle.std.specs.Option.{option_map, option_or}
use Rattle.std.proofs.Common.{inl, inr, arith, refl, ap, ◌∙◌, cond}
use Rattle.std.proofs.lemmas.Bool.{and_parts, and_from}
use Rattle.std.proofs.lemmas.Bool.Decides.{nat_tests}
use Rattle.bus_strings.specs.Members.{In}
use Rattle.bus_table.specs.declared.error.WholeReason.TheVariants.{GapNotShort, OffsetRange}
use Rattle.bus_table.specs.Tables.{Sender, Table}
use Rattle.bus_table.specs.Ranges.{is_ti, is_sg, is_sender, is_listener}
use Rattle.bus_table.specs.Valid.{fits_mode, is_valid, is_in_range}
use Rattle.bus_table.specs.Whole.{no_sender, number_twice, gap_twice, gap_not_short, pair_twice, offset_range, periodic_refusal, whole_refusal}

-- neither of two is there
pub or_none : {A : Type 0} (a b : Option A) → option_or a b ≡ None → (a ≡ None) × (b ≡ None)
or_none None b h = (refl, h)
or_none (Some x) b h = absurd (cc)

pub none_or : {A : Type 0} (a b : Option A) → a ≡ None → b ≡ None → option_or a b ≡ None
none_or None b h k = k
none_or (Some x) b h k = absurd (cc)

pub is_none_is : {A : Type 0} (a : Option A) → is_none a ≡ true → a ≡ None
is_none_is None h = refl
is_none_is (Some x) h = absurd (cc)

pub record Parts (table : Table) : Type 0 where
  pub ti : is_ti table.ti ≡ true
  pub sg : is_sg table.sg ≡ true
  pub senders : list_all is_sender table.senders ≡ true
  pub listeners : list_all is_listener table.listeners ≡ true
  pub fits : fits_mode table.mode table.senders ≡ true
  pub some : no_sender table.senders ≡ None
  pub once : number_twice table ≡ None
  pub gaps : gap_twice table.senders ≡ None
  pub short : gap_not_short table.sg table.senders ≡ None
  pub pairs : pair_twice table.senders ≡ None
  pub late : periodic_refusal table.mode table.ti table.senders ≡ None

pub parts_of : (table : Table) → IsTrue (is_valid table) → Parts table
parts_of table valid =
    let parts = and_parts (is_in_range table) (is_none (whole_refusal table)) valid in
    let ti = and_parts (is_ti table.ti) _ parts.0 in
    let sg = and_parts (is_sg table.sg) _ ti.1 in
    let senders = and_parts (list_all is_sender table.senders) _ sg.1 in
    let listeners = and_parts (list_all is_listener table.listeners) _ senders.1 in
    let some = or_none (no_sender table.senders) _ (is_none_is (whole_refusal table) parts.1) in
    let once = or_none (number_twice table) _ some.1 in
    let gaps = or_none (gap_twice table.senders) _ once.1 in
    let short = or_none (gap_not_short table.sg table.senders) _ gaps.1 in
    let pairs = or_none (pair_twice table.senders) _ short.1 in
    record {
      ti = ti.0;
      sg = sg.0;
      senders = senders.0;
      listeners = listeners.0;
      fits = listeners.1;
      some = some.0;
      once = once.0;
      gaps = gaps.0;
      short = short.0;
      pairs = pairs.0;
      late = pairs.1;
    }

pub valid_of : (table : Table) → Parts table → IsTrue (is_valid table)
valid_of table p =
    and_from _ _
    (and_from _ _ p.ti (and_from _ _ p.sg (and_from _ _ p.senders (and_from _ _ p.listeners p.fits))))
    (ap is_none
    (none_or _ _ p.some (none_or _ _ p.once (none_or _ _ p.gaps (none_or _ _ p.short (none_or _ _ p.pairs p.late))))))

-- no gap is too long, and no offset too late
pub none_long : (sg : ℕ) (senders : List Sender) → ((s : Sender) → In s senders → s.tg < sg) → gap_not_short sg senders ≡ None
none_long sg [] low = refl
none_long sg (s ∷ senders) low =
    let here = low s (inl refl) in
    let less : nat_le sg s.tg ≡ false = grind (arith, nat_tests, here) in
    ap (λ b. option_map (λ t. GapNotShort t.number) (cond b (Some s) (find (λ (t : Sender). nat_le sg t.tg) senders))) less
    ∙ none_long sg senders (λ t i. low t (inr i))

pub none_late : (ti : ℕ) (senders : List Sender) → ((s : Sender) → In s senders → s.at < ti) → offset_range ti senders ≡ None
none_late ti [] low = refl
none_late ti (s ∷ senders) low =
    let here = low s (inl refl) in
    let early : nat_le ti s.at ≡ false = grind (arith, nat_tests, here) in
    ap (λ b. option_map (λ t. OffsetRange t.number) (cond b (Some s) (find (λ (t : Sender). nat_le ti t.at) senders))) early
    ∙ none_late ti senders (λ t i. low t (inr i))

pub ti_range : (n : ℕ) → 1000 ≤ n → n ≤ 128000 → is_ti n ≡ true
ti_range n low high =
    let a : nat_le 1000 n ≡ true = grind (arith, nat_tests, low) in
    let b : nat_le n 128000 ≡ true = grind (arith, nat_tests, high) in
    and_from _ _ a b

pub sg_range : (n : ℕ) → 9 ≤ n → n ≤ 1024 → is_sg n ≡ true
sg_range n low high =
    let a : nat_le 9 n ≡ true = grind (arith, nat_tests, low) in
    let b : nat_le n 1024 ≡ true = grind (arith, nat_tests, high) in
    and_from _ _ a b
