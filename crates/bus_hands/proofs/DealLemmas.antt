-- Items that are dealt out as they are read.
use Rattle.std.proofs.Common.{arith, ◌≡◌, ℕ, ◌+◌, true, false, List, [], ◌∷◌, ◌++◌, length, Result, Ok, Err, refl, sym, ap, append_assoc, ◌∙◌}
use Rattle.std.specs.Prelude.{IsTrue}
use Rattle.std.specs.Result.{is_ok}
use Rattle.std.proofs.lemmas.List.{length-append}
use Rattle.bus_text.specs.AllOf.{◌>>=◌, all_of}
use Rattle.bus_text.proofs.AllOfLaws.{with_front}
use Rattle.bus_strings.specs.Items.{Item}
use Rattle.bus_table.specs.declared.fit.FitError.{FitError}
use Rattle.bus_table.specs.Fits.{fit_from, item_fit}
use Rattle.bus_table.specs.Tables.{Sender, Hand, Table}
use Rattle.bus_table.specs.Hands.{are_hands}
use Rattle.bus_table.specs.Valid.{is_valid}
use Rattle.bus_table.proofs.HandFits.{hands_of_fit}
use Rattle.bus_hands.specs.inside.Dealing.{AreDealt, IsTried, dealt}

bind_assoc : (r : Result (Unit {0}) FitError) (f g : Result (Unit {0}) FitError) → (r >>= λ _. f >>= λ _. g) ≡ ((r >>= λ _. f) >>= λ _. g)
bind_assoc (Ok u) f g = refl
bind_assoc (Err e) f g = refl

bind_ok : (r : Result (Unit {0}) FitError) → (r >>= λ _. Ok tt) ≡ r
bind_ok (Ok u) = refl
bind_ok (Err e) = refl

-- One item more.
pub fit_more : (k : ℕ) (senders : List Sender) (done : List Item) (item : Item) → fit_from k senders (done ++ item ∷ []) ≡ (fit_from k senders done >>= λ _. item_fit (k + length done) senders item)
fit_more k senders [] item = bind_ok (item_fit k senders item) ∙ ap (λ n. item_fit n senders item) (omega arith)
fit_more k senders (first ∷ done) item =
    ap (λ r. item_fit k senders first >>= λ _. r) (fit_more (k + 1) senders done item ∙ ap (λ n. fit_from (k + 1) senders done >>= λ _. item_fit n senders item) (omega arith))
    ∙ bind_assoc (item_fit k senders first) (fit_from (k + 1) senders done) (item_fit (k + length (first ∷ done)) senders item)

at_number : (k : ℕ) (senders : List Sender) (done : List Item) (item : Item) → k ≡ length done + 1 → fit_from 1 senders done ≡ Ok tt → fit_from 1 senders (done ++ item ∷ []) ≡ item_fit k senders item
at_number k senders done item number fit =
    fit_more 1 senders done item ∙ ap (λ r. r >>= λ _. item_fit (1 + length done) senders item) fit ∙ ap (λ n. item_fit n senders item) (omega (arith, number))

pub tried_dealt : (k : ℕ) (senders : List Sender) (done : List Item) (item : Item) (old new : List Hand) (fit now : Result (Unit {0}) FitError)
    → k ≡ length done + 1 → AreDealt senders done old fit → is_ok fit ≡ true → IsTried k senders item old new now → AreDealt senders (done ++ item ∷ []) new now
tried_dealt k senders done item old new (Ok u) (Ok v) number all ok tried =
    (at_number k senders done item number all.0 ∙ tried.0, tried.1 done all.1)
tried_dealt k senders done item old new (Ok u) (Err error) number all ok tried =
    at_number k senders done item number all.0 ∙ tried
tried_dealt k senders done item old new (Err error) now number all ok tried = absurd cc

pub kept_dealt : (senders : List Sender) (done : List Item) (item : Item) (old : List Hand) (fit : Result (Unit {0}) FitError)
    → AreDealt senders done old fit → is_ok fit ≡ false → AreDealt senders (done ++ item ∷ []) old fit
kept_dealt senders done item old (Ok u) all ok = absurd cc
kept_dealt senders done item old (Err error) all ok =
    fit_more 1 senders done item ∙ ap (λ r. r >>= λ _. item_fit (1 + length done) senders item) all

-- One line more was read.
pub front_more : {X Y R : Type 0} (read : X → Result Y R) (done : List Y) (x : X) (xs left : List X) (y : Y) (all : Result (List Y) R)
    → with_front done (all_of read left) ≡ all → left ≡ x ∷ xs → read x ≡ Ok y → with_front (done ++ y ∷ []) (all_of read xs) ≡ all
front_more {X} {Y} {R} read done x xs left y all front e r =
    moved (all_of read xs) refl ∙ ap (with_front done) (sym (ap (all_of read) e ∙ ap (λ o. o >>= λ z. all_of read xs >>= λ zs. Ok (z ∷ zs)) r)) ∙ front
  where
    moved : (rest : Result (List Y) R) → all_of read xs ≡ rest → with_front (done ++ y ∷ []) rest ≡ with_front done (rest >>= λ zs. Ok (y ∷ zs))
    moved (Ok ys) h = ap (λ l. Ok l) (append_assoc done (y ∷ []) ys)
    moved (Err error) h = refl

pub length_more : (done : List Item) (item : Item) → length (done ++ item ∷ []) ≡ length done + 1
length_more done item = omega (arith, length-append done (item ∷ []))

pub length_next : {X : Type 0} (left : List X) (x : X) (xs : List X) → left ≡ x ∷ xs → length left ≡ length xs + 1
length_next left x xs e = ap length e ∙ omega arith

-- Where all fit, the hands are those of the table's senders, whose messages fit.
pub dealt_fit : (table : Table) (senders : List Sender) (items : List Item) (hands : List Hand) (fit : Result (Unit {0}) FitError)
    → senders ≡ table.senders → IsTrue (is_valid table) → AreDealt senders items hands fit → fit ≡ Ok tt → IsTrue (are_hands table.senders hands)
dealt_fit table senders items hands (Ok u) same valid all ok =
    let fits : fit_from 1 table.senders items ≡ Ok tt = sym (ap (λ ss. fit_from 1 ss items) same) ∙ all.0 in
    ap (are_hands table.senders) (all.1 ∙ ap (λ ss. dealt ss items) same) ∙ hands_of_fit table items valid (ap is_ok fits)
dealt_fit table senders items hands (Err error) same valid all ok = absurd cc
