-- The first item that doesn't fit, and why it doesn't.
use Rattle.std.proofs.Common.{arith, ◌≡◌, inl, inr, ℕ, suc, ◌+◌, ◌-◌, ◌<◌, ◌≤◌, Bool, true, false, cond, ◌&&◌, ◌==◌, List, [], ◌∷◌, length, take, drop, get_or, Option, Some, None, refl, sym, ap, subst, ◌∙◌}
use Rattle.std.specs.Prelude.{if◌then◌else◌, slice_get, Result, Ok, Err, IsOk}
use Rattle.std.proofs.lemmas.Bool.{eqb-true, eq-eqb}
use Rattle.std.proofs.lemmas.Option.{slice_get_within, get_or_from_slice_get}
use Rattle.std.proofs.lemmas.List.{drop_all}
use Rattle.bus_strings.proofs.ListLaws.{drop_read}
use Rattle.bus_text.specs.AllOf.{◌>>=◌}
use Rattle.bus_strings.specs.Items.{Item}
use Rattle.bus_table.specs.declared.fit.FitError.{FitError}
use Rattle.bus_table.specs.declared.fit.FitError.TheVariants as fit
use Rattle.bus_table.specs.Fits.{allows, has_shape, sender_of, shape_fit, item_fit, fit_from, items_fit}
use Rattle.bus_table.specs.declared.line.SendLine.{SendLine}
use Rattle.bus_table.specs.Tables.{Sender, Table}
use Rattle.bus_diagnosis.specs.Misfits.{Misfit, Strings, Words, words_misfit, shape_misfit, sender_misfit, misfit_of, item_number, nobody, unfit_at}
use Rattle.bus_diagnosis.specs.Whys.{IsWhy, IsMisfit, IsFirstUnfit}

-- ---- which item
-- whether item k has the shape of its sender
abbrev shaped : ℕ → Bool → Result (Unit {0}) FitError
shaped k b = if b then Ok tt else Err (fit.Shape k)

-- item k is told as item k
shape_number : (k : ℕ) (found : Option Sender) (strings : List (List ℕ)) (e : FitError) → shape_fit k found strings ≡ Err e → item_number e ≡ k
shape_number k None strings e h = let told : e ≡ fit.Stranger k = cc in ap item_number told
shape_number k (Some sender) strings e h = by (has_shape sender.sends strings) h where
  by : (b : Bool) → shaped k b ≡ Err e → item_number e ≡ k
  by true q = absurd cc
  by false q = let told : e ≡ fit.Shape k = cc in ap item_number told

-- The item at place j is the first that doesn't fit, the first of all being item k.
pub record IsFound (k : ℕ) (senders : List Sender) (items : List Item) (e : FitError) : Type 0 where
  pub place : ℕ
  pub number : item_number e ≡ k + place
  pub item : Item
  pub there : slice_get items place ≡ Some item
  pub before : IsOk (fit_from k senders (take place items))
  pub refused : item_fit (k + place) senders item ≡ Err e

pub found : (k : ℕ) (senders : List Sender) (items : List Item) (e : FitError) → fit_from k senders items ≡ Err e → IsFound k senders items e
found k senders [] e h = absurd cc
found k senders (item ∷ items) e h = by (item_fit k senders item) refl (found (k + 1) senders items e) where
  by : (r : Result (Unit {0}) FitError) → item_fit k senders item ≡ r
      → (fit_from (k + 1) senders items ≡ Err e → IsFound (k + 1) senders items e) → IsFound k senders (item ∷ items) e
  by (Ok u) q later =
      let f = later (sym (ap (λ (r : Result (Unit {0}) FitError). r >>= λ _. fit_from (k + 1) senders items) q) ∙ h) in
      let one : k + 1 + f.place ≡ k + suc f.place = omega arith in
      record {
        place = suc f.place;
        number = f.number ∙ one;
        item = f.item;
        there = f.there;
        before = subst IsOk (sym (ap (λ (r : Result (Unit {0}) FitError). r >>= λ _. fit_from (k + 1) senders (take f.place items)) q)) f.before;
        refused = subst (λ n. item_fit n senders f.item ≡ Err e) one f.refused;
      }
  by (Err why) q later =
      let same : why ≡ e = let told : Err why ≡ Err e = sym (ap (λ (r : Result (Unit {0}) FitError). r >>= λ _. fit_from (k + 1) senders items) q) ∙ h in cc in
      let here : item_fit k senders item ≡ Err e = q ∙ ap Err same in
      let none : k ≡ k + 0 = omega arith in
      record {
        place = 0;
        number = shape_number k (sender_of senders item.terminal) item.strings e here ∙ none;
        item = item;
        there = refl;
        before = refl;
        refused = subst (λ n. item_fit n senders item ≡ Err e) none here;
      }

-- the number of an item that is told is that of one of the items
pub number_within : (table : Table) (items : List Item) (e : FitError) → items_fit table items ≡ Err e → (1 ≤ item_number e) × (item_number e ≤ length items)
number_within table items e h =
    let f = found 1 table.senders items e h in
    (omega (arith, f.number), omega (arith, f.number, slice_get_within items f.place f.item f.there))

-- ---- why
-- The first wordstring with too many or too few data words, the first of all being wordstring k.
record IsWrongAt (count k : ℕ) (sends : List SendLine) (strings : List (List ℕ)) : Type 0 where
  place : ℕ
  line : SendLine
  string : List ℕ
  told : words_misfit count k sends strings ≡ Words (k + place) (length string) line.least line.most
  line_at : slice_get sends place ≡ Some line
  string_at : slice_get strings place ≡ Some string
  refused : allows line (length string) ≡ false

wrong_at : (count k : ℕ) (sends : List SendLine) (strings : List (List ℕ)) → length strings ≡ length sends → has_shape sends strings ≡ false
    → IsWrongAt count k sends strings
wrong_at count k [] [] same h = absurd cc
wrong_at count k [] (string ∷ strings) same h = absurd (omega (arith, same))
wrong_at count k (line ∷ sends) [] same h = absurd (omega (arith, same))
wrong_at count k (line ∷ sends) (string ∷ strings) same h = by (allows line (length string)) refl (wrong_at count (k + 1) sends strings) where
  told : Bool → Misfit
  told b = cond b (words_misfit count (k + 1) sends strings) (Words k (length string) line.least line.most)

  by : (b : Bool) → allows line (length string) ≡ b
      → (length strings ≡ length sends → has_shape sends strings ≡ false → IsWrongAt count (k + 1) sends strings)
      → IsWrongAt count k (line ∷ sends) (string ∷ strings)
  by true q later =
      let rest : has_shape sends strings ≡ false = sym (ap (λ b. b && has_shape sends strings) q) ∙ h in
      let w = later (omega (arith, same)) rest in
      let one : k + 1 + w.place ≡ k + suc w.place = omega arith in
      record {
        place = suc w.place;
        line = w.line;
        string = w.string;
        told = ap told q ∙ w.told ∙ ap (λ n. Words n (length w.string) w.line.least w.line.most) one;
        line_at = w.line_at;
        string_at = w.string_at;
        refused = w.refused;
      }
  by false q later =
      let none : k ≡ k + 0 = omega arith in
      record {
        place = 0;
        line = line;
        string = string;
        told = ap told q ∙ ap (λ n. Words n (length string) line.least line.most) none;
        line_at = refl;
        string_at = refl;
        refused = q;
      }

-- wordstrings that aren't those of the lines aren't for the reason that is told
why_shape : (sender : Sender) (item : Item) → has_shape sender.sends item.strings ≡ false → IsWhy sender item (shape_misfit sender.sends item.strings)
why_shape sender item h = by (length item.strings == length sender.sends) refl where
  by : (b : Bool) → (length item.strings == length sender.sends) ≡ b
      → IsWhy sender item (cond b (words_misfit (length item.strings) 1 sender.sends item.strings) (Strings (length item.strings) (length sender.sends)))
  by true q =
      let w = wrong_at (length item.strings) 1 sender.sends item.strings (eqb-true (length item.strings) (length sender.sends) q) h in
      let back : 1 + w.place - 1 ≡ w.place = omega arith in
      subst (IsWhy sender item) (sym w.told)
      (record {
        line = w.line;
        word_list = w.string;
        line_at = ap (slice_get sender.sends) back ∙ w.line_at;
        string_at = ap (slice_get item.strings) back ∙ w.string_at;
        words_are = refl;
        least_is = refl;
        most_is = refl;
        refused = w.refused;
      })
  by false q = (refl, refl, λ same. let wrong : true ≡ false = sym (eq-eqb (length item.strings) (length sender.sends) same) ∙ q in absurd cc)

-- an item that doesn't fit doesn't for the reason that is told
why_item : (table : Table) (k : ℕ) (item : Item) (e : FitError) → item_fit k table.senders item ≡ Err e → IsMisfit table item (misfit_of table item)
why_item table k item e h = by (sender_of table.senders item.terminal) refl h where
  by : (found : Option Sender) → sender_of table.senders item.terminal ≡ found → shape_fit k found item.strings ≡ Err e
      → IsMisfit table item (sender_misfit found item.strings)
  by None q f = inl (refl, q)
  by (Some sender) q f = inr (sender, q, why_shape sender item (wrong (has_shape sender.sends item.strings) f)) where
    wrong : (b : Bool) → shaped k b ≡ Err e → b ≡ false
    wrong true g = absurd cc
    wrong false g = refl

-- ---- both
-- what is told of items that don't all fit is the first that doesn't, and why
pub first_unfit : (table : Table) (text : List ℕ) (before : ℕ) (items : List Item) (e : FitError) → items_fit table items ≡ Err e
    → IsFirstUnfit table items (unfit_at table text before items (item_number e))
first_unfit table text before items e h =
    let f = found 1 table.senders items e h in
    let back : item_number e - 1 ≡ f.place = omega (arith, f.number) in
    let at : get_or items (item_number e - 1) nobody ≡ f.item = ap (λ n. get_or items n nobody) back ∙ get_or_from_slice_get items f.place f.item nobody f.there in
    record {
      item = f.item;
      there = ap (slice_get items) back ∙ f.there;
      before = subst (λ n. IsOk (items_fit table (take n items))) (sym back) f.before;
      terminal = ap (λ (i : Item). i.terminal) at;
      why = subst (IsMisfit table f.item) (sym (ap (misfit_of table) at)) (why_item table (1 + f.place) f.item e f.refused);
    }

-- ---- the loop over wordstrings
-- one SEND line and its wordstring
pub words_step : (count n : ℕ) (sends : List SendLine) (strings : List (List ℕ)) (k : ℕ) (line : SendLine) (string : List ℕ) → k < length sends → k < length strings
    → line ≡ get_or sends k line → string ≡ get_or strings k string
    → words_misfit count n (drop k sends) (drop k strings)
    ≡ cond (allows line (length string)) (words_misfit count (n + 1) (drop (k + 1) sends) (drop (k + 1) strings)) (Words n (length string) line.least line.most)
words_step count n sends strings k line string h m e f =
    ap (λ ls. words_misfit count n ls (drop k strings)) (drop_read sends k line h e)
    ∙ ap (λ ss. words_misfit count n (line ∷ drop (k + 1) sends) ss) (drop_read strings k string m f)

-- none is left
pub words_end : (count n : ℕ) (sends : List SendLine) (strings : List (List ℕ)) (k : ℕ) → length sends ≤ k
    → words_misfit count n (drop k sends) (drop k strings) ≡ Strings count count
words_end count n sends strings k h = ap (λ ls. words_misfit count n ls (drop k strings)) (drop_all k sends h)

-- with as many wordstrings as lines
pub shape_same : (sends : List SendLine) (strings : List (List ℕ)) → length strings ≡ length sends
    → shape_misfit sends strings ≡ words_misfit (length strings) 1 sends strings
shape_same sends strings h =
    ap (λ b. cond b (words_misfit (length strings) 1 sends strings) (Strings (length strings) (length sends))) (eq-eqb (length strings) (length sends) h)
