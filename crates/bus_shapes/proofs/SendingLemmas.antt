-- A walk that tells of the transmissions of a list.
use Rattle.std.proofs.Common.{◌≡◌, ℕ, suc, ◌+◌, ◌<◌, ◌≤◌, Bool, true, List, [], ◌∷◌, length, take, drop, get_or, set, max, Option, Some}
use Rattle.std.proofs.Common.{arith, sym, ap, ◌∙◌, drop-cons}
use Rattle.std.specs.Prelude.{slice_get}
use Rattle.std.specs.Bool.{beq}
use Rattle.std.specs.Iterator.{YieldsFirst}
use Rattle.std.specs.List.{count_by}
use Rattle.std.specs.Option.{option_eq}
use Rattle.std.proofs.lemmas.List.{get_or-set_same}
use Rattle.std.proofs.lemmas.Option.{slice_get_within, get_or_from_slice_get}
use Rattle.std.proofs.Math.ListN.{drop_of_length-le}
use Rattle.bus_strings.specs.Marking.{greatest_end}
use Rattle.bus_strings.specs.Messages.{Entry}
use Rattle.bus_strings.specs.Transmissions.{end_of, garbled}
use Rattle.bus_strings.proofs.CountLaws.{counted}
use Rattle.bus_strings.proofs.MarkLaws.{next_mark}
use Rattle.bus_strings.proofs.OverlapLemmas.{greatest_more}
use Rattle.bus_shapes.specs.Sayings.{Sent}
use Rattle.bus_shapes.specs.Sending.{IsTelling, is_of, sent_of, sents_from}

-- ---- what is kept
abbrev pub sent_with : ℕ → ℕ → ℕ → ℕ → ℕ → ℕ → Bool → Sent
sent_with at terminal number moment end before mark =
    record { at = at; terminal = terminal; number = number; moment = moment; end = end; before = before; garbled = mark }

same_sent : (at terminal terminal' number number' moment moment' end end' before before' : ℕ) (mark mark' : Bool) → terminal ≡ terminal' → number ≡ number' → moment ≡ moment'
    → end ≡ end' → before ≡ before' → mark ≡ mark' → sent_with at terminal number moment end before mark ≡ sent_with at terminal' number' moment' end' before' mark'
same_sent at terminal terminal' number number' moment moment' end end' before before' mark mark' t n m e b g =
    ap (λ k. sent_with at k number moment end before mark) t ∙ ap (λ k. sent_with at terminal' k moment end before mark) n
    ∙ ap (λ k. sent_with at terminal' number' k end before mark) m ∙ ap (λ k. sent_with at terminal' number' moment' k before mark) e
    ∙ ap (λ k. sent_with at terminal' number' moment' end' k mark) b ∙ ap (sent_with at terminal' number' moment' end' before') g

-- One entry is told of.
pub record Told (list : List Entry) (k terminal moment end before : ℕ) (counts : List ℕ) (mark : Bool) (left : List Bool) (x : Entry) : Type 0 where
  pub sent : sent_with k terminal (get_or counts terminal 0 + 1) moment end before mark ≡ sent_of list k x
  pub telling : IsTelling list (k + 1) (max before end) (set counts terminal (get_or counts terminal 0 + 1)) left

pub tell : (list : List Entry) (k terminal moment end before : ℕ) (counts : List ℕ) (left left' : List Bool) (r : Option Bool) (mark : Bool) (x : Entry)
    → IsTelling list k before counts left → slice_get list k ≡ Some x → x.terminal ≡ terminal → moment ≡ x.moment → end ≡ end_of x → terminal ≤ 128
    → length counts ≡ 129 → YieldsFirst (λ (s : List Bool). s) left r left' → mark ≡ option_eq beq r (Some true) → Told list k terminal moment end before counts mark left' x
tell list k terminal moment end before counts left left' r mark x t at own m e low long y is =
    let within : k < length list = slice_get_within list k x at in
    let next = next_mark list k left left' r mark within t.marks y is in
    let more = counted list counts k terminal x long low at own t.counted in
    let number : get_or counts terminal 0 + 1 ≡ count_by (is_of x.terminal) (take (k + 1) list) =
    sym (get_or-set_same counts terminal (get_or counts terminal 0 + 1) 0 (omega arith)) ∙ more terminal low
    ∙ ap (λ n. count_by (is_of n) (take (k + 1) list)) (sym own) in
    record {
      sent = same_sent k terminal x.terminal _ _ moment x.moment end (end_of x) before (greatest_end (take k list)) mark (garbled list k)
          (sym own) number m e t.ends next.0;
      telling = record {
        order = t.order;
        within = omega arith;
        ends = ap (λ n. max n end) t.ends ∙ ap (max (greatest_end (take k list))) e ∙ sym (greatest_more list k x at);
        counted = more;
        marks = next.1;
      };
    }

-- ---- what is left to be told
pub sents_more : (list : List Entry) (k : ℕ) (x : Entry) → slice_get list k ≡ Some x
    → sents_from list k (drop k list) ≡ sent_of list k x ∷ sents_from list (k + 1) (drop (k + 1) list)
sents_more list k x at =
    let within : k < length list = slice_get_within list k x at in
    let one : suc k ≡ k + 1 = omega arith in
    ap (sents_from list k) (drop-cons list k x within ∙ ap (λ y. y ∷ drop (suc k) list) (get_or_from_slice_get list k x x at))
    ∙ ap (λ n. sent_of list k x ∷ sents_from list (k + 1) (drop n list)) one

pub sents_end : (list : List Entry) (k : ℕ) → length list ≤ k → sents_from list k (drop k list) ≡ []
sents_end list k h = ap (sents_from list k) (drop_of_length-le list h)
