-- A walk over a list draws the timers of a sender.
use Rattle.std.proofs.Common.{◌≡◌, ℕ, zero, suc, ◌+◌, ◌<◌, ◌≤◌, Bool, cond, List, [], ◌∷◌, ◌++◌, length, take, Option, Some, None, append-nil, append_assoc, inl, inr, arith, refl, sym, ap, subst, ◌∙◌}
use Rattle.std.specs.Prelude.{slice_get}
use Rattle.std.specs.List.{AllByRecursion, flat_map}
use Rattle.std.proofs.lemmas.Bool.{cases_lt, lt-ltb, le-ltb}
use Rattle.std.proofs.lemmas.List.{length-take, take_all, take_more}
use Rattle.std.proofs.lemmas.List.Sums.{fold-append}
use Rattle.std.proofs.lemmas.Option.{get_or_from_slice_get}
use Rattle.bus_strings.proofs.ListLaws.{flat_map-push}
use Rattle.bus_strings.proofs.OverlapLemmas.{ordered_before}
use Rattle.bus_strings.specs.Messages.{Entry}
use Rattle.bus_strings.specs.Transmissions.{IsByMoment}
use Rattle.bus_pen.specs.declared.scale.Scale.{Scale}
use Rattle.bus_shapes.specs.declared.sent.Sent.{Sent}
use Rattle.bus_shapes.specs.Sending.{sent_of, sents, sents_from}
use Rattle.bus_picture.specs.Gaps.{Heard, heard_all, heard_more, heard_next, heard_of, is_first, settled}
use Rattle.bus_picture.specs.Intervals.{last_start, next_start}
use Rattle.bus_picture.specs.Timers.{LaneTimings, sender_timers, timers_at, timers_behind}
use Rattle.bus_picture.specs.inside.Starting.{Hearing, Hears, deaf, drawn_first, hear, last_text, next_text, Covers}
use Rattle.bus_picture.proofs.HeardLemmas.{all_heard}

-- ---- what is heard
all_less : (t u : ℕ) (p : List Entry) → t < u → AllByRecursion (λ (y : Entry). y.moment ≤ t) p → AllByRecursion (λ (y : Entry). y.moment < u) p
all_less t u [] less low = tt
all_less t u (y ∷ p) less low = (let l : y.moment ≤ t = low.0 in omega arith, all_less t u p less low.1)

all_push : (t : ℕ) (p : List Entry) (x : Entry) → AllByRecursion (λ (y : Entry). y.moment ≤ t) p → x.moment ≤ t → AllByRecursion (λ (y : Entry). y.moment ≤ t) (p ++ x ∷ [])
all_push t [] x low here = (here, tt)
all_push t (y ∷ p) x low here = (low.0, all_push t p x low.1 here)

last_of_push : (t : ℕ) (p : List Entry) (x : Entry) → AllByRecursion (λ (y : Entry). y.moment ≤ t) (p ++ x ∷ []) → x.moment ≤ t
last_of_push t [] x low = low.0
last_of_push t (y ∷ p) x low = last_of_push t p x low.1

pub hears_none : (q sg n : ℕ) → Hears q sg n [] (deaf sg)
hears_none q sg n = record { all = refl; before = refl; low = tt; last = λ t low. omega arith; moment = refl }

module _ (q sg n : ℕ) (p : List Entry) (h : Hearing) (x : Entry) (known : Hears q sg n p h) (order : AllByRecursion (λ (y : Entry). y.moment ≤ x.moment) p) where
  -- What began before it is what is heard before its moment.
  pub hears_before : (hear q sg n h x).before ≡ heard_of q sg n x.moment p
  hears_before =
      elim (cases_lt h.moment x.moment) [
        | inl less ↦
            ap (λ b. cond b h.all h.before) (lt-ltb h.moment x.moment less) ∙ known.all
            ∙ all_heard q sg n x.moment (settled sg) p (all_less h.moment x.moment p less known.low)
        | inr more ↦
            let low : h.moment ≤ x.moment = known.last x.moment order in
            let same : h.moment ≡ x.moment = omega arith in
            ap (λ b. cond b h.all h.before) (le-ltb h.moment x.moment more) ∙ known.before ∙ ap (λ t. heard_of q sg n t p) same
      ]

  pub hears_more : Hears q sg n (p ++ x ∷ []) (hear q sg n h x)
  hears_more = record {
    all = ap (λ a. heard_more q sg n a x) known.all ∙ sym (fold-append (heard_more q sg n) (settled sg) p (x ∷ []));
    before = hears_before
        ∙ ap (λ b. cond b (heard_more q sg n (heard_of q sg n x.moment p) x) (heard_of q sg n x.moment p)) (sym (le-ltb x.moment x.moment (omega arith)))
        ∙ sym (fold-append (heard_next q sg n x.moment) (settled sg) p (x ∷ []));
    low = all_push x.moment p x order (omega arith);
    last = λ t low. last_of_push t p x low;
    moment = sym (fold-append (λ t (y : Entry). y.moment) 0 p (x ∷ []));
  }

pub within_list : (k : ℕ) (list : List Entry) (x : Entry) → slice_get list k ≡ Some x → k < length list
within_list k [] x at = absurd (let h : None ≡ Some x = at in cc)
within_list zero (y ∷ list) x at = omega arith
within_list (suc k) (y ∷ list) x at = omega (arith, within_list k list x at)

-- The first k + 1 of a list are the first k, and entry k.
pub take_next : (k : ℕ) (list : List Entry) (x : Entry) → slice_get list k ≡ Some x → take (k + 1) list ≡ take k list ++ x ∷ []
take_next k list x at =
    take_more list k x (within_list k list x at) ∙ ap (λ (z : Entry). take k list ++ z ∷ []) (get_or_from_slice_get list k x x at)

-- The same of a list of which the first k are heard.
pub hears_next : (q sg n k : ℕ) (list : List Entry) (h : Hearing) (x : Entry) → IsByMoment list → slice_get list k ≡ Some x → Hears q sg n (take k list) h
    → ((hear q sg n h x).before ≡ heard_of q sg n x.moment (take k list)) × Hears q sg n (take (k + 1) list) (hear q sg n h x)
hears_next q sg n k list h x rises at known =
    let order : AllByRecursion (λ (y : Entry). y.moment ≤ x.moment) (take k list) = ordered_before (λ (y z : Entry). y.moment ≤ z.moment) list k x rises at in
    (hears_before q sg n (take k list) h x known order, subst (λ (l : List Entry). Hears q sg n l (hear q sg n h x)) (sym (take_next k list x at)) (hears_more q sg n (take k list) h x known order))

-- ---- what is written
pub told_push : (list : List Entry) (j : ℕ) (xs : List Entry) (x : Entry)
    → sents_from list j (xs ++ x ∷ []) ≡ sents_from list j xs ++ sent_of list (j + length xs) x ∷ []
told_push list j [] x = ap (λ k. sent_of list k x ∷ []) (let z : j ≡ j + 0 = omega arith in z)
told_push list j (y ∷ xs) x =
    ap (λ (l : List Sent). sent_of list j y ∷ l) (told_push list (j + 1) xs x
    ∙ ap (λ k. sents_from list (j + 1) xs ++ sent_of list k x ∷ []) (let z : j + 1 + length xs ≡ j + suc (length xs) = omega arith in z))

-- What is drawn at the first transmissions of a list, with one more.
pub drawn_more : (scale : Scale) (list : List Entry) (timings : LaneTimings) (k : ℕ) (x : Entry) → slice_get list k ≡ Some x
    → drawn_first scale list timings (k + 1) ≡ drawn_first scale list timings k ++ timers_at scale list timings (sent_of list k x)
drawn_more scale list timings k x at =
    let within : k < length list = within_list k list x at in
    let long : 0 + length (take k list) ≡ k = omega (arith, length-take k list) in
    ap (λ (l : List Entry). flat_map (timers_at scale list timings) (sents_from list 0 l)) (take_next k list x at)
    ∙ ap (flat_map (timers_at scale list timings)) (told_push list 0 (take k list) x)
    ∙ flat_map-push (timers_at scale list timings) (sents_from list 0 (take k list)) (sent_of list (0 + length (take k list)) x)
    ∙ ap (λ n. drawn_first scale list timings k ++ timers_at scale list timings (sent_of list n x)) long

-- The last start, with one transmission more.
pub last_more : (n k : ℕ) (list : List Entry) (last : Option ℕ) (x : Entry) → slice_get list k ≡ Some x → last ≡ last_start n (take k list)
    → next_start n last x ≡ last_start n (take (k + 1) list)
last_more n k list last x at is =
    ap (λ (o : Option ℕ). next_start n o x) is
    ∙ sym (ap (last_start n) (take_next k list x at) ∙ fold-append (next_start n) None (take k list) (x ∷ []))

-- What is written at a transmission is what is drawn there.
pub next_drawn : (scale : Scale) (list : List Entry) (timings : LaneTimings) (last : Option ℕ) (first : Bool) (heard : Heard) (k : ℕ) (x : Entry)
    → last ≡ last_start timings.terminal (take k list) → first ≡ is_first list (sent_of list k x)
    → heard ≡ heard_of timings.quiet timings.sg timings.terminal x.moment (take k list)
    → next_text scale timings last first heard x ≡ timers_at scale list timings (sent_of list k x)
next_drawn scale list timings last first heard k x last_is first_is heard_is =
    ap (λ (o : Option ℕ). next_text scale timings o first heard x) last_is
    ∙ ap (λ b. next_text scale timings (last_start timings.terminal (take k list)) b heard x) first_is
    ∙ ap (λ (h : Heard). next_text scale timings (last_start timings.terminal (take k list)) (is_first list (sent_of list k x)) h x) heard_is

-- What is written behind all is what is drawn there.
pub last_drawn : (scale : Scale) (list : List Entry) (timings : LaneTimings) (last : Option ℕ) (heard : Heard) (k : ℕ) → length list ≤ k
    → last ≡ last_start timings.terminal (take k list) → heard ≡ heard_all timings.quiet timings.sg timings.terminal (take k list)
    → drawn_first scale list timings k ++ last_text scale timings last heard ≡ sender_timers scale list timings
last_drawn scale list timings last heard k over last_is heard_is =
    let all : take k list ≡ list = take_all k list over in
    ap (λ (o : Option ℕ). drawn_first scale list timings k ++ last_text scale timings o heard) (last_is ∙ ap (last_start timings.terminal) all)
    ∙ ap (λ (h : Heard). drawn_first scale list timings k ++ last_text scale timings (last_start timings.terminal list) h)
    (heard_is ∙ ap (heard_all timings.quiet timings.sg timings.terminal) all)
    ∙ ap (λ (l : List Entry). flat_map (timers_at scale list timings) (sents_from list 0 l) ++ timers_behind scale list timings) all

-- ---- a walk over what is told of a list
pub covers_none : (text : List ℕ → Type 0) (of : Sent → List ℕ) (list : List Entry) (left : List Sent) → left ≡ sents list → text [] → Covers text of list left
covers_none text of list left all nothing = record { done = []; adds = nothing; rest = ap (flat_map of) all }

pub covers_more : (text text' : List ℕ → Type 0) (of : Sent → List ℕ) (list : List Entry) (left rest : List Sent) (x : Sent) → (w : Covers text of list left)
    → left ≡ x ∷ rest → text' (w.done ++ of x) → Covers text' of list rest
covers_more text text' of list left rest x w steps more = record {
  done = w.done ++ of x;
  adds = more;
  rest = append_assoc w.done (of x) (flat_map of rest) ∙ ap (λ (l : List Sent). w.done ++ flat_map of l) (sym steps) ∙ w.rest;
}

pub covers_all : (text : List ℕ → Type 0) (of : Sent → List ℕ) (list : List Entry) (left : List Sent) → (w : Covers text of list left) → left ≡ []
    → w.done ≡ flat_map of (sents list)
covers_all text of list left w none = sym (append-nil w.done) ∙ ap (λ (l : List Sent). w.done ++ flat_map of l) (sym none) ∙ w.rest
