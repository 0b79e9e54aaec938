-- A stretch of the bus, in which the carrier stays as it is.
use Rattle.std.proofs.Common.{◌≡◌, ℕ, zero, suc, ◌+◌, ◌<◌, ◌≤◌, Bool, List, [], ◌∷◌, ◌++◌, length, map, replicate, inl, inr, arith, sym, refl, ap, ◌∙◌, subst, append_assoc}
use Rattle.std.specs.Option.{option_and_then}
use Rattle.std.proofs.lemmas.List.{append-nil, replicate_more}
use Rattle.std.proofs.lemmas.Option.{slice_get_within}
use Rattle.bus_timers.specs.declared.cores.Core.{Ghosts}
use Rattle.bus_strings.specs.Members.{In}
use Rattle.bus_strings.specs.Messages.{Entry}
use Rattle.bus_strings.specs.Transmissions.{carrier}
use Rattle.bus_strings.proofs.ListLaws.{some_at}
use Rattle.bus_medium.specs.Terminals.{Terminal, last_begun}
use Rattle.bus_medium.specs.MessageStretches.{later_place}
use Rattle.bus_medium.specs.Past.{past, own}
use Rattle.bus_medium.specs.Lawful.{Station, IsBefore, IsLawfulTo}
use Rattle.bus_medium.specs.Buses.{Seat, station_of, number_of}
use Rattle.bus_medium.specs.inside.Following.{Follows, AllFollow}
use Rattle.bus_medium.specs.Jumps.{Each}
use Rattle.bus_medium.specs.inside.Lasting.{PassedMany}
use Rattle.bus_medium.proofs.PastLaws.{own_after, past_push, own_push_other}
use Rattle.bus_medium.proofs.Following.{follows_later}

pub begun_by : (u n t : ℕ) → IsBefore u n t 0 → u < t
begun_by u n t (inl less) = less
begun_by u n t (inr now) = let h : n < 0 = now.1 in absurd (omega arith)

pub past_steady : (q : ℕ) (l : List Entry) (t : ℕ) (c : Bool) (n : ℕ) → ((k : ℕ) → k < n → carrier l (t + k) ≡ c) → past q l (t + n) ≡ past q l t ++ replicate n c
past_steady q l t c zero h = ap (past q l) (let e : t + 0 ≡ t = omega arith in e) ∙ sym (append-nil (past q l t))
past_steady q l t c (suc n) h =
    ap (past q l) (let e : t + suc n ≡ suc (t + n) = omega arith in e)
    ∙ ap (λ b. past q l (t + n) ++ b ∷ []) (h n (omega arith))
    ∙ ap (λ p. p ++ c ∷ []) (past_steady q l t c n (λ k below. h k (omega arith)))
    ∙ append_assoc (past q l t) (replicate n c) (c ∷ [])
    ∙ ap (λ w. past q l t ++ w) (replicate_more n c ∙ ap (λ i. replicate i c) (let e : n + 1 ≡ suc n = omega arith in e))

-- nobody begins behind moment t, so what is own stays
pub own_steady : (q : ℕ) (ss : List Station) (l : List Entry) (t n number : ℕ) → 1 ≤ n → IsLawfulTo q ss (t + 1) 0 l → own l number (t + n) ≡ own l number (t + 1)
own_steady q ss l t n number some law = own_after l number (t + 1) (t + n) (λ x i. begun_by x.moment x.terminal (t + 1) (law.sent x i).0) (omega arith)

pub all_later : {C : Type 0} (core : Ghosts C) (quiet t n : ℕ) (c : Bool) (ys zs : List (Seat C)) (l : List Entry) → 1 ≤ n → Each (PassedMany core c n) ys zs → IsLawfulTo quiet (map station_of ys) (t + 1) 0 l → AllFollow core quiet ys l t (t + 1)
    → past quiet l (t + n) ≡ past quiet l t ++ replicate n c → AllFollow core quiet zs l (t + n) (t + n)
all_later {C} core quiet t n c ys zs l some p law f pasts = λ j z z_at.
    let within : j < length zs = slice_get_within zs j z z_at in
    let len : length zs ≡ length ys = p.same_length in
    let was = some_at ys j (omega arith) in
    let x : Seat C = was.0 in
    let q : PassedMany core c n x z = p.each j x z was.1 z_at in
    let made : Follows (core.stands z.terminal.core) quiet x.timing x.terminal.hand x.terminal.sent (option_and_then (later_place (last_begun x.terminal.hand x.terminal.sent) n) x.terminal.running) (past quiet l t ++ replicate n c) (own l (number_of x) (t + 1)) (t + n) =
    follows_later quiet x.timing x.terminal.hand x.terminal.sent x.terminal.running (past quiet l t) (own l (number_of x) (t + 1)) t n c (f j x was.1) q.told in
    let later : Follows (core.stands z.terminal.core) quiet x.timing x.terminal.hand x.terminal.sent (option_and_then (later_place (last_begun x.terminal.hand x.terminal.sent) n) x.terminal.running) (past quiet l (t + n)) (own l (number_of x) (t + n)) (t + n) =
    subst (λ w. Follows (core.stands z.terminal.core) quiet x.timing x.terminal.hand x.terminal.sent (option_and_then (later_place (last_begun x.terminal.hand x.terminal.sent) n) x.terminal.running) w (own l (number_of x) (t + n)) (t + n)) (sym pasts)
    (subst (λ w. Follows (core.stands z.terminal.core) quiet x.timing x.terminal.hand x.terminal.sent (option_and_then (later_place (last_begun x.terminal.hand x.terminal.sent) n) x.terminal.running) (past quiet l t ++ replicate n c) w (t + n)) (sym (own_steady quiet (map station_of ys) l t n (number_of x) some law)) made) in
    subst (λ w. Follows (core.stands z.terminal.core) quiet w z.terminal.hand z.terminal.sent z.terminal.running (past quiet l (t + n)) (own l (number_of z) (t + n)) (t + n)) (sym q.timing)
    (subst (λ (w : Terminal C). Follows (core.stands z.terminal.core) quiet x.timing w.hand w.sent w.running (past quiet l (t + n)) (own l w.hand.terminal (t + n)) (t + n)) (sym q.terminal) later)

-- what is added at moment t changes nothing before it
pub grown_past : (q : ℕ) (l more : List Entry) (t : ℕ) → ((x : Entry) → In x more → x.moment ≡ t) → past q (l ++ more) t ≡ past q l t
grown_past q l [] t h = ap (λ w. past q w t) (append-nil l)
grown_past q l (y ∷ ys) t h =
    let at : y.moment ≡ t = h y (inl refl) in
    ap (λ w. past q w t) (sym (append_assoc l (y ∷ []) ys)) ∙ grown_past q (l ++ y ∷ []) ys t (λ x i. h x (inr i)) ∙ past_push q l y t (omega arith)

pub grown_own : (l more : List Entry) (n t : ℕ) → ((x : Entry) → In x more → x.moment ≡ t) → own (l ++ more) n t ≡ own l n t
grown_own l [] n t h = ap (λ w. own w n t) (append-nil l)
grown_own l (y ∷ ys) n t h =
    let at : y.moment ≡ t = h y (inl refl) in
    ap (λ w. own w n t) (sym (append_assoc l (y ∷ []) ys)) ∙ grown_own (l ++ y ∷ []) ys n t (λ x i. h x (inr i)) ∙ own_push_other l n t y (λ p. let k : y.moment < t = p.1 in omega arith)
