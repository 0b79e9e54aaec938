-- Walks that have room for a gap, or in which nothing was due.
use Rattle.std.specs.Prelude.{max, min, slice_get, slice_range, nat_le, not, ◌==◌, filter}
use Rattle.std.proofs.Common.{◌≡◌, ℕ, zero, suc, ◌+◌, ◌-◌, ◌<◌, ◌≤◌, ◌⊎◌, Bool, cond, List, [], ◌∷◌, ◌++◌, take, drop, Option, Some, None, inl, inr, arith, refl, ap, sym, subst, ◌∙◌}
use Rattle.std.proofs.lemmas.Bool.{cases_Bool, le-ltb, lt-leb}
use Rattle.std.proofs.lemmas.List.{drop-drop, map-append}
use Rattle.std.proofs.Math.Seq.{take-add}
use Rattle.bus_strings.specs.Members.{In}
use Rattle.bus_strings.specs.Messages.{Entry}
use Rattle.bus_strings.proofs.ListLaws.{drop_at, first_left}
use Rattle.bus_strings.proofs.MemberLaws.{in_append_left, in_append_right, in_append_cases, from_filter}
use Rattle.bus_bounds.specs.Bounds.{Bounds}
use Rattle.bus_recording.specs.Seen.{Seen, IsIn}
use Rattle.bus_recording.specs.Walk as walk
use Rattle.bus_findings.specs.Amounts.{greatest}
use Rattle.bus_findings.specs.Recorded.{seen, recorded}
use Rattle.bus_findings.specs.inside.Calm.{AreClose, HaveEnded, end_before}
use Rattle.bus_findings.specs.inside.Standing.{others_end}
use Rattle.bus_findings.proofs.AmountLemmas.{greatest_under, greatest_over, greatest_push}
use Rattle.bus_findings.proofs.HeardLemmas.{recorded_next}
use Rattle.bus_findings.proofs.PlaceLemmas.{take_split}
use Rattle.bus_findings.proofs.SeenLemmas.{is_in, recorded_is}
use Rattle.bus_findings.proofs.WalkLemmas.{in_front}

-- a part of a list at a place within it
pub part_split : {X : Type 0} (xs : List X) (a q i : ℕ) (x : X) → a ≤ q → q < i → slice_get xs q ≡ Some x
    → slice_range xs a i ≡ slice_range xs a q ++ x ∷ slice_range xs (q + 1) i
part_split xs a q i x low high at =
    let all : i - a ≡ (q - a) + (i - q) = omega (arith, low, high) in
    let rest : i - q ≡ suc (i - (q + 1)) = omega (arith, high) in
    let up : a + (q - a) ≡ q = omega (arith, low) in
    ap (λ n. take n (drop a xs)) all ∙ take-add (q - a) (i - q) (drop a xs)
    ∙ ap (λ l. take (q - a) (drop a xs) ++ take (i - q) l) (drop-drop (q - a) a xs ∙ ap (λ n. drop n xs) up ∙ drop_at xs q x at)
    ∙ ap (λ n. take (q - a) (drop a xs) ++ take n (x ∷ drop (q + 1) xs)) rest

-- ---- room for the synchronization gap

-- the longest stretch is no shorter than one of them
room_at : (reach tg start end : ℕ) → (a : ℕ) (front : List Seen) (r : Seen) (rest : List Seen) → a ≤ end
    → ((q : Seen) → IsIn q front → q.soonest ≤ end)
    → min (r.moment + reach) (start - tg) - end ≤ walk.longest_room reach tg start a (front ++ r ∷ rest)
room_at reach tg start end a [] r rest low over = omega (arith, low)
room_at reach tg start end a (q ∷ front) r rest low over =
    let here : q.soonest ≤ end = over q (inl refl) in
    let more : min (r.moment + reach) (start - tg) - end ≤ walk.longest_room reach tg start (max a q.soonest) (front ++ r ∷ rest) =
    room_at reach tg start end (max a q.soonest) front r rest (omega (arith, low, here)) (λ s i. over s (inr i)) in
    omega (arith, more)

pub room_within : (bounds : Bounds) (list : List Entry) (reach tg start end a : ℕ) (place q i : ℕ) (o x : Entry) → slice_get list place ≡ Some o
    → slice_get list q ≡ Some x → place < q → q < i → a ≤ end → HaveEnded bounds list q end
    → min (x.moment + reach) (start - tg) - end ≤ walk.longest_room reach tg start a (recorded bounds (slice_range list (place + 1) i))
room_within bounds list reach tg start end a place q i o x there at low high from ended =
    let split = ap (recorded bounds) (part_split list (place + 1) q i x (omega (arith, low)) high at)
    ∙ map-append (seen bounds) (slice_range list (place + 1) q) (x ∷ slice_range list (q + 1) i) in
    let over : (s : Seen) → IsIn s (recorded bounds (slice_range list (place + 1) q)) → s.soonest ≤ end = λ s inside.
    (let w = recorded_is bounds (slice_range list (place + 1) q) s inside in
    let e : (seen bounds w.0).soonest ≡ s.soonest = ap (λ (t : Seen). t.soonest) w.2 in
    let h : (seen bounds w.0).soonest ≤ end = ended w.0 (in_front list place q o w.0 there low w.1) in
    omega (arith, e, h)) in
    let told = room_at reach tg start end a (recorded bounds (slice_range list (place + 1) q)) (seen bounds x)
    (recorded bounds (slice_range list (q + 1) i)) from over in
    subst (λ l. min (x.moment + reach) (start - tg) - end ≤ walk.longest_room reach tg start a l) (sym split) told

-- ---- no moment at which all timers were over

-- each stretch of the walk is shorter than a gap
abbrev pub AreNarrow : ℕ → ℕ → ℕ → List Seen → Type 0
AreNarrow rest gap c [] = Unit {0}
AreNarrow rest gap c (r ∷ l) = (r.moment < c + gap) × AreNarrow rest gap (max c (r.latest + rest)) l

-- where the walk's last stretch begins
abbrev pub walk_end : ℕ → ℕ → List Seen → ℕ
walk_end rest c [] = c
walk_end rest c (r ∷ l) = walk_end rest (max c (r.latest + rest)) l

not_elapsed : (sg c m : ℕ) → m < c + sg → walk.elapsed_by sg c m None ≡ None
not_elapsed sg c m less = rw (lt-leb (c + sg) m less) refl

not_due : (tg over start c m : ℕ) → (e : Option ℕ) → m < c + tg → walk.due_in tg over start c m e ≡ None
not_due tg over start c m None less = refl
not_due tg over start c m (Some e) less = rw (lt-leb (max over (max (e + tg) (c + tg))) m (omega (arith, less))) refl

-- the start itself is no moment before it
last_not_due : (tg over start c : ℕ) → (e : Option ℕ) → start ≤ c + tg → walk.due_in tg over start c start e ≡ None
last_not_due tg over start c None low = refl
last_not_due tg over start c (Some e) low =
    elim (cases_Bool (nat_le (max over (max (e + tg) (c + tg))) start)) [
      | inl holds ↦ rw holds (rw (le-ltb (max over (max (e + tg) (c + tg))) start (omega (arith, low))) refl)
      | inr fails ↦ rw fails refl
    ]

-- in short stretches the synchronization gap doesn't elapse
front_passes : (rest sg tg over start : ℕ) → (c : ℕ) (front l : List Seen) → AreNarrow rest sg c front
    → walk.first_due rest sg tg over start c None (front ++ l) ≡ walk.first_due rest sg tg over start (walk_end rest c front) None l
front_passes rest sg tg over start c [] l narrow = refl
front_passes rest sg tg over start c (r ∷ front) l narrow =
    ap (λ e. walk.first_of (walk.due_in tg over start c r.moment e) (walk.first_due rest sg tg over start (max c (r.latest + rest)) e (front ++ l)))
    (not_elapsed sg c r.moment narrow.0)
    ∙ front_passes rest sg tg over start (max c (r.latest + rest)) front l narrow.1

-- and in stretches that are shorter than the terminal gap nothing is due
rest_passes : (rest sg tg over start : ℕ) → (c : ℕ) (e : Option ℕ) (l : List Seen) → AreNarrow rest tg c l → start ≤ walk_end rest c l + tg
    → walk.first_due rest sg tg over start c e l ≡ None
rest_passes rest sg tg over start c e [] narrow last = last_not_due tg over start c (walk.elapsed_by sg c start e) last
rest_passes rest sg tg over start c e (r ∷ l) narrow last =
    let u : Option ℕ = walk.elapsed_by sg c r.moment e in
    ap (λ d. walk.first_of d (walk.first_due rest sg tg over start (max c (r.latest + rest)) u l)) (not_due tg over start c r.moment u narrow.0)
    ∙ rest_passes rest sg tg over start (max c (r.latest + rest)) u l narrow.1 last

-- nor in one that ends before the interval is over, or that has no room for both gaps
here_passes : (tg over start c m sg : ℕ) → (m < over) ⊎ (m < c + sg + tg) → (e : Option ℕ) → walk.elapsed_by sg c m None ≡ e
    → walk.due_in tg over start c m e ≡ None
here_passes tg over start c m sg short None is = refl
here_passes tg over start c m sg short (Some e) is =
    elim (cases_Bool (nat_le (c + sg) m)) [
      | inr fails ↦ (let w : None ≡ Some e = sym (ap (λ b. let v : Option ℕ = cond b (Some (c + sg)) None in v) fails) ∙ is in absurd cc)
      | inl holds ↦
          let w : Some (c + sg) ≡ Some e = sym (ap (λ b. let v : Option ℕ = cond b (Some (c + sg)) None in v) holds) ∙ is in
          let same : c + sg ≡ e = cc in
          let high : m < max over (max (e + tg) (c + tg)) = elim short [ inl a ↦ omega (arith, a) | inr b ↦ omega (arith, b, same) ] in
          rw (lt-leb (max over (max (e + tg) (c + tg))) m high) refl
    ]

pub none_due : (rest sg tg over start c : ℕ) (front : List Seen) (r : Seen) (l : List Seen) → AreNarrow rest sg c front
    → (r.moment < over) ⊎ (r.moment < walk_end rest c front + sg + tg) → AreNarrow rest tg (max (walk_end rest c front) (r.latest + rest)) l
    → start ≤ walk_end rest (max (walk_end rest c front) (r.latest + rest)) l + tg
    → walk.first_due rest sg tg over start c None (front ++ r ∷ l) ≡ None
none_due rest sg tg over start c front r l before short behind last =
    let d : ℕ = walk_end rest c front in
    let e : Option ℕ = walk.elapsed_by sg d r.moment None in
    front_passes rest sg tg over start c front (r ∷ l) before
    ∙ ap (λ t. walk.first_of t (walk.first_due rest sg tg over start (max d (r.latest + rest)) e l)) (here_passes tg over start d r.moment sg short e refl)
    ∙ rest_passes rest sg tg over start (max d (r.latest + rest)) e l behind last

-- before the interval is over nothing is due
early_not_due : (tg over start c m : ℕ) → start ≤ over → (e : Option ℕ) → walk.due_in tg over start c m e ≡ None
early_not_due tg over start c m low None = refl
early_not_due tg over start c m low (Some e) =
    elim (cases_Bool (nat_le (max over (max (e + tg) (c + tg))) m)) [
      | inl holds ↦ rw holds (rw (le-ltb (max over (max (e + tg) (c + tg))) start (omega (arith, low))) refl)
      | inr fails ↦ rw fails refl
    ]

pub none_before : (rest sg tg over start : ℕ) → start ≤ over → (c : ℕ) (e : Option ℕ) (l : List Seen)
    → walk.first_due rest sg tg over start c e l ≡ None
none_before rest sg tg over start low c e [] = early_not_due tg over start c start low (walk.elapsed_by sg c start e)
none_before rest sg tg over start low c e (r ∷ l) =
    let u : Option ℕ = walk.elapsed_by sg c r.moment e in
    ap (λ d. walk.first_of d (walk.first_due rest sg tg over start (max c (r.latest + rest)) u l)) (early_not_due tg over start c r.moment low u)
    ∙ none_before rest sg tg over start low (max c (r.latest + rest)) u l

-- ---- from places to the walk

-- with one more, the ends before it
end_next : (bounds : Bounds) (list : List Entry) (a : ℕ) (x : Entry) → slice_get list a ≡ Some x
    → end_before bounds list (a + 1) ≡ max (end_before bounds list a) (seen bounds x).latest
end_next bounds list a x at =
    ap (greatest (λ r. r.latest)) (recorded_next bounds list a x at) ∙ greatest_push (λ r. r.latest) (recorded bounds (take a list)) (seen bounds x)

narrow_here : (bounds : Bounds) (list : List Entry) (rest gap n a c : ℕ) → end_before bounds list a ≤ c → AreClose bounds list gap a (a + suc n)
    → ((x : Entry) → slice_get list a ≡ Some x → AreNarrow rest gap (max c ((seen bounds x).latest + rest)) (recorded bounds (take n (drop (a + 1) list))))
    → (l : List Entry) → drop a list ≡ l → AreNarrow rest gap c (recorded bounds (take (suc n) l))
narrow_here bounds list rest gap n a c covers close behind [] is = tt
narrow_here bounds list rest gap n a c covers close behind (x ∷ l) is =
    let at : slice_get list a ≡ Some x = sym (first_left list a) ∙ ap (λ t. slice_get t 0) is in
    let near : x.moment < end_before bounds list a + gap = close a x (omega arith) (omega arith) at in
    let tail : drop (a + 1) list ≡ l = sym (drop-drop 1 a list) ∙ ap (drop 1) is in (
      omega (arith, near, covers),
      subst (λ t. AreNarrow rest gap (max c ((seen bounds x).latest + rest)) (recorded bounds (take n t))) tail (behind x at),
    )

narrow_part : (bounds : Bounds) (list : List Entry) (rest gap : ℕ) → (n a c : ℕ) → end_before bounds list a ≤ c → AreClose bounds list gap a (a + n)
    → AreNarrow rest gap c (recorded bounds (take n (drop a list)))
narrow_part bounds list rest gap zero a c covers close = tt
narrow_part bounds list rest gap (suc n) a c covers close =
    narrow_here bounds list rest gap n a c covers close
    (λ x at.
    let more : end_before bounds list (a + 1) ≡ max (end_before bounds list a) (seen bounds x).latest = end_next bounds list a x at in
    narrow_part bounds list rest gap n (a + 1) (max c ((seen bounds x).latest + rest)) (omega (arith, covers, more))
    (λ j z low high there. close j z (omega (arith, low)) (omega (arith, high)) there))
    (drop a list) refl

-- the walk's last stretch begins behind all
walk_end_over : (rest : ℕ) → (c : ℕ) (l : List Seen) → c ≤ walk_end rest c l
walk_end_over rest c [] = omega arith
walk_end_over rest c (r ∷ l) = let h : max c (r.latest + rest) ≤ walk_end rest (max c (r.latest + rest)) l = walk_end_over rest (max c (r.latest + rest)) l in omega (arith, h)

walk_end_of : (rest : ℕ) → (c : ℕ) (l : List Seen) (r : Seen) → In r l → r.latest ≤ walk_end rest c l
walk_end_of rest c [] r i = absurd i
walk_end_of rest c (s ∷ l) r (inl same) =
    let e : r.latest ≡ s.latest = ap (λ (t : Seen). t.latest) same in
    let h : max c (s.latest + rest) ≤ walk_end rest (max c (s.latest + rest)) l = walk_end_over rest (max c (s.latest + rest)) l in
    omega (arith, e, h)
walk_end_of rest c (s ∷ l) r (inr i) = walk_end_of rest (max c (s.latest + rest)) l r i

end_reached : (bounds : Bounds) (list : List Entry) (rest n a b c : ℕ) → a + n ≡ b → end_before bounds list a ≤ c
    → end_before bounds list b ≤ walk_end rest c (recorded bounds (take n (drop a list)))
end_reached bounds list rest n a b c is covers =
    let part : List Seen = recorded bounds (take n (drop a list)) in
    let split : recorded bounds (take b list) ≡ recorded bounds (take a list) ++ part =
    ap (λ m. recorded bounds (take m list)) (sym is) ∙ ap (recorded bounds) (take-add a n list) ∙ map-append (seen bounds) (take a list) (take n (drop a list)) in
    let low : c ≤ walk_end rest c part = walk_end_over rest c part in
    let told : greatest (λ r. r.latest) (recorded bounds (take a list) ++ part) ≤ walk_end rest c part =
    greatest_under (λ r. r.latest) (walk_end rest c part) (recorded bounds (take a list) ++ part) (λ r inside.
    elim (in_append_cases (recorded bounds (take a list)) part r inside) [
      | inl front ↦ (let h : r.latest ≤ end_before bounds list a = greatest_over (λ s. s.latest) (recorded bounds (take a list)) r front in omega (arith, h, covers, low))
      | inr back ↦ walk_end_of rest c part r back
    ]) in
    let e : end_before bounds list b ≡ greatest (λ r. r.latest) (recorded bounds (take a list) ++ part) = ap (greatest (λ r. r.latest)) split in
    omega (arith, told, e)

-- where the last long stretch rules it out, nothing was due
pub none_plain : (bounds : Bounds) (list : List Entry) (rest sg tg over start end c place q i long since from : ℕ) (o x : Entry)
    → slice_get list place ≡ Some o → place < q → q < i → slice_get list q ≡ Some x → end_before bounds list place ≤ c → (seen bounds o).latest ≤ c
    → AreClose bounds list long (place + 1) q → long ≤ sg → AreClose bounds list (since + 1) (q + 1) i → since + 1 ≤ tg
    → from ≤ end_before bounds list q → end ≤ end_before bounds list i → start ≤ end + tg → (x.moment < over) ⊎ (x.moment < from + sg + tg)
    → walk.first_due rest sg tg over start c None (recorded bounds (slice_range list (place + 1) i)) ≡ None
none_plain bounds list rest sg tg over start end c place q i long since from o x there low high at covers own before wide behind thin reached last least short =
    let a : ℕ = place + 1 in
    let front : List Seen = recorded bounds (slice_range list a q) in
    let back : List Seen = recorded bounds (slice_range list (q + 1) i) in
    let split : recorded bounds (slice_range list a i) ≡ front ++ seen bounds x ∷ back =
    ap (recorded bounds) (part_split list a q i x (omega (arith, low)) high at) ∙ map-append (seen bounds) (slice_range list a q) (x ∷ slice_range list (q + 1) i) in
    let next : end_before bounds list a ≡ max (end_before bounds list place) (seen bounds o).latest = end_next bounds list place o there in
    let from_a : end_before bounds list a ≤ c = omega (arith, next, covers, own) in
    let narrow : AreNarrow rest sg c front = narrow_part bounds list rest sg (q - a) a c from_a (λ j z left right j_at.
    let h : z.moment < end_before bounds list j + long = before j z left (omega (arith, right, low)) j_at in omega (arith, h, wide)) in
    let d : ℕ = walk_end rest c front in
    let to_q : end_before bounds list q ≤ d = end_reached bounds list rest (q - a) a q c (omega (arith, low)) from_a in
    let after : end_before bounds list (q + 1) ≡ max (end_before bounds list q) (seen bounds x).latest = end_next bounds list q x at in
    let b : ℕ = max d ((seen bounds x).latest + rest) in
    let from_b : end_before bounds list (q + 1) ≤ b = omega (arith, after, to_q) in
    let slim : AreNarrow rest tg b back = narrow_part bounds list rest tg (i - (q + 1)) (q + 1) b from_b (λ j z left right j_at.
    let h : z.moment < end_before bounds list j + (since + 1) = behind j z left (omega (arith, right, high)) j_at in omega (arith, h, thin)) in
    let to_i : end_before bounds list i ≤ walk_end rest b back = end_reached bounds list rest (i - (q + 1)) (q + 1) i b (omega (arith, high)) from_b in
    let none = none_due rest sg tg over start c front (seen bounds x) back narrow
    (elim short [ inl early ↦ inl early | inr tight ↦ inr (omega (arith, tight, reached, to_q)) ]) slim (omega (arith, least, last, to_i)) in
    subst (λ l. walk.first_due rest sg tg over start c None l ≡ None) (sym split) none

-- where a walk for the synchronization gap begins, all before a later place have ended
pub from_ended : (bounds : Bounds) (list : List Entry) (place q number end : ℕ) (o : Entry) → slice_get list place ≡ Some o → place < q
    → HaveEnded bounds list q end → max (seen bounds o).soonest (others_end (recorded bounds (take place list)) number) ≤ end
from_ended bounds list place q number end o there low ended =
    let split = take_split list place q o there low in
    let own : (seen bounds o).soonest ≤ end =
    ended o (subst (λ l. In o l) (sym split) (in_append_right (take place list) (o ∷ slice_range list (place + 1) q) o (inl refl))) in
    let test : Seen → Bool = λ r. not (r.sender == number) in
    let others : others_end (recorded bounds (take place list)) number ≤ end =
    greatest_under (λ r. r.soonest) end (filter test (recorded bounds (take place list))) (λ r inside.
    let w = recorded_is bounds (take place list) r (is_in (recorded bounds (take place list)) r (from_filter test (recorded bounds (take place list)) r inside).0) in
    let e : (seen bounds w.0).soonest ≡ r.soonest = ap (λ (s : Seen). s.soonest) w.2 in
    let h : (seen bounds w.0).soonest ≤ end =
    ended w.0 (subst (λ l. In w.0 l) (sym split) (in_append_left (take place list) (o ∷ slice_range list (place + 1) q) w.0 w.1)) in
    omega (arith, e, h)) in
    omega (arith, own, others)
