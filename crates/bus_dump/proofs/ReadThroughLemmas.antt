-- What a reader makes of a whole dump, change for change.
use Rattle.std.proofs.Common.{◌≡◌, ℕ, zero, suc, ◌+◌, ◌-◌, ◌*◌, ◌^◌, ◌<◌, ◌≤◌, Bool, true, false, not, ◌||◌, cond, leb, ltb, List, [], ◌∷◌, ◌++◌, codes, min, Some, None}
use Rattle.std.proofs.Common.{inl, inr, arith, sym, refl, ap, subst, ◌∙◌, append_assoc, append-nil}
use Rattle.std.specs.List.{AllByRecursion, filter, flat_map, list_any, range_with_len}
use Rattle.std.proofs.lemmas.Bool.{cases_lt, cases_Bool, true≢false, le-leb, lt-leb}
use Rattle.bus_text.specs.Lines.{is_feed}
use Rattle.bus_text.proofs.CanonicalLaws.{feedless_append}
use Rattle.bus_strings.specs.Members.{In}
use Rattle.bus_strings.proofs.MemberLaws.{in_filter}
use Rattle.bus_dump.specs.DumpTexts.{changes, changes_at, changes_text, changes_to, declaration, first_values, head_text, behind_text, bits_text, id_text, last_stamp, name_text, width_text, some_changes, stamp, text_of, value_line}
use Rattle.bus_dump.specs.Reading.{other, Place, line_of, read, read_on}
use Rattle.bus_dump.specs.Scenes.{Scene}
use Rattle.bus_dump.specs.Signals.{Signal, Carrier, Overlap, Sync, Breach, Word, Pulse, Garbled, Label, Message, Interval, Synchronization, Gap, May, value, is_same}
use Rattle.bus_dump.proofs.ReadLemmas.{Moves, then, stays_at, with_value, late, kept, taken, stamp_moves, Feedless, feedless_test, line_skipped, is_same_equal, IsSmall, good_id, lane_feedless}

-- ---- changes
-- all up to bit time u is read, where the value at bit time t is asked for
record Reached (s : Signal) (scene : ℕ → Scene) (t u : ℕ) (p : Place) : Type 0 where
  now : p.now ≤ 5 * u
  value : p.value ≡ Some (value s (scene (min u t)))

record Goes (s : Signal) (ss : List Signal) (scene : ℕ → Scene) (t u : ℕ) (p : Place) (text : List ℕ) : Type 0 where
  place : Place
  moves : Moves (id_text s) (5 * t) p text place
  reached : Reached s scene t u place

not_any : (before now : Scene) (ss : List Signal) (s : Signal) → In s ss → list_any (changes before now) ss ≡ false → changes before now s ≡ false
not_any before now [] s i h = absurd i
not_any before now (x ∷ ss) s i h =
    elim (cases_Bool (changes before now x)) [
      | inl yes' ↦ absurd (true≢false (sym (ap (λ b. b || list_any (changes before now) ss) yes') ∙ h))
      | inr no' ↦ elim i [
        | inl same ↦ ap (changes before now) same ∙ no'
        | inr more ↦ not_any before now ss s more (sym (ap (λ b. b || list_any (changes before now) ss) no') ∙ h)
      ]
    ]

unchanged : (before now : Scene) (s : Signal) → changes before now s ≡ false → value s before ≡ value s now
unchanged before now s h = is_same_equal (value s before) (value s now) (negated (is_same (value s before) (value s now)) h) where
  negated : (b : Bool) → not b ≡ false → b ≡ true
  negated true e = refl
  negated false e = absurd (true≢false e)

pub small_filter : (p : Signal → Bool) (ss : List Signal) → AllByRecursion IsSmall ss → AllByRecursion IsSmall (filter p ss)
small_filter p [] h = tt
small_filter p (s ∷ ss) h = elim (p s) as (λ b. AllByRecursion IsSmall (cond b (s ∷ filter p ss) (filter p ss))) [
  | true ↦ (h.0, small_filter p ss h.1)
  | false ↦ small_filter p ss h.1
]

some_moves : (s : Signal) (ss : List Signal) (scene : ℕ → Scene) (t u : ℕ) (p : Place) → AllByRecursion IsSmall ss → In s ss → IsSmall s → 5 * suc u < 2 ^ 64
    → Reached s scene t u p → Goes s ss scene t (suc u) p (some_changes ss (scene u) (scene (suc u)) (suc u))
unfolding some_changes
some_moves s ss scene t u p small i own low r =
    let q : Place = record { now = 5 * suc u; value = p.value } in
    let id : List ℕ = id_text s in
    let changed : List Signal = filter (changes (scene u) (scene (suc u))) ss in
    let lines : List ℕ = flat_map (value_line (scene (suc u))) changed in
    let few = small_filter (changes (scene u) (scene (suc u))) ss small in
    elim (cases_lt t (suc u)) [
      | inl past ↦ record {
        place = q;
        moves = then id (5 * t) p q q (stamp (suc u)) lines (stamp_moves id (5 * t) p (suc u) low)
            (late s (5 * t) q (scene (suc u)) changed few (lt-leb (5 * suc u) (5 * t) (omega arith)));
        reached = record {
          now = omega arith;
          value = r.value ∙ ap (λ k. Some (value s (scene k))) (let e : min u t ≡ min (suc u) t = omega arith in e);
        };
      }
      | inr ahead ↦
          let in_time : leb (5 * suc u) (5 * t) ≡ true = le-leb (5 * suc u) (5 * t) (omega arith) in
          let was : p.value ≡ Some (value s (scene u)) = r.value ∙ ap (λ k. Some (value s (scene k))) (let e : min u t ≡ u = omega arith in e) in
          let at : min (suc u) t ≡ suc u = omega arith in
          elim (cases_Bool (changes (scene u) (scene (suc u)) s)) [
            | inl yes' ↦ record {
              place = with_value q (Some (value s (scene (suc u))));
              moves = then id (5 * t) p q (with_value q (Some (value s (scene (suc u))))) (stamp (suc u)) lines (stamp_moves id (5 * t) p (suc u) low)
                  (taken s (5 * t) q (scene (suc u)) changed few own in_time (in_filter (changes (scene u) (scene (suc u))) ss s i yes'));
              reached = record { now = omega arith; value = ap (λ k. Some (value s (scene k))) (sym at) };
            }
            | inr no' ↦
                let same : q.value ≡ Some (value s (scene (suc u))) = was ∙ ap Some (unchanged (scene u) (scene (suc u)) s no') in
                record {
                  place = q;
                  moves = then id (5 * t) p q q (stamp (suc u)) lines (stamp_moves id (5 * t) p (suc u) low)
                      (kept s (5 * t) q (scene (suc u)) changed few own in_time same);
                  reached = record { now = omega arith; value = same ∙ ap (λ k. Some (value s (scene k))) (sym at) };
                }
          ]
    ]

next_moves : (s : Signal) (ss : List Signal) (scene : ℕ → Scene) (t u : ℕ) (p : Place) → AllByRecursion IsSmall ss → In s ss → IsSmall s → 5 * suc u < 2 ^ 64
    → Reached s scene t u p → Goes s ss scene t (suc u) p (changes_text ss (scene u) (scene (suc u)) (suc u))
next_moves s ss scene t u p small i own low r =
    elim (list_any (changes (scene u) (scene (suc u))) ss)
    as (λ b. list_any (changes (scene u) (scene (suc u))) ss ≡ b → Goes s ss scene t (suc u) p (cond b (some_changes ss (scene u) (scene (suc u)) (suc u)) [])) [
      | true ↦ λ e. some_moves s ss scene t u p small i own low r
      | false ↦ λ e.
          let same : value s (scene u) ≡ value s (scene (suc u)) = unchanged (scene u) (scene (suc u)) s (not_any (scene u) (scene (suc u)) ss s i e) in
          let now : p.now ≤ 5 * u = r.now in
          record {
            place = p;
            moves = stays_at (id_text s) (5 * t) p;
            reached = record {
              now = omega arith;
              value = r.value ∙ ap Some (elim (cases_lt u t) [
                | inl ahead ↦ ap (λ k. value s (scene k)) (let e : min u t ≡ u = omega arith in e) ∙ same
                    ∙ ap (λ k. value s (scene k)) (let e : suc u ≡ min (suc u) t = omega arith in e)
                | inr past ↦ ap (λ k. value s (scene k)) (let e : min u t ≡ min (suc u) t = omega arith in e)
              ]);
            };
          }
    ] refl

all_moves : (s : Signal) (ss : List Signal) (scene : ℕ → Scene) (t u n : ℕ) (p : Place) → AllByRecursion IsSmall ss → In s ss → IsSmall s → 5 * (u + n) < 2 ^ 64
    → Reached s scene t u p → Goes s ss scene t (u + n) p (flat_map (changes_at ss scene) (range_with_len (suc u) n))
all_moves s ss scene t u zero p small i own low r = record {
  place = p;
  moves = stays_at (id_text s) (5 * t) p;
  reached = subst (λ k. Reached s scene t k p) (let e : u ≡ u + 0 = omega arith in e) r;
}
all_moves s ss scene t u (suc n) p small i own low r =
    let first = next_moves s ss scene t u p small i own (omega arith) r in
    let rest = all_moves s ss scene t (suc u) n first.place small i own (omega arith) first.reached in
    let one : suc u + 1 ≡ suc (suc u) = omega arith in
    let text : List ℕ = flat_map (changes_at ss scene) (range_with_len (suc (suc u)) n) in
    record {
      place = rest.place;
      moves = subst (λ x. Moves (id_text s) (5 * t) p x rest.place)
          (ap (λ v. changes_text ss (scene v) (scene (suc u)) (suc u) ++ text) (let e : u ≡ suc u - 1 = omega arith in e)
          ∙ ap (λ v. changes_at ss scene (suc u) ++ flat_map (changes_at ss scene) (range_with_len v n)) (sym one))
          (then (id_text s) (5 * t) p first.place rest.place (changes_text ss (scene u) (scene (suc u)) (suc u)) text first.moves rest.moves);
      reached = subst (λ k. Reached s scene t k rest.place) (let e : suc u + n ≡ u + suc n = omega arith in e) rest.reached;
    }

-- ---- the head
skips : (id : List ℕ) (at : ℕ) (p : Place) (line : List ℕ) → Feedless line → line_of line ≡ other → Moves id at p (line ++ 10 ∷ []) p
skips id at p line h e rest = ap (read_on id at p) (append_assoc line (10 ∷ []) rest) ∙ line_skipped id at p line rest h e

name_feedless : (s : Signal) → IsSmall s → Feedless (name_text s)
name_feedless Carrier h = feedless_test (codes "carrier") refl
name_feedless Overlap h = feedless_test (codes "overlap") refl
name_feedless Sync h = feedless_test (codes "sync") refl
name_feedless Breach h = feedless_test (codes "breach") refl
name_feedless Word h = feedless_test (codes "word") refl
name_feedless (Pulse n) h = lane_feedless n (codes "_pulse") h (feedless_test (codes "_pulse") refl)
name_feedless (Garbled n) h = lane_feedless n (codes "_garbled") h (feedless_test (codes "_garbled") refl)
name_feedless (Label n) h = lane_feedless n (codes "_label") h (feedless_test (codes "_label") refl)
name_feedless (Message n) h = lane_feedless n (codes "_message") h (feedless_test (codes "_message") refl)
name_feedless (Interval n) h = lane_feedless n (codes "_ti") h (feedless_test (codes "_ti") refl)
name_feedless (Synchronization n) h = lane_feedless n (codes "_sg") h (feedless_test (codes "_sg") refl)
name_feedless (Gap n) h = lane_feedless n (codes "_tg") h (feedless_test (codes "_tg") refl)
name_feedless (May n) h = lane_feedless n (codes "_may") h (feedless_test (codes "_may") refl)

width_feedless : (s : Signal) → list_any is_feed (width_text s) ≡ false
width_feedless Carrier = refl
width_feedless Overlap = refl
width_feedless Sync = refl
width_feedless Breach = refl
width_feedless Word = refl
width_feedless (Pulse n) = refl
width_feedless (Garbled n) = refl
width_feedless (Label n) = refl
width_feedless (Message n) = refl
width_feedless (Interval n) = refl
width_feedless (Synchronization n) = refl
width_feedless (Gap n) = refl
width_feedless (May n) = refl

bits_feedless : (s : Signal) → list_any is_feed (bits_text s) ≡ false
bits_feedless Carrier = refl
bits_feedless Overlap = refl
bits_feedless Sync = refl
bits_feedless Breach = refl
bits_feedless Word = refl
bits_feedless (Pulse n) = refl
bits_feedless (Garbled n) = refl
bits_feedless (Label n) = refl
bits_feedless (Message n) = refl
bits_feedless (Interval n) = refl
bits_feedless (Synchronization n) = refl
bits_feedless (Gap n) = refl
bits_feedless (May n) = refl

pub declaration_feedless : (s : Signal) → IsSmall s
    → Feedless (codes "$var wire " ++ width_text s ++ id_text s ++ codes " " ++ name_text s ++ bits_text s ++ codes " $end")
declaration_feedless s h =
    let a : List ℕ = codes "$var wire " ++ width_text s in
    let b : List ℕ = a ++ id_text s in
    let c : List ℕ = b ++ codes " " ++ name_text s in
    let d : List ℕ = c ++ bits_text s in
    let fa : Feedless a = feedless_append (codes "$var wire ") (width_text s) (feedless_test (codes "$var wire ") refl) (feedless_test (width_text s) (width_feedless s)) in
    let fb : Feedless b = feedless_append a (id_text s) fa (good_id s h).feedless in
    let fc : Feedless c = feedless_append (b ++ codes " ") (name_text s) (feedless_append b (codes " ") fb (refl, tt)) (name_feedless s h) in
    let fd : Feedless d = feedless_append c (bits_text s) fc (feedless_test (bits_text s) (bits_feedless s)) in
    feedless_append d (codes " $end") fd (feedless_test (codes " $end") refl)

declaration_skipped : (id : List ℕ) (at : ℕ) (p : Place) (s : Signal) → IsSmall s → Moves id at p (declaration s) p
declaration_skipped id at p s h =
    let d : List ℕ = codes "$var wire " ++ width_text s ++ id_text s ++ codes " " ++ name_text s ++ bits_text s in
    subst (λ x. Moves id at p x p) (append_assoc d (codes " $end") (10 ∷ []))
    (skips id at p (d ++ codes " $end") (declaration_feedless s h) refl)

declarations_skipped : (id : List ℕ) (at : ℕ) (p : Place) (ss : List Signal) → AllByRecursion IsSmall ss → Moves id at p (flat_map declaration ss) p
declarations_skipped id at p [] small = stays_at id at p
declarations_skipped id at p (s ∷ ss) small =
    then id at p p p (declaration s) (flat_map declaration ss) (declaration_skipped id at p s small.0) (declarations_skipped id at p ss small.1)

head_skipped : (id : List ℕ) (at : ℕ) (p : Place) (comment : List ℕ) → Feedless comment → Moves id at p (head_text comment) p
head_skipped id at p comment h rest =
    let a : List ℕ = codes "$version bus629-view 1 $end" in
    let c : List ℕ = codes "$comment " ++ comment ++ codes " $end" in
    let e : List ℕ = codes "$timescale 100 ns $end" in
    let f : List ℕ = codes "$scope module bus $end" in
    let tail : List ℕ = e ++ 10 ∷ (f ++ 10 ∷ rest) in
    ap (read_on id at p) (append_assoc (codes "$version bus629-view 1 $end\n$comment " ++ comment) (codes " $end\n$timescale 100 ns $end\n$scope module bus $end\n") rest
    ∙ append_assoc (codes "$version bus629-view 1 $end\n$comment ") comment (codes " $end\n$timescale 100 ns $end\n$scope module bus $end\n" ++ rest))
    ∙ line_skipped id at p a (codes "$comment " ++ (comment ++ (codes " $end" ++ 10 ∷ tail))) (feedless_test a refl) refl
    ∙ ap (read_on id at p) (sym (append_assoc (codes "$comment " ++ comment) (codes " $end") (10 ∷ tail) ∙ append_assoc (codes "$comment ") comment (codes " $end" ++ 10 ∷ tail)))
    ∙ line_skipped id at p c tail (feedless_append (codes "$comment " ++ comment) (codes " $end")
    (feedless_append (codes "$comment ") comment (feedless_test (codes "$comment ") refl) h) (feedless_test (codes " $end") refl)) refl
    ∙ line_skipped id at p e (f ++ 10 ∷ rest) (feedless_test e refl) refl
    ∙ line_skipped id at p f rest (feedless_test f refl) refl

behind_skipped : (id : List ℕ) (at : ℕ) (p : Place) → Moves id at p behind_text p
behind_skipped id at p rest =
    line_skipped id at p (codes "$upscope $end") (codes "$enddefinitions $end" ++ 10 ∷ rest) (feedless_test (codes "$upscope $end") refl) refl
    ∙ line_skipped id at p (codes "$enddefinitions $end") rest (feedless_test (codes "$enddefinitions $end") refl) refl

-- ---- the values at the first bit time
first_moves : (s : Signal) (ss : List Signal) (from at : ℕ) (scene : Scene) → 5 * from ≤ at → 5 * from < 2 ^ 64 → AllByRecursion IsSmall ss → In s ss → IsSmall s
    → Moves (id_text s) at (record { now = 0; value = None }) (first_values ss scene from) (record { now = 5 * from; value = Some (value s scene) })
first_moves s ss from at scene early low small i own =
    let id : List ℕ = id_text s in
    let p : Place = record { now = 0; value = None } in
    let r : Place = record { now = 5 * from; value = None } in
    let q : Place = record { now = 5 * from; value = Some (value s scene) } in
    let lines : List ℕ = flat_map (value_line scene) ss in
    then id at p q q (stamp from ++ codes "$dumpvars\n" ++ lines) (codes "$end\n")
    (then id at p r q (stamp from ++ codes "$dumpvars\n") lines
    (then id at p r r (stamp from) (codes "$dumpvars\n") (stamp_moves id at p from low) (skips id at r (codes "$dumpvars") (feedless_test (codes "$dumpvars") refl) refl))
    (taken s at r scene ss small own (le-leb (5 * from) at early) i))
    (skips id at q (codes "$end") (feedless_test (codes "$end") refl) refl)

last_moves : (id : List ℕ) (at : ℕ) (p : Place) (from end : ℕ) → 5 * end < 2 ^ 64 → (q : Place) × (q.value ≡ p.value) × Moves id at p (last_stamp from end) q
last_moves id at p from end low =
    elim (ltb from end) as (λ b. (q : Place) × (q.value ≡ p.value) × Moves id at p (cond b (stamp end) []) q) [
      | true ↦ (record { now = 5 * end; value = p.value }, refl, stamp_moves id at p end low)
      | false ↦ (p, refl, stays_at id at p)
    ]

-- ---- the whole
pub text_read : (comment : List ℕ) (ss : List Signal) (scene : ℕ → Scene) (from end t : ℕ) (s : Signal) → Feedless comment → AllByRecursion IsSmall ss → In s ss
    → IsSmall s → from ≤ t → t < end → 5 * end < 2 ^ 64 → read (id_text s) (5 * t) (text_of comment ss scene from end) ≡ Some (value s (scene t))
text_read comment ss scene from end t s plain small i own early below low =
    let id : List ℕ = id_text s in
    let at : ℕ = 5 * t in
    let p : Place = record { now = 0; value = None } in
    let q : Place = record { now = 5 * from; value = Some (value s (scene from)) } in
    let n : ℕ = end - suc from in
    let first : List ℕ = first_values ss (scene from) from in
    let begun : Reached s scene t from q =
    record { now = omega arith; value = ap (λ k. Some (value s (scene k))) (let e : from ≡ min from t = omega arith in e) } in
    let all = all_moves s ss scene t from n q small i own (omega arith) begun in
    let last = last_moves id at all.place from end low in
    let head : List ℕ = head_text comment in
    let a = then id at p p p head (flat_map declaration ss) (head_skipped id at p comment plain) (declarations_skipped id at p ss small) in
    let b = then id at p p p (head ++ flat_map declaration ss) behind_text a (behind_skipped id at p) in
    let c = then id at p p q (head ++ flat_map declaration ss ++ behind_text) first b
    (first_moves s ss from at (scene from) (omega arith) (omega arith) small i own) in
    let one : suc from ≡ from + 1 = omega arith in
    let moves : Moves id at q (changes_to ss scene from end) all.place =
    subst (λ k. Moves id at q (flat_map (changes_at ss scene) (range_with_len k (end - k))) all.place) one all.moves in
    let d = then id at p q all.place (head ++ flat_map declaration ss ++ behind_text ++ first) (changes_to ss scene from end) c moves in
    let e = then id at p all.place last.0 (head ++ flat_map declaration ss ++ behind_text ++ first ++ changes_to ss scene from end) (last_stamp from end) d last.2 in
    ap (λ (r : Place). r.value) (ap (read_on id at p) (sym (append-nil (text_of comment ss scene from end))) ∙ e [])
    ∙ last.1 ∙ all.reached.value ∙ ap (λ k. Some (value s (scene k))) (let w : min (from + n) t ≡ t = omega arith in w)
