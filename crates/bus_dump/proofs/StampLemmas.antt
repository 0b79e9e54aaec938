-- The stamps of a dump, line for line.
use Rattle.std.proofs.Common.{◌≡◌, ℕ, zero, suc, ◌+◌, ◌-◌, ◌*◌, ◌^◌, ◌<◌, ◌≤◌, Bool, true, false, cond, ltb, List, [], ◌∷◌, ◌++◌, map, codes, decimal, None}
use Rattle.std.proofs.Common.{inl, inr, arith, sym, refl, ap, subst, ◌∙◌, append_assoc, append-nil}
use Rattle.std.specs.List.{AllByRecursion, cons_option, filter, filter_map, flat_map, range_with_len}
use Rattle.std.proofs.lemmas.Bool.{cases_lt, le-ltb, lt-ltb}
use Rattle.std.proofs.lemmas.List.{map-append}
use Rattle.bus_text.proofs.NumberLaws.{decimal_field, decimal_is}
use Rattle.bus_text.proofs.CanonicalLaws.{feedless_append, feedless, line_first}
use Rattle.bus_dump.specs.DumpTexts.{behind_text, bits_text, changes, changes_at, changes_to, declaration, end_of_dump, first_values, head_text, id_text, last_stamp, name_text, some_changes, stamp, text_of, value_line, value_text, width_text}
use Rattle.bus_dump.specs.Lanes.{lanes}
use Rattle.bus_dump.specs.Laws.{StampsAreTold}
use Rattle.bus_dump.specs.Reading.{line_of}
use Rattle.bus_dump.specs.Scenes.{Scene, scene_at}
use Rattle.bus_dump.specs.Signals.{Signal, signals, value}
use Rattle.bus_dump.specs.Stamps.{Rises, StampsAre, is_change, stamped, stamps, time_of}
use Rattle.bus_dump.proofs.ReadLemmas.{Feedless, IsSmall, feedless_test, good_id, value_feedless, value_line_of}
use Rattle.bus_dump.proofs.ReadThroughLemmas.{declaration_feedless, small_filter}
use Rattle.bus_dump.proofs.SmallLemmas.{signals_small}

-- ---- lines
abbrev none : List ℕ
none = []

-- a text has these stamps
abbrev Has : List ℕ → List ℕ → Type 0
Has text found = (rest : List ℕ) → stamps (text ++ rest) ≡ found ++ stamps rest

line_read : (line rest : List ℕ) → Feedless line → stamps (line ++ 10 ∷ rest) ≡ cons_option (time_of (line_of line)) (stamps rest)
line_read line rest h = ap (filter_map (λ l. time_of (line_of l))) (line_first line rest h)

line_skipped : (line rest : List ℕ) → Feedless line → time_of (line_of line) ≡ None → stamps (line ++ 10 ∷ rest) ≡ stamps rest
line_skipped line rest h e = line_read line rest h ∙ ap (λ o. cons_option o (stamps rest)) e

skips : (line : List ℕ) → Feedless line → time_of (line_of line) ≡ None → Has (line ++ 10 ∷ []) none
skips line h e rest = ap stamps (append_assoc line (10 ∷ []) rest) ∙ line_skipped line rest h e

both : (a b xs ys : List ℕ) → Has a xs → Has b ys → Has (a ++ b) (xs ++ ys)
both a b xs ys m n rest =
    ap stamps (append_assoc a b rest) ∙ m (b ++ rest) ∙ ap (λ l. xs ++ l) (n rest) ∙ sym (append_assoc xs ys (stamps rest))

-- ---- values and stamps
value_has : (scene : Scene) (s : Signal) → IsSmall s → Has (value_line scene s) none
value_has scene s h =
    let g = good_id s h in
    skips (value_text (value s scene) ++ id_text s) (feedless_append (value_text (value s scene)) (id_text s) (value_feedless (value s scene)) g.feedless)
    (ap time_of (value_line_of (value s scene) (id_text s) g.spaceless))

values_have : (scene : Scene) (ss : List Signal) → AllByRecursion IsSmall ss → Has (flat_map (value_line scene) ss) none
values_have scene [] small = λ rest. refl
values_have scene (s ∷ ss) small =
    both (value_line scene s) (flat_map (value_line scene) ss) none none (value_has scene s small.0) (values_have scene ss small.1)

stamp_has : (t : ℕ) → 5 * t < 2 ^ 64 → Has (stamp t) ((5 * t) ∷ [])
stamp_has t h rest =
    let d = decimal_field (5 * t) h in
    ap stamps (append_assoc (codes "#" ++ decimal (5 * t)) (10 ∷ []) rest)
    ∙ line_read (35 ∷ decimal (5 * t)) rest (refl, feedless (decimal (5 * t)) d.bytes)
    ∙ ap (λ n. n ∷ stamps rest) (decimal_is (5 * t) h).value

-- ---- the head
declaration_has : (s : Signal) → IsSmall s → Has (declaration s) none
declaration_has s h =
    let front : List ℕ = codes "$var wire " ++ width_text s ++ id_text s ++ codes " " ++ name_text s ++ bits_text s in
    subst (λ x. Has x none) (append_assoc front (codes " $end") (10 ∷ []))
    (skips (front ++ codes " $end") (declaration_feedless s h) refl)

declarations_have : (ss : List Signal) → AllByRecursion IsSmall ss → Has (flat_map declaration ss) none
declarations_have [] small = λ rest. refl
declarations_have (s ∷ ss) small =
    both (declaration s) (flat_map declaration ss) none none (declaration_has s small.0) (declarations_have ss small.1)

head_has : (comment : List ℕ) → Feedless comment → Has (head_text comment) none
head_has comment h rest =
    let a : List ℕ = codes "$version bus629-view 1 $end" in
    let c : List ℕ = codes "$comment " ++ comment ++ codes " $end" in
    let e : List ℕ = codes "$timescale 100 ns $end" in
    let f : List ℕ = codes "$scope module bus $end" in
    let tail : List ℕ = e ++ 10 ∷ (f ++ 10 ∷ rest) in
    ap stamps (append_assoc (codes "$version bus629-view 1 $end\n$comment " ++ comment) (codes " $end\n$timescale 100 ns $end\n$scope module bus $end\n") rest
    ∙ append_assoc (codes "$version bus629-view 1 $end\n$comment ") comment (codes " $end\n$timescale 100 ns $end\n$scope module bus $end\n" ++ rest))
    ∙ line_skipped a (codes "$comment " ++ (comment ++ (codes " $end" ++ 10 ∷ tail))) (feedless_test a refl) refl
    ∙ ap stamps (sym (append_assoc (codes "$comment " ++ comment) (codes " $end") (10 ∷ tail) ∙ append_assoc (codes "$comment ") comment (codes " $end" ++ 10 ∷ tail)))
    ∙ line_skipped c tail (feedless_append (codes "$comment " ++ comment) (codes " $end")
    (feedless_append (codes "$comment ") comment (feedless_test (codes "$comment ") refl) h) (feedless_test (codes " $end") refl)) refl
    ∙ line_skipped e (f ++ 10 ∷ rest) (feedless_test e refl) refl
    ∙ line_skipped f rest (feedless_test f refl) refl

behind_has : Has behind_text none
behind_has rest =
    line_skipped (codes "$upscope $end") (codes "$enddefinitions $end" ++ 10 ∷ rest) (feedless_test (codes "$upscope $end") refl) refl
    ∙ line_skipped (codes "$enddefinitions $end") rest (feedless_test (codes "$enddefinitions $end") refl) refl

-- ---- bit times
first_has : (ss : List Signal) (scene : Scene) (t : ℕ) → AllByRecursion IsSmall ss → 5 * t < 2 ^ 64 → Has (first_values ss scene t) ((5 * t) ∷ [])
first_has ss scene t small low =
    both (stamp t ++ codes "$dumpvars\n" ++ flat_map (value_line scene) ss) (codes "$end\n") ((5 * t) ∷ []) none
    (both (stamp t ++ codes "$dumpvars\n") (flat_map (value_line scene) ss) ((5 * t) ∷ []) none
    (both (stamp t) (codes "$dumpvars\n") ((5 * t) ∷ []) none (stamp_has t low) (skips (codes "$dumpvars") (feedless_test (codes "$dumpvars") refl) refl))
    (values_have scene ss small))
    (skips (codes "$end") (feedless_test (codes "$end") refl) refl)

some_have : (ss : List Signal) (before now : Scene) (t : ℕ) → AllByRecursion IsSmall ss → 5 * t < 2 ^ 64
    → Has (some_changes ss before now t) ((5 * t) ∷ [])
unfolding some_changes
some_have ss before now t small low =
    both (stamp t) (flat_map (value_line now) (filter (changes before now) ss)) ((5 * t) ∷ []) none (stamp_has t low)
    (values_have now (filter (changes before now) ss) (small_filter (changes before now) ss small))

at_has : (ss : List Signal) (scene : ℕ → Scene) (t : ℕ) → AllByRecursion IsSmall ss → 5 * t < 2 ^ 64
    → Has (changes_at ss scene t) (cond (is_change ss scene t) ((5 * t) ∷ []) none)
at_has ss scene t small low =
    elim (is_change ss scene t) as (λ b. Has (cond b (some_changes ss (scene (t - 1)) (scene t) t) []) (cond b ((5 * t) ∷ []) none)) [
      | true ↦ some_have ss (scene (t - 1)) (scene t) t small low
      | false ↦ λ rest. refl
    ]

one_more : (b : Bool) (t : ℕ) (ts : List ℕ) → cond b ((5 * t) ∷ []) none ++ map (λ u. 5 * u) ts ≡ map (λ u. 5 * u) (cond b (t ∷ ts) ts)
one_more true t ts = refl
one_more false t ts = refl

along_has : (ss : List Signal) (scene : ℕ → Scene) (a n : ℕ) → AllByRecursion IsSmall ss → 5 * (a + n) < 2 ^ 64
    → Has (flat_map (changes_at ss scene) (range_with_len a n)) (map (λ u. 5 * u) (filter (is_change ss scene) (range_with_len a n)))
along_has ss scene a zero small low = λ rest. refl
along_has ss scene a (suc n) small low =
    subst (Has (changes_at ss scene a ++ flat_map (changes_at ss scene) (range_with_len (a + 1) n)))
    (one_more (is_change ss scene a) a (filter (is_change ss scene) (range_with_len (a + 1) n)))
    (both (changes_at ss scene a) (flat_map (changes_at ss scene) (range_with_len (a + 1) n)) (cond (is_change ss scene a) ((5 * a) ∷ []) none)
    (map (λ u. 5 * u) (filter (is_change ss scene) (range_with_len (a + 1) n))) (at_has ss scene a small (omega arith))
    (along_has ss scene (a + 1) n small (omega arith)))

-- the stamp of the end
abbrev last_of : ℕ → ℕ → List ℕ
last_of from end = cond (ltb from end) (end ∷ []) []

last_has : (from end : ℕ) → 5 * end < 2 ^ 64 → Has (last_stamp from end) (map (λ u. 5 * u) (last_of from end))
last_has from end low =
    elim (ltb from end) as (λ b. Has (cond b (stamp end) []) (map (λ u. 5 * u) (cond b (end ∷ []) []))) [
      | true ↦ stamp_has end low
      | false ↦ λ rest. refl
    ]

-- the bit times behind the first at which something changes
abbrev inside : List Signal → (ℕ → Scene) → ℕ → ℕ → List ℕ
inside ss scene from end = filter (is_change ss scene) (range_with_len (from + 1) (end - (from + 1)))

-- ---- the whole
pub stamps_of : (comment : List ℕ) (ss : List Signal) (scene : ℕ → Scene) (from end : ℕ) → Feedless comment → AllByRecursion IsSmall ss
    → 5 * (from + 1) < 2 ^ 64 → 5 * (end + 1) < 2 ^ 64 → stamps (text_of comment ss scene from end) ≡ map (λ u. 5 * u) (stamped ss scene from end)
stamps_of comment ss scene from end plain small begins low =
    let five : List ℕ → List ℕ = map (λ u. 5 * u) in
    let inner : List ℕ = inside ss scene from end in
    let head : List ℕ = head_text comment in
    let first : List ℕ = first_values ss (scene from) from in
    let a = both head (flat_map declaration ss) none none (head_has comment plain) (declarations_have ss small) in
    let b = both (head ++ flat_map declaration ss) behind_text none none a behind_has in
    let c = both (head ++ flat_map declaration ss ++ behind_text) first none ((5 * from) ∷ []) b (first_has ss (scene from) from small (omega arith)) in
    let d = both (head ++ flat_map declaration ss ++ behind_text ++ first) (changes_to ss scene from end) ((5 * from) ∷ []) (five inner) c
    (along_has ss scene (from + 1) (end - (from + 1)) small (omega arith)) in
    let e = both (head ++ flat_map declaration ss ++ behind_text ++ first ++ changes_to ss scene from end) (last_stamp from end)
    ((5 * from) ∷ five inner) (five (last_of from end)) d (last_has from end (omega arith)) in
    ap stamps (sym (append-nil (text_of comment ss scene from end))) ∙ e [] ∙ append-nil ((5 * from) ∷ (five inner ++ five (last_of from end)))
    ∙ ap (λ l. (5 * from) ∷ l) (sym (map-append (λ u. 5 * u) inner (last_of from end)))

-- ---- they rise
all_weaker : (P Q : ℕ → Type 0) (ns : List ℕ) → ((n : ℕ) → P n → Q n) → AllByRecursion P ns → AllByRecursion Q ns
all_weaker P Q [] h all = tt
all_weaker P Q (n ∷ ns) h all = (h n all.0, all_weaker P Q ns h all.1)

all_push : (P : ℕ → Type 0) (ns : List ℕ) (n : ℕ) → AllByRecursion P ns → P n → AllByRecursion P (ns ++ n ∷ [])
all_push P [] n all h = (h, tt)
all_push P (m ∷ ns) n all h = (all.0, all_push P ns n all.1 h)

rises_push : (ns : List ℕ) (n : ℕ) → Rises ns → AllByRecursion (λ m. m < n) ns → Rises (ns ++ n ∷ [])
rises_push [] n r below = (tt, tt)
rises_push (m ∷ ns) n r below = (all_push (λ k. m < k) ns n r.0 below.0, rises_push ns n r.1 below.1)

rises_fives : (ns : List ℕ) → Rises ns → Rises (map (λ u. 5 * u) ns)
rises_fives [] r = tt
rises_fives (n ∷ ns) r = (fives ns r.0, rises_fives ns r.1) where
  fives : (ms : List ℕ) → AllByRecursion (λ m. n < m) ms → AllByRecursion (λ m. 5 * n < m) (map (λ u. 5 * u) ms)
  fives [] all = tt
  fives (m ∷ ms) all = let h : n < m = all.0 in (omega arith, fives ms all.1)

within : (p : ℕ → Bool) (a n : ℕ) → AllByRecursion (λ t. (a ≤ t) × (t < a + n)) (filter p (range_with_len a n))
within p a zero = tt
within p a (suc n) =
    let more = all_weaker (λ t. (a + 1 ≤ t) × (t < a + 1 + n)) (λ t. (a ≤ t) × (t < a + suc n)) (filter p (range_with_len (a + 1) n))
    (λ t h. (let l : a + 1 ≤ t = h.0 in omega arith, let u : t < a + 1 + n = h.1 in omega arith)) (within p (a + 1) n) in
    elim (p a) as (λ b. AllByRecursion (λ t. (a ≤ t) × (t < a + suc n)) (cond b (a ∷ filter p (range_with_len (a + 1) n)) (filter p (range_with_len (a + 1) n)))) [
      | true ↦ ((omega arith, omega arith), more)
      | false ↦ more
    ]

rises_range : (p : ℕ → Bool) (a n : ℕ) → Rises (filter p (range_with_len a n))
rises_range p a zero = tt
rises_range p a (suc n) =
    let above = all_weaker (λ t. (a + 1 ≤ t) × (t < a + 1 + n)) (λ t. a < t) (filter p (range_with_len (a + 1) n))
    (λ t h. let l : a + 1 ≤ t = h.0 in omega arith) (within p (a + 1) n) in
    elim (p a) as (λ b. Rises (cond b (a ∷ filter p (range_with_len (a + 1) n)) (filter p (range_with_len (a + 1) n)))) [
      | true ↦ (above, rises_range p (a + 1) n)
      | false ↦ rises_range p (a + 1) n
    ]

ends : (ss : List Signal) (scene : ℕ → Scene) (from end : ℕ) → from < end
    → stamped ss scene from end ≡ (from ∷ inside ss scene from end) ++ end ∷ []
ends ss scene from end some = ap (λ b. from ∷ (inside ss scene from end ++ cond b (end ∷ []) [])) (lt-ltb from end some)

-- nothing is inside where the end isn't behind the first
none_inside : (p : ℕ → Bool) (from n : ℕ) → n ≡ 0 → Rises (from ∷ (filter p (range_with_len (from + 1) n) ++ []))
none_inside p from n e = subst (λ k. Rises (from ∷ (filter p (range_with_len (from + 1) k) ++ []))) (sym e) (tt, tt)

rises_stamped : (ss : List Signal) (scene : ℕ → Scene) (from end : ℕ) → Rises (stamped ss scene from end)
rises_stamped ss scene from end = elim (cases_lt from end) [
  | inr none' ↦
      subst Rises (ap (λ b. from ∷ (inside ss scene from end ++ cond b (end ∷ []) [])) (sym (le-ltb from end none')))
      (none_inside (is_change ss scene) from (end - (from + 1)) (omega arith))
  | inl some ↦
      let p = is_change ss scene in
      let a : ℕ = from + 1 in
      let n : ℕ = end - (from + 1) in
      let inner : List ℕ = inside ss scene from end in
      let within' = within p a n in
      let above : AllByRecursion (λ t. from < t) inner =
      all_weaker (λ t. (a ≤ t) × (t < a + n)) (λ t. from < t) inner (λ t k. let l : a ≤ t = k.0 in omega arith) within' in
      let below : AllByRecursion (λ t. t < end) inner =
      all_weaker (λ t. (a ≤ t) × (t < a + n)) (λ t. t < end) inner (λ t k. let u : t < a + n = k.1 in omega arith) within' in
      subst Rises (sym (ends ss scene from end some)) (rises_push (from ∷ inner) end (above, rises_range p a n) (some, below))
]

pub stamps_are : (comment : List ℕ) (ss : List Signal) (scene : ℕ → Scene) (from end : ℕ) → Feedless comment → AllByRecursion IsSmall ss
    → 5 * (from + 1) < 2 ^ 64 → 5 * (end + 1) < 2 ^ 64 → StampsAre (stamped ss scene from end) from end (text_of comment ss scene from end)
stamps_are comment ss scene from end plain small begins low =
    let five : List ℕ → List ℕ = map (λ u. 5 * u) in
    let inner : List ℕ = inside ss scene from end in
    let are = stamps_of comment ss scene from end plain small begins low in
    record {
      are = are;
      rise = subst Rises (sym are) (rises_fives (stamped ss scene from end) (rises_stamped ss scene from end));
      behind = five (inner ++ last_of from end);
      first = are;
      front = five (from ∷ inner);
      last = λ some. are ∙ ap five (ends ss scene from end some) ∙ map-append (λ u. 5 * u) (from ∷ inner) (end ∷ []);
    }

-- ---- the law
pub stamps_told : StampsAreTold
stamps_told dump window breach comment table trace valid is sound plain =
    let limit : trace.horizon ≤ 2 ^ 40 = is.horizon in
    let rises : window.from < window.to = sound.some in
    let within' : window.to ≤ 2 ^ 40 = sound.within in
    let end : ℕ = end_of_dump window trace.horizon in
    stamps_are comment (signals dump (lanes table trace.list)) (scene_at dump breach table trace.list) window.from end plain
    (signals_small dump table trace.list valid) (omega arith) (let e : 5 * (end + 1) < 2 ^ 64 = omega arith in e)
