-- The steps before the first written byte.
use Rattle.std.specs.Prelude.{◌≡◌, ℕ, ◌≤◌, List, Option, Some, Result, Ok, Err}
use Rattle.std.proofs.Common.{refl, sym, subst}
use Rattle.bus_text.specs.AllOf.{◌>>=◌}
use Rattle.bus_command.specs.declared.outcome.Outcome.{Outcome}
use Rattle.bus_command.specs.Kinds.{Kind, NoForm, NotRead, TooMuch, Wrong, Late, NotWritten, NoRoom, Answer, kind_of}
use Rattle.bus_command.specs.Stages.{stage_in, GivesStop, Gives, refusal_in}
use Rattle.bus_command.specs.Outside.{Seen, both}
use Rattle.bus_command.specs.Readers.{Reader, ForKnown, one_source, two_sources, Broken, Past, Judged, ReadsBy, Reads, reach_at, reach}
use Rattle.bus_command.specs.Steps.{StopsAt, Takes, StopsFirst, Prepares}
use Rattle.bus_command.proofs.StageLaws.{if_map, some_map, some_all, where_told, stop_early, gives_first, no_refusal, refused_first}
use Rattle.bus_command.proofs.ReachLaws.{untouched, nothing_within, reads_own, reads_before, first_counts, second_counts}

pub both_map : (a b : Option (List ℕ)) (P Q : List ℕ → List ℕ → Type 0) → ((x y : List ℕ) → P x y → Q x y)
    → ForKnown a (λ x. ForKnown b (λ y. P x y)) → ForKnown a (λ x. ForKnown b (λ y. Q x y))
both_map a b P Q f h = some_map a (λ x. ForKnown b (λ y. P x y)) (λ x. ForKnown b (λ y. Q x y))
    (λ x k. some_map b (λ y. P x y) (λ y. Q x y) (f x) k) h

-- a command that names the first source alone
pub prepares_one : {R X Y : Type 0} (IsOf : X → Y → Type 0) (reader : Reader) (made : List ℕ → Result Y (Outcome R)) (old new second : Seen)
    (r : Result X (Outcome R))
    → Takes IsOf 1 reader made old new r → Prepares IsOf (one_source reader) (λ text. refusal_in (made text)) (λ first other. made first)
    (both old second) (both new second) r
prepares_one IsOf reader made old new second (Ok x) t = record {
  gives = t.gives;
  first = t.reads;
  second = refl;
  order = if_map old.bytes _ _ (λ text g. no_refusal IsOf x (made text) (λ refusal. ⊥) g) (where_told old.bytes _ t.gives);
  early = tt;
  counts = record { first = t.counts; second = refl };
}
prepares_one IsOf reader made old new second (Err o) t = record {
  gives = t.gives;
  first = reads_own reader 1 (kind_of o) old new t.stops t.reads;
  second = refl;
  order = if_map old.bytes _ _ (λ text g. refused_first o (made text) (both old second) (both new second) (stop_early 1 (kind_of o) t.stops)
      refl g) (where_told old.bytes _ t.gives);
  early = stop_early 1 (kind_of o) t.stops;
  counts = first_counts (one_source reader) (kind_of o) old new second refl t.stops t.counts;
}

-- the second source isn't pulled where the first step stopped
unpulled : (k : Kind) (reader : Reader) (second : Seen) → StopsAt 1 k → Reads (Some reader) (reach 2 k) second second
unpulled NoForm reader second h = absurd h
unpulled (NotRead source) reader second h = subst (λ n. ReadsBy reader (reach_at 2 n Broken) second second) (sym h)
    (untouched reader second)
unpulled (TooMuch source) reader second h = subst (λ n. ReadsBy reader (reach_at 2 n Past) second second) (sym h) (untouched reader second)
unpulled (Wrong source) reader second h = subst (λ n. ReadsBy reader (reach_at 2 n Judged) second second) (sym h) (untouched reader second)
unpulled Late reader second h = absurd h
unpulled NotWritten reader second h = absurd h
unpulled NoRoom reader second h = nothing_within reader second
unpulled Answer reader second h = absurd h

-- a command that names both, where the first step stopped
pub prepares_none : {R X Y V W : Type 0} (IsOf : X → Y → Type 0) (IsNext : V → W → Type 0) (one two : Reader)
    (made : List ℕ → Result Y (Outcome R)) (next : Y → List ℕ → Result W (Outcome R)) (old new second : Seen) (o : Outcome R)
    → ((y : Y) (text : List ℕ) → 2 ≤ stage_in (next y text)) → Takes IsOf 1 one made old new (Err o)
    → Prepares IsNext (two_sources one two) (λ text. refusal_in (made text)) (λ a b. made a >>= λ y. next y b) (both old second)
    (both new second) (Err o)
prepares_none IsOf IsNext one two made next old new second o late t = record {
  gives = some_map old.bytes _ _ (λ a g. some_all second.bytes (λ b. GivesStop (kind_of o) o (made a >>= λ y. next y b))
      (λ b. gives_first (kind_of o) o (made a) (λ y. next y b) t.stops (λ y. late y b) g)) t.gives;
  first = reads_own one 1 (kind_of o) old new t.stops t.reads;
  second = unpulled (kind_of o) two second t.stops;
  order = if_map old.bytes _ _ (λ text g. refused_first o (made text) (both old second) (both new second) (stop_early 1 (kind_of o) t.stops)
      refl g) (where_told old.bytes _ t.gives);
  early = stop_early 1 (kind_of o) t.stops;
  counts = first_counts (two_sources one two) (kind_of o) old new second refl t.stops t.counts;
}

-- and where it gave a value
joined : {R X Y V W : Type 0} (IsOf : X → Y → Type 0) (IsNext : V → W → Type 0) (made : List ℕ → Result Y (Outcome R))
    (next : Y → List ℕ → Result W (Outcome R)) (first second : Option (List ℕ)) (x : X) (r : Result V (Outcome R))
    → ForKnown first (λ a. Gives IsOf (Ok x) (made a)) → ((y : Y) → IsOf x y → ForKnown second (λ b. Gives IsNext r (next y b)))
    → ForKnown first (λ a. ForKnown second (λ b. Gives IsNext r (made a >>= λ y. next y b)))
joined IsOf IsNext made next first second x r g h = some_map first _ _
    (λ a p. some_map second _ _ (λ b q. subst (λ d. Gives IsNext r (d >>= λ y. next y b)) (sym p.1) q) (h p.0 p.2)) g

pub prepares_both : {R X Y V W : Type 0} (IsOf : X → Y → Type 0) (IsNext : V → W → Type 0) (one two : Reader)
    (made : List ℕ → Result Y (Outcome R)) (next : Y → List ℕ → Result W (Outcome R)) (old new old' new' : Seen) (x : X) (y : Y)
    (r : Result V (Outcome R))
    → ((z : Y) → IsOf x z → z ≡ y) → Takes IsOf 1 one made old new (Ok x) → Takes IsNext 2 two (next y) old' new' r
    → Prepares IsNext (two_sources one two) (λ text. refusal_in (made text)) (λ a b. made a >>= λ y. next y b) (both old old')
    (both new new') r
prepares_both {R} {X} {Y} {V} {W} IsOf IsNext one two made next old new old' new' x y (Ok v) only t u = record {
  gives = joined IsOf IsNext made next old.bytes old'.bytes x (Ok v) t.gives
      (λ z is. subst (λ y. ForKnown old'.bytes (λ b. Gives IsNext (Ok v) (next y b))) (sym (only z is)) u.gives);
  first = t.reads;
  second = u.reads;
  order = if_map old.bytes _ _ (λ text g. no_refusal IsOf x (made text) (λ refusal. ⊥) g) (where_told old.bytes _ t.gives);
  early = tt;
  counts = record { first = t.counts; second = u.counts };
}
prepares_both {R} {X} {Y} {V} {W} IsOf IsNext one two made next old new old' new' x y (Err o) only t u = record {
  gives = joined IsOf IsNext made next old.bytes old'.bytes x (Err o) t.gives
      (λ z is. subst (λ y. ForKnown old'.bytes (λ b. Gives IsNext (Err o) (next y b))) (sym (only z is)) u.gives);
  first = reads_before one (kind_of o) old new u.stops t.reads;
  second = reads_own two 2 (kind_of o) old' new' u.stops u.reads;
  order = if_map old.bytes _ _ (λ text g. no_refusal IsOf x (made text) (StopsFirst {X = V} (both old old') (both new new') (Err o)) g)
      (where_told old.bytes _ t.gives);
  early = stop_early 2 (kind_of o) u.stops;
  counts = second_counts (two_sources one two) (kind_of o) old new old' new' refl t.counts u.stops u.counts;
}
