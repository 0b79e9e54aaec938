-- JSON values that have no float and nest no deeper than so much.
use Rattle.std.proofs.Common.{◌≡◌, ℕ, suc, ◌≤◌, max, Bool, true, false, ◌||◌, List, [], ◌∷◌, ◌++◌, if◌then◌else◌, map, inl, inr, arith, refl, ap, ◌∙◌}
use Rattle.std.specs.List.{flat_map}
use Rattle.bus_strings.specs.Members.{In}
use Rattle.serde_json.specs.Data.{Data, array, object, Members, no_members, member, depth, items_depth, members_depth}
use Rattle.serde_json.specs.View.{items_of}
use Rattle.serde_json.specs.Written.{has_float, items_have_float, members_have_float}

pub record IsPlain (n : ℕ) (d : Data) : Type 0 where
  pub whole : has_float d ≡ false
  pub deep : depth d ≤ n

-- members that are so
pub record ArePlain (n : ℕ) (ms : Members) : Type 0 where
  pub whole : members_have_float ms ≡ false
  pub deep : members_depth ms ≤ n

-- values that are so
pub record EachPlain (n : ℕ) (ds : List Data) : Type 0 where
  pub whole : items_have_float (items_of ds) ≡ false
  pub deep : items_depth (items_of ds) ≤ n

both : (x y n : ℕ) → x ≤ n → y ≤ n → max x y ≤ n
both x y n h k = omega arith

pub done : (n : ℕ) → ArePlain n no_members
done n = record { whole = refl; deep = omega arith }

pub one : (n : ℕ) (k : List ℕ) (d : Data) (ms : Members) → IsPlain n d → ArePlain n ms → ArePlain n (member k d ms)
one n k d ms a b = record {
  whole = ap (λ v. v || members_have_float ms) a.whole ∙ b.whole;
  deep = both (depth d) (members_depth ms) n a.deep b.deep;
}

pub plain_object : (n : ℕ) (ms : Members) → ArePlain n ms → IsPlain (suc n) (object ms)
plain_object n ms h = record { whole = h.whole; deep = (let d : members_depth ms ≤ n = h.deep in omega arith) }

pub no_more : (n : ℕ) → EachPlain n []
no_more n = record { whole = refl; deep = omega arith }

pub one_more : (n : ℕ) (d : Data) (ds : List Data) → IsPlain n d → EachPlain n ds → EachPlain n (d ∷ ds)
one_more n d ds a b = record {
  whole = ap (λ v. v || items_have_float (items_of ds)) a.whole ∙ b.whole;
  deep = both (depth d) (items_depth (items_of ds)) n a.deep b.deep;
}

or_false : (a b : Bool) → (a || b) ≡ false → (a ≡ false) × (b ≡ false)
or_false true b h = absurd cc
or_false false b h = (refl, h)

parted : (n : ℕ) (d : Data) (ds : List Data) → EachPlain n (d ∷ ds) → IsPlain n d × EachPlain n ds
parted n d ds h =
    let whole : (has_float d || items_have_float (items_of ds)) ≡ false = h.whole in
    let deep : max (depth d) (items_depth (items_of ds)) ≤ n = h.deep in
    let none = or_false (has_float d) (items_have_float (items_of ds)) whole in
    (record { whole = none.0; deep = omega (arith, deep) }, record { whole = none.1; deep = omega (arith, deep) })

pub each_plain : {A : Type 0} (n : ℕ) (f : A → Data) (xs : List A) → ((x : A) → In x xs → IsPlain n (f x)) → EachPlain n (map f xs)
each_plain n f [] h = no_more n
each_plain n f (x ∷ xs) h = one_more n (f x) (map f xs) (h x (inl refl)) (each_plain n f xs (λ y i. h y (inr i)))

pub plain_append : (n : ℕ) (ds es : List Data) → EachPlain n ds → EachPlain n es → EachPlain n (ds ++ es)
plain_append n [] es h k = k
plain_append n (d ∷ ds) es h k =
    let parts = parted n d ds h in
    one_more n d (ds ++ es) parts.0 (plain_append n ds es parts.1 k)

pub plain_flat : {A : Type 0} (n : ℕ) (f : A → List Data) (xs : List A) → ((x : A) → EachPlain n (f x)) → EachPlain n (flat_map f xs)
plain_flat n f [] h = no_more n
plain_flat n f (x ∷ xs) h = plain_append n (f x) (flat_map f xs) (h x) (plain_flat n f xs h)

-- none of them where a test says so
pub plain_unless : (n : ℕ) (test : Bool) (ds : List Data) → EachPlain n ds → EachPlain n (if test then [] else ds)
plain_unless n true ds h = no_more n
plain_unless n false ds h = h

pub plain_list : (n : ℕ) (ds : List Data) → EachPlain n ds → IsPlain (suc n) (array (items_of ds))
plain_list n ds h = record { whole = h.whole; deep = (let d : items_depth (items_of ds) ≤ n = h.deep in omega arith) }
