-- Properties as they lie in memory, and as pairs.
use Rattle.std.proofs.Common.{◌≡◌, ℕ, suc, zero, ◌+◌, ◌<◌, Bool, true, false, not, ◌||◌, List, [], ◌∷◌, length, map, Some, cond, refl, sym, ap, arith}
use Rattle.std.specs.Prelude.{slice_get, unwrap_or, slice_index_or}
use Rattle.std.specs.List.{list_any, position, position_or_len, insert, AllByRecursion}
use Rattle.std.specs.declared.cmp.Ordering.TheVariants.{Less}
use Rattle.std.specs.Ordering.{is_lt, is_eq, ordering_reverse}
use Rattle.std.proofs.lemmas.Bool.{cond_both, or_parts}
use Rattle.std.proofs.lemmas.Bool.Decides.{nat_tests}
use Rattle.std.proofs.lemmas.List.Sums.{prefix_len-le-length}
use Rattle.graph_model.specs.declared.properties.Value.{Value}
use Rattle.graph_model.specs.declared.properties.Prop.{Prop}
use Rattle.std.specs.declared.cmp.Ordering.{Ordering}
use Rattle.std.specs.declared.cmp.Ordering.TheVariants.{Equal, Greater}
use Rattle.std.proofs.Math.Numerals.{one-add}
use Rattle.std.proofs.lemmas.List.{length-map}
use Rattle.graph_model.specs.Names.{name_cmp, same_name, name_total}
use Rattle.graph_model.specs.Pairs.{pairs}
use Rattle.graph_model.specs.Props.{has_key, put_prop, KeysRise}

each_weaker : {X : Type 0} (P Q : X → Type 0) → ((x : X) → P x → Q x) → (xs : List X) → AllByRecursion P xs → AllByRecursion Q xs
each_weaker P Q f [] h = tt
each_weaker P Q f (x ∷ xs) h = (f x h.0, each_weaker P Q f xs h.1)

pub has_key-pairs : (key : List ℕ) (items : List Prop) → has_key key (pairs items) ≡ list_any (λ p. same_name key p.key) items
has_key-pairs key [] = refl
has_key-pairs key (x ∷ xs) = ap (λ t. same_name key x.key || t) (has_key-pairs key xs)

pub first_or_len : {X : Type 0} (p : X → Bool) (xs : List X) → unwrap_or (position p xs) (length xs) ≡ position_or_len p xs
first_or_len p xs = grind (arith, prefix_len-le-length, nat_tests)

pub key_item : (items : List Prop) (i : ℕ) (x : Prop) → i < length items → x ≡ slice_index_or items i x → slice_get (map (λ (p : List ℕ × Value). p.0) (pairs items)) i ≡ Some x.key
key_item [] i x h e = absurd (omega arith)
key_item (y ∷ ys) zero x h e = ap (λ (z : Prop). Some z.key) (sym e)
key_item (y ∷ ys) (suc i) x h e = key_item ys i x (omega arith) e

pub value_item : (items : List Prop) (i : ℕ) (x : Prop) → i < length items → x ≡ slice_index_or items i x → slice_get (map (λ (p : List ℕ × Value). p.1) (pairs items)) i ≡ Some x.value
value_item [] i x h e = absurd (omega arith)
value_item (y ∷ ys) zero x h e = ap (λ (z : Prop). Some z.value) (sym e)
value_item (y ∷ ys) (suc i) x h e = value_item ys i x (omega arith) e

put_item_cases : (x y : Prop) (ys : List Prop) (n : ℕ) → put_prop (x.key, x.value) (pairs ys) ≡ pairs (insert ys n x) → (t : Bool)
    → cond t ((x.key, x.value) ∷ (y.key, y.value) ∷ pairs ys) ((y.key, y.value) ∷ put_prop (x.key, x.value) (pairs ys)) ≡ pairs (insert (y ∷ ys) (cond (not t) (1 + n) 0) x)
put_item_cases x y ys n h true = refl
put_item_cases x y ys n h false = rw one-add (ap (λ ps. (y.key, y.value) ∷ ps) h)

-- a property, put at the first place whose key is greater
pub put_item : (x : Prop) (items : List Prop) → put_prop (x.key, x.value) (pairs items) ≡ pairs (insert items (position_or_len (λ p. is_lt (name_cmp x.key p.key)) items) x)
put_item x [] = refl
put_item x (y ∷ ys) = put_item_cases x y ys (position_or_len (λ p. is_lt (name_cmp x.key p.key)) ys) (put_item x ys) (is_lt (name_cmp x.key y.key))

-- a key that is not among rising keys leaves them rising
not_same_less : (a b : List ℕ) → same_name a b ≡ false → is_lt (name_cmp a b) ≡ false → name_cmp b a ≡ Less
not_same_less a b h k = let e = name_total.antisymm b a in go (name_cmp a b) h k e
  where
    go : (o : Ordering) → is_eq o ≡ false → is_lt o ≡ false → name_cmp b a ≡ ordering_reverse o → name_cmp b a ≡ Less
    go Less h k e = cc
    go Equal h k e = cc
    go Greater h k e = e

pub is_lt-Less : (o : Ordering) → is_lt o ≡ true → o ≡ Less
is_lt-Less Less h = refl
is_lt-Less Equal h = cc
is_lt-Less Greater h = cc

each_put_prop : (P : List ℕ × Value → Type 0) (p : List ℕ × Value) (qs : List (List ℕ × Value)) → P p → AllByRecursion P qs → AllByRecursion P (put_prop p qs)
each_put_prop P p [] h k = (h, tt)
each_put_prop P p (q ∷ qs) h k = cond_both (is_lt (name_cmp p.0 q.0)) (p ∷ q ∷ qs) (q ∷ put_prop p qs) (AllByRecursion P) (λ e. (h, k)) (λ e. (k.0, each_put_prop P p qs h k.1))

pub KeysRise-put : (p : List ℕ × Value) (qs : List (List ℕ × Value)) → has_key p.0 qs ≡ false → KeysRise qs → KeysRise (put_prop p qs)
KeysRise-put p [] h k = (tt, tt)
KeysRise-put p (q ∷ qs) h k =
    let m = or_parts (same_name p.0 q.0) (has_key p.0 qs) h in
    cond_both (is_lt (name_cmp p.0 q.0)) (p ∷ q ∷ qs) (q ∷ put_prop p qs) KeysRise
    (λ e. let less = is_lt-Less (name_cmp p.0 q.0) e in
    ((less, each_weaker (λ (r : List ℕ × Value). name_cmp q.0 r.0 ≡ Less) (λ (r : List ℕ × Value). name_cmp p.0 r.0 ≡ Less) (λ r n. name_total.trans p.0 q.0 r.0 less n) qs k.0), k))
    (λ e. (each_put_prop (λ (r : List ℕ × Value). name_cmp q.0 r.0 ≡ Less) p qs (not_same_less p.0 q.0 m.0 e) k.0, KeysRise-put p qs m.1 k.1))

pub length-put_prop : (p : List ℕ × Value) (qs : List (List ℕ × Value)) → length (put_prop p qs) ≡ suc (length qs)
length-put_prop p [] = refl
length-put_prop p (q ∷ qs) = cond_both (is_lt (name_cmp p.0 q.0)) (p ∷ q ∷ qs) (q ∷ put_prop p qs) (λ ps. length ps ≡ suc (suc (length qs))) (λ e. refl) (λ e. ap suc (length-put_prop p qs))

pub length-pairs : (items : List Prop) → length (pairs items) ≡ length items
length-pairs items = length-map items (λ p. (p.key, p.value))
