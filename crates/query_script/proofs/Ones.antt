-- A value with 1 in the place of each number has the same texts, items, keys and members.
use Rattle.std.proofs.Common.{◌≡◌, ℕ, List, ◌∷◌, map, Option, Some, None, option_map, refl, ap, ◌∙◌}
use Rattle.std.proofs.lemmas.Option.{slice_get-map}
use Rattle.std.specs.List.{list_all}
use Rattle.std.specs.Ordering.{match_ordering, nat_cmp}
use Rattle.std.specs.Cmp.Lexicographic.{slice_cmp}
use Rattle.std.specs.Prelude.{slice_get, unwrap_or}
use Rattle.std.specs.declared.cmp.Ordering.{Ordering}
use Rattle.std.specs.declared.cmp.Ordering.TheVariants.{Less, Equal, Greater}
use Rattle.serde_json.specs.Data.{Data, null, boolean, number, string, array, object, Items, no_items, item, Members, no_members, member}
use Rattle.serde_json.specs.Find.{as_object, get, get_member}
use Rattle.graph_model.specs.QueryLine.{has_query_keys, is_query_key, keys_of}
use Rattle.graph_model.specs.QueryPlaces.{as_list, list_of, place, text_of, word_of}
use Rattle.query_script.specs.WithOnes.{items_with_ones, members_with_ones, with_ones}

list_of-ones : (ds : Items) → list_of (items_with_ones ds) ≡ map with_ones (list_of ds)
list_of-ones no_items = refl
list_of-ones (item d ds) = ap (λ more. with_ones d ∷ more) (list_of-ones ds)

pub as_list-ones : (d : Data) → as_list (with_ones d) ≡ option_map (map with_ones) (as_list d)
as_list-ones null = refl
as_list-ones (boolean b) = refl
as_list-ones (number n) = refl
as_list-ones (string s) = refl
as_list-ones (array ds) = ap Some (list_of-ones ds)
as_list-ones (object ms) = refl

or_null : (o : Option Data) → unwrap_or (option_map with_ones o) null ≡ with_ones (unwrap_or o null)
or_null None = refl
or_null (Some d) = refl

pub place-ones : (i : ℕ) (items : List Data) → place i (map with_ones items) ≡ with_ones (place i items)
place-ones i items = ap (λ o. unwrap_or o null) (slice_get-map with_ones items i) ∙ or_null (slice_get items i)

pub text-ones : (d : Data) → text_of (with_ones d) ≡ text_of d
text-ones null = refl
text-ones (boolean b) = refl
text-ones (number n) = refl
text-ones (string s) = refl
text-ones (array ds) = refl
text-ones (object ms) = refl

pub word-ones : (items : List Data) → word_of (map with_ones items) ≡ word_of items
word-ones items = ap text_of (place-ones 0 items) ∙ text-ones (place 0 items)

turned : (o : Ordering) (a : Option Data) (e : Data) → match_ordering o (option_map with_ones a) (Some (with_ones e)) (option_map with_ones a) ≡ option_map with_ones (match_ordering o a (Some e) a)
turned Less a e = refl
turned Equal a e = refl
turned Greater a e = refl

member-ones : (k : List ℕ) (ms : Members) → get_member k (members_with_ones ms) ≡ option_map with_ones (get_member k ms)
member-ones k no_members = refl
member-ones k (member l e ms) =
    ap (λ found. match_ordering (slice_cmp nat_cmp k l) found (Some (with_ones e)) found) (member-ones k ms)
    ∙ turned (slice_cmp nat_cmp k l) (get_member k ms) e

pub get-ones : (k : List ℕ) (d : Data) → get k (with_ones d) ≡ option_map with_ones (get k d)
get-ones k null = refl
get-ones k (boolean b) = refl
get-ones k (number n) = refl
get-ones k (string s) = refl
get-ones k (array ds) = refl
get-ones k (object ms) = member-ones k ms

keys-ones : (ms : Members) → keys_of (members_with_ones ms) ≡ keys_of ms
keys-ones no_members = refl
keys-ones (member k d ms) = ap (λ more. k ∷ more) (keys-ones ms)

pub has_keys-ones : (d : Data) → has_query_keys (as_object (with_ones d)) ≡ has_query_keys (as_object d)
has_keys-ones null = refl
has_keys-ones (boolean b) = refl
has_keys-ones (number n) = refl
has_keys-ones (string s) = refl
has_keys-ones (array ds) = refl
has_keys-ones (object ms) = ap (λ keys. list_all is_query_key keys) (keys-ones ms)
