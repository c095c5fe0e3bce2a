-- The types of a store's nodes, by its numbers.
use Rattle.std.proofs.Common.{◌≡◌, ℕ, ◌<◌, ◌≤◌, List, [], ◌∷◌, ◌++◌, Bool, true, false, not, cond, Option, Some, None, length, refl, sym, ap, ◌∙◌, ⊎_elim}
use Rattle.std.specs.Prelude.{is_some, option_map, position, IfSome}
use Rattle.std.specs.Option.{option_map_or}
use Rattle.std.specs.List.{list_any}
use Rattle.std.proofs.lemmas.List.{get_or-map, length-map}
use Rattle.std.proofs.lemmas.List.Quantifiers.{position-Some}
use Rattle.std.proofs.lemmas.Bool.{cases_lt, or_right, true≢false, or_parts}
use Rattle.std.proofs.lemmas.Option.{none-some}
use Rattle.indexmap.specs.IndexSet.{insert_key}
use Rattle.graph_model.specs.declared.events.Entity.TheVariants.{Node}
use Rattle.graph_model.specs.Names.{same_name}
use Rattle.graph_model.specs.Refusal.{Retype, Limit}
use Rattle.graph_model.specs.World.{names_node, type_of}
use Rattle.graph_model.specs.Accepting.{passed_limit, type_refusal}
use Rattle.world_laws.proofs.Order.{same_name-exact}
use Rattle.graph_store.specs.declared.store.Store.TheInside.{Inside}
use Rattle.graph_store.specs.StoreInvariant.{contents, IsStored}
use Rattle.graph_store.specs.TypeIndex.{kind_in}
use Rattle.graph_store.specs.WithType.{with_type}
use Rattle.graph_store.specs.Contents.{name_at}
use Rattle.graph_store.proofs.AcceptNode.{name_at-insert}
use Rattle.graph_store.proofs.Readers.{none_found}
use Rattle.graph_store.proofs.TypeLaws.{Rises-types_named, type_of-number, kind_in-within, kind_in-past, put_type-known, type_name-there}
use Rattle.graph_store.proofs.Results.{insert_key-known}

none_of : (o : Option ℕ) (f : ℕ → List ℕ) → option_map f o ≡ None → o ≡ None
none_of None f e = refl
none_of (Some x) f e = absurd (none-some (f x) (sym e))

absent_of : (o : Option (List ℕ)) → is_some o ≡ false → o ≡ None
absent_of None e = refl
absent_of (Some x) e = absurd (true≢false e)

if_some : (o : Option ℕ) (P : ℕ → Type 0) → ((k : ℕ) → o ≡ Some k → P k) → IfSome o P
if_some None P f = tt
if_some (Some k) P f = f k refl

pub is_some-map : (f : ℕ → List ℕ) (o : Option ℕ) → is_some (option_map f o) ≡ is_some o
is_some-map f None = refl
is_some-map f (Some x) = refl

module _ (s : Inside) (h : IsStored s) where
  names_apart : (i j : ℕ) → i < length s.nodes.names → j < length s.nodes.names → name_at s.nodes.names i ≡ name_at s.nodes.names j → i ≡ j
  names_apart i j lt below same =
      h.contents_are.nodes_told.apart i j (rw length-map lt) (rw length-map below)
      (get_or-map Node s.nodes.names i [] (Node []) lt ∙ (ap Node same ∙ sym (get_or-map Node s.nodes.names j [] (Node []) below)))

  -- the type of a number's node is that of its number
  pub kind_of-number : (n : ℕ) → n < length s.nodes.names → type_of (contents s).types (name_at s.nodes.names n) ≡ option_map (name_at s.kinds.names) (kind_in s.types.numbers n)
  kind_of-number n lt = type_of-number s.nodes.names s.kinds.names names_apart s.types.numbers h.typed_within n lt

  pub kind_within : (o : Option ℕ) (n : ℕ) → o ≡ kind_in s.types.numbers n → IfSome o (λ kind. kind < length s.kinds.names)
  kind_within o n e = if_some o (λ kind. kind < length s.kinds.names) (λ k f. kind_in-within s.nodes.names s.kinds.names s.types.numbers h.typed_within n k (sym e ∙ f))

  -- and so is that of a name that is found
  pub kind_found : (node : List ℕ) (n : ℕ) → position (same_name node) s.nodes.names ≡ Some n → option_map (name_at s.kinds.names) (kind_in s.types.numbers n) ≡ type_of (contents s).types node
  kind_found node n e =
      let found = position-Some (same_name node) s.nodes.names n [] e in
      sym (kind_of-number n found.0) ∙ ap (type_of (contents s).types) (sym (same_name-exact node (name_at s.nodes.names n) found.1))

  -- a node that is not found has no type
  pub kind_missed : (node : List ℕ) → position (same_name node) s.nodes.names ≡ None → type_of (contents s).types node ≡ None
  kind_missed node e =
      absent_of (type_of (contents s).types node) (or_parts (names_node (contents s).accepted node) (is_some (type_of (contents s).types node)) (sym (h.contents_are.known_nodes node) ∙ none_found (same_name node) s.nodes.names e)).1

  -- the number of a node that has no type has none
  pub number_untyped : (node : List ℕ) (n : ℕ) → position (same_name node) (insert_key same_name s.nodes.names node) ≡ Some n → type_of (contents s).types node ≡ None → kind_in s.types.numbers n ≡ None
  number_untyped node n e absent = ⊎_elim
      (λ (lt : n < length s.nodes.names).
      none_of (kind_in s.types.numbers n) (name_at s.kinds.names)
      (sym (kind_of-number n lt)
      ∙ (ap (type_of (contents s).types) (sym (name_at-insert s.nodes.names node n lt) ∙ sym (same_name-exact node (name_at (insert_key same_name s.nodes.names node) n) (position-Some (same_name node) (insert_key same_name s.nodes.names node) n [] e).1)) ∙ absent)))
      (λ (past : length s.nodes.names ≤ n). kind_in-past s.nodes.names s.kinds.names s.types.numbers h.typed_within n past)
      (cases_lt n (length s.nodes.names))

  -- a node and the name of its type are known
  pub node_known : (node kind : List ℕ) → type_of (contents s).types node ≡ Some kind → list_any (same_name node) s.nodes.names ≡ true
  node_known node kind e = h.contents_are.known_nodes node ∙ or_right (names_node (contents s).accepted node) (is_some (type_of (contents s).types node)) (ap is_some e)

  pub kind_known : (node kind : List ℕ) → type_of (contents s).types node ≡ Some kind → list_any (same_name kind) s.kinds.names ≡ true
  kind_known node kind e = h.contents_are.known_kinds kind ∙ type_name-there (contents s).types node kind e

  -- a type given again changes nothing
  pub typed_again : (node kind : List ℕ) → is_some (type_of (contents s).types node) ≡ true → type_refusal (contents s).accepted (contents s).types node kind ≡ None → with_type (contents s) node kind ≡ contents s
  typed_again node kind has fine = go (type_of (contents s).types node) refl has fine
    where
      same : type_of (contents s).types node ≡ Some kind → with_type (contents s) node kind ≡ contents s
      same e = λ i. record (contents s) {
        types = put_type-known (node, kind) (contents s).types (Rises-types_named s.nodes.names s.kinds.names s.types.numbers) has i;
        nodes = insert_key-known same_name s.nodes.names node (node_known node kind e) i;
        kinds = insert_key-known same_name s.kinds.names kind (kind_known node kind e) i;
      }

      own : (kept : List ℕ) (b : Bool) → same_name kept kind ≡ b → type_of (contents s).types node ≡ Some kept
          → cond (not b) (Some Retype) (cond (is_some (passed_limit (contents s).accepted ((contents s).types ++ (node, kind) ∷ []))) (Some Limit) None) ≡ None → with_type (contents s) node kind ≡ contents s
      own kept true e own_kept f = same (own_kept ∙ ap Some (same_name-exact kept kind e))
      own kept false e own_kept f = absurd (none-some Retype (sym f))

      go : (o : Option (List ℕ)) → type_of (contents s).types node ≡ o → is_some o ≡ true
          → cond (option_map_or (λ kept. not (same_name kept kind)) o false) (Some Retype) (cond (is_some (passed_limit (contents s).accepted ((contents s).types ++ (node, kind) ∷ []))) (Some Limit) None) ≡ None → with_type (contents s) node kind ≡ contents s
      go None e k f = cc
      go (Some kept) e k f = own kept (same_name kept kind) refl e f
