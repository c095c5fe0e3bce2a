-- Types of nodes, by numbers.
use Rattle.std.proofs.Common.{◌≡◌, ℕ, ◌<◌, ◌≤◌, List, [], ◌∷◌, Bool, true, false, not, cond, ◌||◌, Option, Some, None, length, refl, sym, ap, ◌∙◌, arith, subst}
use Rattle.std.specs.Prelude.{fold, is_some, nat_eq, option_map}
use Rattle.std.specs.Option.{option_or, option_map_or}
use Rattle.std.specs.List.{AllByRecursion, find, list_any}
use Rattle.std.specs.Ordering.{is_eq, is_lt, is_gt}
use Rattle.std.specs.declared.cmp.Ordering.{Ordering}
use Rattle.std.specs.declared.cmp.Ordering.TheVariants.{Less, Equal, Greater}
use Rattle.std.proofs.Math.Bool.{or_assoc, or_comm}
use Rattle.std.proofs.lemmas.Bool.{cond_both, eqb-true, eq-eqb, or_left, or_right, false_from_ne_true, true≢false}
use Rattle.std.proofs.lemmas.Option.{none-some, same_Some}
use Rattle.indexmap.specs.IndexSet.{insert_key}
use Rattle.graph_model.proofs.PropItems.{is_lt-Less}
use Rattle.graph_model.specs.Names.{same_name}
use Rattle.graph_model.specs.Rising.{Rises}
use Rattle.graph_model.specs.World.{type_cmp, type_of, put_type}
use Rattle.graph_model.specs.Accepting.{type_names, is_other_type}
use Rattle.world_laws.proofs.Filters.{each_weaker}
use Rattle.world_laws.proofs.Order.{type_total, same_name-refl, same_name-exact}
use Rattle.world_laws.proofs.RisingItems.{Rises-put}
use Rattle.graph_store.specs.Contents.{name_at}
use Rattle.graph_store.specs.TypeIndex.{types_named, kind_in, IsTypeIndex}
use Rattle.graph_store.proofs.AcceptNode.{name_at-insert}
use Rattle.graph_store.proofs.AcceptEdge.{length-insert_key}
use Rattle.graph_store.proofs.Joined.{or-nothing, option_or-none}

-- numbers that keep their names keep the types
pub types_named-same : (nodes nodes' kinds kinds' : List (List ℕ)) → ((i : ℕ) → i < length nodes → name_at nodes' i ≡ name_at nodes i) → ((i : ℕ) → i < length kinds → name_at kinds' i ≡ name_at kinds i)
    → (numbers : List (ℕ × ℕ)) → IsTypeIndex nodes kinds numbers → types_named nodes' kinds' numbers ≡ types_named nodes kinds numbers
types_named-same nodes nodes' kinds kinds' same same_kinds numbers within = go [] numbers within
  where
    go : (types : List (List ℕ × List ℕ)) (ps : List (ℕ × ℕ)) → IsTypeIndex nodes kinds ps
        → fold (λ ts p. put_type (name_at nodes' p.0, name_at kinds' p.1) ts) types ps ≡ fold (λ ts p. put_type (name_at nodes p.0, name_at kinds p.1) ts) types ps
    go types [] h = refl
    go types (p ∷ ps) h =
        (λ k. fold (λ ts q. put_type (name_at nodes' q.0, name_at kinds' q.1) ts) (put_type (same p.0 h.0.0 k, same_kinds p.1 h.0.1 k) types) ps)
        ∙ go (put_type (name_at nodes p.0, name_at kinds p.1) types) ps h.1

-- a name more leaves the types, and the numbers that have names
pub types_named-insert : (nodes kinds : List (List ℕ)) (name : List ℕ) (numbers : List (ℕ × ℕ)) → IsTypeIndex nodes kinds numbers → types_named (insert_key same_name nodes name) kinds numbers ≡ types_named nodes kinds numbers
types_named-insert nodes kinds name numbers within = types_named-same nodes (insert_key same_name nodes name) kinds kinds (name_at-insert nodes name) (λ i lt. refl) numbers within

pub IsTypeIndex-more : (nodes nodes' kinds kinds' : List (List ℕ)) (numbers : List (ℕ × ℕ)) → length nodes ≤ length nodes' → length kinds ≤ length kinds' → IsTypeIndex nodes kinds numbers → IsTypeIndex nodes' kinds' numbers
IsTypeIndex-more nodes nodes' kinds kinds' numbers more more_kinds within =
    each_weaker (λ (p : ℕ × ℕ). (p.0 < length nodes) × (p.1 < length kinds)) (λ (p : ℕ × ℕ). (p.0 < length nodes') × (p.1 < length kinds')) (λ p w. let a = w.0 in let b = w.1 in (omega arith, omega arith)) numbers within

pub IsTypeIndex-insert : (nodes kinds : List (List ℕ)) (name : List ℕ) (numbers : List (ℕ × ℕ)) → IsTypeIndex nodes kinds numbers → IsTypeIndex (insert_key same_name nodes name) kinds numbers
IsTypeIndex-insert nodes kinds name numbers within = IsTypeIndex-more nodes (insert_key same_name nodes name) kinds kinds numbers (length-insert_key nodes name) (omega arith) within

-- ---- the type of a node

under : (o : Ordering) → is_lt o ≡ true → is_eq o ≡ false
under Less h = refl
under Equal h = cc
under Greater h = cc

over : (o : Ordering) → is_gt o ≡ true → is_eq o ≡ false
over Less h = cc
over Equal h = cc
over Greater h = refl

tie : (o : Ordering) → is_lt o ≡ false → is_gt o ≡ false → is_eq o ≡ true
tie Less h k = cc
tie Equal h k = refl
tie Greater h k = cc

type_of-cons : (t : List ℕ × List ℕ) (types : List (List ℕ × List ℕ)) (n : List ℕ) → type_of (t ∷ types) n ≡ cond (same_name n t.0) (Some t.1) (type_of types n)
type_of-cons t types n =
    elim (same_name n t.0) as (λ b. option_map (λ (q : List ℕ × List ℕ). q.1) (cond b (Some t) (find (λ (q : List ℕ × List ℕ). same_name n q.0) types)) ≡ cond b (Some t.1) (type_of types n)) [ true ↦ refl | false ↦ refl ]

-- types of later nodes have no type for it
type_of-absent : (t : List ℕ × List ℕ) (types : List (List ℕ × List ℕ)) (n : List ℕ) → same_name n t.0 ≡ true → AllByRecursion (λ u. type_cmp t u ≡ Less) types → type_of types n ≡ None
type_of-absent t [] n s h = refl
type_of-absent t (u ∷ types) n s h =
    let other : same_name n u.0 ≡ false = ap (λ m. same_name m u.0) (same_name-exact n t.0 s) ∙ ap is_eq h.0 in
    type_of-cons u types n ∙ (ap (λ b. cond b (Some u.1) (type_of types n)) other ∙ type_of-absent t types n s h.1)

-- a type more is that of its node, unless the node has one
pub type_of-put : (t : List ℕ × List ℕ) (types : List (List ℕ × List ℕ)) (n : List ℕ) → Rises type_cmp types → type_of (put_type t types) n ≡ option_or (type_of types n) (cond (same_name n t.0) (Some t.1) None)
type_of-put t [] n h = type_of-cons t [] n
type_of-put t (u ∷ types) n h =
    cond_both (is_lt (type_cmp t u)) (t ∷ u ∷ types) (cond (is_gt (type_cmp t u)) (u ∷ put_type t types) (u ∷ types)) (λ zs. type_of zs n ≡ option_or (type_of (u ∷ types) n) (cond (same_name n t.0) (Some t.1) None))
    (λ e. let less = is_lt-Less (type_cmp t u) e in
    type_of-cons t (u ∷ types) n ∙ first (same_name n t.0) (λ s. type_of-absent t (u ∷ types) n s (less, each_weaker (λ v. type_cmp u v ≡ Less) (λ v. type_cmp t v ≡ Less) (λ v k. type_total.trans t u v less k) types h.0)))
    (λ e. cond_both (is_gt (type_cmp t u)) (u ∷ put_type t types) (u ∷ types) (λ zs. type_of zs n ≡ option_or (type_of (u ∷ types) n) (cond (same_name n t.0) (Some t.1) None))
    (λ f. type_of-cons u (put_type t types) n ∙ (ap (cond (same_name n u.0) (Some u.1)) (type_of-put t types n h.1)
    ∙ (later (same_name n u.0) ∙ ap (λ o. option_or o (cond (same_name n t.0) (Some t.1) None)) (sym (type_of-cons u types n)))))
    (λ f. tied (same_name n t.0) refl (λ s. ap (λ m. same_name m u.0) (same_name-exact n t.0 s) ∙ tie (type_cmp t u) e f)))
  where
    first : (b : Bool) → (b ≡ true → type_of (u ∷ types) n ≡ None) → cond b (Some t.1) (type_of (u ∷ types) n) ≡ option_or (type_of (u ∷ types) n) (cond b (Some t.1) None)
    first true k = sym (ap (λ o. option_or o (Some t.1)) (k refl))
    first false k = sym (option_or-none (type_of (u ∷ types) n))

    later : (b : Bool) → cond b (Some u.1) (option_or (type_of types n) (cond (same_name n t.0) (Some t.1) None)) ≡ option_or (cond b (Some u.1) (type_of types n)) (cond (same_name n t.0) (Some t.1) None)
    later true = refl
    later false = refl

    tied : (b : Bool) → same_name n t.0 ≡ b → (same_name n t.0 ≡ true → same_name n u.0 ≡ true) → type_of (u ∷ types) n ≡ option_or (type_of (u ∷ types) n) (cond (same_name n t.0) (Some t.1) None)
    tied true s k =
        let own : type_of (u ∷ types) n ≡ Some u.1 = type_of-cons u types n ∙ ap (λ b. cond b (Some u.1) (type_of types n)) (k s) in
        own ∙ sym (ap (λ o. option_or o (cond (same_name n t.0) (Some t.1) None)) own)
    tied false s k = sym (ap (λ b. option_or (type_of (u ∷ types) n) (cond b (Some t.1) None)) s ∙ option_or-none (type_of (u ∷ types) n))

-- a node that has a type keeps the types as they are
pub put_type-known : (t : List ℕ × List ℕ) (types : List (List ℕ × List ℕ)) → Rises type_cmp types → is_some (type_of types t.0) ≡ true → put_type t types ≡ types
put_type-known t [] h k = cc
put_type-known t (u ∷ types) h k =
    cond_both (is_lt (type_cmp t u)) (t ∷ u ∷ types) (cond (is_gt (type_cmp t u)) (u ∷ put_type t types) (u ∷ types)) (λ zs. zs ≡ u ∷ types)
    (λ e. let less = is_lt-Less (type_cmp t u) e in
    absurd (true≢false (sym k ∙ ap is_some (type_of-absent t (u ∷ types) t.0 (same_name-refl t.0) (less, each_weaker (λ v. type_cmp u v ≡ Less) (λ v. type_cmp t v ≡ Less) (λ v j. type_total.trans t u v less j) types h.0)))))
    (λ e. cond_both (is_gt (type_cmp t u)) (u ∷ put_type t types) (u ∷ types) (λ zs. zs ≡ u ∷ types)
    (λ f. ap (λ zs. u ∷ zs) (put_type-known t types h.1 (sym (ap is_some (type_of-cons u types t.0 ∙ ap (λ b. cond b (Some u.1) (type_of types t.0)) (over (type_cmp t u) f))) ∙ k)))
    (λ f. refl))

-- a test of types passes for a new one, or for one of those before
pub any-put_type : (p : List ℕ × List ℕ → Bool) (t : List ℕ × List ℕ) (types : List (List ℕ × List ℕ)) → type_of types t.0 ≡ None → list_any p (put_type t types) ≡ (list_any p types || p t)
any-put_type p t [] h = or-nothing (p t)
any-put_type p t (u ∷ types) h =
    cond_both (is_lt (type_cmp t u)) (t ∷ u ∷ types) (cond (is_gt (type_cmp t u)) (u ∷ put_type t types) (u ∷ types)) (λ zs. list_any p zs ≡ ((p u || list_any p types) || p t))
    (λ e. or_comm (p t) (p u || list_any p types))
    (λ e. cond_both (is_gt (type_cmp t u)) (u ∷ put_type t types) (u ∷ types) (λ zs. list_any p zs ≡ ((p u || list_any p types) || p t))
    (λ f. ap (λ b. p u || b) (any-put_type p t types (sym (type_of-cons u types t.0 ∙ ap (λ b. cond b (Some u.1) (type_of types t.0)) (over (type_cmp t u) f)) ∙ h)) ∙ sym (or_assoc (p u) (list_any p types) (p t)))
    (λ f. absurd (none-some u.1 (sym h ∙ (type_of-cons u types t.0 ∙ ap (λ b. cond b (Some u.1) (type_of types t.0)) (tie (type_cmp t u) e f))))))

-- ---- types by numbers

pub Rises-types_named : (nodes kinds : List (List ℕ)) (numbers : List (ℕ × ℕ)) → Rises type_cmp (types_named nodes kinds numbers)
Rises-types_named nodes kinds numbers = go [] numbers tt
  where
    go : (types : List (List ℕ × List ℕ)) (ps : List (ℕ × ℕ)) → Rises type_cmp types → Rises type_cmp (fold (λ ts p. put_type (name_at nodes p.0, name_at kinds p.1) ts) types ps)
    go types [] h = h
    go types (p ∷ ps) h = go (put_type (name_at nodes p.0, name_at kinds p.1) types) ps (Rises-put type_cmp type_total (name_at nodes p.0, name_at kinds p.1) types h)

-- where numbers have distinct names, the type of a node is that of its number
pub type_of-number : (nodes kinds : List (List ℕ)) → ((i j : ℕ) → i < length nodes → j < length nodes → name_at nodes i ≡ name_at nodes j → i ≡ j) → (numbers : List (ℕ × ℕ)) → IsTypeIndex nodes kinds numbers → (n : ℕ) → n < length nodes
    → type_of (types_named nodes kinds numbers) (name_at nodes n) ≡ option_map (name_at kinds) (kind_in numbers n)
type_of-number nodes kinds apart numbers within n lt = go [] numbers tt within
  where
    same_number : (m : ℕ) → m < length nodes → same_name (name_at nodes n) (name_at nodes m) ≡ nat_eq n m
    same_number m below = turn (nat_eq n m) refl
      where
        turn : (b : Bool) → nat_eq n m ≡ b → same_name (name_at nodes n) (name_at nodes m) ≡ b
        turn true e = subst (λ k. same_name (name_at nodes n) (name_at nodes k) ≡ true) (eqb-true n m e) (same_name-refl (name_at nodes n))
        turn false e = false_from_ne_true (same_name (name_at nodes n) (name_at nodes m)) (λ s. true≢false (sym (eq-eqb n m (apart n m lt below (same_name-exact (name_at nodes n) (name_at nodes m) s))) ∙ e))

    chosen : (b : Bool) (o : Option (List ℕ)) (k : ℕ) (rest : Option ℕ) → option_or (option_or o (cond b (Some (name_at kinds k)) None)) (option_map (name_at kinds) rest) ≡ option_or o (option_map (name_at kinds) (cond b (Some k) rest))
    chosen b (Some x) k rest = refl
    chosen true None k rest = refl
    chosen false None k rest = refl

    go : (types : List (List ℕ × List ℕ)) (ps : List (ℕ × ℕ)) → Rises type_cmp types → IsTypeIndex nodes kinds ps
        → type_of (fold (λ ts p. put_type (name_at nodes p.0, name_at kinds p.1) ts) types ps) (name_at nodes n) ≡ option_or (type_of types (name_at nodes n)) (option_map (name_at kinds) (kind_in ps n))
    go types [] h w = sym (option_or-none (type_of types (name_at nodes n)))
    go types (p ∷ ps) h w =
        go (put_type (name_at nodes p.0, name_at kinds p.1) types) ps (Rises-put type_cmp type_total (name_at nodes p.0, name_at kinds p.1) types h) w.1
        ∙ (ap (λ o. option_or o (option_map (name_at kinds) (kind_in ps n))) (type_of-put (name_at nodes p.0, name_at kinds p.1) types (name_at nodes n) h ∙ ap (λ b. option_or (type_of types (name_at nodes n)) (cond b (Some (name_at kinds p.1)) None)) (same_number p.0 w.0.0))
        ∙ chosen (nat_eq n p.0) (type_of types (name_at nodes n)) p.1 (kind_in ps n))

-- what is found among the numbers is a number of a type
pub kind_in-within : (nodes kinds : List (List ℕ)) (numbers : List (ℕ × ℕ)) → IsTypeIndex nodes kinds numbers → (n k : ℕ) → kind_in numbers n ≡ Some k → k < length kinds
kind_in-within nodes kinds [] w n k e = cc
kind_in-within nodes kinds (p ∷ ps) w n k e = go (kind_in-within nodes kinds ps w.1 n k) (nat_eq n p.0) e
  where
    go : (kind_in ps n ≡ Some k → k < length kinds) → (b : Bool) → cond b (Some p.1) (kind_in ps n) ≡ Some k → k < length kinds
    go later true f = subst (λ m. m < length kinds) (same_Some p.1 k f) w.0.1
    go later false f = later f

-- a number past those of nodes has no type
pub kind_in-past : (nodes kinds : List (List ℕ)) (numbers : List (ℕ × ℕ)) → IsTypeIndex nodes kinds numbers → (n : ℕ) → length nodes ≤ n → kind_in numbers n ≡ None
kind_in-past nodes kinds [] w n le = refl
kind_in-past nodes kinds (p ∷ ps) w n le =
    ap (λ b. cond b (Some p.1) (kind_in ps n)) (false_from_ne_true (nat_eq n p.0) (λ e. let same = eqb-true n p.0 e in let lt = w.0.0 in absurd (omega arith)))
    ∙ kind_in-past nodes kinds ps w.1 n le

-- the name of a type is among the names of types
pub type_name-there : (types : List (List ℕ × List ℕ)) (n k : List ℕ) → type_of types n ≡ Some k → list_any (same_name k) (type_names types) ≡ true
type_name-there [] n k e = cc
type_name-there (t ∷ types) n k e = go (type_name-there types n k) (same_name n t.0) (sym (type_of-cons t types n) ∙ e)
  where
    go : (type_of types n ≡ Some k → list_any (same_name k) (type_names types) ≡ true) → (b : Bool) → cond b (Some t.1) (type_of types n) ≡ Some k → (same_name k t.1 || list_any (same_name k) (type_names types)) ≡ true
    go later true f = or_left (same_name k t.1) (list_any (same_name k) (type_names types)) (ap (same_name k) (same_Some t.1 k f) ∙ same_name-refl k)
    go later false f = or_right (same_name k t.1) (list_any (same_name k) (type_names types)) (later f)

-- a node's own type is no other
pub own_type : (types : List (List ℕ × List ℕ)) (n k : List ℕ) → type_of types n ≡ Some k → is_other_type types n k ≡ false
own_type types n k e = ap (λ o. option_map_or (λ kept. not (same_name kept k)) o false) e ∙ ap not (same_name-refl k)
