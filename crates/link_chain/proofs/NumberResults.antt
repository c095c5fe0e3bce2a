-- What a call answers, and the lists after it, from the first numbers and the chains.
use Rattle.std.proofs.Common.{◌≡◌, ℕ, zero, suc, ◌<◌, List, [], ◌∷◌, ◌++◌, length, map, get_or, set, append_assoc, refl, ap, sym, ◌∙◌, subst, inl, inr, arith}
use Rattle.std.proofs.lemmas.Bool.{cases_eq}
use Rattle.std.proofs.lemmas.List.{append-nil, map-append, get_or_read, get_or-set_other, length-set, length_push}
use Rattle.std.specs.Prelude.{Result, Ok, Err, IsOk, OnOk}
use Rattle.link_chain.specs.Chains.{list_at, items_at, link_count, put_last}
use Rattle.link_chain.specs.Indexes.{nowhere}
use Rattle.link_chain.specs.NumberLists.{numbers_at, with_last}
use Rattle.link_chain.specs.FirstsAndChains.{firsts_of, firsts_at, numbers_from, AreNumbers}
use Rattle.link_chain.specs.declared.number_lists.Firsts.{Firsts}
use Rattle.link_chain.proofs.ChainLaws.{list_at-add_head}

-- no number
abbrev none_of : Firsts
none_of = record { first = nowhere; second = nowhere; third = nowhere }

-- there are as many lists as first numbers
pub length-numbers_from : (fs : List Firsts) (cs : List (List (ℕ × ℕ))) → length cs ≡ length fs → length (numbers_from fs cs) ≡ length fs
length-numbers_from [] cs e = refl
length-numbers_from (f ∷ fs) [] e = absurd (omega (arith, e))
length-numbers_from (f ∷ fs) (c ∷ cs) e = ap suc (length-numbers_from fs cs (omega (arith, e)))

-- a list is its first numbers and then those of its chain
pub numbers_at-numbers_from : (fs : List Firsts) (cs : List (List (ℕ × ℕ))) (p : ℕ) → length cs ≡ length fs → p < length fs
    → numbers_at (numbers_from fs cs) p ≡ firsts_of (firsts_at fs p) ++ items_at cs p
numbers_at-numbers_from [] cs p e lt = absurd (omega (arith, lt))
numbers_at-numbers_from (f ∷ fs) [] p e lt = absurd (omega (arith, e))
numbers_at-numbers_from (f ∷ fs) (c ∷ cs) zero e lt = refl
numbers_at-numbers_from (f ∷ fs) (c ∷ cs) (suc p) e lt = numbers_at-numbers_from fs cs p (omega (arith, e)) (omega (arith, lt))

-- one more of each is one list more
pub numbers_from-push : (fs : List Firsts) (cs : List (List (ℕ × ℕ))) (f : Firsts) → length cs ≡ length fs → firsts_of f ≡ []
    → numbers_from (fs ++ f ∷ []) (cs ++ [] ∷ []) ≡ numbers_from fs cs ++ [] ∷ []
numbers_from-push [] [] f e none = ap (λ (xs : List ℕ). (xs ++ []) ∷ []) none
numbers_from-push [] (c ∷ cs) f e none = absurd (omega (arith, e))
numbers_from-push (g ∷ fs) [] f e none = absurd (omega (arith, e))
numbers_from-push (g ∷ fs) (c ∷ cs) f e none = ap (λ (xs : List (List ℕ)). (firsts_of g ++ map (λ p. p.1) c) ∷ xs) (numbers_from-push fs cs f (omega (arith, e)) none)

-- other first numbers are another list
pub numbers_from-set_firsts : (fs : List Firsts) (cs : List (List (ℕ × ℕ))) (p : ℕ) (f : Firsts) → length cs ≡ length fs
    → numbers_from (set fs p f) cs ≡ set (numbers_from fs cs) p (firsts_of f ++ items_at cs p)
numbers_from-set_firsts [] cs p f e = refl
numbers_from-set_firsts (g ∷ fs) [] p f e = absurd (omega (arith, e))
numbers_from-set_firsts (g ∷ fs) (c ∷ cs) zero f e = refl
numbers_from-set_firsts (g ∷ fs) (c ∷ cs) (suc p) f e = ap (λ (xs : List (List ℕ)). (firsts_of g ++ map (λ q. q.1) c) ∷ xs) (numbers_from-set_firsts fs cs p f (omega (arith, e)))

-- another chain is another list
pub numbers_from-set_chain : (fs : List Firsts) (cs : List (List (ℕ × ℕ))) (p : ℕ) (xs : List (ℕ × ℕ)) → length cs ≡ length fs
    → numbers_from fs (set cs p xs) ≡ set (numbers_from fs cs) p (firsts_of (firsts_at fs p) ++ map (λ q. q.1) xs)
numbers_from-set_chain [] cs p xs e = refl
numbers_from-set_chain (g ∷ fs) [] p xs e = absurd (omega (arith, e))
numbers_from-set_chain (g ∷ fs) (c ∷ cs) zero xs e = refl
numbers_from-set_chain (g ∷ fs) (c ∷ cs) (suc p) xs e = ap (λ (ys : List (List ℕ)). (firsts_of g ++ map (λ q. q.1) c) ∷ ys) (numbers_from-set_chain fs cs p xs (omega (arith, e)))

firsts_at-push : (fs : List Firsts) (f : Firsts) (p : ℕ) → firsts_of f ≡ [] → firsts_of (firsts_at (fs ++ f ∷ []) p) ≡ firsts_of (firsts_at fs p)
firsts_at-push [] f zero none = none
firsts_at-push [] f (suc p) none = refl
firsts_at-push (g ∷ fs) f zero none = refl
firsts_at-push (g ∷ fs) f (suc p) none = firsts_at-push fs f p none

-- the parts are kept, and the lists are these
pub record IsNow (fs : List Firsts) (cs : List (List (ℕ × ℕ))) (want : List (List ℕ)) : Type 0 where
  pub kept : AreNumbers fs cs
  pub lists : numbers_from fs cs ≡ want

-- what holds of a value, where there is one
pub sure : {A E P : Type 0} (r : Result A E) → IsOk r → OnOk r P → P
sure (Ok x) ok h = h
sure (Err x) ok h = cc

-- there are as many lists as entries and as chains
pub list_within : (fs : List Firsts) (cs : List (List (ℕ × ℕ))) (now : List (List ℕ)) (p : ℕ) → AreNumbers fs cs → numbers_from fs cs ≡ now → p < length now → p < length fs
list_within fs cs now p kept e lt = omega (arith, lt, ap length e, length-numbers_from fs cs kept.same)

-- a new list is empty
pub list_added : (fs gs : List Firsts) (cs ds : List (List (ℕ × ℕ))) (now : List (List ℕ)) (f : Firsts) → AreNumbers fs cs → numbers_from fs cs ≡ now → firsts_of f ≡ []
    → gs ≡ fs ++ f ∷ [] → ds ≡ cs ++ [] ∷ [] → IsNow gs ds (now ++ [] ∷ [])
list_added fs gs cs ds now f kept e none gs_is ds_is =
    let added : IsNow (fs ++ f ∷ []) (cs ++ [] ∷ []) (now ++ [] ∷ []) = record {
      kept = record {
        same = omega (arith, kept.same, length_push cs [], length_push fs f);
        full = λ list lt. list_at-add_head cs list ∙ kept.full list (omega (arith, lt, ap length (firsts_at-push fs f list none)));
      };
      lists = numbers_from-push fs cs f kept.same none ∙ ap (λ (xs : List (List ℕ)). xs ++ [] ∷ []) e;
    } in
    subst (λ (xs : List Firsts). IsNow xs ds (now ++ [] ∷ [])) (sym gs_is) (subst (λ (ys : List (List (ℕ × ℕ))). IsNow (fs ++ f ∷ []) ys (now ++ [] ∷ [])) (sym ds_is) added)

value_first : (xs ys zs : List ℕ) (number : ℕ) → ys ≡ xs ++ number ∷ [] → zs ≡ [] → ys ++ zs ≡ (xs ++ zs) ++ number ∷ []
value_first xs ys zs number longer none =
    ap (λ (vs : List ℕ). ys ++ vs) none ∙ (append-nil ys ∙ (longer ∙ sym (ap (λ (vs : List ℕ). vs ++ number ∷ []) (ap (λ (vs : List ℕ). xs ++ vs) none ∙ append-nil xs))))

-- a number that is put among the first numbers stands last in its list
pub first_appended : (fs : List Firsts) (cs : List (List (ℕ × ℕ))) (now : List (List ℕ)) (p number : ℕ) (read f : Firsts) → AreNumbers fs cs → numbers_from fs cs ≡ now → p < length now
    → read ≡ get_or fs p read → (firsts_of f ≡ firsts_of read ++ number ∷ []) × (length (firsts_of read) < 3) → IsNow (set fs p f) cs (with_last p number now)
first_appended fs cs now p number read f kept e lt read_is one_more =
    let within = list_within fs cs now p kept e lt in
    let at : read ≡ firsts_at fs p = get_or_read fs p read within read_is none_of in
    let longer : firsts_of f ≡ firsts_of (firsts_at fs p) ++ number ∷ [] = one_more.0 ∙ ap (λ (g : Firsts). firsts_of g ++ number ∷ []) at in
    let few : length (firsts_of (firsts_at fs p)) < 3 = subst (λ (g : Firsts). length (firsts_of g) < 3) at one_more.1 in
    let empty : list_at cs p ≡ [] = kept.full p few in
    let appended : IsNow (set fs p f) cs (with_last p number (numbers_from fs cs)) = record {
      kept = record {
        same = kept.same ∙ sym (length-set fs p f);
        full = λ q less. elim (cases_eq q p) [
          | inl q_is ↦ subst (λ (m : ℕ). list_at cs m ≡ []) (sym q_is) empty
          | inr ne ↦ kept.full q (subst (λ (g : Firsts). length (firsts_of g) < 3) (get_or-set_other fs p q f none_of ne) less)
        ];
      };
      lists = numbers_from-set_firsts fs cs p f kept.same
          ∙ ap (set (numbers_from fs cs) p)
          (value_first (firsts_of (firsts_at fs p)) (firsts_of f) (items_at cs p) number longer (ap (map (λ q. q.1)) empty)
          ∙ sym (ap (λ (vs : List ℕ). vs ++ number ∷ []) (numbers_at-numbers_from fs cs p kept.same within)));
    } in
    subst (λ (ns : List (List ℕ)). IsNow (set fs p f) cs (with_last p number ns)) e appended

-- a number that is put in a chain stands last in its list, whose first numbers are three
pub chain_appended : (fs : List Firsts) (cs ds : List (List (ℕ × ℕ))) (now : List (List ℕ)) (p number : ℕ) (read : Firsts) → AreNumbers fs cs → numbers_from fs cs ≡ now → p < length now
    → read ≡ get_or fs p read → length (firsts_of read) ≡ 3 → ds ≡ put_last p number cs → IsNow fs ds (with_last p number now)
chain_appended fs cs ds now p number read kept e lt read_is full ds_is =
    let within = list_within fs cs now p kept e lt in
    let three : length (firsts_of (firsts_at fs p)) ≡ 3 = subst (λ (g : Firsts). length (firsts_of g) ≡ 3) (get_or_read fs p read within read_is none_of) full in
    let xs = list_at cs p ++ (link_count cs, number) ∷ [] in
    let appended : IsNow fs (put_last p number cs) (with_last p number (numbers_from fs cs)) = record {
      kept = record {
        same = length-set cs p xs ∙ kept.same;
        full = λ q less. elim (cases_eq q p) [
          | inl q_is ↦ absurd (omega (arith, less, ap (λ (m : ℕ). length (firsts_of (firsts_at fs m))) q_is, three))
          | inr ne ↦ get_or-set_other cs p q xs [] ne ∙ kept.full q less
        ];
      };
      lists = numbers_from-set_chain fs cs p xs kept.same
          ∙ ap (set (numbers_from fs cs) p)
          (ap (λ (vs : List ℕ). firsts_of (firsts_at fs p) ++ vs) (map-append (λ q. q.1) (list_at cs p) ((link_count cs, number) ∷ []))
          ∙ (sym (append_assoc (firsts_of (firsts_at fs p)) (items_at cs p) (number ∷ []))
          ∙ sym (ap (λ (vs : List ℕ). vs ++ number ∷ []) (numbers_at-numbers_from fs cs p kept.same within))));
    } in
    subst (λ (ys : List (List (ℕ × ℕ))). IsNow fs ys (with_last p number now)) (sym ds_is) (subst (λ (ns : List (List ℕ)). IsNow fs (put_last p number cs) (with_last p number ns)) e appended)

-- what a walk passes: the first numbers, and the chain where they are three
pub walked_full : (fs : List Firsts) (cs : List (List (ℕ × ℕ))) (now : List (List ℕ)) (p : ℕ) (read : Firsts) (more : List ℕ) → AreNumbers fs cs → numbers_from fs cs ≡ now → p < length now
    → read ≡ get_or fs p read → more ≡ items_at cs p → firsts_of read ++ more ≡ numbers_at now p
walked_full fs cs now p read more kept e lt read_is more_is =
    let within = list_within fs cs now p kept e lt in
    ap (λ (g : Firsts). firsts_of g ++ more) (get_or_read fs p read within read_is none_of)
    ∙ (ap (λ (vs : List ℕ). firsts_of (firsts_at fs p) ++ vs) more_is
    ∙ (sym (numbers_at-numbers_from fs cs p kept.same within) ∙ ap (λ (ns : List (List ℕ)). numbers_at ns p) e))

pub walked_firsts : (fs : List Firsts) (cs : List (List (ℕ × ℕ))) (now : List (List ℕ)) (p : ℕ) (read : Firsts) (more : List ℕ) → AreNumbers fs cs → numbers_from fs cs ≡ now → p < length now
    → read ≡ get_or fs p read → length (firsts_of read) < 3 → more ≡ [] → firsts_of read ++ more ≡ numbers_at now p
walked_firsts fs cs now p read more kept e lt read_is few more_is =
    let at : read ≡ firsts_at fs p = get_or_read fs p read (list_within fs cs now p kept e lt) read_is none_of in
    walked_full fs cs now p read more kept e lt read_is (more_is ∙ sym (ap (map (λ q. q.1)) (kept.full p (subst (λ (g : Firsts). length (firsts_of g) < 3) at few))))
