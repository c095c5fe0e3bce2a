-- Properties: what is read is a name without a `:`, a `:` and a value, and the other way round.
use Rattle.std.proofs.Common.{◌≡◌, ◌<◌, ◌&&◌, ◌⊎◌, inl, inr, ◌++◌, ℕ, ℤ, List, ◌∷◌, length, get_or, drop, Bool, true, false, Option, Some, None, option_map, refl, ap, sym, subst, ◌∙◌, arith, nat_lt, codes, append_assoc}
use Rattle.std.specs.Prelude.{if◌then◌else◌, IsTrue, nat_eq}
use Rattle.std.specs.List.{position_or_len, starts_with}
use Rattle.std.specs.Str.{bytes_eq}
use Rattle.std.proofs.lemmas.Bool.{and_parts}
use Rattle.std.proofs.lemmas.Bool.Decides.{nat_tests, Decides-eqb}
use Rattle.std.proofs.lemmas.List.Sums.{split_at_first, passes_at_first}
use Rattle.std.proofs.lemmas.Slice.Eq.{bytes_eq-Decides, starts_is}
use Rattle.graph_model.specs.declared.properties.Value.{Value}
use Rattle.graph_model.specs.declared.properties.Value.TheVariants.{Int, Flag, Text}
use Rattle.graph_model.specs.PropertyField.{behind_key, flag_of, has_named_key, has_no_colon, is_colon, key_of, property_of, value_of_text, words_of, IsWritable, WritesProperty, WritesValue}
use Rattle.graph_model.specs.Record.{flag_text, prop_text, value_text}
use Rattle.graph_model.specs.TextForm.{is_name, is_text}
use Rattle.graph_model.specs.WholeNumber.{whole_of}
use Rattle.property_values.proofs.Marks.{after-mark, before-has-no-mark, before-mark, has-mark}
use Rattle.property_values.proofs.Signed.{whole_of-written, WritesWhole-decimal, WritesWhole-from_read}

-- the choice of a value by its letter
by_letter : (a b c : Bool) (i f t : Option Value) (v : Value) → (if a then i else (if b then f else (if c then t else None))) ≡ Some v → ((a ≡ true) × (i ≡ Some v)) ⊎ (((b ≡ true) × (f ≡ Some v)) ⊎ ((c ≡ true) × (t ≡ Some v)))
by_letter true b c i f t v e = inl (refl, e)
by_letter false true c i f t v e = inr (inl (refl, e))
by_letter false false true i f t v e = inr (inr (refl, e))
by_letter false false false i f t v e = absurd (cc)

-- a text that begins so is its beginning and the rest
begins : (text letter : List ℕ) → starts_with nat_eq text letter ≡ true → text ≡ letter ++ drop (length letter) text
begins text letter is = (starts_is Decides-eqb text letter (starts_with nat_eq text letter) refl).0 is

number-written : (text rest : List ℕ) (o : Option ℤ) (v : Value) → text ≡ codes "i=" ++ rest → whole_of rest ≡ o → option_map Int o ≡ Some v → WritesValue text v
number-written text rest None v is read e = absurd (cc)
number-written text rest (Some n) v is read e =
    let value : Int n ≡ v = cc in
    subst (λ w. WritesValue text w) value (rest, is, WritesWhole-from_read rest n read)

flag_text-read : (s t b : Bool) (rest : List ℕ) → (s ≡ true → rest ≡ codes "true") → (t ≡ true → rest ≡ codes "false") → (if s then Some true else (if t then Some false else None)) ≡ Some b → rest ≡ flag_text b
flag_text-read true t true rest yes_is no_is e = yes_is refl
flag_text-read true t false rest yes_is no_is e = absurd (cc)
flag_text-read false true true rest yes_is no_is e = absurd (cc)
flag_text-read false true false rest yes_is no_is e = no_is refl
flag_text-read false false b rest yes_is no_is e = absurd (cc)

flag-written : (text rest : List ℕ) (o : Option Bool) (v : Value) → text ≡ codes "b=" ++ rest → flag_of rest ≡ o → option_map Flag o ≡ Some v → WritesValue text v
flag-written text rest None v is read e = absurd (cc)
flag-written text rest (Some b) v is read e =
    let value : Flag b ≡ v = cc in
    let word : rest ≡ flag_text b = flag_text-read (bytes_eq rest (codes "true")) (bytes_eq rest (codes "false")) b rest (bytes_eq-Decides rest (codes "true")).0 (bytes_eq-Decides rest (codes "false")).0 read in
    subst (λ w. WritesValue text w) value (is ∙ ap (λ w. codes "b=" ++ w) word)

text-written : (text rest : List ℕ) (t : Bool) (v : Value) → text ≡ codes "s=" ++ rest → is_text rest ≡ t → option_map Text (if t then Some rest else None) ≡ Some v → WritesValue text v
text-written text rest true v is short e =
    let value : Text rest ≡ v = cc in
    subst (λ w. WritesValue text w) value (is, short)
text-written text rest false v is short e = absurd (cc)

-- a text that is read as a value writes it
WritesValue-from_read : (text : List ℕ) (v : Value) → value_of_text text ≡ Some v → WritesValue text v
WritesValue-from_read text v read =
    elim (by_letter (starts_with nat_eq text (codes "i=")) (starts_with nat_eq text (codes "b=")) (starts_with nat_eq text (codes "s=")) (option_map Int (whole_of (drop 2 text))) (option_map Flag (flag_of (drop 2 text))) (option_map Text (words_of (drop 2 text))) v read) [
      | inl number ↦ number-written text (drop 2 text) (whole_of (drop 2 text)) v (begins text (codes "i=") number.0) refl number.1
      | inr others ↦ elim others [
        | inl flag ↦ flag-written text (drop 2 text) (flag_of (drop 2 text)) v (begins text (codes "b=") flag.0) refl flag.1
        | inr words ↦ text-written text (drop 2 text) (is_text (drop 2 text)) v (begins text (codes "s=") words.0) refl words.1
      ]
    ]

words-chosen : (t : Bool) (written : List ℕ) → t ≡ true → option_map Text (if t then Some written else None) ≡ Some (Text written)
words-chosen true written is = refl
words-chosen false written is = absurd (cc)

-- a text that writes a value is read as it
value_of_text-written : (text : List ℕ) (v : Value) → WritesValue text v → value_of_text text ≡ Some v
value_of_text-written text (Int n) w = ap value_of_text w.1 ∙ ap (option_map Int) (whole_of-written w.0 n w.2)
value_of_text-written text (Flag true) w = ap value_of_text w
value_of_text-written text (Flag false) w = ap value_of_text w
value_of_text-written text (Text written) w = ap value_of_text w.0 ∙ words-chosen (is_text written) written w.1

-- a property that was read has its key and its value
kept : (t : Bool) (o : Option Value) (k key : List ℕ) (v : Value) → (if t then option_map {U = List ℕ × Value} (λ w. (k, w)) o else None) ≡ Some (key, v) → (t ≡ true) × (o ≡ Some v) × (k ≡ key)
kept true (Some w) k key v e =
    let p : (k, w) ≡ (key, v) = cc in
    (refl, ap (λ (q : List ℕ × Value). Some q.1) p, ap (λ (q : List ℕ × Value). q.0) p)
kept true None k key v e = absurd (cc)
kept false o k key v e = absurd (cc)

made : (t : Bool) (o : Option Value) (k key : List ℕ) (v : Value) → t ≡ true → o ≡ Some v → k ≡ key → (if t then option_map {U = List ℕ × Value} (λ w. (k, w)) o else None) ≡ Some (key, v)
made true (Some w) k key v t_is o_is k_is =
    let value : w ≡ v = cc in
    rw (value, k_is) refl
made true None k key v t_is o_is k_is = absurd (cc)
made false o k key v t_is o_is k_is = absurd (cc)

lt-from_test : (n m : ℕ) → nat_lt n m ≡ true → n < m
lt-from_test n m is = grind (arith, nat_tests)

colon-is : (b : ℕ) → is_colon b ≡ true → b ≡ 58
colon-is b is = grind (arith, nat_tests)

-- a field that is read as a property writes it
pub WritesProperty-from_read : (field key : List ℕ) (v : Value) → property_of field ≡ Some (key, v) → WritesProperty field key v
WritesProperty-from_read field key v read =
    let (named, valued, same) = kept (has_named_key field) (value_of_text (behind_key field)) (key_of field) key v read in
    let (colon, name) = and_parts (nat_lt (position_or_len is_colon field) (length field)) (is_name (key_of field)) named in
    let within : position_or_len is_colon field < length field = lt-from_test (position_or_len is_colon field) (length field) colon in
    let mark : get_or field (position_or_len is_colon field) 0 ≡ 58 = colon-is (get_or field (position_or_len is_colon field) 0) (passes_at_first is_colon field 0 within) in
    let split : field ≡ key_of field ++ (58 ∷ behind_key field) = subst (λ c. field ≡ key_of field ++ (c ∷ behind_key field)) mark (split_at_first is_colon field 0 within) in
    let parts : field ≡ key_of field ++ codes ":" ++ behind_key field = split ∙ sym (append_assoc (key_of field) (codes ":") (behind_key field)) in
    subst (λ k. WritesProperty field k v) same (record { text = behind_key field; parts = parts; plain = before-has-no-mark is_colon field; name = name; written = WritesValue-from_read (behind_key field) v valued })

both : (s t : Bool) → s ≡ true → t ≡ true → (s && t) ≡ true
both true true s_is t_is = refl
both true false s_is t_is = absurd (cc)
both false t s_is t_is = absurd (cc)

property_of-split : (key text : List ℕ) (v : Value) → has_no_colon key ≡ true → is_name key ≡ true → value_of_text text ≡ Some v → property_of (key ++ 58 ∷ text) ≡ Some (key, v)
property_of-split key text v plain name read =
    let found : key_of (key ++ 58 ∷ text) ≡ key = before-mark is_colon key 58 text plain refl in
    let behind : behind_key (key ++ 58 ∷ text) ≡ text = after-mark is_colon key 58 text plain refl in
    let named : has_named_key (key ++ 58 ∷ text) ≡ true = both (nat_lt (position_or_len is_colon (key ++ 58 ∷ text)) (length (key ++ 58 ∷ text))) (is_name (key_of (key ++ 58 ∷ text))) (has-mark is_colon key 58 text plain refl) (ap is_name found ∙ name) in
    made (has_named_key (key ++ 58 ∷ text)) (value_of_text (behind_key (key ++ 58 ∷ text))) (key_of (key ++ 58 ∷ text)) key v named (ap value_of_text behind ∙ read) found

-- a field that writes a property is read as it
pub property_of-written : (field key : List ℕ) (v : Value) → WritesProperty field key v → property_of field ≡ Some (key, v)
property_of-written field key v w =
    let split : field ≡ key ++ 58 ∷ w.text = w.parts ∙ append_assoc key (codes ":") w.text in
    ap property_of split ∙ property_of-split key w.text v w.plain w.name (value_of_text-written w.text v w.written)

-- the text of a value writes it
WritesValue-value_text : (v : Value) → IsWritable v → WritesValue (value_text v) v
WritesValue-value_text (Int n) fits = (_, refl, WritesWhole-decimal n fits)
WritesValue-value_text (Flag b) fits = refl
WritesValue-value_text (Text text) short = (refl, short)

-- a property that is printed is read again
pub property_of-prop_text : (key : List ℕ) (v : Value) → IsTrue (is_name key) → IsTrue (has_no_colon key) → IsWritable v → property_of (prop_text (key, v)) ≡ Some (key, v)
property_of-prop_text key v name plain writable =
    property_of-written (prop_text (key, v)) key v (record { text = value_text v; parts = refl; plain = plain; name = name; written = WritesValue-value_text v writable })
