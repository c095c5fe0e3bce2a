-- The words of a command are its three options, each with its value.
use Rattle.std.proofs.Common.{◌≡◌, ◌∙◌, ◌∷◌, [], ◌+◌, ◌*◌, ◌&&◌, ◌==◌, ◌<◌, ◌≤◌, ℕ, zero, suc, Bool, true, false, List, Option, Some, None, length, refl, sym, ap, subst, inl, inr, ◌⊎◌, arith}
use Rattle.std.proofs.lemmas.Bool.Decides.{nat_tests}
use Rattle.std.specs.Prelude.{◌↔◌, ℤ, pos, negsuc, nat_le, codes, slice_get, option_and_then, option_map, unwrap_or, if◌then◌else◌}
use Rattle.std.specs.Str.{bytes_eq}
use Rattle.std.proofs.lemmas.Bool.{and_parts, true≢false}
use Rattle.std.proofs.lemmas.Slice.Eq.{bytes_eq-Decides}
use Rattle.std.proofs.lemmas.Option.{slice_get_within}
use Rattle.graph_model.specs.declared.events.Model.{Model}
use Rattle.graph_model.specs.declared.events.Model.TheVariants.{Event as Instants, Persistent}
use Rattle.command_words.specs.Command.{first_value, is_path, model_of, option_value}
use Rattle.graph_model.specs.Output.{model_word}
use Rattle.graph_model.specs.WholeNumber.{whole_of}
use Rattle.property_values.proofs.Signed.{WritesWhole-from_read, whole_of-written}
use Rattle.command_words.specs.Command.{Command, Files, Generate, command, count_in, count_of, files_command, generate_command, most_generated}
use Rattle.command_words.specs.CommandForms.{AsksForRecords, HasOption, NamesFiles}

-- a word further on, two words later
later : (name value : List ℕ) (words : List (List ℕ)) (option word : List ℕ) → HasOption words option word → HasOption (name ∷ value ∷ words) option word
later name value words option word at =
    let even : 2 * (at.0 + 1) ≡ suc (suc (2 * at.0)) = omega arith in
    let odd : 2 * (at.0 + 1) + 1 ≡ suc (suc (2 * at.0 + 1)) = omega arith in
    (at.0 + 1, rw even at.1, rw odd at.2)

-- the value that is found stands behind its option
found : (words : List (List ℕ)) (option word : List ℕ) → first_value option words ≡ Some word → HasOption words option word
found [] option word h = cc
found (name ∷ []) option word h = cc
found (name ∷ value ∷ words) option word h = by (bytes_eq name option) refl (found words option word) h
  where
    by : (t : Bool) → bytes_eq name option ≡ t → (first_value option words ≡ Some word → HasOption words option word) → (if t then Some value else first_value option words) ≡ Some word → HasOption (name ∷ value ∷ words) option word
    by true is more k =
        let same : name ≡ option = (bytes_eq-Decides name option).0 is in
        let behind : value ≡ word = cc in
        (0, ap Some same, ap Some behind)
    by false is more k = later name value words option word (more k)

-- an option that stands among words is found
finds : (words : List (List ℕ)) (option word : List ℕ) → HasOption words option word → (value : List ℕ) × (first_value option words ≡ Some value)
finds [] option word at = absurd (let within : 2 * at.0 < 0 = slice_get_within [] (2 * at.0) option at.1 in omega arith)
finds (name ∷ []) option word at = absurd (let within : 2 * at.0 + 1 < 1 = slice_get_within (name ∷ []) (2 * at.0 + 1) word at.2 in omega arith)
finds (name ∷ value ∷ words) option word at = by (bytes_eq name option) refl (finds words option word)
  where
    further : (i : ℕ) → slice_get (name ∷ value ∷ words) (2 * i) ≡ Some option → slice_get (name ∷ value ∷ words) (2 * i + 1) ≡ Some word → bytes_eq name option ≡ false → HasOption words option word
    further zero a b is =
        let same : name ≡ option = cc in
        absurd (true≢false (sym ((bytes_eq-Decides name option).1 same) ∙ is))
    further (suc j) a b is =
        let even : 2 * suc j ≡ suc (suc (2 * j)) = omega arith in
        let odd : 2 * suc j + 1 ≡ suc (suc (2 * j + 1)) = omega arith in
        (j, rw even at a, rw odd at b)

    by : (t : Bool) → bytes_eq name option ≡ t → (HasOption words option word → (value : List ℕ) × (first_value option words ≡ Some value))
        → (value_found : List ℕ) × ((if t then Some value else first_value option words) ≡ Some value_found)
    by true is more = (value, refl)
    by false is more = more (further at.0 at.1 at.2 is)

same_word : (words : List (List ℕ)) (p q : ℕ) (one other : List ℕ) → p ≡ q → slice_get words p ≡ Some one → slice_get words q ≡ Some other → one ≡ other
same_word words p q one other e a b = let both : Some one ≡ Some other = sym a ∙ ap (slice_get words) e ∙ b in cc

-- among six words with two other options, the value that is found is the one that stands behind
finds_its : (words : List (List ℕ)) (option second third value x y : List ℕ) → length words ≡ 6 → (option ≡ second → ⊥) → (option ≡ third → ⊥) → (second ≡ third → ⊥)
    → HasOption words option value → HasOption words second x → HasOption words third y → first_value option words ≡ Some value
finds_its words option second third value x y six ab ac bc at bt ct =
    let f = finds words option value at in
    let p = found words option f.0 f.1 in
    let pw : 2 * p.0 < length words = slice_get_within words (2 * p.0) option p.1 in
    let aw : 2 * at.0 < length words = slice_get_within words (2 * at.0) option at.1 in
    let bw : 2 * bt.0 < length words = slice_get_within words (2 * bt.0) second bt.1 in
    let cw : 2 * ct.0 < length words = slice_get_within words (2 * ct.0) third ct.1 in
    let n1 : p.0 ≡ bt.0 → ⊥ = λ e. ab (same_word words (2 * p.0) (2 * bt.0) option second (ap (λ n. 2 * n) e) p.1 bt.1) in
    let n2 : p.0 ≡ ct.0 → ⊥ = λ e. ac (same_word words (2 * p.0) (2 * ct.0) option third (ap (λ n. 2 * n) e) p.1 ct.1) in
    let n3 : at.0 ≡ bt.0 → ⊥ = λ e. ab (same_word words (2 * at.0) (2 * bt.0) option second (ap (λ n. 2 * n) e) at.1 bt.1) in
    let n4 : at.0 ≡ ct.0 → ⊥ = λ e. ac (same_word words (2 * at.0) (2 * ct.0) option third (ap (λ n. 2 * n) e) at.1 ct.1) in
    let n5 : bt.0 ≡ ct.0 → ⊥ = λ e. bc (same_word words (2 * bt.0) (2 * ct.0) second third (ap (λ n. 2 * n) e) bt.1 ct.1) in
    let here : p.0 ≡ at.0 = one_place p.0 at.0 bt.0 ct.0 (length words) six pw aw bw cw n1 n2 n3 n4 n5 in
    f.1 ∙ ap Some (same_word words (2 * p.0 + 1) (2 * at.0 + 1) f.0 value (ap (λ n. 2 * n + 1) here) p.2 at.2)
  where
    one_place : (p a b c n : ℕ) → n ≡ 6 → 2 * p < n → 2 * a < n → 2 * b < n → 2 * c < n → (p ≡ b → ⊥) → (p ≡ c → ⊥) → (a ≡ b → ⊥) → (a ≡ c → ⊥) → (b ≡ c → ⊥) → p ≡ a
    one_place p a b c n six pw aw bw cw n1 n2 n3 n4 n5 = omega arith

differs : (a b : List ℕ) → bytes_eq a b ≡ false → a ≡ b → ⊥
differs a b apart e = true≢false (sym ((bytes_eq-Decides a b).1 e) ∙ apart)

-- the word of a model names it
model_of-word : (model : Model) → model_of (model_word model) ≡ Some model
model_of-word Instants = refl
model_of-word Persistent = refl

model_word-some : (model : Model) → model_word model ≡ [] → ⊥
model_word-some Instants = differs (codes "event") [] refl
model_word-some Persistent = differs (codes "persistent") [] refl

files_found : (words : List (List ℕ)) (model : Model) (events script : List ℕ) → NamesFiles words model events script → command words ≡ Some (Files model events script)
files_found words model events script names =
    let word = model_word model in
    let e = finds_its words (codes "--events") (codes "--model") (codes "--script") events word script names.six (differs (codes "--events") (codes "--model") refl) (differs (codes "--events") (codes "--script") refl) (differs (codes "--model") (codes "--script") refl) names.events_file names.named_model names.script_file in
    let s = finds_its words (codes "--script") (codes "--model") (codes "--events") script word events names.six (differs (codes "--script") (codes "--model") refl) (differs (codes "--script") (codes "--events") refl) (differs (codes "--model") (codes "--events") refl) names.script_file names.named_model names.events_file in
    let m = finds_its words (codes "--model") (codes "--events") (codes "--script") word events script names.six (differs (codes "--model") (codes "--events") refl) (differs (codes "--model") (codes "--script") refl) (differs (codes "--events") (codes "--script") refl) names.named_model names.events_file names.script_file in
    let named = model_of-word model in
    rw (names.six, e, s, m, names.events_path, names.script_path, named) refl

-- a value that is not empty stands behind its option
stands : (words : List (List ℕ)) (option word : List ℕ) → option_value words option ≡ word → (word ≡ [] → ⊥) → HasOption words option word
stands words option word is some = by (first_value option words) refl is
  where
    by : (o : Option (List ℕ)) → first_value option words ≡ o → unwrap_or o [] ≡ word → HasOption words option word
    by None e k = absurd (some (sym k))
    by (Some value) e k = found words option word (e ∙ ap Some k)

path_some : (word : List ℕ) → is_path word ≡ true → word ≡ [] → ⊥
path_some [] h = λ e. true≢false (sym h)
path_some (byte ∷ bytes) h = differs (byte ∷ bytes) [] refl

number_is : (n m : ℕ) → (n == m) ≡ true → n ≡ m
number_is n m h = grind (arith, nat_tests)

model_is : (word : List ℕ) (model : Model) → model_of word ≡ Some model → word ≡ model_word model
model_is word model h = by (bytes_eq word (codes "event")) refl (bytes_eq word (codes "persistent")) refl h
  where
    by : (t : Bool) → bytes_eq word (codes "event") ≡ t → (u : Bool) → bytes_eq word (codes "persistent") ≡ u
        → (if t then Some Instants else (if u then Some Persistent else None)) ≡ Some model → word ≡ model_word model
    by true is u other k = let same : Instants ≡ model = cc in (bytes_eq-Decides word (codes "event")).0 is ∙ ap model_word same
    by false is true other k = let same : Persistent ≡ model = cc in (bytes_eq-Decides word (codes "persistent")).0 other ∙ ap model_word same
    by false is false other k = cc

files_named : (words : List (List ℕ)) (model : Model) (events script : List ℕ) → length words ≡ 6 → files_command words ≡ Some (Files model events script) → NamesFiles words model events script
files_named words model events script six h =
    by six (is_path (option_value words (codes "--events")) && is_path (option_value words (codes "--script"))) refl (model_of (option_value words (codes "--model"))) refl h
  where
    by : length words ≡ 6 → (t : Bool) → (is_path (option_value words (codes "--events")) && is_path (option_value words (codes "--script"))) ≡ t → (o : Option Model) → model_of (option_value words (codes "--model")) ≡ o
        → (if t then option_map (λ named. Files named (option_value words (codes "--events")) (option_value words (codes "--script"))) o else None) ≡ Some (Files model events script) → NamesFiles words model events script
    by six false test o of k = cc
    by six true test None of k = cc
    by six true test (Some named) of k =
        let paths = and_parts (is_path (option_value words (codes "--events"))) (is_path (option_value words (codes "--script"))) test in
        let same_events : option_value words (codes "--events") ≡ events = cc in
        let same_script : option_value words (codes "--script") ≡ script = cc in
        let same_model : named ≡ model = cc in
        let word = model_is (option_value words (codes "--model")) model (of ∙ ap Some same_model) in
        let events_path : is_path events ≡ true = rw same_events at paths.0 in
        let script_path : is_path script ≡ true = rw same_script at paths.1 in
        record {
          six = six;
          named_model = stands words (codes "--model") (model_word model) word (model_word-some model);
          events_file = stands words (codes "--events") events same_events (path_some events events_path);
          script_file = stands words (codes "--script") script same_script (path_some script script_path);
          events_path = events_path;
          script_path = script_path;
        }

-- words are the command of which their number tells
by_length : (words : List (List ℕ)) (c : Command) → command words ≡ Some c
    → ((length words ≡ 6) × (files_command words ≡ Some c)) ⊎ ((length words ≡ 4) × (generate_command words ≡ Some c))
by_length words c h = by (length words == 6) refl (length words == 4) refl h
  where
    by : (t : Bool) → (length words == 6) ≡ t → (u : Bool) → (length words == 4) ≡ u
        → (if t then files_command words else (if u then generate_command words else None)) ≡ Some c
        → ((length words ≡ 6) × (files_command words ≡ Some c)) ⊎ ((length words ≡ 4) × (generate_command words ≡ Some c))
    by true is u other k = inl (number_is (length words) 6 is, k)
    by false is true other k = inr (number_is (length words) 4 other, k)
    by false is false other k = cc

-- what four words are names no files, and what six words are asks for no records
generate_no_files : (words : List (List ℕ)) (model : Model) (events script : List ℕ) → generate_command words ≡ Some (Files model events script) → ⊥
generate_no_files words model events script h = by (model_of (option_value words (codes "--model"))) (count_of (option_value words (codes "--generate"))) h
  where
    by : (o : Option Model) (n : Option ℕ) → option_and_then (λ named. option_map (Generate named) n) o ≡ Some (Files model events script) → ⊥
    by None n k = cc
    by (Some named) None k = cc
    by (Some named) (Some number) k = cc

files_no_generate : (words : List (List ℕ)) (model : Model) (count : ℕ) → files_command words ≡ Some (Generate model count) → ⊥
files_no_generate words model count h = by (is_path (option_value words (codes "--events")) && is_path (option_value words (codes "--script"))) (model_of (option_value words (codes "--model"))) h
  where
    by : (t : Bool) (o : Option Model) → (if t then option_map (λ named. Files named (option_value words (codes "--events")) (option_value words (codes "--script"))) o else None) ≡ Some (Generate model count) → ⊥
    by false o k = cc
    by true None k = cc
    by true (Some named) k = cc

pub files_command-named : (words : List (List ℕ)) (model : Model) (events script : List ℕ) → (command words ≡ Some (Files model events script)) ↔ NamesFiles words model events script
files_command-named words model events script = (
  λ h. elim (by_length words (Files model events script) h) [
    | inl six ↦ files_named words model events script six.0 six.1
    | inr four ↦ absurd (generate_no_files words model events script four.1)
  ],
  files_found words model events script,
)

-- among four words with another option, the value that is found is the one that stands behind
finds_one : (words : List (List ℕ)) (option second value x : List ℕ) → length words ≡ 4 → (option ≡ second → ⊥)
    → HasOption words option value → HasOption words second x → first_value option words ≡ Some value
finds_one words option second value x four apart at bt =
    let f = finds words option value at in
    let p = found words option f.0 f.1 in
    let pw : 2 * p.0 < length words = slice_get_within words (2 * p.0) option p.1 in
    let aw : 2 * at.0 < length words = slice_get_within words (2 * at.0) option at.1 in
    let bw : 2 * bt.0 < length words = slice_get_within words (2 * bt.0) second bt.1 in
    let n1 : p.0 ≡ bt.0 → ⊥ = λ e. apart (same_word words (2 * p.0) (2 * bt.0) option second (ap (λ n. 2 * n) e) p.1 bt.1) in
    let n2 : at.0 ≡ bt.0 → ⊥ = λ e. apart (same_word words (2 * at.0) (2 * bt.0) option second (ap (λ n. 2 * n) e) at.1 bt.1) in
    let here : p.0 ≡ at.0 = one_place p.0 at.0 bt.0 (length words) four pw aw bw n1 n2 in
    f.1 ∙ ap Some (same_word words (2 * p.0 + 1) (2 * at.0 + 1) f.0 value (ap (λ n. 2 * n + 1) here) p.2 at.2)
  where
    one_place : (p a b n : ℕ) → n ≡ 4 → 2 * p < n → 2 * a < n → 2 * b < n → (p ≡ b → ⊥) → (a ≡ b → ⊥) → p ≡ a
    one_place p a b n four pw aw bw n1 n2 = omega arith

-- a number from 1 to the most is counted, and no other
counted : (count : ℕ) → 1 ≤ count → count ≤ most_generated → count_in (pos count) ≡ Some count
counted count one most =
    let low : nat_le 1 count ≡ true = grind (arith, nat_tests) in
    let high : nat_le count 1000000 ≡ true = grind (arith, nat_tests) in
    rw (low, high) refl

count_is : (z : ℤ) (count : ℕ) → count_in z ≡ Some count → (z ≡ pos count) × ((1 ≤ count) × (count ≤ most_generated))
count_is (negsuc n) count h = cc
count_is (pos n) count h = by (nat_le 1 n && nat_le n most_generated) refl h
  where
    by : (t : Bool) → (nat_le 1 n && nat_le n most_generated) ≡ t → (if t then Some n else None) ≡ Some count → (pos n ≡ pos count) × ((1 ≤ count) × (count ≤ most_generated))
    by false test k = cc
    by true test k =
        let same : n ≡ count = cc in
        let parts = and_parts (nat_le 1 n) (nat_le n most_generated) test in
        let one : 1 ≤ n = grind (arith, nat_tests, parts.0) in
        let most : n ≤ 1000000 = grind (arith, nat_tests, parts.1) in
        (ap pos same, (omega arith, omega arith))

records_found : (words : List (List ℕ)) (model : Model) (count : ℕ) → AsksForRecords words model count → command words ≡ Some (Generate model count)
records_found words model count asks =
    let m = finds_one words (codes "--model") (codes "--generate") (model_word model) asks.number asks.four (differs (codes "--model") (codes "--generate") refl) asks.named_model asks.given_number in
    let n = finds_one words (codes "--generate") (codes "--model") asks.number (model_word model) asks.four (differs (codes "--generate") (codes "--model") refl) asks.given_number asks.named_model in
    let named = model_of-word model in
    let read = whole_of-written asks.number _ asks.writes in
    let much = counted count asks.one asks.most in
    rw (asks.four, m, n, named, read, much) refl

whole_some : (word : List ℕ) (z : ℤ) → whole_of word ≡ Some z → word ≡ [] → ⊥
whole_some word z h e = let none : whole_of [] ≡ Some z = subst (λ w. whole_of w ≡ Some z) e h in cc

records_asked : (words : List (List ℕ)) (model : Model) (count : ℕ) → length words ≡ 4 → generate_command words ≡ Some (Generate model count) → AsksForRecords words model count
records_asked words model count four h = by (model_of (option_value words (codes "--model"))) refl (whole_of (option_value words (codes "--generate"))) refl h
  where
    by : (o : Option Model) → model_of (option_value words (codes "--model")) ≡ o → (z : Option ℤ) → whole_of (option_value words (codes "--generate")) ≡ z
        → option_and_then (λ named. option_map (Generate named) (option_and_then count_in z)) o ≡ Some (Generate model count) → AsksForRecords words model count
    by None of z read k = cc
    by (Some named) of None read k = cc
    by (Some named) of (Some z) read k = in_range (count_in z) refl k
      where
        in_range : (n : Option ℕ) → count_in z ≡ n → option_map (Generate named) n ≡ Some (Generate model count) → AsksForRecords words model count
        in_range None counts j = cc
        in_range (Some number) counts j =
            let same_model : named ≡ model = cc in
            let same_count : number ≡ count = cc in
            let is = count_is z count (counts ∙ ap Some same_count) in
            let word = model_is (option_value words (codes "--model")) model (of ∙ ap Some same_model) in
            let given = option_value words (codes "--generate") in
            record {
              four = four;
              named_model = stands words (codes "--model") (model_word model) word (model_word-some model);
              number = option_value words (codes "--generate");
              given_number = stands words (codes "--generate") (option_value words (codes "--generate")) refl (whole_some (option_value words (codes "--generate")) z read);
              writes = WritesWhole-from_read (option_value words (codes "--generate")) (pos count) (read ∙ ap Some is.0);
              one = is.1.0;
              most = is.1.1;
            }

pub generate_command-asked : (words : List (List ℕ)) (model : Model) (count : ℕ) → (command words ≡ Some (Generate model count)) ↔ AsksForRecords words model count
generate_command-asked words model count = (
  λ h. elim (by_length words (Generate model count) h) [
    | inl six ↦ absurd (files_no_generate words model count six.1)
    | inr four ↦ records_asked words model count four.0 four.1
  ],
  records_found words model count,
)
