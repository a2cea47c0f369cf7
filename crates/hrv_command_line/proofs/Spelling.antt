-- What is named is spelled, and within the limits.
use Rattle.std.proofs.Common.{◌≡◌, ◌∙◌, ◌&&◌, ◌==◌, Bool, cond, true, false, true≢false, refl, sym, ap, subst, List, [], ◌∷◌, ◌++◌}
use Rattle.std.proofs.Common.{Option, Some, None, append-nil, append_assoc, codes, ne_eqb}
use Rattle.std.specs.Prelude.{if◌then◌else◌, is_some, option_and_then, unwrap_or}
use Rattle.std.specs.List.{AllByRecursion}
use Rattle.std.specs.Str.{bytes_eq}
use Rattle.std.proofs.lemmas.Slice.Eq.{bytes_eq-Decides}
use Rattle.clap.specs.Lexer.{long_of, long_of_rest, strip_byte}
use Rattle.clap.specs.Words.{Text}
use Rattle.hrv_command_line.specs.CommandLine.{Awaits, Chooses, Given, Gives, IsPlainWord, Marks, Meaning, Strays, choose, chosen_by, further, is_plain}
use Rattle.hrv_command_line.specs.CommandLine.{kind_named, meaning_by, meaning_of, nothing_given, read, text_of, unmarked, with_choice, with_values}
use Rattle.hrv_command_line.specs.declared.table.OptionKind.{OptionKind}
use Rattle.hrv_command_line.specs.declared.table.OptionKind.TheVariants.{Flag}

-- a test holds or not
pub tell : {C : Type 0} (b : Bool) → (b ≡ true → C) → (b ≡ false → C) → C
tell true holds fails = holds refl
tell false holds fails = fails refl

pub some_none : {X : Type 0} {x : X} {C : Type 0} → None ≡ Some x → C
some_none e = absurd (true≢false (sym (ap is_some e)))

some_is : {X : Type 0} {x y : X} → Some x ≡ Some y → x ≡ y
some_is {X} {x} {y} e = ap (λ o. unwrap_or o x) e

-- ---- the options that are read

abbrev Choices : Type 0
Choices = List (Text × OptionKind)

-- an option that the command has
abbrev IsKnown : Choices → Text → Type 0
IsKnown choices name = is_some (kind_named name choices) ≡ true

abbrev AreKnown : Choices → List (Text × Text) → Type 0
AreKnown choices = AllByRecursion (λ (c : Text × Text). IsKnown choices c.0)

one_known : (choices : Choices) (given : List (Text × Text)) (name text : Text) → AreKnown choices given → IsKnown choices name
    → AreKnown choices (given ++ (name, text) ∷ [])
one_known choices [] name text all known = (known, tt)
one_known choices (c ∷ given) name text all known = (all.0, one_known choices given name text all.1 known)

-- an option that awaits its text, or none
abbrev IsAwaited : Choices → Option Text → Type 0
IsAwaited choices None = Unit {0}
IsAwaited choices (Some name) = IsKnown choices name

never_empty : {X : Type 0} {C : Type 0} (xs : List X) (x : X) → xs ++ x ∷ [] ≡ [] → C
never_empty {X} [] x e = absurd (true≢false (ap is_list e))
  where
    is_list : List X → Bool
    is_list [] = false
    is_list (y ∷ ys) = true
never_empty {X} (y ∷ xs) x e = absurd (true≢false (ap is_list e))
  where
    is_list : List X → Bool
    is_list [] = false
    is_list (y ∷ ys) = true

-- what is known of words that are read to their end
pub record Reads (choices : Choices) (awaited : Option Text) (words : List Text) (given last : Given) : Type 0 where
  pub known : AreKnown choices last.choices
  pub none : last.choices ≡ [] → (awaited ≡ None) × (given.choices ≡ []) × (last.values ≡ given.values ++ unmarked words)

-- what a word is by its kind is never the mark
long_means : (name : Text) (text : Option Text) (kind : Option OptionKind) (C : Meaning → Type 0) → C Strays → ((n : Text) → name ≡ n → is_some kind ≡ true → C (Awaits n))
    → ((n t : Text) → name ≡ n → is_some kind ≡ true → C (Chooses n t)) → C (chosen_by name text kind)
long_means name text None C strays awaits chooses = strays
long_means name None (Some Flag) C strays awaits chooses = chooses name [] refl refl
long_means name (Some text) (Some Flag) C strays awaits chooses = strays
long_means name None (Some _) C strays awaits chooses = awaits name refl refl
long_means name (Some text) (Some _) C strays awaits chooses = chooses name text refl refl

word_means : (choices : Choices) (long : Option (Text × Option Text)) (word : Text) (C : Meaning → Type 0) → C Gives → C Strays
    → ((n : Text) → IsKnown choices n → C (Awaits n)) → ((n t : Text) → IsKnown choices n → C (Chooses n t)) → C (meaning_by choices long word)
word_means choices (Some long) word C gives strays awaits chooses =
    long_means long.0 long.1 (kind_named long.0 choices) C strays
    (λ n same some. awaits n (subst (λ m. is_some (kind_named m choices) ≡ true) same some))
    (λ n t same some. chooses n t (subst (λ m. is_some (kind_named m choices) ≡ true) same some))
word_means choices None word C gives strays awaits chooses = go (is_plain word)
  where
    go : (b : Bool) → C (if b then Gives else Strays)
    go true = gives
    go false = strays

-- what is known of the words after a first one
abbrev Later : Choices → List Text → Given → Type 0
Later choices rest last = (next : Option Text) (more : Given) → AreKnown choices more.choices → IsAwaited choices next → read choices next rest more ≡ Some last
    → Reads choices next rest more last

module _ (choices : Choices) (word : Text) (rest : List Text) (given last : Given) (all : AreKnown choices given.choices) (later : Later choices rest last) where
  abbrev onward : Option Text → Given → Option Given
  onward next more = read choices next rest more

  chosen : (awaited : Option Text) (n t : Text) (b : Bool) → IsKnown choices n → choose (onward None) b n t given ≡ Some last
      → Reads choices awaited (word ∷ rest) given last
  chosen awaited n t true is e = some_none e
  chosen awaited n t false is e =
      let more = later None (with_choice given n t) (one_known choices given.choices n t all is) tt e in
      record { known = more.known; none = λ empty. never_empty given.choices (n, t) (more.none empty).1 }

  text_read : (name : Text) (b : Bool) → IsKnown choices name → further onward (if b then Chooses name word else Strays) word rest given ≡ Some last
      → Reads choices (Some name) (word ∷ rest) given last
  text_read name false is e = some_none e
  text_read name true is e = chosen (Some name) name word (is_some (text_of name given.choices)) is e

  value_read : bytes_eq word (codes "--") ≡ false → read choices None rest (with_values given (word ∷ [])) ≡ Some last
      → Reads choices None (word ∷ rest) given last
  value_read other e =
      let more = later None (with_values given (word ∷ [])) all tt e in
      record {
        known = more.known;
        none = λ empty.
            let found = more.none empty in (
              refl,
              found.1,
              found.2 ∙ append_assoc given.values (word ∷ []) (unmarked rest) ∙ ap (λ b. given.values ++ cond b rest (word ∷ unmarked rest)) (sym other),
            );
      }

  name_read : (n : Text) → IsKnown choices n → read choices (Some n) rest given ≡ Some last → Reads choices None (word ∷ rest) given last
  name_read n is e =
      let more = later (Some n) given all is e in
      record { known = more.known; none = λ empty. some_none (sym (more.none empty).0) }

  word_read : (b : Bool) → bytes_eq word (codes "--") ≡ b → further onward (if b then Marks else meaning_by choices (long_of word) word) word rest given ≡ Some last
      → Reads choices None (word ∷ rest) given last
  word_read true mark e =
      let same = some_is e in
      record {
        known = subst (λ (g : Given). AreKnown choices g.choices) same all;
        none = λ empty. (
          refl,
          ap (λ (g : Given). g.choices) same ∙ empty,
          ap (λ (g : Given). g.values) (sym same) ∙ ap (λ b. given.values ++ cond b rest (word ∷ unmarked rest)) (sym mark),
        );
      }
  word_read false other e =
      word_means choices (long_of word) word (λ m. further onward m word rest given ≡ Some last → Reads choices None (word ∷ rest) given last)
      (value_read other) some_none name_read
      (λ n t is. chosen None n t (is_some (text_of n given.choices)) is) e

pub reads : (choices : Choices) (awaited : Option Text) (words : List Text) (given last : Given) → AreKnown choices given.choices → IsAwaited choices awaited
    → read choices awaited words given ≡ Some last → Reads choices awaited words given last
unfolding read
reads choices None [] given last all known e =
    let same = some_is e in
    record {
      known = subst (λ (g : Given). AreKnown choices g.choices) same all;
      none = λ empty. (refl, ap (λ (g : Given). g.choices) same ∙ empty, ap (λ (g : Given). g.values) (sym same) ∙ sym (append-nil given.values));
    }
reads choices (Some name) [] given last all known e = some_none e
reads choices (Some name) (word ∷ rest) given last all known e =
    text_read choices word rest given last all (λ next more a k r. reads choices next rest more last a k r) name (is_plain word) known e
reads choices None (word ∷ rest) given last all known e =
    word_read choices word rest given last all (λ next more a k r. reads choices next rest more last a k r) (bytes_eq word (codes "--")) refl e

-- a command without options is given the words, but for a first `--`
pub no_options : (words : List Text) (last : Given) → read [] None words nothing_given ≡ Some last → last.values ≡ unmarked words
no_options words last e =
    let all = reads [] None words nothing_given last tt tt e in
    (all.none (nobody last.choices all.known)).2
  where
    nobody : (given : List (Text × Text)) → AreKnown [] given → given ≡ []
    nobody [] known = refl
    nobody (c ∷ given) known = absurd (true≢false (sym known.0))

-- and so is one with one option that isn't given
pub option_left : (own : Text) (kind : OptionKind) (words : List Text) (last : Given) → read ((own, kind) ∷ []) None words nothing_given ≡ Some last
    → is_some (text_of own last.choices) ≡ false → last.values ≡ unmarked words
option_left own kind words last e missing =
    let all = reads ((own, kind) ∷ []) None words nothing_given last tt tt e in
    (all.none (nobody last.choices all.known missing)).2
  where
    same_name : (name : Text) → IsKnown ((own, kind) ∷ []) name → bytes_eq name own ≡ true
    same_name name = go (bytes_eq own name) refl
      where
        go : (b : Bool) → bytes_eq own name ≡ b → is_some (if b then Some kind else None) ≡ true → bytes_eq name own ≡ true
        go true same known = (bytes_eq-Decides name own).1 (sym ((bytes_eq-Decides own name).0 same))
        go false same known = absurd (true≢false (sym known))

    nobody : (given : List (Text × Text)) → AreKnown ((own, kind) ∷ []) given → is_some (text_of own given) ≡ false → given ≡ []
    nobody [] known none = refl
    nobody (c ∷ given) known none =
        absurd (true≢false (sym (subst (λ b. is_some (if b then Some c.1 else text_of own given) ≡ true) (sym (same_name c.0 known.0)) refl) ∙ none))

-- ---- plain words

pub record IsTaken (word : Text) : Type 0 where
  pub unmarked : bytes_eq word (codes "--") ≡ false
  pub long : long_of word ≡ None
  pub plain : is_plain word ≡ true

pub plain_taken : (word : Text) → IsPlainWord word → IsTaken word
plain_taken [] is = record { unmarked = refl; long = refl; plain = refl }
plain_taken (byte ∷ []) is = record { unmarked = marked (byte == 45); long = long (byte == 45); plain = plain (byte == 45) }
  where
    marked : (b : Bool) → (b && false) ≡ false
    marked true = refl
    marked false = refl

    long : (b : Bool) → option_and_then long_of_rest (option_and_then (strip_byte 45) (cond b (Some []) None)) ≡ None
    long true = refl
    long false = refl

    plain : (b : Bool) → (if is_some (cond b (Some (codes "")) None) then b && true else true) ≡ true
    plain true = refl
    plain false = refl
plain_taken (byte ∷ next ∷ rest) is =
    let e : (byte == 45) ≡ false = ne_eqb byte 45 is in
    record {
      unmarked = ap (λ b. b && bytes_eq (next ∷ rest) (45 ∷ [])) e;
      long = ap (λ b. option_and_then long_of_rest (option_and_then (strip_byte 45) (cond b (Some (next ∷ rest)) None))) e;
      plain = ap (λ b. if is_some (cond b (Some (next ∷ rest)) None) then (b && false) else true) e;
    }

-- a plain word is a value
pub gives : (choices : Choices) (word : Text) → IsPlainWord word → meaning_of choices None word ≡ Gives
gives choices word is = let taken = plain_taken word is in rw (taken.unmarked, taken.long, taken.plain) refl

-- or the text of the option before it
pub chooses : (choices : Choices) (name word : Text) → IsPlainWord word → meaning_of choices (Some name) word ≡ Chooses name word
chooses choices name word is = let taken = plain_taken word is in rw (taken.plain) refl
