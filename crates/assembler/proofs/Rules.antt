-- What a text means keeps the rules of images.
use Rattle.std.proofs.Common.{◌≡◌, ℕ, ◌+◌, ◌*◌, ◌%◌, ◌^◌, ◌<◌, ◌≤◌, ◌==◌, ◌&&◌, nat_lt, nat_le, zero, suc, Bool, true, false, cond, ℤ, pos, negsuc, ◌⊎◌, inl}
use Rattle.std.proofs.Common.{inr, List, [], ◌∷◌, length, replicate, Option, Some, None, Result, Ok, Err, refl, sym, ap, subst, ◌∙◌, arith, true≢false}
use Rattle.std.proofs.Common.{length-append}
use Rattle.std.proofs.lemmas.Bool.{cases_lt, leb-true, lt-ltb}
use Rattle.std.proofs.lemmas.List.{length-replicate}
use Rattle.std.proofs.Math.Nat.{min-eq_left, min-eq_right}
use Rattle.std.specs.Prelude.{IfOk, IfSome, unsigned_abs}
use Rattle.std.specs.Int.{w32, to_le_bytes}
use Rattle.line_text.specs.Lines.{◌>>=◌, located, taken_from, lines_of}
use Rattle.memory.specs.Access.{text_start, is_text_word, most_words, most_bytes}
use Rattle.loader.specs.Image.{ImageContents, is_entry, is_output, is_output_or_none, is_within_limits, judged}
use Rattle.loader.specs.declared.outputs.Output.{Output as Picture}
use Rattle.assembler_mnemonics.specs.declared.forms.MnemonicForm.{MnemonicForm}
use Rattle.assembler_mnemonics.specs.Slots.{shape, blank}
use Rattle.assembler_mnemonics.specs.Placing.{placed}
use Rattle.assembler_mnemonics.specs.Registers.{integer_letter}
use Rattle.assembler_syntax.specs.Tokens.{tokens_of}
use Rattle.assembler_syntax.specs.Statements.{head_of, statement_of}
use Rattle.assembler_syntax.specs.declared.statements.Head.{Head}
use Rattle.assembler_syntax.specs.declared.statements.Operand.{Operand}
use Rattle.assembler_syntax.specs.declared.statements.Operand.TheVariants as o
use Rattle.assembler_syntax.specs.declared.statements.MnemonicLine.{MnemonicLine}
use Rattle.assembler_syntax.specs.declared.statements.Statement.{Statement}
use Rattle.assembler.specs.Faults.{both, or_fault, unless}
use Rattle.assembler.specs.Judging as j
use Rattle.assembler.specs.Judging.{Context, Given, Item, nothing, these_items, these_bytes, performed, section}
use Rattle.assembler.specs.Lines.{commanded, fits, line_given, stated, with_others}
use Rattle.assembler.specs.Object.{Assembled, IsObject, assembled, before_first, entry_or_first, or_new, taken, with_given, worded}
use Rattle.assembler.specs.Places.{after, after_operation, after_space, after_word, capped, named_operation, operation_named, surveyed, surveyed_head}
use Rattle.assembler.specs.Places.{unsurveyed}
use Rattle.assembler.specs.declared.faults.AsmFault.{AsmFault}
use Rattle.assembler.specs.declared.faults.AsmFault.TheVariants.{Syntax}
use Rattle.assembler.specs.declared.operations.LineOperation.{LineOperation}
use Rattle.assembler.specs.declared.operations.LineOperation.TheVariants.{Instruction, LoadImmediate, LoadAddress, TextSection, DataSection, Word, Space, Entry}
use Rattle.assembler.specs.declared.operations.LineOperation.TheVariants.{Output as OutputPicture}
use Rattle.assembler.specs.declared.locations.LineLocation.{LineLocation}
use Rattle.assembler.specs.declared.locations.Section.{Section}
use Rattle.assembler.specs.declared.locations.Section.TheVariants.{Text, Data}
use Rattle.assembler.specs.declared.surveys.Survey.{Survey}
use Rattle.assembler.proofs.Built.{one_each}
use Rattle.assembler.proofs.Heads.{Agrees, SaysCommand, SaysHead, head_said}

-- ---- what holds of a faultless judgement

then_holds : {A B F : Type 0} (r : Result A F) (next : A → Result B F) (P : B → Type 0) → ((a : A) → IfOk (next a) P) → IfOk (r >>= next) P
then_holds (Ok a) next P h = h a
then_holds (Err f) next P h = tt

cond_holds : {A F : Type 0} (b : Bool) (first second : Result A F) (P : A → Type 0) → (b ≡ true → IfOk first P) → (b ≡ false → IfOk second P)
    → IfOk (cond b first second) P
cond_holds true first second P h k = h refl
cond_holds false first second P h k = k refl

holds_of : {A F : Type 0} (r : Result A F) (P : A → Type 0) (a : A) → IfOk r P → r ≡ Ok a → P a
holds_of (Ok x) P a h is = let same : x ≡ a = cc in subst P same h
holds_of (Err f) P a h is = absurd cc

and_left : (a b : Bool) → (a && b) ≡ true → a ≡ true
and_left true b is = refl
and_left false b is = is

and_right : (a b : Bool) → (a && b) ≡ true → b ≡ true
and_right true b is = is
and_right false b is = absurd (true≢false (sym is))

-- ---- how long what a line gives is

-- a count of words or bytes goes on by this many
abbrev Grows : ℕ → ℕ → ℕ → Type 0
Grows old new count = (new ≡ old + count) ⊎ (new ≡ capped (old + count))

same_count : (n : ℕ) → Grows n n 0
same_count n = inl (omega arith)

-- a number below the cap is not capped
grown_small : (old new count most : ℕ) → most < 2 ^ 60 → nat_le new most ≡ true → Grows old new count → new ≡ old + count
grown_small old new count most few small (inl e) = e
grown_small old new count most few small (inr e) = by (cases_lt (old + count) (2 ^ 60))
  where
    by : (old + count < 2 ^ 60) ⊎ (2 ^ 60 ≤ old + count) → new ≡ old + count
    by (inl below) = e ∙ min-eq_left (omega (arith, below))
    by (inr above) =
        let top : new ≡ 2 ^ 60 = e ∙ min-eq_right above in
        absurd (omega (arith, few, leb-true new most small, top))

-- what a line gives is as long as the next line is after it, and its entry and its picture keep the rules in text and data of these lengths
record IsFit (words bytes : ℕ) (place behind : LineLocation) (given : Given) : Type 0 where
  pub words_grow : Grows place.words behind.words (length given.items)
  pub bytes_grow : Grows place.bytes behind.bytes (length given.bytes)
  pub entry : IfSome given.entry (λ at. is_text_word words at ≡ true)
  pub output : IfSome given.output (λ picture. is_output bytes picture ≡ true)

fit_nothing : (words bytes : ℕ) (place : LineLocation) → IsFit words bytes place place nothing
fit_nothing words bytes place = record { words_grow = same_count place.words; bytes_grow = same_count place.bytes; entry = tt; output = tt }

fit_section : (words bytes : ℕ) (place : LineLocation) (to : Section) → IsFit words bytes place (record place { section = to }) nothing
fit_section words bytes place to = record { words_grow = same_count place.words; bytes_grow = same_count place.bytes; entry = tt; output = tt }

fit_one : (words bytes : ℕ) (place : LineLocation) (item : Item) → IsFit words bytes place (record place { words = capped (place.words + 1) })
    (these_items (item ∷ []))
fit_one words bytes place item = record { words_grow = inr refl; bytes_grow = same_count place.bytes; entry = tt; output = tt }

fit_two : (words bytes : ℕ) (place : LineLocation) (first second : Item) → IsFit words bytes place (record place { words = capped (place.words + 2) })
    (these_items (first ∷ second ∷ []))
fit_two words bytes place first second = record { words_grow = inr refl; bytes_grow = same_count place.bytes; entry = tt; output = tt }

fit_four : (words bytes : ℕ) (place : LineLocation) (n : ℕ) → IsFit words bytes place (record place { bytes = capped (place.bytes + 4) })
    (these_bytes (to_le_bytes w32 n))
fit_four words bytes place n = record { words_grow = same_count place.words; bytes_grow = inr refl; entry = tt; output = tt }

fit_zeros : (words bytes : ℕ) (place : LineLocation) (n : ℕ) → IsFit words bytes place (record place { bytes = capped (place.bytes + n) })
    (these_bytes (replicate n 0))
fit_zeros words bytes place n = record {
  words_grow = same_count place.words;
  bytes_grow = inr (ap (λ k. capped (place.bytes + k)) (sym (length-replicate n 0)));
  entry = tt;
  output = tt;
}

-- ---- what commands give

-- in a context of a whole text
abbrev FitsAt : Context → LineLocation → Given → Type 0
FitsAt c behind given = IsFit c.survey.here.place.words c.survey.here.place.bytes c.here.place behind given

in_text_fits : (c : Context) (behind : LineLocation) (at : Section) (judged : Result Given AsmFault) → IfOk judged (FitsAt c behind)
    → IfOk (j.in_text at judged) (FitsAt c behind)
in_text_fits c behind Text judged h = h
in_text_fits c behind Data judged h = tt

instruction_fits : (c : Context) (form : MnemonicForm) (operands : List Operand)
    → IfOk (j.instruction c form operands) (FitsAt c (record c.here.place { words = capped (c.here.place.words + 1) }))
instruction_fits c form operands = then_holds (j.given_all c (shape form) operands) _ (FitsAt c _)
    (λ pairs. fit_one c.survey.here.place.words c.survey.here.place.bytes c.here.place (j.Coded form (placed (blank form) pairs)))

loaded_fits : (c : Context) (rd n : ℕ) → FitsAt c (record c.here.place { words = capped (c.here.place.words + 2) }) (j.loaded rd n)
loaded_fits c rd n = fit_two c.survey.here.place.words c.survey.here.place.bytes c.here.place _ _

load_immediate_fits : (c : Context) (operands : List Operand)
    → IfOk (j.load_immediate operands) (FitsAt c (record c.here.place { words = capped (c.here.place.words + 2) }))
load_immediate_fits c (o.Word rd ∷ o.Number number ∷ []) =
    then_holds (both (j.register_named integer_letter rd) (j.word_number number)) _ (FitsAt c _) (λ x. loaded_fits c x.0 x.1)
load_immediate_fits c operands = tt

load_address_fits : (c : Context) (operands : List Operand)
    → IfOk (j.load_address c operands) (FitsAt c (record c.here.place { words = capped (c.here.place.words + 2) }))
load_address_fits c (o.Word rd ∷ o.Word label ∷ []) =
    then_holds (both (j.register_named integer_letter rd) (j.referenced c.survey label)) _ (FitsAt c _) (λ x. loaded_fits c x.0 (x.1 % 2 ^ 32))
load_address_fits c operands = tt

word_in_fits : (c : Context) (at : Section) (n : ℕ) → FitsAt c (after_word c.here.place at) (j.word_in at n)
word_in_fits c Text n = fit_one c.survey.here.place.words c.survey.here.place.bytes c.here.place (j.Raw n)
word_in_fits c Data n = fit_four c.survey.here.place.words c.survey.here.place.bytes c.here.place n

word_fits : (c : Context) (operands : List Operand) → IfOk (j.word c operands) (FitsAt c (after_word c.here.place c.here.place.section))
word_fits c (o.Number number ∷ []) = then_holds (j.word_number number) _ (FitsAt c _) (word_in_fits c c.here.place.section)
word_fits c (o.Word label ∷ []) = then_holds (j.referenced c.survey label) _ (FitsAt c _) (λ n. word_in_fits c c.here.place.section (n % 2 ^ 32))
word_fits c operands = tt

zeros_fit : (c : Context) (number : ℤ) → IfOk (j.zeros number) (FitsAt c (after_space c.here.place Data (Some number)))
zeros_fit c (pos n) = cond_holds (nat_le n most_bytes) (Ok (these_bytes (replicate n 0))) _ (FitsAt c _)
    (λ small. fit_zeros c.survey.here.place.words c.survey.here.place.bytes c.here.place n) (λ large. tt)
zeros_fit c (negsuc n) = tt

space_fits : (c : Context) (at : Section) (operands : List Operand) (number : Option ℤ) → Agrees operands number
    → IfOk (j.space at operands) (FitsAt c (after_space c.here.place at number))
space_fits c Data (o.Number n ∷ []) number same = subst (λ m. IfOk (j.zeros n) (FitsAt c (after_space c.here.place Data m))) (sym same) (zeros_fit c n)
space_fits c at operands number same = tt

entry_in_fits : (c : Context) (at : Section) (address : ℕ) → IfOk (j.entry_in c.survey at address) (FitsAt c c.here.place)
entry_in_fits c Text address = cond_holds (nat_lt address (2 ^ 32) && is_text_word c.survey.here.place.words address) _ _ (FitsAt c c.here.place)
    (λ is. record {
      words_grow = same_count c.here.place.words;
      bytes_grow = same_count c.here.place.bytes;
      entry = and_right (nat_lt address (2 ^ 32)) (is_text_word c.survey.here.place.words address) is;
      output = tt;
    }) (λ no. tt)
entry_in_fits c Data address = tt

entry_named_fits : (c : Context) (label : List ℕ) → IfOk (j.entry_named c label) (FitsAt c c.here.place)
entry_named_fits c label = cond_holds (j.is_first c.survey.entry c.here.line) _ _ (FitsAt c c.here.place)
    (λ first. then_holds (j.labelled c.survey label) _ (FitsAt c c.here.place) (λ named. entry_in_fits c named.section named.address)) (λ later. tt)

entry_fits : (c : Context) (at : Section) (operands : List Operand) → IfOk (j.entry c at operands) (FitsAt c c.here.place)
entry_fits c Text (o.Word label ∷ []) = entry_named_fits c label
entry_fits c at operands = tt

picture_at_fits : (c : Context) (at width height : ℕ) → IfOk (j.picture_at c.survey.here.place.bytes at width height) (FitsAt c c.here.place)
picture_at_fits c at width height =
    let picture : Picture = record { address = at; width = width; height = height; stride = 4 * width } in
    cond_holds (nat_lt at (2 ^ 32) && is_output c.survey.here.place.bytes picture) _ _ (FitsAt c c.here.place)
    (λ is. record {
      words_grow = same_count c.here.place.words;
      bytes_grow = same_count c.here.place.bytes;
      entry = tt;
      output = and_right (nat_lt at (2 ^ 32)) (is_output c.survey.here.place.bytes picture) is;
    }) (λ no. tt)

picture_of_fits : (c : Context) (at : Section) (address : ℕ) (width height : ℤ) → IfOk (j.picture_of c.survey.here.place.bytes at address width height)
    (FitsAt c c.here.place)
picture_of_fits c Text address width height = tt
picture_of_fits c Data address width height = cond_holds (j.is_extent width && j.is_extent height) _ _ (FitsAt c c.here.place)
    (λ is. picture_at_fits c address (unsigned_abs width) (unsigned_abs height)) (λ no. tt)

output_named_fits : (c : Context) (label : List ℕ) (width height : ℤ) → IfOk (j.output_named c label width height) (FitsAt c c.here.place)
output_named_fits c label width height = cond_holds (j.is_first c.survey.output c.here.line) _ _ (FitsAt c c.here.place)
    (λ first. then_holds (j.labelled c.survey label) _ (FitsAt c c.here.place) (λ named. picture_of_fits c named.section named.address width height))
    (λ later. tt)

output_fits : (c : Context) (operands : List Operand) → IfOk (j.output c operands) (FitsAt c c.here.place)
output_fits c (o.Word label ∷ o.Number width ∷ o.Number height ∷ []) = output_named_fits c label width height
output_fits c operands = tt

none_fits : (c : Context) (to : Section) (operands : List Operand) → IfOk (j.no_operands operands) (FitsAt c (record c.here.place { section = to }))
none_fits c to [] = fit_section c.survey.here.place.words c.survey.here.place.bytes c.here.place to
none_fits c to (operand ∷ operands) = tt

performed_fits : (c : Context) (operation : Option LineOperation) (operands : List Operand) (number : Option ℤ) → Agrees operands number
    → IfOk (performed c operation operands) (FitsAt c (after_operation c.here.place number operation))
unfolding performed
performed_fits c None operands number same = tt
performed_fits c (Some (Instruction form)) operands number same = in_text_fits c _ c.here.place.section _ (instruction_fits c form operands)
performed_fits c (Some LoadImmediate) operands number same = in_text_fits c _ c.here.place.section _ (load_immediate_fits c operands)
performed_fits c (Some LoadAddress) operands number same = in_text_fits c _ c.here.place.section _ (load_address_fits c operands)
performed_fits c (Some TextSection) operands number same = none_fits c Text operands
performed_fits c (Some DataSection) operands number same = none_fits c Data operands
performed_fits c (Some Word) operands number same = word_fits c operands
performed_fits c (Some Space) operands number same = space_fits c c.here.place.section operands number same
performed_fits c (Some Entry) operands number same = entry_fits c c.here.place.section operands
performed_fits c (Some OutputPicture) operands number same = output_fits c operands

commanded_fits : (c : Context) (statement : Statement) (head : Head) → SaysHead statement head
    → IfOk (commanded c statement.command) (FitsAt c (after c.here.place head))
unfolding after
commanded_fits c statement head says = by statement.command says
  where
    by : (command : Option MnemonicLine) → SaysCommand command head
        → IfOk (commanded c command) (FitsAt c (after_operation c.here.place head.number (named_operation head.mnemonic)))
    by None says = rw says (fit_nothing c.survey.here.place.words c.survey.here.place.bytes c.here.place)
    by (Some command) says = rw says.0 (performed_fits c (operation_named command.mnemonic) command.operands head.number says.1)

-- ---- lines

-- what a line gives fits, and after it text and data are within the limits
record LineFits (c : Context) (behind : LineLocation) (given : Given) : Type 0 where
  pub fit : FitsAt c behind given
  pub limits : fits behind ≡ true

both_left : {A B : Type 0} (a : Result A AsmFault) (b : Result B AsmFault) (x : A × B) → both a b ≡ Ok x → a ≡ Ok x.0
both_left (Ok a) (Ok b) x is = let same : (a, b) ≡ x = cc in ap (λ p. Ok p.0) same
both_left (Ok a) (Err g) x is = absurd cc
both_left (Err f) (Ok b) x is = absurd cc
both_left (Err f) (Err g) x is = absurd cc

both_right : {A B : Type 0} (a : Result A AsmFault) (b : Result B AsmFault) (x : A × B) → both a b ≡ Ok x → b ≡ Ok x.1
both_right (Ok a) (Ok b) x is = let same : (a, b) ≡ x = cc in ap (λ p. Ok p.1) same
both_right (Ok a) (Err g) x is = absurd cc
both_right (Err f) (Ok b) x is = absurd cc
both_right (Err f) (Err g) x is = absurd cc

unless_ok : (fault : AsmFault) (test : Bool) (x : Unit {0}) → unless fault test ≡ Ok x → test ≡ true
unless_ok fault true x is = refl
unless_ok fault false x is = absurd cc

-- the parts of a judgement
judged_both : (given : Result Given AsmFault) (others : Result (Unit {0} × Unit {0}) AsmFault) (g : Given) → with_others given others ≡ Ok g
    → (given ≡ Ok g) × ((x : Unit {0} × Unit {0}) × (others ≡ Ok x))
judged_both given others g is = by (both given others) refl is
  where
    by : (b : Result (Given × (Unit {0} × Unit {0})) AsmFault) → both given others ≡ b → (b >>= λ judged. Ok judged.0) ≡ Ok g
        → (given ≡ Ok g) × ((x : Unit {0} × Unit {0}) × (others ≡ Ok x))
    by (Ok x) e ok = let same : x.0 ≡ g = cc in (both_left given others x e ∙ ap (λ (y : Given). Ok y) same, (x.1, both_right given others x e))
    by (Err f) e ok = absurd cc

stated_fits : (c : Context) (behind : LineLocation) (statement : Statement) (head : Head) (given : Given) → behind ≡ after c.here.place head → SaysHead statement head
    → stated c behind statement ≡ Ok given → LineFits c behind given
unfolding stated
stated_fits c behind statement head given lies says is =
    let parts = judged_both (commanded c statement.command) _ given is in
    let limits = unless_ok _ (fits behind) _ (both_right _ _ _ parts.1.1) in
    record {
      fit = subst (λ (b : LineLocation). FitsAt c b given) (sym lies) (holds_of (commanded c statement.command) (FitsAt c (after c.here.place head)) given
          (commanded_fits c statement head says) parts.0);
      limits = limits;
    }

line_fits : (c : Context) (line : List ℕ) (given : Given) → line_given c line ≡ Ok given → LineFits c (after c.here.place (head_of (tokens_of line))) given
unfolding line_given
line_fits c line given is = by (statement_of (tokens_of line)) refl is
  where
    by : (found : Option Statement) → statement_of (tokens_of line) ≡ found
        → (or_fault Syntax found >>= λ statement. stated c (after c.here.place (head_of (tokens_of line))) statement) ≡ Ok given
        → LineFits c (after c.here.place (head_of (tokens_of line))) given
    by None found ok = absurd cc
    by (Some statement) found ok = stated_fits c _ statement (head_of (tokens_of line)) given refl (head_said (tokens_of line) statement found) ok

-- ---- whole texts

-- what the lines so far gave is as long as the place says, and keeps the rules where text and data are as long as the survey says
record Keeps (survey : Survey) (a : Assembled) : Type 0 where
  pub items : length a.items ≡ a.here.place.words
  pub bytes : length a.bytes ≡ a.here.place.bytes
  pub limits : fits a.here.place ≡ true
  pub entry : IfSome a.entry (λ at. is_text_word survey.here.place.words at ≡ true)
  pub output : IfSome a.output (λ picture. is_output survey.here.place.bytes picture ≡ true)

or_new_holds : {A : Type 0} (old new : Option A) (P : A → Type 0) → IfSome old P → IfSome new P → IfSome (or_new old new) P
or_new_holds None new P h k = k
or_new_holds (Some a) new P h k = h

keeps_given : (survey : Survey) (a : Assembled) (behind : LineLocation) (given : Given) → Keeps survey a
    → LineFits (record { survey = survey; here = a.here }) behind given
    → Keeps survey (with_given a behind given)
keeps_given survey a behind given k f =
    let words = grown_small a.here.place.words behind.words (length given.items) most_words (omega arith) (and_left (nat_le behind.words most_words)
    (nat_le behind.bytes most_bytes) f.limits) f.fit.words_grow in
    let bytes = grown_small a.here.place.bytes behind.bytes (length given.bytes) most_bytes (omega arith) (and_right (nat_le behind.words most_words)
    (nat_le behind.bytes most_bytes) f.limits) f.fit.bytes_grow in
    record {
      items = length-append a.items given.items ∙ ap (λ n. n + length given.items) k.items ∙ sym words;
      bytes = length-append a.bytes given.bytes ∙ ap (λ n. n + length given.bytes) k.bytes ∙ sym bytes;
      limits = f.limits;
      entry = or_new_holds a.entry given.entry (λ at. is_text_word survey.here.place.words at ≡ true) k.entry f.fit.entry;
      output = or_new_holds a.output given.output (λ picture. is_output survey.here.place.bytes picture ≡ true) k.output f.fit.output;
    }

-- a line that is taken
record TakenLine (survey : Survey) (a next : Assembled) (line : List ℕ) : Type 0 where
  pub given : Given
  pub judged : line_given (record { survey = survey; here = a.here }) line ≡ Ok given
  pub next_is : with_given a (after a.here.place (head_of (tokens_of line))) given ≡ next

line_taken : (survey : Survey) (a next : Assembled) (line : List ℕ) → taken survey a line ≡ Ok next → TakenLine survey a next line
unfolding taken
line_taken survey a next line is = by (line_given (record { survey = survey; here = a.here }) line) refl is
  where
    by : (judged : Result Given AsmFault) → line_given (record { survey = survey; here = a.here }) line ≡ judged
        → (judged >>= λ given. Ok (with_given a (after a.here.place (head_of (tokens_of line))) given)) ≡ Ok next → TakenLine survey a next line
    by (Ok given) e ok = record { given = given; judged = e; next_is = cc }
    by (Err fault) e ok = absurd cc

keeps_line : (survey : Survey) (a next : Assembled) (line : List ℕ) → Keeps survey a → taken survey a line ≡ Ok next → Keeps survey next
keeps_line survey a next line k is =
    let t = line_taken survey a next line is in
    subst (Keeps survey) t.next_is (keeps_given survey a _ t.given k (line_fits (record { survey = survey; here = a.here }) line t.given t.judged))

-- the lines in turn
first_taken : (survey : Survey) (number : ℕ) (a last : Assembled) (line : List ℕ) (lines : List (List ℕ)) → taken_from (taken survey) number a (line ∷ lines)
    ≡ Ok last
    → (next : Assembled) × (taken survey a line ≡ Ok next) × (taken_from (taken survey) (number + 1) next lines ≡ Ok last)
unfolding taken_from
first_taken survey number a last line lines is = by (taken survey a line) refl is
  where
    by : (judged : Result Assembled AsmFault) → taken survey a line ≡ judged → located number judged (λ next. taken_from (taken survey) (number + 1) next lines)
        ≡ Ok last
        → (next : Assembled) × (taken survey a line ≡ Ok next) × (taken_from (taken survey) (number + 1) next lines ≡ Ok last)
    by (Ok next) e ok = (next, e, ok)
    by (Err fault) e ok = absurd cc

none_taken : (survey : Survey) (number : ℕ) (a last : Assembled) → taken_from (taken survey) number a [] ≡ Ok last → a ≡ last
unfolding taken_from
none_taken survey number a last is = cc

keeps_lines : (survey : Survey) (number : ℕ) (a last : Assembled) (lines : List (List ℕ)) → Keeps survey a → taken_from (taken survey) number a lines ≡ Ok last
    → Keeps survey last
keeps_lines survey number a last [] k is = subst (Keeps survey) (none_taken survey number a last is) k
keeps_lines survey number a last (line ∷ lines) k is =
    let t = first_taken survey number a last line lines is in
    keeps_lines survey (number + 1) t.0 last lines (keeps_line survey a t.0 line k t.1) t.2

-- a survey and what is taken go from place to place together
place_surveyed : (s : Survey) (line : List ℕ) → (surveyed_head s (head_of (tokens_of line))).here.place ≡ after s.here.place (head_of (tokens_of line))
unfolding surveyed_head
place_surveyed s line = refl

none_surveyed : (s : Survey) → surveyed s [] ≡ s
unfolding surveyed
none_surveyed s = refl

one_surveyed : (s : Survey) (line : List ℕ) (lines : List (List ℕ)) → surveyed s (line ∷ lines) ≡ surveyed (surveyed_head s (head_of (tokens_of line))) lines
unfolding surveyed
one_surveyed s line lines = refl

same_place : (survey s : Survey) (number : ℕ) (a last : Assembled) (lines : List (List ℕ)) → s.here.place ≡ a.here.place
    → taken_from (taken survey) number a lines ≡ Ok last
    → (surveyed s lines).here.place ≡ last.here.place
same_place survey s number a last [] same is =
    ap (λ (x : Survey). x.here.place) (none_surveyed s) ∙ same ∙ ap (λ (x : Assembled). x.here.place) (none_taken survey number a last is)
same_place survey s number a last (line ∷ lines) same is =
    let t = first_taken survey number a last line lines is in
    let l = line_taken survey a t.0 line t.1 in
    ap (λ (x : Survey). x.here.place) (one_surveyed s line lines)
    ∙ same_place survey (surveyed_head s (head_of (tokens_of line))) (number + 1) t.0 last lines
    (place_surveyed s line ∙ ap (λ (p : LineLocation). after p (head_of (tokens_of line))) same ∙ ap (λ (x : Assembled). x.here.place) l.next_is) t.2

-- ---- objects

judged_well : (image : ImageContents) → is_within_limits image ≡ true → is_entry (length image.words) image.entry ≡ true
    → is_output_or_none (length image.bytes) image.output ≡ true
    → judged image ≡ Ok image
judged_well image limits entry output = rw (limits, entry, output) refl

both_true : (a b : Bool) → a ≡ true → b ≡ true → (a && b) ≡ true
both_true a b e f = rw (e, f) refl

some_words : (words : ℕ) → (words == 0) ≡ false → 1 ≤ words
some_words zero is = absurd (true≢false is)
some_words (suc n) is = omega arith

-- a text with a word starts at its first word, or where it says
entry_well : (words : ℕ) (entry : Option ℕ) → (words == 0) ≡ false → IfSome entry (λ at. is_text_word words at ≡ true)
    → is_text_word words (entry_or_first entry) ≡ true
entry_well words (Some at) some h = h
entry_well words None some h = lt-ltb text_start (text_start + 4 * words) (omega (arith, some_words words some))

output_well : (bytes : ℕ) (output : Option Picture) → IfSome output (λ picture. is_output bytes picture ≡ true) → is_output_or_none bytes output ≡ true
output_well bytes None h = refl
output_well bytes (Some picture) h = h

keeps_object : (survey : Survey) (a : Assembled) (object : ImageContents) → Keeps survey a → survey.here.place ≡ a.here.place → (length a.items == 0) ≡ false
    → IsObject object a
    → judged object ≡ Ok object
keeps_object survey a object k same some is =
    let words : length object.words ≡ a.here.place.words = one_each object.words a.items is.words ∙ k.items in
    let bytes : length object.bytes ≡ a.here.place.bytes = ap length is.bytes ∙ k.bytes in
    let few_words = and_left (nat_le a.here.place.words most_words) (nat_le a.here.place.bytes most_bytes) k.limits in
    let few_bytes = and_right (nat_le a.here.place.words most_words) (nat_le a.here.place.bytes most_bytes) k.limits in
    let entry = subst (λ (o : Option ℕ). IfSome o (λ at. is_text_word (length object.words) at ≡ true)) refl
    (subst (λ n. IfSome a.entry (λ at. is_text_word n at ≡ true)) (ap (λ (p : LineLocation). p.words) same ∙ sym words) k.entry) in
    judged_well object
    (both_true (nat_le (length object.words) most_words) (nat_le (length object.bytes) most_bytes)
    (ap (λ n. nat_le n most_words) words ∙ few_words) (ap (λ n. nat_le n most_bytes) bytes ∙ few_bytes))
    (ap (is_entry (length object.words)) is.entry
    ∙ entry_well (length object.words) a.entry (ap (λ n. n == 0) (one_each object.words a.items is.words) ∙ some) entry)
    (ap (is_output_or_none (length object.bytes)) is.output
    ∙ output_well (length object.bytes) a.output
    (subst (λ n. IfSome a.output (λ picture. is_output n picture ≡ true)) (ap (λ (p : LineLocation). p.bytes) same ∙ sym bytes) k.output))

keeps_first : (survey : Survey) → Keeps survey before_first
keeps_first survey = record { items = refl; bytes = refl; limits = refl; entry = tt; output = tt }

pub keeps_rules : (text : List ℕ) (a : Assembled) (object : ImageContents) → assembled text ≡ Ok a → IsObject object a → judged object ≡ Ok object
unfolding assembled
keeps_rules text a object is object_is = by (taken_from (taken survey) 1 before_first (lines_of text)) refl is
  where
    survey : Survey
    survey = surveyed unsurveyed (lines_of text)

    last_is : (last : Assembled) → taken_from (taken survey) 1 before_first (lines_of text) ≡ Ok last → (b : Bool) → (length last.items == 0) ≡ b
        → cond {A = Result Assembled (ℕ × AsmFault)} b (Err (1, Syntax)) (Ok last) ≡ Ok a
        → judged object ≡ Ok object
    last_is last e true none ok = absurd cc
    last_is last e false some ok =
        let same : last ≡ a = cc in
        keeps_object survey last object (keeps_lines survey 1 before_first last (lines_of text) (keeps_first survey) e)
        (same_place survey unsurveyed 1 before_first last (lines_of text) refl e) some (subst (IsObject object) (sym same) object_is)

    by : (all : Result Assembled (ℕ × AsmFault)) → taken_from (taken survey) 1 before_first (lines_of text) ≡ all → (all >>= worded) ≡ Ok a
        → judged object ≡ Ok object
    by (Err fault) e ok = absurd cc
    by (Ok last) e ok = last_is last e (length last.items == 0) refl ok
