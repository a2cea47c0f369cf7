-- The listing of words is assembled to these words alone.
use Rattle.std.proofs.Common.{◌≡◌, ℕ, ◌+◌, ◌^◌, ◌<◌, ◌≤◌, ◌==◌, ◌↔◌, false, List, [], ◌∷◌, ◌++◌, length, map, Option, Some, None, Ok, refl, ap, ◌∙◌}
use Rattle.std.proofs.Common.{append_assoc, arith}
use Rattle.std.specs.List.{AllByRecursion}
use Rattle.std.proofs.lemmas.List.{append-nil}
use Rattle.std.proofs.lemmas.List.Elements.{All-head, All-tail}
use Rattle.std.proofs.lemmas.Bool.Decides.{nat_tests}
use Rattle.line_text.specs.Lines.{IsLine, lines_of, text_of, taken_from}
use Rattle.memory.specs.Access.{text_start, most_words}
use Rattle.loader.specs.declared.outputs.Output.{Output}
use Rattle.rv_insn.specs.Table.{Means, fields_of}
use Rattle.rv_insn.specs.declared.instructions.Insn.{Insn}
use Rattle.rv_encoding.specs.Decoding.{decoded}
use Rattle.rv_encoding.proofs.Rows.{one_spelling}
use Rattle.assembler_mnemonics.specs.Forms.{form_of, IsWord}
use Rattle.assembler_mnemonics.specs.Slots.{shape, FitsSlots}
use Rattle.assembler_mnemonics.specs.declared.forms.MnemonicForm.{MnemonicForm}
use Rattle.assembler_syntax.specs.Tokens.{tokens_of}
use Rattle.assembler_syntax.specs.Statements.{statement_of}
use Rattle.disassembler.specs.Listing.{line_of, listed, listing}
use Rattle.disassembler.specs.Reading.{tokens_said, statement_said}
use Rattle.assembler.specs.Judging.{Item}
use Rattle.assembler.specs.Listings.{AreWords, of_words, AssemblesBack}
use Rattle.assembler.specs.Object.{AreItems, IsItem, taken, assembled, before_first}
use Rattle.assembler.specs.Places.{surveyed, unsurveyed}
use Rattle.assembler.specs.declared.surveys.Survey.{Survey}
use Rattle.assembler.proofs.ListedLines.{IsFound, item_said, so_far, word_taken}

-- the laws below that this one is on
pub record Below : Type 0 where
  pub tokens : (word : ℕ) → word < 2 ^ 32 → tokens_of (line_of word) ≡ tokens_said word
  pub statement : (word : ℕ) → word < 2 ^ 32 → statement_of (tokens_of (line_of word)) ≡ Some (statement_said word)
  pub single : (word : ℕ) → word < 2 ^ 32 → IsLine (line_of word)
  pub read_back : (lines : List (List ℕ)) → AllByRecursion IsLine lines → lines_of (text_of lines) ≡ lines
  pub found : (form : MnemonicForm) → IsFound form
  pub fits : (word : ℕ) (insn : Insn) → Means word insn → FitsSlots (fields_of insn) (shape (form_of insn))
  pub is_word : (word : ℕ) (insn : Insn) → Means word insn ↔ IsWord word (form_of insn) (fields_of insn)
  pub meant : (word : ℕ) (insn : Insn) → word < 2 ^ 32 → (decoded word ≡ Some insn) ↔ Means word insn

pub first_small : (word : ℕ) (words : List ℕ) → AreWords (word ∷ words) → word < 2 ^ 32
first_small word words small = All-head (λ (n : ℕ). n < 2 ^ 32) word words small

pub others_small : (word : ℕ) (words : List ℕ) → AreWords (word ∷ words) → AreWords words
others_small word words small = All-tail (λ (n : ℕ). n < 2 ^ 32) word words small

-- ---- the lines of the listing

lines_joined : (words : List ℕ) → listing words ≡ text_of (map line_of words)
unfolding listing
lines_joined [] = refl
lines_joined (word ∷ words) = ap (λ (text : List ℕ). listed word ++ text) (lines_joined words)

all_single : Below → (words : List ℕ) → AreWords words → AllByRecursion IsLine (map line_of words)
all_single b [] small = tt
all_single b (word ∷ words) small = (b.single word (first_small word words small), all_single b words (others_small word words small))

lines_listed : Below → (words : List ℕ) → AreWords words → lines_of (listing words) ≡ map line_of words
lines_listed b words small = ap lines_of (lines_joined words) ∙ b.read_back (map line_of words) (all_single b words small)

-- ---- all lines

abbrev pub item_of : ℕ → Item
item_of word = item_said word (decoded word)

next_taken : Below → (survey : Survey) (line count : ℕ) (items : List Item) (word : ℕ) → count < 262144 → word < 2 ^ 32
    → taken survey (so_far line count items) (line_of word) ≡ Ok (so_far (line + 1) (count + 1) (items ++ item_of word ∷ []))
next_taken b survey line count items word room small =
    word_taken survey line count items (line_of word) word (decoded word) room small b.found (λ insn is. b.fits word insn ((b.meant word insn small).0 is))
    (b.tokens word small) (b.statement word small)

-- the lines of words, from a place in text on
record Ends (survey : Survey) (line count : ℕ) (items : List Item) (words : List ℕ) : Type 0 where
  last : ℕ
  total : ℕ
  taken_is : taken_from (taken survey) line (so_far line count items) (map line_of words) ≡ Ok (so_far last total (items ++ map item_of words))

words_taken : Below → (survey : Survey) (words : List ℕ) (line count : ℕ) (items : List Item) → AreWords words → count + length words ≤ 262144
    → Ends survey line count items words
unfolding taken_from
words_taken b survey [] line count items small room = record { last = line; total = count; taken_is = rw (append-nil items) refl }
words_taken b survey (word ∷ words) line count items small room =
    let first = next_taken b survey line count items word (omega (arith, room)) (first_small word words small) in
    let ends = words_taken b survey words (line + 1) (count + 1) (items ++ item_of word ∷ []) (others_small word words small) (omega (arith, room)) in
    let same : (items ++ item_of word ∷ []) ++ map item_of words ≡ items ++ item_of word ∷ map item_of words = append_assoc items (item_of word ∷ [])
    (map item_of words) in
    record { last = ends.last; total = ends.total; taken_is = rw first (ends.taken_is ∙ ap (λ (all : List Item). Ok (so_far ends.last ends.total all)) same) }

-- ---- the words of the items

word_is : Below → (word : ℕ) (meant : Option Insn) → decoded word ≡ meant → word < 2 ^ 32 → IsItem word (item_said word meant)
word_is b word None e small = refl
word_is b word (Some insn) e small = (b.is_word word insn).0 ((b.meant word insn small).0 e)

pub words_are : Below → (words : List ℕ) → AreWords words → AreItems words (map item_of words)
words_are b [] small = tt
words_are b (word ∷ words) small = (word_is b word (decoded word) refl (first_small word words small), words_are b words (others_small word words small))

-- and no others
same_word : Below → (word other : ℕ) (meant : Option Insn) → decoded word ≡ meant → word < 2 ^ 32 → other < 2 ^ 32 → IsItem other (item_said word meant)
    → other ≡ word
same_word b word other None e small small' is = is
same_word b word other (Some insn) e small small' is =
    one_spelling insn other word small' small ((b.is_word other insn).1 is) ((b.meant word insn small).0 e)

pub same_words : Below → (words others : List ℕ) → AreWords words → AreWords others → AreItems others (map item_of words) → others ≡ words
same_words b [] [] small small' are = refl
same_words b [] (other ∷ others) small small' are = elim are [ ]
same_words b (word ∷ words) [] small small' are = elim are [ ]
same_words b (word ∷ words) (other ∷ others) small small' are =
    let first = same_word b word other (decoded word) refl (first_small word words small) (first_small other others small') are.0 in
    let later = same_words b words others (others_small word words small) (others_small other others small') are.1 in
    rw (first, later) refl

-- ---- the object

pub same_parts : (entry : ℕ) (words others bytes : List ℕ) (output : Option Output) → entry ≡ text_start → others ≡ words → bytes ≡ [] → output ≡ None
    → record { entry = entry; words = others; bytes = bytes; output = output } ≡ of_words words
same_parts entry words others bytes output starts same none no_output = rw (starts, same, none, no_output) refl

pub some_items : (words : List ℕ) → 1 ≤ length words → (length (map item_of words) == 0) ≡ false
some_items [] some = absurd (omega (arith, some))
some_items (word ∷ words) some = grind (arith, nat_tests)

pub assembles_back : Below → (words : List ℕ) → AreWords words → 1 ≤ length words → length words ≤ most_words → AssemblesBack words
unfolding assembled
assembles_back b words small some few =
    let survey = surveyed unsurveyed (lines_of (listing words)) in
    let ends = words_taken b survey words 1 0 [] small (omega (arith, few)) in
    let lines = lines_listed b words small in
    let all : taken_from (taken survey) 1 before_first (lines_of (listing words)) ≡ Ok (so_far ends.last ends.total (map item_of words)) =
    ap (taken_from (taken survey) 1 before_first) lines ∙ ends.taken_is in
    record {
      meaning = so_far ends.last ends.total (map item_of words);
      assembled_is = rw (all, some_items words some) refl;
      is_object = record { entry = refl; words = words_are b words small; bytes = refl; output = refl };
      alone = λ object small' is. same_parts object.entry words object.words object.bytes object.output is.entry (same_words b words object.words small small'
          is.words) is.bytes is.output;
    }
