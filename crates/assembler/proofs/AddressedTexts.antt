-- The listing of words with their addresses is assembled to these words alone.
use Rattle.std.proofs.Common.{◌≡◌, ℕ, ◌+◌, ◌^◌, ◌<◌, ◌≤◌, List, [], ◌∷◌, ◌++◌, length, map, Some, Ok, refl, ap, ◌∙◌, append_assoc, arith}
use Rattle.std.specs.List.{AllByRecursion}
use Rattle.std.proofs.lemmas.List.{append-nil}
use Rattle.line_text.specs.Lines.{IsLine, lines_of, text_of, taken_from}
use Rattle.memory.specs.Access.{most_words}
use Rattle.rv_encoding.specs.Decoding.{decoded}
use Rattle.assembler_syntax.specs.Tokens.{tokens_of}
use Rattle.assembler_syntax.specs.Statements.{statement_of}
use Rattle.disassembler.specs.Listing.{addressed_line, addressed_listing}
use Rattle.disassembler.specs.Reading.{tokens_said, statement_said}
use Rattle.assembler.specs.Judging.{Item}
use Rattle.assembler.specs.Listings.{AreWords, AssemblesBackFrom}
use Rattle.assembler.specs.Object.{taken, assembled, before_first}
use Rattle.assembler.specs.Places.{surveyed, unsurveyed}
use Rattle.assembler.specs.declared.surveys.Survey.{Survey}
use Rattle.assembler.proofs.ListedLines.{so_far, word_taken}
use Rattle.assembler.proofs.ListedTexts.{Below, first_small, item_of, others_small, same_parts, same_words, some_items, words_are}

-- what lines with addresses say
pub record Addressed : Type 0 where
  pub tokens : (word address : ℕ) → word < 2 ^ 32 → tokens_of (addressed_line address word) ≡ tokens_said word
  pub statement : (word address : ℕ) → word < 2 ^ 32 → statement_of (tokens_of (addressed_line address word)) ≡ Some (statement_said word)
  pub single : (word address : ℕ) → word < 2 ^ 32 → IsLine (addressed_line address word)

-- ---- the lines of the listing

lines_from : ℕ → List ℕ → List (List ℕ)
lines_from address [] = []
lines_from address (word ∷ words) = addressed_line address word ∷ lines_from (address + 4) words

lines_joined : (start : ℕ) (words : List ℕ) → addressed_listing start words ≡ text_of (lines_from start words)
unfolding addressed_listing lines_from
lines_joined start [] = refl
lines_joined start (word ∷ words) = ap (λ (text : List ℕ). (addressed_line start word ++ 10 ∷ []) ++ text) (lines_joined (start + 4) words)

all_single : Addressed → (start : ℕ) (words : List ℕ) → AreWords words → AllByRecursion IsLine (lines_from start words)
unfolding lines_from
all_single a start [] small = tt
all_single a start (word ∷ words) small = (a.single word start (first_small word words small), all_single a (start + 4) words (others_small word words small))

lines_listed : Below → Addressed → (start : ℕ) (words : List ℕ) → AreWords words → lines_of (addressed_listing start words) ≡ lines_from start words
lines_listed b a start words small = ap lines_of (lines_joined start words) ∙ b.read_back (lines_from start words) (all_single a start words small)

-- ---- all lines

next_taken : Below → Addressed → (survey : Survey) (line count : ℕ) (items : List Item) (word address : ℕ) → count < 262144 → word < 2 ^ 32
    → taken survey (so_far line count items) (addressed_line address word) ≡ Ok (so_far (line + 1) (count + 1) (items ++ item_of word ∷ []))
next_taken b a survey line count items word address room small =
    word_taken survey line count items (addressed_line address word) word (decoded word) room small b.found
    (λ insn is. b.fits word insn ((b.meant word insn small).0 is)) (a.tokens word address small) (a.statement word address small)

-- the lines of words, from a place in text on
record Ends (survey : Survey) (line count : ℕ) (items : List Item) (start : ℕ) (words : List ℕ) : Type 0 where
  last : ℕ
  total : ℕ
  taken_is : taken_from (taken survey) line (so_far line count items) (lines_from start words) ≡ Ok (so_far last total (items ++ map item_of words))

words_taken : Below → Addressed → (survey : Survey) (start : ℕ) (words : List ℕ) (line count : ℕ) (items : List Item) → AreWords words
    → count + length words ≤ 262144
    → Ends survey line count items start words
unfolding taken_from lines_from
words_taken b a survey start [] line count items small room = record { last = line; total = count; taken_is = rw (append-nil items) refl }
words_taken b a survey start (word ∷ words) line count items small room =
    let first = next_taken b a survey line count items word start (omega (arith, room)) (first_small word words small) in
    let ends = words_taken b a survey (start + 4) words (line + 1) (count + 1) (items ++ item_of word ∷ []) (others_small word words small)
    (omega (arith, room)) in
    let same : (items ++ item_of word ∷ []) ++ map item_of words ≡ items ++ item_of word ∷ map item_of words = append_assoc items (item_of word ∷ [])
    (map item_of words) in
    record { last = ends.last; total = ends.total; taken_is = rw first (ends.taken_is ∙ ap (λ (all : List Item). Ok (so_far ends.last ends.total all)) same) }

-- ---- the object

pub assembles_back_from : Below → Addressed → (start : ℕ) (words : List ℕ) → AreWords words → 1 ≤ length words → length words ≤ most_words
    → AssemblesBackFrom start words
unfolding assembled
assembles_back_from b a start words small some few =
    let survey = surveyed unsurveyed (lines_of (addressed_listing start words)) in
    let ends = words_taken b a survey start words 1 0 [] small (omega (arith, few)) in
    let lines = lines_listed b a start words small in
    let all : taken_from (taken survey) 1 before_first (lines_of (addressed_listing start words)) ≡ Ok (so_far ends.last ends.total (map item_of words)) =
    ap (taken_from (taken survey) 1 before_first) lines ∙ ends.taken_is in
    record {
      meaning = so_far ends.last ends.total (map item_of words);
      assembled_is = rw (all, some_items words some) refl;
      is_object = record { entry = refl; words = words_are b words small; bytes = refl; output = refl };
      alone = λ object small' is. same_parts object.entry words object.words object.bytes object.output is.entry (same_words b words object.words small small'
          is.words) is.bytes is.output;
    }
