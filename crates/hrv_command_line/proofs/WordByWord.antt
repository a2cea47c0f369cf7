-- What is read, word by word.
use Rattle.std.proofs.Common.{◌≡◌, ◌∙◌, Bool, true, false, true≢false, refl, sym, ap, List, [], ◌∷◌, Option, Some, None, option_map, map}
use Rattle.std.specs.Prelude.{Result, Ok, Err, IfOk, if◌then◌else◌, not, is_some}
use Rattle.std.specs.Borrow.{Bor}
use Rattle.clap.specs.Walk.{texts}
use Rattle.clap.specs.Words.{Text}
use Rattle.hrv_command_line.specs.CommandLine.{Given, Meaning, ended, further, meaning_of, read, text_of}
use Rattle.hrv_command_line.specs.inner.Readings.{chosen_of}
use Rattle.hrv_command_line.specs.declared.reading.Chosen.{Chosen}
use Rattle.hrv_command_line.specs.declared.table.OptionKind.{OptionKind}

pub none_left : (choices : List (Text × OptionKind)) (awaited : Option Text) (words : List (Bor Text)) (given : Given) → words ≡ []
    → read choices awaited (texts words) given ≡ ended awaited given
unfolding read
none_left choices awaited words given none = ap (λ ws. read choices awaited (texts ws) given) none

pub ended_by : (awaited : Option (Bor Text)) (given : Given) (b : Bool) → is_some awaited ≡ not b
    → ended (option_map (λ s. s.now) awaited) given ≡ (if b then Some given else None)
ended_by None given true e = refl
ended_by None given false e = absurd (true≢false (sym e))
ended_by (Some name) given true e = absurd (true≢false e)
ended_by (Some name) given false e = refl

pub one_on : (choices : List (Text × OptionKind)) (awaited : Option Text) (words rest : List (Bor Text)) (word : Bor Text) (given : Given) (m : Meaning)
    → words ≡ word ∷ rest → m ≡ meaning_of choices awaited word.now
    → read choices awaited (texts words) given ≡ further (λ next more. read choices next (texts rest) more) m word.now (texts rest) given
unfolding read
one_on choices awaited words rest word given m split is =
    ap (λ ws. read choices awaited (texts ws) given) split
    ∙ ap (λ x. further (λ next more. read choices next (texts rest) more) x word.now (texts rest) given) (sym is)

-- what is read after a word is what is read from it on
pub on_to : {E : Type 0} (result : Result Bool E) (here there : Option Given) (last : Given) → here ≡ there
    → IfOk result (λ b. there ≡ (if b then Some last else None)) → IfOk result (λ b. here ≡ (if b then Some last else None))
on_to (Err e) here there last same rest = tt
on_to (Ok b) here there last same rest = same ∙ rest

has_text : (o : Option (Bor Text)) → is_some (option_map (λ s. s.now) o) ≡ is_some o
has_text None = refl
has_text (Some s) = refl

-- whether an option is given already
pub is_given : (o : Option (Bor Text)) (name : Text) (slice items : List Chosen) (b : Bool) → option_map (λ s. s.now) o ≡ text_of name (map chosen_of slice)
    → slice ≡ items → b ≡ is_some o → is_some (text_of name (map chosen_of items)) ≡ b
is_given o name slice items b reads same is =
    ap (λ cs. is_some (text_of name (map chosen_of cs))) (sym same) ∙ ap is_some (sym reads) ∙ has_text o ∙ sym is
