-- A word at the front of a line, by what follows it.
use Rattle.std.proofs.Common.{◌≡◌, ℕ, Bool, true, false, List, [], ◌∷◌, Some, None, if◌then◌else◌, refl, sym, ap, ◌∙◌}
use Rattle.assembler_syntax.specs.declared.tokens.AssemblyToken.{AssemblyToken}
use Rattle.assembler_syntax.specs.declared.tokens.AssemblyToken.TheVariants as t
use Rattle.assembler_syntax.specs.Statements.{is_label, operands_of, commanded, behind_label, statement_of, command_head, head_of}
use Rattle.assembler_syntax.specs.inner.Fronts.{behind_colon}

pub no_label : (word : List ℕ) (tokens : List AssemblyToken) → None ≡ behind_colon tokens
    → statement_of (t.Word word ∷ tokens) ≡ commanded None word (operands_of tokens)
unfolding statement_of
no_label word [] none = refl
no_label word (t.Colon ∷ tokens) none = absurd cc
no_label word (t.Comma ∷ tokens) none = refl
no_label word (t.Word w ∷ tokens) none = refl
no_label word (t.Number n ∷ tokens) none = refl
no_label word (t.Open ∷ tokens) none = refl
no_label word (t.Close ∷ tokens) none = refl
no_label word (t.Other ∷ tokens) none = refl

labelled : (word : List ℕ) (tokens rest : List AssemblyToken) → Some rest ≡ behind_colon tokens
    → statement_of (t.Word word ∷ tokens) ≡ (if is_label word then behind_label (Some word) rest else None)
unfolding statement_of
labelled word [] rest some = absurd cc
labelled word (t.Colon ∷ tokens) rest some =
    let same : tokens ≡ rest = cc in
    ap (λ (after : List AssemblyToken). if is_label word then behind_label (Some word) after else None) same
labelled word (t.Comma ∷ tokens) rest some = absurd cc
labelled word (t.Word w ∷ tokens) rest some = absurd cc
labelled word (t.Number n ∷ tokens) rest some = absurd cc
labelled word (t.Open ∷ tokens) rest some = absurd cc
labelled word (t.Close ∷ tokens) rest some = absurd cc
labelled word (t.Other ∷ tokens) rest some = absurd cc

-- a word that was judged
pub label_says : (word read : List ℕ) (tokens rest : List AssemblyToken) (is : Bool) → Some rest ≡ behind_colon tokens → read ≡ word → is ≡ is_label read
    → is ≡ true → statement_of (t.Word word ∷ tokens) ≡ behind_label (Some word) rest
label_says word read tokens rest is some same judged passed =
    let label : is_label word ≡ true = rw same at (sym judged ∙ passed) in
    labelled word tokens rest some ∙ rw label refl

pub no_label_says : (word read : List ℕ) (tokens rest : List AssemblyToken) (is : Bool) → Some rest ≡ behind_colon tokens → read ≡ word → is ≡ is_label read
    → is ≡ false → statement_of (t.Word word ∷ tokens) ≡ None
no_label_says word read tokens rest is some same judged failed =
    let label : is_label word ≡ false = rw same at (sym judged ∙ failed) in
    labelled word tokens rest some ∙ rw label refl

pub no_label_head : (word : List ℕ) (tokens : List AssemblyToken) → None ≡ behind_colon tokens
    → head_of (t.Word word ∷ tokens) ≡ command_head None (t.Word word ∷ tokens)
unfolding head_of
no_label_head word [] none = refl
no_label_head word (t.Colon ∷ tokens) none = absurd cc
no_label_head word (t.Comma ∷ tokens) none = refl
no_label_head word (t.Word w ∷ tokens) none = refl
no_label_head word (t.Number n ∷ tokens) none = refl
no_label_head word (t.Open ∷ tokens) none = refl
no_label_head word (t.Close ∷ tokens) none = refl
no_label_head word (t.Other ∷ tokens) none = refl

pub labelled_head : (word : List ℕ) (tokens rest : List AssemblyToken) → Some rest ≡ behind_colon tokens
    → head_of (t.Word word ∷ tokens) ≡ command_head (if is_label word then Some word else None) rest
unfolding head_of
labelled_head word [] rest some = absurd cc
labelled_head word (t.Colon ∷ tokens) rest some =
    let same : tokens ≡ rest = cc in
    ap (command_head (if is_label word then Some word else None)) same
labelled_head word (t.Comma ∷ tokens) rest some = absurd cc
labelled_head word (t.Word w ∷ tokens) rest some = absurd cc
labelled_head word (t.Number n ∷ tokens) rest some = absurd cc
labelled_head word (t.Open ∷ tokens) rest some = absurd cc
labelled_head word (t.Close ∷ tokens) rest some = absurd cc
labelled_head word (t.Other ∷ tokens) rest some = absurd cc
