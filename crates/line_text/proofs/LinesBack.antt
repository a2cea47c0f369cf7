-- Lines that line feeds end are the lines of their text.
use Rattle.std.proofs.Common.{◌≡◌, ◌≢◌, ℕ, Bool, false, cond, ◌==◌, List, [], ◌∷◌, ◌++◌, refl, ap, ◌∙◌, append_assoc, sym, arith}
use Rattle.std.proofs.lemmas.List.{append-nil}
use Rattle.std.specs.List.{AllByRecursion}
use Rattle.line_text.specs.Lines.{IsLine, joined, lines_of, text_of}

-- a byte of a line joins what follows
joins : (test : Bool) (byte : ℕ) (lines : List (List ℕ)) → test ≡ false → cond test ([] ∷ lines) (joined byte lines) ≡ joined byte lines
joins test byte lines e = rw e refl

-- one line and its line feed
line_back : (line rest : List ℕ) → IsLine line → lines_of (line ++ 10 ∷ rest) ≡ line ∷ lines_of rest
unfolding lines_of
line_back [] rest is = refl
line_back (byte ∷ line) rest is =
    joins (byte == 10) byte _ (grind arith) ∙ ap (λ (lines : List (List ℕ)). joined byte lines) (line_back line rest is.1)

-- one line with no line feed
last_back : (last : List ℕ) → IsLine last → last ≢ [] → lines_of last ≡ last ∷ []
unfolding lines_of
last_back [] is some = absurd (some refl)
last_back (byte ∷ []) is some = joins (byte == 10) byte [] (grind arith)
last_back (byte ∷ next ∷ last) is some =
    joins (byte == 10) byte _ (grind arith) ∙ ap (λ (lines : List (List ℕ)). joined byte lines) (last_back (next ∷ last) is.1 (λ e. cc))

-- lines in front of a text
front_back : (lines : List (List ℕ)) (rest : List ℕ) → AllByRecursion IsLine lines → lines_of (text_of lines ++ rest) ≡ lines ++ lines_of rest
front_back [] rest all = refl
front_back (line ∷ lines) rest all =
    let e : text_of (line ∷ lines) ++ rest ≡ line ++ 10 ∷ (text_of lines ++ rest) = simp append_assoc in
    rw e (line_back line (text_of lines ++ rest) all.0 ∙ ap (λ (ls : List (List ℕ)). line ∷ ls) (front_back lines rest all.1))

pub ended_back : (lines : List (List ℕ)) → AllByRecursion IsLine lines → lines_of (text_of lines) ≡ lines
unfolding lines_of
ended_back lines all =
    ap lines_of (sym (append-nil (text_of lines))) ∙ front_back lines [] all ∙ append-nil lines

pub unended_back : (lines : List (List ℕ)) (last : List ℕ) → AllByRecursion IsLine lines → IsLine last → last ≢ [] → lines_of (text_of lines ++ last) ≡ lines
    ++ last ∷ []
unended_back lines last all is some =
    front_back lines last all ∙ ap (λ (ls : List (List ℕ)). lines ++ ls) (last_back last is some)
