-- A comment after a line leaves its tokens.
use Rattle.std.proofs.Common.{◌≡◌, ◌∙◌, ◌⊎◌, ℕ, zero, suc, ◌+◌, ◌==◌, Bool, true, false, List, [], ◌∷◌, ◌++◌, length, take, drop, refl, sym, ap, ap₂}
use Rattle.std.proofs.Common.{inl, inr, arith, length-append}
use Rattle.std.specs.Prelude.{if◌then◌else◌}
use Rattle.std.specs.List.{prefix_len}
use Rattle.line_text.specs.Lines.{ends, is_blank, is_digit, skip_blanks}
use Rattle.assembler_syntax.specs.declared.tokens.AssemblyToken.{AssemblyToken}
use Rattle.assembler_syntax.specs.declared.tokens.AssemblyToken.TheVariants as t
use Rattle.assembler_syntax.specs.Tokens.{begins_word, continues_word, front_token, mark, negative_token, number_token, span, tokens_from, tokens_of}
use Rattle.disassembler.proofs.Tokens.{Reads}

-- a blank and a comment
abbrev pub behind : List ℕ → List ℕ
behind comment = 32 ∷ 35 ∷ comment

-- ---- what is skipped, and what a word spans

module _ (comment : List ℕ) where
  -- what is left of a line after its blanks: the comment alone, or what was left of it and the comment
  abbrev Skipped : List ℕ → Type 0
  Skipped line = ((skip_blanks line ≡ []) × (skip_blanks (line ++ behind comment) ≡ 35 ∷ comment))
      ⊎ ((byte : ℕ) × (rest : List ℕ) × (skip_blanks line ≡ byte ∷ rest) × (skip_blanks (line ++ behind comment) ≡ byte ∷ (rest ++ behind comment)))

  blank_skipped : (byte : ℕ) (rest : List ℕ) → is_blank byte ≡ true → skip_blanks (byte ∷ rest) ≡ skip_blanks rest
  blank_skipped byte rest is =
      let one : 1 + prefix_len is_blank rest ≡ suc (prefix_len is_blank rest) = omega arith in
      rw (is, one) refl

  nothing_skipped : (byte : ℕ) (rest : List ℕ) → is_blank byte ≡ false → skip_blanks (byte ∷ rest) ≡ byte ∷ rest
  nothing_skipped byte rest isnt = rw (isnt) refl

  skipped : (line : List ℕ) → Skipped line
  skipped [] = inl (refl, refl)
  skipped (byte ∷ line) = go (is_blank byte) refl (skipped line)
    where
      go : (b : Bool) → is_blank byte ≡ b → Skipped line → Skipped (byte ∷ line)
      go true is (inl none) = inl (blank_skipped byte line is ∙ none.0, blank_skipped byte (line ++ behind comment) is ∙ none.1)
      go true is (inr some) =
          inr (some.0, some.1, blank_skipped byte line is ∙ some.2, blank_skipped byte (line ++ behind comment) is ∙ some.3)
      go false isnt rest = inr (byte, line, nothing_skipped byte line isnt, nothing_skipped byte (line ++ behind comment) isnt)

  -- a word doesn't reach into the comment
  record Spans (line : List ℕ) : Type 0 where
    count : span (line ++ behind comment) ≡ span line
    front : take (span line) (line ++ behind comment) ≡ take (span line) line
    others : drop (span line) (line ++ behind comment) ≡ drop (span line) line ++ behind comment

  spans : (line : List ℕ) → Spans line
  spans [] = record { count = refl; front = refl; others = refl }
  spans (byte ∷ line) = go (continues_word byte) refl (spans line)
    where
      one : 1 + span line ≡ suc (span line)
      one = omega arith

      go : (b : Bool) → continues_word byte ≡ b → Spans line → Spans (byte ∷ line)
      go true is more = record {
        count = rw (is) (ap (λ n. 1 + n) more.count);
        front = rw (is, one) (ap (λ bytes. byte ∷ bytes) more.front);
        others = rw (is, one) more.others;
      }
      go false isnt more = record { count = rw (isnt) refl; front = rw (isnt) refl; others = rw (isnt) refl }

  taken : (line : List ℕ) → take (span (line ++ behind comment)) (line ++ behind comment) ≡ take (span line) line
  taken line = let s = spans line in ap (λ n. take n (line ++ behind comment)) s.count ∙ s.front

  left_over : (line : List ℕ) → drop (span (line ++ behind comment)) (line ++ behind comment) ≡ drop (span line) line ++ behind comment
  left_over line = let s = spans line in ap (λ n. drop n (line ++ behind comment)) s.count ∙ s.others

  -- ---- tokens

  -- the token at the front, by the class of the first byte
  abbrev front_by : Bool → Bool → Bool → ℕ → List ℕ → AssemblyToken × List ℕ
  front_by begins digit minus byte rest =
      if begins then (t.Word (take (span (byte ∷ rest)) (byte ∷ rest)), drop (span (byte ∷ rest)) (byte ∷ rest))
      else if digit then (number_token (take (span (byte ∷ rest)) (byte ∷ rest)), drop (span (byte ∷ rest)) (byte ∷ rest))
      else if minus then (negative_token (take (span rest) rest), drop (span rest) rest)
      else (mark byte, rest)

  abbrev followed : AssemblyToken × List ℕ → AssemblyToken × List ℕ
  followed front = (front.0, front.1 ++ behind comment)

  front_kept_by : (begins digit minus : Bool) (byte : ℕ) (rest : List ℕ)
      → front_by begins digit minus byte (rest ++ behind comment) ≡ followed (front_by begins digit minus byte rest)
  front_kept_by true digit minus byte rest =
      ap₂ (λ (bytes others : List ℕ). let pair : AssemblyToken × List ℕ = (t.Word bytes, others) in pair) (taken (byte ∷ rest)) (left_over (byte ∷ rest))
  front_kept_by false true minus byte rest =
      ap₂ (λ (bytes others : List ℕ). let pair : AssemblyToken × List ℕ = (number_token bytes, others) in pair) (taken (byte ∷ rest)) (left_over (byte ∷ rest))
  front_kept_by false false true byte rest =
      ap₂ (λ (bytes others : List ℕ). let pair : AssemblyToken × List ℕ = (negative_token bytes, others) in pair) (taken rest) (left_over rest)
  front_kept_by false false false byte rest = refl

  front_kept : (byte : ℕ) (rest : List ℕ) → front_token (byte ∷ (rest ++ behind comment)) ≡ followed (front_token (byte ∷ rest))
  unfolding front_token
  front_kept byte rest = front_kept_by (begins_word byte) (is_digit byte) (byte == 45) byte rest

  -- the tokens of bytes that begin with no blank
  abbrev tokens_at : ℕ → List ℕ → List AssemblyToken
  tokens_at n bytes = if ends bytes then [] else (front_token bytes).0 ∷ tokens_from n (front_token bytes).1

  -- one more token is the same, where those after it are
  one_token : (n : ℕ) (line : List ℕ) → ((rest : List ℕ) → tokens_from n (rest ++ behind comment) ≡ tokens_from n rest) → Skipped line
      → tokens_at n (skip_blanks (line ++ behind comment)) ≡ tokens_at n (skip_blanks line)
  one_token n line more (inl none) = ap (tokens_at n) none.1 ∙ sym (ap (tokens_at n) none.0)
  one_token n line more (inr some) = ap (tokens_at n) some.3 ∙ by_end (some.0 == 35) ∙ sym (ap (tokens_at n) some.2)
    where
      kept : front_token (some.0 ∷ (some.1 ++ behind comment)) ≡ followed (front_token (some.0 ∷ some.1))
      kept = front_kept some.0 some.1

      by_end : (b : Bool) → (if b then [] else (front_token (some.0 ∷ (some.1 ++ behind comment))).0
          ∷ tokens_from n (front_token (some.0 ∷ (some.1 ++ behind comment))).1)
          ≡ (if b then [] else (front_token (some.0 ∷ some.1)).0 ∷ tokens_from n (front_token (some.0 ∷ some.1)).1)
      by_end true = refl
      by_end false =
          ap (λ (front : AssemblyToken × List ℕ). front.0 ∷ tokens_from n front.1) kept
          ∙ ap (λ tokens. (front_token (some.0 ∷ some.1)).0 ∷ tokens) (more (front_token (some.0 ∷ some.1)).1)

  pub same_tokens : (n : ℕ) (line : List ℕ) → tokens_from n (line ++ behind comment) ≡ tokens_from n line
  unfolding tokens_from
  same_tokens zero line = refl
  same_tokens (suc n) line = one_token n line (λ rest. same_tokens n rest) (skipped line)

-- a line that has tokens has the same with a comment after it
pub commented : (line comment : List ℕ) (tokens : List AssemblyToken) → Reads line tokens → tokens_of (line ++ behind comment) ≡ tokens
unfolding tokens_of
commented line comment tokens reads =
    same_tokens comment (suc (length (line ++ behind comment))) line
    ∙ reads (suc (length (line ++ behind comment))) (omega (arith, length-append line (behind comment)))
