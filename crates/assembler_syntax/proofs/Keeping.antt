-- Operands one after the other, as a loop takes them, of which no more than the most are kept.
use Rattle.std.proofs.Common.{◌≡◌, ℕ, ◌+◌, ◌-◌, ◌<◌, ◌≤◌, ◌==◌, true, false, List, [], ◌∷◌, ◌++◌, length, take, Option, Some, None, refl, sym, ap, ◌∙◌, arith}
use Rattle.std.proofs.Common.{append_assoc, option_map}
use Rattle.std.proofs.lemmas.List.{take_all, take-append-le, length-take, length-append}
use Rattle.std.proofs.lemmas.Bool.{eqb-true}
use Rattle.std.proofs.Math.Seq.{take-nil}
use Rattle.assembler_syntax.specs.declared.tokens.AssemblyToken.{AssemblyToken}
use Rattle.assembler_syntax.specs.declared.statements.Operand.{Operand}
use Rattle.assembler_syntax.specs.Statements.{pieces_of, with_first, all_operands, operands_of}
use Rattle.assembler_syntax.specs.inner.Fronts.{operand_front}
use Rattle.assembler_syntax.proofs.OperandFronts.{front_says, continues}

-- ---- one operand more

-- fewer than the most are kept
pub one_kept : (most : ℕ) (old new front : List Operand) (operand : Operand) → length old < most → new ≡ old ++ operand ∷ [] → old ≡ take most front
    → new ≡ take most (front ++ operand ∷ [])
one_kept most old new front operand few is kept =
    let short : length front < most = omega (arith, few, ap length kept, length-take most front) in
    let all : take most front ≡ front = take_all most front (omega (arith, short)) in
    rw (is, kept, all) (sym (take_all most (front ++ operand ∷ []) (rw length-append (omega (arith, short)))))

-- the most are kept
pub none_kept : (most : ℕ) (old front : List Operand) (operand : Operand) → most ≤ length old → old ≡ take most front → old ≡ take most (front ++ operand ∷ [])
none_kept most old front operand full kept =
    kept ∙ sym (take-append-le most front (operand ∷ []) (omega (arith, full, ap length kept, length-take most front)))

-- ---- the loop

-- operands taken before, and what the others make
abbrev pub behind : List Operand → Option (List Operand) → Option (List Operand)
behind front None = None
behind front (Some operands) = Some (front ++ operands)

-- These operands are kept of those that were taken, and what is left gives the others.
pub record Taken (most : ℕ) (tokens : List AssemblyToken) (kept : List Operand) (rest : List AssemblyToken) : Type 0 where
  pub front : List Operand
  pub total : behind front (all_operands (pieces_of rest)) ≡ operands_of tokens
  pub kept_is : kept ≡ take most front

-- no tokens, no operands
pub no_operands : (most : ℕ) (tokens : List AssemblyToken) (operands : List Operand) → (length tokens == 0) ≡ true → operands ≡ []
    → Some operands ≡ option_map (take most) (operands_of tokens)
unfolding operands_of
no_operands most [] operands is empty = ap (λ (os : List Operand). Some os) (empty ∙ sym (take-nil most))
no_operands most (token ∷ tokens) operands is empty = absurd (omega (arith, eqb-true (length (token ∷ tokens)) 0 is))

nothing_before : (given : Option (List Operand)) → behind [] given ≡ given
nothing_before None = refl
nothing_before (Some operands) = refl

pub first_starts : (most : ℕ) (tokens : List AssemblyToken) (operands : List Operand) → (length tokens == 0) ≡ false → operands ≡ [] → Taken most tokens operands tokens
unfolding operands_of
first_starts most [] operands is empty = absurd cc
first_starts most (token ∷ tokens) operands is empty = record {
  front = [];
  total = nothing_before (all_operands (pieces_of (token ∷ tokens)));
  kept_is = empty ∙ sym (take-nil most);
}

one_more : (front : List Operand) (operand : Operand) (given : Option (List Operand)) → behind front (with_first (Some operand) given)
    ≡ behind (front ++ operand ∷ []) given
one_more front operand None = refl
one_more front operand (Some operands) = ap (λ (os : List Operand). Some os) (simp append_assoc)

-- an operand with a comma after it
pub goes_on : (most : ℕ) (tokens rest more : List AssemblyToken) (old new : List Operand) (operand : Operand)
    → Some (operand, Some more) ≡ operand_front rest
    → ((front : List Operand) → old ≡ take most front → new ≡ take most (front ++ operand ∷ [])) → Taken most tokens old rest → Taken most tokens new more
goes_on most tokens rest more old new operand is keeps taken = record {
  front = taken.front ++ operand ∷ [];
  total = sym (one_more taken.front operand (all_operands (pieces_of more))) ∙ ap (λ found. behind taken.front (continues found)) is
      ∙ sym (ap (behind taken.front) (front_says rest)) ∙ taken.total;
  kept_is = keeps taken.front taken.kept_is;
}

-- the last operand
pub stops : (most : ℕ) (tokens rest : List AssemblyToken) (old new : List Operand) (operand : Operand) → Some (operand, None) ≡ operand_front rest
    → ((front : List Operand) → old ≡ take most front → new ≡ take most (front ++ operand ∷ [])) → Taken most tokens old rest
    → Some new ≡ option_map (take most) (operands_of tokens)
stops most tokens rest old new operand is keeps taken =
    let total : Some (taken.front ++ operand ∷ []) ≡ operands_of tokens =
    ap (λ found. behind taken.front (continues found)) is ∙ sym (ap (behind taken.front) (front_says rest)) ∙ taken.total in
    ap (λ (os : List Operand). Some os) (keeps taken.front taken.kept_is) ∙ ap (option_map (take most)) total

-- no operand
pub fails : (most : ℕ) (tokens rest : List AssemblyToken) (old : List Operand) → None ≡ operand_front rest → Taken most tokens old rest
    → None ≡ option_map (take most) (operands_of tokens)
fails most tokens rest old is taken =
    let total : None ≡ operands_of tokens =
    ap (λ found. behind taken.front (continues found)) is ∙ sym (ap (behind taken.front) (front_says rest)) ∙ taken.total in
    ap (option_map (take most)) total
