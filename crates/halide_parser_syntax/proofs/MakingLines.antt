-- What an algebra makes of a line that is read: the line itself, and then the algebra.
use Rattle.std.proofs.Common.{◌≡◌, ℕ, List, [], ◌∷◌, Result, Ok, Err, Option, Some, None, refl, ap, ◌∙◌}
use Rattle.line_text.specs.Lines.{◌>>=◌}
use Rattle.halide_parser_syntax.specs.declared.faults.ParseFault.{ParseFault}
use Rattle.halide_parser_syntax.specs.declared.tokens.Token.{Token}
use Rattle.halide_parser_syntax.specs.declared.tokens.Token.TheVariants as t
use Rattle.halide_parser_syntax.specs.declared.lines.AlgorithmLine.{AlgorithmLine}
use Rattle.halide_parser_syntax.specs.declared.lines.AlgorithmLine.TheVariants as line
use Rattle.halide_parser_syntax.specs.inner.Algebra.{Algebra, writing, made}
use Rattle.halide_parser_syntax.specs.Grammar.{Written}
use Rattle.halide_parser_syntax.specs.inner.Algebra.{made_line, made_index}
use Rattle.halide_parser_syntax.specs.inner.LineReading as r
use Rattle.halide_parser_syntax.specs.inner.Machine as m
use Rattle.halide_parser_syntax.proofs.Making.{expression}

-- a step that makes a value, and then equal steps
follow : {A B C D : Type 0} (given : Result A ParseFault) (make : A → B) (f : B → Result C ParseFault) (g : A → Result D ParseFault) (k : D
    → Result C ParseFault)
    → ((x : A) → f (make x) ≡ (g x >>= k)) → ((given >>= λ x. Ok (make x)) >>= f) ≡ ((given >>= g) >>= k)
follow (Ok x) make f g k e = e x
follow (Err fault) make f g k e = refl

-- the same step, and then equal steps
same : {A C D : Type 0} (given : Result A ParseFault) (f : A → Result C ParseFault) (g : A → Result D ParseFault) (k : D → Result C ParseFault)
    → ((x : A) → f x ≡ (g x >>= k)) → (given >>= f) ≡ ((given >>= g) >>= k)
same (Ok x) f g k e = e x
same (Err fault) f g k e = refl

module _ {V : Type 0} (alg : Algebra V) where
  abbrev read_of : Written × List Token → V × List Token
  read_of x = (made alg x.0, x.1)

  abbrev index_of : Option Written × List Token → Option V × List Token
  index_of x = (made_index alg x.0, x.1)

  abbrev line_of : AlgorithmLine Written → Result (AlgorithmLine V) ParseFault
  line_of w = Ok (made_line alg w)

  found : (given : Option (Written × List Token)) → r.or_syntax (Rattle.std.specs.Prelude.option_map read_of given)
      ≡ (r.or_syntax given >>= λ x. Ok (read_of x))
  found None = refl
  found (Some x) = refl

  read : (ts : List Token) → r.read alg ts ≡ (r.read writing ts >>= λ x. Ok (read_of x))
  unfolding r.read
  read ts = ap r.or_syntax (expression alg ts) ∙ found (m.expression writing ts)

  index : (ts : List Token) → r.index alg ts ≡ (r.index writing ts >>= λ x. Ok (index_of x))
  unfolding r.index
  index [] = refl
  index (t.Comma ∷ rest) =
      ap (λ (given : Result (V × List Token) ParseFault). given >>= λ x. Ok (Some x.0, x.1)) (read rest)
      ∙ follow (r.read writing rest) read_of (λ x. Ok (Some x.0, x.1)) (λ x. Ok (Some x.0, x.1)) (λ x. Ok (index_of x)) (λ x. refl)
  index (_ ∷ rest) = refl

  left : (w : AlgorithmLine Written) (rest : List Token) → r.nothing_left (made_line alg w) rest ≡ (r.nothing_left w rest >>= line_of)
  left w [] = refl
  left w (_ ∷ rest) = refl

  definition : (name : List ℕ) (ts : List Token) → r.definition alg name ts ≡ (r.definition writing name ts >>= line_of)
  unfolding r.definition
  definition name ts = same (r.arguments ts) _ _ line_of (λ named.
      ap (λ (given : Result (V × List Token) ParseFault). given >>= λ right. r.nothing_left (line.Func (record {
        name = name;
        first_argument =
            named.0.0;
        second_argument = named.0.1;
        right = right.0;
      })) right.1) (read named.1)
      ∙ follow (r.read writing named.1) read_of _ _ line_of (λ right. left (line.Func (record {
        name = name;
        first_argument = named.0.0;
        second_argument =
            named.0.1;
        right = right.0;
      })) right.1))

  -- after the indexes on the left
  righted : (name : List ℕ) (x : Written) (y : Option Written) (ts : List Token)
      → (r.assigned ts >>= λ behind. r.read alg behind >>= λ right. r.over right.1 >>= λ ranges. r.bounds ranges >>= λ first. r.more_bounds first.1 >>=
      λ second.
      Ok (line.Update (record { name = name; left_x = made alg x; left_y = made_index alg y; right = right.0; first = first.0; second = second })))
      ≡ ((r.assigned ts >>= λ behind. r.read writing behind >>= λ right. r.over right.1 >>= λ ranges. r.bounds ranges >>= λ first. r.more_bounds first.1 >>=
      λ second.
      Ok (line.Update (record { name = name; left_x = x; left_y = y; right = right.0; first = first.0; second = second }))) >>= line_of)
  righted name x y ts = same (r.assigned ts) _ _ line_of (λ behind.
      ap (λ (given : Result (V × List Token) ParseFault). given >>= λ right. r.over right.1 >>= λ ranges. r.bounds ranges >>= λ first. r.more_bounds first.1 >>=
      λ second.
      Ok (line.Update (record { name = name; left_x = made alg x; left_y = made_index alg y; right = right.0; first = first.0; second = second })))
      (read behind)
      ∙ follow (r.read writing behind) read_of _ _ line_of (λ right.
      same (r.over right.1) _ _ line_of (λ ranges. same (r.bounds ranges) _ _ line_of (λ first. same (r.more_bounds first.1) _ _ line_of (λ second. refl)))))

  change : (name : List ℕ) (ts : List Token) → r.change alg name ts ≡ (r.change writing name ts >>= line_of)
  unfolding r.change
  change name ts =
      ap (λ (given : Result (V × List Token) ParseFault). given >>= λ x. r.index alg x.1 >>= λ y. r.assigned y.1 >>= λ behind. r.read alg behind >>= λ right.
      r.over right.1 >>= λ ranges. r.bounds ranges >>= λ first. r.more_bounds first.1 >>= λ second.
      Ok (line.Update (record { name = name; left_x = x.0; left_y = y.0; right = right.0; first = first.0; second = second }))) (read ts)
      ∙ follow (r.read writing ts) read_of _ _ line_of (λ x.
      ap (λ (given : Result (Option V × List Token) ParseFault). given >>= λ y. r.assigned y.1 >>= λ behind. r.read alg behind >>= λ right. r.over right.1 >>=
      λ ranges. r.bounds ranges >>= λ first. r.more_bounds first.1 >>= λ second.
      Ok (line.Update (record { name = name; left_x = made alg x.0; left_y = y.0; right = right.0; first = first.0; second = second }))) (index x.1)
      ∙ follow (r.index writing x.1) index_of _ _ line_of (λ y. righted name x.0 y.0 y.1))

  pub read_line : (ts : List Token) → r.read_line alg ts ≡ (r.read_line writing ts >>= line_of)
  unfolding r.read_line
  read_line [] = refl
  read_line (t.Input ∷ rest) = same (r.extents rest) _ _ line_of (λ e. same (r.kind e.1) _ _ line_of (λ is_bytes. refl))
  read_line (t.Output ∷ rest) = same (r.extents rest) _ _ line_of (λ e. left (line.Output e.0) e.1)
  read_line (t.Func ∷ t.Name name ∷ t.Open ∷ rest) = definition name rest
  read_line (t.Update ∷ t.Name name ∷ t.Open ∷ rest) = change name rest
  read_line (_ ∷ rest) = refl
