-- Where the marks of an expression say that arguments are in place or not used, its tree says so.
use Rattle.std.proofs.Common.{◌≡◌, ℕ, Bool, true, false, not, List, Option, Some, None, refl, sym, ap, subst, ◌∙◌}
use Rattle.std.specs.Prelude.{◌&&◌, ◌||◌, max, option_map, is_some}
use Rattle.std.proofs.lemmas.Bool.{and_from, or_parts}
use Rattle.halide_pipeline.specs.declared.expressions.Expr.{Expr, out-Expr, out-roll-Expr}
use Rattle.halide_pipeline.specs.declared.expressions.Expr.TheOpen.{Expr-F}
use Rattle.halide_pipeline.specs.declared.expressions.Expr.TheOpen as layer
use Rattle.halide_pipeline.specs.declared.expressions.Expr.TheVariants.{rolls-Number, rolls-Variable, rolls-Binary, rolls-Divide, rolls-Remainder, rolls-Select}
use Rattle.halide_pipeline.specs.declared.expressions.Expr.TheVariants.{rolls-Call1, rolls-Call2}
use Rattle.halide_pipeline.specs.declared.expressions.Expr.TheVariants as trees
use Rattle.halide_pipeline.specs.declared.expressions.Operation.{Operation}
use Rattle.halide_pipeline.specs.declared.expressions.Operation.TheVariants as op
use Rattle.halide_pipeline.specs.declared.expressions.Source.{Source}
use Rattle.halide_pipeline.specs.declared.expressions.Source.TheVariants as sources
use Rattle.halide_pipeline.specs.declared.expressions.Variable.{Variable}
use Rattle.halide_pipeline.specs.declared.expressions.Variable.TheVariants as variables
use Rattle.halide_pipeline.specs.Expressions.{same_variable, is_variable, is_variable_at, uses, uses_at}
use Rattle.halide_pipeline.specs.WellFormed.{Placed, placed_at, calls_in_place, is_own_call, is_alone}
use Rattle.halide_pipeline.specs.WellFormed as limits
use Rattle.halide_pipeline.proofs.Trees.{at_number, at_variable, at_binary, at_divide, at_remainder, at_select, at_call1, at_call2}
use Rattle.halide_parser_syntax.specs.declared.tokens.ProductOperator.{ProductOperator}
use Rattle.halide_parser_syntax.specs.declared.tokens.ProductOperator.TheVariants as products
use Rattle.halide_parser_syntax.specs.declared.tokens.ThreeFunction.{ThreeFunction}
use Rattle.halide_parser_syntax.specs.declared.tokens.ThreeFunction.TheVariants as threes
use Rattle.halide_parser_syntax.specs.inner.Algebra.{made}
use Rattle.halide_parser_syntax.specs.Grammar.{Written, Literal, Bare, Group, Minus, Call, CallTwo, Two, Three, Product, Sum, Comparison}
use Rattle.halide_parser.specs.declared.judging.Judged.{Judged}
use Rattle.halide_parser.specs.declared.judging.Marks.{Marks}
use Rattle.halide_parser.specs.declared.readers.AlgorithmReader.{AlgorithmReader}
use Rattle.halide_parser.specs.declared.scopes.NameScope.{NameScope}
use Rattle.halide_parser.specs.inner.Judging as j
use Rattle.halide_parser.specs.inner.JudgedLines.{tree_or_zero}
use Rattle.halide_parser.specs.Expressions as asked
use Rattle.halide_parser.specs.Expressions.{source, variable}

-- Where an argument is in place it is not moved, and where it doesn't it is not used.
pub record Calm (first second : Bool) (marks : Marks) : Type 0 where
  pub uses_first : (not first && marks.uses_first) ≡ false
  pub uses_second : (not second && marks.uses_second) ≡ false
  pub moves_first : (first && marks.moves_first) ≡ false
  pub moves_second : (second && marks.moves_second) ≡ false

strict_parts : (s a b : Bool) → (s && (a || b)) ≡ false → ((s && a) ≡ false) × ((s && b) ≡ false)
strict_parts true a b e = or_parts a b e
strict_parts false a b e = (refl, refl)

pub strict_join : (s a b : Bool) → (s && a) ≡ false → (s && b) ≡ false → (s && (a || b)) ≡ false
strict_join true true b e f = cc
strict_join true false b e f = f
strict_join false a b e f = refl

pub calm_parts : (first second : Bool) (a b : Marks) → Calm first second (j.both_marks a b) → Calm first second a × Calm first second b
calm_parts first second a b calm =
    let uses_first = strict_parts (not first) a.uses_first b.uses_first calm.uses_first in
    let uses_second = strict_parts (not second) a.uses_second b.uses_second calm.uses_second in
    let moves_first = strict_parts first a.moves_first b.moves_first calm.moves_first in
    let moves_second = strict_parts second a.moves_second b.moves_second calm.moves_second in (
      record { uses_first = uses_first.0; uses_second = uses_second.0; moves_first = moves_first.0; moves_second = moves_second.0 },
      record { uses_first = uses_first.1; uses_second = uses_second.1; moves_first = moves_first.1; moves_second = moves_second.1 },
    )

-- a call whose index is moved only where it may be
index_stays : (stands own alone : Bool) → (stands && (own && not alone)) ≡ false → (not own || (not stands || alone)) ≡ true
index_stays stands false alone e = refl
index_stays false true alone e = refl
index_stays true true true e = refl
index_stays true true false e = cc

both_stay : (own x y : Bool) → (not own || x) ≡ true → (not own || y) ≡ true → (not own || (x && y)) ≡ true
both_stay false x y e f = refl
both_stay true true y e f = f
both_stay true false y e f = e

pub unused_none : (s : Bool) → (not s && false) ≡ false
unused_none true = refl
unused_none false = refl

-- ---- trees, opened

out_number : (n : ℕ) → out-Expr (trees.Number n) ≡ layer.Number n
out_number n = ap out-Expr (sym (rolls-Number n)) ∙ out-roll-Expr (layer.Number n)

out_variable : (v : Variable) → out-Expr (trees.Variable v) ≡ layer.Variable v
out_variable v = ap out-Expr (sym (rolls-Variable v)) ∙ out-roll-Expr (layer.Variable v)

out_binary : (operation : Operation) (a b : Expr) → out-Expr (trees.Binary operation a b) ≡ layer.Binary operation a b
out_binary operation a b = ap out-Expr (sym (rolls-Binary operation a b)) ∙ out-roll-Expr (layer.Binary operation a b)

out_divide : (a : Expr) (c : ℕ) → out-Expr (trees.Divide a c) ≡ layer.Divide a c
out_divide a c = ap out-Expr (sym (rolls-Divide a c)) ∙ out-roll-Expr (layer.Divide a c)

out_remainder : (a : Expr) (c : ℕ) → out-Expr (trees.Remainder a c) ≡ layer.Remainder a c
out_remainder a c = ap out-Expr (sym (rolls-Remainder a c)) ∙ out-roll-Expr (layer.Remainder a c)

out_select : (c a b : Expr) → out-Expr (trees.Select c a b) ≡ layer.Select c a b
out_select c a b = ap out-Expr (sym (rolls-Select c a b)) ∙ out-roll-Expr (layer.Select c a b)

out_call1 : (s : Source) (a : Expr) → out-Expr (trees.Call1 s a) ≡ layer.Call1 s a
out_call1 s a = ap out-Expr (sym (rolls-Call1 s a)) ∙ out-roll-Expr (layer.Call1 s a)

out_call2 : (s : Source) (a b : Expr) → out-Expr (trees.Call2 s a b) ≡ layer.Call2 s a b
out_call2 s a b = ap out-Expr (sym (rolls-Call2 s a b)) ∙ out-roll-Expr (layer.Call2 s a b)

module _ (place : ℕ) (first second : Bool) where
  abbrev step : Expr-F Placed → Placed
  step = placed_at place first second

  abbrev placed_of : Expr → Placed
  placed_of tree = calls_in_place place first second tree

  -- the arguments that don't stand in place are not used
  pub record IsUnused (tree : Expr) : Type 0 where
    pub in_first : (not first && uses variables.FirstArgument tree) ≡ false
    pub in_second : (not second && uses variables.SecondArgument tree) ≡ false

  unused_one : (tree a : Expr) → ((v : Variable) → uses v tree ≡ uses v a) → IsUnused a → IsUnused tree
  unused_one tree a e in_a = record {
    in_first = rw (e variables.FirstArgument) in_a.in_first;
    in_second = rw (e variables.SecondArgument) in_a.in_second;
  }

  unused_two : (tree a b : Expr) → ((v : Variable) → uses v tree ≡ (uses v a || uses v b)) → IsUnused a → IsUnused b → IsUnused tree
  unused_two tree a b e in_a in_b = record {
    in_first = rw (e variables.FirstArgument) (strict_join (not first) (uses variables.FirstArgument a) (uses variables.FirstArgument b) in_a.in_first
        in_b.in_first);
    in_second = rw (e variables.SecondArgument) (strict_join (not second) (uses variables.SecondArgument a) (uses variables.SecondArgument b) in_a.in_second
        in_b.in_second);
  }

  unused_three : (tree c a b : Expr) → ((v : Variable) → uses v tree ≡ ((uses v c || uses v a) || uses v b)) → IsUnused c → IsUnused a → IsUnused b
      → IsUnused tree
  unused_three tree c a b e in_c in_a in_b = record {
    in_first = rw (e variables.FirstArgument) (strict_join (not first) (uses variables.FirstArgument c || uses variables.FirstArgument a)
        (uses variables.FirstArgument b)
        (strict_join (not first) (uses variables.FirstArgument c) (uses variables.FirstArgument a) in_c.in_first in_a.in_first) in_b.in_first);
    in_second = rw (e variables.SecondArgument) (strict_join (not second) (uses variables.SecondArgument c || uses variables.SecondArgument a)
        (uses variables.SecondArgument b)
        (strict_join (not second) (uses variables.SecondArgument c) (uses variables.SecondArgument a) in_c.in_second in_a.in_second) in_b.in_second);
  }

  -- what is known of a tree, which is this variable alone
  pub record Stays (tree : Expr) (only : Option Variable) : Type 0 where
    pub alone : (placed_of tree).alone ≡ only
    pub stays : (placed_of tree).stays ≡ true
    pub unused : IsUnused tree
    pub variable : (v : Variable) → is_variable v tree ≡ is_alone v only

  abbrev pub StaysIn : Option Expr → Option Variable → Type 0
  StaysIn None alone = Unit {0}
  StaysIn (Some tree) alone = Stays tree alone

  stays_by : (tree : Expr) (alone : Option Variable) (l : Expr-F Expr) (p : Placed) → out-Expr tree ≡ l
      → ((v : Variable) → is_variable_at v l ≡ is_alone v alone) → placed_of tree ≡ p → p.alone ≡ alone → p.stays ≡ true → IsUnused tree → Stays tree alone
  stays_by tree alone l p out variable e is stays unused = record {
    alone = ap (λ (q : Placed). q.alone) e ∙ is;
    stays = ap (λ (q : Placed). q.stays) e ∙ stays;
    unused = unused;
    variable = λ v. ap (is_variable_at v) out ∙ variable v;
  }

  number_stays : (n : ℕ) → Stays (trees.Number n) None
  unfolding calls_in_place uses
  number_stays n = stays_by (trees.Number n) None (layer.Number n) (step (layer.Number n)) (out_number n) (λ v. refl) (at_number Placed step n) refl refl
      (record {
        in_first = rw (at_number Bool (uses_at variables.FirstArgument) n) (unused_none first);
        in_second = rw (at_number Bool (uses_at variables.SecondArgument) n) (unused_none second);
      })

  variable_stays : (v : Variable) → (not first && same_variable v variables.FirstArgument) ≡ false → (not second && same_variable v variables.SecondArgument)
      ≡ false → Stays (trees.Variable v) (Some v)
  unfolding calls_in_place uses
  variable_stays v no_first no_second = stays_by (trees.Variable v) (Some v) (layer.Variable v) (step (layer.Variable v)) (out_variable v) (λ own. refl)
      (at_variable Placed step v) refl refl (record {
        in_first = rw (at_variable Bool (uses_at variables.FirstArgument) v) no_first;
        in_second = rw (at_variable Bool (uses_at variables.SecondArgument) v) no_second;
      })

  bare_stays : (found : Option Variable) → (not first && is_alone variables.FirstArgument found) ≡ false
      → (not second && is_alone variables.SecondArgument found) ≡ false → StaysIn (option_map (λ v. trees.Variable v) found) found
  bare_stays None no_first no_second = tt
  bare_stays (Some v) no_first no_second = variable_stays v no_first no_second

  two_stay : (operation : Operation) (a b : Expr) (x y : Option Variable) → Stays a x → Stays b y → Stays (trees.Binary operation a b) None
  unfolding calls_in_place uses
  two_stay operation a b x y in_a in_b = stays_by (trees.Binary operation a b) None (layer.Binary operation a b)
      (step (layer.Binary operation (placed_of a) (placed_of b))) (out_binary operation a b) (λ v. refl) (at_binary Placed step operation a b) refl
      (and_from (placed_of a).stays (placed_of b).stays in_a.stays in_b.stays)
      (unused_two (trees.Binary operation a b) a b (λ v. at_binary Bool (uses_at v) operation a b) in_a.unused in_b.unused)

  binary_stays : (is_wanted : Bool) (operation : Operation) (a b : Option Expr) (x y : Option Variable) → StaysIn a x → StaysIn b y
      → StaysIn (j.binary_tree is_wanted operation a b) None
  binary_stays true operation (Some a) (Some b) x y in_a in_b = two_stay operation a b x y in_a in_b
  binary_stays false operation (Some a) (Some b) x y in_a in_b = tt
  binary_stays is_wanted operation None b x y in_a in_b = tt
  binary_stays is_wanted operation (Some a) None x y in_a in_b = tt

  kept_stays : (is_wanted : Bool) (tree : Option Expr) (alone : Option Variable) → StaysIn tree alone → StaysIn (j.kept is_wanted tree) alone
  kept_stays true tree alone kept = kept
  kept_stays false tree alone kept = tt

  three_stay : (c a b : Expr) (z x y : Option Variable) → Stays c z → Stays a x → Stays b y → Stays (trees.Select c a b) None
  unfolding calls_in_place uses
  three_stay c a b z x y in_c in_a in_b = stays_by (trees.Select c a b) None (layer.Select c a b)
      (step (layer.Select (placed_of c) (placed_of a) (placed_of b))) (out_select c a b) (λ v. refl) (at_select Placed step c a b) refl
      (and_from (placed_of c).stays ((placed_of a).stays && (placed_of b).stays) in_c.stays (and_from (placed_of a).stays (placed_of b).stays in_a.stays
      in_b.stays))
      (unused_three (trees.Select c a b) c a b (λ v. at_select Bool (uses_at v) c a b) in_c.unused in_a.unused in_b.unused)

  select_stays : (is_wanted : Bool) (c a b : Option Expr) (z x y : Option Variable) → StaysIn c z → StaysIn a x → StaysIn b y
      → StaysIn (j.select_tree c (j.pair is_wanted a b)) None
  select_stays true (Some c) (Some a) (Some b) z x y in_c in_a in_b = three_stay c a b z x y in_c in_a in_b
  select_stays false c (Some a) (Some b) z x y in_c in_a in_b = tt
  select_stays true None (Some a) (Some b) z x y in_c in_a in_b = tt
  select_stays is_wanted c None b z x y in_c in_a in_b = tt
  select_stays is_wanted c (Some a) None z x y in_c in_a in_b = tt

  quotient_stays : (a : Expr) (c : ℕ) (x : Option Variable) → Stays a x → Stays (trees.Divide a c) None
  unfolding calls_in_place uses
  quotient_stays a c x in_a = stays_by (trees.Divide a c) None (layer.Divide a c) (step (layer.Divide (placed_of a) c)) (out_divide a c) (λ v. refl)
      (at_divide Placed step a c) refl in_a.stays
      (unused_one (trees.Divide a c) a (λ v. at_divide Bool (uses_at v) a c) in_a.unused)

  remainder_stays : (a : Expr) (c : ℕ) (x : Option Variable) → Stays a x → Stays (trees.Remainder a c) None
  unfolding calls_in_place uses
  remainder_stays a c x in_a = stays_by (trees.Remainder a c) None (layer.Remainder a c) (step (layer.Remainder (placed_of a) c)) (out_remainder a c)
      (λ v. refl) (at_remainder Placed step a c) refl in_a.stays
      (unused_one (trees.Remainder a c) a (λ v. at_remainder Bool (uses_at v) a c) in_a.unused)

  division_stays : (is_wanted is_quotient : Bool) (a : Option Expr) (divisor : Option ℕ) (x : Option Variable) → StaysIn a x
      → StaysIn (j.division_tree is_wanted is_quotient a divisor) None
  division_stays true true (Some a) (Some c) x in_a = quotient_stays a c x in_a
  division_stays true false (Some a) (Some c) x in_a = remainder_stays a c x in_a
  division_stays false is_quotient (Some a) (Some c) x in_a = tt
  division_stays is_wanted is_quotient None divisor x in_a = tt
  division_stays is_wanted is_quotient (Some a) None x in_a = tt

  -- an index that is moved only where it may be, in a call of this source
  index_by : (stands : Bool) (v : Variable) (s : Source) (index : Expr) (alone : Option Variable) → (placed_of index).alone ≡ alone
      → (stands && (is_own_call place s && not (is_alone v alone))) ≡ false
      → (not (is_own_call place s) || (not stands || is_alone v (placed_of index).alone)) ≡ true
  index_by stands v s index alone e calm = rw e (index_stays stands (is_own_call place s) (is_alone v alone) calm)

  one_index : (s : Source) (a : Expr) (x : Option Variable) → Stays a x → (first && (is_own_call place s && not (is_alone variables.FirstArgument x))) ≡ false
      → Stays (trees.Call1 s a) None
  unfolding calls_in_place uses
  one_index s a x in_a moves = stays_by (trees.Call1 s a) None (layer.Call1 s a) (step (layer.Call1 s (placed_of a))) (out_call1 s a) (λ v. refl)
      (at_call1 Placed step s a) refl
      (and_from (placed_of a).stays (not (is_own_call place s) || (not first || is_alone variables.FirstArgument (placed_of a).alone)) in_a.stays
      (index_by first variables.FirstArgument s a x in_a.alone moves))
      (unused_one (trees.Call1 s a) a (λ v. at_call1 Bool (uses_at v) s a) in_a.unused)

  two_indexes : (s : Source) (a b : Expr) (x y : Option Variable) → Stays a x → Stays b y
      → (first && (is_own_call place s && not (is_alone variables.FirstArgument x))) ≡ false
      → (second && (is_own_call place s && not (is_alone variables.SecondArgument y))) ≡ false → Stays (trees.Call2 s a b) None
  unfolding calls_in_place uses
  two_indexes s a b x y in_a in_b moves_first moves_second = stays_by (trees.Call2 s a b) None (layer.Call2 s a b)
      (step (layer.Call2 s (placed_of a) (placed_of b))) (out_call2 s a b) (λ v. refl) (at_call2 Placed step s a b) refl
      (and_from ((placed_of a).stays && (placed_of b).stays) (not (is_own_call place s) || ((not first || is_alone variables.FirstArgument (placed_of a).alone)
      && (not second || is_alone variables.SecondArgument (placed_of b).alone)))
      (and_from (placed_of a).stays (placed_of b).stays in_a.stays in_b.stays)
      (both_stay (is_own_call place s) (not first || is_alone variables.FirstArgument (placed_of a).alone) (not second || is_alone variables.SecondArgument
      (placed_of b).alone)
      (index_by first variables.FirstArgument s a x in_a.alone moves_first) (index_by second variables.SecondArgument s b y in_b.alone moves_second)))
      (unused_two (trees.Call2 s a b) a b (λ v. at_call2 Bool (uses_at v) s a b) in_a.unused in_b.unused)

  call_stays : (is_wanted : Bool) (callee : Source × ℕ) (a : Option Expr) (x : Option Variable) → StaysIn a x
      → (first && (is_own_call place callee.0 && not (is_alone variables.FirstArgument x))) ≡ false → StaysIn (j.call_tree is_wanted (Some callee) a) None
  call_stays true callee (Some a) x in_a moves = one_index callee.0 a x in_a moves
  call_stays false callee (Some a) x in_a moves = tt
  call_stays is_wanted callee None x in_a moves = tt

  call_two_stays : (is_wanted : Bool) (callee : Source × ℕ) (a b : Option Expr) (x y : Option Variable) → StaysIn a x → StaysIn b y
      → (first && (is_own_call place callee.0 && not (is_alone variables.FirstArgument x))) ≡ false
      → (second && (is_own_call place callee.0 && not (is_alone variables.SecondArgument y))) ≡ false
      → StaysIn (j.call_two_tree is_wanted (Some callee) a b) None
  call_two_stays true callee (Some a) (Some b) x y in_a in_b moves_first moves_second = two_indexes callee.0 a b x y in_a in_b moves_first moves_second
  call_two_stays false callee (Some a) (Some b) x y in_a in_b moves_first moves_second = tt
  call_two_stays is_wanted callee None b x y in_a in_b moves_first moves_second = tt
  call_two_stays is_wanted callee (Some a) None x y in_a in_b moves_first moves_second = tt

-- a tree that is there
pub stays_there : (place : ℕ) (first second : Bool) (tree : Option Expr) (alone : Option Variable) → is_some tree ≡ true → StaysIn place first second tree alone
    → Stays place first second (tree_or_zero tree) alone
stays_there place first second None alone some stays = cc
stays_there place first second (Some tree) alone some stays = stays

own_place : (own : Option ℕ) (place : ℕ) (s : Source) → own ≡ Some place → asked.is_own_place own s ≡ is_own_call place s
own_place own place (sources.Func other) e = rw e refl
own_place own place (sources.Input other) e = rw e refl

module _ (place : ℕ) (first second : Bool) (reader : AlgorithmReader) (scope : NameScope) (own : scope.own ≡ Some place) where
  abbrev pub IsPlaced : Judged → Type 0
  IsPlaced judged = Calm first second judged.marks → StaysIn place first second judged.tree judged.alone

  binary_placed : (operation : Operation) (a b : Judged) → IsPlaced a → IsPlaced b → IsPlaced (j.binary operation a b)
  unfolding j.binary
  binary_placed operation a b in_a in_b calm =
      let parts = calm_parts first second a.marks b.marks calm in
      binary_stays place first second (limits.fits (j.node_sum 1 (j.node_sum a.nodes b.nodes)) (max a.nesting b.nesting)) operation a.tree b.tree a.alone
      b.alone (in_a parts.0) (in_b parts.1)

  enclosed_placed : (a : Judged) → IsPlaced a → IsPlaced (j.enclosed a)
  unfolding j.enclosed
  enclosed_placed a in_a calm = kept_stays place first second (limits.fits a.nodes (j.deeper a.nesting)) a.tree a.alone (in_a calm)

  literal_placed : (n : ℕ) → IsPlaced (j.literal n)
  literal_placed n calm = number_stays place first second n

  bare_placed : (name : List ℕ) → IsPlaced (j.bare reader scope name)
  bare_placed name calm = bare_stays place first second (variable scope name) calm.uses_first calm.uses_second

  divided_placed : (is_quotient : Bool) (a b : Judged) → IsPlaced a → IsPlaced (j.divided is_quotient a b)
  unfolding j.divided
  divided_placed is_quotient a b in_a calm =
      let parts = calm_parts first second (j.both_marks a.marks b.marks) (j.divisor_marks (j.divisor b.literal)) calm in
      let operands = calm_parts first second a.marks b.marks parts.0 in
      division_stays place first second (limits.fits (j.node_sum 1 (j.node_sum a.nodes b.nodes)) (max a.nesting b.nesting)) is_quotient a.tree
      (j.divisor b.literal) a.alone (in_a operands.0)

  select_placed : (c a b : Judged) → IsPlaced c → IsPlaced a → IsPlaced b → IsPlaced (j.select c a b)
  unfolding j.select
  select_placed c a b in_c in_a in_b calm =
      let parts = calm_parts first second c.marks (j.both_marks a.marks b.marks) calm in
      let arms = calm_parts first second a.marks b.marks parts.1 in
      select_stays place first second (limits.fits (j.node_sum 1 (j.node_sum c.nodes (j.node_sum a.nodes b.nodes)))
      (j.deeper (max c.nesting (max a.nesting b.nesting)))) c.tree a.tree b.tree c.alone a.alone b.alone (in_c parts.0) (in_a arms.0) (in_b arms.1)

  -- whether a callee is the Func itself
  own_is : (callee : Source × ℕ) → asked.is_own scope (Some callee) ≡ is_own_call place callee.0
  own_is callee = own_place scope.own place callee.0 own

  call_by : (callee : Option (Source × ℕ)) (a : Judged) → IsPlaced a → IsPlaced (j.call_as scope callee a)
  call_by None a in_a calm = tt
  call_by (Some callee) a in_a calm =
      let parts = calm_parts first second a.marks (j.callee_marks (Some callee) 1 (j.own_marks (asked.is_own scope (Some callee)) a.alone None)) calm in
      call_stays place first second (limits.fits (j.node_sum 1 a.nodes) (j.deeper a.nesting)) callee a.tree a.alone (in_a parts.0)
      (subst (λ (is : Bool). (first && (is && not (is_alone variables.FirstArgument a.alone))) ≡ false) (own_is callee) parts.1.moves_first)

  call_placed : (name : List ℕ) (a : Judged) → IsPlaced a → IsPlaced (j.call reader scope name a)
  unfolding j.call
  call_placed name a in_a = call_by (source reader name) a in_a

  call_two_by : (callee : Option (Source × ℕ)) (a b : Judged) → IsPlaced a → IsPlaced b → IsPlaced (j.call_two_as scope callee a b)
  call_two_by None a b in_a in_b calm = tt
  call_two_by (Some callee) a b in_a in_b calm =
      let parts = calm_parts first second (j.both_marks a.marks b.marks) (j.callee_marks (Some callee) 2 (j.own_marks (asked.is_own scope (Some callee)) a.alone
      b.alone)) calm in
      let indexes = calm_parts first second a.marks b.marks parts.0 in
      call_two_stays place first second (limits.fits (j.node_sum 1 (j.node_sum a.nodes b.nodes)) (j.deeper (max a.nesting b.nesting))) callee a.tree b.tree
      a.alone b.alone (in_a indexes.0) (in_b indexes.1)
      (subst (λ (is : Bool). (first && (is && not (is_alone variables.FirstArgument a.alone))) ≡ false) (own_is callee) parts.1.moves_first)
      (subst (λ (is : Bool). (second && (is && not (is_alone variables.SecondArgument b.alone))) ≡ false) (own_is callee) parts.1.moves_second)

  call_two_placed : (name : List ℕ) (a b : Judged) → IsPlaced a → IsPlaced b → IsPlaced (j.call_two reader scope name a b)
  unfolding j.call_two
  call_two_placed name a b in_a in_b = call_two_by (source reader name) a b in_a in_b

  three_placed : (f : ThreeFunction) (a b c : Judged) → IsPlaced a → IsPlaced b → IsPlaced c → IsPlaced (j.three f a b c)
  three_placed threes.Clamp a b c in_a in_b in_c =
      enclosed_placed (j.binary op.Minimum (j.binary op.Maximum a b) c) (binary_placed op.Minimum (j.binary op.Maximum a b) c (binary_placed op.Maximum a b in_a
      in_b) in_c)
  three_placed threes.Select a b c in_a in_b in_c = select_placed a b c in_a in_b in_c

  product_placed : (operator : ProductOperator) (a b : Judged) → IsPlaced a → IsPlaced b → IsPlaced (j.product operator a b)
  product_placed products.Multiply a b in_a in_b = binary_placed op.Multiply a b in_a in_b
  product_placed products.Divide a b in_a in_b = divided_placed true a b in_a
  product_placed products.Remainder a b in_a in_b = divided_placed false a b in_a

  abbrev judge : Written → Judged
  judge = made (j.judging reader scope)

  pub placed : (w : Written) → IsPlaced (judge w)
  placed (Literal n) = literal_placed n
  placed (Bare name) = bare_placed name
  placed (Group a) = enclosed_placed (judge a) (placed a)
  placed (Minus a) = enclosed_placed (j.binary op.Subtract (j.literal 0) (judge a)) (binary_placed op.Subtract (j.literal 0) (judge a) (literal_placed 0)
      (placed a))
  placed (Call name a) = call_placed name (judge a) (placed a)
  placed (CallTwo name a b) = call_two_placed name (judge a) (judge b) (placed a) (placed b)
  placed (Two f a b) = enclosed_placed (j.binary (asked.two_operation f) (judge a) (judge b)) (binary_placed (asked.two_operation f) (judge a) (judge b)
      (placed a) (placed b))
  placed (Three f a b c) = three_placed f (judge a) (judge b) (judge c) (placed a) (placed b) (placed c)
  placed (Product operator a b) = product_placed operator (judge a) (judge b) (placed a) (placed b)
  placed (Sum operator a b) = binary_placed (asked.sum_operation operator) (judge a) (judge b) (placed a) (placed b)
  placed (Comparison operator a b) = binary_placed (asked.comparison_operation operator) (judge a) (judge b) (placed a) (placed b)
